-- Calls on a serializing challenger, read off the groups of its inner challenger.
use Rattle.std.proofs.Common.{◌≡◌, ℕ, zero, suc, ◌%◌, ◌^◌, Bool, true, false, List, [], ◌∷◌, ◌++◌, length, take, drop}
use Rattle.std.proofs.Common.{replicate, nat_lt, Option, Some, None, IsSome, is_some, option_and_then, if◌then◌else◌}
use Rattle.p3_field_core.specs.{Residues.Residues, Coefficients.element_of_one}
use Rattle.p3_grinding.specs.Candidates.{after_refused, first_accepted, after_first_accepted}
use Rattle.p3_grinding.specs.UniformDraws.{never_rejects}
use Rattle.p3_serializing.specs.SerializingState.{SerializingState, bits_of_order, group, low_bits_of_group}
use Rattle.p3_serializing.specs.SerializingState.{byte_dropped, element_observed, element_drawn, bits_drawn}
use Rattle.p3_serializing.specs.SerializingGroups.{SerializingCall, observe, draw, draw_bits, draw_uniform, drop_byte}
use Rattle.p3_serializing.specs.SerializingGroups.{CallByCall, by_calls, AreRead, ByteCall, read, Reads}
use Rattle.p3_serializing.specs.SerializingGroups.{taken, first_element, answers_off}
use Rattle.std.{proofs.Common.{refl, sym, ap, ◌∙◌, subst}, specs.Option.option_map}
use Rattle.p3_challenger_core.specs.{Observation.{Observation, observed_all}, Sampling.{Sampling, draws, after_draws}}
use Rattle.p3_serializing.specs.{SerializingState.space_element_drawn, SerializingGroups.{element, bits}}
use Rattle.p3_serializing.specs.{SerializingGroups.{answers_by_calls, after_calls}, SerializingGroups.byte_calls}

-- ---- a draw of the field is one base draw

one_of : {F : Type 0} (zero_element : F) (o : Option F)
    → option_map (element_of_one zero_element) (option_and_then (λ x. option_map (λ xs. x ∷ xs) (Some [])) o) ≡ o
one_of zero_element None = refl
one_of zero_element (Some x) = refl

same_either : {S : Type 0} (b : Bool) (s : S) → (if b then s else s) ≡ s
same_either true s = refl
same_either false s = refl

module _ {S F : Type 0} (d : Sampling S F) (zero_element : F) (s : S) where
  pub single-sampled : option_map (element_of_one zero_element) (draws d 1 s) ≡ d.sampled s
  unfolding draws
  single-sampled = one_of zero_element (d.sampled s)

  pub single-after : after_draws d 1 s ≡ d.after s
  unfolding after_draws
  single-after = same_either (is_some (d.sampled s)) (d.after s)

-- ---- draws of an inner challenger that give a byte each time

value-of : {A : Type 0} (o : Option A) → IsSome o → (x : A) × (o ≡ Some x)
value-of None some = cc
value-of (Some x) some = (x, refl)

module _ {I : Type 0} (d : Sampling I ℕ) (gives : (i : I) → IsSome (d.sampled i)) where
  bytes-given : (n : ℕ) (i : I) → (bytes : List ℕ) × (draws d n i ≡ Some bytes)
  unfolding draws
  bytes-given zero i = ([], refl)
  bytes-given (suc n) i =
      let first = value-of (d.sampled i) (gives i) in
      let others = bytes-given n (d.after i) in (
        first.0 ∷ others.0,
        ap (option_and_then (λ x. option_map (λ xs. x ∷ xs) (draws d n (d.after i)))) first.1
            ∙ ap (option_map (λ xs. first.0 ∷ xs)) others.1,
      )

  pub group-given : (n : ℕ) (i : I) → (word : ℕ) × ((group d n).sampled i ≡ Some word)
  group-given n i =
      let bytes = bytes-given n i in (_, ap (option_map _) bytes.1)

-- ---- calls after calls

drop-all : (xs ys : List ℕ) → drop (length xs) (xs ++ ys) ≡ ys
drop-all [] ys = refl
drop-all (x ∷ xs) ys = drop-all xs ys

module _ {I : Type 0} (fed : I → List ℕ → I) (g : Sampling I ℕ) (past_byte : I → I) where
  reads-then : (i j k : I) (words more : List ℕ) (calls : List ByteCall)
      → Reads fed g past_byte i (replicate (length words) read) words j → Reads fed g past_byte j calls more k
      → Reads fed g past_byte i (replicate (length words) read ++ calls) (words ++ more) k
  reads-then i j k [] more calls here there = subst (λ u. Reads fed g past_byte u calls more k) (sym here) there
  reads-then i j k (word ∷ words) more calls here there =
      (here.0, reads-then (g.after i) j k words more calls here.1 there)

-- ---- one draw of an element

module _ {I F : Type 0} (fed : I → List ℕ → I) (past_byte : I → I) (r : Residues F) (n : ℕ) (d : Sampling I ℕ)
    (gives : (i : I) → IsSome (d.sampled i)) where
  accepts : ℕ → Bool
  accepts x = nat_lt x r.order

  -- the groups that a draw takes, whatever is read after them
  pub record Takes (limit : ℕ) (i : I) (words : List ℕ) : Type 0 where
    pub reads : Reads fed (group d n) past_byte i (replicate (length words) read) words
        (after_first_accepted (low_bits_of_group d n (bits_of_order r.order)) (λ x. nat_lt x r.order) limit i)
    pub all : (rest : List ℕ) → taken r limit (words ++ rest) ≡ length words
    pub answer : (rest : List ℕ) → first_element r (take limit (words ++ rest)) ≡ option_map r.of
        (first_accepted (low_bits_of_group d n (bits_of_order r.order)) (λ x. nat_lt x r.order) limit i)

  takes-none : (i : I) → Takes 0 i []
  unfolding taken first_element first_accepted after_first_accepted
  takes-none i = record { reads = refl; all = λ rest. refl; answer = λ rest. refl }

  cut_to : ℕ → ℕ
  cut_to word = word % 2 ^ bits_of_order r.order

  -- what comes of a candidate
  next_candidate : ℕ → I → ℕ → Option ℕ
  next_candidate more j x = if nat_lt x r.order then Some x else first_accepted
      (low_bits_of_group d n (bits_of_order r.order)) (λ y. nat_lt y r.order) more j

  module _ (more : ℕ) (i : I) (word : ℕ) (given : (group d n).sampled i ≡ Some word) where
    first-by : (b : Bool) → nat_lt (word % 2 ^ bits_of_order r.order) r.order ≡ b
        → first_accepted (low_bits_of_group d n (bits_of_order r.order)) (λ x. nat_lt x r.order) (suc more) i
        ≡ (if b then Some (word % 2 ^ bits_of_order r.order) else first_accepted
        (low_bits_of_group d n (bits_of_order r.order)) (λ x. nat_lt x r.order) more ((group d n).after i))
    unfolding first_accepted next_candidate
    first-by b test =
        ap (λ (o : Option ℕ). option_and_then (next_candidate more ((group d n).after i))
        (option_map (λ w. w % 2 ^ bits_of_order r.order) o)) given
        ∙ ap (λ (c : Bool). if c then Some (word % 2 ^ bits_of_order r.order) else first_accepted
        (low_bits_of_group d n (bits_of_order r.order)) (λ x. nat_lt x r.order) more ((group d n).after i)) test

    after-by : (b : Bool) → nat_lt (word % 2 ^ bits_of_order r.order) r.order ≡ b
        → after_first_accepted (low_bits_of_group d n (bits_of_order r.order)) (λ x. nat_lt x r.order) (suc more) i
        ≡ (if b then (group d n).after i else after_first_accepted
        (low_bits_of_group d n (bits_of_order r.order)) (λ x. nat_lt x r.order) more ((group d n).after i))
    unfolding after_first_accepted
    after-by b test =
        ap (λ (o : Option ℕ). after_refused (λ x. nat_lt x r.order) (after_first_accepted
        (low_bits_of_group d n (bits_of_order r.order)) (λ x. nat_lt x r.order) more)
        (option_map (λ w. w % 2 ^ bits_of_order r.order) o) ((group d n).after i)) given
        ∙ ap (λ (c : Bool). if c then (group d n).after i else after_first_accepted
        (low_bits_of_group d n (bits_of_order r.order)) (λ x. nat_lt x r.order) more ((group d n).after i)) test

    takes-element : nat_lt (word % 2 ^ bits_of_order r.order) r.order ≡ true → Takes (suc more) i (word ∷ [])
    unfolding taken first_element
    takes-element below =
        record {
          reads = (given, sym (after-by true below));
          all = λ rest. ap (λ (b : Bool). if b then 1 else suc (taken r more rest)) below;
          answer = λ rest.
              ap (λ (b : Bool). if b then Some (r.of (word % 2 ^ bits_of_order r.order))
              else first_element r (take more rest)) below
              ∙ sym (ap (option_map r.of) (first-by true below));
        }

    takes-another : (words : List ℕ) → nat_lt (word % 2 ^ bits_of_order r.order) r.order ≡ false
        → Takes more ((group d n).after i) words → Takes (suc more) i (word ∷ words)
    unfolding taken first_element
    takes-another words above others =
        record {
          reads = (
            given,
            subst (λ j. Reads fed (group d n) past_byte ((group d n).after i) (replicate (length words) read) words j)
                (sym (after-by false above)) others.reads,
          );
          all = λ rest.
              ap (λ (b : Bool). if b then 1 else suc (taken r more (words ++ rest))) above
              ∙ ap suc (others.all rest);
          answer = λ rest.
              ap (λ (b : Bool). if b then Some (r.of (word % 2 ^ bits_of_order r.order))
              else first_element r (take more (words ++ rest))) above
              ∙ others.answer rest
              ∙ sym (ap (option_map r.of) (first-by false above));
        }

  takes-by : (more : ℕ) (i : I) (word : ℕ) → (group d n).sampled i ≡ Some word
      → ((words : List ℕ) × Takes more ((group d n).after i) words) → (b : Bool)
      → nat_lt (word % 2 ^ bits_of_order r.order) r.order ≡ b → (words : List ℕ) × Takes (suc more) i words
  takes-by more i word given others true test = (word ∷ [], takes-element more i word given test)
  takes-by more i word given others false test =
      (word ∷ others.0, takes-another more i word given others.0 test others.1)

  -- there are such groups
  pub takes : (limit : ℕ) (i : I) → (words : List ℕ) × Takes limit i words
  takes zero i = ([], takes-none i)
  takes (suc more) i =
      let first = group-given d gives n i in
      takes-by more i first.0 first.1 (takes more ((group d n).after i))
      (nat_lt (first.0 % 2 ^ bits_of_order r.order) r.order) (λ _. nat_lt (first.0 % 2 ^ bits_of_order r.order) r.order)

-- ---- all calls

module _ {I Symbol F : Type 0} (o : Observation I Symbol ℕ) (slice_may_leave : I → List ℕ → I → Type 0)
    (d : Sampling I ℕ) (gives : (i : I) → IsSome (d.sampled i)) (r : Residues F) (n : ℕ) (zero_element : F) where
  abbrev by : CallByCall (SerializingState I) Symbol F
  by = by_calls (element_observed o slice_may_leave r n) (space_element_drawn d n r 1 (element_of_one zero_element))
      (bits_drawn d n) (λ _ bits. never_rejects (bits_drawn d n bits)) (byte_dropped d)

  abbrev slice_fed : I → List ℕ → I
  slice_fed = observed_all o.observed

  -- a draw of bits, and then other calls
  bits-read : (k : ℕ) (calls : List (SerializingCall F)) (s : SerializingState I)
      → (words : List ℕ) × AreRead o d r n by calls ((bits_drawn d n k).after s) words
      → (words : List ℕ) × AreRead o d r n by (draw_bits k ∷ calls) s words
  bits-read k calls s later =
      let first = group-given d gives n s.inner in (
        first.0 ∷ later.0,
        record {
          reads = (first.1, later.1.reads);
          answers = λ j. bits (option_map (λ w. w % 2 ^ k) (first.1 j)) ∷ later.1.answers j;
          limit = later.1.limit;
        },
      )

  pub calls-read : (calls : List (SerializingCall F)) (s : SerializingState I)
      → (words : List ℕ) × AreRead o d r n by calls s words
  calls-read [] s = ([], record { reads = refl; answers = refl; limit = refl })
  calls-read (observe x ∷ calls) s =
      let later = calls-read calls ((element_observed o slice_may_leave r n).observed s x) in
      (later.0, record { reads = later.1.reads; answers = later.1.answers; limit = later.1.limit })
  calls-read (draw_bits k ∷ calls) s = bits-read k calls s (calls-read calls ((bits_drawn d n k).after s))
  calls-read (draw_uniform resample k ∷ calls) s =
      let read = bits-read k calls s (calls-read calls ((bits_drawn d n k).after s)) in
      (read.0, record { reads = read.1.reads; answers = read.1.answers; limit = read.1.limit })
  calls-read (drop_byte ∷ calls) s =
      let later = calls-read calls ((byte_dropped d).after s) in
      (later.0, record { reads = later.1.reads; answers = later.1.answers; limit = later.1.limit })
  calls-read (draw ∷ calls) s =
      let e : Sampling (SerializingState I) F = element_drawn d n r in
      let limit = s.draw_limit in
      let first = takes slice_fed d.after r n d gives limit s.inner in
      let later = calls-read calls (e.after s) in
      let one = first.0 in
      let more = later.0 in
      let words = one ++ more in
      let there : after_draws e 1 s ≡ e.after s = single-after e zero_element s in
      let done : drop (taken r limit words) words ≡ more =
      ap (λ k. drop k words) (first.1.all more) ∙ drop-all one more in
      let end = (after_calls by calls (e.after s)).inner in
      let read_all = reads-then slice_fed (group d n) d.after s.inner (e.after s).inner end one more
      (byte_calls r n limit calls more) first.1.reads later.1.reads in
      let read_off : Reads slice_fed (group d n) d.after s.inner (byte_calls r n limit (draw ∷ calls) words) words end =
      subst (λ (ws : List ℕ). Reads slice_fed (group d n) d.after s.inner
      (replicate (taken r limit words) read ++ byte_calls r n limit calls ws) words end) (sym done)
      (subst (λ (k : ℕ). Reads slice_fed (group d n) d.after s.inner
      (replicate k read ++ byte_calls r n limit calls more) words end) (sym (first.1.all more)) read_all) in
      let answer : by.drawn.sampled s ≡ first_element r (take limit words) =
      single-sampled e zero_element s ∙ sym (first.1.answer more) in
      let answers : answers_by_calls by calls (after_draws e 1 s)
      ≡ answers_off r limit calls (drop (taken r limit words) words) =
      ap (answers_by_calls by calls) there ∙ later.1.answers ∙ ap (answers_off r limit calls) (sym done) in (
        words,
        record {
          reads = subst (λ (i : I). Reads slice_fed (group d n) d.after s.inner
              (byte_calls r n limit (draw ∷ calls) words) words i)
              (sym (ap (λ t. (after_calls by calls t).inner) there)) read_off;
          answers = λ j. element (answer j) ∷ answers j;
          limit = ap (λ t. (after_calls by calls t).draw_limit) there ∙ later.1.limit;
        },
      )
