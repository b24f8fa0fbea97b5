-- From what is queried to equal runs.
use Rattle.std.proofs.Common.{◌≡◌, ◌⊎◌, inl, inr, List, length, refl, sym, ap, ◌∙◌, subst}
use Rattle.p3_challenger.specs.{Segments.Call, Queries.{observed_values, LeaveSamePending, CollideAtSomePlace}}
use Rattle.p3_challenger.specs.{Binding.{SymbolsBind, AreBound}, Fronts.{Run, last, symbols}, Plays.Play, Rules.Rules}
use Rattle.transcript_read_back.specs.{CallByCall.{after_calls, IsCallByCall}, RunCallLaws.{observed-run, after-run}}
use Rattle.transcript_read_back.specs.TranscriptReadBack.{MakesQueries, EndAlike, TranscriptsReadBack}
use Rattle.transcript_read_back.specs.TranscriptReadBack.{TranscriptsReadBackOrCollide}
use Rattle.p3_challenger.specs.Segments as segments
use Rattle.p3_challenger.specs.Queries as queries

module _ {S T M : Type 0} (run : S → List (Call T) → segments.Run T M S) (pending : S → List T)
    (fed : S → List T → S) (next : S → S) (by : IsCallByCall run fed next) {X I F EF O Ac : Type 0}
    (rules : Rules S T I F EF O Ac) (play : X → Play S T F EF O) (start : S) where
  abbrev Queries : Run X F EF S → List M → Type 0
  Queries x ms = MakesQueries run rules play x ms

  queries-from_start : (x : Run X F EF S) (ms : List M) (h : Queries x ms) → x.challenger ≡ start →
      ms ≡ (run start h.calls).queries
  queries-from_start x ms h begins = h.queries_are ∙ ap (λ s. (run s h.calls).queries) begins

  pending-from_start : (x : Run X F EF S) (ms : List M) (h : Queries x ms) → x.challenger ≡ start →
      pending (last rules play x) ≡ pending (after_calls run start h.calls)
  pending-from_start x ms h begins =
      ap pending (after-run run fed next by play rules x h.calls h.are_calls)
      ∙ ap (λ s. pending (after_calls run s h.calls)) begins

  module _ (x y : Run X F EF S) (ms ns : List M) (begin : (x.challenger ≡ start) × (y.challenger ≡ start))
      (same : pending (last rules play x) ≡ pending (last rules play y)) (h : Queries x ms) (k : Queries y ns) where
    same-pending : LeaveSamePending (run start) pending h.calls k.calls
    same-pending = sym (pending-from_start x ms h begin.0) ∙ same ∙ pending-from_start y ns k begin.1

    same-symbols : observed_values h.calls ≡ observed_values k.calls → symbols rules play x ≡ symbols rules play y
    same-symbols values =
        sym (observed-run run play rules x h.calls h.are_calls) ∙ values
        ∙ observed-run run play rules y k.calls k.are_calls

    -- what is queried tells the symbols
    pub symbols-told : queries.ReadsBack (run start) pending → ms ≡ ns → symbols rules play x ≡ symbols rules play y
    symbols-told reads equal =
        same-symbols
        (reads h.calls k.calls
        (sym (queries-from_start x ms h begin.0) ∙ equal ∙ queries-from_start y ns k begin.1) same-pending)

    -- or two collide
    module _ (LastAlike : List M → List M → Type 0) (Collide : M → M → Type 0)
        (CallsEndAlike : List (Call T) → List (Call T) → Type 0)
        (alike_are : (calls others : List (Call T)) → LastAlike (run start calls).queries (run start others).queries →
        LeaveSamePending (run start) pending calls others → CallsEndAlike calls others) where
      pub symbols-told_or_collide : queries.ReadsBackOrCollides (run start) pending CallsEndAlike Collide →
          length ms ≡ length ns → LastAlike ms ns →
          (symbols rules play x ≡ symbols rules play y) ⊎ CollideAtSomePlace Collide ms ns
      symbols-told_or_collide reads as_many last_alike =
          let one : ms ≡ (run start h.calls).queries = queries-from_start x ms h begin.0 in
          let other : ns ≡ (run start k.calls).queries = queries-from_start y ns k begin.1 in
          let alike_there : LastAlike (run start h.calls).queries (run start k.calls).queries =
          subst (λ l. LastAlike (run start h.calls).queries l) other (subst (λ l. LastAlike l ns) one last_alike) in
          elim (reads h.calls k.calls (sym (ap length one) ∙ as_many ∙ ap length other)
          (alike_are h.calls k.calls alike_there same-pending)) [
            | inl values ↦ inl (same-symbols values)
            | inr found ↦ inr
                (subst (λ l. CollideAtSomePlace Collide ms l) (sym other)
                (subst (λ l. CollideAtSomePlace Collide l (run start k.calls).queries) (sym one) found))
          ]

  -- ---- with the law that symbols bind

  module _ (bind : SymbolsBind rules play) where
    bound : (x y : Run X F EF S) → EndAlike run rules play pending start x y →
        symbols rules play x ≡ symbols rules play y → AreBound rules play x y
    bound x y alike same =
        bind x y record { finished = alike.finished; held = alike.held; as_far = alike.as_far; same = same }

    pub transcripts-read_back : queries.ReadsBack (run start) pending →
        TranscriptsReadBack run rules play pending start
    transcripts-read_back reads x y ms alike h k =
        bound x y alike (symbols-told x y ms ms alike.begin alike.pending_same h k reads refl)

    pub transcripts-read_back_or_collide : (LastAlike : List M → List M → Type 0) (Collide : M → M → Type 0)
        (CallsEndAlike : List (Call T) → List (Call T) → Type 0) →
        ((calls others : List (Call T)) → LastAlike (run start calls).queries (run start others).queries →
        LeaveSamePending (run start) pending calls others → CallsEndAlike calls others) →
        queries.ReadsBackOrCollides (run start) pending CallsEndAlike Collide →
        TranscriptsReadBackOrCollide run rules play pending LastAlike Collide start
    transcripts-read_back_or_collide LastAlike Collide CallsEndAlike alike_are reads x y ms ns alike h k as_many last =
        elim (symbols-told_or_collide x y ms ns alike.begin alike.pending_same h k LastAlike Collide CallsEndAlike
        alike_are reads as_many last) [
          | inl same ↦ inl (bound x y alike same)
          | inr found ↦ inr found
        ]
