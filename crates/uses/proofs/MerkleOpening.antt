-- What a verifier of an opening has read, and a sibling more on the way to a root.
use Rattle.std.proofs.Common.{◌≡◌, ℕ, ◌+◌, ◌*◌, ◌/◌, ◌≤◌, ◌<◌, nat_lt, if◌then◌else◌, List, [], ◌∷◌, ◌++◌, take, drop}
use Rattle.std.proofs.Common.{length, length-append, append_assoc, append-nil, mod-eq_of_lt, Ok, Err, inl, inr, arith}
use Rattle.std.{proofs.{Common.{refl, ap, sym, subst, ◌∙◌}, lemmas.Bool.Decides.nat_tests}, specs.List.concat}
use Rattle.p3_challenger.specs.{BigEndian.{big_endian, in_bytes, count_width, count_bytes}, Observation.observed_all}
use Rattle.p3_challenger.specs.Reads.{then_read, unreadable, Read, ended_early, message_too_long, read_bytes}
use Rattle.p3_challenger.specs.{Reads.{read_count, read_counted_bytes}, Sampling.Sampling}
use Rattle.p3_field.specs.BabyBearResidues.{BabyBear}
use Rattle.uses.specs.MerkleOpening.{AreNodes, IsClimb, IsDrawnPlace, IsOpened, above, climbed, leaf_node_of}
use Rattle.p3_challenger.specs.ReadsLaws.{one_of, not_read, bytes-read}

-- ---- what was read

-- the leaf's count takes one byte
one_wide : count_width 64 ≡ 1
unfolding count_width
one_wide = refl

count_byte : (n : ℕ) → n ≤ 64 → count_bytes 64 n ≡ n ∷ []
count_byte n within =
    let small : n < 256 = omega (arith, within) in
    ap (λ w. in_bytes w n) one_wide ∙ ap (λ b. b ∷ []) (mod-eq_of_lt small)

first_byte : (bytes : List ℕ) → 1 ≤ length bytes → bytes ≡ big_endian (take 1 bytes) ∷ drop 1 bytes
first_byte [] some = absurd (omega (arith, some))
first_byte (b ∷ bytes) some =
    let same : b ≡ 256 * 0 + b = omega arith in
    ap (λ n. n ∷ bytes) same

module _ {S : Type 0} where
  -- a count of at most 64 in so many bytes
  abbrev counted : ℕ → List ℕ → Read S ℕ
  counted width bytes =
      if nat_lt (length bytes) width
      then unreadable ended_early bytes
      else (if nat_lt 64 (big_endian (take width bytes))
      then unreadable message_too_long (drop width bytes)
      else Ok (big_endian (take width bytes), drop width bytes))

  count_in_one : (bytes : List ℕ) (n : ℕ) (rest : List ℕ) → counted 1 bytes ≡ Ok (n, rest) →
      (bytes ≡ n ∷ rest) × (n ≤ 64)
  count_in_one bytes n rest e = elim (one_of (nat_lt (length bytes) 1) _ _ _ e) [
    | inl short ↦ absurd (not_read ended_early bytes n rest short.1)
    | inr enough ↦ elim (one_of (nat_lt 64 (big_endian (take 1 bytes))) _ _ _ enough.1) [
      | inl long ↦ absurd (not_read message_too_long (drop 1 bytes) n rest long.1)
      | inr short ↦
          let some : 1 ≤ length bytes = grind (arith, nat_tests, enough.0) in
          let is : ◌≡◌ {A = Read S ℕ} (Ok (big_endian (take 1 bytes), drop 1 bytes)) (Ok (n, rest)) = short.1 in
          let both : ◌≡◌ {A = ℕ × List ℕ} (big_endian (take 1 bytes), drop 1 bytes) (n, rest) = cc in
          let number : big_endian (take 1 bytes) ≡ n = ap (λ p. p.0) both in
          let after : drop 1 bytes ≡ rest = ap (λ p. p.1) both in
          let within : big_endian (take 1 bytes) ≤ 64 = grind (arith, nat_tests, short.0) in
          (first_byte bytes some ∙ (λ i. number i ∷ after i), omega (arith, within, number))
    ]
  ]

  count-read : (bytes : List ℕ) (n : ℕ) (rest : List ℕ) → read_count {S = S} message_too_long 64 bytes ≡ Ok (n, rest) →
      (bytes ≡ n ∷ rest) × (n ≤ 64)
  count-read bytes n rest e =
      count_in_one bytes n rest (subst (λ (w : ℕ). counted w bytes ≡ Ok (n, rest)) one_wide e)

  then-read : {A B : Type 0} (next : A → List ℕ → Read S B) (r : Read S A) (y : B) (rest : List ℕ) →
      then_read next r ≡ Ok (y, rest) → (x : A) × (left : List ℕ) × (r ≡ Ok (x, left)) × (next x left ≡ Ok (y, rest))
  then-read next (Ok found) y rest e = (found.0, found.1, refl, e)
  then-read next (Err failure) y rest e = absurd (cc)

  pub leaf-read : (bytes leaf rest : List ℕ) →
      read_counted_bytes {S = S} message_too_long 64 bytes ≡ Ok (leaf, rest) →
      (bytes ≡ (length leaf ∷ leaf) ++ rest) × (length leaf ≤ 64)
  leaf-read bytes leaf rest e =
      let parts = then-read read_bytes (read_count message_too_long 64 bytes) leaf rest e in
      let count = count-read bytes parts.0 parts.1 parts.2 in
      let body = bytes-read parts.0 parts.1 leaf rest parts.3 in (
        count.0 ∙ (λ i. sym body.1 i ∷ body.0 i),
        omega (arith, count.1, body.1),
      )

-- ---- siblings

concat-append : (xs ys : List (List ℕ)) → concat (xs ++ ys) ≡ concat xs ++ concat ys
concat-append [] ys = refl
concat-append (x ∷ xs) ys =
    ap (λ zs. x ++ zs) (concat-append xs ys) ∙ sym (append_assoc x (concat xs) (concat ys))

nodes-append : (xs ys : List (List ℕ)) → AreNodes xs → AreNodes ys → AreNodes (xs ++ ys)
nodes-append [] ys first second = second
nodes-append (x ∷ xs) ys first second = (first.0, nodes-append xs ys first.1 second)

module _ (digest : List ℕ → List ℕ) (start : ℕ) (leaf bytes : List ℕ) where
  -- so many siblings are read and climbed over, whatever others follow
  pub record IsClimbed (count place : ℕ) (node left : List ℕ) : Type 0 where
    pub siblings : List (List ℕ)
    pub levels : length siblings ≡ count
    pub nodes : AreNodes siblings
    pub encoded : bytes ≡ concat siblings ++ left
    pub reaches : (more : List (List ℕ)) → climbed digest start leaf (siblings ++ more) ≡ climbed digest place node more

  pub climbed-none : IsClimbed 0 start leaf bytes
  climbed-none =
      record { siblings = []; levels = refl; nodes = tt; encoded = refl; reaches = λ more. refl }

  pub climbed-more : (count place : ℕ) (node left sibling rest next : List ℕ) → IsClimbed count place node left →
      (left ≡ sibling ++ rest) × (length sibling ≡ 32) → next ≡ above digest place node sibling →
      IsClimbed (count + 1) (place / 2) next rest
  climbed-more count place node left sibling rest next so_far read is =
      record {
        siblings = so_far.siblings ++ (sibling ∷ []);
        levels = omega (arith, so_far.levels, length-append so_far.siblings (sibling ∷ []));
        nodes = nodes-append so_far.siblings (sibling ∷ []) so_far.nodes (read.1, tt);
        encoded = so_far.encoded
            ∙ ap (λ l. concat so_far.siblings ++ l)
            (read.0 ∙ ap (λ l. l ++ rest) (sym (append-nil sibling)))
            ∙ sym (append_assoc (concat so_far.siblings) (sibling ++ []) rest)
            ∙ ap (λ l. l ++ rest) (sym (concat-append so_far.siblings (sibling ∷ [])));
        reaches = λ more. ap (climbed digest start leaf) (append_assoc so_far.siblings (sibling ∷ []) more)
            ∙ so_far.reaches (sibling ∷ more) ∙ ap (λ top. climbed digest (place / 2) top more) (sym is);
      }

  pub climbed-end : (count place : ℕ) (node left : List ℕ) → count ≡ 3 → IsClimbed count place node left →
      IsClimb digest start leaf bytes node left
  climbed-end count place node left is all =
      record {
        siblings = all.siblings;
        levels = all.levels ∙ is;
        nodes = all.nodes;
        encoded = all.encoded;
        reaches = sym (all.reaches []) ∙ ap (climbed digest start leaf) (append-nil all.siblings);
      }

-- ---- the whole opening

module _ {S : Type 0} (digest : List ℕ → List ℕ) (d : Sampling S BabyBear) (observed : S → List ℕ → S) where
  climb-as : (place : ℕ) (node leaf_node bytes top root left : List ℕ) → node ≡ leaf_node → top ≡ root →
      IsClimb digest place node bytes top left → IsClimb digest place leaf_node bytes root left
  climb-as place node leaf_node bytes top root left is same climb =
      subst (λ x. IsClimb digest place x bytes root left) is
      (subst (λ x. IsClimb digest place node bytes x left) same climb)

  drawn-as : (place : ℕ) (s t here : S) → s ≡ t → IsDrawnPlace d place s here → IsDrawnPlace d place t here
  drawn-as place s t here same is = subst (λ u. IsDrawnPlace d place u here) same is

  -- what the steps of a verifier read and do is an opening
  pub opened-by : (bytes root after_root leaf after_leaf salt path top left node : List ℕ) (place : ℕ)
      (s drawn_from here t : S) → (bytes ≡ root ++ after_root) × (length root ≡ 32) →
      (after_root ≡ (length leaf ∷ leaf) ++ after_leaf) × (length leaf ≤ 64) →
      (after_leaf ≡ salt ++ path) × (length salt ≡ 16) → node ≡ leaf_node_of digest salt leaf → top ≡ root →
      IsClimb digest place node path top left → drawn_from ≡ observed s root → IsDrawnPlace d place drawn_from here →
      t ≡ observed (observed here (length leaf ∷ leaf)) salt → IsOpened digest d observed bytes s place leaf left t
  opened-by bytes root after_root leaf after_leaf salt path top left node place s drawn_from here t of_root of_leaf of_salt
      is same climb start drawn finished =
      record {
        root = root;
        salt = salt;
        path = path;
        encoded = of_root.0
            ∙ ap (λ l. root ++ l) (of_leaf.0 ∙ ap (λ l. (length leaf ∷ leaf) ++ l) of_salt.0);
        root_bytes = of_root.1;
        leaf_bytes = of_leaf.1;
        salt_bytes = of_salt.1;
        climbs = climb-as place node (leaf_node_of digest salt leaf) path top root left is same climb;
        here = here;
        drawn = drawn-as place drawn_from (observed s root) here start drawn;
        challenger = finished;
      }

  -- what is so of bytes and states is so of equal ones
  pub opened-as : (bytes proof : List ℕ) (s t : S) (place : ℕ) (leaf left none : List ℕ) (u v : S) → bytes ≡ proof →
      s ≡ t → left ≡ none → u ≡ v → IsOpened digest d observed bytes s place leaf left u →
      IsOpened digest d observed proof t place leaf none v
  opened-as bytes proof s t place leaf left none u v same start end finished is =
      subst (λ x. IsOpened digest d observed x t place leaf none v) same
      (subst (λ x. IsOpened digest d observed bytes x place leaf none v) start
      (subst (λ x. IsOpened digest d observed bytes s place leaf x v) end
      (subst (λ x. IsOpened digest d observed bytes s place leaf left x) finished is)))

-- a state that observed a leaf's count and then the leaf
pub counted-leaf : {S : Type 0} (observed : S → ℕ → S) (s t : S) (leaf : List ℕ) → length leaf ≤ 64 →
    t ≡ observed_all observed (observed_all observed s (count_bytes 64 (length leaf))) leaf →
    t ≡ observed_all observed s (length leaf ∷ leaf)
counted-leaf observed s t leaf within is =
    is ∙ ap (λ count. observed_all observed (observed_all observed s count) leaf) (count_byte (length leaf) within)
