-- Values observed one after another.
use Rattle.std.proofs.Common.{◌≡◌, ℕ, ◌+◌, ◌<◌, ◌≤◌, List, ◌∷◌, [], ◌++◌, length, drop, get_or, refl, sym, ap, ◌∙◌, inl}
use Rattle.std.proofs.Math.Seq.{drop-cons}
use Rattle.p3_challenger_core.specs.Observation.{observed_all, LeavesBeginning}
use Rattle.std.{proofs.Common.{inr, subst, add-one}, proofs.Math.ListN.drop_of_length-le, specs.List.flat_map}

-- from here on, the rest of the values leads where all of them lead from the start
pub record LeadsOn {S T : Type 0} (observed : S → T → S) (start : S) (values : List T) (here : S)
    (rest : List T) : Type 0 where
  pub whole : observed_all observed here rest ≡ observed_all observed start values
  pub refused : (t : S) → LeavesBeginning observed here rest t → LeavesBeginning observed start values t

module _ {S T : Type 0} (observed : S → T → S) (start : S) (values : List T) (here : S) (i : ℕ) where
  -- after the last value
  pub leads_on-end : length values ≤ i → LeadsOn observed start values here (drop i values)
      → here ≡ observed_all observed start values
  leads_on-end h on = sym (ap (observed_all observed here) (drop_of_length-le values h)) ∙ on.whole

  -- before a value that is refused
  pub leads_on-refused : (x : T) → i < length values → LeadsOn observed start values here (drop i values)
      → LeavesBeginning observed start values here
  leads_on-refused x h on =
      on.refused here (subst (λ xs. LeavesBeginning observed here xs here) (sym (drop-cons values i x h)) (inl refl))

-- as LeadsOn, where each value is observed part by part
pub record LeadsThrough {S T U : Type 0} (observed : S → T → S) (step : S → U → S) (parts : T → List U) (start : S)
    (values : List T) (here : S) (rest : List T) : Type 0 where
  pub whole : observed_all observed here rest ≡ observed_all observed start values
  pub refused : (t : S) → LeavesBeginning step here (flat_map parts rest) t
      → LeavesBeginning step start (flat_map parts values) t

module _ {S U : Type 0} (step : S → U → S) where
  -- a part that is refused is refused whatever follows it
  pub leaves-first : (s : S) (xs ys : List U) (t : S) → LeavesBeginning step s xs t
      → LeavesBeginning step s (xs ++ ys) t
  leaves-first s [] ys t h = absurd h
  leaves-first s (x ∷ xs) ys t (inl here) = inl here
  leaves-first s (x ∷ xs) ys t (inr later) = inr (leaves-first (step s x) xs ys t later)

  -- as is one after parts that are observed
  pub leaves-later : (s : S) (xs ys : List U) (t : S) → LeavesBeginning step (observed_all step s xs) ys t
      → LeavesBeginning step s (xs ++ ys) t
  leaves-later s [] ys t h = h
  leaves-later s (x ∷ xs) ys t h = inr (leaves-later (step s x) xs ys t h)

module _ {S T U : Type 0} (observed : S → T → S) (step : S → U → S) (parts : T → List U)
    (by_parts : (s : S) (x : T) → observed_all step s (parts x) ≡ observed s x) (start : S) (values : List T) (here : S)
    (i : ℕ) (x : T) (in_range : i < length values) (is : x ≡ get_or values i x)
    (on : LeadsThrough observed step parts start values here (drop i values)) where
  -- what is left is x, and what follows it
  rest-is : drop i values ≡ x ∷ drop (i + 1) values
  rest-is = drop-cons values i x in_range ∙ (λ j. sym is j ∷ drop (sym (add-one i) j) values)

  at_x : LeadsThrough observed step parts start values here (x ∷ drop (i + 1) values)
  at_x = subst (LeadsThrough observed step parts start values here) rest-is on

  pub leads_through-next : LeadsThrough observed step parts start values (observed here x) (drop (i + 1) values)
  leads_through-next = record {
    whole = at_x.whole;
    refused = λ t h.
        let there = subst (λ s. LeavesBeginning step s (flat_map parts (drop (i + 1) values)) t)
        (sym (by_parts here x)) h in
        at_x.refused t (leaves-later step here (parts x) (flat_map parts (drop (i + 1) values)) t there);
  }

  pub leads_through-refused : (t : S) → LeavesBeginning step here (parts x) t
      → LeavesBeginning step start (flat_map parts values) t
  leads_through-refused t h =
      at_x.refused t (leaves-first step here (parts x) (flat_map parts (drop (i + 1) values)) t h)
