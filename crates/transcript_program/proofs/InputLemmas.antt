-- Lemmas on reads.
use Rattle.std.proofs.Common.{ℕ, List, ◌++◌, Option, Some, None, ap, sym, ◌∙◌, append_assoc}
use Rattle.std.specs.Io.KnownBytes.{Consumes}

-- what was read, and what is read after it
pub consumes-more : (a b c : Option (List ℕ)) (xs ys : List ℕ) → Consumes a b xs → Consumes b c ys →
    Consumes a c (xs ++ ys)
consumes-more None b c xs ys first second = tt
consumes-more (Some a) None c xs ys first second = absurd first
consumes-more (Some a) (Some b) None xs ys first second = absurd second
consumes-more (Some a) (Some b) (Some c) xs ys first second =
    first ∙ ap (λ zs. xs ++ zs) second ∙ sym (append_assoc xs ys c)
