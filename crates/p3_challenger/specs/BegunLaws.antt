-- Laws of a hash challenger that begins a transcript.
use Rattle.std.proofs.Common.{◌≡◌, List, [], ◌∷◌, ◌++◌, ap, sym, ◌∙◌}
use Rattle.p3_challenger_core.specs.Observation.{observed_all}
use Rattle.p3_hash_challenger.specs.{HashCalls.with_pending, HashState.{HashState, fed, observed}}
use Rattle.p3_hash_challenger.specs.HashStateLaws.{fed-append, observed_all-fed}

-- a challenger with nothing pending has just these values pending, once it observed them
pub begun : {T H : Type 0} (s : HashState T H) (values : List T) → s.sponge ≡ with_pending [] →
    observed_all observed s values ≡ record { sponge = with_pending values; hasher = s.hasher }
begun s [] is = ap (λ sponge. record s { sponge = sponge }) is
begun s (x ∷ xs) is =
    observed_all-fed s (x ∷ xs)
    ∙ ap (λ sponge. record s { sponge = with_pending (sponge.pending ++ (x ∷ xs)) }) is

pub begun-as : {T H : Type 0} (s u : HashState T H) (values : List T) → u ≡ observed_all observed s values →
    s.sponge ≡ with_pending [] → u ≡ record { sponge = with_pending values; hasher = s.hasher }
begun-as s u values is empty = is ∙ begun s values empty

-- the same, once more values are observed
pub begun-then : {T H : Type 0} (s u : HashState T H) (values : List T) → u ≡ observed_all observed s values →
    s.sponge ≡ with_pending [] → (more : List T) →
    observed_all observed u more ≡ record { sponge = with_pending (values ++ more); hasher = s.hasher }
begun-then s u values is empty more =
    ap (λ v. observed_all observed v more) (is ∙ observed_all-fed s values)
    ∙ observed_all-fed (fed s values) more ∙ fed-append s values more ∙ sym (observed_all-fed s (values ++ more))
    ∙ begun s (values ++ more) empty
