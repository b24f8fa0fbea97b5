-- What the bytes of a description say, by their suite.
use Rattle.std.proofs.Common.{ℕ, zero, suc, List, [], ◌∷◌, sym, subst}
use Rattle.tealmuze_calls.specs.Written.{IsOfSuite}
use Rattle.tealmuze_calls.specs.contracts.by_suite.SuitesCallsBySuite.TheImpl as suites

-- what is so of all bytes that begin with a suite is so of those that are of it
pub of_suite : (suite : ℕ) (Is P : List ℕ → Type 0) → ((protocol : List ℕ) → Is protocol → P (suite ∷ protocol)) →
    (description : List ℕ) → IsOfSuite suite Is description → P description
of_suite suite Is P so [] is = absurd is
of_suite suite Is P so (number ∷ protocol) is = subst (λ first. P (first ∷ protocol)) (sym is.0) (so protocol is.1)

-- where a verdict is asked for, a protocol is described: of a proof
pub described-verdict : (description carried : List ℕ) → (suites.asks_of_proof-value).it description carried → (suites.is_described-value).it description
described-verdict [] carried asked = absurd asked
described-verdict (zero ∷ protocol) carried asked =
    record { separator = asked.separator; steps = asked.steps; describes = asked.describes; such = tt }
described-verdict (suc zero ∷ protocol) carried asked =
    record { separator = asked.separator; steps = asked.steps; describes = asked.describes; such = tt }
described-verdict (suc (suc zero) ∷ protocol) carried asked =
    record { separator = asked.separator; steps = asked.steps; describes = asked.describes; such = tt }
described-verdict (suc (suc (suc zero)) ∷ protocol) carried asked =
    record { separator = asked.separator; steps = asked.steps; describes = asked.describes; such = tt }
described-verdict (suc (suc (suc (suc zero))) ∷ protocol) carried asked =
    record { separator = asked.separator; steps = asked.steps; describes = asked.describes; such = tt }
described-verdict (suc (suc (suc (suc (suc zero)))) ∷ protocol) carried asked =
    record { separator = asked.separator; steps = asked.steps; describes = asked.describes; such = tt }
described-verdict (suc (suc (suc (suc (suc (suc zero))))) ∷ protocol) carried asked =
    record { separator = asked.separator; steps = asked.steps; describes = asked.describes; such = tt }
described-verdict (suc (suc (suc (suc (suc (suc (suc zero)))))) ∷ protocol) carried asked =
    record { separator = asked.separator; steps = asked.steps; describes = asked.describes; such = tt }
described-verdict (suc (suc (suc (suc (suc (suc (suc (suc n))))))) ∷ protocol) carried asked = absurd asked

-- and of values
pub described-proving : (description values : List ℕ) → (suites.asks_of_values-value).it description values → (suites.is_described-value).it description
described-proving [] values asked = absurd asked
described-proving (zero ∷ protocol) values asked =
    record { separator = asked.separator; steps = asked.steps; describes = asked.describes; such = tt }
described-proving (suc zero ∷ protocol) values asked =
    record { separator = asked.separator; steps = asked.steps; describes = asked.describes; such = tt }
described-proving (suc (suc zero) ∷ protocol) values asked =
    record { separator = asked.separator; steps = asked.steps; describes = asked.describes; such = tt }
described-proving (suc (suc (suc zero)) ∷ protocol) values asked =
    record { separator = asked.separator; steps = asked.steps; describes = asked.describes; such = tt }
described-proving (suc (suc (suc (suc zero))) ∷ protocol) values asked =
    record { separator = asked.separator; steps = asked.steps; describes = asked.describes; such = tt }
described-proving (suc (suc (suc (suc (suc zero)))) ∷ protocol) values asked =
    record { separator = asked.separator; steps = asked.steps; describes = asked.describes; such = tt }
described-proving (suc (suc (suc (suc (suc (suc zero))))) ∷ protocol) values asked =
    record { separator = asked.separator; steps = asked.steps; describes = asked.describes; such = tt }
described-proving (suc (suc (suc (suc (suc (suc (suc zero)))))) ∷ protocol) values asked =
    record { separator = asked.separator; steps = asked.steps; describes = asked.describes; such = tt }
described-proving (suc (suc (suc (suc (suc (suc (suc (suc n))))))) ∷ protocol) values asked = absurd asked
