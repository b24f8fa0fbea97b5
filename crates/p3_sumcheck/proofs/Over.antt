-- What a sumcheck is played over, in proofs of generic code.
use Rattle.std.proofs.Common.{ℕ, List}
use Rattle.p3_challenger.specs.{Steps.algebra_of, Encoding.Encoding, Observation.Observation, Sampling.Sampling}
use Rattle.p3_field.specs.Residues.{Residues}
use Rattle.p3_sumcheck.specs.Sumchecks.{Sumcheck, sumcheck_of}

-- with the degree of the field over itself, the digest of its identity, and its name
abbrev pub over : {S Symbol F : Type 0} → Residues F → ℕ → List ℕ → List ℕ → Observation S Symbol F → Sampling S F →
    Encoding F → Sumcheck S Symbol F
over r degree digest name o d e = sumcheck_of r (algebra_of r.order degree digest name) o d e
