-- What is told of one side of a transcript.
use Rattle.std.specs.Prelude.{◌≡◌, ℕ, List, []}
use Rattle.p3_challenger.specs.{Drivers.proving_of, Rules.Rules}
use Rattle.p3_symmetric.specs.declared.digest_hasher.DigestHasher.{Ghosts}
use Rattle.tealmuze_live.specs.Lives.{TellsOfProverEnd, TellsOfSending, TellsOfTaking, TellsOfVerifierEnd}
use Rattle.tealmuze_live.specs.Readings.{reading_of}
use Rattle.tealmuze_live.specs.declared.side.Side.{Side}
use Rattle.tealmuze_live.specs.declared.side.Side.TheVariants as side

module _ {Su F EF U O C K Ac D G It St Sy : Type 0} {hasher : Ghosts D} (rules : Rules St Sy It F EF O Ac) (number : F → ℕ)
    (coefficients : EF → List F) (opaque_numbers : O → List ℕ) (AreOpaque : List ℕ → Type 0) (state : C → St) where
  -- Of a request, with the side as it was and as it is then: a step is played or refused; or, where the request has no bytes,
  -- the transcript ends.
  abbrev pub TellsOfSide : Side Su F EF U O C K Ac D G It St Sy hasher → List ℕ → List ℕ →
      Side Su F EF U O C K Ac D G It St Sy hasher → Type 0
  TellsOfSide (side.Prover was) request told (side.Prover is) =
      TellsOfSending Su U C K D G rules number coefficients opaque_numbers AreOpaque request was.position
      (proving_of state was.driver) (proving_of state is.driver) told
  TellsOfSide (side.Verifier was) request told (side.Verifier is) =
      TellsOfTaking Su U C K D G rules number coefficients opaque_numbers AreOpaque request was.position
      (reading_of state was) (reading_of state is) told
  TellsOfSide (side.Prover was) request told side.Ended =
      (request ≡ []) × TellsOfProverEnd was.position (proving_of state was.driver) told
  TellsOfSide (side.Verifier was) request told side.Ended =
      (request ≡ []) × TellsOfVerifierEnd was.position (reading_of state was) told
  TellsOfSide _ _ _ _ = ⊥
