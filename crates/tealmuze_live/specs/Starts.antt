-- One side of a transcript before its first step.
use Rattle.std.specs.Prelude.{◌≡◌, ℕ, List, [], length, Option, None, Some}
use Rattle.p3_challenger.specs.{Driving.Driving, Drivers.{beginning, proving_of}, Fronts.{Run, seed}, Rules.Rules}
use Rattle.p3_challenger.specs.{Scripts.play_of, Verdicts.script_of}
use Rattle.p3_symmetric.specs.declared.digest_hasher.DigestHasher.{Ghosts}
use Rattle.tealmuze_calls.specs.declared.description.Protocol.{Protocol}
use Rattle.tealmuze_live.specs.Readings.{reading_of}
use Rattle.tealmuze_live.specs.declared.{prover.Prover.Prover, side.Side.Side, verifier.Verifier.Verifier}
use Rattle.p3_challenger.specs.Step as script
use Rattle.tealmuze_live.specs.declared.side.Side.TheVariants as side

module _ {Su F EF U O C K Ac D G It St Sy : Type 0} (rules : Rules St Sy It F EF O Ac) (IsFresh : St → Type 0) where
  -- A driver stands at the start of a script, with these bytes written or left to read: its challenger observed nothing but the
  -- seed, which is not too long for the alphabet, and no step was played.
  pub record IsBeginning (run : Run (script.Step Su F EF U O C K Ac D G It St Sy) F EF St) (bytes : List ℕ)
      (driver : Driving St) : Type 0 where
    pub fresh : IsFresh run.challenger
    pub seed_fits : rules.alphabet.is_too_long (length (seed rules (play_of rules) run)) → ⊥
    pub driver_is : driver ≡ beginning rules.alphabet.item run.challenger
        (rules.alphabet.items (seed rules (play_of rules) run)) run.separator.pattern bytes

  -- A side stands at the start of a protocol, with these bytes written or left to read: it is what the side plays, no step of it
  -- was played, and the driver stands at the start of its script.
  pub record IsAtStart {hasher : Ghosts D} (protocol : Protocol Su F EF U O C K Ac D G It St Sy hasher) (bytes : List ℕ)
      (played : Protocol Su F EF U O C K Ac D G It St Sy hasher) (position : ℕ) (driver : Driving St) : Type 0 where
    pub played_is : played ≡ protocol
    pub position_is : position ≡ 0
    pub start : St
    pub begins : IsBeginning (script_of start protocol.separator protocol.steps.items) bytes driver

  module _ {hasher : Ghosts D} (state : C → St) where
    -- a prover, which wrote nothing
    abbrev pub ProverIsAtStart : Protocol Su F EF U O C K Ac D G It St Sy hasher → Prover Su F EF U O C K Ac D G It St Sy hasher → Type 0
    ProverIsAtStart protocol prover =
        IsAtStart protocol [] prover.protocol.now prover.position (proving_of state prover.driver)

    -- a verifier, which has read nothing of this proof
    abbrev pub VerifierIsAtStart : Protocol Su F EF U O C K Ac D G It St Sy hasher → List ℕ →
        Verifier Su F EF U O C K Ac D G It St Sy hasher → Type 0
    VerifierIsAtStart protocol proof verifier =
        IsAtStart protocol proof verifier.protocol.now verifier.position (reading_of state verifier)

    -- the verifier of this proof, where there is one, and else a prover
    abbrev pub SideIsAtStart : Protocol Su F EF U O C K Ac D G It St Sy hasher → Option (List ℕ) →
        Side Su F EF U O C K Ac D G It St Sy hasher → Type 0
    SideIsAtStart protocol None (side.Prover prover) = ProverIsAtStart protocol prover
    SideIsAtStart protocol (Some proof) (side.Verifier verifier) = VerifierIsAtStart protocol proof verifier
    SideIsAtStart _ _ _ = ⊥

-- a side of this suite, of which this is so
abbrev pub IsSideOf : {A B : Type 0} → (A → B) → (A → Type 0) → B → Type 0
IsSideOf {A} of Is one = (it : A) × ((one ≡ of it) × Is it)
