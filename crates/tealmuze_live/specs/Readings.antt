-- A verifier that keeps its proof, as contracts see it.
use Rattle.std.specs.Prelude.{ℕ, ◌-◌, length, drop}
use Rattle.p3_challenger.specs.{Driving.Driving, Drivers.played_by}
use Rattle.p3_symmetric.specs.declared.digest_hasher.DigestHasher.{Ghosts}
use Rattle.tealmuze_live.specs.declared.verifier.Verifier.{Verifier}

-- the verifier, where it is lent what is left of its proof
abbrev pub reading_of : {Su F EF U O C K Ac D G It St Sy S : Type 0} {hasher : Ghosts D} → (C → S) →
    Verifier Su F EF U O C K Ac D G It St Sy hasher → Driving S
reading_of state v = record {
  transcript = played_by state v.driver;
  bytes = drop (length v.proof.items - v.left) v.proof.items;
}
