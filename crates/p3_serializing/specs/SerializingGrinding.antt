-- Proof of work on a serializing challenger.
use Rattle.std.specs.Prelude.{ℕ, ◌==◌, ◌%◌, ◌^◌, Bool, List}
use Rattle.p3_field_core.specs.Residues.{Residues}
use Rattle.p3_challenger_core.specs.{Observation.Observation, Sampling.Sampling}
use Rattle.p3_grinding.specs.Checks.{all_zero, check_of, MayRunOut}
use Rattle.p3_serializing.specs.Bytes.{bytes_of, number_of}
use Rattle.p3_serializing.specs.SerializingState.{SerializingState, element_observed, byte_dropped, bits_drawn}

module _ {I Symbol F : Type 0} (o : Observation I Symbol ℕ) (slice_may_leave : I → List ℕ → I → Type 0)
    (d : Sampling I ℕ) (r : Residues F) (n : ℕ) where
  -- A check of at least one bit draws and drops a byte and observes the witness. The witness passes if the low bits
  -- of the next group are all 0. With 0 bits each witness passes, and nothing changes.
  abbrev pub serializing_check : ℕ → F → Sampling (SerializingState I) Bool
  serializing_check bits =
      check_of (byte_dropped d) (element_observed o slice_may_leave r n) (all_zero (bits_drawn d n bits)) bits

  -- a search may run out of memory where a copy or a check may
  abbrev pub may_run_out_of : Type 0 → SerializingState I → Type 0
  may_run_out_of copies_may_fail s = (bits : ℕ) × MayRunOut copies_may_fail (serializing_check bits) s

-- the bytes of the witness with this number
abbrev pub witness_bytes : {F : Type 0} → Residues F → ℕ → ℕ → List ℕ
witness_bytes r n k = bytes_of n (r.number (r.of k))

-- the given number of low bits of a group are 0
abbrev pub low_bits_zero : ℕ → List ℕ → Bool
low_bits_zero bits bytes = number_of bytes % 2 ^ bits == 0
