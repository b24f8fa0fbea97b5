-- What the definitions of a script take from its suite, by the members of the suite's types.
use Rattle.std.specs.Prelude.{ℕ, ◌≤◌, IsTrue, codes}
use Rattle.p3_fs_core.specs.{Steps.algebra_of, Alphabet.alphabet_of}
use Rattle.p3_runs.specs.{Absorbed.alone, Rules.{BitDraws, Grinding, Rules}}
use Rattle.p3_challenger_core.specs.declared.challenger.CanObserve as observers
use Rattle.p3_codecs.specs.Extension as extension
use Rattle.p3_codecs.specs.declared.codec.Codec as codecs
use Rattle.p3_codecs.specs.declared.unit.Unit as units
use Rattle.p3_field_core.specs.declared.algebra.AlgebraIdentity as identities
use Rattle.p3_field_core.specs.declared.algebra.BasedVectorSpace as spaces
use Rattle.p3_field_core.specs.declared.field.Field as fields
use Rattle.p3_field_core.specs.declared.named.Named as names
use Rattle.p3_field_core.specs.declared.ring.PrimeCharacteristicRing as rings
use Rattle.p3_fs_core.specs.Scalar as scalar
use Rattle.p3_script.specs.declared.accept.AcceptRule as accepting
use Rattle.p3_script.specs.declared.groups.StepGroup as groups
use Rattle.p3_symmetric.specs.declared.digest_hasher.DigestHasher as hashers

-- how a group of steps draws bits and does its proofs of work
module _ {G C F S Symbol : Type 0} (group : groups.Ghosts G C F S Symbol) where
  abbrev pub bit_draws_of : BitDraws S
  bit_draws_of = record {
    most = group.most_bits;
    are_there = IsTrue group.HAS_POW;
    are_uniform = IsTrue group.HAS_UNIFORM;
    plain = group.bit_draws;
    uniform = group.uniform_draws;
  }

  abbrev pub grinding_of : Grinding S Symbol F
  grinding_of = record {
    is_there = IsTrue group.HAS_POW;
    before_witness = group.before_witness;
    witness = group.witness;
    may_run_out = group.may_run_out;
  }

-- The rules that give meaning to the steps of a suite's scripts. They are the codings of scalars and of its
-- extension, the alphabet, the observation of opaque values, the acceptance rule, bits, proofs of work, and the
-- hash function.
abbrev pub rules_of : {Cdc C S Symbol F EF U I O Ac G D : Type 0} → codecs.Ghosts Cdc C F S Symbol → rings.Ghosts F →
    fields.Ghosts F → ℕ → identities.Ghosts F F → names.Ghosts F → spaces.Ghosts EF F → identities.Ghosts EF F →
    names.Ghosts EF → units.Ghosts U I → observers.Ghosts C I S Symbol → observers.Ghosts C O S Symbol → (O → Type 0) →
    accepting.Ghosts Ac EF → accepting.Ghosts Ac ℕ → groups.Ghosts G C F S Symbol → hashers.Ghosts D →
    Rules S Symbol I F EF O Ac
rules_of base ring field degree identity name space extension_identity extension_name unit items opaque is_own
    accepts_extension accepts_bits group hasher =
    record {
      marker_name = codes "()";
      is_secure = 128 ≤ base.SECURITY_BITS;
      scalar = record {
        algebra = algebra_of ring.residues.order degree (hasher.digest_of identity.identity) name.name_bytes;
        coefficients = alone;
        encoding = base.encoding;
        observation = base.observation;
        sampling = base.sampling;
      };
      extension = record {
        algebra = algebra_of ring.residues.order space.DIMENSION (hasher.digest_of extension_identity.identity)
            extension_name.name_bytes;
        coefficients = space.coefficients;
        encoding = extension.encoding base.encoding space.DIMENSION space.coefficients space.element;
        observation = extension.observed_coefficients base.observation space.coefficients;
        sampling = extension.drawn_coefficients base.sampling space.DIMENSION space.element;
      };
      alphabet = alphabet_of unit.items unit.is_too_long items.observation items.slice_may_leave;
      opaque = opaque.observation;
      IsOwn = is_own;
      accepts_extension = accepts_extension.rule;
      accepts_bits = accepts_bits.rule;
      residues = ring.residues;
      witness_encoding = scalar.encoding ring.residues field.bit_length;
      bits = bit_draws_of group;
      grinding = grinding_of group;
      digest_of = hasher.digest_of;
    }
