-- The two fields of a bridge.
use Rattle.p3_field_core.specs.Residues.{Residues}
use Rattle.p3_field_bridge.specs.declared.bridge.FieldBridge.{Ghosts}
use Rattle.p3_multi_field.specs.MultiFieldCalls.{FieldPair}

-- as `field_pair` is
abbrev pub pair_over : {F PF : Type 0} → Residues F → Residues PF → Ghosts PF F PF → FieldPair F PF
pair_over inner outer bridge =
    record {
      inner = inner;
      outer = outer;
      bits = bridge.RADIX_BITS;
      absorb = bridge.ABSORB_COUNT;
      squeeze = bridge.SQUEEZE_COUNT;
    }
