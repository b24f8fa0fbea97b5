use Rattle.std.proofs.Common.{rules}
use Rattle.p3_fs_core.specs.ScalarLaws.{is_encoding}
use Rattle.p3_step_laws.proofs.{ReadBack.value-back, WorkMirrors.work-followed}
use Rattle.p3_step_laws.proofs.mirrors.sent_work_is_received.Goals as goal

pub returns : goal.returns
returns g c =
    let ring = g.met.C.Witness.PrimeCharacteristicRing in
    let encodes = is_encoding _ ring.are_residues _ g.met.C.Witness.Field.bits_below in
    record {
      read_back = search (rules, value-back, encodes);
      complete = λ step bits x. work-followed _ x _ encodes (search rules);
    }
