use Rattle.std.proofs.lemmas.List.{map-set}
use Rattle.p3_goldilocks.specs.GoldilocksResidues.{residues}
use Rattle.p3_poseidon2.proofs.unreduced_layers.put_number.Goals as goal

pub returns : goal.returns
returns g c = map-set residues.of c.args.state.now c.args.place c.args.value
