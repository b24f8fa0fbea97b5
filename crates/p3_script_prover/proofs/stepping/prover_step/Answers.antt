use Rattle.p3_script_prover.proofs.stepping.prover_step.Goals as goal

pub returns-in-BytesBounded : goal.returns-in-BytesBounded
returns-in-BytesBounded g c = rw c.in-BytesBounded.is c.add_bytes_bounded.ensures

pub returns-in-ScalarsBounded : goal.returns-in-ScalarsBounded
returns-in-ScalarsBounded g c = rw c.in-ScalarsBounded.is c.add_scalars_bounded.ensures

pub returns-in-Pow : goal.returns-in-Pow
returns-in-Pow g c = rw c.in-Pow.is (c.pow.ensures.comes _ (rw c.in-Pow.is at c.requires.handed))

pub returns-in-ObservePow : goal.returns-in-ObservePow
returns-in-ObservePow g c =
    rw c.in-ObservePow.is (c.observe_pow.ensures.comes _ (rw c.in-ObservePow.is at c.requires.handed))
