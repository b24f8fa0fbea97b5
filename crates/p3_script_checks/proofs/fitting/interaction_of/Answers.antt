use Rattle.p3_script_checks.proofs.fitting.interaction_of.Goals as goal

pub returns-in-Scalar : goal.returns-in-Scalar
returns-in-Scalar g c = λ carry. rw c.in-Scalar.is (c.like.ensures _ carry.scalar)

pub returns-in-Scalars : goal.returns-in-Scalars
returns-in-Scalars g c = λ carry. rw c.in-Scalars.is (c.like-in-Scalars.ensures _ carry.scalar)

pub returns-in-ScalarsBounded : goal.returns-in-ScalarsBounded
returns-in-ScalarsBounded g c = λ carry. rw c.in-ScalarsBounded.is (c.like-in-ScalarsBounded.ensures _ carry.scalar)

pub returns-in-Extension : goal.returns-in-Extension
returns-in-Extension g c = λ carry. rw c.in-Extension.is (c.like-in-Extension.ensures _ carry.extension)

pub returns-in-Pow : goal.returns-in-Pow
returns-in-Pow g c = λ carry. rw c.in-Pow.is (c.like-in-Pow.ensures _ carry.scalar)

pub returns-in-ObservePow : goal.returns-in-ObservePow
returns-in-ObservePow g c = λ carry. rw c.in-ObservePow.is (c.like-in-ObservePow.ensures _ carry.scalar)
