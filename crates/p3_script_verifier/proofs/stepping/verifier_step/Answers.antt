use Rattle.std.proofs.Common.{◌≡◌, None}
use Rattle.p3_script_verifier.proofs.stepping.verifier_step.Goals as goal

pub returns-in-Salt : goal.returns-in-Salt
returns-in-Salt g c =
    let none : c.args.witness ≡ None = rw c.in-Salt.is at c.requires.carried in rw (c.in-Salt.is, none) c.receive_salt.ensures

pub returns-in-Bytes : goal.returns-in-Bytes
returns-in-Bytes g c =
    let none : c.args.witness ≡ None = rw c.in-Bytes.is at c.requires.carried in rw (c.in-Bytes.is, none) c.receive_bytes.ensures

pub returns-in-Hint : goal.returns-in-Hint
returns-in-Hint g c =
    let none : c.args.witness ≡ None = rw c.in-Hint.is at c.requires.carried in rw (c.in-Hint.is, none) c.receive_hint.ensures

pub returns-in-BytesBounded : goal.returns-in-BytesBounded
returns-in-BytesBounded g c =
    let none : c.args.witness ≡ None = rw c.in-BytesBounded.is at c.requires.carried in rw (c.in-BytesBounded.is, none) c.receive_counted_bytes.ensures

pub returns-in-HintBounded : goal.returns-in-HintBounded
returns-in-HintBounded g c =
    let none : c.args.witness ≡ None = rw c.in-HintBounded.is at c.requires.carried in rw (c.in-HintBounded.is, none) c.receive_counted_hint.ensures

pub returns-in-Scalar : goal.returns-in-Scalar
returns-in-Scalar g c =
    let none : c.args.witness ≡ None = rw c.in-Scalar.is at c.requires.carried in rw (c.in-Scalar.is, none) c.receive_scalar.ensures

pub returns-in-Scalars : goal.returns-in-Scalars
returns-in-Scalars g c =
    let none : c.args.witness ≡ None = rw c.in-Scalars.is at c.requires.carried in rw (c.in-Scalars.is, none) c.receive_scalars.ensures

pub returns-in-ScalarsBounded : goal.returns-in-ScalarsBounded
returns-in-ScalarsBounded g c =
    let none : c.args.witness ≡ None = rw c.in-ScalarsBounded.is at c.requires.carried in rw (c.in-ScalarsBounded.is, none) c.receive_counted_scalars.ensures

pub returns-in-Extension : goal.returns-in-Extension
returns-in-Extension g c =
    let none : c.args.witness ≡ None = rw c.in-Extension.is at c.requires.carried in rw (c.in-Extension.is, none) c.receive_extension.ensures

pub returns-in-Pow : goal.returns-in-Pow
returns-in-Pow g c =
    let none : c.args.witness ≡ None = rw c.in-Pow.is at c.requires.carried in rw (c.in-Pow.is, none) c.receive_witness.ensures
