use Rattle.std.proofs.Common.{◌≤◌, ◌++◌, length, replicate, take, drop, ◌-◌, arith}
use Rattle.p3_fs_core.specs.BigEndianLaws.{number_of_padded, written_after}
use Rattle.p3_fs_core.proofs.big_endian.number_of_bytes.Goals as goal

pub returns : goal.returns
returns c =
    let bytes = c.args.bytes.now in
    let k = 8 - length bytes in
    let padded = take k (replicate 8 0) ++ (c.copy_from_slice.new.self ++ drop (8 - k) (drop k (replicate 8 0))) in
    let small : k ≤ 8 = omega arith in
    number_of_padded bytes padded c.from_be_bytes.result c.requires (λ i. omega (arith, c.type_inv.bytes i))
    (written_after k c.copy_from_slice.new.self bytes small c.copy_from_slice.ensures.after)
    c.from_be_bytes.type_inv c.from_be_bytes.ensures
