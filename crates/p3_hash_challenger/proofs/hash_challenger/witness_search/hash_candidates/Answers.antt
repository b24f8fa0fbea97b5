use Rattle.std.proofs.Common.{◌≡◌, ◌+◌, ◌*◌, ◌/◌, ◌%◌, ◌<◌, ◌≤◌, Some, length, take, slice_range, ap, ◌∙◌, arith}
use Rattle.p3_hash_challenger.proofs.Messages.{ends_before, range-of_front}
use Rattle.std.proofs.{lemmas.List.length-take-le, Math.Nat.{mul-mod_right, mul-div_cancel_left}}
use Rattle.p3_hash_challenger.proofs.hash_challenger.witness_search.hash_candidates.Goals as goal

pub hash_many-requires : goal.hash_many-requires
hash_many-requires g c =
    let count = length c.args.digests.now in
    let each = length c.args.pending.now + g.row.W in
    let messages = c.write_candidates.new.messages in
    let inside : count * each ≤ length messages =
    omega (arith, c.requires.room, c.write_candidates.ensures.same_room) in
    record {
      whole = ap (λ n. n % count) (length-take-le (count * each) messages inside) ∙ mul-mod_right count each;
    }

-- message j of the batch is that of candidate first + j
pub returns-clause-each_digest : goal.returns-clause-each_digest
returns-clause-each_digest g c =
    let count = length c.args.digests.now in
    let each = length c.args.pending.now + g.row.W in
    let messages = c.write_candidates.new.messages in
    let hash = g.H.CryptographicHasher.hash c.args.hasher.now in
    let inside : count * each ≤ length messages =
    omega (arith, c.requires.room, c.write_candidates.ensures.same_room) in
    let batch = take (count * each) messages in
    λ j below.
    let some : 0 < count = omega (arith, below) in
    let size : length batch / count ≡ each =
    ap (λ n. n / count) (length-take-le (count * each) messages inside) ∙ mul-div_cancel_left each some in
    let message = c.write_candidates.ensures.each_message j below in
    record {
      is =
          c.hash_many.ensures.each_digest j below
          ∙ ap (λ n. Some (hash (slice_range batch (j * n) (j * n + n)))) size
          ∙ ap (λ m. Some (hash m)) (range-of_front messages (count * each) (j * each) (j * each + each)
          (ends_before j count each below) inside ∙ message.is);
      whole = message.whole;
    }
