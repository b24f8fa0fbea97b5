use Rattle.std.proofs.Common.{ℕ, List, ◌<◌, ◌^◌, length, map, arith, rules}
use Rattle.std.proofs.lemmas.{List.length-map, List.Elements.All-map}
use Rattle.tealmuze_calls.specs.{Forms.counted_bytes, Readings.FitsWord}
use Rattle.tealmuze_calls.proofs.{Codes.counted-code, Dues.due, Rest.listed-next}
use Rattle.tealmuze_calls.proofs.description.parse_chunks.Goals as goal

-- each length and their number have a form of 8 bytes
pub returns-clause-held : goal.returns-clause-held
returns-clause-held c = record {
  count = omega (
    arith,
    length-map c.loop-read.chunks.items (λ chunk. chunk.now),
    c.loop-read.invariant.count,
    c.loop-read.auto.read-end,
    (let f : c.in_ok-count.count < 2 ^ 64 = search rules in f),
  );
  each = All-map (λ bytes. FitsWord (length bytes)) (λ chunk. chunk.now) c.loop-read.chunks.items
      c.loop-read.invariant.held;
}

-- a chunk is missing
pub returns-in_err-counted-clause-err : goal.returns-in_err-counted-clause-err
returns-in_err-counted-clause-err c =
    let Fits = λ (chunk : List ℕ). FitsWord (length chunk) in
    let chunks = c.loop-read.chunks.items in
    let left = c.loop-read.from.left.now in
    let less : length (map (λ chunk. chunk.now) chunks) < c.in_ok-count.count = omega (arith, length-map chunks (λ chunk. chunk.now), c.loop-read.invariant.count, c.loop-read-test.true) in
    due _ c.from_residual-in_err-counted.result _ c.from_residual-in_err-counted.ensures.1 (λ others rest are is.
    listed-next Fits counted_bytes (λ x y a b x_fits y_fits e. (counted-code x y a b x_fits y_fits e).1) ⊥
    c.args.from.now.left.now c.number.new.self.left.now left rest c.in_ok-count.count (map (λ chunk. chunk.now) chunks)
    others c.in_ok-count.ensures.read (let f : c.in_ok-count.count < 2 ^ 64 = search rules in f)
    c.loop-read.invariant.so_far less (All-map Fits (λ chunk. chunk.now) chunks c.loop-read.invariant.held) are.count
    are.each is c.in_err-counted.ensures.err)
