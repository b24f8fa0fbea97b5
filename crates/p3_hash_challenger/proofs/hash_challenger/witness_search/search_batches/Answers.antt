use Rattle.std.proofs.Common.{◌≡◌, ℕ, ◌+◌, ◌*◌, ◌≤◌, length, take, sym, ap, subst, ◌∙◌, arith, rules}
use Rattle.std.proofs.{lemmas.List.length-take-le, Math.Nat.mul-le-mul_right}
use Rattle.p3_grinding.specs.Checks.{NoneOf}
use Rattle.p3_hash_challenger.specs.{HashState.HashState, WitnessSearch.{candidate_check, digest_check}}
use Rattle.p3_hash_challenger.proofs.{Batches.{first-passes, none-passes}, DigestDraws.same-answers}
use Rattle.p3_hash_challenger.proofs.hash_challenger.witness_search.search_batches.Goals as goal

-- there are as many digests as candidates in the batch
pub hash_candidates-requires : goal.hash_candidates-requires
hash_candidates-requires g c =
    let count = c.min-count.result in
    let digests = c.batches.digests in
    let each = length c.input-pending.result.now + g.row.W in
    let short : count ≤ length c.args.digests.now = omega (arith, c.min-count.ensures, c.batches.auto.digests) in
    let batch : length (take count digests) ≡ count =
    length-take-le count digests (omega (arith, short, c.batches.auto.digests)) in
    let size : length c.input-pending.result.now ≡ length c.args.challenger.now.sponge.pending =
    ap length c.input-pending.ensures in
    let room : count * each ≤ length c.batches.messages =
    let rows : count * each ≤ length c.args.digests.now * each = mul-le-mul_right each short in
    let all : length c.args.messages.now ≡ length c.args.digests.now * each =
    c.requires.room ∙ ap (λ n. length c.args.digests.now * (n + g.row.W)) (sym size) in
    omega (arith, rows, all, c.batches.auto.messages) in (
      search rules,
      (
        c.batches.invariant.2,
        (
          subst (λ n. n * each ≤ length c.batches.messages) (sym batch) room,
          omega (arith, batch, c.min-count.ensures, c.batches-test.true, c.ranges.num_candidates.fits),
        ),
      ),
    )

-- the first digest that is accepted is that of the first candidate that passes
pub returns-in-Some : goal.returns-in-Some
returns-in-Some g c =
    let hasher = g.H.CryptographicHasher in
    let challenger = c.args.challenger.now in
    let encoded = g.K.ByteCandidates.encoded c.args.candidates.now in
    let accepted = g.K.ByteCandidates.accepted c.args.candidates.now in
    let digests = c.hash_candidates.new.digests in
    let first = c.batches.first in
    let count = c.min-count.result in
    let batch : length (take count c.batches.digests) ≡ count =
    length-take-le count c.batches.digests (omega (arith, c.min-count.ensures, c.batches.auto.digests)) in
    let same_count : length digests ≡ count = c.hash_candidates.ensures.same_count ∙ batch in
    let within : first + length digests ≤ c.args.num_candidates =
    omega (arith, c.min-count.ensures, c.batches.invariant.0, same_count, c.batches-test.true) in
    first-passes (candidate_check hasher.hash g.row.OUT_LEN hasher.filler g.row.S encoded accepted) challenger
    (digest_check g.row.S accepted) digests first (length digests)
    (λ l below. same-answers hasher.hash g.row.OUT_LEN hasher.filler g.row.S g.row.W encoded accepted challenger first
    digests c.requires.some_bytes c.requires.one_digest
    (g.met.H.CryptographicHasher.digests challenger.hasher) c.challenger.inside.hasher c.input-pending.result.now
    (ap (λ (s : HashState ℕ g.row.H.Denot). s.hasher) c.challenger.view_is) c.input-pending.ensures l
    (c.hash_candidates.ensures.each_digest l (omega (arith, below, c.hash_candidates.ensures.same_count))))
    c.batches.invariant.1 c.args.num_candidates c.in-Some.lane within c.in-Some.ensures

-- where no digest is accepted, no candidate passes up to the next batch
pub batches-preserved : goal.batches-preserved
batches-preserved g c =
    let hasher = g.H.CryptographicHasher in
    let challenger = c.args.challenger.now in
    let encoded = g.K.ByteCandidates.encoded c.args.candidates.now in
    let accepted = g.K.ByteCandidates.accepted c.args.candidates.now in
    let digests = c.hash_candidates.new.digests in
    let first = c.batches.first in
    let count = c.min-count.result in
    let batch : length (take count c.batches.digests) ≡ count =
    length-take-le count c.batches.digests (omega (arith, c.min-count.ensures, c.batches.auto.digests)) in
    let same_count : length digests ≡ count = c.hash_candidates.ensures.same_count ∙ batch in
    let check = candidate_check hasher.hash g.row.OUT_LEN hasher.filler g.row.S encoded accepted in
    let none : NoneOf check challenger (first + length digests) =
    none-passes check challenger (digest_check g.row.S accepted) digests first (length digests)
    (λ l below. same-answers hasher.hash g.row.OUT_LEN hasher.filler g.row.S g.row.W encoded accepted challenger first
    digests c.requires.some_bytes c.requires.one_digest
    (g.met.H.CryptographicHasher.digests challenger.hasher) c.challenger.inside.hasher c.input-pending.result.now
    (ap (λ (s : HashState ℕ g.row.H.Denot). s.hasher) c.challenger.view_is) c.input-pending.ensures l
    (c.hash_candidates.ensures.each_digest l (omega (arith, below, c.hash_candidates.ensures.same_count))))
    c.batches.invariant.1 c.in-None.ensures in (
      omega (arith, c.min-count.ensures, c.batches.invariant.0, c.batches-test.true),
      subst (λ n. NoneOf check challenger (first + n)) same_count none,
      c.hash_candidates.ensures.kept,
    )
