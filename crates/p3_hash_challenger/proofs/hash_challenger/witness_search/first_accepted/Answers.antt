use Rattle.std.proofs.Common.{◌≡◌, true, false, Some, slice_get, sym, ap, subst, ◌∙◌, inl, inr, arith, rules}
use Rattle.std.{proofs.lemmas.Bool.cases_lt, proofs.lemmas.Option.slice_get-get_or, specs.Option.option_map}
use Rattle.p3_grinding.specs.Checks.{PassesAt}
use Rattle.p3_hash_challenger.specs.WitnessSearch.{digest_check, first_outputs}
use Rattle.p3_hash_challenger.proofs.hash_challenger.witness_search.first_accepted.Goals as goal

false_not_true : Some false ≡ Some true → ⊥
false_not_true e = search (rules, e)

pub loop-j-init : goal.loop-j-init
loop-j-init g c = λ k below. absurd (omega (arith, below))

-- this digest is accepted
pub returns-then-accepts : goal.returns-then-accepts
returns-then-accepts g c =
    let accepted = g.K.ByteCandidates.accepted c.args.candidates.now in
    let digest = c.index-digests-j.result in
    let found : slice_get c.args.digests.now c.loop-j.j ≡ Some digest =
    slice_get-get_or c.args.digests.now c.loop-j.j digest c.loop-j-test.true ∙ ap Some (sym c.index-digests-j.is) in
    record {
      below = c.loop-j-test.true;
      passes =
          ap (option_map (λ d. accepted (first_outputs g.row.S d))) found
          ∙ ap (λ outputs. Some (accepted outputs)) (sym c.outputs_of.ensures)
          ∙ ap Some (sym c.accepts.ensures ∙ c.if-accepts.true);
      first = c.loop-j.invariant;
    }

-- this digest is not
pub loop-j-preserved : goal.loop-j-preserved
loop-j-preserved g c =
    let accepted = g.K.ByteCandidates.accepted c.args.candidates.now in
    let digest = c.index-digests-j.result in
    let digests = c.args.digests.now in
    let found : slice_get digests c.loop-j.j ≡ Some digest =
    slice_get-get_or digests c.loop-j.j digest c.loop-j-test.true ∙ ap Some (sym c.index-digests-j.is) in
    let is =
    ap (option_map (λ d. accepted (first_outputs g.row.S d))) found
    ∙ ap (λ outputs. Some (accepted outputs)) (sym c.outputs_of.ensures)
    ∙ ap Some (sym c.accepts.ensures ∙ c.if-accepts.false) in
    λ k below passes. elim (cases_lt k c.loop-j.j) [
      | inl earlier ↦ c.loop-j.invariant k earlier passes
      | inr here ↦
          let same : k ≡ c.loop-j.j = omega (arith, here, below) in
          false_not_true (sym is ∙ subst (λ n. PassesAt (digest_check g.row.S accepted) digests n) same passes)
    ]

pub returns : goal.returns
returns g c = λ n below. c.loop-j.invariant n (omega (arith, below, c.loop-j-test.false))
