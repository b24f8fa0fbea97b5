use Rattle.std.proofs.Common.{◌≡◌, OnOk, subst, sym, ◌∙◌}
use Rattle.p3_hash_challenger.specs.HashStateLaws.{array_observed-is_fed}
use Rattle.p3_hash_challenger.proofs.hash_challenger.HashChallenger.feed.Goals as goal

-- the values are not empty, so they are added to what is pending
pub returns-clause-ok : goal.returns-clause-ok
returns-clause-ok g c =
    let filled = sym c.is_empty.ensures ∙ c.if-is_empty.false in
    let added = array_observed-is_fed c.args.self.now c.args.values.now filled in
    subst (λ s. OnOk c.absorb.result (c.absorb.new.self ≡ s)) added c.absorb.ensures.ok
