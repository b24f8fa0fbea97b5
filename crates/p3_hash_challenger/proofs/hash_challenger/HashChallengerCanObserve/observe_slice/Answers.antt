use Rattle.std.proofs.Common.{◌≡◌, OnOk, subst, sym}
use Rattle.p3_hash_challenger.specs.HashStateLaws.{observed_all-fed}
use Rattle.p3_hash_challenger.proofs.hash_challenger.HashChallengerCanObserve.observe_slice.Goals as goal

-- values observed in order are fed
pub returns-clause-ok : goal.returns-clause-ok
returns-clause-ok g c =
    let fed_as_one = sym (observed_all-fed c.args.self.now c.args.values.now) in
    subst (λ s. OnOk c.feed.result (c.feed.new.self ≡ s)) fed_as_one c.feed.ensures.ok
