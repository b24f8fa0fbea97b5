use Rattle.p3_duplex.proofs.duplex_challenger.lane_search.candidates_from.Goals as goal

pub returns : goal.returns
returns g c = λ l lt. c.from_fn.ensures l lt
