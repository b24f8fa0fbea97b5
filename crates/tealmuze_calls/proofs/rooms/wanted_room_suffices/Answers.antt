use Rattle.std.proofs.Common.{zero, suc, [], ◌∷◌}
use Rattle.tealmuze_calls.proofs.rooms.wanted_room_suffices.Goals as goal

pub returns-clause-verify : goal.returns-clause-verify
returns-clause-verify c [] proof carried = λ before after returned wanted fits answers wants room. absurd wants
returns-clause-verify c (zero ∷ protocol) proof carried = c.room_of_suite_suffices.ensures.verify protocol proof carried
returns-clause-verify c (suc zero ∷ protocol) proof carried = c.room_of_suite_suffices-2.ensures.verify protocol proof carried
returns-clause-verify c (suc (suc zero) ∷ protocol) proof carried = c.room_of_suite_suffices-3.ensures.verify protocol proof carried
returns-clause-verify c (suc (suc (suc zero)) ∷ protocol) proof carried = c.room_of_suite_suffices-4.ensures.verify protocol proof carried
returns-clause-verify c (suc (suc (suc (suc zero))) ∷ protocol) proof carried = c.room_of_suite_suffices-5.ensures.verify protocol proof carried
returns-clause-verify c (suc (suc (suc (suc (suc zero)))) ∷ protocol) proof carried = c.room_of_suite_suffices-6.ensures.verify protocol proof carried
returns-clause-verify c (suc (suc (suc (suc (suc (suc zero))))) ∷ protocol) proof carried = c.room_of_suite_suffices-7.ensures.verify protocol proof carried
returns-clause-verify c (suc (suc (suc (suc (suc (suc (suc zero)))))) ∷ protocol) proof carried = c.room_of_suite_suffices-8.ensures.verify protocol proof carried
returns-clause-verify c (suc (suc (suc (suc (suc (suc (suc (suc n))))))) ∷ protocol) proof carried =
    λ before after returned wanted fits answers wants room. absurd wants

pub returns-clause-prove : goal.returns-clause-prove
returns-clause-prove c [] values = λ before after returned wanted fits answers wants room. absurd wants
returns-clause-prove c (zero ∷ protocol) values = c.room_of_suite_suffices.ensures.prove protocol values
returns-clause-prove c (suc zero ∷ protocol) values = c.room_of_suite_suffices-2.ensures.prove protocol values
returns-clause-prove c (suc (suc zero) ∷ protocol) values = c.room_of_suite_suffices-3.ensures.prove protocol values
returns-clause-prove c (suc (suc (suc zero)) ∷ protocol) values = c.room_of_suite_suffices-4.ensures.prove protocol values
returns-clause-prove c (suc (suc (suc (suc zero))) ∷ protocol) values = c.room_of_suite_suffices-5.ensures.prove protocol values
returns-clause-prove c (suc (suc (suc (suc (suc zero)))) ∷ protocol) values = c.room_of_suite_suffices-6.ensures.prove protocol values
returns-clause-prove c (suc (suc (suc (suc (suc (suc zero))))) ∷ protocol) values = c.room_of_suite_suffices-7.ensures.prove protocol values
returns-clause-prove c (suc (suc (suc (suc (suc (suc (suc zero)))))) ∷ protocol) values = c.room_of_suite_suffices-8.ensures.prove protocol values
returns-clause-prove c (suc (suc (suc (suc (suc (suc (suc (suc n))))))) ∷ protocol) values =
    λ before after returned wanted fits answers wants room. absurd wants
