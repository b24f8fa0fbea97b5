use Rattle.std.proofs.Common.{◌∷◌, []}
use Rattle.p3_sumcheck.proofs.{Outcomes.{complete, disagrees, outcome, passed, sound}, Refusing.faults}
use Rattle.p3_sumcheck.proofs.verifier.verify.Goals as goal

pub returns-clause-only : goal.returns-clause-only
returns-clause-only g c played last end accepts =
    outcome _ g.met.Cdc.Codec.is_codec.encodes (λ a b. c.only_memory_refuses_sent_values.ensures.list _ (a ∷ b ∷ []))
    (c.only_memory_refuses_drawn_values.ensures.value _) (λ read. read.0.items) (λ read. read.1) c.args.claim
    c.args.rounds _ _ c.receive_rounds.result played last end c.receive_rounds.ensures.accepts
    c.receive_rounds.ensures.refuses accepts

pub returns-clause-passed : goal.returns-clause-passed
returns-clause-passed g c =
    passed _ g.met.Cdc.Codec.is_codec.encodes (λ a b. c.only_memory_refuses_sent_values.ensures.list _ (a ∷ b ∷ []))
    (c.only_memory_refuses_drawn_values.ensures.value _) (λ read. read.0.items) (λ read. read.1) c.args.claim
    c.args.rounds _ _ c.receive_rounds.result c.receive_rounds.ensures.accepts

pub returns-clause-next : goal.returns-clause-next
returns-clause-next g c next =
    faults _ c.args.claim c.args.rounds _ _ c.receive_rounds.result next c.receive_rounds.ensures.refuses

pub returns-clause-disagrees : goal.returns-clause-disagrees
returns-clause-disagrees g c i played current here end few accepts differs =
    disagrees _ g.met.Cdc.Codec.is_codec.encodes (λ a b. c.only_memory_refuses_sent_values.ensures.list _ (a ∷ b ∷ []))
    (c.only_memory_refuses_drawn_values.ensures.value _) (λ read. read.0.items) (λ read. read.1) c.args.claim
    c.args.rounds _ _ i here end played current accepts differs c.receive_rounds.result few
    c.receive_rounds.ensures.accepts c.receive_rounds.ensures.refuses

pub returns-clause-complete : goal.returns-clause-complete
returns-clause-complete g c table point value p q sent rest proves =
    complete _ g.met.Cdc.Codec.is_codec.encodes (λ a b. c.only_memory_refuses_sent_values.ensures.list _ (a ∷ b ∷ []))
    (c.only_memory_refuses_drawn_values.ensures.value _) (λ read. read.0.items) (λ read. read.1) c.args.claim
    c.args.rounds _ _ c.receive_rounds.result table point value p q sent rest
    g.met.F.PrimeCharacteristicRing.are_residues c.receive_rounds.ensures.accepts c.receive_rounds.ensures.refuses proves

pub returns-clause-sound : goal.returns-clause-sound
returns-clause-sound g c table played =
    sound _ g.met.Cdc.Codec.is_codec.encodes (λ a b. c.only_memory_refuses_sent_values.ensures.list _ (a ∷ b ∷ []))
    (c.only_memory_refuses_drawn_values.ensures.value _) (λ read. read.0.items) (λ read. read.1) c.args.claim
    c.args.rounds _ _ c.receive_rounds.result table played g.met.F.PrimeCharacteristicRing.are_residues
    c.receive_rounds.ensures.accepts
