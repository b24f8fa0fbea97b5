use Rattle.std.proofs.{Common.{◌≡◌, [], ap, sym, ◌∙◌, lit<}, lemmas.Result.IfOk-weaker}
use Rattle.p3_challenger.specs.Scripts.{value_received, challenge_of}
use Rattle.transcript_program.{specs.DemoTypes.{DemoValue, DemoDrawn}, proofs.ScriptLemmas.{item-shown, told-same}}
use Rattle.p3_challenger.specs.Values as value
use Rattle.transcript_program.proofs.script.told.Goals as goal

pub bytes_received-requires : goal.bytes_received-requires
bytes_received-requires c = (
  c.requires.0.note,
  ap value_received c.note-item.is
      ∙ item-shown value_received c.args.received.now _ c.note-item.result value.Nothing 3 c.requires.1.received_is (lit< tt),
)

-- what the lists hold is what was told of them
pub returns : goal.returns
returns c =
    let content = c.requires.0 in
    let shown = c.requires.1.received_is in
    let values : ◌≡◌ {A = DemoValue} (value.Scalars c.scalars_received.result.now) (value.Scalars content.values) =
    sym c.scalars_received.ensures ∙ ap value_received c.values-item.is
    ∙ item-shown value_received c.args.received.now _ c.values-item.result value.Nothing 1 shown (lit< tt) in
    let note : ◌≡◌ {A = DemoValue} (value.Bytes c.bytes_received.result.now) (value.Bytes content.note) =
    sym c.bytes_received.ensures ∙ ap value_received c.note-item.is
    ∙ item-shown value_received c.args.received.now _ c.note-item.result value.Nothing 3 shown (lit< tt) in
    let alpha : ◌≡◌ {A = DemoDrawn} (value.OfScalars c.scalars_drawn.result.now) (value.OfScalars content.alpha) =
    sym c.scalars_drawn.ensures ∙ ap challenge_of c.alpha-item.is
    ∙ item-shown challenge_of c.args.drawn.now _ c.alpha-item.result (value.OfBits []) 0 c.requires.1.drawn_is (lit< tt) in
    let indices : ◌≡◌ {A = DemoDrawn} (value.OfBits c.bits_drawn.result.now) (value.OfBits content.indices) =
    sym c.bits_drawn.ensures ∙ ap challenge_of c.indices-item.is
    ∙ item-shown challenge_of c.args.drawn.now _ c.indices-item.result (value.OfBits []) 1 c.requires.1.drawn_is (lit< tt) in
    IfOk-weaker c.lines.result _ _ (λ text h. (
      content,
      c.requires.1,
      h ∙ told-same _ _ _ _ _ _ _ _ values note alpha indices,
    )) c.lines.ensures
