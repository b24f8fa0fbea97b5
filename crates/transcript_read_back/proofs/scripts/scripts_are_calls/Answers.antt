use Rattle.p3_challenger.specs.SamplingLaws.{in_row-is_sampling, made_of-is_sampling}
use Rattle.transcript_read_back.{specs.AmidLaws.{some-exactly, row-exactly}, proofs.MakesQueries.each-makes_queries}
use Rattle.transcript_read_back.proofs.Steps.{FeedsAndDraws, Any, each-any}
use Rattle.p3_challenger.specs.Sampling as sampling
use Rattle.transcript_read_back.proofs.scripts.scripts_are_calls.Goals as goal

pub returns : goal.returns
returns g c = λ run by.
    let next = g.S.Challenger.Sponge.next in
    let fed = g.S.Challenger.Sponge.fed in
    let fed_nothing = g.S.Challenger.Sponge.fed_nothing in
    let fed_more = g.S.Challenger.Sponge.fed_more in
    let codec = g.S.Codec.Codec in
    let is_codec = g.met.S.Codec.Codec.is_codec in
    let item = g.S.Challenger.CanObserve-1.observation in
    let scalar = some-exactly next fed Any codec.observation is_codec.observes
    (λ x _. (g.met.S.Codec.Codec.symbols_are_prefix_code c.requires.values).some x) in
    let laws : FeedsAndDraws next fed _ = record {
      fed_nothing = fed_nothing;
      fed_more = fed_more;
      bytes = λ bytes are s. row-exactly next fed fed_nothing fed_more g.S.Unit.Unit.is_item item
          (some-exactly next fed g.S.Unit.Unit.is_item item g.met.S.Challenger.CanObserve-1.observes
          c.requires.items_feed) (g.S.Unit.Unit.items bytes) (g.met.S.Unit.Unit.items_are bytes are) s;
      counts = c.counts_are_told.ensures.bytes;
      scalar = scalar;
      extension = λ x _ s. row-exactly next fed fed_nothing fed_more Any codec.observation scalar
          (g.S.Extension.BasedVectorSpace.coefficients x) (each-any (g.S.Extension.BasedVectorSpace.coefficients x)) s;
      opaque = some-exactly next fed g.S.Suite.is_own g.S.Challenger.CanObserve-2.observation
          g.met.S.Challenger.CanObserve-2.observes c.requires.opaque_feeds;
      witness = g.met.S.Group.StepGroup.draws_and_feeds.witness_observed;
      witness_some = λ there. (g.met.S.Group.StepGroup.witnesses_prefix_free there).some;
      scalars = is_codec.samples;
      extensions = made_of-is_sampling next g.S.Extension.BasedVectorSpace.element
          (sampling.in_row codec.sampling g.S.Extension.BasedVectorSpace.DIMENSION)
          (in_row-is_sampling next codec.sampling is_codec.samples g.S.Extension.BasedVectorSpace.DIMENSION);
      bits = g.met.S.Group.StepGroup.draws_and_feeds.bits_drawn;
      uniform = g.met.S.Group.StepGroup.draws_and_feeds.uniform_drawn;
      before_witness = g.met.S.Group.StepGroup.draws_and_feeds.before_drawn;
    } in
    each-makes_queries _ _ _ _ _ _ _ _ _ _ run fed next by laws c.separators_have_seeds.ensures.bytes
