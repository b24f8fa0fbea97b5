-- What a round leaves where one of its steps is refused.
use Rattle.std.proofs.Common.{◌≡◌, ℕ, List, [], ◌++◌, inl, inr, Result, Ok, Err, Some, sym, ap, ◌∙◌}
use Rattle.std.specs.{List.flat_map, Result.{IfOk, OnErr}}
use Rattle.p3_challenger.specs.{TranscriptError.TranscriptError, Alphabet.Alphabet, Feeding.{Feeds, OnlyDraws}}
use Rattle.p3_challenger.specs.{Effects.{observing, observing_bytes}, Observation.Observation, Sampling.Sampling}
use Rattle.p3_challenger.specs.FeedingLaws.{in_sequence-feeds, played-fed, refused-fed, refused-drawn}
use Rattle.p3_challenger.specs.{Driving.{Driving, KeepsOrRefuses}, Proving.{Writes, RefusesToWrite}}
use Rattle.p3_challenger.specs.Transcripts.{Meaning}
use Rattle.uses.specs.SentAndDrawn.{DrawnAfter, LeavesRound}

module _ {S Symbol A : Type 0} (fed : S → List Symbol → S) (fed_nothing : (s : S) → fed s [] ≡ s)
    (fed_more : (s : S) (a b : List Symbol) → fed (fed s a) b ≡ fed s (a ++ b)) (next : S → S)
    (sent : Meaning S Symbol A) (feeds : Feeds fed sent.effect) (before : Driving S) where
  pub sent-refused : (after : Driving S) (e : TranscriptError) → RefusesToWrite sent before e after →
      LeavesRound fed next sent.effect.symbols before.transcript.challenger after.transcript.challenger
  sent-refused after e h = inl (refused-fed fed fed_nothing fed_more sent feeds before.transcript after.transcript e
      h.refuses)

  pub drawn-refused : {B R : Type 0} (drawn : Meaning S Symbol B) → OnlyDraws next drawn.effect →
      (here after : Driving S) (x : A) (value : R → B) (result : Result R TranscriptError) →
      Writes sent before x here → KeepsOrRefuses drawn here value result after →
      OnErr result (LeavesRound fed next sent.effect.symbols before.transcript.challenger after.transcript.challenger)
  drawn-refused drawn draws here after x value (Ok y) first h = tt
  drawn-refused drawn draws here after x value (Err e) first h =
      inr (
        here.transcript.challenger,
        played-fed fed fed_nothing fed_more sent feeds before.transcript here.transcript x first.plays,
        refused-drawn next drawn draws here.transcript after.transcript e h.0,
      )

-- the seed and then the value, and the draw after them
module _ {S Symbol I T R : Type 0} (fed : S → List Symbol → S) (fed_nothing : (s : S) → fed s [] ≡ s)
    (fed_more : (s : S) (a b : List Symbol) → fed (fed s a) b ≡ fed s (a ++ b)) (alphabet : Alphabet S Symbol I)
    (o : Observation S Symbol T) (d : Sampling S T) (seed : List ℕ) (x : T)
    (seed_feeds : Feeds fed (observing_bytes alphabet seed)) (value_feeds : Feeds fed (observing o x)) where
  pub drawn-first : (value : R → T) (s begun after : S) (result : Result R TranscriptError) →
      begun ≡ (observing_bytes alphabet seed).after s →
      IfOk result (λ r. (d.sampled (o.observed begun x) ≡ Some (value r)) × (after ≡ d.after (o.observed begun x))) →
      IfOk result (λ r. DrawnAfter fed d (flat_map alphabet.item.symbols (alphabet.items seed) ++ o.symbols x) (value r)
      s)
  drawn-first value s begun after (Ok r) is h =
      let both = in_sequence-feeds fed fed_nothing fed_more (observing_bytes alphabet seed) (observing o x) seed_feeds
      value_feeds in (
        o.observed ((observing_bytes alphabet seed).after s) x,
        both.feeds s,
        ap (λ u. d.sampled (o.observed u x)) (sym is) ∙ h.0,
      )
  drawn-first value s begun after (Err e) is h = tt
