-- Lists of values that went through the transcript, as they grow.
use Rattle.std.proofs.{Common.{◌≡◌, ℕ, ◌+◌, ◌-◌, ◌<◌, List, [], ◌∷◌, ◌++◌, Some}, Common.map}
use Rattle.p3_challenger_core.specs.{Sampling.Sampling, DrawLaws.{Drew, drew-one_more, drew-as}}
use Rattle.p3_driver_core.specs.{Bound.bound_value, BoundLaws.values-more}
use Rattle.p3_driver_core.specs.declared.bound.TranscriptBound.{TranscriptBound}

-- a value more was drawn
pub drew-bound : {S T : Type 0} (d : Sampling S T) (n : ℕ) (start : S) (bounds new : List (TranscriptBound T)) (i : ℕ)
    (here there : S) (b : TranscriptBound T) (x : T) → i < n → d.sampled here ≡ Some x → there ≡ d.after here →
    bound_value b ≡ x → new ≡ bounds ++ (b ∷ []) → Drew d n start (map bound_value bounds) (n - i) here →
    Drew d n start (map bound_value new) (n - (i + 1)) there
drew-bound d n start bounds new i here there b x more gives after is grown so_far =
    drew-as d n start (map bound_value bounds ++ (x ∷ [])) (map bound_value new) (n - (i + 1)) (d.after here) there
    (values-more bounds new b x grown is) after
    (drew-one_more d n start (map bound_value bounds) i here x more gives so_far)
