-- What a drawn value depends on.
use Rattle.std.specs.Prelude.{◌≡◌, List, Some}
use Rattle.p3_challenger_core.specs.{Sponge.IsFed, Sampling.Sampling}

-- From the first state, exactly these symbols are fed. Then the value is drawn, and the draw leaves the last
-- state.
abbrev pub DrawsAfter : {S Symbol X : Type 0} → (S → List Symbol → S) → Sampling S X → List Symbol → X → S → S → Type 0
DrawsAfter {S} fed d symbols x s t =
    (here : S) × IsFed fed s symbols here × (d.sampled here ≡ Some x) × (t ≡ d.after here)
