-- The calls on a challenger that a run of a script makes.
use Rattle.std.specs.Prelude.{◌≡◌, ℕ, List, [], ◌∷◌, ◌++◌, map, flat_map, replicate}
use Rattle.p3_challenger.specs.{Segments.{Call, observe, draw}, Fronts.{Run, seed, seeded}, Plays.Play, Rules.Rules}
use Rattle.p3_challenger.specs.Values.{Value}
use Rattle.transcript_read_back.specs.CallByCall.{after_calls}
use Rattle.p3_challenger.specs.Segments as segments

-- so many draws; then values that are observed in order; and then so many draws
abbrev pub amid_draws : {T : Type 0} → ℕ → List T → ℕ → List (Call T)
amid_draws before values later = replicate before draw ++ (map observe values ++ replicate later draw)

-- a challenger of states S and symbols T call by call
module _ {S T M : Type 0} (run : S → List (Call T) → segments.Run T M S) where
  -- Calls are those of a step that feeds these symbols and leads from one state to another: it
  -- draws, observes the symbols in order, and draws.
  pub record AreOfStep (symbols : List T) (s t : S) (calls : List (Call T)) : Type 0 where
    pub before : ℕ
    pub later : ℕ
    pub are : calls ≡ amid_draws before symbols later
    pub lead : t ≡ after_calls run s calls

  module _ {X F EF O : Type 0} (play : X → Play S T F EF O) where
    -- calls are those of steps with their values, one step after another
    abbrev pub AreOfSteps : List X → List (Value F EF) → S → List (Call T) → Type 0
    AreOfSteps (x ∷ steps) (v ∷ values) s calls =
        (first : List (Call T)) × (rest : List (Call T)) × (calls ≡ first ++ rest)
        × AreOfStep ((play x).effect v).symbols s (((play x).effect v).after s) first
        × AreOfSteps steps values (((play x).effect v).after s) rest
    AreOfSteps _ _ s calls = calls ≡ []

    -- calls are those of a run: the symbols of the seed are observed, and then come the calls of
    -- the steps
    pub record AreOfRun {I Ac : Type 0} (rules : Rules S T I F EF O Ac) (x : Run X F EF S)
        (calls : List (Call T)) : Type 0 where
      pub of_seed : List (Call T)
      pub of_steps : List (Call T)
      pub are : calls ≡ of_seed ++ of_steps
      pub observes : of_seed
          ≡ map observe (flat_map rules.alphabet.item.symbols (rules.alphabet.items (seed rules play x)))
      pub lead : seeded rules play x ≡ after_calls run x.challenger of_seed
      pub follow : AreOfSteps x.steps x.values (seeded rules play x) of_steps
