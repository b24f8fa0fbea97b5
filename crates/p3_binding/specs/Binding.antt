-- What two runs that feed the same symbols have in common, with the laws for scripts: symbols bind, and hints do not
-- influence.
use Rattle.std.specs.Prelude.{◌≡◌, ◌↔◌, ℕ, ◌⊎◌, List, [], ◌∷◌, length}
use Rattle.p3_challenger_core.specs.Reading.{AreBytes}
use Rattle.p3_fs_core.specs.Steps.{Step, alternate_text}
use Rattle.p3_patterns.specs.{PatternSteps.{PatternSteps, steps_of}, Rendering.{rendering, SameButTypeNames}}
use Rattle.p3_domain_separator.specs.Separators.{contents_of}
use Rattle.p3_runs.specs.{Plays.Play, Rules.Rules, Fronts.{Run, pattern, IsFinished, IsWhole, symbols, absorbed}}
use Rattle.p3_runs.specs.Absorbed.{Absorbed, Bytes, Own}
use Rattle.p3_binding.specs.Hints.{HintsDoNotInfluence}
use Rattle.p3_script.specs.Scripts.{play_of}
use Rattle.p3_script.specs.declared.steps.Step as script

-- ---- patterns

-- the alternate rendering of a pattern, whose digest is in the seed
abbrev pub alternate_rendering : List Step → List ℕ
alternate_rendering steps = rendering alternate_text steps

-- two texts differ and share a digest
pub record Collide (digest_of : List ℕ → List ℕ) (a b : List ℕ) : Type 0 where
  pub differ : a ≡ b → ⊥
  pub share : digest_of a ≡ digest_of b

-- two patterns have one alternate rendering exactly if they are the same except for the names of types
abbrev pub RenderingsTellPatterns : Type 0
RenderingsTellPatterns = (x y : PatternSteps) →
    (alternate_rendering (steps_of x) ≡ alternate_rendering (steps_of y) ↔ SameButTypeNames (steps_of x) (steps_of y))

-- ---- what is absorbed

-- A program can hold what is absorbed: each byte is below 256, and an opaque value is one of the opaque type.
abbrev pub IsHeld : {F O : Type 0} → (O → Type 0) → Absorbed F O → Type 0
IsHeld IsOwn (Bytes bytes) = AreBytes bytes
IsHeld IsOwn (Own x) = IsOwn x
IsHeld IsOwn _ = Unit {0}

abbrev pub AreHeld : {F O : Type 0} → (O → Type 0) → List (Absorbed F O) → Type 0
AreHeld IsOwn [] = Unit {0}
AreHeld IsOwn (a ∷ more) = IsHeld IsOwn a × AreHeld IsOwn more

-- ---- runs

-- the protocols and the instances are the same
pub record SameProtocol {X F EF S : Type 0} (x y : Run X F EF S) : Type 0 where
  pub version : (contents_of x.separator).version ≡ (contents_of y.separator).version
  pub name : (contents_of x.separator).name ≡ (contents_of y.separator).name
  pub chunks : (contents_of x.separator).chunks ≡ (contents_of y.separator).chunks

module _ {X S Symbol I F EF O Ac : Type 0} (rules : Rules S Symbol I F EF O Ac) (play : X → Play S Symbol F EF O) where
  -- the patterns are the same except for the names of types, and so is what each step absorbed
  pub record SameSteps (x y : Run X F EF S) : Type 0 where
    pub patterns : SameButTypeNames (pattern x) (pattern y)
    pub values : absorbed rules play x ≡ absorbed rules play y

  -- Two runs are finished and feed the same symbols, and a program can hold what they absorb. Either both are whole, or
  -- both are prefixes of equally many steps.
  pub record FeedTheSame (x y : Run X F EF S) : Type 0 where
    pub finished : IsFinished rules play x × IsFinished rules play y
    pub held : AreHeld rules.IsOwn (absorbed rules play x) × AreHeld rules.IsOwn (absorbed rules play y)
    pub as_far : (IsWhole rules play x × IsWhole rules play y) ⊎ (length x.steps ≡ length y.steps)
    pub same : symbols rules play x ≡ symbols rules play y

  -- Their protocols and instances are the same, and so are their steps, unless the renderings of their patterns collide.
  pub record AreBound (x y : Run X F EF S) : Type 0 where
    pub protocol : SameProtocol x y
    pub steps : SameSteps x y ⊎ Collide rules.digest_of (alternate_rendering (pattern x)) (alternate_rendering (pattern y))

-- equal symbols bind any two runs, under any separators and from any challengers
abbrev pub SymbolsBind : {X S Symbol I F EF O Ac : Type 0} → Rules S Symbol I F EF O Ac →
    (X → Play S Symbol F EF O) → Type 0
SymbolsBind {X} {S} {Symbol} {I} {F} {EF} rules play =
    (x y : Run X F EF S) → FeedTheSame rules play x y → AreBound rules play x y

-- ---- scripts

module _ {S Symbol I F EF O Ac : Type 0} (Su U C K D G It St Sy : Type 0) (rules : Rules S Symbol I F EF O Ac) where
  -- equal symbols bind the runs of scripts
  abbrev pub ScriptSymbolsBind : Type 0
  ScriptSymbolsBind = SymbolsBind rules (λ (x : script.Step Su F EF U O C K Ac D G It St Sy). play_of rules x)

  -- hints do not influence the runs of scripts
  abbrev pub ScriptHintsDoNotInfluence : Type 0
  ScriptHintsDoNotInfluence =
      HintsDoNotInfluence rules (λ (x : script.Step Su F EF U O C K Ac D G It St Sy). play_of rules x)
