-- A run of a script under a separator, or a prefix of one: its first steps.
use Rattle.std.specs.Prelude.{◌≡◌, ℕ, List, ◌++◌, length, take, flat_map}
use Rattle.p3_challenger_core.specs.Observation.{observed_all}
use Rattle.p3_fs_core.specs.Steps.{Step}
use Rattle.p3_domain_separator.specs.{Separators.HeldSeparator, SeparatorSeed.seed_of}
use Rattle.p3_runs.specs.{Absorbed.Absorbed, Plays.Play, Rules.Rules, Values.{Value, Challenge}}
use Rattle.p3_runs.specs.Runs as runs

-- the state of a challenger, a separator, and steps, each with its value
pub record Run (X F EF S : Type 0) : Type 0 where
  pub challenger : S
  pub separator : HeldSeparator
  pub steps : List X
  pub values : List (Value F EF)

-- the steps of the whole pattern
abbrev pub pattern : {X F EF S : Type 0} → Run X F EF S → List Step
pattern run = run.separator.pattern.steps

module _ {X S Symbol I F EF O Ac : Type 0} (rules : Rules S Symbol I F EF O Ac) (play : X → Play S Symbol F EF O) where
  -- the bytes of the seed, and the challenger after them
  abbrev pub seed : Run X F EF S → List ℕ
  seed run = seed_of rules.digest_of run.separator

  abbrev pub seeded : Run X F EF S → S
  seeded run = observed_all rules.alphabet.item.observed run.challenger (rules.alphabet.items (seed run))

  -- the symbols fed to the challenger: those of the seed, followed by those of each step
  abbrev pub symbols : Run X F EF S → List Symbol
  symbols run =
      flat_map rules.alphabet.item.symbols (rules.alphabet.items (seed run)) ++ runs.symbols play run.steps run.values

  -- the bytes of the proof, the challenges, the final challenger, and what each step absorbs
  abbrev pub wire : Run X F EF S → List ℕ
  wire run = runs.wires play run.steps run.values

  abbrev pub challenges : Run X F EF S → List (Challenge F EF)
  challenges run = runs.challenges play run.steps run.values (seeded run)

  abbrev pub last : Run X F EF S → S
  last run = runs.after play run.steps run.values (seeded run)

  abbrev pub absorbed : Run X F EF S → List (Absorbed F O)
  absorbed run = runs.absorbed play run.steps run.values

  -- The steps are the first ones of the pattern, each with a value that fits. The seed and the values are not too long
  -- for the alphabet, no draw meets a limit, and each witness passes.
  pub record IsFinished (run : Run X F EF S) : Type 0 where
    pub in_pattern : runs.interactions play run.steps ≡ take (length run.steps) (pattern run)
    pub seed_fits : rules.alphabet.is_too_long (length (seed run)) → ⊥
    pub finishes : runs.Finishes play run.steps run.values (seeded run)

  -- the steps are those of the whole pattern
  abbrev pub IsWhole : Run X F EF S → Type 0
  IsWhole run = runs.interactions play run.steps ≡ pattern run

  -- each witness that a prover finds is the least one that passes
  abbrev pub AreLeast : Run X F EF S → Type 0
  AreLeast run = runs.AreChosen play run.steps run.values (seeded run)
