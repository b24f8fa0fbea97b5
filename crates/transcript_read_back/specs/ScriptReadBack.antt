-- The same of scripts.
use Rattle.std.specs.Prelude.{List}
use Rattle.p3_challenger.specs.{Segments.{Call, Run}, Rules.Rules, Scripts.play_of}
use Rattle.transcript_read_back.specs.TranscriptReadBack.{EachMakesQueries, TranscriptsReadBack}
use Rattle.transcript_read_back.specs.TranscriptReadBack.{TranscriptsReadBackOrCollide}
use Rattle.p3_challenger.specs.Step as script

module _ {S T M I F EF O Ac : Type 0} (Su U C K D G It St Sy : Type 0) (rules : Rules S T I F EF O Ac)
    (run : S → List (Call T) → Run T M S) where
  -- each finished run of a script makes a query
  abbrev pub EachScriptMakesQueries : Type 0
  EachScriptMakesQueries =
      EachMakesQueries run rules (λ (x : script.Step Su F EF U O C K Ac D G It St Sy). play_of rules x)

  -- runs of scripts are bound by what they query
  abbrev pub ScriptsReadBack : (S → List T) → S → Type 0
  ScriptsReadBack pending start =
      TranscriptsReadBack run rules
      (λ (x : script.Step Su F EF U O C K Ac D G It St Sy). play_of rules x) pending start

  -- or two collide
  abbrev pub ScriptsReadBackOrCollide : (S → List T) → (List M → List M → Type 0) → (M → M → Type 0) → S → Type 0
  ScriptsReadBackOrCollide pending LastAlike Collide start =
      TranscriptsReadBackOrCollide run rules
      (λ (x : script.Step Su F EF U O C K Ac D G It St Sy). play_of rules x) pending LastAlike Collide start
