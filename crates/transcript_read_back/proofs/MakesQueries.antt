-- Each finished run of a script is calls, and makes a query.
use Rattle.std.proofs.Common.{List, refl}
use Rattle.p3_challenger.specs.{Reading.AreBytes, Segments.{Call, Run}, SeparatorSeed.seed_of, Fronts.seed}
use Rattle.p3_challenger.specs.{Separators.HeldSeparator, Rules.Rules, Scripts.play_of}
use Rattle.transcript_read_back.specs.{CallByCall.IsCallByCall, RunCallLaws.run-has_calls}
use Rattle.transcript_read_back.specs.ScriptReadBack.{EachScriptMakesQueries}
use Rattle.transcript_read_back.proofs.Steps.{FeedsAndDraws, step-exactly}
use Rattle.p3_challenger.specs.Step as script

module _ {S T M I F EF O Ac : Type 0} (Su U C K D G It St Sy : Type 0) (r : Rules S T I F EF O Ac)
    (run : S → List (Call T) → Run T M S) (fed : S → List T → S) (next : S → S) (by : IsCallByCall run fed next)
    (laws : FeedsAndDraws next fed r)
    (seeds : (held : HeldSeparator) → AreBytes (seed_of r.digest_of held)) where
  pub each-makes_queries : EachScriptMakesQueries Su U C K D G It St Sy r run
  each-makes_queries x finished held =
      let found = run-has_calls run fed next by r (λ (y : script.Step Su F EF U O C K Ac D G It St Sy). play_of r y)
      (step-exactly next fed r laws) x finished held
      (laws.bytes (seed r (λ (y : script.Step Su F EF U O C K Ac D G It St Sy). play_of r y) x) (seeds x.separator)
      x.challenger) in
      ((run x.challenger found.0).queries, record { calls = found.0; are_calls = found.1; queries_are = refl })
