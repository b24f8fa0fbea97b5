-- What whole transcripts query a permutation, or a hash function, with tells of them.
use Rattle.std.specs.Prelude.{◌≡◌, ◌⊎◌, List, length}
use Rattle.p3_challenger.specs.{Segments.Call, Queries.CollideAtSomePlace, Binding.{AreHeld, AreBound}, Plays.Play}
use Rattle.p3_challenger.specs.{Fronts.{Run, IsFinished, IsWhole, absorbed, last}, Rules.Rules}
use Rattle.transcript_read_back.specs.RunCalls.{AreOfRun}
use Rattle.p3_challenger.specs.Segments as segments

-- a challenger of states S and symbols T call by call, where a query is an M: a state of its
-- permutation, or a string that it hashes
module _ {S T M : Type 0} (run : S → List (Call T) → segments.Run T M S) {X I F EF O Ac : Type 0}
    (rules : Rules S T I F EF O Ac) (play : X → Play S T F EF O) where
  -- the run of a script makes these queries, in order
  pub record MakesQueries (x : Run X F EF S) (queries : List M) : Type 0 where
    pub calls : List (Call T)
    pub are_calls : AreOfRun run play rules x calls
    pub queries_are : queries ≡ (run x.challenger calls).queries

  -- each finished run, of what a program can hold, makes a query
  abbrev pub EachMakesQueries : Type 0
  EachMakesQueries =
      (x : Run X F EF S) → IsFinished rules play x → AreHeld rules.IsOwn (absorbed rules play x) →
      (queries : List M) × MakesQueries x queries

  -- what is pending in a state
  module _ (pending : S → List T) where
    -- Two runs begin at this state, and are finished, and what they absorb a program can hold.
    -- Either both are whole, or they are fronts of equally many steps. They leave the same pending.
    pub record EndAlike (start : S) (x y : Run X F EF S) : Type 0 where
      pub begin : (x.challenger ≡ start) × (y.challenger ≡ start)
      pub finished : IsFinished rules play x × IsFinished rules play y
      pub held : AreHeld rules.IsOwn (absorbed rules play x) × AreHeld rules.IsOwn (absorbed rules play y)
      pub as_far : (IsWhole rules play x × IsWhole rules play y) ⊎ (length x.steps ≡ length y.steps)
      pub pending_same : pending (last rules play x) ≡ pending (last rules play y)

    -- Two runs that end alike, and query the same, are bound: their protocols and instances are
    -- the same, and so are their steps, unless the renderings of their patterns collide.
    abbrev pub TranscriptsReadBack : S → Type 0
    TranscriptsReadBack start =
        (x y : Run X F EF S) (queries : List M) → EndAlike start x y → MakesQueries x queries → MakesQueries y queries →
        AreBound rules play x y

    -- Two runs that end alike, and query equally many, the last alike, are bound, or at one
    -- place of what they query two collide.
    abbrev pub TranscriptsReadBackOrCollide : (LastAlike : List M → List M → Type 0)
        (Collide : M → M → Type 0) → S → Type 0
    TranscriptsReadBackOrCollide LastAlike Collide start =
        (x y : Run X F EF S) (queries others : List M) → EndAlike start x y → MakesQueries x queries →
        MakesQueries y others → length queries ≡ length others → LastAlike queries others →
        AreBound rules play x y ⊎ CollideAtSomePlace Collide queries others
