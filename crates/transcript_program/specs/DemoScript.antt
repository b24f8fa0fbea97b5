-- The demo protocol as a script, and what its two sides answer.
use Rattle.std.specs.{declared.alloc.Global.Global, Borrow.Bor, Prelude.{◌≡◌, ℕ, List, [], ◌∷◌, Vec, codes}}
use Rattle.p3_challenger.specs.{TranscriptError.{TheVariants.OutOfMemory, TranscriptError}, Separators.{Separator, contents_of}}
use Rattle.p3_challenger.specs.{Scripts.play_of, ScriptRefusals.sides_of, Verdicts.{Accepts, RefusesProof, HasNoProof, with_steps}}
use Rattle.p3_challenger.specs.{PatternSteps.steps_of, HashCalls.with_pending}
use Rattle.p3_challenger.specs.Provings.{IsProved, RefusesToProve, IsProverRun}
use Rattle.p3_field.specs.BabyBearResidues.{BabyBear}
use Rattle.transcript_program.specs.{Demo.demo_steps, Report.report, declared.arguments.ToProve.ToProve}
use Rattle.transcript_program.specs.DemoTypes.{DemoChallenger, DemoStep, DemoRules, DemoRun, DemoValue, DemoDrawn}
use Rattle.p3_challenger.specs.Kind.TheVariants as kind
use Rattle.p3_challenger.specs.Values as value
use Rattle.p3_challenger.specs.Step.TheVariants as step

-- a label, which says this
pub record LabelOf (text : List ℕ) : Type 0 where
  pub label : Bor (List ℕ)
  pub says : label.now ≡ text

-- the labels of the steps
pub record DemoLabels : Type 0 where
  pub opener : LabelOf (codes "demo")
  pub inputs : LabelOf (codes "inputs")
  pub salt : LabelOf (codes "salt")
  pub values : LabelOf (codes "values")
  pub work : LabelOf (codes "work")
  pub alpha : LabelOf (codes "alpha")
  pub note : LabelOf (codes "note")
  pub indices : LabelOf (codes "indices")
  pub closer : LabelOf (codes "demo")

-- SHA-256 with nothing before it, and a limit of 1000 candidates for a scalar
abbrev pub demo_challenger : DemoChallenger
demo_challenger =
    record { inner = record { sponge = with_pending []; hasher = record {} }; draw_limit = 1000 }

-- version 2 of the protocol `demo`, with its pattern, and one chunk
pub record IsDemoSeparator (separator : Separator) : Type 0 where
  pub version_is : separator.version ≡ 2
  pub name_is : separator.name ≡ codes "demo"
  pub chunks_are : separator.chunks ≡ codes "example" ∷ []
  pub pattern_is : steps_of separator.pattern ≡ demo_steps

-- its steps, with this public list
abbrev pub demo_script : DemoLabels → Vec BabyBear Global → List DemoStep
demo_script labels inputs =
    step.Begin labels.opener.label kind.Protocol
    ∷ step.PublicScalarsBounded labels.inputs.label inputs 4
    ∷ step.Salt labels.salt.label 8
    ∷ step.ScalarsBounded labels.values.label 4
    ∷ step.Pow labels.work.label 8
    ∷ step.ChallengeScalar labels.alpha.label
    ∷ step.HintBounded labels.note.label 16
    ∷ step.ChallengeUniformBits labels.indices.label 4 2
    ∷ step.End labels.closer.label kind.Protocol
    ∷ []

-- the protocol with these inputs, from its challenger and under its separator
pub record IsDemo (inputs : List BabyBear) (run : DemoRun) : Type 0 where
  pub labels : DemoLabels
  pub list : Vec BabyBear Global
  pub list_is : list.items ≡ inputs
  pub steps_are : run.steps ≡ demo_script labels list
  pub challenger_is : run.challenger ≡ demo_challenger
  pub separator_is : IsDemoSeparator (contents_of run.separator)

-- what a prover sends: the salt, the values, and the note
abbrev pub sent_by : ToProve → List DemoValue
sent_by ask = value.Bytes ask.salt ∷ value.Scalars ask.values.items ∷ value.Bytes ask.note.now ∷ []

-- what a proof of it says
pub record DemoContent : Type 0 where
  pub salt : List ℕ
  pub values : List BabyBear
  pub work : BabyBear
  pub note : List ℕ
  pub alpha : List BabyBear
  pub indices : List ℕ

-- a verifier has received and drawn this
pub record Says (received : List DemoValue) (drawn : List DemoDrawn) (content : DemoContent) : Type 0 where
  pub received_is : received ≡ value.Bytes content.salt ∷ value.Scalars content.values
      ∷ value.Witness content.work ∷ value.Bytes content.note ∷ []
  pub drawn_is : drawn ≡ value.OfScalars content.alpha ∷ value.OfBits content.indices ∷ []

-- and what is printed of it
abbrev pub IsReport : List DemoValue → List DemoDrawn → List ℕ → Type 0
IsReport received drawn text =
    (content : DemoContent) × Says received drawn content
    × (text ≡ report content.values content.alpha content.note content.indices)

module _ (rules : DemoRules) where
  -- the bytes are the proof of a prover with this
  pub record IsDemoProof (ask : ToProve) (bytes : List ℕ) : Type 0 where
    pub run : DemoRun
    pub is_demo : IsDemo ask.inputs.items run
    pub witnesses : List BabyBear
    pub carried : List BabyBear
    pub drawn : List DemoDrawn
    pub end : DemoChallenger
    pub proved : IsProved rules (play_of rules) run (sent_by ask) bytes witnesses carried drawn end

  -- a prover with this is refused so: there is no run of what it sends, or memory was refused
  pub record RefusesDemoProof (ask : ToProve) (e : TranscriptError) : Type 0 where
    pub run : DemoRun
    pub is_demo : IsDemo ask.inputs.items run
    pub position : ℕ
    pub refuses : RefusesToProve rules (play_of rules) (sides_of rules) run (sent_by ask) position e
    pub no_run : (e ≡ OutOfMemory → ⊥) → (values : List DemoValue) →
        IsProverRun rules (play_of rules) (with_steps run run.steps values) (sent_by ask) → ⊥

  -- the bytes are a proof with these inputs, and the text is what it says
  pub record IsDemoReport (inputs : List BabyBear) (bytes text : List ℕ) : Type 0 where
    pub run : DemoRun
    pub is_demo : IsDemo inputs run
    pub received : List DemoValue
    pub drawn : List DemoDrawn
    pub end : DemoChallenger
    pub accepted : Accepts rules (play_of rules) run bytes [] received drawn end
    pub told : IsReport received drawn text

  -- the bytes are refused so: they are no proof with these inputs, or memory was refused
  pub record RefusesDemoReport (inputs : List BabyBear) (bytes : List ℕ) (e : TranscriptError) : Type 0 where
    pub run : DemoRun
    pub is_demo : IsDemo inputs run
    pub position : ℕ
    pub refuses : RefusesProof rules (play_of rules) (sides_of rules) run bytes [] position e
    pub no_proof : (e ≡ OutOfMemory → ⊥) → HasNoProof rules (play_of rules) run bytes []
