-- What the program answers.
use Rattle.std.specs.{Prelude.{◌≡◌, ℕ, List, [], ◌∷◌, ◌++◌, ◌⊎◌, codes, Option, string_bytes}, Fmt.decimal}
use Rattle.std.specs.{Io.KnownBytes.{Appends, Consumes, IsAtEnd}, declared.io.ErrorKind.ErrorKind}
use Rattle.std.specs.declared.io.ErrorKind.TheVariants.{InvalidData}
use Rattle.hex.specs.Hex.{encode_lower}
use Rattle.sha2.specs.Sha256.{sha256}
use Rattle.p3_challenger.specs.{HashState.{HashState, function_of}, HashCalls.with_pending, Sha256Hasher.Sha256Hasher}
use Rattle.p3_challenger.specs.TranscriptError.{TranscriptError, TheVariants.{BadProofShape, Challenger, OutOfMemory}}
use Rattle.p3_field.specs.BabyBearResidues.{BabyBear}
use Rattle.first_transcript.specs.{First.IsRun, Scalar.{number, wire}}
use Rattle.transcript_program.specs.{Demo.demo_text, declared.arguments.Request.Request}
use Rattle.transcript_program.specs.declared.arguments.Request.TheVariants.{First, DemoPattern, Prove, Verify}
use Rattle.transcript_program.specs.declared.program.Answer.{Answer, TheVariants.{Done, Proof, Refused, NoInput, Usage}}
use Rattle.transcript_program.specs.DemoScript.{IsDemoProof, RefusesDemoProof, IsDemoReport, RefusesDemoReport}
use Rattle.transcript_program.specs.{DemoTypes.DemoRules, Arguments.Asks}
use Rattle.p3_challenger.specs.ChallengerError.TheVariants as challenger

abbrev pub usage_line : List ℕ
usage_line = codes "usage: transcript first|pattern|prove|verify" ++ 10 ∷ []

-- two lines: the bytes of a proof in hexadecimal, and a challenge in decimal
abbrev pub lines : List ℕ → BabyBear → List ℕ
lines proof challenge =
    codes "wire " ++ (encode_lower proof ++ 10 ∷ (codes "challenge " ++ (decimal (number challenge) ++ 10 ∷ [])))

-- the lines of a scalar: its encoding, and the challenge that SHA-256 draws with nothing before it
pub record IsFirstText (x : BabyBear) (text : List ℕ) : Type 0 where
  pub challenge : BabyBear
  pub after : HashState ℕ Sha256Hasher
  pub run : IsRun (function_of (λ _ message. sha256 message) 32 0)
      (record { sponge = with_pending []; hasher = record {} }) x challenge after
  pub text_is : text ≡ lines (wire x) challenge

-- why an error refused a run, as the program says it
abbrev pub reason_of : TranscriptError → List ℕ
reason_of (BadProofShape reason) = reason.now
reason_of (Challenger challenger.DrawLimit) = codes "draw limit"
reason_of (Challenger challenger.NoWitness) = codes "no witness"
reason_of (Challenger challenger.TooLong) = codes "too long"
reason_of (Challenger challenger.OutOfMemory) = codes "out of memory"
reason_of OutOfMemory = codes "out of memory"
reason_of _ = codes "pattern"

-- ---- the whole answer

-- a request that reads standard input
abbrev pub ReadsInput : Request → Type 0
ReadsInput (Verify inputs) = Unit {0}
ReadsInput _ = ⊥

-- what a request reads of standard input: a proof, up to the end; and else nothing
abbrev pub Reads : Request → List ℕ → Option (List ℕ) → Option (List ℕ) → Type 0
Reads (Verify inputs) input old new = Consumes old new input × IsAtEnd new
Reads _ input old new = input ≡ []

module _ (rules : DemoRules) where
  -- what is written for a request that has read this
  abbrev pub Answers : Request → List ℕ → List ℕ → Type 0
  Answers (First x) input bytes = IsFirstText x bytes
  Answers DemoPattern input bytes = bytes ≡ demo_text
  Answers (Prove ask) input bytes = IsDemoProof rules ask bytes
  Answers (Verify inputs) input bytes = IsDemoReport rules inputs.items input bytes

  -- why it may be refused, but for memory: there is no such proof, or what was read is none
  abbrev pub Refuses : Request → List ℕ → TranscriptError → Type 0
  Refuses (Prove ask) input e = RefusesDemoProof rules ask e
  Refuses (Verify inputs) input e = RefusesDemoReport rules inputs.items input e
  Refuses _ input e = ⊥

  -- the answer to a request
  abbrev pub IsAnswerTo : Request → Option (List ℕ) → Option (List ℕ) → Answer → Type 0
  IsAnswerTo request old new (Done text) =
      (input : List ℕ) × Reads request input old new × Answers request input (string_bytes text)
  IsAnswerTo request old new (Proof bytes) =
      (input : List ℕ) × Reads request input old new × Answers request input bytes.items
  IsAnswerTo request old new (Refused e) =
      (e ≡ OutOfMemory) ⊎ ((input : List ℕ) × Reads request input old new × Refuses request input e)
  IsAnswerTo request old new NoInput = ReadsInput request
  IsAnswerTo request old new Usage = ⊥

  -- the answer to the arguments of a command line: that to what they ask for, or that they ask for nothing
  abbrev pub IsAnswer : List (List ℕ) → Option (List ℕ) → Option (List ℕ) → Answer → Type 0
  IsAnswer arguments old new Usage = (request : Request) → Asks arguments request → ⊥
  IsAnswer arguments old new answer = (request : Request) × Asks arguments request × IsAnswerTo request old new answer

-- what is answered where the arguments could not be read: an argument that is no text asks for nothing; else memory was
-- wanting
abbrev pub unread : ErrorKind → Answer
unread InvalidData = Usage
unread _ = Refused OutOfMemory

abbrev pub status_of : Answer → ℕ
status_of (Done text) = 0
status_of (Proof bytes) = 0
status_of (Refused e) = 1
status_of NoInput = 1
status_of Usage = 2

-- its text; a proof is none
abbrev pub text_of : Answer → List ℕ
text_of (Done text) = string_bytes text
text_of (Proof bytes) = []
text_of (Refused e) = codes "refused: " ++ (reason_of e ++ 10 ∷ [])
text_of NoInput = codes "refused: input" ++ 10 ∷ []
text_of Usage = usage_line

-- what is written: its text, or the bytes of a proof
abbrev pub bytes_of : Answer → List ℕ
bytes_of (Proof bytes) = bytes.items
bytes_of answer = text_of answer

-- a writer holds the answer's bytes after those that it held, and the status is the answer's; or a write failed, and
-- the status is 1
abbrev pub Tells : Answer → ℕ → Option (List ℕ) → Option (List ℕ) → Type 0
Tells answer status old new = ((status ≡ status_of answer) × Appends old new (bytes_of answer)) ⊎ (status ≡ 1)
