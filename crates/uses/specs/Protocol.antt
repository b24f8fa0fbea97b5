-- The contract of a run of the small protocol.
use Rattle.std.specs.Prelude.{◌≡◌, ◌==◌, ◌-◌, ℕ, List, [], ◌∷◌, ◌++◌, Bool, true, false, Option, Some, None, not, codes}
use Rattle.std.specs.Prelude.{Result, MatchResult}
use Rattle.p3_challenger.specs.{Encoding.Encoding, Kind.{Kind, TheVariants.{Challenge, Hint, Message}}, Length.Length}
use Rattle.p3_challenger.specs.{Length.TheVariants.{Fixed, Scalar}, Observation.Observation, Rejecting.taken}
use Rattle.p3_challenger.specs.{Sampling.Sampling, Steps.{Step, algebra_of, algebra_step}, Driving.Driving}
use Rattle.p3_challenger.specs.{TranscriptError.{TranscriptError, TheVariants.OutOfMemory}, Reading.AreBytes}
use Rattle.p3_challenger.specs.{Transcripts.{IsNext, Transcript, bytes_step, step_on}, Separators.HeldSeparator}
use Rattle.p3_field.specs.{BabyBearResidues.{BabyBear, residues}, Residues.{sum_of, product_of, power_of}}
use Rattle.uses.specs.declared.protocol.Claim.{Claim}

-- the step of a field element, or of a list of them, where the field's identity has this digest
abbrev pub element_step : List ℕ → Kind → List ℕ → Length → Step
element_step digest kind label length =
    algebra_step kind label (algebra_of residues.order 1 digest (codes "BabyBear")) length

-- the steps of the protocol in order
abbrev pub steps_of_line : List ℕ → List Step
steps_of_line digest =
    element_step digest Message (codes "slope") Scalar
    ∷ element_step digest Message (codes "offset") Scalar
    ∷ element_step digest Challenge (codes "place") Scalar
    ∷ element_step digest Challenge (codes "divisor") (Fixed 1)
    ∷ bytes_step Hint (codes "quotient") (Fixed 4)
    ∷ []

-- the quotient is the line's value at the place, divided by the divisor
abbrev pub IsQuotient : Claim → Type 0
IsQuotient claim =
    product_of residues claim.quotient claim.divisor
    ≡ sum_of residues (product_of residues claim.slope claim.place) claim.offset

-- the result for a claim: the claim if its quotient is right, and else none
abbrev pub IsAnswer : Option Claim → Claim → Type 0
IsAnswer (Some found) claim = (found ≡ claim) × IsQuotient claim
IsAnswer None claim = IsQuotient claim → ⊥

-- an element that can be a divisor: any except 0
abbrev pub may_divide : BabyBear → Bool
may_divide x = not (residues.number x == 0)

-- the divisor is the first drawn element that can be one, within 100 draws
abbrev pub IsDivisor : {S : Type 0} → Sampling S BabyBear → S → BabyBear → Type 0
IsDivisor d s x = ((taken d (λ y kept. may_divide y) 100 [] s).gives ≡ Some x) × (may_divide x ≡ true)

-- the state of a challenger that has observed the slope and the offset
abbrev pub after_line : {S Symbol : Type 0} → Observation S Symbol BabyBear → S → Claim → S
after_line o s claim = o.observed (o.observed s claim.slope) claim.offset

-- slope, offset and quotient, encoded one after another
abbrev pub bytes_of : Encoding BabyBear → Claim → List ℕ
bytes_of e claim = e.wire claim.slope ++ (e.wire claim.offset ++ e.wire claim.quotient)

-- The place is drawn after the challenger has observed the line, and the divisor after the place. The bytes are
-- exactly those of the claim.
pub record IsRun {S Symbol : Type 0} (o : Observation S Symbol BabyBear) (places divisors : Sampling S BabyBear)
    (e : Encoding BabyBear) (s : S) (claim : Claim) (bytes : List ℕ) : Type 0 where
  pub place : places.sampled (after_line o s claim) ≡ Some claim.place
  pub divisor : IsDivisor divisors (places.after (after_line o s claim)) claim.divisor
  pub encoded : bytes ≡ bytes_of e claim

-- the result of a verifier is that of a run
abbrev pub AnswersRun : (Claim → Type 0) → Option Claim → Type 0
AnswersRun IsRunOf found = (claim : Claim) × IsAnswer found claim × IsRunOf claim

-- the verifier returns the result for the claim of each run, or is out of memory
abbrev pub AcceptsRuns : (Claim → Type 0) → Result (Option Claim) TranscriptError → Type 0
AcceptsRuns IsRunOf result =
    (claim : Claim) → IsRunOf claim → MatchResult result (λ found. IsAnswer found claim) (λ e. e ≡ OutOfMemory)

-- the prover's quotient: the line's value at the place, times the power of the divisor that is its inverse
abbrev pub quotient_of : Claim → BabyBear
quotient_of claim =
    product_of residues (sum_of residues (product_of residues claim.slope claim.place) claim.offset)
    (power_of residues claim.divisor (residues.order - 2))

-- the bytes are a proof of the line
pub record IsSent {S Symbol : Type 0} (o : Observation S Symbol BabyBear) (places divisors : Sampling S BabyBear)
    (e : Encoding BabyBear) (s : S) (slope offset : BabyBear) (bytes : List ℕ) : Type 0 where
  pub claim : Claim
  pub line : (claim.slope ≡ slope) × (claim.offset ≡ offset)
  pub run : IsRun o places divisors e s claim bytes
  pub quotient : claim.quotient ≡ quotient_of claim

-- A verifier is at the start of the protocol: its steps are the pattern, and none was played. The bytes that it has
-- left begin with those of a run, and these follow.
pub record IsAhead {S Symbol : Type 0} (o : Observation S Symbol BabyBear) (places divisors : Sampling S BabyBear)
    (e : Encoding BabyBear) (digest : List ℕ) (v : Driving S) (claim : Claim) (rest : List ℕ) : Type 0 where
  pub steps : v.transcript.playing.pattern.steps ≡ steps_of_line digest
  pub position : v.transcript.playing.position ≡ 0
  pub going : v.transcript.playing.finished ≡ false
  pub run : IsRun o places divisors e v.transcript.challenger claim (bytes_of e claim)
  pub unread : v.bytes ≡ bytes_of e claim ++ rest

-- the verifier has played the whole protocol, and has these bytes left
pub record IsPast {S : Type 0} (before : Driving S) (rest : List ℕ) (after : Driving S) : Type 0 where
  pub pattern : after.transcript.playing.pattern ≡ before.transcript.playing.pattern
  pub position : after.transcript.playing.position ≡ 5
  pub going : after.transcript.playing.finished ≡ false
  pub unread : after.bytes ≡ rest

-- ---- the two sides

-- What both sides share: how an element is observed, drawn as a place or as a divisor, and encoded; the digest of the
-- field's identity; and the challenger's state after the seed of a separator.
pub record LineRules (S Symbol : Type 0) : Type 1 where
  pub observation : Observation S Symbol BabyBear
  pub places : Sampling S BabyBear
  pub divisors : Sampling S BabyBear
  pub encoding : Encoding BabyBear
  pub digest : List ℕ
  pub seeded : HeldSeparator → S

module _ {S Symbol : Type 0} (line : LineRules S Symbol) where
  -- a claim is that of a run under a separator, of which the bytes are the proof
  abbrev pub IsRunUnder : HeldSeparator → List ℕ → Claim → Type 0
  IsRunUnder separator bytes claim =
      IsRun line.observation line.places line.divisors line.encoding (line.seeded separator) claim bytes

  -- the bytes are a proof of a line from this state
  abbrev pub IsProofFrom : S → BabyBear → BabyBear → List ℕ → Type 0
  IsProofFrom s slope offset bytes =
      IsSent line.observation line.places line.divisors line.encoding s slope offset bytes

  -- a prover adds a proof of the line
  abbrev pub SendsLine : BabyBear → BabyBear → Driving S → Driving S → Type 0
  SendsLine slope offset before after = (bytes : List ℕ) × (after.bytes ≡ before.bytes ++ bytes)
      × IsProofFrom before.transcript.challenger slope offset bytes

  -- the claim's place is drawn after the challenger has observed its line
  abbrev pub DrawsPlace : Driving S → Claim → Type 0
  DrawsPlace before claim =
      line.places.sampled (after_line line.observation before.transcript.challenger claim) ≡ Some claim.place

  -- and its divisor after the place
  abbrev pub DrawsDivisor : Driving S → Claim → Type 0
  DrawsDivisor before claim = IsDivisor line.divisors
      (line.places.after (after_line line.observation before.transcript.challenger claim)) claim.divisor

  -- the claim is read: where bytes are left, they begin with its own, and the others are left then
  abbrev pub ReadsClaim : Driving S → Driving S → Claim → Type 0
  ReadsClaim before after claim = AreBytes before.bytes → before.bytes ≡ bytes_of line.encoding claim ++ after.bytes

  -- a verifier with a run ahead reads its claim, and is past it then, or is out of memory
  abbrev pub ReadsRunAhead : Driving S → Result Claim TranscriptError → Driving S → Type 0
  ReadsRunAhead before result after = (claim : Claim) (rest : List ℕ) →
      IsAhead line.observation line.places line.divisors line.encoding line.digest before claim rest →
      MatchResult result (λ found. (found ≡ claim) × IsPast before rest after) (λ e. e ≡ OutOfMemory)

  -- a side with a divisor ahead draws it, and plays the step then, or is out of memory
  abbrev pub DrawsDivisorAhead : Transcript S → Result BabyBear TranscriptError → Transcript S → Type 0
  DrawsDivisorAhead before result after = (divisor : BabyBear) →
      IsNext before.playing (element_step line.digest Challenge (codes "divisor") (Fixed 1)) →
      IsDivisor line.divisors before.challenger divisor → MatchResult result
      (λ found. (found ≡ divisor) × (after.playing ≡ step_on before.playing)) (λ e. e ≡ OutOfMemory)
