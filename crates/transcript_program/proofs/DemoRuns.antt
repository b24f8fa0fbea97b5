-- What a run of the demo script says.
use Rattle.std.proofs.Common.{◌≡◌, ℕ, List, [], ◌∷◌, ◌++◌, Option, Some, None, IsSome, refl, ap, sym, ◌∙◌, subst}
use Rattle.std.specs.{declared.alloc.Global.Global, Borrow.Bor, Option.option_map, Prelude.Vec}
use Rattle.p3_challenger.specs.{Values.{scalars_in, witness_in, bytes_in, Value}, Working.checking}
use Rattle.p3_challenger.specs.{Effects.{drawing_list, drawing}, Verdicts.Accepts, Plays.holds_some, Hash.Hash}
use Rattle.p3_challenger.specs.{Plays.{no_challenge, HasLength, HasAtMost, Play}, Scripts.{play_of, work_in}}
use Rattle.p3_challenger.specs.Runs.{challenges, Finishes, in_proof, if_drawn}
use Rattle.p3_field.specs.{Coeffs.Coeffs, BabyBearResidues.BabyBear}
use Rattle.transcript_program.specs.DemoTypes.{DemoChallenger, DemoStep, DemoRules, DemoRun, DemoValue, DemoDrawn}
use Rattle.transcript_program.specs.DemoScript.{DemoLabels, demo_script, DemoContent, Says}
use Rattle.p3_challenger.specs.Kind.TheVariants as kind
use Rattle.p3_challenger.specs.Fronts as fronts
use Rattle.p3_challenger.specs.Step.TheVariants as step
use Rattle.p3_challenger.specs.Values as value
use mathlib.Core.Bool.{true≢false}

-- ---- values by the type that their step wants

bytes-is : (P : List ℕ → Type 0) (v : DemoValue) → holds_some P (bytes_in v) → (bytes : List ℕ) × (v ≡ value.Bytes bytes)
bytes-is P value.Nothing h = absurd h
bytes-is P (value.Bytes bytes) h = (bytes, refl)
bytes-is P (value.Scalar x) h = absurd h
bytes-is P (value.Scalars xs) h = absurd h
bytes-is P (value.Extension x) h = absurd h
bytes-is P (value.Witness x) h = absurd h

scalars-is : (P : List BabyBear → Type 0) (v : DemoValue) → holds_some P (scalars_in v) →
    (xs : List BabyBear) × (v ≡ value.Scalars xs)
scalars-is P value.Nothing h = absurd h
scalars-is P (value.Bytes bytes) h = absurd h
scalars-is P (value.Scalar x) h = absurd h
scalars-is P (value.Scalars xs) h = (xs, refl)
scalars-is P (value.Extension x) h = absurd h
scalars-is P (value.Witness x) h = absurd h

witness-is : (P : BabyBear → Type 0) (v : DemoValue) → holds_some P (witness_in v) →
    (x : BabyBear) × (v ≡ value.Witness x)
witness-is P value.Nothing h = absurd h
witness-is P (value.Bytes bytes) h = absurd h
witness-is P (value.Scalar x) h = absurd h
witness-is P (value.Scalars xs) h = absurd h
witness-is P (value.Extension x) h = absurd h
witness-is P (value.Witness x) h = (x, refl)

-- ---- what is drawn

-- what a step of the script means
abbrev demo_play : DemoRules → DemoStep → Play DemoChallenger ℕ BabyBear (Coeffs BabyBear 4) (Hash BabyBear ℕ 32)
demo_play rules step = play_of rules step

-- what a step of the script draws
abbrev drawn_at : DemoRules → DemoStep → DemoValue → DemoChallenger → List DemoDrawn
drawn_at rules step v s = if_drawn (((demo_play rules step).effect v).gives s)

quiet : {B : Type 0} (o : Option B) → ◌≡◌ {A = List DemoDrawn} (if_drawn (option_map no_challenge o)) []
quiet None = refl
quiet (Some y) = refl

-- nothing, where a value is sent
salt-silent : (rules : DemoRules) (label : Bor (List ℕ)) (v : DemoValue) (s : DemoChallenger) →
    drawn_at rules (step.Salt label 8) v s ≡ []
salt-silent rules label value.Nothing s = refl
salt-silent rules label (value.Bytes bytes) s = refl
salt-silent rules label (value.Scalar x) s = refl
salt-silent rules label (value.Scalars xs) s = refl
salt-silent rules label (value.Extension x) s = refl
salt-silent rules label (value.Witness x) s = refl

values-silent : (rules : DemoRules) (label : Bor (List ℕ)) (v : DemoValue) (s : DemoChallenger) →
    drawn_at rules (step.ScalarsBounded label 4) v s ≡ []
values-silent rules label value.Nothing s = refl
values-silent rules label (value.Bytes bytes) s = refl
values-silent rules label (value.Scalar x) s = refl
values-silent rules label (value.Scalars xs) s = refl
values-silent rules label (value.Extension x) s = refl
values-silent rules label (value.Witness x) s = refl

work-silent : (rules : DemoRules) (label : Bor (List ℕ)) (v : DemoValue) (s : DemoChallenger) →
    drawn_at rules (step.Pow label 8) v s ≡ []
work-silent rules label value.Nothing s = refl
work-silent rules label (value.Bytes bytes) s = refl
work-silent rules label (value.Scalar x) s = refl
work-silent rules label (value.Scalars xs) s = refl
work-silent rules label (value.Extension x) s = refl
work-silent rules label (value.Witness x) s = quiet ((checking (work_in rules label.now 8) x).gives s)

note-silent : (rules : DemoRules) (label : Bor (List ℕ)) (v : DemoValue) (s : DemoChallenger) →
    drawn_at rules (step.HintBounded label 16) v s ≡ []
note-silent rules label value.Nothing s = refl
note-silent rules label (value.Bytes bytes) s = refl
note-silent rules label (value.Scalar x) s = refl
note-silent rules label (value.Scalars xs) s = refl
note-silent rules label (value.Extension x) s = refl
note-silent rules label (value.Witness x) s = refl

-- one challenge, of a draw that gives something
drew : {A : Type 0} (f : A → DemoDrawn) (o : Option A) → IsSome (option_map (λ x. Some (f x)) o) →
    (x : A) × (if_drawn (option_map (λ x. Some (f x)) o) ≡ f x ∷ [])
drew f None h = absurd (true≢false (sym h))
drew f (Some x) h = (x, refl)

alpha-drawn : (rules : DemoRules) (label : Bor (List ℕ)) (v : DemoValue) (s : DemoChallenger) →
    IsSome (((demo_play rules (step.ChallengeScalar label)).effect v).gives s) →
    (x : BabyBear) × (drawn_at rules (step.ChallengeScalar label) v s ≡ value.OfScalars (x ∷ []) ∷ [])
alpha-drawn rules label v s h =
    drew (λ x. value.OfScalars (x ∷ [])) ((drawing {Symbol = ℕ} rules.scalar.sampling).gives s) h

indices-drawn : (rules : DemoRules) (label : Bor (List ℕ)) (v : DemoValue) (s : DemoChallenger) →
    IsSome (((demo_play rules (step.ChallengeUniformBits label 4 2)).effect v).gives s) →
    (xs : List ℕ) × (drawn_at rules (step.ChallengeUniformBits label 4 2) v s ≡ value.OfBits xs ∷ [])
indices-drawn rules label v s h =
    drew (λ xs. value.OfBits xs) ((drawing_list {Symbol = ℕ} (rules.bits.uniform 4) 2).gives s) h

-- ---- a run, step by step

-- the two challenges, between draws of nothing
two_drawn : (d2 d3 d4 d5 d6 d7 : List DemoDrawn) (a i : DemoDrawn) → d2 ≡ [] → d3 ≡ [] → d4 ≡ [] → d5 ≡ a ∷ [] →
    d6 ≡ [] → d7 ≡ i ∷ [] → d2 ++ (d3 ++ (d4 ++ (d5 ++ (d6 ++ (d7 ++ []))))) ≡ a ∷ i ∷ []
two_drawn d2 d3 d4 d5 d6 d7 a i e2 e3 e4 e5 e6 e7 =
    λ k. e2 k ++ (e3 k ++ (e4 k ++ (e5 k ++ (e6 k ++ (e7 k ++ [])))))

-- a run of nine steps has nine values
nine : {X S Symbol F EF O : Type 0} (play : X → Play S Symbol F EF O) (x0 x1 x2 x3 x4 x5 x6 x7 x8 : X) (s : S)
    (Goal : List (Value F EF) → Type 0) →
    ((v0 v1 v2 v3 v4 v5 v6 v7 v8 : Value F EF) →
    Finishes play (x0 ∷ x1 ∷ x2 ∷ x3 ∷ x4 ∷ x5 ∷ x6 ∷ x7 ∷ x8 ∷ [])
    (v0 ∷ v1 ∷ v2 ∷ v3 ∷ v4 ∷ v5 ∷ v6 ∷ v7 ∷ v8 ∷ []) s →
    Goal (v0 ∷ v1 ∷ v2 ∷ v3 ∷ v4 ∷ v5 ∷ v6 ∷ v7 ∷ v8 ∷ [])) →
    (values : List (Value F EF)) →
    Finishes play (x0 ∷ x1 ∷ x2 ∷ x3 ∷ x4 ∷ x5 ∷ x6 ∷ x7 ∷ x8 ∷ []) values s → Goal values
nine play x0 x1 x2 x3 x4 x5 x6 x7 x8 s Goal k [] f = absurd f
nine play x0 x1 x2 x3 x4 x5 x6 x7 x8 s Goal k (v0 ∷ []) f = absurd f.3
nine play x0 x1 x2 x3 x4 x5 x6 x7 x8 s Goal k (v0 ∷ v1 ∷ []) f = absurd f.3.3
nine play x0 x1 x2 x3 x4 x5 x6 x7 x8 s Goal k (v0 ∷ v1 ∷ v2 ∷ []) f = absurd f.3.3.3
nine play x0 x1 x2 x3 x4 x5 x6 x7 x8 s Goal k (v0 ∷ v1 ∷ v2 ∷ v3 ∷ []) f = absurd f.3.3.3.3
nine play x0 x1 x2 x3 x4 x5 x6 x7 x8 s Goal k (v0 ∷ v1 ∷ v2 ∷ v3 ∷ v4 ∷ []) f = absurd f.3.3.3.3.3
nine play x0 x1 x2 x3 x4 x5 x6 x7 x8 s Goal k (v0 ∷ v1 ∷ v2 ∷ v3 ∷ v4 ∷ v5 ∷ []) f = absurd f.3.3.3.3.3.3
nine play x0 x1 x2 x3 x4 x5 x6 x7 x8 s Goal k (v0 ∷ v1 ∷ v2 ∷ v3 ∷ v4 ∷ v5 ∷ v6 ∷ []) f = absurd f.3.3.3.3.3.3.3
nine play x0 x1 x2 x3 x4 x5 x6 x7 x8 s Goal k (v0 ∷ v1 ∷ v2 ∷ v3 ∷ v4 ∷ v5 ∷ v6 ∷ v7 ∷ []) f = absurd f.3.3.3.3.3.3.3.3
nine play x0 x1 x2 x3 x4 x5 x6 x7 x8 s Goal k (v0 ∷ v1 ∷ v2 ∷ v3 ∷ v4 ∷ v5 ∷ v6 ∷ v7 ∷ v8 ∷ []) f =
    k v0 v1 v2 v3 v4 v5 v6 v7 v8 f
nine play x0 x1 x2 x3 x4 x5 x6 x7 x8 s Goal k (v0 ∷ v1 ∷ v2 ∷ v3 ∷ v4 ∷ v5 ∷ v6 ∷ v7 ∷ v8 ∷ v9 ∷ more) f =
    absurd f.3.3.3.3.3.3.3.3.3

-- those of the script: a salt, values, a witness and a note, with one challenge and the indices
shaped : (rules : DemoRules) (labels : DemoLabels) (inputs : Vec BabyBear Global) (s : DemoChallenger)
    (v0 v1 v2 v3 v4 v5 v6 v7 v8 : DemoValue) →
    Finishes (demo_play rules) (demo_script labels inputs) (v0 ∷ v1 ∷ v2 ∷ v3 ∷ v4 ∷ v5 ∷ v6 ∷ v7 ∷ v8 ∷ []) s →
    (content : DemoContent) × Says (v2 ∷ v3 ∷ v4 ∷ v6 ∷ [])
    (challenges (demo_play rules) (demo_script labels inputs) (v0 ∷ v1 ∷ v2 ∷ v3 ∷ v4 ∷ v5 ∷ v6 ∷ v7 ∷ v8 ∷ []) s)
    content
shaped rules labels inputs s v0 v1 v2 v3 v4 v5 v6 v7 v8 f =
    let p = λ (x : DemoStep). demo_play rules x in
    let s1 = ((p (step.Begin labels.opener.label kind.Protocol)).effect v0).after s in
    let s2 = ((p (step.PublicScalarsBounded labels.inputs.label inputs 4)).effect v1).after s1 in
    let s3 = ((p (step.Salt labels.salt.label 8)).effect v2).after s2 in
    let s4 = ((p (step.ScalarsBounded labels.values.label 4)).effect v3).after s3 in
    let s5 = ((p (step.Pow labels.work.label 8)).effect v4).after s4 in
    let s6 = ((p (step.ChallengeScalar labels.alpha.label)).effect v5).after s5 in
    let s7 = ((p (step.HintBounded labels.note.label 16)).effect v6).after s6 in
    let salt = bytes-is (HasLength 8) v2 f.3.3.0 in
    let sent = scalars-is (HasAtMost 4) v3 f.3.3.3.0 in
    let work = witness-is (λ _. rules.grinding.is_there) v4 f.3.3.3.3.0 in
    let note = bytes-is (HasAtMost 16) v6 f.3.3.3.3.3.3.0 in
    let alpha = alpha-drawn rules labels.alpha.label v5 s5 f.3.3.3.3.3.2 in
    let indices = indices-drawn rules labels.indices.label v7 s7 f.3.3.3.3.3.3.3.2 in (
      record {
        salt = salt.0;
        values = sent.0;
        work = work.0;
        note = note.0;
        alpha = alpha.0 ∷ [];
        indices = indices.0;
      },
      record {
        received_is = λ k. salt.1 k ∷ sent.1 k ∷ work.1 k ∷ note.1 k ∷ [];
        drawn_is = two_drawn
            (drawn_at rules (step.Salt labels.salt.label 8) v2 s2)
            (drawn_at rules (step.ScalarsBounded labels.values.label 4) v3 s3)
            (drawn_at rules (step.Pow labels.work.label 8) v4 s4)
            (drawn_at rules (step.ChallengeScalar labels.alpha.label) v5 s5)
            (drawn_at rules (step.HintBounded labels.note.label 16) v6 s6)
            (drawn_at rules (step.ChallengeUniformBits labels.indices.label 4 2) v7 s7)
            (value.OfScalars (alpha.0 ∷ [])) (value.OfBits indices.0)
            (salt-silent rules labels.salt.label v2 s2) (values-silent rules labels.values.label v3 s3)
            (work-silent rules labels.work.label v4 s4) alpha.1 (note-silent rules labels.note.label v6 s6) indices.1;
      },
    )

pub run-says : (rules : DemoRules) (labels : DemoLabels) (inputs : Vec BabyBear Global) (values : List DemoValue)
    (s : DemoChallenger) → Finishes (demo_play rules) (demo_script labels inputs) values s →
    (content : DemoContent) × Says (in_proof (demo_play rules) (demo_script labels inputs) values)
    (challenges (demo_play rules) (demo_script labels inputs) values s) content
run-says rules labels inputs values s f =
    nine (λ (x : DemoStep). demo_play rules x) (step.Begin labels.opener.label kind.Protocol)
    (step.PublicScalarsBounded labels.inputs.label inputs 4) (step.Salt labels.salt.label 8)
    (step.ScalarsBounded labels.values.label 4) (step.Pow labels.work.label 8)
    (step.ChallengeScalar labels.alpha.label) (step.HintBounded labels.note.label 16)
    (step.ChallengeUniformBits labels.indices.label 4 2) (step.End labels.closer.label kind.Protocol) s
    (λ (l : List DemoValue). (content : DemoContent)
    × Says (in_proof (demo_play rules) (demo_script labels inputs) l)
    (challenges (demo_play rules) (demo_script labels inputs) l s) content)
    (shaped rules labels inputs s) values f

-- so what a verifier that accepts has received and drawn says something
pub accepted-says : (rules : DemoRules) (run : DemoRun) (labels : DemoLabels) (inputs : Vec BabyBear Global) (bytes : List ℕ)
    (received : List DemoValue) (drawn : List DemoDrawn) (end : DemoChallenger) →
    run.steps ≡ demo_script labels inputs → Accepts rules (demo_play rules) run bytes [] received drawn end →
    (content : DemoContent) × Says received drawn content
accepted-says rules run labels inputs bytes received drawn end steps_are accepted =
    let seeded = fronts.seeded rules (demo_play rules) run in
    let finishes = subst (λ (steps : List DemoStep). Finishes (demo_play rules) steps accepted.values seeded) steps_are
    accepted.proof.finished.finishes in
    let says = run-says rules labels inputs accepted.values seeded finishes in (
      says.0,
      record {
        received_is = accepted.outcome.received_is
            ∙ ap (λ (steps : List DemoStep). in_proof (demo_play rules) steps accepted.values) steps_are
            ∙ says.1.received_is;
        drawn_is = accepted.outcome.drawn_is
            ∙ ap (λ (steps : List DemoStep). challenges (demo_play rules) steps accepted.values seeded) steps_are
            ∙ says.1.drawn_is;
      },
    )
