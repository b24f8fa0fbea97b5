-- The same bytes describe protocols that are alike.
use Rattle.std.proofs.Common.{◌≡◌, ℕ, zero, suc, ◌<◌, List, [], ◌∷◌, length, map, sym, ap, ◌∙◌}
use Rattle.p3_challenger.specs.{Rendering.hashed_text, Rules.Rules, Scripts.play_of, Seed.{identifier, label_of, seed_of_parts}}
use Rattle.p3_challenger.specs.{PatternSteps.PatternSteps, ScriptRefusals.sides_of, Separators.{HeldSeparator, Separator, contents_of}, Steps.Step}
use Rattle.p3_patterns.specs.PatternStepLaws.{PatternSteps-same}
use Rattle.p3_challenger.specs.{Kind.Kind, Values.Value, Verdicts.script_under}
use Rattle.tealmuze_calls.specs.{Alike.{AreAlike, DescriptionsMeanOne, VerdictsAreSoOfAll, ProvingsAreSoOfAll}}
use Rattle.tealmuze_calls.specs.{Descriptions.{Describes, kind_number, reading_of}, Told.{TellsOfProof, TellsOfValues}}
use Rattle.tealmuze_calls.proofs.{Codes.reading-one, Plain.{kind_at, plain_of, plains-one, steps-same}}
use Rattle.tealmuze_calls.proofs.SameRuns.{SameSeeds, interactions-same, accepts-same, none-same, proved-same, refused-same}
use Rattle.tealmuze_calls.proofs.SameRuns.{unproved-same, none_proved-same}
use Rattle.p3_challenger.specs.Step as script

-- ---- seeds

abbrev bound : (List ℕ → List ℕ) → List ℕ → List Step → List ℕ → List ℕ
bound digest_of id steps label =
    seed_of_parts (record { protocol_id = id; digest = digest_of (hashed_text steps); label = label })

bound-same : (digest_of : List ℕ → List ℕ) {id jd label mabel : List ℕ} {steps others : List Step} → id ≡ jd →
    steps ≡ others → label ≡ mabel → bound digest_of id steps label ≡ bound digest_of jd others mabel
bound-same digest_of {jd} {label} {steps} {others} ids patterns labels =
    ap (λ i. bound digest_of i steps label) ids ∙ ap (λ p. bound digest_of jd p label) patterns
    ∙ ap (λ l. bound digest_of jd others l) labels

seeds-same : (digest_of : List ℕ → List ℕ) (one other : HeldSeparator) →
    contents_of one ≡ contents_of other → SameSeeds digest_of one other
seeds-same digest_of one other same =
    let id = one.is_identifier in
    let jd = other.is_identifier in
    let ids = id.encoded ∙ ap (λ s. identifier s.version s.name) same ∙ sym jd.encoded in
    let labels = one.is_label.encoded ∙ ap (λ s. label_of s.chunks) same ∙ sym other.is_label.encoded in
    let patterns : one.pattern ≡ other.pattern = ap (λ s. s.pattern) same in
    record { seeds = bound-same digest_of ids (ap (λ p. p.steps) patterns) labels; patterns = patterns }

abbrev separator : ℕ → List ℕ → List (List ℕ) → PatternSteps → Separator
separator version name chunks pattern =
    record { version = version; name = name; chunks = chunks; pattern = pattern }

separators-same : (s t : Separator) → s.version ≡ t.version → s.name ≡ t.name → s.chunks ≡ t.chunks →
    s.pattern.steps ≡ t.pattern.steps → s ≡ t
separators-same s t version name chunks steps =
    ap (λ n. separator n s.name s.chunks s.pattern) version ∙ ap (λ n. separator t.version n s.chunks s.pattern) name
    ∙ ap (λ cs. separator t.version t.name cs s.pattern) chunks
    ∙ ap (λ p. separator t.version t.name t.chunks p) (PatternSteps-same s.pattern t.pattern steps)

-- ---- protocols

module _ {F EF O : Type 0} (number : F → ℕ) (coefficients : EF → List F) (opaque_numbers : O → List ℕ) (AreOpaque : List ℕ → Type 0)
    (dimension : ℕ) (some : 0 < dimension) (scalar_one : (x y : F) → number x ≡ number y → x ≡ y)
    (long : (x : EF) → length (coefficients x) ≡ dimension)
    (element_one : (x y : EF) → coefficients x ≡ coefficients y → x ≡ y)
    (opaque_one : (x y : O) → opaque_numbers x ≡ opaque_numbers y → x ≡ y) where
  pub described-plain : {Su U C K Ac D G It St Sy : Type 0} (rules : Rules St Sy It F EF O Ac) (bytes : List ℕ)
      (one other : HeldSeparator) (steps others : List (script.Step Su F EF U O C K Ac D G It St Sy)) →
      Describes number coefficients opaque_numbers AreOpaque rules bytes one steps →
      Describes number coefficients opaque_numbers AreOpaque rules bytes other others → map plain_of steps ≡ map plain_of others
  described-plain rules bytes one other steps others d e =
      let same = reading-one (reading_of number coefficients opaque_numbers one steps)
      (reading_of number coefficients opaque_numbers other others) d.held e.held (sym d.encoded ∙ e.encoded) in
      plains-one number coefficients opaque_numbers dimension some scalar_one long element_one opaque_one steps others
      (ap (λ r. r.steps) same)

  pub described-alike : (kinds : (k : Kind) → k ≡ kind_at (kind_number k)) {Su U C K Ac D G It St Sy : Type 0}
      (rules : Rules St Sy It F EF O Ac) (bytes : List ℕ)
      (one other : HeldSeparator) (steps others : List (script.Step Su F EF U O C K Ac D G It St Sy)) →
      Describes number coefficients opaque_numbers AreOpaque rules bytes one steps →
      Describes number coefficients opaque_numbers AreOpaque rules bytes other others → AreAlike rules one other steps others
  described-alike kinds rules bytes one other steps others d e =
      let same = reading-one (reading_of number coefficients opaque_numbers one steps)
      (reading_of number coefficients opaque_numbers other others) d.held e.held (sym d.encoded ∙ e.encoded) in
      let steps_are = steps-same rules kinds number coefficients opaque_numbers AreOpaque steps others d.formed e.formed
      (described-plain rules bytes one other steps others d e) in
      let played = interactions-same (play_of rules) (sides_of rules) steps_are in
      let separators = separators-same (contents_of one) (contents_of other) (ap (λ r. r.version) same)
      (ap (λ r. r.name) same) (ap (λ r. r.chunks) same) (sym d.played ∙ played ∙ e.played) in
      let seeds = seeds-same rules.digest_of one other separators in
      record {
        separators = separators;
        played = played;
        accepted = λ start. accepts-same rules (play_of rules) (sides_of rules) seeds start steps_are;
        refused = λ start. refused-same rules (play_of rules) (sides_of rules) seeds start steps_are;
        none = λ start. none-same rules (play_of rules) (sides_of rules) seeds start steps_are;
        proved = λ start. proved-same rules (play_of rules) (sides_of rules) seeds start steps_are;
        unproved = λ start. unproved-same rules (play_of rules) (sides_of rules) seeds start steps_are;
        none_proved = λ start. none_proved-same rules (play_of rules) (sides_of rules) seeds start steps_are;
      }

-- ---- what is told

module _ {Su F EF U O C K Ac D G It St Sy : Type 0} (rules : Rules St Sy It F EF O Ac) (number : F → ℕ)
    (coefficients : EF → List F) (one other : HeldSeparator)
    (steps others : List (script.Step Su F EF U O C K Ac D G It St Sy)) (alike : AreAlike rules one other steps others)
    (start : St) where
  pub told_of_proof-same : (proof carried told : List ℕ) →
      TellsOfProof rules number coefficients (script_under start one steps) proof carried told →
      TellsOfProof rules number coefficients (script_under start other others) proof carried told
  told_of_proof-same proof carried [] h = h
  told_of_proof-same proof carried (zero ∷ told) h = record {
    witnesses = h.witnesses;
    carried_are = h.carried_are;
    received = h.received;
    drawn = h.drawn;
    end = h.end;
    accepts = alike.accepted start proof h.witnesses h.received h.drawn h.end h.accepts;
    told_is = h.told_is;
  }
  told_of_proof-same proof carried (suc zero ∷ told) h = record {
    witnesses = h.witnesses;
    carried_are = h.carried_are;
    position = h.position;
    error = h.error;
    refuses = alike.refused start proof h.witnesses h.position h.error h.refuses;
    is_none = alike.none start proof h.witnesses h.is_none;
    reason = h.reason;
    short = h.short;
    told_is = h.told_is;
  }
  told_of_proof-same proof carried (suc (suc n) ∷ told) h = h

  pub told_of_values-same : (sent : List (Value F EF)) (told : List ℕ) →
      TellsOfValues rules number coefficients (script_under start one steps) sent told →
      TellsOfValues rules number coefficients (script_under start other others) sent told
  told_of_values-same sent [] h = h
  told_of_values-same sent (zero ∷ told) h = record {
    narg = h.narg;
    witnesses = h.witnesses;
    carried = h.carried;
    drawn = h.drawn;
    end = h.end;
    proved = alike.proved start sent h.narg h.witnesses h.carried h.drawn h.end h.proved;
    told_is = h.told_is;
  }
  told_of_values-same sent (suc zero ∷ told) h = record {
    position = h.position;
    error = h.error;
    refuses = alike.unproved start sent h.position h.error h.refuses;
    is_none = alike.none_proved start sent h.is_none;
    reason = h.reason;
    short = h.short;
    told_is = h.told_is;
  }
  told_of_values-same sent (suc (suc n) ∷ told) h = h

-- where what the same bytes describe is alike
module _ (Su U C K D G : Type 0) {F EF O Ac It St Sy : Type 0} (rules : Rules St Sy It F EF O Ac) (number : F → ℕ)
    (coefficients : EF → List F) (opaque_numbers : O → List ℕ) (AreOpaque : List ℕ → Type 0) (IsFresh : St → Type 0)
    (alike : DescriptionsMeanOne Su U C K D G rules number coefficients opaque_numbers AreOpaque) where
  pub verdicts-of_all : VerdictsAreSoOfAll Su U C K D G rules number coefficients opaque_numbers AreOpaque IsFresh
  verdicts-of_all bytes proof carried told separator steps says describes = record {
    start = says.start;
    fresh = says.fresh;
    tells = told_of_proof-same rules number coefficients says.separator separator says.steps steps
        (alike bytes says.separator separator says.steps steps says.describes describes) says.start proof carried told
        says.tells;
  }

  pub provings-of_all : ProvingsAreSoOfAll Su U C K D G rules number coefficients opaque_numbers AreOpaque IsFresh
  provings-of_all bytes values told separator steps says describes = record {
    start = says.start;
    fresh = says.fresh;
    tells = record {
      values = says.tells.values;
      encoded = says.tells.encoded;
      tells = told_of_values-same rules number coefficients says.separator separator says.steps steps
          (alike bytes says.separator separator says.steps steps says.describes describes) says.start says.tells.values
          told says.tells.tells;
    };
  }
