-- Laws of checks.
use Rattle.std.proofs.Common.{◌≡◌, ℕ, zero, suc, ◌==◌, Bool, true, false, List, Option, Some, None, IsSome, is_some}
use Rattle.std.proofs.{Common.{refl, sym, ap, ◌∙◌, inl, inr, subst, rules}, Common.{option_and_then, if◌then◌else◌}}
use Rattle.std.specs.Option.{option_map}
use Rattle.p3_challenger_core.specs.{Observation.Observation, SamplingLaws.unrefused_draw-is_sampling}
use Rattle.p3_challenger_core.specs.Sampling.{Sampling, IsSampling, RefusesDraw, RefusesDraws, in_row, made_of}
use Rattle.p3_challenger_core.specs.SamplingLaws.{refused-in_row, in_row-is_sampling, no_steps}
use Rattle.p3_challenger_core.specs.declared.error.ChallengerError.{ChallengerError}
use Rattle.p3_challenger_core.specs.declared.error.ChallengerError.TheVariants.{OutOfMemory, DrawLimit}
use Rattle.p3_grinding.specs.{UniformDraws.{UniformDraw, IsUniformDraw}, Checks.{byte_check, MayRunOut, RefusesSearch}}
use Rattle.p3_grinding.specs.Checks.{all_zero, zero_and_uniform, draws_nothing, checked, check_of}
use Rattle.p3_field_core.specs.Residues.{Residues}

-- a draw that meets its limit gives nothing
abbrev pub LimitGivesNone : {S T : Type 0} → Sampling S T → Type 0
LimitGivesNone {S} d = (s : S) → d.meets_limit s → d.sampled s ≡ None

-- drawing nothing is a draw
pub draws_nothing-is_sampling : {S : Type 0} (next : S → S) → IsSampling next draws_nothing
draws_nothing-is_sampling next = unrefused_draw-is_sampling next (λ _. Some tt) (λ s. s) (no_steps next)

pub all_zero-limit : {S : Type 0} (d : Sampling S ℕ) → LimitGivesNone d → LimitGivesNone (all_zero d)
all_zero-limit d law s h = ap (option_map (λ n. n == 0)) (law s h)

not_rejected : {S : Type 0} (r : Option S) (o : Option Bool) → (IsSome r → ⊥) → o ≡ None
    → (if is_some r then Some false else o) ≡ None
not_rejected None o accepts none = none
not_rejected (Some x) o accepts none = absurd (accepts refl)

pub zero_and_uniform-limit : {S : Type 0} (next : S → S) (resample : Bool) (u : UniformDraw S)
    → IsUniformDraw next resample u → LimitGivesNone (zero_and_uniform u)
zero_and_uniform-limit next resample u laws s h =
    not_rejected (u.rejects s) (option_map (λ n. n == 0) (u.draw.sampled s))
    (λ is. laws.rejected_or_limit s is h) (ap (option_map (λ n. n == 0)) (laws.draws.limit_gives_none s h))

then_none : {A : Type 0} (ready : Option (Unit {0})) (o : Option A) → o ≡ None → option_and_then (λ _. o) ready ≡ None
then_none None o none = refl
then_none (Some x) o none = none

is_not : false ≡ true → ⊥
is_not is = search (rules, is)

-- a draw of a function of a value is refused where the draw of the value is
pub made_of-refused : {S T U : Type 0} (f : T → U) (d : Sampling S T) (e : ChallengerError) (s t : S)
    → RefusesDraw d e s t → RefusesDraw (made_of f d) e s t
made_of-refused f d OutOfMemory s t h = h
made_of-refused f d DrawLimit s t h = h
made_of-refused f d e s t h = h

module _ {S Symbol W : Type 0} (before : Sampling S (Unit {0})) (o : Observation S Symbol W)
    (test : Sampling S Bool) where
  pub checked-limit : LimitGivesNone before → LimitGivesNone test → (witness : W)
      → LimitGivesNone (checked before o test witness)
  checked-limit first second witness s (inl here) =
      ap (option_and_then (λ _. test.sampled (o.observed (before.after s) witness))) (first s here)
  checked-limit first second witness s (inr later) =
      then_none (before.sampled s) (test.sampled (o.observed (before.after s) witness))
      (second (o.observed (before.after s) witness) later.1)

  pub check-limit : LimitGivesNone before → LimitGivesNone test → (bits : ℕ) (witness : W)
      → LimitGivesNone (check_of before o test bits witness)
  check-limit first second zero witness s h = absurd h
  check-limit first second (suc more) witness s h = checked-limit first second witness s h

  -- a check with a refused test is refused
  tested_after : (ready : Option (Unit {0})) (s t : S) → IsSome ready → (if is_some ready then s else t) ≡ s
  tested_after None s t is = absurd (is_not is)
  tested_after (Some x) s t is = refl

  pub checked-refused : (witness : W) (e : ChallengerError) (s t : S) → IsSome (before.sampled s)
      → RefusesDraw test e (o.observed (before.after s) witness) t → RefusesDraw (checked before o test witness) e s t
  checked-refused witness OutOfMemory s t ready h = inr (ready, inr h)
  checked-refused witness DrawLimit s t ready h = (
    inr (ready, h.0),
    h.1 ∙ sym (tested_after (before.sampled s) (test.after (o.observed (before.after s) witness))
        (before.after s) ready),
  )
  checked-refused witness e s t ready h = absurd h

module _ {S Symbol : Type 0} (next : S → S) (o : Observation S Symbol (List ℕ)) (d : Sampling S ℕ)
    (laws : IsSampling next d) (size : ℕ) (encoded : ℕ → List ℕ) (accepted : List ℕ → Bool) (n : ℕ) where
  -- a check of bytes whose draws meet a limit gives nothing
  pub byte_check-limit : LimitGivesNone (byte_check o (in_row d size) encoded accepted n)
  byte_check-limit =
      checked-limit draws_nothing o (made_of accepted (in_row d size)) (λ s h. absurd h)
      (λ s h. ap (option_map accepted) ((in_row-is_sampling next d laws size).limit_gives_none s h)) (encoded n)

  -- a check of bytes is refused where one of its draws is
  pub byte_check-refused : (e : ChallengerError) (s u t : S) → u ≡ o.observed s (encoded n) → RefusesDraws d size e u t
      → RefusesDraw (byte_check o (in_row d size) encoded accepted n) e s t
  byte_check-refused e s u t observed h =
      checked-refused draws_nothing o (made_of accepted (in_row d size)) (encoded n) e s t refl
      (subst (λ v. RefusesDraw (made_of accepted (in_row d size)) e v t) observed
      (made_of-refused accepted (in_row d size) e u t (refused-in_row next d laws size e u t h)))

-- a search is not refused for memory if no copy or check is
pub search-takes_no_memory : {S W : Type 0} (r : Residues W) (check : W → Sampling S Bool)
    → ((witness : W) (s t : S) → ¬ ((check witness).may_leave s t)) → (e : ChallengerError) (s t : S)
    → RefusesSearch r (MayRunOut ⊥ check) check e s t → RefusesSearch r (λ _. ⊥) check e s t
search-takes_no_memory r check never OutOfMemory s t (inl copied, is) = (copied, is)
search-takes_no_memory r check never OutOfMemory s t (inr left, is) = (never left.0 s left.1 left.2, is)
search-takes_no_memory r check never e s t h = h
