-- Implementations that lie about themselves, and effects that do: the laws refuse each.
use Rattle.std.proofs.Common.{◌≡◌, ℕ, zero, suc, ◌<◌, ◌≤◌, List, [], ◌∷◌, ◌++◌, length, replicate, Option, Some, None}
use Rattle.std.proofs.Common.{Bool, true, false, Ok, refl, lit<, inl, inr, arith}
use Rattle.p3_symmetric.specs.Digests.{IsDigest}
use Rattle.p3_field_core.specs.Residues.{Residues}
use Rattle.p3_challenger_core.specs.Reading.{IsByte, AreBytes, IsPrefixCodeOn, OneBegins, IsPrefixFree}
use Rattle.p3_challenger_core.specs.{Sponge.{IsFed, after_steps}, Observation.{Observation, IsObservation}}
use Rattle.p3_challenger_core.specs.{Sampling.{Sampling, IsSampling}, declared.error.ChallengerError.ChallengerError}
use Rattle.p3_challenger_core.specs.declared.error.ChallengerError.TheVariants.{OutOfMemory, DrawLimit, NoWitness, TooLong}
use Rattle.p3_grinding.specs.{UniformDraws.{UniformDraw, IsUniformDraw}, Checks.{passed, IsLeast, RefusesSearch}}
use Rattle.p3_fs_core.specs.{Alphabet.AreItems, Encoding.{Encoding, IsEncoding}}
use Rattle.p3_driver_core.specs.{Effects.Effect, Feeding.{Feeds, OnlyDraws}}

heads : (x y : ℕ) (xs ys : List ℕ) → x ∷ xs ≡ y ∷ ys → x ≡ y
heads x y xs ys e = cc

-- ---- challengers that keep the numbers that they are fed, and say something else

abbrev kept : List ℕ → List ℕ → List ℕ
kept s xs = s ++ xs

-- a refused observe writes 77 into the challenger
abbrev scribbling : Observation (List ℕ) ℕ ℕ
scribbling = record { symbols = λ x. x ∷ []; observed = λ s x. s ++ (x ∷ []); may_leave = λ s _ t. t ≡ 77 ∷ s }

scribbling-refused : IsObservation kept scribbling → ⊥
scribbling-refused laws =
    let left = laws.leaves_after [] 1 [] 2 (77 ∷ 1 ∷ []) refl in
    absurd (omega (arith, heads 77 1 (1 ∷ []) _ left.1))

-- a value is kept, and is said to feed nothing
abbrev silent : Observation (List ℕ) ℕ ℕ
silent = record { symbols = λ _. []; observed = λ s x. s ++ (x ∷ []); may_leave = λ _ _ _. ⊥ }

silent-no_feeding : IsFed kept [] [] (1 ∷ []) → ⊥
silent-no_feeding fed = absurd (omega (arith, heads 1 2 (2 ∷ []) [] (fed.traceless 2 [])))

silent-refused : IsObservation kept silent → ⊥
silent-refused laws = silent-no_feeding (laws.observes [] 1)

-- a value is said to be fed, and is dropped
abbrev dropping : Observation (List ℕ) ℕ ℕ
dropping = record { symbols = λ x. x ∷ []; observed = λ s _. s; may_leave = λ _ _ _. ⊥ }

dropping-refused : IsObservation kept dropping → ⊥
dropping-refused laws = let fed = (laws.observes [] 1).exactly tt in cc

-- ---- draws, of a challenger whose state is the number of its smallest draws

-- a draw gives a value where it met its limit
abbrev unlimited : Sampling ℕ ℕ
unlimited = record { sampled = λ _. Some 7; after = suc; meets_limit = λ _. Unit {0}; may_leave = λ _ _. ⊥ }

unlimited-refused : IsSampling suc unlimited → ⊥
unlimited-refused laws = let none = laws.limit_gives_none 0 tt in cc

grows : (n s : ℕ) → s ≤ after_steps suc n s
grows zero s = omega arith
grows (suc n) s = omega (arith, grows n (suc s))

-- a refused draw begins anew
abbrev forgetful : Sampling ℕ ℕ
forgetful = record { sampled = λ s. Some s; after = suc; meets_limit = λ _. ⊥; may_leave = λ _ t. t ≡ 0 }

forgetful-refused : IsSampling suc forgetful → ⊥
forgetful-refused laws = let left = laws.leaves 1 0 refl in absurd (omega (arith, left.1, grows left.0 1))

-- and so does one that is made
abbrev restarting : Sampling ℕ ℕ
restarting = record { sampled = λ s. Some s; after = λ _. 0; meets_limit = λ _. ⊥; may_leave = λ _ _. ⊥ }

restarting-refused : IsSampling suc restarting → ⊥
restarting-refused laws = let left = laws.steps 1 in absurd (omega (arith, left.1, grows left.0 1))

-- what draws of bits owe: a drawn value is told by its number
abbrev NumberTells : (ℕ → ℕ) → Type 0
NumberTells number = (x y : ℕ) → number x ≡ number y → x ≡ y

-- the numbers of drawn values are all 0, and so below every power of two
counted_0-refused : NumberTells (λ _. 0) → ⊥
counted_0-refused number_tells = absurd (omega (arith, number_tells 0 1 refl))

-- ---- effects of steps

-- bytes are kept, and are said to feed nothing
abbrev unnamed : Effect (List ℕ) ℕ (List ℕ)
unnamed =
    record {
      symbols = [];
      fits = Unit {0};
      gives = λ _. Some (1 ∷ []);
      after = λ s. s ++ (1 ∷ []);
      refuses = λ _ _ _. ⊥;
    }

unnamed-refused : Feeds kept unnamed → ⊥
unnamed-refused is = silent-no_feeding (is.feeds [])

-- of two values that are said to be fed, the second is dropped
abbrev half : Effect (List ℕ) ℕ (List ℕ)
half =
    record {
      symbols = 1 ∷ 2 ∷ [];
      fits = Unit {0};
      gives = λ _. Some (1 ∷ 2 ∷ []);
      after = λ s. s ++ (1 ∷ []);
      refuses = λ _ _ _. ⊥;
    }

half-refused : Feeds kept half → ⊥
half-refused is = let fed = (is.feeds []).exactly tt in cc

-- a refused step has fed what it does not name
abbrev scribbling_step : Effect (List ℕ) ℕ ℕ
scribbling_step =
    record {
      symbols = 2 ∷ [];
      fits = Unit {0};
      gives = λ _. Some 2;
      after = λ s. s ++ (2 ∷ []);
      refuses = λ _ s t. t ≡ 77 ∷ s;
    }

scribbling_step-refused : Feeds kept scribbling_step → ⊥
scribbling_step-refused is =
    let left = is.leaves_after OutOfMemory [] 1 [] (77 ∷ 1 ∷ []) refl in
    absurd (omega (arith, heads 77 1 (1 ∷ []) _ left.1))

-- a step that draws is said to feed
abbrev feeding_draw : Effect ℕ ℕ ℕ
feeding_draw =
    record { symbols = 7 ∷ []; fits = Unit {0}; gives = λ s. Some s; after = suc; refuses = λ _ _ _. ⊥ }

feeding_draw-refused : OnlyDraws suc feeding_draw → ⊥
feeding_draw-refused is = let none = is.no_symbols in cc

-- a step that draws begins anew
abbrev restarting_step : Effect ℕ ℕ ℕ
restarting_step =
    record { symbols = []; fits = Unit {0}; gives = λ s. Some s; after = λ _. 0; refuses = λ _ _ _. ⊥ }

restarting_step-refused : OnlyDraws suc restarting_step → ⊥
restarting_step-refused is = let left = is.steps 1 in absurd (omega (arith, left.1, grows left.0 1))

-- ---- encodings

-- every value has one encoding
abbrev constant : Encoding ℕ
constant = record { width = 1; wire = λ _. 0 ∷ []; read = λ bytes. Ok (0, bytes) }

constant-refused : IsEncoding constant → ⊥
constant-refused laws = absurd (omega (arith, (laws.prefix_code 0 1 [] [] refl).0))

-- ---- alphabets

bytes-of_one : (byte : ℕ) → byte < 256 → AreBytes (byte ∷ [])
bytes-of_one byte is zero = is
bytes-of_one byte is (suc i) = lit< tt

other_strings : OneBegins {S = ℕ} (1 ∷ []) (2 ∷ []) → ⊥
other_strings (inl h) = absurd (omega (arith, heads 1 2 h.0 [] h.1))
other_strings (inr h) = absurd (omega (arith, heads 2 1 h.0 [] h.1))

-- what every alphabet owes of the items of byte strings that are not too long
abbrev Begins : (List ℕ → List ℕ) → Type 0
Begins items = (a b : List ℕ) (x y : List ℕ) → AreBytes a → AreBytes b → items a ++ x ≡ items b ++ y → OneBegins a b

-- no byte string has any items
no_items-refused : Begins (λ _. []) → ⊥
no_items-refused begins =
    other_strings (begins (1 ∷ []) (2 ∷ []) [] [] (bytes-of_one 1 (lit< tt)) (bytes-of_one 2 (lit< tt)) refl)

-- the items of a byte string are no items
outside-refused : ((bytes : List ℕ) → AreBytes bytes → AreItems IsByte (256 ∷ bytes)) → ⊥
outside-refused items_are = let item = (items_are (1 ∷ []) (bytes-of_one 1 (lit< tt))).0 in absurd (omega (arith, item))

-- ---- digests

-- a digest is one place short
short-refused : (digest : List ℕ) → length digest ≡ 31 → IsDigest digest → ⊥
short-refused digest short is = absurd (omega (arith, short, is.places))

-- a place of it is no byte
above-refused : IsDigest (256 ∷ replicate 31 0) → ⊥
above-refused is = absurd (omega (arith, is.bytes 0))

-- ---- uniform bits, and proof of work

-- a draw that gives this, and rejects 9 for not being below 8
abbrev rejecting : (ℕ → Option ℕ) → (ℕ → Type 0) → UniformDraw ℕ
rejecting given meets_limit =
    record {
      draw = record { sampled = given; after = suc; meets_limit = meets_limit; may_leave = λ _ _. ⊥ };
      rejects = λ _. Some (record { value = 9; m = 8 });
    }

-- a value is rejected where another one is to be drawn in its place
stubborn-refused : IsUniformDraw suc true (rejecting (λ _. None) (λ _. ⊥)) → ⊥
stubborn-refused laws = let none = laws.resampled refl 0 in cc

-- a rejected value is given all the same
giving-refused : IsUniformDraw suc false (rejecting Some (λ _. ⊥)) → ⊥
giving-refused laws = let none = laws.rejected_gives_none 0 refl in cc

-- a rejected value is said to meet the limit as well
limiting-refused : IsUniformDraw suc false (rejecting (λ _. None) (λ _. Unit {0})) → ⊥
limiting-refused laws = laws.rejected_or_limit 0 refl tt

-- a value below the bound is rejected
abbrev rejecting_small : UniformDraw ℕ
rejecting_small =
    record {
      draw = record { sampled = λ _. None; after = suc; meets_limit = λ _. ⊥; may_leave = λ _ _. ⊥ };
      rejects = λ _. Some (record { value = 0; m = 9 });
    }

small_rejected-refused : IsUniformDraw suc false rejecting_small → ⊥
small_rejected-refused laws =
    let above : 9 ≤ 0 = laws.above 0 (record { value = 0; m = 9 }) refl in
    absurd (omega (arith, above))

-- the number of drawn bits is another one than what is drawn
other_number-refused : ((n : ℕ) → suc n ≡ n) → ⊥
other_number-refused is = let one = is 0 in absurd (omega (arith, one))

-- a witness feeds nothing
unfed_witness-refused : IsPrefixFree {T = ℕ} {S = ℕ} (λ _. []) → ⊥
unfed_witness-refused laws = absurd (omega (arith, (laws.prefix_code 0 1 [] [] refl).0))

-- the bytes of candidates feed nothing
unfed_bytes-refused : IsPrefixCodeOn {T = ℕ} {S = ℕ} IsByte (λ _. []) → ⊥
unfed_bytes-refused tells = absurd (omega (arith, (tells 0 1 [] [] (lit< tt) (lit< tt) refl).0))

-- a refused search leaves something else than it found
scribbling_search-refused : (r : Residues ℕ) (may_run_out : ℕ → Type 0) (check : ℕ → Sampling ℕ Bool)
    (e : ChallengerError) → RefusesSearch r may_run_out check e 0 77 → ⊥
scribbling_search-refused r may_run_out check OutOfMemory h = absurd (omega (arith, h.1))
scribbling_search-refused r may_run_out check NoWitness h = absurd (omega (arith, h.1))
scribbling_search-refused r may_run_out check DrawLimit h = h
scribbling_search-refused r may_run_out check TooLong h = h

-- a search answers a witness after another one that passes
later_witness-refused : (order : ℕ) → IsLeast {S = ℕ} {W = ℕ} (record { order = order; number = λ x. x; of = λ n. n }) (λ _. passed) 0 1 → ⊥
later_witness-refused order found = found.least 0 (lit< tt) refl
