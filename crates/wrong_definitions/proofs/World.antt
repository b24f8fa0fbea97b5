-- A small world for scripts: elements are numbers, a challenger keeps the last one that it was fed, and a draw gives it.
use Rattle.std.proofs.Common.{ℕ, ◌<◌, ◌%◌, true, List, [], ◌∷◌, codes, replicate, Some, Ok, Err, refl, lit<, lit≤, arith}
use Rattle.std.{proofs.Common.Result, specs.Global.{Vec}}
use denote.{Bor.Bor, RawPtr.null_ptr}
use Rattle.p3_challenger_core.specs.Observation.{Observation, unrefused_observe}
use Rattle.p3_challenger_core.specs.Sampling.{Sampling, unrefused_draw}
use Rattle.p3_fs_core.specs.{Alphabet.alphabet_of, Encoding.Encoding, Steps.algebra_of}
use Rattle.p3_patterns.specs.PatternSteps.{PatternSteps}
use Rattle.p3_domain_separator.specs.{Seed.identifier, Separators.HeldSeparator}
use Rattle.p3_runs.specs.{Absorbed.alone, Rules.{Rules, Coding}}
use Rattle.p3_script.specs.declared.steps.Step as script
use Rattle.wrong_definitions.proofs.Bytes.{are_bytes}

abbrev pub value : Observation ℕ ℕ ℕ
value = unrefused_observe (λ x. x ∷ []) (λ s x. x)

abbrev pub draw : Sampling ℕ ℕ
draw = unrefused_draw (λ s. Some s) (λ s. s)

abbrev read : List ℕ → Result (ℕ × List ℕ) (List ℕ)
read [] = Err []
read (x ∷ rest) = Ok (x, rest)

abbrev pub one_place : Encoding ℕ
one_place = record { width = 1; wire = λ x. x ∷ []; read = read }

abbrev pub coding : Coding ℕ ℕ ℕ ℕ
coding = record {
  algebra = algebra_of 257 1 (replicate 32 0) (codes "number");
  coefficients = alone;
  encoding = one_place;
  observation = value;
  sampling = draw;
}

abbrev pub rules : Rules ℕ ℕ ℕ ℕ ℕ ℕ (Unit {0})
rules = record {
  marker_name = codes "()";
  is_secure = Unit {0};
  scalar = coding;
  extension = coding;
  alphabet = alphabet_of (λ bytes. bytes) (λ _. ⊥) value (λ _ _ _. ⊥);
  opaque = value;
  IsOwn = λ _. Unit {0};
  accepts_extension = λ _ _ _. true;
  accepts_bits = λ _ _ _. true;
  residues = record { order = 257; number = λ x. x; of = λ n. n % 257 };
  witness_encoding = one_place;
  bits = record { most = 0; are_there = ⊥; are_uniform = ⊥; plain = λ _. draw; uniform = λ _. draw };
  grinding = record {
    is_there = ⊥;
    before_witness = unrefused_draw (λ _. Some tt) (λ s. s);
    witness = value;
    may_run_out = λ _. ⊥;
  };
  digest_of = λ _. replicate 32 0;
}

abbrev pub Nil : Type 0
Nil = Unit {0}

-- its scripts
abbrev pub Step : Type 0
Step = script.Step Nil ℕ ℕ Nil ℕ Nil Nil Nil Nil Nil ℕ ℕ ℕ

pub none : (k : ℕ) → k < 0 → ⊥
none k below = absurd (omega (arith, below))

abbrev pub label : List ℕ → Bor (List ℕ)
label bytes = record { ref_ptr = (0, 0); now = bytes }

-- a list with nothing in it
abbrev pub no_numbers : Vec ℕ
no_numbers = record {
  ptr = null_ptr;
  len = 0;
  cap = 0;
  alloc = record { memory = record { seal = tt } };
  items = [];
  ok = (refl, lit≤ tt);
  small = lit< tt;
}

-- the separator of a protocol of this pattern, with no label yet
abbrev pub separator : PatternSteps → HeldSeparator
separator pattern = record {
  protocol_id = identifier 1 (codes "p");
  label = [];
  pattern = pattern;
  is_identifier = record {
    version = 1;
    name = codes "p";
    encoded = refl;
    version_fits = lit< tt;
    named = lit≤ tt;
    short = lit≤ tt;
    bytes = are_bytes (codes "p") refl;
  };
  is_label = record {
    chunks = [];
    encoded = refl;
    counted = λ k d below. absurd (none k below);
    bytes = λ k d below. absurd (none k below);
  };
  label_fits = lit< tt;
}
