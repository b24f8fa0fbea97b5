-- Whole transcripts over a duplex challenger of BabyBear, and over a hash challenger of bytes.
use Rattle.std.specs.Prelude.{ℕ, List}
use Rattle.p3_challenger.specs.{AcceptAll.AcceptAll, Both.Both, DuplexState.DuplexState}
use Rattle.p3_challenger.specs.{FieldToFieldCodec.FieldToFieldCodec, FieldUnit.FieldUnit, Hash.Hash}
use Rattle.p3_challenger.specs.{HashCalls.HashFunction, HashState.HashState, Rules.Rules, Sha256Hasher.Sha256Hasher}
use Rattle.p3_field.specs.{Coeffs.Coeffs, BabyBearResidues.{BabyBear, residues}}
use Rattle.p3_codecs.specs.declared.bytes_to_field.BytesToFieldCodec.{BytesToFieldCodec}
use Rattle.p3_script.specs.declared.groups.Plain.{Plain}
use Rattle.transcript_read_back.specs.AcceptedReadBack.{AcceptedReadBack, AcceptedReadBackOrCollide}
use Rattle.transcript_read_back.specs.CallByCall.{duplex_run, duplex_pending, EndInSame, hash_run, hash_pending}
use Rattle.transcript_read_back.specs.ScriptReadBack.{ScriptsReadBackOrCollide, EachScriptMakesQueries, ScriptsReadBack}
use Rattle.transcript_read_back.specs.declared.recursive.{OverDuplex.OverDuplex, OverHash.OverHash}
use Rattle.p3_challenger.specs.DuplexReadBack as duplex
use Rattle.p3_challenger.specs.HashReadBack as hash

-- a duplex challenger, as contracts see it
abbrev pub Challenger : Type 0 → Type 0
Challenger P = DuplexState BabyBear P

-- how many cells there are, and how many of them the rate has; the rules of scripts over such a
-- challenger; and what each permutation makes of a state
module _ {P : Type 0} (width rate : ℕ)
    (rules : Rules (Challenger P) BabyBear BabyBear BabyBear (Coeffs BabyBear 4)
    (Hash BabyBear BabyBear 8) AcceptAll) (permute : P → List BabyBear → List BabyBear) where
  -- each finished run queries the permutation
  abbrev pub EachQueriesStates : Type 0
  EachQueriesStates =
      EachScriptMakesQueries (OverDuplex P width rate) (FieldUnit BabyBear) (Challenger P)
      (FieldToFieldCodec BabyBear) Sha256Hasher Both BabyBear (Challenger P) BabyBear rules
      (duplex_run residues permute rate)

  -- from this challenger on, runs that query the same states, and leave the same pending, are
  -- bound
  abbrev pub StatesTell : Challenger P → Type 0
  StatesTell start =
      ScriptsReadBack (OverDuplex P width rate) (FieldUnit BabyBear) (Challenger P)
      (FieldToFieldCodec BabyBear) Sha256Hasher Both BabyBear (Challenger P) BabyBear rules
      (duplex_run residues permute rate) duplex_pending start

  -- and so are runs that query equally many, the same last, or at one place of these two states
  -- collide
  abbrev pub StatesTellOrCollide : Challenger P → Type 0
  StatesTellOrCollide start =
      ScriptsReadBackOrCollide (OverDuplex P width rate) (FieldUnit BabyBear) (Challenger P)
      (FieldToFieldCodec BabyBear) Sha256Hasher Both BabyBear (Challenger P) BabyBear rules
      (duplex_run residues permute rate) duplex_pending EndInSame
      (duplex.Collide residues (permute start.permutation) rate) start

  -- two accepted proofs of one script that query the same states agree; or equally many, and
  -- they agree or two states collide
  abbrev pub StatesTellValues : Challenger P → Type 0
  StatesTellValues start =
      AcceptedReadBack (OverDuplex P width rate) (FieldUnit BabyBear) (Challenger P)
      (FieldToFieldCodec BabyBear) Sha256Hasher Both BabyBear (Challenger P) BabyBear rules
      (λ c. c) (duplex_run residues permute rate) duplex_pending start

  abbrev pub StatesTellValuesOrCollide : Challenger P → Type 0
  StatesTellValuesOrCollide start =
      AcceptedReadBackOrCollide (OverDuplex P width rate) (FieldUnit BabyBear) (Challenger P)
      (FieldToFieldCodec BabyBear) Sha256Hasher Both BabyBear (Challenger P) BabyBear rules
      (λ c. c) (duplex_run residues permute rate) duplex_pending EndInSame
      (duplex.Collide residues (permute start.permutation) rate) start

-- the rules of scripts over a hash challenger, and the hash function that each hasher is
module _ {H : Type 0}
    (rules : Rules (HashState ℕ H) ℕ ℕ BabyBear (Coeffs BabyBear 4) (List ℕ) AcceptAll)
    (function : H → HashFunction ℕ) where
  -- each finished run queries the hash function
  abbrev pub EachQueriesStrings : Type 0
  EachQueriesStrings =
      EachScriptMakesQueries (OverHash H) ℕ (HashState ℕ H) (BytesToFieldCodec BabyBear)
      Sha256Hasher Plain ℕ (HashState ℕ H) ℕ rules (hash_run function)

  -- from this challenger on, runs that hash the same strings, and leave the same pending, are bound
  abbrev pub StringsTell : HashState ℕ H → Type 0
  StringsTell start =
      ScriptsReadBack (OverHash H) ℕ (HashState ℕ H) (BytesToFieldCodec BabyBear)
      Sha256Hasher Plain ℕ (HashState ℕ H) ℕ rules (hash_run function) hash_pending start

  -- and so are runs that hash equally many, or at one place of these two strings have one digest
  abbrev pub StringsTellOrCollide : HashState ℕ H → Type 0
  StringsTellOrCollide start =
      ScriptsReadBackOrCollide (OverHash H) ℕ (HashState ℕ H) (BytesToFieldCodec BabyBear)
      Sha256Hasher Plain ℕ (HashState ℕ H) ℕ rules (hash_run function) hash_pending
      (λ _ _. Unit {0}) (hash.Collide (function start.hasher)) start

  -- two accepted proofs of one script that hash the same strings agree; or equally many, and they
  -- agree or two strings have one digest
  abbrev pub StringsTellValues : HashState ℕ H → Type 0
  StringsTellValues start =
      AcceptedReadBack (OverHash H) ℕ (HashState ℕ H) (BytesToFieldCodec BabyBear)
      Sha256Hasher Plain ℕ (HashState ℕ H) ℕ rules (λ s. s) (hash_run function) hash_pending start

  abbrev pub StringsTellValuesOrCollide : HashState ℕ H → Type 0
  StringsTellValuesOrCollide start =
      AcceptedReadBackOrCollide (OverHash H) ℕ (HashState ℕ H) (BytesToFieldCodec BabyBear)
      Sha256Hasher Plain ℕ (HashState ℕ H) ℕ rules (λ s. s) (hash_run function) hash_pending
      (λ _ _. Unit {0}) (hash.Collide (function start.hasher)) start
