-- What `new` of a challenger says, of the challenger with its whole state.
use Rattle.std.proofs.Common.{◌≡◌, ℕ, suc, List, [], ◌∷◌, length, sym, subst}
use Rattle.p3_challenger.specs.{Segments.Call, Sponge.IsNonEmpty, Queries.LeaveSamePending, DuplexState.DuplexState}
use Rattle.p3_challenger.specs.{HashCalls.HashFunction, HashState.HashState}
use Rattle.p3_field.specs.Residues.{Residues}
use Rattle.transcript_read_back.specs.CallByCall.{duplex_run, duplex_pending, hash_run, hash_pending, EndInSame}
use Rattle.p3_challenger.specs.Queries as queries
use Rattle.p3_challenger.specs.DuplexReadBack as duplex
use Rattle.p3_challenger.specs.HashReadBack as hash

-- a list of some length has an element
pub some-of_length : {T : Type 0} (n : ℕ) (xs : List T) → length xs ≡ suc n → IsNonEmpty xs
some-of_length n [] e = absurd (cc)
some-of_length n (x ∷ xs) e = tt

-- a duplex challenger, of this permutation
module _ {T P : Type 0} (r : Residues T) (permute : P → List T → List T) (rate : ℕ) (start : DuplexState T P) where
  module _ (p : P) (is : start.permutation ≡ p) where
    pub duplex-reads_back : duplex.ReadsBack r (permute p) rate start.sponge →
        queries.ReadsBack (duplex_run r permute rate start) duplex_pending
    duplex-reads_back reads = subst (λ q. duplex.ReadsBack r (permute q) rate start.sponge) (sym is) reads

    pub duplex-reads_back_or_collides : duplex.ReadsBackOrCollides r (permute p) rate start.sponge →
        queries.ReadsBackOrCollides (duplex_run r permute rate start) duplex_pending
        (duplex.EndAlike r (permute start.permutation) rate start.sponge)
        (duplex.Collide r (permute start.permutation) rate)
    duplex-reads_back_or_collides reads =
        subst (λ q. duplex.ReadsBackOrCollides r (permute q) rate start.sponge) (sym is) reads

  pub duplex-ends_alike : (calls others : List (Call T)) →
      EndInSame (duplex_run r permute rate start calls).queries (duplex_run r permute rate start others).queries →
      LeaveSamePending (duplex_run r permute rate start) duplex_pending calls others →
      duplex.EndAlike r (permute start.permutation) rate start.sponge calls others
  duplex-ends_alike calls others last pending = record { last = last; pending = pending }

-- a hash challenger, of this hasher
module _ {T H : Type 0} (function : H → HashFunction T) (start : HashState T H) (h : H) (is : start.hasher ≡ h) where
  pub hash-reads_back : hash.ReadsBack (function h) start.sponge →
      queries.ReadsBack (hash_run function start) hash_pending
  hash-reads_back reads = subst (λ q. hash.ReadsBack (function q) start.sponge) (sym is) reads

  pub hash-reads_back_or_collides : hash.ReadsBackOrCollides (function h) start.sponge →
      queries.ReadsBackOrCollides (hash_run function start) hash_pending
      (LeaveSamePending (hash_run function start) hash_pending) (hash.Collide (function start.hasher))
  hash-reads_back_or_collides reads =
      subst (λ q. hash.ReadsBackOrCollides (function q) start.sponge) (sym is) reads
