-- Uniform bits drawn from a duplex challenger.
use Rattle.std.specs.Prelude.{◌≡◌, ◌↔◌, ℕ, zero, suc, ◌-◌, ◌/◌, List, Option, Some, None, Bool, true, false, nat_eq}
use Rattle.p3_field_core.specs.{Residues.Residues, UniformBounds.uniform_bound}
use Rattle.p3_challenger_core.specs.Sampling.{Sampling, unrefused_draw}
use Rattle.p3_grinding.specs.Candidates.{first_accepted, MeetsLimitExactly}
use Rattle.p3_grinding.specs.UniformDraws.{UniformDraw, no_bits, is_below, low_bits, bits_of_one, in_halves}
use Rattle.p3_duplex.specs.DuplexState.{DuplexState, sampled, after_sampled}
use Rattle.std.specs.{Prelude.{nat_lt, if◌then◌else◌}, List.{count_by, range_with_len}}

-- a draw of one element
abbrev pub base_draw : {F P : Type 0} → Residues F → (P → List F → List F) → ℕ → Sampling (DuplexState F P) F
base_draw r permute rate = unrefused_draw (λ c. Some (sampled r permute rate c)) (after_sampled r permute rate)

-- the greatest number of elements drawn until one is below its bound
abbrev pub draws_allowed : {F P : Type 0} → DuplexState F P → ℕ
draws_allowed c = c.draw_limit

-- two draws of bits do the same
pub record SameDraw {S : Type 0} (u v : UniformDraw S) : Type 0 where
  pub sampled : (s : S) → u.draw.sampled s ≡ v.draw.sampled s
  pub after : (s : S) → u.draw.after s ≡ v.draw.after s
  pub limits : (s : S) → u.draw.meets_limit s ↔ v.draw.meets_limit s
  pub rejects : (s : S) → u.rejects s ≡ v.rejects s

-- the number of elements below the bound whose low bits have the given value
abbrev pub how_many_give : {F : Type 0} → Residues F → ℕ → ℕ → ℕ
how_many_give r bits value =
    count_by (λ n. nat_eq (low_bits r bits (r.of n)) value) (range_with_len 0 (uniform_bound r.order bits))

-- The element that a draw of bits takes, where one element suffices for them. It is the first one below the bound, of
-- as many as the draw limit allows. Where a rejected one is not replaced, it is the next one, if it is below the
-- bound.
abbrev pub taken_element : {F P : Type 0} → Residues F → (P → List F → List F) → ℕ → Bool → ℕ → DuplexState F P →
    Option F
taken_element r permute rate true bits c =
    first_accepted (base_draw r permute rate) (is_below r (uniform_bound r.order bits)) c.draw_limit c
taken_element r permute rate false bits c =
    let x = sampled r permute rate c in
    if is_below r (uniform_bound r.order bits) x then Some x else None

module _ {F P : Type 0} (r : Residues F) (permute : P → List F → List F) (rate : ℕ) (resample : Bool) where
  -- bits of one element
  abbrev pub single : ℕ → UniformDraw (DuplexState F P)
  single bits = bits_of_one r (base_draw r permute rate) draws_allowed resample (uniform_bound r.order bits) bits

  -- the low half of the bits, and then the high half
  abbrev pub halved : ℕ → UniformDraw (DuplexState F P)
  halved bits = in_halves (bits / 2) (single (bits / 2)) (single (bits - bits / 2))

  -- in halves, or of one element
  abbrev pub in_parts : Bool → ℕ → UniformDraw (DuplexState F P)
  in_parts true bits = halved bits
  in_parts false bits = single bits

  -- uniform bits: no draw for 0 bits, and two halves where one element does not suffice
  abbrev pub uniform_bits : ℕ → ℕ → UniformDraw (DuplexState F P)
  uniform_bits most_of_one zero = no_bits
  uniform_bits most_of_one (suc more) = in_parts (nat_lt most_of_one (suc more)) (suc more)

-- A draw of bits has no result exactly where it draws as many elements as the draw limit allows, and none is below the
-- bound. There it meets the limit, and leaves the challenger after just those draws.
abbrev pub MeetsElementLimit : {F P : Type 0} → Residues F → (P → List F → List F) → ℕ → ℕ →
    UniformDraw (DuplexState F P) → Type 0
MeetsElementLimit r permute rate bits u =
    MeetsLimitExactly (base_draw r permute rate) (is_below r (uniform_bound r.order bits)) draws_allowed u.draw
