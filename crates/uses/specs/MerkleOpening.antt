-- A Merkle opening: a leaf with its salt, and the siblings on the path to the root.
use Rattle.std.specs.Prelude.{◌≡◌, ℕ, ◌==◌, ◌/◌, ◌%◌, ◌≤◌, List, [], ◌∷◌, ◌++◌, Some, length, if◌then◌else◌}
use Rattle.std.specs.List.{concat}
use Rattle.p3_challenger.specs.{Driving.Driving, Sampling.Sampling}
use Rattle.p3_field.specs.BabyBearResidues.{BabyBear, residues}

module _ (digest : List ℕ → List ℕ) where
  -- the hashed bytes begin with a byte that distinguishes a leaf from a node with two children
  abbrev pub leaf_node_of : List ℕ → List ℕ → List ℕ
  leaf_node_of salt bytes = digest ((0 ∷ salt) ++ bytes)

  abbrev pub parent_of : List ℕ → List ℕ → List ℕ
  parent_of left right = digest ((1 ∷ left) ++ right)

  -- the parent of the node at a place, given its sibling
  abbrev pub above : ℕ → List ℕ → List ℕ → List ℕ
  above place node sibling = if place % 2 == 0 then parent_of node sibling else parent_of sibling node

  -- the root that siblings give for a node at a place
  abbrev pub climbed : ℕ → List ℕ → List (List ℕ) → List ℕ
  climbed place node [] = node
  climbed place node (sibling ∷ siblings) = climbed (place / 2) (above place node sibling) siblings

-- nodes of 32 bytes, one after another
abbrev pub AreNodes : List (List ℕ) → Type 0
AreNodes [] = Unit {0}
AreNodes (node ∷ nodes) = (length node ≡ 32) × AreNodes nodes

-- the bytes begin with three siblings, which give this root for a node at a place, and these bytes are left
pub record IsClimb (digest : List ℕ → List ℕ) (place : ℕ) (node bytes top left : List ℕ) : Type 0 where
  pub siblings : List (List ℕ)
  pub levels : length siblings ≡ 3
  pub nodes : AreNodes siblings
  pub encoded : bytes ≡ concat siblings ++ left
  pub reaches : top ≡ climbed digest place node siblings

-- a drawn element determines one of eight places, and the draw leaves this state
pub record IsDrawnPlace {S : Type 0} (d : Sampling S BabyBear) (place : ℕ) (s t : S) : Type 0 where
  pub element : BabyBear
  pub drawn : d.sampled s ≡ Some element
  pub is : place ≡ residues.number element % 8
  pub after : t ≡ d.after s

-- The bytes begin with a root, the leaf after its length, a salt, and the siblings on the path from the leaf to the
-- root. These bytes are left. The place was drawn after the root. Then the leaf with its length and the salt were
-- observed.
pub record IsOpened {S : Type 0} (digest : List ℕ → List ℕ) (d : Sampling S BabyBear) (observed : S → List ℕ → S)
    (bytes : List ℕ) (s : S) (place : ℕ) (leaf left : List ℕ) (t : S) : Type 0 where
  pub root : List ℕ
  pub salt : List ℕ
  pub path : List ℕ
  pub encoded : bytes ≡ root ++ ((length leaf ∷ leaf) ++ (salt ++ path))
  pub root_bytes : length root ≡ 32
  pub leaf_bytes : length leaf ≤ 64
  pub salt_bytes : length salt ≡ 16
  pub climbs : IsClimb digest place (leaf_node_of digest salt leaf) path root left
  pub here : S
  pub drawn : IsDrawnPlace d place (observed s root) here
  pub challenger : t ≡ observed (observed here (length leaf ∷ leaf)) salt

-- a driver reads an opened leaf at a place
abbrev pub ReadsOpened : {S : Type 0} → (List ℕ → S → ℕ → List ℕ → List ℕ → S → Type 0) → Driving S → ℕ → List ℕ →
    Driving S → Type 0
ReadsOpened IsOpenedBy before place leaf after =
    IsOpenedBy before.bytes before.transcript.challenger place leaf after.bytes after.transcript.challenger
