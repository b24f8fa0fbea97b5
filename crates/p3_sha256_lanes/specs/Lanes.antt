-- Words of several messages side by side, one in each lane, and the words in one lane.
use Rattle.std.specs.Prelude.{ℕ, List, [], ◌∷◌, map, slice_index, slice_index_or}

-- the word at a place in a lane
abbrev pub word_in : ℕ → List (List ℕ) → ℕ → ℕ
word_in lane words i = slice_index (slice_index_or words i []) lane

-- the eight words in a lane: a hash value, or working variables
abbrev pub state_in : ℕ → List (List ℕ) → List ℕ
state_in lane words =
    word_in lane words 0 ∷ word_in lane words 1 ∷ word_in lane words 2 ∷ word_in lane words 3
    ∷ word_in lane words 4 ∷ word_in lane words 5 ∷ word_in lane words 6 ∷ word_in lane words 7 ∷ []

-- all words in a lane
abbrev pub words_in : ℕ → List (List ℕ) → List ℕ
words_in lane words = map (λ word. slice_index word lane) words
