-- What stands in a lane of words, and in a block of a padded message.
use Rattle.std.proofs.Common.{◌≡◌, ◌≢◌, ℕ, ◌+◌, ◌*◌, ◌%◌, ◌-◌, suc, zero, ◌<◌, ◌≤◌, ◌∙◌, sym, ap, arith, refl, List}
use Rattle.std.proofs.Common.{[], ◌∷◌, ◌++◌, length, slice_index, slice_set, slice_range, take, drop, replicate}
use Rattle.std.proofs.lemmas.List.{get_or-map, get_or-set_other, get_or-set_same, length-map, map-set, get_or-take, get_or-drop, get_or-append_right}
use Rattle.std.proofs.lemmas.List.{length-append, length-replicate, length-take-le, length-drop}
use Rattle.std.specs.Int.{w32, w64, from_be_bytes, to_be_bytes}
use Rattle.sha2.specs.Sha256.{padded_message, padding, word_at}
use Rattle.p3_sha256_lanes.specs.Lanes.{state_in, words_in, word_in}
use Rattle.p3_sha256_lanes.specs.Padding.{padded_length, padding_length, zero_count}

-- a word of a lane
pub word_of_lane : (lane : ℕ) (words : List (List ℕ)) (i : ℕ) → i < length words
    → slice_index (words_in lane words) i ≡ word_in lane words i
word_of_lane lane words i within = get_or-map (λ word. slice_index word lane) words i [] 0 within

-- the word of a lane that was set
pub words_in-set_same : (lane : ℕ) (words : List (List ℕ)) (i : ℕ) (word : List ℕ) → i < length words
    → slice_index (words_in lane (slice_set words i word)) i ≡ slice_index word lane
words_in-set_same lane words i word within =
    let long : i < length (words_in lane words) = omega (arith, within, length-map words (λ x. slice_index x lane)) in
    rw (map-set (λ x. slice_index x lane) words i word) (get_or-set_same (words_in lane words) i (slice_index word lane) 0 long)

-- another word of the lane
pub words_in-set_other : (lane : ℕ) (words : List (List ℕ)) (i k : ℕ) (word : List ℕ) → k ≢ i
    → slice_index (words_in lane (slice_set words i word)) k ≡ slice_index (words_in lane words) k
words_in-set_other lane words i k word other =
    rw (map-set (λ x. slice_index x lane) words i word) (get_or-set_other (words_in lane words) i k (slice_index word lane) 0 other)

-- a word of the eight, at a place that only the run knows
pub word_of_state : (lane : ℕ) (words : List (List ℕ)) (i : ℕ) → i < 8
    → slice_index (state_in lane words) i ≡ word_in lane words i
word_of_state lane words zero low = refl
word_of_state lane words (suc zero) low = refl
word_of_state lane words (suc (suc zero)) low = refl
word_of_state lane words (suc (suc (suc zero))) low = refl
word_of_state lane words (suc (suc (suc (suc zero)))) low = refl
word_of_state lane words (suc (suc (suc (suc (suc zero))))) low = refl
word_of_state lane words (suc (suc (suc (suc (suc (suc zero)))))) low = refl
word_of_state lane words (suc (suc (suc (suc (suc (suc (suc zero))))))) low = refl
word_of_state lane words (suc (suc (suc (suc (suc (suc (suc (suc i)))))))) low = absurd (omega (arith, low))

-- a byte of block `index` of a list
byte_of_block : (padded : List ℕ) (index k : ℕ) → k < 64
    → slice_index (take 64 (drop (index * 64) padded)) k ≡ slice_index padded (64 * index + k)
byte_of_block padded index k low =
    let at : index * 64 + k ≡ 64 * index + k = omega arith in
    get_or-take 64 (drop (index * 64) padded) k 0 low
    ∙ get_or-drop (index * 64) padded k 0
    ∙ ap (slice_index padded) at

-- a word of block `index` of a list
pub word_of_block : (padded : List ℕ) (index i : ℕ) → i < 16
    → word_at (take 64 (drop (index * 64) padded)) (4 * i) ≡ word_at padded (64 * index + 4 * i)
word_of_block padded index i low =
    let first = byte_of_block padded index (4 * i) (omega (arith, low)) in
    let byte : (j : ℕ) → j < 4 →
    slice_index (take 64 (drop (index * 64) padded)) (4 * i + j) ≡ slice_index padded (64 * index + 4 * i + j) =
    λ j below.
    byte_of_block padded index (4 * i + j) (omega (arith, low, below)) ∙ ap (slice_index padded) (omega arith) in
    λ k. from_be_bytes w32
    (first k ∷ byte 1 (omega arith) k ∷ byte 2 (omega arith) k ∷ byte 3 (omega arith) k ∷ [])

-- how many bytes a padding has
length-padding : (n : ℕ) → length (padding n) ≡ padding_length n
length-padding n =
    let zeros = length-replicate {A = ℕ} (zero_count n) 0 in
    let bits : length (to_be_bytes w64 (n * 8 % 18446744073709551616)) ≡ 8 = refl in
    let both = length-append (replicate (zero_count n) 0) (to_be_bytes w64 (n * 8 % 18446744073709551616)) in
    omega (arith, both, zeros, bits)

-- how many bytes a padded message has
pub length-padded : (message : List ℕ) → length (padded_message message) ≡ padded_length (length message)
length-padded message =
    length-append message (padding (length message)) ∙ ap (λ k. length message + k) (length-padding (length message))

-- a word of a padded message that begins after the message
pub word_of_padding : (message : List ℕ) (each place : ℕ) → length message ≡ each → each ≤ place
    → word_at (padding each) (place - each) ≡ word_at (padded_message message) place
word_of_padding message each place long after =
    let padded = padded_message message in
    let byte : (j : ℕ) → slice_index (padding each) (place - each + j) ≡ slice_index padded (place + j) =
    λ j.
    ap (slice_index (padding each)) (omega (arith, after))
    ∙ sym (get_or-append_right message (padding each) each (place + j) 0 long (omega (arith, after)))
    ∙ ap (λ n. slice_index (message ++ padding n) (place + j)) (sym long) in
    let first : slice_index (padding each) (place - each) ≡ slice_index (padded_message message) place =
    sym (get_or-append_right message (padding each) each place 0 long after)
    ∙ ap (λ n. slice_index (message ++ padding n) place) (sym long) in
    λ k. from_be_bytes w32 (first k ∷ byte 1 k ∷ byte 2 k ∷ byte 3 k ∷ [])

-- what holds of each of four lanes
pub by_lane : (P : ℕ → Type 0) → P 0 → P 1 → P 2 → P 3 → (lane : ℕ) → lane < 4 → P lane
by_lane P first second third fourth zero is_lane = first
by_lane P first second third fourth (suc zero) is_lane = second
by_lane P first second third fourth (suc (suc zero)) is_lane = third
by_lane P first second third fourth (suc (suc (suc zero))) is_lane = fourth
by_lane P first second third fourth (suc (suc (suc (suc lane)))) is_lane = absurd (omega (arith, is_lane))

length-message_at : (messages : List ℕ) (each start : ℕ) → start + each ≤ length messages
    → length (slice_range messages start (start + each)) ≡ each
length-message_at messages each start inside =
    let wide : start + each - start ≡ each = omega arith in
    rw wide (length-take-le each (drop start messages) (omega (arith, length-drop start messages, inside)))

-- each of four messages has a fourth of their bytes
pub length-message : (messages : List ℕ) (each : ℕ) → length messages ≡ 4 * each → (lane : ℕ) → lane < 4
    → length (slice_range messages (lane * each) (lane * each + each)) ≡ each
length-message messages each long =
    by_lane (λ lane. length (slice_range messages (lane * each) (lane * each + each)) ≡ each)
    (length-message_at messages each (0 * each) (omega (arith, long)))
    (length-message_at messages each (1 * each) (omega (arith, long)))
    (length-message_at messages each (2 * each) (omega (arith, long)))
    (length-message_at messages each (3 * each) (omega (arith, long)))
