-- A value, a byte string and a second value, absorbed one after another.
use Rattle.std.specs.{Prelude.{◌≡◌, ℕ, List, ◌++◌, length}, List.flat_map}
use Rattle.p3_challenger.specs.{Sponge.IsFed, Observation.LeavesFed, ChallengerError.ChallengerError}
use Rattle.p3_challenger.specs.Reading.{AreBytes}
use Rattle.p3_challenger.specs.ChallengerError.TheVariants.{OutOfMemory, TooLong}

-- the symbols of a byte string, by its items in an alphabet
abbrev pub of_bytes : {Item Symbol : Type 0} → (List ℕ → List Item) → (Item → List Symbol) → List ℕ → List Symbol
of_bytes items symbols bytes = flat_map symbols (items bytes)

-- the symbols of a value, a byte string and a second value
abbrev pub of_three : {T Symbol : Type 0} → (T → List Symbol) → (List ℕ → List Symbol) → T → List ℕ → T → List Symbol
of_three of_value of_message first message second = of_value first ++ (of_message message ++ of_value second)

-- What an absorption with this error leaves. If memory is refused, a prefix of the symbols was fed; if the
-- byte string is too long, only those of the first value were.
abbrev pub RefusesInTurn : {S Symbol : Type 0} →
    (S → List Symbol → S) → Type 0 → List Symbol → List Symbol → ChallengerError → S → S → Type 0
RefusesInTurn fed IsTooLong of_first symbols OutOfMemory s t = LeavesFed fed s symbols t
RefusesInTurn fed IsTooLong of_first symbols TooLong s t = IsTooLong × IsFed fed s of_first t
RefusesInTurn fed IsTooLong of_first symbols _ s t = ⊥

-- Equal symbols of two such absorptions, with anything after them, come from equal values and byte strings, where these
-- have one length, and so what follows is equal too.
abbrev pub BindThree : {T Symbol : Type 0} → (ℕ → Type 0) → (T → List ℕ → T → List Symbol) → Type 0
BindThree {T} {Symbol} IsTooLong symbols = (p q v w : T) (a b : List ℕ) (x y : List Symbol) → AreBytes a → AreBytes b →
    (IsTooLong (length a) → ⊥) → (IsTooLong (length b) → ⊥) → length a ≡ length b →
    symbols p a v ++ x ≡ symbols q b w ++ y → (p ≡ q) × (a ≡ b) × (v ≡ w) × (x ≡ y)
