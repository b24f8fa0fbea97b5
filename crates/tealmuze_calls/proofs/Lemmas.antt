-- Lists that grow at their ends, and bytes of them.
use Rattle.std.proofs.Common.{Option, Some, None, Ok, Err, ok_or, append-nil, ◌≡◌, ◌<◌, ◌≤◌, ◌+◌, ℕ, List, [], ◌∷◌, ◌++◌, length, map, take, take_all, get_or, refl, ap, sym, ◌∙◌, append_assoc}
use Rattle.std.specs.List.{flat_map}
use Rattle.std.proofs.lemmas.List.{flat_map_more, map_push, map_more, length-map}
use Rattle.tealmuze_calls.specs.Forms.{number_bytes, listed_bytes}

-- ---- read: the bytes of a list and of one entry more, before what is left

pub one_more : {A : Type 0} (f : A → List ℕ) (bytes : List ℕ) (xs : List A) (x : A) (middle left : List ℕ) →
    bytes ≡ flat_map f xs ++ middle → middle ≡ f x ++ left → bytes ≡ flat_map f (xs ++ (x ∷ [])) ++ left
one_more f bytes xs x middle left here next =
    here ∙ ap (λ m. flat_map f xs ++ m) next ∙ sym (append_assoc (flat_map f xs) (f x) left)
    ∙ ap (λ b. b ++ left) (flat_map_more f [] xs x)

-- the same of what stands for the entries
pub one_more_of : {A B : Type 0} (g : A → B) (f : B → List ℕ) (bytes : List ℕ) (xs : List A) (x : A)
    (middle left : List ℕ) → bytes ≡ flat_map f (map g xs) ++ middle → middle ≡ f (g x) ++ left →
    bytes ≡ flat_map f (map g (xs ++ (x ∷ []))) ++ left
one_more_of g f bytes xs x middle left here next =
    one_more f bytes (map g xs) (g x) middle left here next ∙ ap (λ ys. flat_map f ys ++ left) (sym (map_push g xs x))

-- ---- written: what is added for an entry, and for all

pub put_more : {A B : Type 0} (g : A → B) (f : B → List ℕ) (xs : List A) (i : ℕ) (x : A) (start here there : List ℕ) →
    i < length xs → x ≡ get_or xs i x → here ≡ start ++ flat_map f (map g (take i xs)) → there ≡ here ++ f (g x) →
    there ≡ start ++ flat_map f (map g (take (i + 1) xs))
put_more g f xs i x start here there h e so_far added =
    added ∙ ap (λ b. b ++ f (g x)) so_far ∙ flat_map_more f start (map g (take i xs)) (g x)
    ∙ ap (λ ys. start ++ flat_map f ys) (ap (λ z. map g (take i xs) ++ (g z ∷ [])) e ∙ sym (map_more g xs i x h))

pub put_all : {A B : Type 0} (g : A → B) (f : B → List ℕ) (xs : List A) (i : ℕ) (start here : List ℕ) →
    length xs ≤ i → here ≡ start ++ flat_map f (map g (take i xs)) → here ≡ start ++ flat_map f (map g xs)
put_all g f xs i start here past so_far =
    so_far ∙ ap (λ ys. start ++ flat_map f (map g ys)) (take_all i xs past)

-- ---- lists of numbers that stand for other things

pub flat_map_of : {A B : Type 0} (g : A → B) (f : B → List ℕ) (xs : List A) →
    flat_map f (map g xs) ≡ flat_map (λ x. f (g x)) xs
flat_map_of g f [] = refl
flat_map_of g f (x ∷ xs) = ap (λ rest. f (g x) ++ rest) (flat_map_of g f xs)

pub listed_of : {A B : Type 0} (g : A → B) (f : B → List ℕ) (xs : List A) →
    listed_bytes f (map g xs) ≡ listed_bytes (λ x. f (g x)) xs
listed_of g f xs =
    ap (λ n. number_bytes n ++ flat_map f (map g xs)) (length-map xs g)
    ∙ ap (λ b. number_bytes (length xs) ++ b) (flat_map_of g f xs)

-- ---- an option that was made a result

pub some_of_ok : {T E : Type 0} (o : Option T) (e : E) (x : T) → ok_or o e ≡ Ok x → o ≡ Some x
some_of_ok None e x is = cc
some_of_ok (Some y) e x is = cc

pub none_of_err : {T E : Type 0} (o : Option T) (e d : E) → ok_or o e ≡ Err d → o ≡ None
none_of_err None e d is = refl
none_of_err (Some x) e d is = cc

-- ---- parts that are read one after another

pub in_a_row : (bytes a b d e : List ℕ) (first : ℕ) (second third fourth : List ℕ) → bytes ≡ first ∷ a →
    a ≡ second ++ b → b ≡ third ++ d → d ≡ fourth ++ e → e ≡ [] → bytes ≡ first ∷ second ++ (third ++ fourth)
in_a_row bytes a b d e first second third fourth one two three four none =
    one ∙ ap (λ l. first ∷ l) (two ∙ ap (λ l. second ++ l) (three ∙ ap (λ l. third ++ l)
    (four ∙ ap (λ l. fourth ++ l) none ∙ append-nil fourth)))
