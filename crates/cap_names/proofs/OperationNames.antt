-- The names of the operations are distinct.
use Rattle.std.proofs.Common.{◌≡◌, ℕ, zero, suc, ◌+◌, ◌-◌, ◌<◌, ◌≤◌, List, [], ◌∷◌, length, get_or, Bool, true, false, not, ◌&&◌, leb, Some, map, refl, sym, ap, ◌∙◌, arith, Bor}
use Rattle.std.specs.Prelude.{slice_get, option_map, Contains, bytes_eq}
use Rattle.std.specs.List.{list_all}
use Rattle.std.specs.Char.{is_ascii_alphabetic}
use Rattle.std.proofs.lemmas.Bool.{false≢true, and_parts, leb-true}
use Rattle.std.proofs.lemmas.List.{length-map}
use Rattle.std.proofs.lemmas.List.Sums.{AllPass-from_list_all}
use Rattle.std.proofs.lemmas.Option.{slice_get-map, slice_get-get_or, slice_get_within, get_or_from_slice_get}
use Rattle.std.proofs.lemmas.Slice.Eq.{bytes_eq-Decides}
use Rattle.cap_names.specs.Words.{is_word_byte, IsWord}
use Rattle.cap_names.specs.Operations.{operation_names, IsNamed}

-- a table of names as code has it
pub named_in : (table : List (Bor (List ℕ))) (d : Bor (List ℕ)) (n : ℕ) → map (λ b. b.now) table ≡ operation_names → 1 ≤ n → n ≤ 44 → IsNamed n (get_or table (n - 1) d).now
named_in table d n e first last =
    let long : length table ≡ 44 = sym (length-map table (λ b. b.now)) ∙ ap length e in
    let at : slice_get operation_names (n - 1) ≡ Some (get_or table (n - 1) d).now =
    ap (λ names. slice_get names (n - 1)) (sym e) ∙ slice_get-map (λ b. b.now) table (n - 1) ∙ ap (option_map (λ b. b.now)) (slice_get-get_or table (n - 1) d (omega (arith, long)))
    in
    record { first = first; name = at }

-- no element of the list is w
differs : List ℕ → List (List ℕ) → Bool
differs w [] = true
differs w (x ∷ xs) = not (bytes_eq w x) && differs w xs

-- no two elements are equal
apart : List (List ℕ) → Bool
apart [] = true
apart (x ∷ xs) = differs x xs && apart xs

differs_at : (w : List ℕ) (xs : List (List ℕ)) (i : ℕ) → differs w xs ≡ true → slice_get xs i ≡ Some w → ⊥
unfolding differs
differs_at w [] i h e = cc
differs_at w (x ∷ xs) zero h e =
    let same : x ≡ w = cc in
    let parts = and_parts (not (bytes_eq w x)) (differs w xs) h in
    false≢true (sym (ap not ((bytes_eq-Decides w x).1 (sym same))) ∙ parts.0)
differs_at w (x ∷ xs) (suc i) h e = differs_at w xs i (and_parts (not (bytes_eq w x)) (differs w xs) h).1 e

one_place : (w : List ℕ) (xs : List (List ℕ)) (i j : ℕ) → apart xs ≡ true → slice_get xs i ≡ Some w → slice_get xs j ≡ Some w → i ≡ j
unfolding apart
one_place w [] i j h e f = cc
one_place w (x ∷ xs) zero zero h e f = refl
one_place w (x ∷ xs) zero (suc j) h e f =
    let same : x ≡ w = cc in
    absurd (differs_at w xs j (ap (λ w. differs w xs) (sym same) ∙ (and_parts (differs x xs) (apart xs) h).0) f)
one_place w (x ∷ xs) (suc i) zero h e f =
    let same : x ≡ w = cc in
    absurd (differs_at w xs i (ap (λ w. differs w xs) (sym same) ∙ (and_parts (differs x xs) (apart xs) h).0) e)
one_place w (x ∷ xs) (suc i) (suc j) h e f = ap suc (one_place w xs i j (and_parts (differs x xs) (apart xs) h).1 e f)

names_apart : apart operation_names ≡ true
unfolding apart differs
names_apart = refl

-- a name has one number, of 1 to 44
pub one_number : (m n : ℕ) (word : List ℕ) → IsNamed m word → IsNamed n word → m ≡ n
one_number m n word a b = let places = one_place word operation_names (m - 1) (n - 1) names_apart a.name b.name in omega (arith, a.first, b.first, places)

pub number_within : (n : ℕ) (word : List ℕ) → IsNamed n word → n ≤ 44
number_within n word a = let lt : n - 1 < 44 = slice_get_within operation_names (n - 1) word a.name in omega (arith, a.first)

-- a name of the list has a number
pub number_of_name : (word : List ℕ) (is : Contains operation_names word) → IsNamed (is.0 + 1) word
number_of_name word is =
    let back : is.0 + 1 - 1 ≡ is.0 = omega arith in
    record { first = omega arith; name = ap (slice_get operation_names) back ∙ slice_get-get_or operation_names is.0 word is.1 ∙ ap Some is.2 }

-- names of operations are words
word_test : List ℕ → Bool
word_test [] = false
word_test (b ∷ bs) = is_ascii_alphabetic b && list_all is_word_byte (b ∷ bs) && leb (length (b ∷ bs)) 32

word_tested : (bs : List ℕ) → word_test bs ≡ true → IsWord bs
unfolding word_test
word_tested [] h = cc
word_tested (b ∷ bs) h =
    let parts = and_parts (is_ascii_alphabetic b && list_all is_word_byte (b ∷ bs)) (leb (length (b ∷ bs)) 32) h in
    let front = and_parts (is_ascii_alphabetic b) (list_all is_word_byte (b ∷ bs)) parts.0 in
    record { some = omega arith; within = leb-true (length (b ∷ bs)) 32 parts.1; letter = front.0; all = AllPass-from_list_all is_word_byte (b ∷ bs) front.1 }

names_are_words : list_all word_test operation_names ≡ true
unfolding word_test
names_are_words = refl

pub name_is_word : (n : ℕ) (word : List ℕ) → IsNamed n word → IsWord word
name_is_word n word is =
    let within = slice_get_within operation_names (n - 1) word is.name in
    let at : get_or operation_names (n - 1) word ≡ word = get_or_from_slice_get operation_names (n - 1) word word is.name in
    word_tested word (ap word_test (sym at) ∙ AllPass-from_list_all word_test operation_names names_are_words (n - 1) word within)
