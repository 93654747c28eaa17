-- What the tests of words, numbers and names tell.
use Rattle.std.proofs.Common.{◌≡◌, ℕ, zero, suc, ◌+◌, ◌-◌, ◌*◌, ◌<◌, ◌≤◌, ◌^◌, List, [], ◌∷◌, length, take, cond, Bool, true, false, not, ◌&&◌, leb, Option, Some, None, refl, sym, ap, ◌∙◌, subst, arith, get_or, map, Bor}
use Rattle.cap_cert.specs.Drafts.{named, number_in}
use Rattle.std.specs.Prelude.{IsSome, IfSome, IsTrue, ◌↔◌, Contains, bytes_eq, nat_lt, codes, slice_get, slice_index}
use Rattle.std.specs.List.{list_all, list_any, AllPass}
use Rattle.std.specs.Char.{is_ascii_digit, is_ascii_alphabetic}
use Rattle.std.specs.Str.Parse.{AllDigits}
use Rattle.std.specs.Char.{digit_value}
use Rattle.std.proofs.lemmas.Bool.{false≢true, and_parts, leb-true}
use Rattle.std.proofs.lemmas.List.Elements.{All-head, All-tail}
use Rattle.std.proofs.lemmas.Str.{digit_value_digit}
use Rattle.std.proofs.lemmas.Str.Parse.{digits_value-take-le}
use Rattle.std.proofs.Math.Nat.{pow-le-pow_right}
use Rattle.std.proofs.lemmas.Int.Digits.{digits_value-lt, digits_value_more}
use Rattle.std.proofs.lemmas.List.{length-map, get_or-map, get_or_default}
use Rattle.std.proofs.lemmas.Cmp.{nat_list_eq_equiv}
use Rattle.std.proofs.lemmas.Map.Views.{list_any-from_Contains, Contains-from_any}
use Rattle.std.proofs.lemmas.Bool.Decides.{nat_tests}
use Rattle.std.proofs.lemmas.List.Sums.{AllPass-from_list_all, list_all-from_AllPass}
use Rattle.std.proofs.lemmas.Slice.Eq.{bytes_eq-Decides}
use Rattle.std.proofs.lemmas.Option.{get_or_from_slice_get, slice_get_within, slice_get-get_or}
use Rattle.cap_names.specs.Words.{is_word_byte, IsWord, IsNumber}
use Rattle.cap_names.specs.Operations.{operation_names, IsNamed}
use Rattle.cap_names.proofs.OperationNames.{one_number}
use Rattle.cap_ops.specs.Offered.{word_of}
use Rattle.cap_ops.specs.declared.plans.Kind.{Kind}
use Rattle.cap_ops.specs.declared.plans.Kind.TheVariants.{Mat, Add, Freyd, Rep}
use Rattle.cap_cert.specs.Texts.{operation_word}
use Rattle.cap_cert.specs.Reading.{script_words, value, IsNameText, IsNumberWithin}
use Rattle.cap_cert.specs.Machine.{is, is_number, is_word_text, is_name, is_within, kind_named, place_from, place_of}

-- two tests of the same
pub same_test : (a b : Bool) (P : Type 0) → (IsTrue a ↔ P) → (b ≡ true → P) → (P → b ≡ true) → a ≡ b
same_test true true P h to from = refl
same_test true false P h to from = sym (from (h.0 refl))
same_test false true P h to from = h.1 (to refl)
same_test false false P h to from = refl

pub both : (a b : Bool) → a ≡ true → b ≡ true → (a && b) ≡ true
both true true h k = refl
both true false h k = k
both false b h k = h

pub lt-yes : (a b : ℕ) → a < b → nat_lt a b ≡ true
lt-yes a b h = grind (arith, nat_tests, h)

pub lt-only : (a b : ℕ) → nat_lt a b ≡ true → a < b
lt-only a b h = grind (arith, nat_tests, h)

pub ge-yes : (a b : ℕ) → b ≤ a → not (nat_lt a b) ≡ true
ge-yes a b h = grind (arith, nat_tests, h)

pub ge-only : (a b : ℕ) → not (nat_lt a b) ≡ true → b ≤ a
ge-only a b h = grind (arith, nat_tests, h)

pub is_yes : (word : List ℕ) → is word word ≡ true
unfolding is
is_yes word = (bytes_eq-Decides word word).1 refl

pub is_only : (word text : List ℕ) → is word text ≡ true → text ≡ word
unfolding is
is_only word text h = (bytes_eq-Decides text word).0 h

pub number_yes : (text : List ℕ) → IsNumber text → is_number text ≡ true
unfolding is_number
number_yes text n = both _ _ (lt-yes 0 (length text) n.some) (both _ _ (lt-yes (length text) 17 (omega (arith, n.within))) (list_all-from_AllPass is_ascii_digit text n.all))

pub number_only : (text : List ℕ) → is_number text ≡ true → IsNumber text
unfolding is_number
number_only text h =
    let p = and_parts (nat_lt 0 (length text)) (nat_lt (length text) 17 && list_all is_ascii_digit text) h in
    let q = and_parts (nat_lt (length text) 17) (list_all is_ascii_digit text) p.1 in
    record { some = lt-only 0 (length text) p.0; within = omega (arith, lt-only (length text) 17 q.0); all = AllPass-from_list_all is_ascii_digit text q.1 }

pub number_is : (a : Bool) (text : List ℕ) → (IsTrue a ↔ IsNumber text) → a ≡ is_number text
number_is a text h = same_test a (is_number text) (IsNumber text) h (number_only text) (number_yes text)

pub within_yes : (strict : Bool) (low high : ℕ) (text : List ℕ) → IsNumberWithin strict low high text → is_within strict low high text ≡ true
unfolding is_within
within_yes false low high text w = number_yes text w.number
within_yes true low high text w =
    both (is_number text) (not (nat_lt (value text) low) && not (nat_lt high (value text))) (number_yes text w.number)
    (both (not (nat_lt (value text) low)) (not (nat_lt high (value text))) (ge-yes (value text) low (w.from refl)) (ge-yes high (value text) (w.to refl)))

pub within_only : (strict : Bool) (low high : ℕ) (text : List ℕ) → is_within strict low high text ≡ true → IsNumberWithin strict low high text
unfolding is_within
within_only false low high text h = record { number = number_only text h; from = λ e. absurd (cc (e)); to = λ e. absurd (cc (e)) }
within_only true low high text h =
    let p = and_parts (is_number text) (not (nat_lt (value text) low) && not (nat_lt high (value text))) h in
    let q = and_parts (not (nat_lt (value text) low)) (not (nat_lt high (value text))) p.1 in
    record { number = number_only text p.0; from = λ e. ge-only (value text) low q.0; to = λ e. ge-only high (value text) q.1 }

-- a text that is in a list, and the test for it
not_true : (b : Bool) → (b ≡ true → ⊥) → not b ≡ true
not_true true h = absurd (h refl)
not_true false h = refl

not_only : (b : Bool) → not b ≡ true → b ≡ true → ⊥
not_only true h k = false≢true h
not_only false h k = false≢true k

listed_yes : (words : List (List ℕ)) (text : List ℕ) → (Contains words text → ⊥) → not (list_any (bytes_eq text) words) ≡ true
listed_yes words text h = not_true (list_any (bytes_eq text) words) (λ e. h (Contains-from_any (λ x y. (bytes_eq-Decides x y).0) text words e))

listed_only : (words : List (List ℕ)) (text : List ℕ) → not (list_any (bytes_eq text) words) ≡ true → Contains words text → ⊥
listed_only words text h k = not_only (list_any (bytes_eq text) words) h (list_any-from_Contains nat_list_eq_equiv text words k)

word_yes : (text : List ℕ) → IsWord text → is_word_text text ≡ true
unfolding is_word_text
word_yes text w = both _ _ (lt-yes 0 (length text) w.some) (both _ _ (lt-yes (length text) 33 (omega (arith, w.within))) (both _ _ w.letter (list_all-from_AllPass is_word_byte text w.all)))

word_only : (text : List ℕ) → is_word_text text ≡ true → IsWord text
unfolding is_word_text
word_only text h =
    let p = and_parts (nat_lt 0 (length text)) (nat_lt (length text) 33 && (is_ascii_alphabetic (slice_index text 0) && list_all is_word_byte text)) h in
    let q = and_parts (nat_lt (length text) 33) (is_ascii_alphabetic (slice_index text 0) && list_all is_word_byte text) p.1 in
    let r = and_parts (is_ascii_alphabetic (slice_index text 0)) (list_all is_word_byte text) q.1 in
    record { some = lt-only 0 (length text) p.0; within = omega (arith, lt-only (length text) 33 q.0); letter = r.0; all = AllPass-from_list_all is_word_byte text r.1 }

pub name_yes : (text : List ℕ) → IsNameText text → is_name text ≡ true
unfolding is_name
name_yes text n = both _ _ (word_yes text n.word) (both _ _ (listed_yes script_words text n.free) (listed_yes operation_names text n.no_operation))

pub name_only : (text : List ℕ) → is_name text ≡ true → IsNameText text
unfolding is_name
name_only text h =
    let p = and_parts (is_word_text text) (not (list_any (bytes_eq text) script_words) && not (list_any (bytes_eq text) operation_names)) h in
    let q = and_parts (not (list_any (bytes_eq text) script_words)) (not (list_any (bytes_eq text) operation_names)) p.1 in
    record { word = word_only text p.0; free = listed_only script_words text q.0; no_operation = listed_only operation_names text q.1 }

pub name_is : (a : Bool) (text : List ℕ) → (IsTrue a ↔ IsNameText text) → a ≡ is_name text
name_is a text h = same_test a (is_name text) (IsNameText text) h (name_only text) (name_yes text)

-- the kinds by their words
pub kind_yes : (kind : Kind) → kind_named (word_of kind) ≡ Some kind
unfolding kind_named
kind_yes Mat = refl
kind_yes Add = refl
kind_yes Freyd = refl
kind_yes Rep = refl

kind_by : (text : List ℕ) (kind : Kind) (a b c d : Bool) → bytes_eq text (codes "vec") ≡ a → bytes_eq text (codes "add") ≡ b → bytes_eq text (codes "freyd") ≡ c → bytes_eq text (codes "rep") ≡ d
    → cond a (Some Mat) (cond b (Some Add) (cond c (Some Freyd) (cond d (Some Rep) None))) ≡ Some kind → text ≡ word_of kind
kind_by text kind true b c d e f g h k = let same : Mat ≡ kind = cc in (bytes_eq-Decides text (codes "vec")).0 e ∙ ap word_of same
kind_by text kind false true c d e f g h k = let same : Add ≡ kind = cc in (bytes_eq-Decides text (codes "add")).0 f ∙ ap word_of same
kind_by text kind false false true d e f g h k = let same : Freyd ≡ kind = cc in (bytes_eq-Decides text (codes "freyd")).0 g ∙ ap word_of same
kind_by text kind false false false true e f g h k = let same : Rep ≡ kind = cc in (bytes_eq-Decides text (codes "rep")).0 h ∙ ap word_of same
kind_by text kind false false false false e f g h k = absurd (cc (k))

pub kind_only : (text : List ℕ) (kind : Kind) → kind_named text ≡ Some kind → text ≡ word_of kind
unfolding kind_named
kind_only text kind h = kind_by text kind (bytes_eq text (codes "vec")) (bytes_eq text (codes "add")) (bytes_eq text (codes "freyd")) (bytes_eq text (codes "rep")) refl refl refl refl h

-- the places of the operations by their names
-- the name stands at a place
abbrev pub StandsFrom : ℕ → List (List ℕ) → List ℕ → ℕ → Type 0
StandsFrom place names text p = (k : ℕ) × (p ≡ place + k) × (slice_get names k ≡ Some text)

place_in : (place : ℕ) (name : List ℕ) (names : List (List ℕ)) (text : List ℕ) (p : ℕ) (b : Bool) → bytes_eq text name ≡ b → (place_from (suc place) names text ≡ Some p → StandsFrom (suc place) names text p) → cond b (Some place) (place_from (suc place) names text) ≡ Some p → StandsFrom place (name ∷ names) text p
place_in place name names text p true e more h = let same : place ≡ p = cc in (0, omega arith, ap Some (sym ((bytes_eq-Decides text name).0 e)))
place_in place name names text p false e more h = let there = more h in (suc there.0, omega (arith, there.1), there.2)

place_at : (place : ℕ) (names : List (List ℕ)) (text : List ℕ) (p : ℕ) → place_from place names text ≡ Some p → StandsFrom place names text p
place_at place [] text p h = absurd (cc (h))
place_at place (name ∷ names) text p h = place_in place name names text p (bytes_eq text name) refl (place_at (suc place) names text p) h

place_none : (place : ℕ) (name : List ℕ) (names : List (List ℕ)) (text : List ℕ) (k : ℕ) (b : Bool) → bytes_eq text name ≡ b → ((k : ℕ) → slice_get names k ≡ Some text → place_from (suc place) names text ≡ None → ⊥) → slice_get (name ∷ names) k ≡ Some text → cond b (Some place) (place_from (suc place) names text) ≡ None → ⊥
place_none place name names text k true e more at h = cc (h)
place_none place name names text zero false e more at h = let same : name ≡ text = cc in false≢true (sym e ∙ (bytes_eq-Decides text name).1 (sym same))
place_none place name names text (suc k) false e more at h = more k at h

place_some : (place : ℕ) (names : List (List ℕ)) (text : List ℕ) (k : ℕ) → slice_get names k ≡ Some text → place_from place names text ≡ None → ⊥
place_some place [] text k at h = cc (at)
place_some place (name ∷ names) text k at h = place_none place name names text k (bytes_eq text name) refl (place_some (suc place) names text) at h

named_at : (text : List ℕ) (k : ℕ) → slice_get operation_names k ≡ Some text → IsNamed (k + 1) text
named_at text k at = let same : (k + 1) - 1 ≡ k = omega arith in record { first = omega arith; name = ap (slice_get operation_names) same ∙ at }

found_place : (text : List ℕ) (k : ℕ) → slice_get operation_names k ≡ Some text → (o : Option ℕ) → place_from 0 operation_names text ≡ o → o ≡ Some k
found_place text k at None h = absurd (place_some 0 operation_names text k at h)
found_place text k at (Some p) h =
    let there = place_at 0 operation_names text p h in
    let same : there.0 + 1 ≡ k + 1 = one_number (there.0 + 1) (k + 1) text (named_at text there.0 there.2) (named_at text k at) in
    let e : p ≡ k = omega (arith, same, there.1) in
    ap Some e

pub place_is : (text : List ℕ) (k : ℕ) → slice_get operation_names k ≡ Some text → place_of text ≡ Some k
unfolding place_of
place_is text k at = found_place text k at (place_from 0 operation_names text) refl

pub place_only : (text : List ℕ) (p : ℕ) → place_of text ≡ Some p → (text ≡ operation_word p) × (p < 44)
unfolding place_of operation_word
place_only text p h =
    let there = place_at 0 operation_names text p h in
    let e : there.0 ≡ p = omega (arith, there.1) in
    let at : slice_get operation_names p ≡ Some text = ap (slice_get operation_names) (sym e) ∙ there.2 in
    (sym (get_or_from_slice_get operation_names p text [] at), slice_get_within operation_names p text at)

pub place_yes : (p : ℕ) → p < 44 → place_of (operation_word p) ≡ Some p
unfolding operation_word
place_yes p h = place_is (operation_word p) p (slice_get-get_or operation_names p [] h)

pub no_place : (text : List ℕ) → (Contains operation_names text → ⊥) → (o : Option ℕ) → place_of text ≡ o → o ≡ None
unfolding place_of
no_place text h None e = refl
no_place text h (Some p) e =
    let there = place_at 0 operation_names text p e in
    absurd (h (there.0, slice_get_within operation_names there.0 text there.2, get_or_from_slice_get operation_names there.0 text text there.2))

-- numbers of at most 16 digits
digit_small : (b : ℕ) → is_ascii_digit b ≡ true → digit_value b < 10
digit_small b h =
    let parts = and_parts (leb 48 b) (leb b 57) h in
    let same = digit_value_digit b (leb-true 48 b parts.0, leb-true b 57 parts.1) in
    omega (arith, same, leb-true b 57 parts.1)

all_digits : (text : List ℕ) → AllPass is_ascii_digit text → AllDigits 10 text
all_digits [] h = tt
all_digits (b ∷ bs) h = (digit_small b (All-head (λ c. is_ascii_digit c ≡ true) b bs h), all_digits bs (All-tail (λ c. is_ascii_digit c ≡ true) b bs h))

pub value_small : (text : List ℕ) (i : ℕ) → IsNumber text → value (take i text) < 10000000000000000
value_small text i n =
    let below : value text < 10 ^ length text = digits_value-lt 10 text (all_digits text n.all) in
    let most : 10 ^ length text ≤ 10 ^ 16 = pow-le-pow_right (omega arith) n.within in
    omega (arith, digits_value-take-le 10 text i (omega arith), below, most)

pub value_more : (text : List ℕ) (i : ℕ) → IsNumber text → i < length text → value (take (i + 1) text) ≡ value (take i text) * 10 + (get_or text i 0 - 48)
value_more text i n h =
    let digit : is_ascii_digit (get_or text i 0) ≡ true = n.all i 0 h in
    let parts = and_parts (leb 48 (get_or text i 0)) (leb (get_or text i 0) 57) digit in
    let same = digit_value_digit (get_or text i 0) (leb-true 48 (get_or text i 0) parts.0, leb-true (get_or text i 0) 57 parts.1) in
    let e : digit_value (get_or text i 0) ≡ get_or text i 0 - 48 = omega (arith, same) in
    digits_value_more 10 text i h ∙ ap (λ d. value (take i text) * 10 + d) e

pub digit_at : (text : List ℕ) (i : ℕ) → IsNumber text → i < length text → (48 ≤ get_or text i 0) × (get_or text i 0 ≤ 57)
digit_at text i n h =
    let parts = and_parts (leb 48 (get_or text i 0)) (leb (get_or text i 0) 57) (n.all i 0 h) in
    (leb-true 48 (get_or text i 0) parts.0, leb-true (get_or text i 0) 57 parts.1)

-- a table of words as code has it
pub word_in : (table : List (Bor (List ℕ))) (d : Bor (List ℕ)) (i : ℕ) → map (λ b. b.now) table ≡ script_words → i < 26 → (get_or table i d).now ≡ get_or script_words i []
word_in table d i e h =
    let long : length table ≡ 26 = sym (length-map table (λ b. b.now)) ∙ ap length e in
    sym (get_or-map (λ b. b.now) table i d [] (omega (arith, long))) ∙ ap (λ ws. get_or ws i []) e

pub listed_at : (text : List ℕ) (i : ℕ) → i < 26 → is (get_or script_words i []) text ≡ true → Contains script_words text
listed_at text i h e = (i, h, get_or_default script_words i text [] h ∙ sym (is_only (get_or script_words i []) text e))

pub not_listed : (text : List ℕ) → ((k : ℕ) → k < 26 → is (get_or script_words k []) text ≡ false) → Contains script_words text → ⊥
not_listed text h k =
    let word = get_or script_words k.0 [] in
    let same : word ≡ text = get_or_default script_words k.0 [] text k.1 ∙ k.2 in
    false≢true (sym (h k.0 k.1) ∙ subst (λ t. is word t ≡ true) same (is_yes word))

pub free_text : (text : List ℕ) → IsWord text → (Contains script_words text → ⊥) → (b : Bool) → (IsTrue b → Contains operation_names text → ⊥) → (¬ (Contains operation_names text) → IsTrue b) → IsTrue b ↔ IsNameText text
free_text text word free b to from = (λ h. record { word = word; free = free; no_operation = to h }, λ n. from n.no_operation)

pub named_listed : (number : ℕ) (word : List ℕ) → IsNamed number word → Contains operation_names word
named_listed number word named = (number - 1, slice_get_within operation_names (number - 1) word named.name, get_or_from_slice_get operation_names (number - 1) word word named.name)

named_cases : (text : List ℕ) (o : Option (List ℕ)) → (IsSome o ↔ IsWord text) → IfSome o (λ name. name ≡ text) → (b : Bool) → is_word_text text ≡ b → o ≡ cond b (Some text) None
named_cases text None variant bytes true e = absurd (false≢true (variant.1 (word_only text e)))
named_cases text None variant bytes false e = refl
named_cases text (Some name) variant bytes true e = ap Some bytes
named_cases text (Some name) variant bytes false e = absurd (false≢true (sym e ∙ word_yes text (variant.0 refl)))

pub named_is : (text : List ℕ) (o : Option (List ℕ)) → (IsSome o ↔ IsWord text) → IfSome o (λ name. name ≡ text) → o ≡ named text
unfolding named
named_is text o variant bytes = named_cases text o variant bytes (is_word_text text) refl

pub named_yes : (text : List ℕ) → IsNameText text → named text ≡ Some text
unfolding named
named_yes text n = ap (λ b. cond b (Some text) None) (word_yes text n.word)

pub within_number : (low high : ℕ) (text : List ℕ) → is_within true low high text ≡ true → IsNumber text × (value text ≤ high)
within_number low high text h = let w = within_only true low high text h in (w.number, w.to refl)

pub number_in_yes : (low high : ℕ) (text : List ℕ) → IsNumberWithin true low high text → number_in low high text ≡ Some (value text)
unfolding number_in
number_in_yes low high text w = ap (λ b. cond b (Some (value text)) None) (within_yes true low high text w)
