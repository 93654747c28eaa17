-- Lists of marks that are put together item by item, and their first faults.
use Rattle.std.proofs.Common.{◌≡◌, ℕ, zero, suc, ◌+◌, ◌<◌, ◌≤◌, List, [], ◌∷◌, ◌++◌, length, take, drop, get_or, refl, sym, ap, ◌∙◌, append_assoc, add-one, add-zero, zero-add, arith, Option, Some, None, Bool, true, false}
use Rattle.std.specs.Prelude.{option_map, slice_get, is_some, ◌||◌}
use Rattle.std.specs.List.{list_any}
use Rattle.cap_names.specs.declared.reasons.Reason.{Reason}
use Rattle.cap_names.specs.declared.reasons.BadScript.{BadScript}
use Rattle.cap_grammar.specs.declared.tree.Place.{Place}
use Rattle.cap_block_faults.specs.Marks.{Mark, each_from, each, faults, first, fault_at}

append_none : {A : Type 0} (xs : List A) → xs ++ [] ≡ xs
append_none [] = refl
append_none (x ∷ xs) = ap (λ l. x ∷ l) (append_none xs)

from_more : {A B : Type 0} (f : ℕ → A → List B) (k : ℕ) (xs : List A) (i : ℕ) (x : A) → i < length xs → x ≡ get_or xs i x → each_from f k (take (suc i) xs) ≡ each_from f k (take i xs) ++ f (k + i) x
from_more f k [] i x h e = absurd (omega arith)
from_more f k (y ∷ ys) zero x h e =
    append_none (f k y) ∙ ap (λ n. f n y) (sym (add-zero k)) ∙ ap (λ z. f (k + 0) z) (sym e)
from_more f k (y ∷ ys) (suc i) x h e =
    let lt : i < length ys = omega arith in
    let n : suc k + i ≡ k + suc i = omega arith in
    ap (λ l. f k y ++ l) (from_more f (suc k) ys i x lt e)
    ∙ sym (append_assoc (f k y) (each_from f (suc k) (take i ys)) (f (suc k + i) x))
    ∙ ap (λ m. (f k y ++ each_from f (suc k) (take i ys)) ++ f m x) n

-- one more item
pub each_more : {A B : Type 0} (f : ℕ → A → List B) (old now front : List B) (xs : List A) (i : ℕ) (x : A) → i < length xs → x ≡ get_or xs i x → old ≡ front ++ each f (take i xs) → now ≡ old ++ f i x → now ≡ front ++ each f (take (i + 1) xs)
each_more f old now front xs i x h e was is =
    is ∙ ap (λ l. l ++ f i x) was ∙ append_assoc front (each f (take i xs)) (f i x)
    ∙ ap (λ n. front ++ (each f (take i xs) ++ f n x)) (sym (zero-add i))
    ∙ ap (λ l. front ++ l) (sym (from_more f 0 xs i x h e))
    ∙ ap (λ n. front ++ each f (take n xs)) (sym (add-one i))

-- the first fault of what is left, where a mark is free
skip_one : (ps : List Place) (ms : List Mark) (i : ℕ) → i < length ms → get_or ms i None ≡ None → first (faults (drop (suc i) ps) (drop (suc i) ms)) ≡ first (faults (drop i ps) (drop i ms))
skip_one ps [] i h n = absurd (omega arith)
skip_one [] (x ∷ ms) zero h n = refl
skip_one [] (x ∷ ms) (suc i) h n = refl
skip_one (p ∷ ps) (x ∷ ms) zero h n = ap (λ m. first (faults (p ∷ ps) (m ∷ ms))) (sym n)
skip_one (p ∷ ps) (x ∷ ms) (suc i) h n = skip_one ps ms i (omega arith) n

pub skip : (ps : List Place) (ms : List Mark) (i : ℕ) → i < length ms → get_or ms i None ≡ None → first (faults (drop (i + 1) ps) (drop (i + 1) ms)) ≡ first (faults (drop i ps) (drop i ms))
skip ps ms i h n = ap (λ k. first (faults (drop k ps) (drop k ms))) (add-one i) ∙ skip_one ps ms i h n

-- and where it is none
pub here : (ps : List Place) (ms : List Mark) (i : ℕ) (reason : Reason) → i < length ms → get_or ms i None ≡ Some reason → first (faults (drop i ps) (drop i ms)) ≡ option_map (λ p. fault_at p reason) (slice_get ps i)
here ps [] i reason h n = absurd (omega arith)
here [] (x ∷ ms) zero reason h n = refl
here [] (x ∷ ms) (suc i) reason h n = refl
here (p ∷ ps) (x ∷ ms) zero reason h n = ap (λ m. first (faults (p ∷ ps) (m ∷ ms))) n
here (p ∷ ps) (x ∷ ms) (suc i) reason h n = here ps ms i reason (omega arith) n

no_marks : (ps : List Place) → first (faults ps []) ≡ None
no_marks [] = refl
no_marks (p ∷ ps) = refl

-- nothing is left at the end
pub ended : (ps : List Place) (ms : List Mark) (i : ℕ) → length ms ≤ i → first (faults (drop i ps) (drop i ms)) ≡ None
ended [] [] zero h = refl
ended [] [] (suc i) h = refl
ended (p ∷ ps) [] zero h = refl
ended (p ∷ ps) [] (suc i) h = no_marks (drop i ps)
ended ps (m ∷ ms) zero h = absurd (omega arith)
ended [] (m ∷ ms) (suc i) h = refl
ended (p ∷ ps) (m ∷ ms) (suc i) h = ended ps ms i (omega arith)

any_default : {A : Type 0} (xs : List A) (i : ℕ) (d e : A) → i < length xs → get_or xs i d ≡ get_or xs i e
any_default [] i d e h = absurd (omega arith)
any_default (x ∷ xs) zero d e h = refl
any_default (x ∷ xs) (suc i) d e h = any_default xs i d e (omega arith)

same_item : {A : Type 0} (xs : List A) (i : ℕ) (d : A) → i < length xs → get_or xs i d ≡ get_or xs i (get_or xs i d)
same_item xs i d h = any_default xs i d (get_or xs i d) h

-- one more item, which is read with a default
pub each_more_at : {A B : Type 0} (f : ℕ → A → List B) (old now front : List B) (xs : List A) (i : ℕ) (d : A) → i < length xs → old ≡ front ++ each f (take i xs) → now ≡ old ++ f i (get_or xs i d) → now ≡ front ++ each f (take (i + 1) xs)
each_more_at f old now front xs i d h was is = each_more f old now front xs i (get_or xs i d) h (same_item xs i d h) was is

-- pieces one behind the other
pub two : (a b c x y : List Mark) → b ≡ a ++ x → c ≡ b ++ y → c ≡ a ++ (x ++ y)
two a b c x y e f = f ∙ ap (λ l. l ++ y) e ∙ append_assoc a x y

pub three : (a b c d x y z : List Mark) → b ≡ a ++ x → c ≡ b ++ y → d ≡ c ++ z → d ≡ a ++ (x ++ (y ++ z))
three a b c d x y z e f g = two a b d x (y ++ z) e (two b c d y z f g)

-- what stands behind some of the items
each_from-split : {A B : Type 0} (f : ℕ → A → List B) (k : ℕ) (xs : List A) (i : ℕ) → (rest : List B) × (each_from f k xs ≡ each_from f k (take i xs) ++ rest)
each_from-split f k xs zero = (each_from f k xs, refl)
each_from-split f k [] (suc i) = ([], refl)
each_from-split f k (x ∷ xs) (suc i) =
    let r = each_from-split f (suc k) xs i in
    (r.0, ap (λ l. f k x ++ l) r.1 ∙ sym (append_assoc (f k x) (each_from f (suc k) (take i xs)) r.0))

pub each-split : {A B : Type 0} (f : ℕ → A → List B) (xs : List A) (i : ℕ) → (rest : List B) × (each f xs ≡ each f (take i xs) ++ rest)
each-split f xs i = each_from-split f 0 xs i

-- what comes behind a mark that is not free doesn't change the first fault
pub told_already : (ps : List Place) (ms ns : List Mark) → list_any is_some ms ≡ true → first (faults ps (ms ++ ns)) ≡ first (faults ps ms)
told_already ps [] ns h = absurd (cc)
told_already [] (m ∷ ms) ns h = refl
told_already (p ∷ ps) (None ∷ ms) ns h = told_already ps ms ns h
told_already (p ∷ ps) (Some reason ∷ ms) ns h = refl

-- the faults of two lists are those of the first and then those of the second
pub first_of_none : (fs gs : List BadScript) → first fs ≡ None → first (fs ++ gs) ≡ first gs
first_of_none [] gs h = refl
first_of_none (f ∷ fs) gs h = absurd (cc)

pub first_of_some : (fs gs : List BadScript) (f : BadScript) → first fs ≡ Some f → first (fs ++ gs) ≡ Some f
first_of_some [] gs f h = absurd (cc)
first_of_some (g ∷ fs) gs f h = h

pub none_at_all : (fs : List BadScript) → first fs ≡ None → fs ≡ []
none_at_all [] h = refl
none_at_all (f ∷ fs) h = absurd (cc)

passed : (a b : Bool) → b ≡ true → (a || b) ≡ true
passed true b h = refl
passed false b h = h

-- a test that some item behind the first n passes
pub any_behind : {A : Type 0} (test : A → Bool) (n : ℕ) (xs : List A) → list_any test (drop n xs) ≡ true → list_any test xs ≡ true
any_behind test zero xs h = h
any_behind test (suc n) [] h = h
any_behind test (suc n) (x ∷ xs) h = passed (test x) (list_any test xs) (any_behind test n xs h)
