-- The operations in the order of their numbers.
use Rattle.std.proofs.Common.{◌≡◌, ℕ, ◌+◌, ◌-◌, ◌<◌, ◌≤◌, List, length, get_or, map, Some, refl, sym, ap, subst, ◌∙◌, arith}
use Rattle.std.specs.Prelude.{◌↔◌, slice_get, Contains}
use Rattle.std.specs.List.{All, enumerate_from}
use Rattle.std.proofs.lemmas.List.{get_or-map}
use Rattle.std.proofs.lemmas.List.FromFn.{length-enumerate_from, get_or-enumerate_from}
use Rattle.std.proofs.lemmas.Option.{slice_get-get_or, slice_get_within, get_or_from_slice_get}
use Rattle.cap_names.specs.Operations.{operation_names, IsNamed}
use Rattle.cap_ops.specs.Operations.{operation}
use Rattle.cap_ops.specs.Numbers.{numbered, numbers_and_names, IsNumbered}

-- the table's numbers and names are the names in order, counted from 1
in_order : numbers_and_names ≡ enumerate_from 1 operation_names
in_order = refl

-- an element of a list, with its place counted from 1
counted : {X : Type 0} (xs : List X) (n : ℕ) (x : X) → 1 ≤ n → slice_get xs (n - 1) ≡ Some x → Contains (enumerate_from 1 xs) (n, x)
counted xs n x first is =
    let within = slice_get_within xs (n - 1) x is in
    let number : 1 + (n - 1) ≡ n = omega (arith, first) in
    let same : get_or xs (n - 1) x ≡ x = get_or_from_slice_get xs (n - 1) x x is in
    (n - 1, omega (arith, length-enumerate_from 1 xs, within), get_or-enumerate_from 1 xs (n - 1) (n, x) within ∙ (λ i. (number i, same i)))

-- and back
uncounted : {X : Type 0} (xs : List X) (n : ℕ) (x : X) → Contains (enumerate_from 1 xs) (n, x) → (1 ≤ n) × (slice_get xs (n - 1) ≡ Some x)
uncounted {X} xs n x is =
    let within : is.0 < length xs = omega (arith, length-enumerate_from 1 xs, is.1) in
    let found : ℕ × X = (1 + is.0, get_or xs is.0 x) in
    let wanted : ℕ × X = (n, x) in
    let at : found ≡ wanted = sym (get_or-enumerate_from 1 xs is.0 (n, x) within) ∙ is.2 in
    let number : 1 + is.0 ≡ n = ap (λ p. p.0) at in
    let back : n - 1 ≡ is.0 = omega (arith, number) in
    (omega (arith, number), ap (slice_get xs) back ∙ slice_get-get_or xs is.0 x within ∙ ap Some (ap (λ p. p.1) at))

pub named_as_numbered : (number : ℕ) (name : List ℕ) → IsNamed number name ↔ IsNumbered number name
named_as_numbered number name = (
  λ is. subst (λ table. Contains table (number, name)) (sym in_order) (counted operation_names number name is.first is.name),
  λ is. let at = uncounted operation_names number name (subst (λ table. Contains table (number, name)) in_order is) in record { first = at.0; name = at.1 },
)

-- two functions that map a list to one list agree at each of its elements
agree : {X Y : Type 0} (f g : X → Y) (xs : List X) → map f xs ≡ map g xs → All (λ x. f x ≡ g x) xs
agree f g xs e = λ k d within. sym (get_or-map f xs k d (f d) within) ∙ ap (λ ys. get_or ys k (f d)) e ∙ get_or-map g xs k d (f d) within

pub words_are_numbered : All (λ l. l.word ≡ operation l.number) numbered
words_are_numbered = agree (λ l. l.word) (λ l. operation l.number) numbered refl

pub constants_are_numbered : All (λ l. l.constant ≡ operation l.number) numbered
constants_are_numbered = agree (λ l. l.constant) (λ l. operation l.number) numbered refl
