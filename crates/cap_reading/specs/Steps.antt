-- Steps of reading from left to right, generic in the item (this project's own; the textbook notion is a parser combinator with one item of lookahead).
-- A step takes the front of a list, and answers a value and the rest; or it answers the list from the first item on with which no reading goes on.
use Rattle.std.specs.Prelude.{ℕ, zero, suc, List, [], ◌∷◌, ◌++◌, length, Bool, false, Option, Some, None, Result, Ok, Err, if◌then◌else◌}

abbrev pub Read : Type 0 → Type 0 → Type 0
Read S A = Result (A × List S) (List S)

infixl 10 ◌>>=◌
abbrev pub ◌>>=◌ : {A B F : Type 0} → Result A F → (A → Result B F) → Result B F
(Ok x) >>= f = f x
(Err e) >>= f = Err e

-- an item that passes the test
abbrev pub expect : {S : Type 0} → (S → Bool) → List S → Result (List S) (List S)
expect is [] = Err []
expect is (t ∷ ts) = if is t then Ok ts else Err (t ∷ ts)

abbrev pub took : {S A : Type 0} → Option A → List S → List S → Read S A
took (Some a) all rest = Ok (a, rest)
took None all rest = Err all

-- an item that stands for a value
abbrev pub take_one : {S A : Type 0} → (S → Option A) → List S → Read S A
take_one f [] = Err []
take_one f (t ∷ ts) = took (f t) (t ∷ ts) ts

-- what the step reads, made into another value
abbrev pub mapped : {S A B : Type 0} → (A → B) → (List S → Read S A) → List S → Read S B
mapped f r ts = r ts >>= λ x. Ok (f x.0, x.1)

-- behind an item that passes the test
abbrev pub skip : {S A : Type 0} → (S → Bool) → (List S → Read S A) → List S → Read S A
skip is r ts = expect is ts >>= r

-- before an item that passes the test
abbrev pub before : {S A : Type 0} → (List S → Read S A) → (S → Bool) → List S → Read S A
before r is ts = r ts >>= λ x. (expect is x.1 >>= λ rest. Ok (x.0, rest))

-- one after the other
abbrev pub both : {S A B : Type 0} → (List S → Read S A) → (List S → Read S B) → List S → Read S (A × B)
both r s ts = r ts >>= λ x. (s x.1 >>= λ y. Ok ((x.0, y.0), y.1))

-- whether the next item passes the test
abbrev pub begins : {S : Type 0} → (S → Bool) → List S → Bool
begins is [] = false
begins is (t ∷ ts) = is t

-- the first step where the next item passes the test, and else the second
abbrev pub either : {S A : Type 0} → (S → Bool) → (List S → Read S A) → (List S → Read S A) → List S → Read S A
either is r s ts = if begins is ts then r ts else s ts

-- no item
abbrev pub gives : {S A : Type 0} → A → List S → Read S A
gives a ts = Ok (a, ts)

-- a value where the next item passes the test
abbrev pub optional : {S A : Type 0} → (S → Bool) → (List S → Read S A) → List S → Read S (Option A)
optional is r = either is (mapped Some r) (gives None)

-- at most n values, as long as the next item passes the test
abbrev pub up_to : {S A : Type 0} → ℕ → (S → Bool) → (List S → Read S A) → List S → Read S (List A)
up_to zero is r ts = Ok ([], ts)
up_to (suc n) is r [] = Ok ([], [])
up_to (suc n) is r (t ∷ ts) = if is t then (r (t ∷ ts) >>= λ x. (up_to n is r x.1 >>= λ y. Ok (x.0 ∷ y.0, y.1))) else Ok ([], t ∷ ts)

-- values as long as the next item passes the test
unfoldable pub many : {S A : Type 0} → (S → Bool) → (List S → Read S A) → List S → Read S (List A)
many is r ts = up_to (length ts) is r ts

-- what was read before, and what is still read
abbrev pub with_front : {S A : Type 0} → List A → Read S (List A) → Read S (List A)
with_front front read = read >>= λ x. Ok (front ++ x.0, x.1)

-- one value by r, and more by s as long as the next item passes the test
abbrev pub some : {S A : Type 0} → (List S → Read S A) → (S → Bool) → (List S → Read S A) → List S → Read S (List A)
some r is s ts = r ts >>= λ x. with_front (x.0 ∷ []) (many is s x.1)

-- the value, where nothing is left
abbrev pub ends : {S A : Type 0} → A → List S → Result A (List S)
ends a [] = Ok a
ends a (t ∷ ts) = Err (t ∷ ts)

-- the whole list
abbrev pub whole : {S A : Type 0} → (List S → Read S A) → List S → Result A (List S)
whole r ts = r ts >>= λ x. ends x.0 x.1
