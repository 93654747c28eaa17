-- How many places a node keeps.
use Rattle.std.proofs.Common.{◌≡◌, ◌+◌, List, [], ◌∷◌, ◌++◌, length, map, ap, refl, arith}
use Rattle.cap_grammar.specs.declared.tree.Placed.{Placed}
use Rattle.cap_grammar.specs.declared.symbol.Symbol.{Symbol}
use Rattle.cap_grammar.specs.Scripts.{Mark, symbols, placed}

pub length_append : {A : Type 0} (xs ys : List A) → length (xs ++ ys) ≡ length xs + length ys
length_append [] ys = omega arith
length_append (x ∷ xs) ys = let e = length_append xs ys in omega (arith, e)

pub length_mapped : {A B : Type 0} (f : A → B) (xs : List A) → length (map f xs) ≡ length xs
length_mapped f [] = refl
length_mapped f (x ∷ xs) = let e = length_mapped f xs in omega (arith, e)

-- a node keeps as many places as its text has symbols
pub kept : {A : Type 0} (text : A → List Symbol → Type 0) (p : Placed A) (ms : List Mark) → placed text p ms → length (symbols ms) ≡ length p.places
kept text p ms h =
    let b = length_mapped (λ m. m.symbol) ms in
    let c = length_mapped (λ m. m.place) ms in
    let d = ap length h.1 in
    omega (arith, b, c, d)
