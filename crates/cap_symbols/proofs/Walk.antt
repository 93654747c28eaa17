-- Tokens one after the other, with what they stand for and where.
use Rattle.std.proofs.Common.{◌≡◌, ℕ, ◌+◌, ◌<◌, ◌≤◌, List, [], ◌∷◌, ◌++◌, length, get_or, take, drop, map, suc, sym, ap, ◌∙◌, subst, arith}
use Rattle.std.specs.List.{AllZip}
use Rattle.std.proofs.lemmas.List.{map-append, drop_more}
use Rattle.std.proofs.Math.Seq.{take-suc}
use Rattle.cap_names.specs.declared.token.Token.{Token}
use Rattle.cap_names.specs.Tokens.{InOrder}
use Rattle.cap_grammar.specs.declared.symbol.Symbol.{Symbol}
use Rattle.cap_grammar.specs.declared.tree.Place.{Place}
use Rattle.cap_symbols.specs.Marks.{place_at, StandsFor}

zip_more : {A B : Type 0} (R : A → B → Type 0) (xs : List A) (ys : List B) (x : A) (y : B) → AllZip R xs ys → R x y → AllZip R (xs ++ x ∷ []) (ys ++ y ∷ [])
zip_more R [] [] x y h k = (k, tt)
zip_more R [] (y0 ∷ ys) x y h k = absurd h
zip_more R (x0 ∷ xs) [] x y h k = absurd h
zip_more R (x0 ∷ xs) (y0 ∷ ys) x y h k = (h.0, zip_more R xs ys x y h.1 k)

take_more : {A : Type 0} (xs : List A) (i : ℕ) (d : A) → i < length xs → take (i + 1) xs ≡ take i xs ++ get_or xs i d ∷ []
take_more xs i d lt = let next : i + 1 ≡ suc i = omega arith in ap (λ n. take n xs) next ∙ take-suc xs i d lt

earlier : (m n : ℕ) (ts : List Token) → m ≤ n → InOrder n ts → InOrder m ts
earlier m n [] le h = tt
earlier m n (t ∷ ts) le h = (omega (arith, h.0), h.1, h.2)

pub from_next : (at : ℕ) (ts : List Token) (i : ℕ) (d : Token) → i < length ts → InOrder at (drop i ts) → (at ≤ (get_or ts i d).start) × InOrder (get_or ts i d).start (drop (i + 1) ts)
from_next at ts i d lt h =
    let t : Token = get_or ts i d in
    let k : InOrder at (t ∷ drop (i + 1) ts) = subst (InOrder at) (drop_more ts i d lt) h in
    (k.0, earlier t.start t.end (drop (i + 1) ts) (omega (arith, k.1)) k.2)

pub more_stand : (bs : List ℕ) (ts : List Token) (i : ℕ) (d : Token) (symbols : List Symbol) (s : Symbol) → i < length ts → AllZip (StandsFor bs) (take i ts) symbols → StandsFor bs (get_or ts i d) s
    → AllZip (StandsFor bs) (take (i + 1) ts) (symbols ++ s ∷ [])
more_stand bs ts i d symbols s lt h k =
    subst (λ l. AllZip (StandsFor bs) l (symbols ++ s ∷ [])) (sym (take_more ts i d lt)) (zip_more (StandsFor bs) (take i ts) symbols (get_or ts i d) s h k)

pub more_begin : (bs : List ℕ) (ts : List Token) (i : ℕ) (d : Token) (places : List Place) (p : Place) → i < length ts → places ≡ map (λ t. place_at bs t.start) (take i ts) → p ≡ place_at bs (get_or ts i d).start
    → places ++ p ∷ [] ≡ map (λ t. place_at bs t.start) (take (i + 1) ts)
more_begin bs ts i d places p lt h k =
    (λ j. h j ++ k j ∷ []) ∙ sym (map-append (λ t. place_at bs t.start) (take i ts) (get_or ts i d ∷ [])) ∙ ap (map (λ t. place_at bs t.start)) (sym (take_more ts i d lt))
