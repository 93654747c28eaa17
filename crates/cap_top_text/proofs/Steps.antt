-- One more step of a loop that writes, over plain variables.
use Rattle.std.proofs.Common.{◌≡◌, ℕ, ◌+◌, ◌<◌, ◌≤◌, List, [], ◌∷◌, ◌++◌, length, drop, get_or, sym, ap, ◌∙◌, append_assoc, append-nil, arith}
use Rattle.std.specs.Prelude.{zip}
use Rattle.std.proofs.lemmas.List.{at_drop_more, drop_all}
use Rattle.std.proofs.lemmas.Slice.Zip.{length-zip, get_or-zip}

-- what is left at a place is what stands there, and the rest
pub rest_more : {A : Type 0} (xs : List A) (i : ℕ) (x : A) → i < length xs → x ≡ get_or xs i x → drop i xs ≡ x ∷ drop (i + 1) xs
rest_more xs i x h e = at_drop_more (λ l. l) xs i x h ∙ ap (λ y. y ∷ drop (i + 1) xs) (sym e)

-- x and y stand at this place of two lists
abbrev pub Turn : {A B : Type 0} → List A → List B → ℕ → A → B → Type 0
Turn {A} {B} xs ys i x y = (i < length xs) × (i < length ys) × ((d : A) → x ≡ get_or xs i d) × ((d : B) → y ≡ get_or ys i d)

pub pairs_more : {A B : Type 0} (xs : List A) (ys : List B) (i j : ℕ) (x : A) (y : B) → j ≡ i + 1 → Turn xs ys i x y → drop i (zip xs ys) ≡ (x, y) ∷ drop j (zip xs ys)
pairs_more xs ys i j x y next t =
    let inside : i < length (zip xs ys) = omega (arith, length-zip xs ys, t.0, t.1) in
    let at : get_or (zip xs ys) i (x, y) ≡ (x, y) = get_or-zip xs ys i (x, y) t.0 t.1 ∙ ap (λ a. (a, get_or ys i y)) (sym (t.2 x)) ∙ ap (λ b. (x, b)) (sym (t.3 y)) in
    rest_more (zip xs ys) i (x, y) inside (sym at) ∙ ap (λ n. (x, y) ∷ drop n (zip xs ys)) (sym next)

-- one more text is written
pub written : (out new total line rest before : List ℕ) → out ++ before ≡ total → new ≡ out ++ line → before ≡ line ++ rest → new ++ rest ≡ total
written out new total line rest before told grown e = ap (λ l. l ++ rest) grown ∙ append_assoc out line rest ∙ ap (λ l. out ++ l) (sym e) ∙ told

-- nothing is left
pub ended : {A : Type 0} (text : List A → List ℕ) (none : text [] ≡ []) (out total : List ℕ) (xs : List A) (i : ℕ) → length xs ≤ i → out ++ text (drop i xs) ≡ total → out ≡ total
ended text none out total xs i h told = sym (append-nil out) ∙ ap (λ l. out ++ l) (sym none) ∙ ap (λ l. out ++ text l) (sym (drop_all i xs h)) ∙ told

pub left_at_end : {A B : Type 0} (behind : List A → B) (total : B) (xs : List A) (i : ℕ) → length xs ≤ i → behind (drop i xs) ≡ total → behind [] ≡ total
left_at_end behind total xs i h told = ap behind (sym (drop_all i xs h)) ∙ told
