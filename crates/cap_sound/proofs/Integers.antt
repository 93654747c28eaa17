-- The integers of a text are not clamped, nor are the matrices of it.
use Rattle.std.proofs.Common.{◌≡◌, refl, ℕ, ◌-◌, ◌^◌, ◌<◌, ◌≤◌, List, [], ◌∷◌, map, ap, ◌∙◌, subst, arith, inl, inr}
use Rattle.std.specs.Prelude.{min}
use Rattle.cap_names.specs.declared.literals.EntryLit.TheVariants as entries
use Rattle.cap_names.specs.declared.literals.MatLit.{MatLit}
use Rattle.cap_names.specs.declared.literals.MorLit.TheVariants as morphisms
use Rattle.cap_reading.specs.Languages.{◌·◌, each, some_of}
use Rattle.cap_grammar.specs.declared.symbol.Fixed.TheVariants as word
use Rattle.cap_grammar.specs.declared.symbol.Symbol.{Symbol}
use Rattle.cap_grammar.specs.declared.tree.IntTok.{IntTok}
use Rattle.cap_grammar.specs.declared.tree.EntryTok.{EntryTok}
use Rattle.cap_grammar.specs.declared.tree.EntryTok.TheVariants as cell
use Rattle.cap_grammar.specs.declared.tree.RowsTok.{RowsTok}
use Rattle.cap_grammar.specs.declared.tree.MorTok.{MorTok}
use Rattle.cap_grammar.specs.declared.tree.MorTok.TheVariants as matrices
use Rattle.cap_grammar.specs.Grammar as grammar
use Rattle.cap_grammar.specs.Grammar.{fixed, int, entry, row, inside, rows, morphism}
use Rattle.cap_checked.specs.Checked.{short, signed}
use Rattle.cap_checked.specs.Checked as checked
use Rattle.cap_sound.specs.Plain as plain
use Rattle.cap_sound.proofs.Symbols.{AllShort, short_front, short_rest}

pub not_clamped : (n m : ℕ) → n ≤ m → min n m ≡ n
not_clamped n m h = grind (arith, h)

pub number_small : (n : ℕ) (l : List Symbol) → grammar.number n l → AllShort l → n < 10 ^ 16
number_small n l (inl e) h = (subst AllShort e h).0
number_small n l (inr e) h = let zero = e.0 in omega (arith, zero)

short_same : (n : ℕ) → n < 10 ^ 16 → short n ≡ n
short_same n h = not_clamped n (2 ^ 63 - 1) (omega (arith, h))

integer_plain : (i : IntTok) (l : List Symbol) → int i l → AllShort l → checked.integer i ≡ plain.integer i
integer_plain i l t h = ap (signed i.minus) (short_same i.digits (number_small i.digits t.rest t.second (short_rest l t h)))

-- item by item
pub each_plain : {A B : Type 0} (f g : A → B) (p : A → List Symbol → Type 0) → ((x : A) (l : List Symbol) → p x l → AllShort l → f x ≡ g x) → (xs : List A) (l : List Symbol) → each p xs l → AllShort l → map f xs ≡ map g xs
each_plain f g p same [] l t h = refl
each_plain f g p same (x ∷ xs) l t h =
    ap (λ y. y ∷ map f xs) (same x t.front t.first (short_front l t h)) ∙ ap (λ ys. g x ∷ ys) (each_plain f g p same xs t.rest t.second (short_rest l t h))

some_plain : {A B : Type 0} (f g : A → B) (p q : A → List Symbol → Type 0) → ((x : A) (l : List Symbol) → p x l → AllShort l → f x ≡ g x) → ((x : A) (l : List Symbol) → q x l → AllShort l → f x ≡ g x) → (xs : List A) (l : List Symbol) → some_of p q xs l → AllShort l → map f xs ≡ map g xs
some_plain f g p q same also [] l t h = absurd t
some_plain f g p q same also (x ∷ xs) l t h =
    ap (λ y. y ∷ map f xs) (same x t.front t.first (short_front l t h)) ∙ ap (λ ys. g x ∷ ys) (each_plain f g q also xs t.rest t.second (short_rest l t h))

entry_plain : (e : EntryTok) (l : List Symbol) → entry e l → AllShort l → checked.entry e ≡ plain.entry e
entry_plain (cell.Int i) l t h = ap entries.Int (integer_plain i l t h)
entry_plain (cell.Coeffs is) l t h =
    let r = short_rest l t h in
    ap entries.Coeffs (each_plain checked.integer plain.integer int integer_plain is t.second.front t.second.first (short_front t.rest t.second r))

row_plain : (es : List EntryTok) (l : List Symbol) → row es l → AllShort l → map checked.entry es ≡ map plain.entry es
row_plain es l t h = some_plain checked.entry plain.entry entry entry entry_plain entry_plain es l t h

inside_plain : (rs : List (List EntryTok)) (l : List Symbol) → inside rs l → AllShort l → map (map checked.entry) rs ≡ map (map plain.entry) rs
inside_plain [] l t h = refl
inside_plain (r ∷ rs) l t h =
    some_plain (map checked.entry) (map plain.entry) row (λ x. fixed word.Semicolon · row x) row_plain (λ x k u s. row_plain x u.rest u.second (short_rest k u s)) (r ∷ rs) l t h

pub rows_plain : (m : RowsTok) (l : List Symbol) → rows m l → AllShort l → checked.matrix m ≡ plain.matrix m
rows_plain m l t h =
    let r = short_rest l t h in
    ap (λ rs. let made : MatLit = record { rows = rs } in made) (inside_plain m.rows t.second.front t.second.first (short_front t.rest t.second r))

pub morphism_plain : (lit : MorTok) (l : List Symbol) → morphism lit l → AllShort l → checked.morphism_lit lit ≡ plain.morphism_lit lit
morphism_plain (matrices.Rows m) l t h = ap morphisms.Rows (rows_plain m l t h)
morphism_plain (matrices.Parts ms) l t h =
    let r = short_rest l t h in
    ap morphisms.Parts (each_plain checked.matrix plain.matrix rows rows_plain ms t.second.front t.second.first (short_front t.rest t.second r))
