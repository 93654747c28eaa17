-- A text stands for one symbol, and has one list of symbols with their places.
use Rattle.std.proofs.Common.{◌≡◌, ℕ, ◌+◌, ◌-◌, List, [], ◌∷◌, get_or, map, Bool, true, false, ◌&&◌, leb, cond, refl, sym, ap, ◌∙◌, subst, ⊎_elim, inl, inr, arith}
use Rattle.std.specs.Prelude.{bytes_eq, codes, ◌==◌}
use Rattle.std.specs.List.{AllZip, list_all}
use Rattle.std.specs.Char.{is_ascii_digit}
use Rattle.std.proofs.lemmas.Bool.{and_parts, or_cases, leb-true, eqb-true}
use Rattle.std.proofs.lemmas.List.Sums.{AllPass-from_list_all}
use Rattle.std.proofs.lemmas.Option.{slice_get_within, get_or_from_slice_get}
use Rattle.cap_names.specs.Words.{IsWord, IsNumber}
use Rattle.cap_names.specs.Operations.{operation_names, IsNamed}
use Rattle.cap_names.proofs.OperationNames.{one_number}
use Rattle.cap_names.proofs.Pieces.{one_token_list}
use Rattle.cap_names.specs.declared.token.Token.{Token}
use Rattle.cap_grammar.specs.declared.symbol.Fixed.{Fixed}
use Rattle.cap_grammar.specs.declared.symbol.Fixed.TheVariants as word
use Rattle.cap_grammar.specs.declared.symbol.Symbol.{Symbol}
use Rattle.cap_grammar.specs.declared.symbol.Symbol.TheVariants as symbol
use Rattle.cap_grammar.specs.declared.tree.Place.{Place}
use Rattle.cap_grammar.specs.Texts.{fixed_text, IsSymbol}
use Rattle.cap_symbols.specs.Words.{all_fixed}
use Rattle.cap_symbols.specs.Marks.{place_at, StandsFor, AreSymbols}
use Rattle.cap_symbols.proofs.Fixeds.{index, at_index}

-- The texts of words and marks are distinct: each has its place among them.
abbrev position : List (List ℕ) → List ℕ → ℕ
position [] bs = 0
position (x ∷ xs) bs = cond (bytes_eq x bs) 0 (position xs bs + 1)

position_of : (w : Fixed) → position (map fixed_text all_fixed) (fixed_text w) ≡ index w
position_of word.Table = refl
position_of word.Quiver = refl
position_of word.Prime = refl
position_of word.Bound = refl
position_of word.Objects = refl
position_of word.Basis = refl
position_of word.Unit = refl
position_of word.Product = refl
position_of word.Arrow = refl
position_of word.Relation = refl
position_of word.End = refl
position_of word.Category = refl
position_of word.Vec = refl
position_of word.Add = refl
position_of word.Freyd = refl
position_of word.Rep = refl
position_of word.Session = refl
position_of word.Register = refl
position_of word.Finalise = refl
position_of word.Plan = refl
position_of word.Object = refl
position_of word.Let = refl
position_of word.Src = refl
position_of word.Tgt = refl
position_of word.Dims = refl
position_of word.Maps = refl
position_of word.To = refl
position_of word.Open = refl
position_of word.Close = refl
position_of word.OpenRound = refl
position_of word.CloseRound = refl
position_of word.OpenBrace = refl
position_of word.CloseBrace = refl
position_of word.Semicolon = refl
position_of word.Equals = refl
position_of word.Dot = refl
position_of word.Star = refl
position_of word.Plus = refl
position_of word.Minus = refl
position_of word.Newline = refl

one_fixed : (v w : Fixed) → fixed_text v ≡ fixed_text w → v ≡ w
one_fixed v w h =
    let same : index v ≡ index w = sym (position_of v) ∙ ap (position (map fixed_text all_fixed)) h ∙ position_of w in
    sym (at_index v) ∙ ap (λ n. get_or all_fixed n word.Table) same ∙ at_index w

-- What a text begins with tells words and marks, operations and numbers apart.
abbrev pick : Bool → Bool → ℕ
pick digit capital = cond digit 2 (cond capital 1 0)

abbrev class_of : ℕ → ℕ
class_of b = pick (is_ascii_digit b) (leb 65 b && leb b 90)

abbrev class : List ℕ → ℕ
class [] = 0
class (b ∷ bs) = class_of b

class_of_fixed : (w : Fixed) → class (fixed_text w) ≡ 0
class_of_fixed word.Table = refl
class_of_fixed word.Quiver = refl
class_of_fixed word.Prime = refl
class_of_fixed word.Bound = refl
class_of_fixed word.Objects = refl
class_of_fixed word.Basis = refl
class_of_fixed word.Unit = refl
class_of_fixed word.Product = refl
class_of_fixed word.Arrow = refl
class_of_fixed word.Relation = refl
class_of_fixed word.End = refl
class_of_fixed word.Category = refl
class_of_fixed word.Vec = refl
class_of_fixed word.Add = refl
class_of_fixed word.Freyd = refl
class_of_fixed word.Rep = refl
class_of_fixed word.Session = refl
class_of_fixed word.Register = refl
class_of_fixed word.Finalise = refl
class_of_fixed word.Plan = refl
class_of_fixed word.Object = refl
class_of_fixed word.Let = refl
class_of_fixed word.Src = refl
class_of_fixed word.Tgt = refl
class_of_fixed word.Dims = refl
class_of_fixed word.Maps = refl
class_of_fixed word.To = refl
class_of_fixed word.Open = refl
class_of_fixed word.Close = refl
class_of_fixed word.OpenRound = refl
class_of_fixed word.CloseRound = refl
class_of_fixed word.OpenBrace = refl
class_of_fixed word.CloseBrace = refl
class_of_fixed word.Semicolon = refl
class_of_fixed word.Equals = refl
class_of_fixed word.Dot = refl
class_of_fixed word.Star = refl
class_of_fixed word.Plus = refl
class_of_fixed word.Minus = refl
class_of_fixed word.Newline = refl

-- the names of operations begin with a capital letter
abbrev capital : List ℕ → Bool
capital bs = class bs == 1

capitals : list_all capital operation_names ≡ true
capitals = refl

class_of_name : (n : ℕ) (bs : List ℕ) → IsNamed n bs → class bs ≡ 1
class_of_name n bs is =
    let within = slice_get_within operation_names (n - 1) bs is.name in
    let at : get_or operation_names (n - 1) bs ≡ bs = get_or_from_slice_get operation_names (n - 1) bs bs is.name in
    eqb-true (class bs) 1 (ap capital (sym at) ∙ AllPass-from_list_all capital operation_names capitals (n - 1) bs within)

class_of_number : (bs : List ℕ) → IsNumber bs → class bs ≡ 2
class_of_number [] is = absurd (omega (arith, is.some))
class_of_number (b ∷ bs) is = ap (λ t. pick t (leb 65 b && leb b 90)) (is.all 0 0 (omega arith))

digit_class : (b : ℕ) (t u : Bool) → is_ascii_digit b ≡ t → (leb 65 b && leb b 90) ≡ u → pick t u ≡ 2 → is_ascii_digit b ≡ true
digit_class b true u h k e = h
digit_class b false true h k e = cc
digit_class b false false h k e = cc

class_of_word : (bs : List ℕ) → IsWord bs → class bs ≡ 2 → ⊥
class_of_word [] is e = cc
class_of_word (b ∷ bs) is e =
    let digit = and_parts (leb 48 b) (leb b 57) (digit_class b (is_ascii_digit b) (leb 65 b && leb b 90) refl refl e) in
    let high = leb-true b 57 digit.1 in
    ⊎_elim
    (λ l. let low = leb-true 65 b (and_parts (leb 65 b) (leb b 90) l).0 in omega (arith, low, high))
    (λ l. let low = leb-true 97 b (and_parts (leb 97 b) (leb b 122) l).0 in omega (arith, low, high))
    (or_cases (leb 65 b && leb b 90) (leb 97 b && leb b 122) is.letter)

fixed_class : (bs : List ℕ) (w : Fixed) → fixed_text w ≡ bs → class bs ≡ 0
fixed_class bs w h = ap class (sym h) ∙ class_of_fixed w

nought_class : (bs : List ℕ) → bs ≡ codes "0" → class bs ≡ 2
nought_class bs h = ap class h

pub one_symbol : (bs : List ℕ) (x y : Symbol) → IsSymbol bs x → IsSymbol bs y → x ≡ y
one_symbol bs (symbol.Fixed v) (symbol.Fixed w) h k = ap symbol.Fixed (one_fixed v w (h ∙ sym k))
one_symbol bs (symbol.Fixed v) (symbol.Operation op) h k = absurd (omega (arith, fixed_class bs v h, class_of_name op.0 bs k))
one_symbol bs (symbol.Fixed v) (symbol.Name n) h k = absurd (k.2 (inl (v, h)))
one_symbol bs (symbol.Fixed v) (symbol.Number n) h k = absurd (omega (arith, fixed_class bs v h, class_of_number bs k.0))
one_symbol bs (symbol.Fixed v) symbol.Nought h k = absurd (omega (arith, fixed_class bs v h, nought_class bs k))
one_symbol bs (symbol.Operation op) (symbol.Fixed w) h k = absurd (omega (arith, fixed_class bs w k, class_of_name op.0 bs h))
one_symbol bs (symbol.Operation op) (symbol.Operation q) h k = let same : op.0 ≡ q.0 = one_number op.0 q.0 bs h k in (λ i. symbol.Operation (record { 0 = same i }))
one_symbol bs (symbol.Operation op) (symbol.Name n) h k = absurd (k.2 (inr (op.0, h)))
one_symbol bs (symbol.Operation op) (symbol.Number n) h k = absurd (omega (arith, class_of_name op.0 bs h, class_of_number bs k.0))
one_symbol bs (symbol.Operation op) symbol.Nought h k = absurd (omega (arith, class_of_name op.0 bs h, nought_class bs k))
one_symbol bs (symbol.Name m) (symbol.Fixed w) h k = absurd (h.2 (inl (w, k)))
one_symbol bs (symbol.Name m) (symbol.Operation op) h k = absurd (h.2 (inr (op.0, k)))
one_symbol bs (symbol.Name m) (symbol.Name n) h k = ap symbol.Name (h.1 ∙ sym k.1)
one_symbol bs (symbol.Name m) (symbol.Number n) h k = absurd (class_of_word bs h.0 (class_of_number bs k.0))
one_symbol bs (symbol.Name m) symbol.Nought h k = absurd (class_of_word bs h.0 (nought_class bs k))
one_symbol bs (symbol.Number m) (symbol.Fixed w) h k = absurd (omega (arith, fixed_class bs w k, class_of_number bs h.0))
one_symbol bs (symbol.Number m) (symbol.Operation op) h k = absurd (omega (arith, class_of_name op.0 bs k, class_of_number bs h.0))
one_symbol bs (symbol.Number m) (symbol.Name n) h k = absurd (class_of_word bs k.0 (class_of_number bs h.0))
one_symbol bs (symbol.Number m) (symbol.Number n) h k = ap symbol.Number (sym h.1 ∙ k.1)
one_symbol bs (symbol.Number m) symbol.Nought h k = absurd (h.2 k)
one_symbol bs symbol.Nought (symbol.Fixed w) h k = absurd (omega (arith, fixed_class bs w k, nought_class bs h))
one_symbol bs symbol.Nought (symbol.Operation op) h k = absurd (omega (arith, class_of_name op.0 bs k, nought_class bs h))
one_symbol bs symbol.Nought (symbol.Name n) h k = absurd (class_of_word bs k.0 (nought_class bs h))
one_symbol bs symbol.Nought (symbol.Number n) h k = absurd (k.2 h)
one_symbol bs symbol.Nought symbol.Nought h k = refl

one_list : (bs : List ℕ) (ts : List Token) (xs ys : List Symbol) → AllZip (StandsFor bs) ts xs → AllZip (StandsFor bs) ts ys → xs ≡ ys
one_list bs [] [] [] h k = refl
one_list bs [] (x ∷ xs) ys h k = absurd h
one_list bs [] [] (y ∷ ys) h k = absurd k
one_list bs (t ∷ ts) [] ys h k = absurd h
one_list bs (t ∷ ts) (x ∷ xs) [] h k = absurd k
one_list bs (t ∷ ts) (x ∷ xs) (y ∷ ys) h k = (λ i. one_symbol _ x y h.0 k.0 i ∷ one_list bs ts xs ys h.1 k.1 i)

-- a text has one list of symbols, and one of their places
pub one_symbol_list : (bs : List ℕ) (xs ys : List Symbol) (ps qs : List Place) → AreSymbols bs xs ps → AreSymbols bs ys qs → (xs ≡ ys) × (ps ≡ qs)
one_symbol_list bs xs ys ps qs h k =
    let same : h.tokens ≡ k.tokens = one_token_list bs h.tokens k.tokens h.are k.are in
    let stand : AllZip (StandsFor bs) k.tokens xs = subst (λ ts. AllZip (StandsFor bs) ts xs) same h.stand in
    (one_list bs k.tokens xs ys stand k.stand, h.begin ∙ ap (map (λ t. place_at bs t.start)) same ∙ sym k.begin)
