-- Each token stands for a symbol.
use Rattle.std.proofs.Common.{◌≡◌, ℕ, zero, suc, ◌-◌, ◌<◌, List, [], ◌∷◌, length, get_or, Bool, true, false, Some, refl, sym, ap, ◌∙◌, inl, inr, ⊎_elim, arith}
use Rattle.std.specs.Prelude.{◌⊎◌, codes, slice_get, bytes_eq, slice_range, All}
use Rattle.std.specs.List.{AllZip}
use Rattle.std.specs.Str.Parse.{digits_value}
use Rattle.std.proofs.lemmas.Slice.Eq.{bytes_eq-Decides}
use Rattle.std.proofs.lemmas.Bool.{false≢true}
use Rattle.cap_names.specs.declared.token.Token.{Token}
use Rattle.cap_names.specs.declared.token.TokenKind.{TokenKind}
use Rattle.cap_names.specs.declared.token.TokenKind.TheVariants as token
use Rattle.cap_names.specs.Operations.{operation_names, IsNamed}
use Rattle.cap_names.specs.Tokens.{IsTokenText, IsSlice}
use Rattle.cap_names.specs.Words.{IsWord, IsNumber}
use Rattle.cap_grammar.specs.declared.symbol.Fixed.{Fixed}
use Rattle.cap_grammar.specs.declared.symbol.Fixed.TheVariants as word
use Rattle.cap_grammar.specs.declared.symbol.Symbol.{Symbol}
use Rattle.cap_grammar.specs.declared.symbol.Symbol.TheVariants as symbol
use Rattle.cap_grammar.specs.Texts.{fixed_text, IsSymbol}
use Rattle.cap_symbols.specs.Marks.{StandsFor}
use Rattle.cap_symbols.specs.Words.{all_fixed}
use Rattle.cap_symbols.proofs.Fixeds.{index, index_within, at_index}
use Rattle.cap_symbols.proofs.OneSymbol.{mark_is_fixed}

bool_cases : (b : Bool) → (b ≡ true) ⊎ (b ≡ false)
bool_cases true = inl refl
bool_cases false = inr refl

-- whether two texts are equal
pub same_text : (xs ys : List ℕ) → (xs ≡ ys) ⊎ (xs ≡ ys → ⊥)
same_text xs ys =
    ⊎_elim
    (λ h. inl ((bytes_eq-Decides xs ys).0 h))
    (λ h. inr (λ e. false≢true (sym h ∙ (bytes_eq-Decides xs ys).1 e)))
    (bool_cases (bytes_eq xs ys))

-- whether a word or mark of the list is written so
fixed_among : (ws : List Fixed) (bs : List ℕ) → ((w : Fixed) × (fixed_text w ≡ bs)) ⊎ ((i : ℕ) (d : Fixed) → i < length ws → fixed_text (get_or ws i d) ≡ bs → ⊥)
fixed_among [] bs = inr (λ i d lt e. omega (arith, lt))
fixed_among (w ∷ ws) bs =
    ⊎_elim
    (λ e. inl (w, e))
    (λ differs. ⊎_elim (λ more. inl more) (λ none. inr (not_here w ws bs differs none)) (fixed_among ws bs))
    (same_text (fixed_text w) bs)
  where
    not_here : (w : Fixed) (ws : List Fixed) (bs : List ℕ) → (fixed_text w ≡ bs → ⊥) → ((i : ℕ) (d : Fixed) → i < length ws → fixed_text (get_or ws i d) ≡ bs → ⊥) → (i : ℕ) (d : Fixed) → i < length (w ∷ ws) → fixed_text (get_or (w ∷ ws) i d) ≡ bs → ⊥
    not_here w ws bs differs none zero d lt e = differs e
    not_here w ws bs differs none (suc i) d lt e = none i d (omega (arith, lt)) e

fixed_or_not : (bs : List ℕ) → ((w : Fixed) × (fixed_text w ≡ bs)) ⊎ ((w : Fixed) → fixed_text w ≡ bs → ⊥)
fixed_or_not bs = ⊎_elim (λ h. inl h) (λ none. inr (λ w e. none (index w) word.Table (index_within w) (ap fixed_text (at_index w) ∙ e))) (fixed_among all_fixed bs)

-- whether a name of the list is this
name_among : (names : List (List ℕ)) (bs : List ℕ) → ((i : ℕ) × (slice_get names i ≡ Some bs)) ⊎ ((i : ℕ) → slice_get names i ≡ Some bs → ⊥)
name_among [] bs = inr (λ i e. cc)
name_among (n ∷ names) bs =
    ⊎_elim
    (λ e. inl (zero, ap Some e))
    (λ differs. ⊎_elim (λ more. inl (suc more.0, more.1)) (λ none. inr (not_here n names bs differs none)) (name_among names bs))
    (same_text n bs)
  where
    not_here : (n : List ℕ) (names : List (List ℕ)) (bs : List ℕ) → (n ≡ bs → ⊥) → ((i : ℕ) → slice_get names i ≡ Some bs → ⊥) → (i : ℕ) → slice_get (n ∷ names) i ≡ Some bs → ⊥
    not_here n names bs differs none zero e = differs cc
    not_here n names bs differs none (suc i) e = none i e

operation_or_not : (bs : List ℕ) → ((number : ℕ) × IsNamed number bs) ⊎ ((number : ℕ) → IsNamed number bs → ⊥)
operation_or_not bs =
    ⊎_elim
    (λ h. let back : h.0 ≡ suc h.0 - 1 = omega arith in inl (suc h.0, record { first = omega arith; name = ap (slice_get operation_names) (sym back) ∙ h.1 }))
    (λ none. inr (λ number named. none (number - 1) named.name))
    (name_among operation_names bs)

word_symbol : (bs : List ℕ) → IsWord bs → (s : Symbol) × IsSymbol bs s
word_symbol bs w =
    ⊎_elim
    (λ fixed. (symbol.Fixed fixed.0, fixed.1))
    (λ no_fixed.
    ⊎_elim
    (λ named. (symbol.Operation (record { 0 = named.0 }), named.1))
    (λ no_operation. (symbol.Name bs, (w, refl, λ reserved. ⊎_elim (λ h. no_fixed h.0 h.1) (λ h. no_operation h.0 h.1) reserved)))
    (operation_or_not bs))
    (fixed_or_not bs)

number_symbol : (bs : List ℕ) → IsNumber bs → (s : Symbol) × IsSymbol bs s
number_symbol bs n = ⊎_elim (λ zero. (symbol.Nought, zero)) (λ other. (symbol.Number (digits_value 10 bs), (n, refl, other))) (same_text bs (codes "0"))

-- the text of a token stands for some symbol
pub symbol_of : (kind : TokenKind) (bs : List ℕ) → IsTokenText kind bs → (s : Symbol) × IsSymbol bs s
symbol_of token.Word bs h = word_symbol bs h
symbol_of token.Number bs h = number_symbol bs h
symbol_of token.Mark bs h = let m = mark_is_fixed bs h in (symbol.Fixed m.0, m.1)
symbol_of token.Newline bs h = (symbol.Fixed word.Newline, sym h)

-- tokens that are slices of a text stand for some symbols
pub symbols_of : (bs : List ℕ) (ts : List Token) → All (IsSlice bs) ts → (ss : List Symbol) × AllZip (StandsFor bs) ts ss
symbols_of bs [] h = ([], tt)
symbols_of bs (t ∷ ts) h =
    let first = symbol_of t.kind (slice_range bs t.start t.end) (h zero t (omega arith)).text in
    let others = symbols_of bs ts (λ k d lt. h (suc k) d (omega (arith, lt))) in
    (first.0 ∷ others.0, (first.1, others.1))
