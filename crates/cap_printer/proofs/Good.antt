-- The symbols of a text are written as tokens that stand for them.
use Rattle.std.proofs.Common.{◌≡◌, ℕ, zero, suc, ◌-◌, ◌^◌, ◌<◌, List, [], ◌∷◌, length, get_or, map, take, true, leb, refl, sym, ap, ◌∙◌, subst, arith}
use Rattle.std.specs.Prelude.{slice_index_or, if◌then◌else◌}
use Rattle.std.specs.Fmt.{decimal}
use Rattle.std.specs.Char.{is_ascii_digit}
use Rattle.std.specs.Int.{IsInRange}
use Rattle.std.specs.Str.Parse.{digits_value}
use Rattle.std.proofs.lemmas.Bool.{le-leb, and_from}
use Rattle.std.proofs.lemmas.Fmt.{digits_decimal, digits_value-decimal, length-decimal-le, decimal_nonempty}
use Rattle.std.proofs.lemmas.List.{get_or_default, get_or_past}
use Rattle.std.proofs.lemmas.Option.{get_or_from_slice_get}
use Rattle.std.proofs.lemmas.Str.Parse.{IsNumeralModel, numerals_by_value, tells_by_index}
use Rattle.std.proofs.Math.Seq.{take-length}
use Rattle.cap_names.specs.Words.{IsWord, IsNumber}
use Rattle.cap_names.specs.Operations.{operation_names, IsNamed}
use Rattle.cap_grammar.specs.declared.symbol.Symbol.{Symbol}
use Rattle.cap_grammar.specs.declared.symbol.Symbol.TheVariants as symbol
use Rattle.cap_grammar.specs.Texts.{IsReserved, IsSymbol}
use Rattle.cap_symbols.proofs.Digits.{small_value}
use Rattle.cap_spelling.specs.Again.{plain_zero}
use Rattle.cap_spelling.proofs.Plain.{positive, plain_positive}
use Rattle.cap_printer.specs.Texts.{operation_text, symbol_text}

-- the text with which the symbol is written stands for it
abbrev pub IsGood : Symbol → Type 0
IsGood s = IsSymbol (symbol_text s) s

-- a token stands for the symbol
abbrev pub HasToken : Symbol → Type 0
HasToken s = (bs : List ℕ) × IsSymbol bs s

-- each symbol is such a one
abbrev pub Each : (Symbol → Type 0) → List Symbol → Type 0
Each P [] = Unit {0}
Each P (s ∷ rest) = P s × Each P rest

-- Names of operations.
pub named_text : (number : ℕ) (bs : List ℕ) → IsNamed number bs → operation_text number ≡ bs
named_text zero bs h = absurd (omega (arith, h.first))
named_text (suc n) bs h = ap (λ c. if c then [] else slice_index_or operation_names (suc n - 1) []) (positive n) ∙ get_or_from_slice_get operation_names (suc n - 1) bs [] h.name

pub no_operation : (number : ℕ) → 44 < number → operation_text number ≡ []
no_operation zero lt = refl
no_operation (suc n) lt = ap (λ c. if c then [] else slice_index_or operation_names (suc n - 1) []) (positive n) ∙ get_or_past operation_names (suc n - 1) [] (omega (arith, lt))

-- Numbers.
abbrev InRange : List ℕ → Type 0
InRange ds = (i : ℕ) → i < length ds → IsInRange 48 57 (get_or ds i 0)

model : IsNumeralModel InRange (digits_value 10)
model = numerals_by_value InRange tells_by_index

digit : (c : ℕ) → IsInRange 48 57 c → is_ascii_digit c ≡ true
digit c h = and_from (leb 48 c) (leb c 57) (le-leb 48 c h.0) (le-leb c 57 h.1)

is_number : (n : ℕ) → n < 10 ^ 16 → IsNumber (decimal n)
is_number n lt = record {
  some = decimal_nonempty n (omega (arith, lt));
  within = length-decimal-le 16 n (omega arith) lt (omega (arith, lt));
  all = λ i d within. subst (λ c. is_ascii_digit c ≡ true) (get_or_default (decimal n) i 0 d within) (digit (get_or (decimal n) i 0) (digits_decimal model n (omega (arith, lt)) i within));
}

good_number : (n : ℕ) (bs : List ℕ) → IsNumber bs → digits_value 10 bs ≡ n → IsGood (plain_zero (symbol.Number n))
good_number zero bs is e = refl
good_number (suc n) bs is e =
    let small = small_value bs (length bs) is in
    let whole : digits_value 10 (take (length bs) bs) ≡ suc n = ap (digits_value 10) (take-length bs) ∙ e in
    let lt : suc n < 10 ^ 16 = omega (arith, small, whole) in
    let back : digits_value 10 (decimal (suc n)) ≡ suc n = digits_value-decimal model (suc n) (omega (arith, lt)) in
    subst IsGood (sym (plain_positive n)) (is_number (suc n) lt, back, λ nought. let zero_value : digits_value 10 (decimal (suc n)) ≡ 0 = ap (digits_value 10) nought in omega (arith, back, zero_value))

pub good : (bs : List ℕ) (s : Symbol) → IsSymbol bs s → IsGood (plain_zero s)
good bs (symbol.Fixed w) h = refl
good bs (symbol.Operation op) h = subst (IsNamed op.0) (sym (named_text op.0 bs h)) h
good bs (symbol.Name n) h = (subst IsWord (sym h.1) h.0, refl, λ r. h.2 (subst IsReserved h.1 r))
good bs (symbol.Number n) h = good_number n bs h.0 h.1
good bs symbol.Nought h = refl

pub each_good : (ss : List Symbol) → Each HasToken ss → Each IsGood (map plain_zero ss)
each_good [] h = tt
each_good (s ∷ ss) h = (good h.0.0 s h.0.1, each_good ss h.1)
