-- The text of symbols is written token by token: no two of them run together.
use Rattle.std.proofs.Common.{◌≡◌, ℕ, List, [], ◌∷◌, ◌++◌, map, Bool, true, false, refl, sym, ap, subst, arith}
use Rattle.std.specs.Prelude.{◌||◌, ◌==◌, if◌then◌else◌}
use Rattle.std.specs.Char.{is_ascii_digit, is_ascii_alphabetic}
use Rattle.std.proofs.lemmas.Bool.Decides.{nat_tests}
use Rattle.std.proofs.lemmas.List.Sums.{AllPass-from_list_all}
use Rattle.cap_names.specs.Words.{IsWord, IsNumber}
use Rattle.cap_names.proofs.OperationNames.{name_is_word}
use Rattle.cap_names.proofs.Written.{IsWritten, written_none, written_append, written_blank, written_word, written_number}
use Rattle.cap_grammar.specs.declared.symbol.Fixed.TheVariants as word
use Rattle.cap_grammar.specs.declared.symbol.Symbol.{Symbol}
use Rattle.cap_grammar.specs.declared.symbol.Symbol.TheVariants as symbol
use Rattle.cap_grammar.specs.Scripts.{is_newline}
use Rattle.cap_printer.specs.Texts.{operation_text, symbol_text, opens, closes, text_behind}
use Rattle.cap_printer.proofs.FixedTexts.{Stops, blank_stops, Begins, Closes, fixed_before, fixed_opens, fixed_closes, fixed_begins, fixed_last}
use Rattle.cap_printer.proofs.Good.{IsGood, Each}
use Rattle.cap_printer.proofs.Lines.{Lined}

-- First bytes.
letter_begins : (b : ℕ) → is_ascii_alphabetic b ≡ true → (b == 62) ≡ false
letter_begins b h = grind (arith, nat_tests)

digit_begins : (b : ℕ) → is_ascii_digit b ≡ true → (b == 62) ≡ false
digit_begins b h = grind (arith, nat_tests)

word_begins : (bs : List ℕ) → IsWord bs → Begins bs
word_begins [] is = absurd (omega (arith, is.some))
word_begins (b ∷ bs) is = record { first = b; others = bs; all = refl; arrow = letter_begins b is.letter }

number_begins : (bs : List ℕ) → IsNumber bs → Begins bs
number_begins [] is = absurd (omega (arith, is.some))
number_begins (b ∷ bs) is = record { first = b; others = bs; all = refl; arrow = digit_begins b (is.all 0 0 (omega arith)) }

begins : (s : Symbol) → IsGood s → Begins (symbol_text s)
begins (symbol.Fixed w) h = fixed_begins w
begins (symbol.Operation op) h = word_begins (operation_text op.0) (name_is_word op.0 (operation_text op.0) h)
begins (symbol.Name n) h = word_begins n h.0
begins (symbol.Number n) h = number_begins (symbol_text (symbol.Number n)) h.0
begins symbol.Nought h = record { first = 48; others = []; all = refl; arrow = refl }

begins_more : (front bs : List ℕ) → Begins front → Begins (front ++ bs)
begins_more front bs h = record { first = h.first; others = h.others ++ bs; all = ap (λ l. l ++ bs) h.all; arrow = h.arrow }

-- A symbol before a byte with which nothing goes on.
nought : IsNumber (48 ∷ [])
nought = record { some = omega arith; within = omega arith; all = AllPass-from_list_all is_ascii_digit (48 ∷ []) refl }

before : (s : Symbol) (b : ℕ) (bs : List ℕ) (texts : List (List ℕ)) → IsGood s → Stops b → IsWritten (b ∷ bs) texts → IsWritten (symbol_text s ++ b ∷ bs) (symbol_text s ∷ texts)
before (symbol.Fixed w) b bs texts h stops written = fixed_before w b bs texts stops written
before (symbol.Operation op) b bs texts h stops written = written_word (operation_text op.0) b bs texts (name_is_word op.0 (operation_text op.0) h) stops.word written
before (symbol.Name n) b bs texts h stops written = written_word n b bs texts h.0 stops.word written
before (symbol.Number n) b bs texts h stops written = written_number (symbol_text (symbol.Number n)) b bs texts h.0 stops.digit written
before symbol.Nought b bs texts h stops written = written_number (48 ∷ []) b bs texts nought stops.digit written

-- An opening one before anything but >.
opened : (s : Symbol) (bs : List ℕ) (texts : List (List ℕ)) → opens s ≡ true → Begins bs → IsWritten bs texts → IsWritten (symbol_text s ++ bs) (symbol_text s ∷ texts)
opened (symbol.Fixed w) bs texts h first written = fixed_opens w bs texts h first written
opened (symbol.Operation op) bs texts h first written = cc
opened (symbol.Name n) bs texts h first written = cc
opened (symbol.Number n) bs texts h first written = cc
opened symbol.Nought bs texts h first written = cc

closed : (s : Symbol) → closes s ≡ true → Closes (symbol_text s)
closed (symbol.Fixed w) h = fixed_closes w h
closed (symbol.Operation op) h = cc
closed (symbol.Name n) h = cc
closed (symbol.Number n) h = cc
closed symbol.Nought h = cc

-- A symbol before another one.
next_to : (s t : Symbol) (more : List ℕ) (texts : List (List ℕ)) (o c : Bool) → opens s ≡ o → closes t ≡ c → IsGood s → IsGood t → IsWritten (symbol_text t ++ more) texts
    → IsWritten (symbol_text s ++ ((if o || c then [] else 32 ∷ []) ++ (symbol_text t ++ more))) (symbol_text s ∷ texts)
next_to s t more texts true c opening closing h k written = opened s (symbol_text t ++ more) texts opening (begins_more (symbol_text t) more (begins t k)) written
next_to s t more texts false true opening closing h k written =
    let end = closed t closing in
    let e : symbol_text t ++ more ≡ end.byte ∷ more = ap (λ l. l ++ more) end.all in
    subst (λ l. IsWritten (symbol_text s ++ l) (symbol_text s ∷ texts)) (sym e) (before s end.byte more texts h end.stops (subst (λ l. IsWritten l texts) e written))
next_to s t more texts false false opening closing h k written = before s 32 (symbol_text t ++ more) texts h blank_stops (written_append (32 ∷ []) (symbol_text t ++ more) [] texts written_blank written)

last : (s : Symbol) → is_newline s ≡ true → IsWritten (symbol_text s ++ []) (symbol_text s ∷ [])
last (symbol.Fixed w) h = fixed_last w h
last (symbol.Operation op) h = cc
last (symbol.Name n) h = cc
last (symbol.Number n) h = cc
last symbol.Nought h = cc

spaced : (s : Symbol) (rest : List Symbol) → Each IsGood (s ∷ rest) → Lined (is_newline s) rest → IsWritten (symbol_text s ++ text_behind s rest) (map symbol_text (s ∷ rest))
spaced s [] h lines = last s lines
spaced s (t ∷ rest) h lines = next_to s t (text_behind t rest) (map symbol_text (t ∷ rest)) (opens s) (closes t) refl refl h.0 h.1.0 (spaced t rest h.1 lines.1)

-- the text of whole lines
pub text_written : (ss : List Symbol) → Each IsGood ss → Lined true ss → IsWritten (text_behind (symbol.Fixed word.Newline) ss) (map symbol_text ss)
text_written [] h lines = written_none
text_written (s ∷ rest) h lines = spaced s rest h lines.1
