-- A text has one list of symbols, and no bad byte where it has one.
use Rattle.std.proofs.Common.{◌≡◌, ℕ, ◌<◌, ◌≤◌, suc, List, [], ◌∷◌, length, take, refl, sym, ap, ◌∙◌, subst, arith}
use Rattle.std.specs.List.{AllZip}
use Rattle.std.proofs.lemmas.List.{length-map, take_all}
use Rattle.cap_names.specs.Tokens.{AreTokens, IsBadAt}
use Rattle.cap_names.proofs.Decided.{fronts_before_bad_byte}
use Rattle.cap_grammar.specs.declared.symbol.Symbol.{Symbol}
use Rattle.cap_grammar.specs.declared.tree.Place.{Place}
use Rattle.cap_grammar.specs.declared.tree.Script.{Script}
use Rattle.cap_grammar.specs.Scripts.{Mark, symbols, places, IsTextOf}
use Rattle.cap_symbols.specs.Marks.{place_at, StandsFor, AreSymbols}
use Rattle.cap_symbols.proofs.OneText.{one_symbol_list}
use Rattle.cap_lines.specs.Marks.{marks}
use Rattle.cap_lines.proofs.Cuts.{symbols_marks, places_marks}
use Rattle.cap_printer.specs.Printed.{HasText, IsText}
use Rattle.cap_script.specs.Scripts.{end_of, IsParsed}

length_zip : {A B : Type 0} (R : A → B → Type 0) (xs : List A) (ys : List B) → AllZip R xs ys → length xs ≡ length ys
length_zip R [] [] h = refl
length_zip R [] (y ∷ ys) h = absurd h
length_zip R (x ∷ xs) [] h = absurd h
length_zip R (x ∷ xs) (y ∷ ys) h = ap suc (length_zip R xs ys h.1)

pub a_place_each : (bs : List ℕ) (symbols : List Symbol) (places : List Place) → AreSymbols bs symbols places → length symbols ≡ length places
a_place_each bs symbols places are =
    sym (length_zip (StandsFor bs) are.tokens symbols are.stand) ∙ sym (length-map are.tokens (λ t. place_at bs t.start)) ∙ ap length (sym are.begin)

pub text_of_these : (bs : List ℕ) (symbols : List Symbol) (places : List Place) (s : Script) → AreSymbols bs symbols places → IsParsed bs s → IsTextOf s (marks symbols places) (end_of bs)
text_of_these bs symbols places s are parsed =
    let one = one_symbol_list bs parsed.symbols symbols parsed.places places parsed.are are in
    subst (λ ps. IsTextOf s (marks symbols ps) (end_of bs)) one.1 (subst (λ ss. IsTextOf s (marks ss parsed.places) (end_of bs)) one.0 parsed.text)

pub no_bad_byte : (bs : List ℕ) (n : ℕ) (s : Script) → IsBadAt bs n → IsParsed bs s → ⊥
no_bad_byte bs n s bad parsed =
    let le-refl : length bs ≤ length bs = omega arith in
    let all : take (length bs) bs ≡ bs = take_all (length bs) bs le-refl in
    let tokens = parsed.are.tokens in
    let le : length bs ≤ n = (fronts_before_bad_byte bs n bad (length bs) le-refl).0 (tokens, subst (λ l. AreTokens l tokens) (sym all) parsed.are.are) in
    let within : n < length bs = bad.within in
    omega (arith, le, within)

pub text_at : (bs : List ℕ) (symbols : List Symbol) (places : List Place) (s : Script) (ss : List Symbol) (ps : List Place) (end : Place) → ss ≡ symbols → ps ≡ places → end ≡ end_of bs → AreSymbols bs symbols places → IsParsed bs s
    → IsTextOf s (marks ss ps) end
text_at bs symbols places s ss ps end e f g are parsed =
    subst (λ ss. IsTextOf s (marks ss ps) end) (sym e) (subst (λ ps. IsTextOf s (marks symbols ps) end) (sym f) (subst (λ end. IsTextOf s (marks symbols places) end) (sym g) (text_of_these bs symbols places s are parsed)))

marks_again : (ms : List Mark) → marks (symbols ms) (places ms) ≡ ms
marks_again [] = refl
marks_again (m ∷ ms) = ap (λ l. m ∷ l) (marks_again ms)

-- a script that is parsed has a text
pub has_text : (bs : List ℕ) (s : Script) → IsParsed bs s → HasText s
has_text bs s parsed =
    let long : length parsed.symbols ≡ length parsed.places = a_place_each bs parsed.symbols parsed.places parsed.are in
    let are : AreSymbols bs (symbols (marks parsed.symbols parsed.places)) (places (marks parsed.symbols parsed.places)) =
    subst (λ ps. AreSymbols bs (symbols (marks parsed.symbols parsed.places)) ps) (sym (places_marks parsed.symbols parsed.places long)) (subst (λ ss. AreSymbols bs ss parsed.places) (sym (symbols_marks parsed.symbols parsed.places long)) parsed.are)
    in
    (bs, marks parsed.symbols parsed.places, end_of bs, are, parsed.text)

-- a text of a script is parsed as that script
pub is_parsed : (bs : List ℕ) (s : Script) → IsText bs s → IsParsed bs s
is_parsed bs s text = record {
  symbols = symbols text.marks;
  places = places text.marks;
  are = text.are;
  text = subst (λ ms. IsTextOf s ms (end_of bs)) (sym (marks_again text.marks)) (text.text (end_of bs));
}
