-- The text of a script's symbols is a text of the script, up to its places.
use Rattle.std.proofs.Common.{◌≡◌, ℕ, List, [], ◌∷◌, map, true, refl, sym, subst}
use Rattle.std.specs.List.{AllZip}
use Rattle.cap_names.specs.declared.token.Token.{Token}
use Rattle.cap_names.proofs.Written.{slice_of, written_tokens}
use Rattle.cap_grammar.specs.declared.symbol.Symbol.{Symbol}
use Rattle.cap_grammar.specs.declared.tree.Script.{Script}
use Rattle.cap_grammar.specs.Texts.{IsSymbol}
use Rattle.cap_grammar.specs.Scripts.{Mark, symbols, places, whole_lines, IsScript}
use Rattle.cap_symbols.specs.Marks.{place_at, StandsFor, AreSymbols}
use Rattle.cap_spelling.specs.Again.{plain_zero, IsScriptUpToPlaces}
use Rattle.cap_printer.specs.Texts.{symbol_text, text_of}
use Rattle.cap_printer.specs.Printed.{HasText, IsText, IsPrinted}
use Rattle.cap_printer.proofs.Good.{IsGood, HasToken, Each, each_good}
use Rattle.cap_printer.proofs.Lines.{Lined, whole_lined, lined_stays, lined_plain, tokens_stand, each_whole}
use Rattle.cap_printer.proofs.Spaced.{text_written}

-- symbols with the places of their tokens
record Marked (bs : List ℕ) (ts : List Token) (ss : List Symbol) : Type 0 where
  marks : List Mark
  same : symbols marks ≡ ss
  stand : AllZip (StandsFor bs) ts (symbols marks)
  begin : places marks ≡ map (λ t. place_at bs t.start) ts

marked : (bs : List ℕ) (ts : List Token) (ss : List Symbol) → map (slice_of bs) ts ≡ map symbol_text ss → Each IsGood ss → Marked bs ts ss
marked bs [] [] e h = record { marks = []; same = refl; stand = tt; begin = refl }
marked bs [] (s ∷ ss) e h = cc
marked bs (t ∷ ts) [] e h = cc
marked bs (t ∷ ts) (s ∷ ss) e h =
    let own : slice_of bs t ≡ symbol_text s = cc in
    let more : map (slice_of bs) ts ≡ map symbol_text ss = cc in
    let rest = marked bs ts ss more h.1 in
    record {
      marks = record { symbol = s; place = place_at bs t.start } ∷ rest.marks;
      same = λ i. s ∷ rest.same i;
      stand = (subst (λ l. IsSymbol l s) (sym own) h.0, rest.stand);
      begin = λ i. place_at bs t.start ∷ rest.begin i;
    }

is_text : (bs : List ℕ) (marks : List Mark) (t : Script) → AreSymbols bs (symbols marks) (places marks) → Lined true (symbols marks) → IsScript t marks → IsText bs t
is_text bs marks t are lines is = record { marks = marks; are = are; lines = is; text = λ end. subst (IsScript t) (sym (lined_stays marks end lines)) is }

pub printed : (s : Script) (ss : List Symbol) → HasText s → ((marks : List Mark) → IsScript s marks → ss ≡ map plain_zero (symbols marks))
    → ((own : List Mark) → IsScript s own → (marks : List Mark) → symbols marks ≡ ss → IsScriptUpToPlaces s marks) → IsPrinted s (text_of ss)
printed s ss has text again =
    let own : List Mark = whole_lines has.1 has.2 in
    let is : IsScript s own = has.4 in
    let plain = text own is in
    let tokens : Each HasToken (symbols own) = each_whole has.1 has.2 (tokens_stand has.0 has.3.tokens (symbols has.1) has.3.stand) in
    let good : Each IsGood ss = subst (Each IsGood) (sym plain) (each_good (symbols own) tokens) in
    let lines : Lined true ss = subst (Lined true) (sym plain) (lined_plain true (symbols own) (whole_lined has.1 has.2)) in
    let written = written_tokens (text_of ss) (map symbol_text ss) (text_written ss good lines) in
    let m = marked (text_of ss) written.0 ss written.2 good in
    let found = again own is m.marks m.same in (
      found.0,
      is_text (text_of ss) m.marks found.0 (record { tokens = written.0; are = written.1; stand = m.stand; begin = m.begin }) (subst (Lined true) (sym m.same) lines) found.1,
      found.2,
    )
