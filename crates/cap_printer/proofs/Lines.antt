-- A text of a script has whole lines and no empty ones, and so have its plain symbols.
use Rattle.std.proofs.Common.{◌≡◌, ℕ, zero, suc, List, [], ◌∷◌, ◌++◌, map, Bool, true, false, refl, sym, ap, ◌∙◌, subst}
use Rattle.std.specs.Prelude.{◌&&◌, if◌then◌else◌, slice_range}
use Rattle.std.specs.List.{AllZip}
use Rattle.cap_names.specs.declared.token.Token.{Token}
use Rattle.cap_grammar.specs.declared.symbol.Fixed.TheVariants as word
use Rattle.cap_grammar.specs.declared.symbol.Symbol.{Symbol}
use Rattle.cap_grammar.specs.declared.symbol.Symbol.TheVariants as symbol
use Rattle.cap_grammar.specs.declared.tree.Place.{Place}
use Rattle.cap_grammar.specs.Scripts.{Mark, symbols, is_newline, without_empty_lines, whole_lines}
use Rattle.cap_symbols.specs.Marks.{StandsFor}
use Rattle.cap_spelling.specs.Again.{plain_zero}
use Rattle.cap_spelling.proofs.Plain.{plain_positive}
use Rattle.cap_printer.proofs.Good.{HasToken, Each}

-- whole lines, of which none is empty, from a line's beginning or from within one
abbrev pub Lined : Bool → List Symbol → Type 0
Lined begins [] = begins ≡ true
Lined begins (s ∷ rest) = ((begins && is_newline s) ≡ false) × Lined (is_newline s) rest

abbrev newline : Place → Mark
newline end = record { symbol = symbol.Fixed word.Newline; place = end }

-- What is left of a text without its empty lines.
kept_lined : (begins : Bool) (m : Mark) (rest : List Mark) (c : Bool) → (begins && is_newline m.symbol) ≡ c → Lined true (symbols (without_empty_lines true rest)) → Lined (is_newline m.symbol) (symbols (without_empty_lines (is_newline m.symbol) rest))
    → Lined begins (symbols (if c then without_empty_lines true rest else m ∷ without_empty_lines (is_newline m.symbol) rest))
kept_lined true m rest true h k l = k
kept_lined false m rest true h k l = cc
kept_lined begins m rest false h k l = (h, l)

lined : (begins : Bool) (ms : List Mark) (end : Place) → Lined begins (symbols (without_empty_lines begins (ms ++ newline end ∷ [])))
lined true [] end = refl
lined false [] end = (refl, refl)
lined begins (m ∷ ms) end = kept_lined begins m (ms ++ newline end ∷ []) (begins && is_newline m.symbol) refl (lined true ms end) (lined (is_newline m.symbol) ms end)

pub whole_lined : (ms : List Mark) (end : Place) → Lined true (symbols (whole_lines ms end))
whole_lined ms end = lined true ms end

stays : (begins : Bool) (ms : List Mark) (end : Place) → Lined begins (symbols ms) → without_empty_lines begins (ms ++ newline end ∷ []) ≡ ms
stays true [] end h = refl
stays false [] end h = cc
stays begins (m ∷ ms) end h =
    ap (λ c. if c then without_empty_lines true (ms ++ newline end ∷ []) else m ∷ without_empty_lines (is_newline m.symbol) (ms ++ newline end ∷ [])) h.0 ∙ ap (λ l. m ∷ l) (stays (is_newline m.symbol) ms end h.1)

-- whole lines are those of a text that ends anywhere
pub lined_stays : (ms : List Mark) (end : Place) → Lined true (symbols ms) → whole_lines ms end ≡ ms
lined_stays ms end h = stays true ms end h

-- Plain symbols have the same lines.
same_newline : (s : Symbol) → is_newline (plain_zero s) ≡ is_newline s
same_newline (symbol.Fixed w) = refl
same_newline (symbol.Operation op) = refl
same_newline (symbol.Name n) = refl
same_newline (symbol.Number zero) = refl
same_newline (symbol.Number (suc n)) = ap is_newline (plain_positive n)
same_newline symbol.Nought = refl

pub lined_plain : (begins : Bool) (ss : List Symbol) → Lined begins ss → Lined begins (map plain_zero ss)
lined_plain begins [] h = h
lined_plain begins (s ∷ ss) h = (ap (λ c. begins && c) (same_newline s) ∙ h.0, subst (λ c. Lined c (map plain_zero ss)) (sym (same_newline s)) (lined_plain (is_newline s) ss h.1))

-- Each symbol of a text has a token, and so has each of its whole lines.
pub tokens_stand : (bs : List ℕ) (ts : List Token) (ss : List Symbol) → AllZip (StandsFor bs) ts ss → Each HasToken ss
tokens_stand bs [] [] h = tt
tokens_stand bs [] (s ∷ ss) h = absurd h
tokens_stand bs (t ∷ ts) [] h = tt
tokens_stand bs (t ∷ ts) (s ∷ ss) h = ((slice_range bs t.start t.end, h.0), tokens_stand bs ts ss h.1)

kept_each : (begins : Bool) (m : Mark) (rest : List Mark) (c : Bool) → HasToken m.symbol → Each HasToken (symbols (without_empty_lines true rest)) → Each HasToken (symbols (without_empty_lines (is_newline m.symbol) rest))
    → Each HasToken (symbols (if c then without_empty_lines true rest else m ∷ without_empty_lines (is_newline m.symbol) rest))
kept_each begins m rest true h k l = k
kept_each begins m rest false h k l = (h, l)

each_kept : (begins : Bool) (ms : List Mark) (end : Place) → Each HasToken (symbols ms) → Each HasToken (symbols (without_empty_lines begins (ms ++ newline end ∷ [])))
each_kept true [] end h = tt
each_kept false [] end h = ((10 ∷ [], refl), tt)
each_kept begins (m ∷ ms) end h = kept_each begins m (ms ++ newline end ∷ []) (begins && is_newline m.symbol) h.0 (each_kept true ms end h.1) (each_kept (is_newline m.symbol) ms end h.1)

pub each_whole : (ms : List Mark) (end : Place) → Each HasToken (symbols ms) → Each HasToken (symbols (whole_lines ms end))
each_whole ms end h = each_kept true ms end h
