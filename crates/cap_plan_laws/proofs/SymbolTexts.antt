-- A text stands for each symbol of a parsed script, so the names of categories are names of certificates.
use Rattle.std.proofs.Common.{ℕ, List, [], ◌∷◌, ◌++◌, Bool, true, false, cond, refl, subst}
use Rattle.std.specs.Prelude.{◌&&◌, slice_range}
use Rattle.std.specs.List.{All, AllZip}
use Rattle.std.proofs.lemmas.List.Elements.{All-nil, All-cons, All-head, All-tail, All-append, All-map}
use Rattle.cap_names.specs.declared.token.Token.{Token}
use Rattle.cap_reading.specs.Languages.{each}
use Rattle.cap_grammar.specs.declared.symbol.Fixed.TheVariants as word
use Rattle.cap_grammar.specs.declared.symbol.Symbol.{Symbol}
use Rattle.cap_grammar.specs.declared.symbol.Symbol.TheVariants as symbol
use Rattle.cap_grammar.specs.declared.tree.Place.{Place}
use Rattle.cap_grammar.specs.declared.tree.ObjTok.{ObjTok}
use Rattle.cap_grammar.specs.declared.tree.MorTok.{MorTok}
use Rattle.cap_grammar.specs.declared.tree.Over.{Over}
use Rattle.cap_grammar.specs.declared.tree.Item.{Item}
use Rattle.cap_grammar.specs.declared.tree.Item.TheVariants as top
use Rattle.cap_grammar.specs.declared.tree.Script.{Script}
use Rattle.cap_grammar.specs.Texts.{fixed_text, IsSymbol}
use Rattle.cap_grammar.specs.Grammar.{part}
use Rattle.cap_grammar.specs.Scripts.{Mark, symbols, placed, is_newline, without_empty_lines, whole_lines}
use Rattle.cap_symbols.specs.Marks.{StandsFor}
use Rattle.cap_lines.specs.Marks.{marks}
use Rattle.cap_block_faults.specs.Names.{Part}
use Rattle.cap_script.specs.Scripts.{IsParsed, end_of}
use Rattle.cap_cert.specs.Reading.{IsNameText}
use Rattle.cap_plan_laws.proofs.Fronts.{front_all, rest_all}
use Rattle.cap_plan_laws.proofs.Names.{name_text}

-- some text stands for the symbol
abbrev HasText : Symbol → Type 0
HasText s = (text : List ℕ) × IsSymbol text s

abbrev MarkHasText : Mark → Type 0
MarkHasText m = HasText m.symbol

symbols_have_text : (bs : List ℕ) (tokens : List Token) (ss : List Symbol) → AllZip (StandsFor bs) tokens ss → All HasText ss
symbols_have_text bs [] [] h = All-nil HasText
symbols_have_text bs [] (s ∷ ss) h = absurd h
symbols_have_text bs (t ∷ ts) [] h = absurd h
symbols_have_text bs (t ∷ ts) (s ∷ ss) h = All-cons HasText s ss (slice_range bs t.start t.end, h.0) (symbols_have_text bs ts ss h.1)

marks_have_text : (ss : List Symbol) (ps : List Place) → All HasText ss → All MarkHasText (marks ss ps)
marks_have_text [] ps h = All-nil MarkHasText
marks_have_text (s ∷ ss) [] h = All-nil MarkHasText
marks_have_text (s ∷ ss) (p ∷ ps) h = All-cons MarkHasText (record { symbol = s; place = p }) (marks ss ps) (All-head HasText s ss h) (marks_have_text ss ps (All-tail HasText s ss h))

either_all : (b : Bool) (xs ys : List Mark) → All MarkHasText xs → All MarkHasText ys → All MarkHasText (cond b xs ys)
either_all true xs ys h k = h
either_all false xs ys h k = k

-- leaving out empty lines leaves symbols with texts
lines_have_text : (begins : Bool) (ms : List Mark) → All MarkHasText ms → All MarkHasText (without_empty_lines begins ms)
lines_have_text begins [] h = h
lines_have_text begins (m ∷ ms) h =
    let later : All MarkHasText ms = All-tail MarkHasText m ms h in
    either_all (begins && is_newline m.symbol) (without_empty_lines true ms) (m ∷ without_empty_lines (is_newline m.symbol) ms)
    (lines_have_text true ms later)
    (All-cons MarkHasText m (without_empty_lines (is_newline m.symbol) ms) (All-head MarkHasText m ms h) (lines_have_text (is_newline m.symbol) ms later))

whole_lines_have_text : (ms : List Mark) (end : Place) → All MarkHasText ms → All MarkHasText (whole_lines ms end)
whole_lines_have_text ms end h =
    let last : Mark = record { symbol = symbol.Fixed word.Newline; place = end } in
    lines_have_text true (ms ++ last ∷ []) (All-append MarkHasText ms (last ∷ []) h (All-cons MarkHasText last [] (fixed_text word.Newline, refl) (All-nil MarkHasText)))

-- the name of a category is one of certificates
abbrev pub IsNamed : Item ObjTok MorTok → Type 0
IsNamed (top.Block b) = Unit {0}
IsNamed (top.Category n o) = IsNameText n
IsNamed (top.Command c) = Unit {0}

category_named : (n : List ℕ) (o : Over) (l : List Symbol) → part (top.Category n o) l → All HasText l → IsNameText n
category_named n o l t h =
    let others : All HasText t.rest = rest_all HasText t.front t.rest (subst (All HasText) t.split h) in
    let first : All HasText t.second.front = front_all HasText t.second.front t.second.rest (subst (All HasText) t.second.split others) in
    let it : HasText (symbol.Name n) = All-head HasText (symbol.Name n) [] (subst (All HasText) t.second.first first) in
    name_text n it.0 it.1

item_named : (n : Item ObjTok MorTok) (l : List Symbol) → part n l → All HasText l → IsNamed n
item_named (top.Block b) l t h = tt
item_named (top.Category n o) l t h = category_named n o l t h
item_named (top.Command c) l t h = tt

abbrev IsNamedPart : Part → Type 0
IsNamedPart p = IsNamed p.node

parts_named : (xs : List Part) (ms : List Mark) → each (placed part) xs ms → All MarkHasText ms → All IsNamedPart xs
parts_named [] ms t h = All-nil IsNamedPart
parts_named (x ∷ xs) ms t h =
    let both : All MarkHasText (t.front ++ t.rest) = subst (All MarkHasText) t.split h in
    let own : All HasText (symbols t.front) = All-map HasText (λ m. m.symbol) t.front (front_all MarkHasText t.front t.rest both) in
    All-cons IsNamedPart x xs (item_named x.node (symbols t.front) t.first.0 own) (parts_named xs t.rest t.second (rest_all MarkHasText t.front t.rest both))

pub script_named : (bs : List ℕ) (s : Script) → IsParsed bs s → All (λ (p : Part). IsNamed p.node) s.prelude
script_named bs s is =
    let all : All MarkHasText (whole_lines (marks is.symbols is.places) (end_of bs)) = whole_lines_have_text (marks is.symbols is.places) (end_of bs) (marks_have_text is.symbols is.places (symbols_have_text bs is.are.tokens is.symbols is.are.stand)) in
    parts_named s.prelude is.text.front is.text.first (front_all MarkHasText is.text.front is.text.rest (subst (All MarkHasText) is.text.split all))
