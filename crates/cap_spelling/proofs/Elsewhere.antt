-- The plain symbols of a script, wherever they stand, are a text of its nodes.
use Rattle.std.proofs.Common.{◌≡◌, ℕ, List, [], ◌∷◌, ◌++◌, map, refl, sym, ap, ◌∙◌, subst}
use Rattle.std.specs.List.{flat_map}
use Rattle.std.proofs.lemmas.List.{map-append}
use Rattle.cap_reading.specs.Languages.{◌·◌, each}
use Rattle.cap_grammar.specs.declared.symbol.Fixed.TheVariants as word
use Rattle.cap_grammar.specs.declared.symbol.Symbol.{Symbol}
use Rattle.cap_grammar.specs.declared.symbol.Symbol.TheVariants as symbol
use Rattle.cap_grammar.specs.declared.tree.ObjTok.{ObjTok}
use Rattle.cap_grammar.specs.declared.tree.MorTok.{MorTok}
use Rattle.cap_grammar.specs.declared.tree.Placed.{Placed}
use Rattle.cap_grammar.specs.declared.tree.SessionPart.{SessionPart}
use Rattle.cap_grammar.specs.declared.tree.Script.{Script}
use Rattle.cap_grammar.specs.Grammar.{fixed, name, command, part}
use Rattle.cap_grammar.specs.Scripts.{Mark, symbols, places, placed, IsSession, IsScript}
use Rattle.cap_spelling.specs.Spelling.{command_symbols, part_of_script_symbols, session_symbols, script_symbols, end_symbols}
use Rattle.cap_spelling.specs.Again.{bare_session, IsScriptUpToPlaces, plain_zero}
use Rattle.cap_spelling.proofs.Plain.{Plain, plain_fixed, plain_name, plain_joined}
use Rattle.cap_spelling.proofs.Productions.{plain_command, plain_part_of_script}

-- the plain symbols of marks
abbrev plain : List Mark → List Symbol
plain marks = map plain_zero (symbols marks)

plain_append : (x y : List Mark) (k l : List Symbol) → k ≡ plain x → l ≡ plain y → k ++ l ≡ plain (x ++ y)
plain_append x y k l e f = (λ i. e i ++ f i) ∙ sym (ap (map plain_zero) (map-append (λ m. m.symbol) x y) ∙ map-append plain_zero (symbols x) (symbols y))

-- the marks whose symbols are those of x and y are such marks of x and of y
record Cut (x y others : List Mark) : Type 0 where
  front : List Mark
  rest : List Mark
  split : others ≡ front ++ rest
  first : symbols front ≡ plain x
  second : symbols rest ≡ plain y

cut : (x y others : List Mark) → symbols others ≡ plain (x ++ y) → Cut x y others
cut [] y others e = record { front = []; rest = others; split = refl; first = refl; second = e }
cut (m ∷ x) y [] e = cc
cut (m ∷ x) y (n ∷ others) e =
    let c = cut x y others cc in
    let same : n.symbol ≡ plain_zero m.symbol = cc in
    record { front = n ∷ c.front; rest = c.rest; split = ap (λ l. n ∷ l) c.split; first = λ i. same i ∷ c.first i; second = c.second }

no_marks : (others : List Mark) → symbols others ≡ [] → others ≡ []
no_marks [] e = refl
no_marks (m ∷ ms) e = cc

-- The text of a production elsewhere.
elsewhere : {p : List Symbol → Type 0} {x : List Symbol} → Plain p x → (marks others : List Mark) → p (symbols marks) → symbols others ≡ plain marks → p (symbols others)
elsewhere {p} own marks others h e = subst p (own.same (symbols marks) h ∙ sym e) (own.found (symbols marks) h)

-- Lists of nodes elsewhere.
each_again : {A B : Type 0} (q : A → List Mark → Type 0) (bare : A → B)
    → ((a : A) (marks others : List Mark) → q a marks → symbols others ≡ plain marks → (b : A) × q b others × (bare b ≡ bare a))
    → (them : List A) (marks others : List Mark) → each q them marks → symbols others ≡ plain marks → (bs : List A) × each q bs others × (map bare bs ≡ map bare them)
each_again q bare h [] marks others j e = ([], no_marks others (e ∙ ap plain j), refl)
each_again q bare h (a ∷ them) marks others j e =
    let c = cut j.front j.rest others (e ∙ ap plain j.split) in
    let b = h a j.front c.front j.first c.first in
    let bs = each_again q bare h them j.rest c.rest j.second c.second in
    (b.0 ∷ bs.0, record { front = c.front; rest = c.rest; split = c.split; first = b.1; second = bs.1 }, λ i. b.2 i ∷ bs.2 i)

placed_again : {A : Type 0} (p : A → List Symbol → Type 0) (f : A → List Symbol) → ((a : A) → Plain (p a) (f a))
    → (a : Placed A) (marks others : List Mark) → placed p a marks → symbols others ≡ plain marks → (b : Placed A) × placed p b others × (b.node ≡ a.node)
placed_again p f h a marks others j e = (record { node = a.node; places = places others }, (elsewhere (h a.node) marks others j.0 e, refl), refl)

abbrev first_line : List ℕ → List Symbol
first_line n = symbol.Fixed word.Session ∷ symbol.Name n ∷ symbol.Fixed word.Newline ∷ []

plain_first : (n : List ℕ) → Plain (fixed word.Session · name n · fixed word.Newline) (first_line n)
plain_first n = plain_joined (plain_fixed word.Session) (plain_joined (plain_name n) (plain_fixed word.Newline))

plain_last : Plain (fixed word.End · fixed word.Newline) end_symbols
plain_last = plain_joined (plain_fixed word.End) (plain_fixed word.Newline)

session_again : (s : Placed (SessionPart ObjTok MorTok)) (marks others : List Mark) → IsSession s marks → symbols others ≡ plain marks → (t : Placed (SessionPart ObjTok MorTok)) × IsSession t others × (bare_session t ≡ bare_session s)
session_again s marks others j e =
    let c = cut (j.first ++ j.inner) j.last others (e ∙ ap plain j.whole) in
    let d = cut j.first j.inner c.front c.first in
    let cs = each_again (placed command) (λ c. c.node) (placed_again command command_symbols plain_command) s.node.commands j.inner d.rest j.commands d.second in (
      record { node = record { name = s.node.name; commands = cs.0 }; places = places (d.front ++ c.rest) },
      record {
        first = d.front;
        inner = d.rest;
        last = c.rest;
        whole = c.split ∙ ap (λ l. l ++ c.rest) d.split;
        begins = elsewhere (plain_first s.node.name) j.first d.front j.begins d.first;
        commands = cs.1;
        ends = elsewhere plain_last j.last c.rest j.ends c.second;
        kept = refl;
      },
      λ i. (s.node.name, cs.2 i),
    )

pub script_again : (s : Script) (marks others : List Mark) → IsScript s marks → symbols others ≡ plain marks → IsScriptUpToPlaces s others
script_again s marks others j e =
    let c = cut j.front j.rest others (e ∙ ap plain j.split) in
    let ps = each_again (placed part) (λ p. p.node) (placed_again part part_of_script_symbols plain_part_of_script) s.prelude j.front c.front j.first c.first in
    let ss = each_again IsSession bare_session session_again s.sessions j.rest c.rest j.second c.second in (
      record { prelude = ps.0; sessions = ss.0 },
      record { front = c.front; rest = c.rest; split = c.split; first = ps.1; second = ss.1 },
      record { prelude = ps.2; sessions = ss.2 },
    )

-- The symbols that the tree spells are the plain ones of its text.
each_same : {A : Type 0} (q : A → List Mark → Type 0) (f : A → List Symbol) → ((a : A) (marks : List Mark) → q a marks → f a ≡ plain marks) → (them : List A) (marks : List Mark) → each q them marks → flat_map f them ≡ plain marks
each_same q f h [] marks j = ap plain (sym j)
each_same q f h (a ∷ them) marks j = plain_append j.front j.rest (f a) (flat_map f them) (h a j.front j.first) (each_same q f h them j.rest j.second) ∙ ap plain (sym j.split)

session_same : (s : Placed (SessionPart ObjTok MorTok)) (marks : List Mark) → IsSession s marks → session_symbols s.node ≡ plain marks
session_same s marks j =
    let inner = each_same (placed command) (λ c. command_symbols c.node) (λ c marks k. (plain_command c.node).same (symbols marks) k.0) s.node.commands j.inner j.commands in
    let first = (plain_first s.node.name).same (symbols j.first) j.begins in
    let last = plain_last.same (symbols j.last) j.ends in
    plain_append (j.first ++ j.inner) j.last (first_line s.node.name ++ flat_map (λ c. command_symbols c.node) s.node.commands) end_symbols
    (plain_append j.first j.inner (first_line s.node.name) (flat_map (λ c. command_symbols c.node) s.node.commands) first inner) last
    ∙ ap plain (sym j.whole)

pub script_same : (s : Script) (marks : List Mark) → IsScript s marks → script_symbols s ≡ plain marks
script_same s marks j =
    let prelude = each_same (placed part) (λ p. part_of_script_symbols p.node) (λ p marks k. (plain_part_of_script p.node).same (symbols marks) k.0) s.prelude j.front j.first in
    let sessions = each_same IsSession (λ p. session_symbols p.node) session_same s.sessions j.rest j.second in
    plain_append j.front j.rest (flat_map (λ p. part_of_script_symbols p.node) s.prelude) (flat_map (λ p. session_symbols p.node) s.sessions) prelude sessions ∙ ap plain (sym j.split)
