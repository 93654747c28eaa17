-- Scripts of marks: they are whole lines, and their places may be exchanged.
use Rattle.std.proofs.Common.{◌≡◌, List, [], ◌∷◌, ◌++◌, true, refl, sym, ap, ◌∙◌, subst}
use Rattle.cap_reading.specs.Languages.{◌·◌, each}
use Rattle.cap_grammar.specs.declared.symbol.Fixed.TheVariants as word
use Rattle.cap_grammar.specs.declared.symbol.Symbol.{Symbol}
use Rattle.cap_grammar.specs.declared.tree.Placed.{Placed}
use Rattle.cap_grammar.specs.declared.tree.ObjTok.{ObjTok}
use Rattle.cap_grammar.specs.declared.tree.MorTok.{MorTok}
use Rattle.cap_grammar.specs.declared.tree.SessionPart.{SessionPart}
use Rattle.cap_grammar.specs.declared.tree.Script.{Script}
use Rattle.cap_grammar.specs.Grammar.{fixed, name, command, part}
use Rattle.cap_grammar.specs.Scripts.{Mark, symbols, places, placed, IsSession, IsScript}
use Rattle.cap_lines.proofs.Cuts.{Cut, cut_symbols, symbols_append}
use Rattle.cap_lines.proofs.Kept.{Runs, runs_append}
use Rattle.cap_lines.proofs.Runs.{◌⊳◌, begin, end_run, name_run, command_run, part_run}

-- whole lines, none of them empty
abbrev pub Lined : List Mark → Type 0
Lined ms = Runs true (symbols ms) true

lined_append : (p q : List Mark) → Lined p → Lined q → Lined (p ++ q)
lined_append p q h k = subst (λ l. Runs true l true) (sym (symbols_append p q)) (runs_append true true true (symbols p) (symbols q) h k)

lined_each : {A : Type 0} (p : A → List Mark → Type 0) → ((a : A) (ms : List Mark) → p a ms → Lined ms) → (xs : List A) (ms : List Mark) → each p xs ms → Lined ms
lined_each p f [] ms h = subst Lined (sym h) refl
lined_each p f (a ∷ xs) ms h = subst Lined (sym h.split) (lined_append h.front h.rest (f a h.front h.first) (lined_each p f xs h.rest h.second))

lined_session : (s : Placed (SessionPart ObjTok MorTok)) (ms : List Mark) → IsSession s ms → Lined ms
lined_session s ms h =
    subst Lined (sym h.whole)
    (lined_append (h.first ++ h.inner) h.last
    (lined_append h.first h.inner
    ((begin word.Session refl ⊳ name_run s.node.name ⊳ end_run) (symbols h.first) h.begins)
    (lined_each (placed command) (λ c ms k. command_run c.node (symbols ms) k.0) s.node.commands h.inner h.commands))
    ((begin word.End refl ⊳ end_run) (symbols h.last) h.ends))

pub lined_script : (s : Script) (ms : List Mark) → IsScript s ms → Lined ms
lined_script s ms h =
    subst Lined (sym h.split)
    (lined_append h.front h.rest
    (lined_each (placed part) (λ i ms k. part_run i.node (symbols ms) k.0) s.prelude h.front h.first)
    (lined_each IsSession lined_session s.sessions h.rest h.second))

-- Other marks of the same symbols are those of some value too.
abbrev Free : {A : Type 0} → (A → List Mark → Type 0) → Type 0
Free {A} p = (a : A) (ms ms' : List Mark) → p a ms → symbols ms ≡ symbols ms' → (a' : A) × p a' ms'

free_placed : {A : Type 0} (text : A → List Symbol → Type 0) → Free (placed text)
free_placed text a ms ms' h e = (record { node = a.node; places = places ms' }, (subst (text a.node) e h.0, refl))

no_symbols : (ms : List Mark) → [] ≡ symbols ms → ms ≡ []
no_symbols [] e = refl
no_symbols (m ∷ ms) e = cc

cut_by : (p q ms ms' : List Mark) → ms ≡ p ++ q → symbols ms ≡ symbols ms' → Cut (symbols p) (symbols q) ms'
cut_by p q ms ms' split e = cut_symbols (symbols p) (symbols q) ms' (sym e ∙ ap symbols split ∙ symbols_append p q)

free_each : {A : Type 0} (p : A → List Mark → Type 0) → Free p → Free (each p)
free_each p f [] ms ms' h e = ([], no_symbols ms' (ap symbols (sym h) ∙ e))
free_each p f (a ∷ xs) ms ms' h e =
    let c = cut_by h.front h.rest ms ms' h.split e in
    let x = f a h.front c.front h.first (sym c.first) in
    let y = free_each p f xs h.rest c.rest h.second (sym c.second) in
    (x.0 ∷ y.0, record { front = c.front; rest = c.rest; split = c.split; first = x.1; second = y.1 })

free_session : Free IsSession
free_session s ms ms' h e =
    let c = cut_by (h.first ++ h.inner) h.last ms ms' h.whole e in
    let d = cut_by h.first h.inner (h.first ++ h.inner) c.front refl (sym c.first) in
    let cs = free_each (placed command) (free_placed command) s.node.commands h.inner d.rest h.commands (sym d.second) in (
      record { node = record { name = s.node.name; commands = cs.0 }; places = places (d.front ++ c.rest) },
      record {
        first = d.front;
        inner = d.rest;
        last = c.rest;
        whole = c.split ∙ ap (λ l. l ++ c.rest) d.split;
        begins = subst (λ l. (fixed word.Session · name s.node.name · fixed word.Newline) l) (sym d.first) h.begins;
        commands = cs.1;
        ends = subst (λ l. (fixed word.End · fixed word.Newline) l) (sym c.second) h.ends;
        kept = refl;
      },
    )

pub free_script : (s : Script) (ms ms' : List Mark) → IsScript s ms → symbols ms ≡ symbols ms' → (s' : Script) × IsScript s' ms'
free_script s ms ms' h e =
    let c = cut_by h.front h.rest ms ms' h.split e in
    let x = free_each (placed part) (free_placed part) s.prelude h.front c.front h.first (sym c.first) in
    let y = free_each IsSession free_session s.sessions h.rest c.rest h.second (sym c.second) in
    (record { prelude = x.0; sessions = y.0 }, record { front = c.front; rest = c.rest; split = c.split; first = x.1; second = y.1 })
