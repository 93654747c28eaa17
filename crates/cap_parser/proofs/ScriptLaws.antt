-- Scripts of marks are read as the grammar says.
use Rattle.std.proofs.Common.{◌≡◌, ℕ, ◌-◌, ◌<◌, ◌≤◌, List, [], ◌∷◌, ◌++◌, length, take, drop, Bool, Result, Ok, Err, refl, sym, ap, ◌∙◌, subst, append_assoc, arith}
use Rattle.std.proofs.lemmas.List.{append-nil, length-drop}
use Rattle.cap_reading.specs.declared.fault.ReadError.{ReadError}
use Rattle.cap_reading.specs.declared.fault.ReadError.TheVariants as errors
use Rattle.cap_reading.specs.Languages.{◌·◌, made, each, just, nothing}
use Rattle.cap_reading.specs.Steps.{Read, ◌>>=◌, mapped, both, begins, ends, whole}
use Rattle.cap_reading.specs.Reading.{Fails}
use Rattle.cap_reading.proofs.Law.{Law, Leads, Apart, Starts, never, one_of, law_as, law_goes, starts_more, bind_to, bind_fails}
use Rattle.cap_reading.proofs.Items.{law_mapped, law_gives}
use Rattle.cap_reading.proofs.Sequences.{law_then, law_both, leads_apart}
use Rattle.cap_reading.proofs.Repetitions.{law_many, each_stops}
use Rattle.cap_reading.proofs.Choices.{from_made}
use Rattle.cap_grammar.specs.declared.symbol.Fixed.TheVariants as word
use Rattle.cap_grammar.specs.declared.symbol.Symbol.{Symbol}
use Rattle.cap_grammar.specs.declared.tree.Place.{Place}
use Rattle.cap_grammar.specs.declared.tree.Placed.{Placed}
use Rattle.cap_grammar.specs.declared.tree.ObjTok.{ObjTok}
use Rattle.cap_grammar.specs.declared.tree.MorTok.{MorTok}
use Rattle.cap_grammar.specs.declared.tree.Item.{Item}
use Rattle.cap_grammar.specs.declared.tree.Command.{Command}
use Rattle.cap_grammar.specs.declared.tree.SessionPart.{SessionPart}
use Rattle.cap_grammar.specs.Grammar.{fixed, name, command, part}
use Rattle.cap_grammar.specs.Scripts.{Mark, symbols, places, placed, IsSession, IsScript}
use Rattle.cap_lines.specs.Marks.{marks, placed_at}
use Rattle.cap_lines.proofs.Cuts.{places_append, length_marks}
use Rattle.cap_lines.proofs.Placing.{law_placed, leads_placed, placed_marks, fails_marks, rest_shorter}
use Rattle.cap_literals.specs.Reading.{is}
use Rattle.cap_literals.proofs.Symbols.{apart, law_behind, law_up_to, leads_fixed, fixed_begins}
use Rattle.cap_literals.proofs.Laws.{law_name}
use Rattle.cap_parser.specs.Commands.{starts_command}
use Rattle.cap_parser.specs.Blocks.{starts_part}
use Rattle.cap_parser.specs.Scripts.{session_head_at, session_end_at, mark_starts, item_at, placed_command_at, commands_at, new_session, session_at, items_at, sessions_at, new_script, script_at, MarksFail}
use Rattle.cap_parser.proofs.CommandLaws.{law_command, command_begins}
use Rattle.cap_parser.proofs.BlockLaws.{law_part, part_begins}

-- nodes with their places
pub law_item : Law item_at (placed part) never
unfolding item_at
law_item = law_placed law_part

pub item_begins : Leads (mark_starts starts_part) (placed part)
item_begins = leads_placed starts_part part part_begins

pub law_placed_command : Law placed_command_at (placed command) never
unfolding placed_command_at
law_placed_command = law_placed law_command

pub placed_command_begins : Leads (mark_starts starts_command) (placed command)
placed_command_begins = leads_placed starts_command command command_begins

never_apart : (is : Mark → Bool) → Apart is never
never_apart is t h = refl

abbrev commands_longer : Mark → Bool
commands_longer = one_of (mark_starts starts_command) never

pub law_commands : Law commands_at (each (placed command)) commands_longer
unfolding commands_at
law_commands = law_many (mark_starts starts_command) law_placed_command placed_command_begins (never_apart (mark_starts starts_command))

-- "session" NAME LF
abbrev pub head_text : List ℕ → List Symbol → Type 0
head_text n = fixed word.Session · name n · fixed word.Newline

pub law_session_head : Law session_head_at head_text never
unfolding session_head_at
law_session_head = law_behind word.Session (law_up_to word.Newline refl law_name)

-- "end" LF
abbrev pub end_text : Unit {0} → List Symbol → Type 0
end_text u = fixed word.End · fixed word.Newline

end_to : (u : Unit {0}) (l : List Symbol) → (fixed word.End · fixed word.Newline · just tt nothing u) l → end_text u l
end_to u l h = record {
  front = h.front;
  rest = h.rest;
  split = h.split;
  first = h.first;
  second = subst (fixed word.Newline) (sym (h.second.split ∙ ap (λ k. h.second.front ++ k) h.second.second.1 ∙ append-nil h.second.front)) h.second.first;
}

end_from : (u : Unit {0}) (l : List Symbol) → end_text u l → (fixed word.End · fixed word.Newline · just tt nothing u) l
end_from u l h = record {
  front = h.front;
  rest = h.rest;
  split = h.split;
  first = h.first;
  second = record { front = h.rest; rest = []; split = sym (append-nil h.rest); first = h.second; second = (refl, refl) };
}

pub law_session_end : Law session_end_at end_text never
unfolding session_end_at
law_session_end = law_as end_text end_to end_from (law_behind word.End (law_behind word.Newline (law_gives tt)))

end_begins : Leads (mark_starts (is word.End)) (placed end_text)
end_begins = leads_placed (is word.End) end_text (leads_fixed word.End (λ u. fixed word.Newline))

end_apart : Apart (mark_starts (is word.End)) commands_longer
end_apart m h = apart word.End (one_of starts_command never) refl m.symbol h

-- a session
abbrev session_text : Placed (List ℕ) × (List (Placed (Command ObjTok MorTok)) × Placed (Unit {0})) → List Mark → Type 0
session_text x = placed head_text x.0 · each (placed command) x.1.0 · placed end_text x.1.1

session_to : (x : Placed (List ℕ) × (List (Placed (Command ObjTok MorTok)) × Placed (Unit {0}))) (l : List Mark) → session_text x l → IsSession (new_session x) l
session_to x l h = record {
  first = h.front;
  inner = h.second.front;
  last = h.second.rest;
  whole = h.split ∙ ap (λ k. h.front ++ k) h.second.split ∙ sym (append_assoc h.front h.second.front h.second.rest);
  begins = h.first.0;
  commands = h.second.first;
  ends = h.second.second.0;
  kept = (λ i. h.first.1 i ++ h.second.second.1 i) ∙ sym (places_append h.front h.second.rest);
}

session_from : (s : Placed (SessionPart ObjTok MorTok)) (l : List Mark) → IsSession s l → made new_session session_text s l
session_from s l h =
    let x : Placed (List ℕ) × (List (Placed (Command ObjTok MorTok)) × Placed (Unit {0})) = (record { node = s.node.name; places = places h.first }, (s.node.commands, record { node = tt; places = places h.last })) in (
      x,
      (λ i. record { node = s.node; places = (sym (places_append h.first h.last) ∙ sym h.kept) i }),
      record {
        front = h.first;
        rest = h.inner ++ h.last;
        split = h.whole ∙ append_assoc h.first h.inner h.last;
        first = (h.begins, refl);
        second = record { front = h.inner; rest = h.last; split = refl; first = h.commands; second = (h.ends, refl) };
      },
    )

pub law_session : Law session_at IsSession never
unfolding session_at
law_session =
    law_as IsSession (from_made IsSession session_to) session_from
    (law_mapped new_session
    (law_then (law_placed law_session_head)
    (law_both law_commands (law_placed law_session_end)
    (λ b l rest h st. leads_apart (mark_starts (is word.End)) commands_longer (placed end_text) end_apart end_begins b l rest h))))

starts_symbols : (is : Symbol → Bool) (ms : List Mark) → Starts is (symbols ms) → Starts (mark_starts is) ms
starts_symbols is [] h = h
starts_symbols is (m ∷ ms) h = h

pub session_begins : Leads (mark_starts (is word.Session)) IsSession
session_begins s l h =
    subst (Starts (mark_starts (is word.Session))) (sym (h.whole ∙ append_assoc h.first h.inner h.last))
    (starts_more (mark_starts (is word.Session)) h.first (h.inner ++ h.last)
    (starts_symbols (is word.Session) h.first (fixed_begins word.Session (name s.node.name · fixed word.Newline) (symbols h.first) h.begins)))

-- a script
abbrev items_longer : Mark → Bool
items_longer = one_of (mark_starts starts_part) never

pub law_items : Law items_at (each (placed part)) items_longer
unfolding items_at
law_items = law_many (mark_starts starts_part) law_item item_begins (never_apart (mark_starts starts_part))

session_apart : Apart (mark_starts (is word.Session)) items_longer
session_apart m h = apart word.Session (one_of starts_part never) refl m.symbol h

law_session_before : Law session_at IsSession items_longer
law_session_before = law_goes items_longer (λ t h. refl) law_session

abbrev pub script_longer : Mark → Bool
script_longer = one_of (mark_starts (is word.Session)) items_longer

pub law_sessions : Law sessions_at (each IsSession) script_longer
unfolding sessions_at
law_sessions = law_many (mark_starts (is word.Session)) law_session_before session_begins session_apart

abbrev script_text : List (Placed (Item ObjTok MorTok)) × List (Placed (SessionPart ObjTok MorTok)) → List Mark → Type 0
script_text x = each (placed part) x.0 · each IsSession x.1

pub law_script : Law script_at IsScript script_longer
unfolding script_at
law_script =
    law_as IsScript (from_made IsScript (λ x l h. h)) (λ s l h. ((s.prelude, s.sessions), refl, h))
    (law_mapped new_script
    (law_both law_items law_sessions (λ b l rest h st. each_stops (mark_starts (is word.Session)) law_session_before session_begins session_apart b l rest h st)))

-- Marks of slices.
pub begins_marks : (is : Symbol → Bool) (ss : List Symbol) (ps : List Place) → length ss ≡ length ps → begins (mark_starts is) (marks ss ps) ≡ begins is ss
begins_marks is [] ps h = refl
begins_marks is (s ∷ ss) [] h = absurd (omega arith)
begins_marks is (s ∷ ss) (p ∷ ps) h = refl

-- A fault of a part is the fault of the whole.
pub marks_fail_so : {A B : Type 0} (e : ReadError Symbol) (read : Result A (List Mark)) (total : Result B (List Mark)) → ((rest : List Mark) → read ≡ Err rest → total ≡ Err rest) → MarksFail e read → MarksFail e total
marks_fail_so errors.Memory read total f h = tt
marks_fail_so (errors.Syntax rest) read total f h = (h.0, f h.0 h.1, h.2)

pub mapped_fails : {S A B : Type 0} (f : A → B) (r : List S → Read S A) (ts rest : List S) → r ts ≡ Err rest → mapped f r ts ≡ Err rest
mapped_fails f r ts rest h = bind_fails (r ts) (λ x. Ok (f x.0, x.1)) rest h

pub mapped_reads : {S A B : Type 0} (f : A → B) (r : List S → Read S A) (ts : List S) (x : A × List S) → r ts ≡ Ok x → mapped f r ts ≡ Ok (f x.0, x.1)
mapped_reads f r ts x h = bind_to (r ts) (λ x. Ok (f x.0, x.1)) x h

pub both_fails : {S A B : Type 0} (r : List S → Read S A) (s : List S → Read S B) (ts rest : List S) → r ts ≡ Err rest → both r s ts ≡ Err rest
both_fails r s ts rest h = bind_fails (r ts) (λ x. (s x.1 >>= λ y. Ok ((x.0, y.0), y.1))) rest h

pub both_second : {S A B : Type 0} (r : List S → Read S A) (s : List S → Read S B) (ts : List S) (x : A × List S) (rest : List S) → r ts ≡ Ok x → s x.1 ≡ Err rest → both r s ts ≡ Err rest
both_second r s ts x rest h k = bind_to (r ts) (λ x. (s x.1 >>= λ y. Ok ((x.0, y.0), y.1))) x h ∙ bind_fails (s x.1) (λ y. Ok ((x.0, y.0), y.1)) rest k

pub both_reads : {S A B : Type 0} (r : List S → Read S A) (s : List S → Read S B) (ts : List S) (x : A × List S) (y : B × List S) → r ts ≡ Ok x → s x.1 ≡ Ok y → both r s ts ≡ Ok ((x.0, y.0), y.1)
both_reads r s ts x y h k = bind_to (r ts) (λ x. (s x.1 >>= λ y. Ok ((x.0, y.0), y.1))) x h ∙ bind_to (s x.1) (λ y. Ok ((x.0, y.0), y.1)) y k

-- What is read of a node's symbols and places.
module _ {A : Type 0} {r : List Symbol → Read Symbol A} {p : A → List Symbol → Type 0} {goes : Symbol → Bool} (law : Law r p goes) where
  pub node_reads : (ss : List Symbol) (ps : List Place) (a : A) (l : List Symbol) (n : ℕ) (node : Placed A) (others : List Place) → length ss ≡ length ps → r ss ≡ Ok (a, l) → n ≡ length ss - length l
      → node.node ≡ a → node.places ≡ take n ps → others ≡ drop n ps → placed_at r (marks ss ps) ≡ Ok (node, marks l others)
  node_reads ss ps a l n node others same h en e1 e2 e3 =
      placed_marks law ss ps a l same h
      ∙ (λ i. Ok (record { node = sym e1 i; places = (ap (λ k. take k ps) (sym en) ∙ sym e2) i }, marks l ((ap (λ k. drop k ps) (sym en) ∙ sym e3) i)))

  pub node_lengths : (ss : List Symbol) (ps : List Place) (a : A) (l : List Symbol) (n : ℕ) (others : List Place) → length ss ≡ length ps → r ss ≡ Ok (a, l) → n ≡ length ss - length l → others ≡ drop n ps → length l ≡ length others
  node_lengths ss ps a l n others same h en e =
      let k : length others ≡ length (drop n ps) = ap length e in
      omega (arith, k, length-drop n ps, rest_shorter law ss a l h, same, en)

  pub node_fails : (e : ReadError Symbol) (ss : List Symbol) (ps : List Place) → length ss ≡ length ps → Fails e (r ss) → MarksFail e (placed_at r (marks ss ps))
  node_fails errors.Memory ss ps same h = tt
  node_fails (errors.Syntax rest) ss ps same h = fails_marks law ss ps rest.now same h

-- what is left of the marks is shorter, so what is left of the symbols is
pub shorter_marks : (ss ss' : List Symbol) (ps ps' : List Place) → length ss ≡ length ps → length ss' ≡ length ps' → length (marks ss' ps') < length (marks ss ps) → length ss' < length ss
shorter_marks ss ss' ps ps' same same' lt = omega (arith, length_marks ss ps same, length_marks ss' ps' same', lt)

-- The end of a whole script.
pub ends_here : {A : Type 0} (a : A) (ss : List Symbol) (ps : List Place) → length ss ≤ 0 → ends a (marks ss ps) ≡ Ok a
ends_here a [] ps le = refl
ends_here a (s ∷ ss) ps le = absurd (omega arith)

pub ends_before : {A : Type 0} (a : A) (ss : List Symbol) (ps : List Place) → length ss ≡ length ps → 1 ≤ length ss → ends a (marks ss ps) ≡ Err (marks ss ps)
ends_before a [] ps same le = absurd (omega arith)
ends_before a (s ∷ ss) [] same le = absurd (omega arith)
ends_before a (s ∷ ss) (p ∷ ps) same le = refl

pub whole_fails : {S A : Type 0} (r : List S → Read S A) (ts rest : List S) → r ts ≡ Err rest → whole r ts ≡ Err rest
whole_fails r ts rest h = bind_fails (r ts) (λ x. ends x.0 x.1) rest h

pub whole_reads : {S A : Type 0} (r : List S → Read S A) (ts : List S) (x : A × List S) → r ts ≡ Ok x → whole r ts ≡ ends x.0 x.1
whole_reads r ts x h = bind_to (r ts) (λ x. ends x.0 x.1) x h
