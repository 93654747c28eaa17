-- A script of some text without faults: no number is clamped, and its dimensions are at most 2,048.
use Rattle.std.proofs.Common.{◌≡◌, refl, ℕ, suc, ◌-◌, List, [], ◌∷◌, ◌++◌, length, map, take, ap, sym, ◌∙◌, subst, arith, append_assoc, append-nil, Some, None, Bool}
use Rattle.std.specs.Prelude.{nat_le}
use Rattle.std.specs.List.{flat_map}
use Rattle.cap_names.specs.declared.literals.MorLit.{MorLit}
use Rattle.cap_reading.specs.Languages.{each}
use Rattle.cap_grammar.specs.declared.tree.ObjTok.{ObjTok}
use Rattle.cap_grammar.specs.declared.tree.MorTok.{MorTok}
use Rattle.cap_grammar.specs.declared.tree.Item.{Item}
use Rattle.cap_grammar.specs.declared.tree.Item.TheVariants as top
use Rattle.cap_grammar.specs.declared.tree.Command.{Command}
use Rattle.cap_grammar.specs.declared.tree.Placed.{Placed}
use Rattle.cap_grammar.specs.declared.tree.SessionPart.{SessionPart}
use Rattle.cap_grammar.specs.declared.tree.Script.{Script}
use Rattle.cap_grammar.specs.Grammar.{command, part}
use Rattle.cap_grammar.specs.Scripts.{symbols, placed, IsSession}
use Rattle.cap_grammar.specs.Scripts as grammar
use Rattle.cap_block_faults.specs.Marks.{Mark, each_from}
use Rattle.cap_block_faults.specs.Names.{Part}
use Rattle.cap_faults.specs.declared.values.Value.{Value}
use Rattle.cap_faults.specs.Commands.{scope}
use Rattle.cap_faults.specs.Scripts.{item_marks, values_behind, bound_by_part, bound_by_command, SessionCommand, Session, session_marks, commands_left, IsSound}
use Rattle.cap_checked.specs.declared.tree.CheckedObj.{CheckedObj}
use Rattle.cap_checked.specs.declared.tree.Checked.{Checked}
use Rattle.cap_checked.specs.Checked.{checked_of}
use Rattle.cap_checked.specs.Checked as checked
use Rattle.cap_sound.specs.Given.{IsGiven}
use Rattle.cap_sound.specs.Marked.{marks_of_part, marks_of_command, marks_of_session, script_marks, told_reasons}
use Rattle.cap_sound.specs.Plain.{plainly_checked}
use Rattle.cap_sound.specs.Plain as plain
use Rattle.cap_sound.specs.Dimensions.{command_dimensions, item_dimensions, script_dimensions}
use Rattle.cap_sound.specs.Laws.{NoNumberIsClamped, DimensionsAreRanged}
use Rattle.cap_sound.proofs.Faults.{AllFree, free_front, free_rest}
use Rattle.cap_sound.proofs.Symbols.{AllShort, marks_front, marks_rest, lined}
use Rattle.cap_sound.proofs.Sizes.{IsSmall, block_small, AreSmall, small_more}
use Rattle.cap_sound.proofs.Dimensions.{AreDims, dims_all, dims_append, command_sized, item_sized}
use Rattle.cap_sound.proofs.Clamps.{command_plain, node_plain}
use Rattle.cap_sound.proofs.Told.{every_mark_is_told, reasons}

item_small : (full : Bool) (parts : List Part) (values : List Value) (n : Item ObjTok MorTok) → AllFree (item_marks full parts values n) → IsSmall n
item_small full parts values (top.Block b) f = block_small _ parts b f
item_small full parts values (top.Category n o) f = record { objects = omega arith; names = omega arith }
item_small full parts values (top.Command c) f = record { objects = omega arith; names = omega arith }

-- parts behind others
pub record Parts (before xs : List Part) : Type 0 where
  pub same : checked.parts_behind before xs ≡ plain.parts_behind before xs
  pub small : AreSmall (before ++ xs)
  pub dims : AreDims (flat_map (λ p. item_dimensions p.node) xs)

parts_clear : (all : List Part) (i : ℕ) (before xs : List Part) (text : List grammar.Mark) → each (placed part) xs text → AllShort (symbols text) → AllFree (each_from (marks_of_part all) i xs) → AreSmall before → Parts before xs
parts_clear all i before [] text t h f small = record { same = refl; small = subst AreSmall (sym (append-nil before)) small; dims = tt }
parts_clear all i before (x ∷ xs) text t h f small =
    let marks = marks_of_part all i x in
    let here = free_front marks (each_from (marks_of_part all) (suc i) xs) f in
    let full = nat_le 4096 i in
    let values = values_behind bound_by_part [] (take i all) in
    let d = item_sized full (take i all) values x.node here in
    let s = item_small full (take i all) values x.node here in
    let n = node_plain before small x.node (symbols t.front) t.first.0 (marks_front text t.front t.rest t.split h) d in
    let more = parts_clear all (suc i) (before ++ x ∷ []) xs t.rest t.second (marks_rest text t.front t.rest t.split h) (free_rest marks (each_from (marks_of_part all) (suc i) xs) f) (small_more before x small s) in
    record {
      same = ap (λ z. let made : Placed (Item CheckedObj MorLit) = record { node = z; places = x.places } in made ∷ checked.parts_behind (before ++ x ∷ []) xs) n ∙ ap (λ l. plain.part before x ∷ l) more.same;
      small = subst AreSmall (append_assoc before (x ∷ []) xs) more.small;
      dims = dims_append (item_dimensions x.node) (flat_map (λ p. item_dimensions p.node) xs) d more.dims;
    }

-- commands of a session
pub record Commands (parts : List Part) (xs : List SessionCommand) : Type 0 where
  pub same : map (checked.placed_command parts) xs ≡ map (plain.placed_command parts) xs
  pub dims : AreDims (flat_map (λ c. command_dimensions c.node) xs)

commands_clear : (left : ℕ) (parts : List Part) (outer : List Value) (all : List SessionCommand) (i : ℕ) (xs : List SessionCommand) (text : List grammar.Mark) → each (placed command) xs text → AllShort (symbols text) → AllFree (each_from (marks_of_command left parts outer all) i xs) → AreSmall parts → Commands parts xs
commands_clear left parts outer all i [] text t h f small = record { same = refl; dims = tt }
commands_clear left parts outer all i (x ∷ xs) text t h f small =
    let marks = marks_of_command left parts outer all i x in
    let values = values_behind bound_by_command outer (take i all) in
    let here = free_front marks (each_from (marks_of_command left parts outer all) (suc i) xs) f in
    let d = command_sized (scope (nat_le left i) parts (length values - length outer) values) x.node here in
    let n = command_plain parts small x.node (symbols t.front) t.first.0 (marks_front text t.front t.rest t.split h) d in
    let more = commands_clear left parts outer all (suc i) xs t.rest t.second (marks_rest text t.front t.rest t.split h) (free_rest marks (each_from (marks_of_command left parts outer all) (suc i) xs) f) small in
    record {
      same = ap (λ z. let made : Placed (Command CheckedObj MorLit) = record { node = z; places = x.places } in made ∷ map (checked.placed_command parts) xs) n ∙ ap (λ l. plain.placed_command parts x ∷ l) more.same;
      dims = dims_append (command_dimensions x.node) (flat_map (λ c. command_dimensions c.node) xs) d more.dims;
    }

-- sessions behind the prelude
pub record Sessions (parts : List Part) (xs : List Session) : Type 0 where
  pub same : map (checked.session parts) xs ≡ map (plain.session parts) xs
  pub dims : AreDims (flat_map (λ x. flat_map (λ c. command_dimensions c.node) x.node.commands) xs)

sessions_clear : (parts : List Part) (outer : List Value) (all : List Session) (i : ℕ) (xs : List Session) (text : List grammar.Mark) → each IsSession xs text → AllShort (symbols text) → AllFree (each_from (marks_of_session parts outer all) i xs) → AreSmall parts → Sessions parts xs
sessions_clear parts outer all i [] text t h f small = record { same = refl; dims = tt }
sessions_clear parts outer all i (x ∷ xs) text t h f small =
    let left = commands_left parts (take i all) in
    let here = free_front (marks_of_session parts outer all i x) (each_from (marks_of_session parts outer all) (suc i) xs) f in
    let own = free_rest (session_marks (take i all) i x.node.name) (each_from (marks_of_command left parts outer x.node.commands) 0 x.node.commands) here in
    let s = t.first in
    let short = marks_rest (s.first ++ s.inner) s.first s.inner refl (marks_front t.front (s.first ++ s.inner) s.last s.whole (marks_front text t.front t.rest t.split h)) in
    let c = commands_clear left parts outer x.node.commands 0 x.node.commands s.inner s.commands short own small in
    let more = sessions_clear parts outer all (suc i) xs t.rest t.second (marks_rest text t.front t.rest t.split h) (free_rest (marks_of_session parts outer all i x) (each_from (marks_of_session parts outer all) (suc i) xs) f) small in
    record {
      same = ap (λ z. let made : Placed (SessionPart CheckedObj MorLit) = record { node = record { name = x.node.name; commands = z }; places = x.places } in made ∷ map (checked.session parts) xs) c.same
          ∙ ap (λ l. plain.session parts x ∷ l) more.same;
      dims = dims_append (flat_map (λ c. command_dimensions c.node) x.node.commands) (flat_map (λ x. flat_map (λ c. command_dimensions c.node) x.node.commands) xs) c.dims more.dims;
    }

-- all marks are free
none_told : (ms : List Mark) → told_reasons ms ≡ [] → AllFree ms
none_told [] e = tt
none_told (None ∷ ms) e = (refl, none_told ms e)
none_told (Some r ∷ ms) e = absurd (let n = ap length e in omega (arith, n))

pub marks_free : (s : Script) → IsGiven s → IsSound s → AllFree (script_marks s)
marks_free s given sound = none_told (script_marks s) (sym (every_mark_is_told s given) ∙ ap reasons sound)

pub record Clear (s : Script) : Type 0 where
  pub parts : Parts [] s.prelude
  pub sessions : Sessions s.prelude s.sessions

clear : (s : Script) → IsGiven s → IsSound s → Clear s
clear s given sound =
    let text = lined s given in
    let outer = values_behind bound_by_part [] s.prelude in
    let free = marks_free s given sound in
    let j = text.is in
    let p = parts_clear s.prelude 0 [] s.prelude j.front j.first (marks_front text.text j.front j.rest j.split text.short) (free_front (each_from (marks_of_part s.prelude) 0 s.prelude) (each_from (marks_of_session s.prelude outer s.sessions) 0 s.sessions) free) tt in
    record {
      parts = p;
      sessions = sessions_clear s.prelude outer s.sessions 0 s.sessions j.rest j.second (marks_rest text.text j.front j.rest j.split text.short) (free_rest (each_from (marks_of_part s.prelude) 0 s.prelude) (each_from (marks_of_session s.prelude outer s.sessions) 0 s.sessions) free) p.small;
    }

pub no_number_is_clamped : NoNumberIsClamped
no_number_is_clamped s given sound =
    let c = clear s given sound in
    ap (λ l. let made : Checked = record { prelude = l; sessions = map (checked.session s.prelude) s.sessions } in made) c.parts.same
    ∙ ap (λ l. let made : Checked = record { prelude = plain.parts_behind [] s.prelude; sessions = l } in made) c.sessions.same

pub dimensions_are_ranged : DimensionsAreRanged
dimensions_are_ranged s given sound =
    let c = clear s given sound in
    dims_all (script_dimensions s) (dims_append (flat_map (λ p. item_dimensions p.node) s.prelude) (flat_map (λ x. flat_map (λ c. command_dimensions c.node) x.node.commands) s.sessions) c.parts.dims c.sessions.dims)
