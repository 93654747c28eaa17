-- The checked form of a script without faults fits.
use Rattle.std.proofs.Common.{◌≡◌, ℕ, ◌-◌, List, [], ◌∷◌, ◌++◌, length, map, Bool, false, None, ap, sym, ◌∙◌, subst, arith}
use Rattle.std.specs.Prelude.{nat_le}
use Rattle.std.specs.List.{All, list_any}
use Rattle.std.specs.Cmp.Lexicographic.{bytes_decides}
use Rattle.std.proofs.lemmas.List.{length-map}
use Rattle.std.proofs.lemmas.List.Elements.{All-map}
use Rattle.cap_names.specs.declared.reasons.Reason.TheVariants.{Taken}
use Rattle.cap_grammar.specs.declared.tree.ObjTok.{ObjTok}
use Rattle.cap_grammar.specs.declared.tree.MorTok.{MorTok}
use Rattle.cap_grammar.specs.declared.tree.Over.{Over}
use Rattle.cap_grammar.specs.declared.tree.Over.TheVariants.{Vec, Add, Freyd, Rep}
use Rattle.cap_grammar.specs.declared.tree.Item.{Item}
use Rattle.cap_grammar.specs.declared.tree.Item.TheVariants as top
use Rattle.cap_grammar.specs.declared.tree.Script.{Script}
use Rattle.cap_block_faults.specs.Names.{Part, same, has_category, is_category_named, over_in, found}
use Rattle.cap_faults.specs.Commands.{scope, command_marks}
use Rattle.cap_faults.specs.Scripts.{item_marks, values_behind, bound_by_part, bound_by_command, SessionCommand, Session, is_session, commands_left, IsSound}
use Rattle.cap_checked.specs.Checked.{parts_behind, placed_command, node, checked_of}
use Rattle.cap_checked.specs.Checked as checked
use Rattle.cap_sound.specs.Given.{IsGiven}
use Rattle.cap_sound.specs.Forms.{ItemFits}
use Rattle.cap_sound.specs.Forms as sound_forms
use Rattle.cap_sound.proofs.Faults.{AllFree, untold}
use Rattle.cap_sound.proofs.Fit.{all_fits}
use Rattle.cap_check.specs.Unbuilt.{CheckedPart}
use Rattle.cap_fitting.specs.Values.{values_of_parts, values_of_commands}
use Rattle.cap_fitting.specs.Categories.{category_over}
use Rattle.cap_fitting.specs.Commands.{Scope, CommandFits}
use Rattle.cap_fitting.specs.Given.{IsWritten, IsWrittenItem, scope_of}
use Rattle.cap_fitting.specs.Forms.{CheckedCommand, CheckedSession, behind_parts, behind_commands, OverFits, PartFits, SessionFits, FormFits}
use Rattle.cap_fitting.specs.Laws.{FormsFit}
use Rattle.cap_fitting.proofs.Lists.{made_of, none_found, each_fails}
use Rattle.cap_fitting.proofs.Texts.{part_written, session_text, command_written_at}
use Rattle.cap_fitting.proofs.Checked.{part_at, same_over, same_number, same_length, same_blocks, same_values, same_command_values, same_fits}
use Rattle.cap_fitting.proofs.Marks.{command_fits}
use Rattle.cap_fitting.proofs.Free.{session_scope, part_free, session_free}
use Rattle.cap_fitting.proofs.Limits.{categories_few, sessions_few, same_commands}

-- scopes are the same where all that they say is
one_scope : (s t : Scope) → ((name : List ℕ) → s.over name ≡ t.over name) → s.values ≡ t.values → s.own ≡ t.own → s ≡ t
one_scope s t over values own = λ i. record { over = λ name. over name i; values = values i; own = own i }

pub prelude_scope : (full : Bool) (before : List Part) → behind_parts (parts_behind [] before) ≡ scope_of (scope full before (length (values_behind bound_by_part [] before)) (values_behind bound_by_part [] before))
prelude_scope full before = one_scope _ _ (same_over [] before) (same_values before) (ap length (same_values before))

same_session_values : (parts : List Part) (before : List SessionCommand) → values_of_commands (values_of_parts (parts_behind [] parts)) (map (placed_command parts) before) ≡ values_behind bound_by_command (values_behind bound_by_part [] parts) before
same_session_values parts before =
    ap (λ outer. values_of_commands outer (map (placed_command parts) before)) (same_values parts) ∙ same_command_values (values_behind bound_by_part [] parts) parts before

pub sessions_scope : (left : ℕ) (parts : List Part) (before : List SessionCommand) → behind_commands (parts_behind [] parts) (map (placed_command parts) before) ≡ scope_of (session_scope left parts before)
sessions_scope left parts before =
    one_scope _ _ (same_over [] parts) (same_session_values parts before)
    (λ i. length (same_session_values parts before i) - length (same_values parts i))

-- parts
over_fits : (before : List Part) (over : Over) → sound_forms.OverFits before over → OverFits (parts_behind [] before) over
over_fits before (Vec prime) h = h
over_fits before (Add block) h = same_blocks [] before block ∙ h
over_fits before (Freyd block) h = same_blocks [] before block ∙ h
over_fits before (Rep block) h = same_blocks [] before block ∙ h

new_category : (before : List Part) (name : List ℕ) → has_category before name ≡ false → category_over (parts_behind [] before) name ≡ None
new_category before name e = same_over [] before name ∙ ap (found over_in None) (none_found (is_category_named name) before e)

item_fits : (full : Bool) (before : List Part) (n : Item ObjTok MorTok) → IsWrittenItem n → ItemFits before n → AllFree (item_marks full before (values_behind bound_by_part [] before) n) → PartFits (parts_behind [] before) (node before n)
item_fits full before (top.Block b) w h f = tt
item_fits full before (top.Category n over) w h f = record { new = new_category before n h.new; fits = over_fits before over h.fits }
item_fits full before (top.Command c) w h f =
    let values = values_behind bound_by_part [] before in
    subst (λ s. CommandFits s (checked.command before c)) (sym (prelude_scope full before))
    (same_fits (scope_of (scope full before (length values) values)) before c (command_fits (scope full before (length values) values) c w f))

part_fits : (s : Script) → IsGiven s → IsSound s → (before behind : List CheckedPart) (p : CheckedPart) → parts_behind [] s.prelude ≡ before ++ (p ∷ behind) → PartFits before p.node
part_fits s given sound before behind p e =
    let at = part_at [] s.prelude before behind p e in
    let fits : PartFits (parts_behind [] at.front) (node at.front at.one.node) =
    item_fits (nat_le 4096 (length at.front)) at.front at.one.node (part_written s given at.front at.rest at.one at.whole) ((all_fits s given sound).prelude at.front at.rest at.one at.whole) (part_free s given sound at.front at.rest at.one at.whole)
    in
    subst (λ before. PartFits before p.node) (sym at.same_front) (subst (λ q. PartFits (parts_behind [] at.front) q.node) (sym at.same) fits)

-- sessions
differs : (a b : List ℕ) → same a b ≡ false → a ≡ b → ⊥
differs a b e eq = let t = (bytes_decides a b).1 eq in cc

new_session : (parts : List Part) (before : List Session) (name : List ℕ) → list_any (is_session name) before ≡ false → All (λ (x : CheckedSession). x.node.name ≡ name → ⊥) (map (checked.session parts) before)
new_session parts before name e =
    All-map (λ (x : CheckedSession). x.node.name ≡ name → ⊥) (checked.session parts) before
    (λ i d lt. differs _ name (each_fails (is_session name) before e i d lt))

command_fits_at : (s : Script) (left : ℕ) (before : List SessionCommand) (c : SessionCommand) → IsWritten c.node → AllFree (command_marks (session_scope left s.prelude before) c.node)
    → CommandFits (behind_commands (parts_behind [] s.prelude) (map (placed_command s.prelude) before)) (checked.command s.prelude c.node)
command_fits_at s left before c w f =
    let sc = session_scope left s.prelude before in
    subst (λ t. CommandFits t (checked.command s.prelude c.node)) (sym (sessions_scope left s.prelude before)) (same_fits (scope_of sc) s.prelude c.node (command_fits sc c.node w f))

session_command_fits : (s : Script) (left : ℕ) (all : List SessionCommand) → ((before behind : List SessionCommand) (c : SessionCommand) → all ≡ before ++ (c ∷ behind) → IsWritten c.node × AllFree (command_marks (session_scope left s.prelude before) c.node))
    → (before behind : List CheckedCommand) (c : CheckedCommand) → map (placed_command s.prelude) all ≡ before ++ (c ∷ behind) → CommandFits (behind_commands (parts_behind [] s.prelude) before) c.node
session_command_fits s left all holds before behind c e =
    let at = made_of (placed_command s.prelude) all before behind c e in
    let own = holds at.front at.rest at.one at.whole in
    subst (λ before. CommandFits (behind_commands (parts_behind [] s.prelude) before) c.node) (sym at.same_front)
    (subst (λ (d : CheckedCommand). CommandFits (behind_commands (parts_behind [] s.prelude) (map (placed_command s.prelude) at.front)) d.node) (sym at.same) (command_fits_at s left at.front at.one own.0 own.1))

session_fits : (s : Script) → IsGiven s → IsSound s → (before behind : List CheckedSession) (x : CheckedSession) → map (checked.session s.prelude) s.sessions ≡ before ++ (x ∷ behind) → SessionFits (parts_behind [] s.prelude) before x.node
session_fits s given sound before behind x e =
    let at = made_of (checked.session s.prelude) s.sessions before behind x e in
    let free = session_free s given sound at.front at.rest at.one at.whole in
    let text = session_text s given at.front at.rest at.one at.whole in
    let fits : SessionFits (parts_behind [] s.prelude) (map (checked.session s.prelude) at.front) (checked.session s.prelude at.one).node = record {
      new = new_session s.prelude at.front at.one.node.name (untold (list_any (is_session at.one.node.name) at.front) Taken free.first.1.0);
      commands = session_command_fits s (commands_left s.prelude at.front) at.one.node.commands
          (λ earlier later c f. (command_written_at at.one text earlier later c f, free.commands earlier later c f));
    }
    in
    subst (λ before. SessionFits (parts_behind [] s.prelude) before x.node) (sym at.same_front)
    (subst (λ (y : CheckedSession). SessionFits (parts_behind [] s.prelude) (map (checked.session s.prelude) at.front) y.node) (sym at.same) fits)

pub script_fits : (s : Script) → IsGiven s → IsSound s → FormFits (checked_of s)
script_fits s given sound =
    let few = sessions_few s given sound in
    let parts = same_length [] s.prelude in
    let commands = same_commands s.prelude s.sessions in
    let many = same_number [] s.prelude in
    let categories = categories_few s given sound in
    let sessions = length-map s.sessions (checked.session s.prelude) in
    record {
      parts = part_fits s given sound;
      sessions = session_fits s given sound;
      few_commands = omega (arith, few.commands, parts, commands);
      few_sessions = omega (arith, few.sessions, sessions);
      few_categories = omega (arith, many, categories);
    }

pub forms_fit : FormsFit
forms_fit form is = subst FormFits (sym is.formed) (script_fits is.script is.given is.sound)
