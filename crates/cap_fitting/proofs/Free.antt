-- The marks of a script without faults are free, each where its part or command stands.
use Rattle.std.proofs.Common.{◌≡◌, ℕ, suc, ◌+◌, ◌-◌, List, [], ◌∷◌, ◌++◌, length, take, ap, ◌∙◌, subst, arith}
use Rattle.std.specs.Prelude.{nat_le}
use Rattle.std.proofs.Math.Seq.{take-append_seam}
use Rattle.cap_grammar.specs.declared.tree.Script.{Script}
use Rattle.cap_block_faults.specs.Marks.{Mark, each_from}
use Rattle.cap_block_faults.specs.Names.{Part}
use Rattle.cap_faults.specs.Commands.{scope, command_marks}
use Rattle.cap_faults.specs.Commands as given
use Rattle.cap_faults.specs.Scripts.{item_marks, values_behind, bound_by_part, bound_by_command, SessionCommand, Session, session_marks, commands_left, IsSound}
use Rattle.cap_sound.specs.Given.{IsGiven}
use Rattle.cap_sound.specs.Marked.{marks_of_part, marks_of_command, marks_of_session}
use Rattle.cap_sound.proofs.Faults.{AllFree, free_front, free_rest}
use Rattle.cap_sound.proofs.Sound.{marks_free}

free_from : {A : Type 0} (has : ℕ → A → List Mark) (i : ℕ) (before behind : List A) (x : A) → AllFree (each_from has i (before ++ (x ∷ behind))) → AllFree (has (i + length before) x)
free_from has i [] behind x f = let n : i ≡ i + 0 = omega arith in subst (λ k. AllFree (has k x)) n (free_front (has i x) (each_from has (suc i) behind) f)
free_from has i (y ∷ before) behind x f =
    let n : suc i + length before ≡ i + length (y ∷ before) = omega arith in
    subst (λ k. AllFree (has k x)) n (free_from has (suc i) before behind x (free_rest (has i y) (each_from has (suc i) (before ++ (x ∷ behind))) f))

-- the marks of one among all
free_at : {A : Type 0} (has : ℕ → A → List Mark) (all before behind : List A) (x : A) → all ≡ before ++ (x ∷ behind) → AllFree (each_from has 0 all) → AllFree (has (length before) x)
free_at has all before behind x e f =
    let n : 0 + length before ≡ length before = omega arith in
    subst (λ k. AllFree (has k x)) n (free_from has 0 before behind x (subst (λ xs. AllFree (each_from has 0 xs)) e f))

front_is : {A : Type 0} (all before behind : List A) (x : A) → all ≡ before ++ (x ∷ behind) → take (length before) all ≡ before
front_is all before behind x e = ap (take (length before)) e ∙ take-append_seam before (x ∷ behind)

-- the scope of a session's command, where so many commands may still come
abbrev pub session_scope : ℕ → List Part → List SessionCommand → given.Scope
session_scope left parts before =
    let outer = values_behind bound_by_part [] parts in
    scope (nat_le left (length before)) parts (length (values_behind bound_by_command outer before) - length outer) (values_behind bound_by_command outer before)

pub part_free : (s : Script) → IsGiven s → IsSound s → (before behind : List Part) (p : Part) → s.prelude ≡ before ++ (p ∷ behind) → AllFree (item_marks (nat_le 4096 (length before)) before (values_behind bound_by_part [] before) p.node)
part_free s given sound before behind p e =
    let outer = values_behind bound_by_part [] s.prelude in
    let all = free_front (each_from (marks_of_part s.prelude) 0 s.prelude) (each_from (marks_of_session s.prelude outer s.sessions) 0 s.sessions) (marks_free s given sound) in
    subst (λ xs. AllFree (item_marks (nat_le 4096 (length before)) xs (values_behind bound_by_part [] xs) p.node)) (front_is s.prelude before behind p e) (free_at (marks_of_part s.prelude) s.prelude before behind p e all)

-- a session's own marks, and those of its commands
pub record SessionFree (s : Script) (before : List Session) (x : Session) : Type 0 where
  pub first : AllFree (session_marks before (length before) x.node.name)
  pub commands : (earlier behind : List SessionCommand) (c : SessionCommand) → x.node.commands ≡ earlier ++ (c ∷ behind) → AllFree (command_marks (session_scope (commands_left s.prelude before) s.prelude earlier) c.node)

command_free : (left : ℕ) (parts : List Part) (all earlier behind : List SessionCommand) (c : SessionCommand) → all ≡ earlier ++ (c ∷ behind)
    → AllFree (each_from (marks_of_command left parts (values_behind bound_by_part [] parts) all) 0 all) → AllFree (command_marks (session_scope left parts earlier) c.node)
command_free left parts all earlier behind c e f =
    let outer = values_behind bound_by_part [] parts in
    subst (λ xs. AllFree (command_marks (scope (nat_le left (length earlier)) parts (length (values_behind bound_by_command outer xs) - length outer) (values_behind bound_by_command outer xs)) c.node))
    (front_is all earlier behind c e) (free_at (marks_of_command left parts outer all) all earlier behind c e f)

session_parts : (s : Script) (before : List Session) (x : Session)
    → AllFree (session_marks before (length before) x.node.name ++ each_from (marks_of_command (commands_left s.prelude before) s.prelude (values_behind bound_by_part [] s.prelude) x.node.commands) 0 x.node.commands)
    → SessionFree s before x
session_parts s before x f =
    let first = session_marks before (length before) x.node.name in
    let left = commands_left s.prelude before in
    let own = each_from (marks_of_command left s.prelude (values_behind bound_by_part [] s.prelude) x.node.commands) 0 x.node.commands in
    record {
      first = free_front first own f;
      commands = λ earlier behind c e. command_free left s.prelude x.node.commands earlier behind c e (free_rest first own f);
    }

pub session_free : (s : Script) → IsGiven s → IsSound s → (before behind : List Session) (x : Session) → s.sessions ≡ before ++ (x ∷ behind) → SessionFree s before x
session_free s given sound before behind x e =
    let outer = values_behind bound_by_part [] s.prelude in
    let all = free_rest (each_from (marks_of_part s.prelude) 0 s.prelude) (each_from (marks_of_session s.prelude outer s.sessions) 0 s.sessions) (marks_free s given sound) in
    session_parts s before x
    (subst (λ xs. AllFree (session_marks xs (length before) x.node.name ++ each_from (marks_of_command (commands_left s.prelude xs) s.prelude outer x.node.commands) 0 x.node.commands))
    (front_is s.sessions before behind x e) (free_at (marks_of_session s.prelude outer s.sessions) s.sessions before behind x e all))
