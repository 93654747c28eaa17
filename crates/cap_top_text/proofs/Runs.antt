-- One more part of a prelude, command of a session, and session, over plain variables.
use Rattle.std.proofs.Common.{◌≡◌, ℕ, ◌+◌, List, ◌++◌, drop, ap, ◌∙◌, sym}
use Rattle.std.specs.Prelude.{zip}
use Rattle.cap_data.specs.declared.data.ObjData.{ObjData}
use Rattle.cap_data.specs.declared.data.MorData.{MorData}
use Rattle.cap_report.specs.declared.report.Done.{Done}
use Rattle.cap_report.specs.declared.report.History.{History}
use Rattle.cap_report.specs.declared.report.Trace.{Trace}
use Rattle.cap_top_text.specs.declared.book.Book.{Book}
use Rattle.cap_top_text.specs.Lines.{item_text, behind_item, command_text, behind_command}
use Rattle.cap_top_text.specs.Text.{Part, SessionCommand, Session, parts_text, behind_parts, commands_text, session_text, sessions_text}
use Rattle.cap_top_text.proofs.Steps.{Turn, written, pairs_more}

pub more_behind : (B after total : Book) (parts : List Part) (done : List (Done MorData)) (i j : ℕ) (part : Part) (one : Done MorData) → j ≡ i + 1 → Turn parts done i part one
    → behind_parts B (drop i (zip parts done)) ≡ total → after ≡ behind_item B part.node one.answer → behind_parts after (drop j (zip parts done)) ≡ total
more_behind B after total parts done i j part one next turn told behind =
    ap (λ b. behind_parts b (drop j (zip parts done))) behind ∙ ap (behind_parts B) (sym (pairs_more parts done i j part one next turn)) ∙ told

module _ (histories : List (History ObjData MorData)) where
  pub more_parts : (B after : Book) (out new total : List ℕ) (parts : List Part) (done : List (Done MorData)) (i j : ℕ) (part : Part) (one : Done MorData) → j ≡ i + 1 → Turn parts done i part one
      → out ++ parts_text histories B (drop i (zip parts done)) ≡ total → new ≡ out ++ item_text histories B part.node one.answer → after ≡ behind_item B part.node one.answer
      → new ++ parts_text histories after (drop j (zip parts done)) ≡ total
  more_parts B after out new total parts done i j part one next turn told grown behind =
      written out new total (item_text histories B part.node one.answer) (parts_text histories after (drop j (zip parts done))) (parts_text histories B (drop i (zip parts done))) told grown
      (ap (parts_text histories B) (pairs_more parts done i j part one next turn)
      ∙ ap (λ b. item_text histories B part.node one.answer ++ parts_text histories b (drop j (zip parts done))) (sym behind))

  pub more_commands : (B after : Book) (out new total : List ℕ) (commands : List SessionCommand) (done : List (Done MorData)) (i j : ℕ) (command : SessionCommand) (one : Done MorData) → j ≡ i + 1 → Turn commands done i command one
      → out ++ commands_text histories B (drop i (zip commands done)) ≡ total → new ≡ out ++ command_text histories B command.node one.answer → after ≡ behind_command B command.node one.answer
      → new ++ commands_text histories after (drop j (zip commands done)) ≡ total
  more_commands B after out new total commands done i j command one next turn told grown behind =
      written out new total (command_text histories B command.node one.answer) (commands_text histories after (drop j (zip commands done))) (commands_text histories B (drop i (zip commands done))) told grown
      (ap (commands_text histories B) (pairs_more commands done i j command one next turn)
      ∙ ap (λ b. command_text histories B command.node one.answer ++ commands_text histories b (drop j (zip commands done))) (sym behind))

  pub more_sessions : (B : Book) (out new total : List ℕ) (sessions : List Session) (traces : List (Trace ObjData MorData)) (i j : ℕ) (session : Session) (trace : Trace ObjData MorData) → j ≡ i + 1 → Turn sessions traces i session trace
      → out ++ sessions_text histories B (drop i (zip sessions traces)) ≡ total → new ≡ out ++ session_text histories B session.node trace.done
      → new ++ sessions_text histories B (drop j (zip sessions traces)) ≡ total
  more_sessions B out new total sessions traces i j session trace next turn told grown =
      written out new total (session_text histories B session.node trace.done) (sessions_text histories B (drop j (zip sessions traces))) (sessions_text histories B (drop i (zip sessions traces))) told grown
      (ap (sessions_text histories B) (pairs_more sessions traces i j session trace next turn))
