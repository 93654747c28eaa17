-- The text of a run: the prelude's lines, then each session's name and lines. A session starts with what the prelude ended with.
use Rattle.std.specs.Prelude.{ℕ, List, [], ◌∷◌, ◌++◌, codes, zip}
use Rattle.cap_names.specs.declared.literals.MorLit.{MorLit}
use Rattle.cap_grammar.specs.declared.tree.Command.{Command}
use Rattle.cap_grammar.specs.declared.tree.Item.{Item}
use Rattle.cap_grammar.specs.declared.tree.Placed.{Placed}
use Rattle.cap_grammar.specs.declared.tree.SessionPart.{SessionPart}
use Rattle.cap_checked.specs.declared.tree.CheckedObj.{CheckedObj}
use Rattle.cap_checked.specs.declared.tree.Checked.{Checked}
use Rattle.cap_data.specs.declared.data.ObjData.{ObjData}
use Rattle.cap_data.specs.declared.data.MorData.{MorData}
use Rattle.cap_report.specs.declared.report.Done.{Done}
use Rattle.cap_report.specs.declared.report.History.{History}
use Rattle.cap_report.specs.declared.report.Report.{Report}
use Rattle.cap_report.specs.declared.report.Trace.{Trace}
use Rattle.cap_top_text.specs.declared.book.Book.{Book}
use Rattle.cap_top_text.specs.Lines.{item_text, behind_item, command_text, behind_command}

abbrev pub Part : Type 0
Part = Placed (Item CheckedObj MorLit)

abbrev pub SessionCommand : Type 0
SessionCommand = Placed (Command CheckedObj MorLit)

abbrev pub Session : Type 0
Session = Placed (SessionPart CheckedObj MorLit)

-- before any line
abbrev pub empty_book : Book
empty_book = record { made = []; bound = []; seen = [] }

-- what stands behind parts of a prelude with their answers
abbrev pub behind_parts : Book → List (Part × Done MorData) → Book
behind_parts B [] = B
behind_parts B (x ∷ xs) = behind_parts (behind_item B x.0.node x.1.answer) xs

module _ (histories : List (History ObjData MorData)) where
  -- the lines of parts of a prelude with their answers, in order
  abbrev pub parts_text : Book → List (Part × Done MorData) → List ℕ
  parts_text B [] = []
  parts_text B (x ∷ xs) = item_text histories B x.0.node x.1.answer ++ parts_text (behind_item B x.0.node x.1.answer) xs

  -- commands of a session with their answers
  abbrev pub commands_text : Book → List (SessionCommand × Done MorData) → List ℕ
  commands_text B [] = []
  commands_text B (x ∷ xs) = command_text histories B x.0.node x.1.answer ++ commands_text (behind_command B x.0.node x.1.answer) xs

  -- a session: its name, and its lines
  abbrev pub session_text : Book → SessionPart CheckedObj MorLit → List (Done MorData) → List ℕ
  session_text B s done = codes "session " ++ s.name ++ codes "\n" ++ commands_text B (zip s.commands done)

  abbrev pub sessions_text : Book → List (Session × Trace ObjData MorData) → List ℕ
  sessions_text B [] = []
  sessions_text B (x ∷ xs) = session_text B x.0.node x.1.done ++ sessions_text B xs

  abbrev pub run_text : Checked → List (Trace ObjData MorData) → List ℕ
  run_text script [] = []
  run_text script (prelude ∷ sessions) =
      parts_text empty_book (zip script.prelude prelude.done) ++ sessions_text (behind_parts empty_book (zip script.prelude prelude.done)) (zip script.sessions sessions)

-- the text of a report for its script
abbrev pub report_text : Checked → Report ObjData MorData → List ℕ
report_text script r = run_text r.histories script r.traces
