-- The lines of a command whose category is known, over plain variables.
use Rattle.std.proofs.Common.{◌≡◌, ℕ, List, ◌++◌, Some, ap, ◌∙◌, sym, append_assoc}
use Rattle.cap_names.specs.declared.literals.MorLit.{MorLit}
use Rattle.cap_grammar.specs.declared.tree.Command.{Command}
use Rattle.cap_checked.specs.declared.tree.CheckedObj.{CheckedObj}
use Rattle.cap_data.specs.declared.data.ObjData.{ObjData}
use Rattle.cap_data.specs.declared.data.MorData.{MorData}
use Rattle.cap_history.specs.Reading.{objects}
use Rattle.cap_report.specs.declared.lines.LineAnswer.{LineAnswer}
use Rattle.cap_report.specs.declared.report.History.{History}
use Rattle.cap_report.specs.Histories.{history_of}
use Rattle.cap_top_text.specs.declared.book.Book.{Book}
use Rattle.cap_top_text.specs.declared.home.Home.{Home}
use Rattle.cap_top_text.specs.Numbers.{Seen}
use Rattle.cap_top_text.specs.Values.{mentions, new_objects, seen_behind}
use Rattle.cap_top_text.specs.Lines.{OfData, home_of, home_name, subject, answer_line, written_in, text_in, command_text}

module _ (B : Book) (c : Command CheckedObj MorLit) (answer : LineAnswer MorData) (name : List ℕ) (known : home_name B.bound c ≡ Some name) (C : Home) (home : C ≡ home_of B.made name) (after : Seen) (seen : after ≡ seen_behind C B.seen (mentions answer)) where
  pub command_written : (histories : List (History ObjData MorData)) (told : List ObjData) (entries : List OfData) (word out mid new : List ℕ)
      → told ≡ objects (history_of histories C.number) → entries ≡ history_of histories C.number → word ≡ subject c name
      → mid ≡ out ++ new_objects C told B.seen (mentions answer) → new ≡ mid ++ answer_line C entries after word answer → new ≡ out ++ command_text histories B c answer
  command_written histories told entries word out mid new e f g mentioned written =
      let all = history_of histories C.number in
      let line = answer_line C entries after word answer in
      written ∙ ap (λ l. l ++ line) mentioned ∙ append_assoc out (new_objects C told B.seen (mentions answer)) line
      ∙ ap (λ os. out ++ (new_objects C os B.seen (mentions answer) ++ line)) e
      ∙ ap (λ es. out ++ (new_objects C (objects all) B.seen (mentions answer) ++ answer_line C es after word answer)) f
      ∙ ap (λ s. out ++ (new_objects C (objects all) B.seen (mentions answer) ++ answer_line C all s word answer)) seen
      ∙ ap (λ w. out ++ written_in C all B.seen w answer) g
      ∙ ap (λ H. out ++ written_in H (history_of histories H.number) B.seen (subject c name) answer) home
      ∙ ap (λ o. out ++ text_in histories B c answer o) (sym known)
