use Rattle.std.proofs.Common.{◌≡◌, take, map}
use Rattle.cap_history.specs.Reading.{objects}
use Rattle.cap_top_text.proofs.text.all_objects.Given as goal

abbrev pub invariant-histories : goal.invariant-histories
invariant-histories l = map (λ list. map (λ x. x.now) list.items) l.all.items ≡ map (λ history. objects history.entries) (take l.history-index l.histories)
