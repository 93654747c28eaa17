-- Commands of a session that run one after another, each behind what the ones before it made and bound.
use Rattle.std.specs.Prelude.{◌≡◌, List, [], ◌∷◌, ◌++◌}
use Rattle.cap_names.specs.declared.identifiers.CatNo.{CatNo}
use Rattle.cap_names.specs.declared.identifiers.SessionNo.{SessionNo}
use Rattle.cap_names.specs.declared.literals.MorLit.{MorLit}
use Rattle.cap_grammar.specs.declared.tree.Command.{Command}
use Rattle.cap_checked.specs.declared.tree.CheckedObj.{CheckedObj}
use Rattle.cap_data.specs.declared.data.MorData.{MorData}
use Rattle.cap_report.specs.declared.lines.LineAnswer.{LineAnswer}
use Rattle.cap_report.specs.Named.{bound_name}
use Rattle.cap_accounts.specs.Accounts.{with_bound}
use Rattle.cap_commands.specs.Agreement.{Standing}
use Rattle.cap_commands.specs.Seats.{AtSeat, OfData, AreSeats, CommandRuns}

module _ (others : List OfData → Type 0) (session : SessionNo) where
  -- no command, nothing changed; else the first runs, and the rest behind it
  abbrev pub Chain : Standing → List AtSeat → List (Command CheckedObj MorLit) → List (CatNo × OfData) → List (LineAnswer MorData) → Standing → List AtSeat → Type 0
  Chain S seats [] events answers S' seats' = (events ≡ []) × (answers ≡ []) × (S' ≡ S) × (seats' ≡ seats)
  Chain S seats (c ∷ cs) events answers S' seats' =
      (first : List (CatNo × OfData)) × (later : List (CatNo × OfData)) × (a : LineAnswer MorData) × (rest : List (LineAnswer MorData)) × (between : List AtSeat)
      × (events ≡ first ++ later) × (answers ≡ a ∷ rest) × CommandRuns others session S seats c first a between × AreSeats session S between
      × Chain (with_bound S (bound_name c) a) between cs later rest S' seats'
