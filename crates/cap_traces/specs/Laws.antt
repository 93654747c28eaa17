-- What commands that run one after another are to the accounts, where nothing comes between a session's own entries.
use Rattle.std.specs.Prelude.{◌≡◌, ℕ, ◌+◌, List, [], ◌∷◌, ◌++◌, length, map}
use Rattle.std.specs.List.{All}
use Rattle.std.specs.List.Sorted.{IsNonDecreasing}
use Rattle.cap_names.specs.declared.identifiers.CatNo.{CatNo}
use Rattle.cap_names.specs.declared.identifiers.SessionNo.{SessionNo}
use Rattle.cap_names.specs.declared.literals.MorLit.{MorLit}
use Rattle.cap_grammar.specs.declared.tree.Command.{Command}
use Rattle.cap_grammar.specs.declared.tree.Item.{Item}
use Rattle.cap_grammar.specs.declared.tree.Placed.{Placed}
use Rattle.cap_grammar.specs.declared.tree.SessionPart.{SessionPart}
use Rattle.cap_checked.specs.declared.tree.Checked.{Checked}
use Rattle.cap_checked.specs.declared.tree.CheckedObj.{CheckedObj}
use Rattle.cap_rules.specs.Table.{rule_table}
use Rattle.cap_data.specs.declared.data.ObjData.{ObjData}
use Rattle.cap_data.specs.declared.data.MorData.{MorData}
use Rattle.cap_desk.specs.Woven.{IsNothing}
use Rattle.cap_report.specs.declared.lines.LineAnswer.{LineAnswer}
use Rattle.cap_report.specs.declared.report.History.{History}
use Rattle.cap_report.specs.declared.report.Report.{Report}
use Rattle.cap_report.specs.declared.report.Trace.{Trace}
use Rattle.cap_report.specs.Named.{bound_name}
use Rattle.cap_accounts.specs.Accounts.{Accounts, CommandsDo, with_bound}
use Rattle.cap_commands.specs.Agreement.{Standing}
use Rattle.cap_commands.specs.Kinds.{kinds}
use Rattle.cap_commands.specs.Seats.{AtSeat, OfData, AreSeats, AreWhole, CommandRuns}
use Rattle.cap_traces.specs.Chains.{Chain}
use Rattle.cap_traces.specs.Runs.{prelude_session, ItemRuns, ItemsRun, SessionRuns, SessionsRun, HasRun, IsReportOf}

-- on whatever whole histories, the events and answers of a chain are what its commands do
abbrev pub ChainsDo : Type 0
ChainsDo = (session : SessionNo) (S S' : Standing) (seats seats' : List AtSeat) (cs : List (Command CheckedObj MorLit)) (events : List (CatNo × OfData)) (answers : List (LineAnswer MorData))
    → Chain IsNothing session S seats cs events answers S' seats' → (histories : List (History ObjData MorData)) → AreWhole histories seats'
    → CommandsDo kinds rule_table histories session S cs events answers

-- a chain goes on by one more command
abbrev pub ChainsGoOn : Type 0
ChainsGoOn = (session : SessionNo) (S between : Standing) (seats middle seats' : List AtSeat) (cs : List (Command CheckedObj MorLit)) (c : Command CheckedObj MorLit)
    (events own : List (CatNo × OfData)) (answers : List (LineAnswer MorData)) (a : LineAnswer MorData)
    → Chain IsNothing session S seats cs events answers between middle → CommandRuns IsNothing session between middle c own a seats' → AreSeats session between seats'
    → Chain IsNothing session S seats (cs ++ c ∷ []) (events ++ own) (answers ++ a ∷ []) (with_bound between (bound_name c) a) seats'

-- parts of a prelude go on by one more part
abbrev pub ItemsGoOn : Type 0
ItemsGoOn = (S between S' : Standing) (seats middle seats' : List AtSeat) (items : List (Item CheckedObj MorLit)) (i : Item CheckedObj MorLit)
    (events own : List (CatNo × OfData)) (answers : List (LineAnswer MorData)) (a : LineAnswer MorData)
    → ItemsRun S seats items events answers between middle → ItemRuns between middle i own a S' seats' → AreSeats prelude_session S' seats'
    → ItemsRun S seats (items ++ i ∷ []) (events ++ own) (answers ++ a ∷ []) S' seats'

-- sessions go on by one more session
abbrev pub SessionsGoOn : Type 0
SessionsGoOn = (n : ℕ) (S : Standing) (seats middle seats' : List AtSeat) (parts : List (Placed (SessionPart CheckedObj MorLit))) (p : Placed (SessionPart CheckedObj MorLit))
    (traces : List (Trace ObjData MorData)) (t : Trace ObjData MorData)
    → SessionsRun n S seats parts traces middle → SessionRuns (n + length parts) S middle p t seats' → SessionsRun n S seats (parts ++ p ∷ []) (traces ++ t ∷ []) seats'

-- the report accounts for the script, over what stood behind the prelude, and in each history the sessions stand one after another
pub record IsAccounted (form : Checked) (behind : Standing) (r : Report ObjData MorData) : Type 0 where
  pub accounts : Accounts kinds rule_table form r
  pub same : accounts.behind ≡ behind
  pub in_turn : All (λ (h : History ObjData MorData). IsNonDecreasing (map (λ (e : OfData). e.session.0) h.entries)) r.histories

-- the report of a whole run accounts for its script
abbrev pub RunsAccount : Type 0
RunsAccount = (form : Checked) (behind : Standing) (prelude : Trace ObjData MorData) (sessions : List (Trace ObjData MorData)) (seats' : List AtSeat)
    → HasRun form behind prelude sessions seats' → (r : Report ObjData MorData) → IsReportOf prelude sessions seats' r → IsAccounted form behind r
