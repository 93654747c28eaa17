-- A whole run on one thread: the parts of the prelude one after another, and then each session, each behind what the ones before it made, bound and saw.
use Rattle.std.specs.Prelude.{◌≡◌, ℕ, suc, List, [], ◌∷◌, ◌++◌, length, map, false, None, option_map}
use Rattle.std.specs.List.{filter_map}
use Rattle.cap_names.specs.declared.identifiers.CatNo.{CatNo}
use Rattle.cap_names.specs.declared.identifiers.SessionNo.{SessionNo}
use Rattle.cap_names.specs.declared.literals.MorLit.{MorLit}
use Rattle.cap_grammar.specs.declared.tree.Item.{Item}
use Rattle.cap_grammar.specs.declared.tree.Item.TheVariants as top
use Rattle.cap_grammar.specs.declared.tree.Over.{Over}
use Rattle.cap_grammar.specs.declared.tree.Placed.{Placed}
use Rattle.cap_grammar.specs.declared.tree.SessionPart.{SessionPart}
use Rattle.cap_checked.specs.declared.tree.CheckedObj.{CheckedObj}
use Rattle.cap_checked.specs.declared.tree.Checked.{Checked}
use Rattle.cap_data.specs.declared.data.ObjData.{ObjData}
use Rattle.cap_data.specs.declared.data.MorData.{MorData}
use Rattle.cap_desk.specs.Woven.{IsNothing}
use Rattle.cap_history.specs.declared.reading.Finality.{Finality}
use Rattle.cap_history.specs.Reading.{finality}
use Rattle.cap_offer.specs.Labels.{Label}
use Rattle.cap_report.specs.declared.lines.LineAnswer.{LineAnswer}
use Rattle.cap_report.specs.declared.lines.LineAnswer.TheVariants as line
use Rattle.cap_report.specs.declared.report.History.{History}
use Rattle.cap_report.specs.declared.report.Report.{Report}
use Rattle.cap_report.specs.declared.report.Trace.{Trace}
use Rattle.cap_report.specs.Named.{bound_name}
use Rattle.cap_accounts.specs.Accounts.{CountFrom, at_first, with_bound}
use Rattle.cap_commands.specs.Agreement.{Standing}
use Rattle.cap_commands.specs.Kinds.{CategoryIs}
use Rattle.cap_commands.specs.Seats.{AtSeat, OfData, AreSeats, CommandRuns}
use Rattle.cap_traces.specs.Chains.{Chain}

-- the prelude runs as session 0
abbrev pub prelude_session : SessionNo
prelude_session = record { 0 = 0 }

-- a seat before a category in which nothing has happened
abbrev pub new_seat : Label → AtSeat
new_seat x = record { offer = x; session = prelude_session; seen = []; known = []; tries = []; knows = false; hand = record { place = []; added = 0 } }

-- a category that is made stands behind the others, and so does a seat before it
pub record CategoryRuns (S : Standing) (seats : List AtSeat) (name : List ℕ) (over : Over) (events : List (CatNo × OfData)) (answer : LineAnswer MorData) (S' : Standing) (seats' : List AtSeat) : Type 0 where
  pub category : Label
  pub is : CategoryIs over None category
  pub silent : events ≡ []
  pub answered : answer ≡ line.Category
  pub number : CatNo
  pub numbered : number.0 ≡ length S.categories
  pub made : S' ≡ record S { categories = S.categories ++ record { name = name; number = number; category = category } ∷ [] }
  pub seat : seats' ≡ seats ++ new_seat category ∷ []

-- a part of the prelude: a category, or a command; no block is built
abbrev pub ItemRuns : Standing → List AtSeat → Item CheckedObj MorLit → List (CatNo × OfData) → LineAnswer MorData → Standing → List AtSeat → Type 0
ItemRuns S seats (top.Block b) events answer S' seats' = ⊥
ItemRuns S seats (top.Category name over) events answer S' seats' = CategoryRuns S seats name over events answer S' seats'
ItemRuns S seats (top.Command c) events answer S' seats' = CommandRuns IsNothing prelude_session S seats c events answer seats' × (S' ≡ with_bound S (bound_name c) answer)

-- no part, nothing changed; else the first runs, and the rest behind it
abbrev pub ItemsRun : Standing → List AtSeat → List (Item CheckedObj MorLit) → List (CatNo × OfData) → List (LineAnswer MorData) → Standing → List AtSeat → Type 0
ItemsRun S seats [] events answers S' seats' = (events ≡ []) × (answers ≡ []) × (S' ≡ S) × (seats' ≡ seats)
ItemsRun S seats (i ∷ items) events answers S' seats' =
    (first : List (CatNo × OfData)) × (later : List (CatNo × OfData)) × (a : LineAnswer MorData) × (rest : List (LineAnswer MorData)) × (next : Standing) × (between : List AtSeat)
    × (events ≡ first ++ later) × (answers ≡ a ∷ rest) × ItemRuns S seats i first a next between × AreSeats prelude_session next between
    × ItemsRun next between items later rest S' seats'

-- the seats when another session sits down: it knows what was told before
abbrev pub seated : SessionNo → List AtSeat → List AtSeat
seated session seats = map (λ (s : AtSeat). record s { session = session }) seats

-- a session behind the prelude: its commands run one after another
pub record SessionRuns (n : ℕ) (S : Standing) (seats : List AtSeat) (part : Placed (SessionPart CheckedObj MorLit)) (t : Trace ObjData MorData) (seats' : List AtSeat) : Type 0 where
  pub number : t.session.0 ≡ n
  pub counted : CountFrom 0 t.done
  pub behind : Standing
  pub runs : Chain IsNothing t.session S (seated t.session seats) (map (λ c. c.node) part.node.commands) t.events (map (λ d. d.answer) t.done) behind seats'

-- the sessions one after another, each behind the prelude
abbrev pub SessionsRun : ℕ → Standing → List AtSeat → List (Placed (SessionPart CheckedObj MorLit)) → List (Trace ObjData MorData) → List AtSeat → Type 0
SessionsRun n S seats [] traces seats' = (traces ≡ []) × (seats' ≡ seats)
SessionsRun n S seats (p ∷ parts) traces seats' =
    (t : Trace ObjData MorData) × (rest : List (Trace ObjData MorData)) × (between : List AtSeat)
    × (traces ≡ t ∷ rest) × SessionRuns n S seats p t between × SessionsRun (suc n) S between parts rest seats'

-- a script has run: its prelude, and then its sessions
pub record HasRun (form : Checked) (behind : Standing) (prelude : Trace ObjData MorData) (sessions : List (Trace ObjData MorData)) (seats' : List AtSeat) : Type 0 where
  pub number : prelude.session ≡ prelude_session
  pub counted : CountFrom 0 prelude.done
  pub between : List AtSeat
  pub prelude_runs : ItemsRun at_first [] (map (λ i. i.node) form.prelude) prelude.events (map (λ d. d.answer) prelude.done) behind between
  pub sessions_run : SessionsRun 1 behind between form.sessions sessions seats'

-- what the seats have seen, as the histories of their categories, which are numbered from here
abbrev pub histories_from : ℕ → List AtSeat → List (History ObjData MorData)
histories_from n [] = []
histories_from n (s ∷ seats) = record { cat = record { 0 = n }; entries = s.seen } ∷ histories_from (suc n) seats

-- the report of a run: what was seen at the end, what each session did, and the plans
pub record IsReportOf (prelude : Trace ObjData MorData) (sessions : List (Trace ObjData MorData)) (seats' : List AtSeat) (r : Report ObjData MorData) : Type 0 where
  pub histories : r.histories ≡ histories_from 0 seats'
  pub traces : r.traces ≡ prelude ∷ sessions
  pub plans : r.plans ≡ filter_map (λ (s : AtSeat). option_map (λ (f : Finality). f.plan) (finality s.seen)) seats'
