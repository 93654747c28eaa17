-- When a report accounts for a script: its histories are legal, each session's trace is what its commands do, and the histories are made of the sessions' own events.
use Rattle.std.specs.Prelude.{◌≡◌, ◌⊎◌, ℕ, suc, ◌<◌, ◌==◌, if◌then◌else◌, List, [], ◌∷◌, ◌++◌, length, map, slice_get, filter, Option, Some, None, option_map, Ok, Err}
use Rattle.std.specs.List.{All, AllZip, filter_map}
use Rattle.cap_names.specs.declared.identifiers.CatNo.{CatNo}
use Rattle.cap_names.specs.declared.identifiers.SessionNo.{SessionNo}
use Rattle.cap_names.specs.declared.literals.MorLit.{MorLit}
use Rattle.cap_grammar.specs.declared.tree.Block.{Block}
use Rattle.cap_grammar.specs.declared.tree.Command.{Command}
use Rattle.cap_grammar.specs.declared.tree.Command.TheVariants.{Src, Tgt}
use Rattle.cap_grammar.specs.declared.tree.Item.{Item}
use Rattle.cap_grammar.specs.declared.tree.Item.TheVariants as top
use Rattle.cap_grammar.specs.declared.tree.Over.{Over}
use Rattle.cap_grammar.specs.declared.tree.Over.TheVariants as over
use Rattle.cap_grammar.specs.declared.tree.Placed.{Placed}
use Rattle.cap_grammar.specs.declared.tree.SessionPart.{SessionPart}
use Rattle.cap_block_faults.specs.Names.{same}
use Rattle.cap_checked.specs.declared.tree.CheckedObj.{CheckedObj}
use Rattle.cap_checked.specs.declared.tree.Checked.{Checked}
use Rattle.cap_terms.specs.declared.body.Rule.{Rule}
use Rattle.cap_history.specs.declared.entries.Entry.{Entry}
use Rattle.cap_history.specs.declared.reading.Finality.{Finality}
use Rattle.cap_ops.specs.Told.{told_in}
use Rattle.cap_history.specs.Reading.{objects, cells, finality}
use Rattle.cap_history.specs.Replies.{IsFull}
use Rattle.cap_legal.specs.Legal.{Frame, Legal}
use Rattle.cap_report.specs.declared.report.Done.{Done}
use Rattle.cap_report.specs.declared.report.History.{History}
use Rattle.cap_report.specs.declared.lines.LineAnswer.{LineAnswer}
use Rattle.cap_report.specs.declared.lines.LineAnswer.TheVariants as line
use Rattle.cap_report.specs.declared.lines.LineRefusal.{LineRefusal}
use Rattle.cap_report.specs.declared.lines.LineRefusal.TheVariants as refusal
use Rattle.cap_report.specs.declared.report.Report.{Report}
use Rattle.cap_report.specs.declared.report.Trace.{Trace}
use Rattle.cap_report.specs.Named.{category_name, bound_name}
use Rattle.cap_report.specs.Histories.{history_of}
use Rattle.cap_accounts.specs.Worlds.{World}
use Rattle.cap_report.specs.declared.situation.Made.{Made}
use Rattle.cap_report.specs.declared.situation.Situation.{Situation}
use Rattle.cap_accounts.specs.Commands.{lacking, category_of, arrow_at, DoesIn}

-- the events of a category in a trace, and those of a session in a history
abbrev pub of_category : {O M : Type 0} → ℕ → List (CatNo × Entry O M) → List (Entry O M)
of_category c events = filter_map (λ e. if e.0.0 == c then Some e.1 else None) events

abbrev pub of_session : {O M : Type 0} → ℕ → List (Entry O M) → List (Entry O M)
of_session s entries = filter (λ e. e.session.0 == s) entries

-- what stands behind a command that has answered
abbrev pub with_bound : {X T M : Type 0} → Situation X T M → Option (List ℕ) → LineAnswer M → Situation X T M
with_bound S None answer = S
with_bound S (Some name) answer = record S { bound = S.bound ++ record { name = name; answer = answer } ∷ [] }

-- commands count from 0
abbrev pub CountFrom : {M : Type 0} → ℕ → List (Done M) → Type 0
CountFrom n [] = Unit {0}
CountFrom n (d ∷ ds) = (d.command ≡ n) × CountFrom (suc n) ds

module _ {X T O M : Type 0} (W : World X T O M) (rules : List Rule) (histories : List (History O M)) where
  -- the category in which histories are legal
  abbrev pub frame_of : X → Frame O M
  frame_of x = record { offer = W.offered x; rules = rules; object_cells = W.object_cells; morphism_cells = W.morphism_cells }

  -- what a command does whose names are all there
  pub record InCategory (session : SessionNo) (S : Situation X T M) (c : Command CheckedObj MorLit) (events : List (CatNo × Entry O M)) (answer : LineAnswer M) : Type 0 where
    pub name : List ℕ
    pub named : category_name c ≡ Some name
    pub made : Made X
    pub is : category_of S name ≡ Some made
    pub entries : List (Entry O M)
    pub events_are : events ≡ map (λ e. (made.number, e)) entries
    pub does : DoesIn W rules session S made (told_in (objects (history_of histories made.number.0))) c entries answer

  abbrev pub DoesAll : SessionNo → Situation X T M → Command CheckedObj MorLit → List (CatNo × Entry O M) → LineAnswer M → Type 0
  DoesAll session S (Src x r) events answer = (events ≡ []) × (option_map (λ f. line.Object f.src) (arrow_at S r) ≡ Some answer)
  DoesAll session S (Tgt x r) events answer = (events ≡ []) × (option_map (λ f. line.Object f.tgt) (arrow_at S r) ≡ Some answer)
  DoesAll session S c events answer = InCategory session S c events answer

  abbrev pub DoesOrLacks : Option (List ℕ) → SessionNo → Situation X T M → Command CheckedObj MorLit → List (CatNo × Entry O M) → LineAnswer M → Type 0
  DoesOrLacks (Some name) session S c events answer = (events ≡ []) × (answer ≡ line.Refused (refusal.Lacks name))
  DoesOrLacks None session S c events answer = DoesAll session S c events answer

  -- these are the numbers of the category's whole history, which is full
  pub record IsFullOf (S : Situation X T M) (c : Command CheckedObj MorLit) (category : CatNo) (n k : ℕ) : Type 0 where
    pub name : List ℕ
    pub named : category_name c ≡ Some name
    pub made : Made X
    pub is : category_of S name ≡ Some made
    pub number : made.number ≡ category
    pub entries : n ≡ length (history_of histories category.0)
    pub cells_are : k ≡ cells W.object_cells W.morphism_cells (history_of histories category.0)
    pub full : IsFull W.object_cells W.morphism_cells (history_of histories category.0)

  -- a refusal Full names the numbers of the whole history, and no later event in that category has an entry
  abbrev pub FullEnds : Situation X T M → Command CheckedObj MorLit → LineAnswer M → List (CatNo × Entry O M) → Type 0
  FullEnds S c (line.Refused (refusal.Full n k)) later = (category : CatNo) × IsFullOf S c category n k × (of_category category.0 later ≡ [])
  FullEnds S c answer later = Unit {0}

  -- nor has any event of another session, where the prelude was refused so
  abbrev pub FullForAll : Situation X T M → Command CheckedObj MorLit → LineAnswer M → List (Trace O M) → Type 0
  FullForAll S c (line.Refused (refusal.Full n k)) others = (category : CatNo) × IsFullOf S c category n k × All (λ t. of_category category.0 t.events ≡ []) others
  FullForAll S c answer others = Unit {0}

  -- commands in order: the events are those of each, one after another
  abbrev pub CommandsDo : SessionNo → Situation X T M → List (Command CheckedObj MorLit) → List (CatNo × Entry O M) → List (LineAnswer M) → Type 0
  CommandsDo session S [] events answers = (events ≡ []) × (answers ≡ [])
  CommandsDo session S (c ∷ cs) events [] = ⊥
  CommandsDo session S (c ∷ cs) events (a ∷ answers) = (first : List (CatNo × Entry O M)) × (later : List (CatNo × Entry O M)) × (events ≡ first ++ later)
      × DoesOrLacks (lacking S c) session S c first a × FullEnds S c a later × CommandsDo session (with_bound S (bound_name c) a) cs later answers

  -- a category over a field or a table; its number is how many were made before
  abbrev pub table_name : Over → Option (List ℕ)
  table_name (over.Vec p) = None
  table_name (over.Add t) = Some t
  table_name (over.Freyd t) = Some t
  table_name (over.Rep t) = Some t

  abbrev pub table_of : Situation X T M → List ℕ → Option T
  table_of S name = option_map (λ t. t.1) (slice_get (filter (λ t. same t.0 name) S.tables) 0)

  pub record Makes (S : Situation X T M) (name : List ℕ) (o : Over) (table : Option T) (answer : LineAnswer M) (S' : Situation X T M) : Type 0 where
    pub category : X
    pub is : W.category_is o table category
    pub answered : answer ≡ line.Category
    pub number : CatNo
    pub numbered : number.0 ≡ length S.categories
    pub made : S' ≡ record S { categories = S.categories ++ record { name = name; number = number; category = category } ∷ [] }

  abbrev pub MakesOrLacks : Situation X T M → List ℕ → Over → Option (List ℕ) → Option T → LineAnswer M → Situation X T M → Type 0
  MakesOrLacks S name o (Some t) None answer S' = (answer ≡ line.Refused (refusal.Lacks t)) × (S' ≡ S)
  MakesOrLacks S name o t table answer S' = Makes S name o table answer S'

  abbrev pub and_then_table : Situation X T M → Option (List ℕ) → Option T
  and_then_table S None = None
  and_then_table S (Some t) = table_of S t

  -- a block: its table, or why it has none
  abbrev pub BlockDoes : Situation X T M → Block → LineAnswer M → Situation X T M → Type 0
  BlockDoes S b answer S' =
      ((t : T) × W.block_is b (Ok t) × (answer ≡ W.block_line t) × (S' ≡ record S { tables = S.tables ++ (b.name, t) ∷ [] }))
      ⊎ ((why : LineRefusal) × W.block_is b (Err why) × (answer ≡ line.Refused why) × (S' ≡ S))

  -- a part of the prelude, behind which these events of the prelude are still to come, and then these sessions
  abbrev pub ItemDoes : List (Trace O M) → Situation X T M → Item CheckedObj MorLit → List (CatNo × Entry O M) → LineAnswer M → List (CatNo × Entry O M) → Situation X T M → Type 0
  ItemDoes others S (top.Block b) events answer later S' = (events ≡ []) × BlockDoes S b answer S'
  ItemDoes others S (top.Category name o) events answer later S' = (events ≡ []) × MakesOrLacks S name o (table_name o) (and_then_table S (table_name o)) answer S'
  ItemDoes others S (top.Command c) events answer later S' =
      DoesOrLacks (lacking S c) (record { 0 = 0 }) S c events answer × FullEnds S c answer later × FullForAll S c answer others × (S' ≡ with_bound S (bound_name c) answer)

  -- the parts of the prelude in order
  abbrev pub ItemsDo : List (Trace O M) → Situation X T M → List (Item CheckedObj MorLit) → List (CatNo × Entry O M) → List (LineAnswer M) → Situation X T M → Type 0
  ItemsDo others S [] events answers S' = (events ≡ []) × (answers ≡ []) × (S' ≡ S)
  ItemsDo others S (i ∷ items) events [] S' = ⊥
  ItemsDo others S (i ∷ items) events (a ∷ answers) S' = (first : List (CatNo × Entry O M)) × (later : List (CatNo × Entry O M)) × (next : Situation X T M) × (events ≡ first ++ later)
      × ItemDoes others S i first a later next × ItemsDo others next items later answers S'

  -- the trace of a session is what its commands do behind the prelude
  pub record IsTrace (S : Situation X T M) (part : Placed (SessionPart CheckedObj MorLit)) (t : Trace O M) : Type 0 where
    pub does : CommandsDo t.session S (map (λ c. c.node) part.node.commands) t.events (map (λ d. d.answer) t.done)
    pub counted : CountFrom 0 t.done

  abbrev pub AreTraces : ℕ → Situation X T M → List (Placed (SessionPart CheckedObj MorLit)) → List (Trace O M) → Type 0
  AreTraces n S [] [] = Unit {0}
  AreTraces n S (p ∷ ps) (t ∷ ts) = (t.session.0 ≡ n) × IsTrace S p t × AreTraces (suc n) S ps ts
  AreTraces n S _ _ = ⊥

  -- the histories are those of the categories in order, each legal
  pub record IsHistory (m : Made X) (h : History O M) : Type 0 where
    pub number : h.cat ≡ m.number
    pub legal : Legal (frame_of m.category) h.entries

-- before any part of a script nothing is made and nothing is bound
abbrev pub at_first : {X T M : Type 0} → Situation X T M
at_first = record { tables = []; categories = []; bound = [] }

-- The report accounts for the script.
pub record Accounts {X T O M : Type 0} (W : World X T O M) (rules : List Rule) (script : Checked) (r : Report O M) : Type 0 where
  pub behind : Situation X T M
  pub histories : AllZip (IsHistory W rules r.histories) behind.categories r.histories
  pub prelude : Trace O M
  pub sessions : List (Trace O M)
  pub traces : r.traces ≡ prelude ∷ sessions
  pub first : prelude.session.0 ≡ 0
  pub counted : CountFrom 0 prelude.done
  pub prelude_does : ItemsDo W rules r.histories sessions at_first (map (λ i. i.node) script.prelude) prelude.events (map (λ d. d.answer) prelude.done) behind
  pub sessions_do : AreTraces W rules r.histories 1 behind script.sessions sessions
  -- each session's events stand in the histories each once and in its order, and the histories have no others; the prelude's come first
  pub shares : All (λ (t : Trace O M). (c : ℕ) → of_category c t.events ≡ of_session t.session.0 (history_of r.histories c)) r.traces
  pub own : All (λ (h : History O M). All (λ (e : Entry O M). e.session.0 < length r.traces) h.entries) r.histories
  pub prelude_first : All (λ (h : History O M). (rest : List (Entry O M)) × (h.entries ≡ of_session 0 h.entries ++ rest)) r.histories
  -- the plans of the final categories, in their order
  pub plans : r.plans ≡ filter_map (λ (h : History O M). option_map (λ (f : Finality). f.plan) (finality h.entries)) r.histories
