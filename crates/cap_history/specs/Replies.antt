-- The reply to an event on a history.
use Rattle.std.specs.Prelude.{◌≡◌, ◌≢◌, ℕ, ◌≤◌, ◌<◌, List, [], ◌∷◌, ◌++◌, length, Some, None, IsSome, ◌⊎◌}
use Rattle.std.specs.List.{Contains}
use Rattle.cap_names.specs.declared.identifiers.Handle.{Handle}
use Rattle.cap_names.specs.declared.identifiers.OpId.{OpId}
use Rattle.cap_names.specs.declared.identifiers.SessionNo.{SessionNo}
use Rattle.cap_ops.specs.declared.keys.Key.{Key}
use Rattle.cap_ops.specs.declared.keys.PrimOut.{PrimOut}
use Rattle.cap_ops.specs.declared.keys.Value.{Value as Answer}
use Rattle.cap_ops.specs.declared.plans.Kind.{Kind}
use Rattle.cap_ops.specs.declared.plans.Plan.{Plan}
use Rattle.cap_ops.specs.declared.plans.Regs.{Regs}
use Rattle.cap_ops.specs.declared.plans.RuleCost.{RuleCost}
use Rattle.cap_ops.specs.Derivations.{IsPlan, means, choice}
use Rattle.cap_ops.specs.Told.{told_in}
use Rattle.cap_settle.specs.Settled.{settled}
use Rattle.cap_history.specs.declared.entries.Event.{Event}
use Rattle.cap_history.specs.declared.entries.Event.TheVariants.{Register, Finalise, Declare, Ask, Put, PlanOf}
use Rattle.cap_history.specs.declared.entries.Reply.{Reply}
use Rattle.cap_history.specs.declared.entries.Reply.TheVariants.{Done, Final, Object, Hit, Miss, Kept, Found, PlanIs, AlreadyFinal, NotFinal, NotOffered, Twice, NameTaken}
use Rattle.cap_history.specs.declared.entries.Entry.{Entry}
use Rattle.cap_history.specs.Reading.{weight_at, weights, finality, objects, names, kept, AreTold, cells}

-- what a category's state is made with: its kind, the primitives that it offers with their weights, and the costs of the rules
pub record Setup : Type 0 where
  pub kind : Kind
  pub offered : Regs
  pub costs : List RuleCost

module _ {O M : Type 0} (entries : List (Entry O M)) where
  -- registering is open, or has ended there, with this plan
  abbrev pub IsOpen : Type 0
  IsOpen = finality entries ≡ None

  pub record IsFinal (at : ℕ) (p : Plan) : Type 0 where
    pub is : finality entries ≡ Some (record { at = at; plan = p })

  abbrev pub IsNamed : List ℕ → Handle → Type 0
  IsNamed name h = Contains (names entries) (record { name = name; handle = h })

  abbrev pub IsNewName : List ℕ → Type 0
  IsNewName name = (h : Handle) → IsNamed name h → ⊥

  abbrev pub IsKept : Key M → Answer M → Type 0
  IsKept key v = Contains (kept entries) (record { key = key; value = v })

  abbrev pub IsNewKey : Key M → Type 0
  IsNewKey key = (v : Answer M) → IsKept key v → ⊥

module _ {O M : Type 0} (s : Setup) (entries : List (Entry O M)) where
  abbrev pub IsOffered : OpId → Type 0
  IsOffered op = IsSome (weight_at s.offered.weights op)

  -- a register: already final, or not offered, or registered with a weight; else done
  abbrev pub RegisterReplies : OpId → Reply O M → Type 0
  RegisterReplies op (AlreadyFinal at) = (p : Plan) × IsFinal entries at p
  RegisterReplies op NotOffered = IsOpen entries × (weight_at s.offered.weights op ≡ None)
  RegisterReplies op (Twice weight) = IsOpen entries × IsOffered op × (weight_at (weights entries) op ≡ Some weight)
  RegisterReplies op Done = IsOpen entries × IsOffered op × (weight_at (weights entries) op ≡ None)
  RegisterReplies op _ = ⊥

  -- a finalisation: already final; else final with the plan of the registrations
  abbrev pub FinaliseReplies : Reply O M → Type 0
  FinaliseReplies (AlreadyFinal at) = (p : Plan) × IsFinal entries at p
  FinaliseReplies (Final p) = IsOpen entries × IsPlan (means (record { weights = weights entries }) s.costs s.kind) p
  FinaliseReplies _ = ⊥

  -- a declaration: the name's object where the data are equal, the name is taken where they aren't; a new name gets the next handle
  abbrev pub DeclareReplies : List ℕ → O → Reply O M → Type 0
  DeclareReplies name object (Object h) = (IsNamed entries name h × (told_in (objects entries) h ≡ Some object)) ⊎ (IsNewName entries name × (h.0 ≡ length (objects entries)))
  DeclareReplies name object (NameTaken h other) = IsNamed entries name h × (told_in (objects entries) h ≡ Some other) × (other ≢ object)
  DeclareReplies name object _ = ⊥

  -- an ask: not final; or a hit with the kept value of an equal key; else a miss with the plan's choice
  abbrev pub AskReplies : Key M → Reply O M → Type 0
  AskReplies key NotFinal = IsOpen entries
  AskReplies key (Hit t) = ((at : ℕ) × (p : Plan) × IsFinal entries at p) × IsKept entries key t.value × AreTold (objects entries) t
  AskReplies key (Miss c) = ((at : ℕ) × (p : Plan) × IsFinal entries at p × (choice p key.op.0 ≡ c)) × IsNewKey entries key
  AskReplies key _ = ⊥

  -- a put: found, with the kept value of an equal key; else the put value is kept, its new objects with the next handles
  abbrev pub PutReplies : Key M → PrimOut O M → Reply O M → Type 0
  PutReplies key out (Found t) = IsKept entries key t.value × AreTold (objects entries) t
  PutReplies key out (Kept t) = IsNewKey entries key × (t.value ≡ settled (length (objects entries)) out.out) × AreTold (objects entries ++ out.fresh) t
  PutReplies key out _ = ⊥

  -- a reading of the plan
  abbrev pub PlanReplies : Reply O M → Type 0
  PlanReplies NotFinal = IsOpen entries
  PlanReplies (PlanIs p) = (at : ℕ) × IsFinal entries at p
  PlanReplies _ = ⊥

  abbrev pub Replies : Event O M → Reply O M → Type 0
  Replies (Register op weight) reply = RegisterReplies op reply
  Replies Finalise reply = FinaliseReplies reply
  Replies (Declare name object) reply = DeclareReplies name object reply
  Replies (Ask key) reply = AskReplies key reply
  Replies (Put key out) reply = PutReplies key out reply
  Replies PlanOf reply = PlanReplies reply

-- how many entries, and how many cells, a history has room for
abbrev pub most_entries : ℕ
most_entries = 200000

abbrev pub most_cells : ℕ
most_cells = 16777216

abbrev pub entry : {O M : Type 0} → SessionNo → Event O M → Reply O M → Entry O M
entry session event reply = record { session = session; event = event; reply = reply }

module _ {O M : Type 0} (object_cells : O → ℕ) (morphism_cells : M → ℕ) where
  abbrev pub IsFull : List (Entry O M) → Type 0
  IsFull entries = (most_entries ≤ length entries) ⊎ (most_cells ≤ cells object_cells morphism_cells entries)

  pub record HasRoom (entries : List (Entry O M)) : Type 0 where
    pub few : length entries < most_entries
    pub light : cells object_cells morphism_cells entries < most_cells

  -- the reply of a history that has room, and its next entry
  pub record Extends (s : Setup) (entries : List (Entry O M)) (session : SessionNo) (event : Event O M) (reply : Reply O M) (entries' : List (Entry O M)) : Type 0 where
    pub room : HasRoom entries
    pub replies : Replies s entries event reply
    pub is : entries' ≡ entries ++ entry session event reply ∷ []
