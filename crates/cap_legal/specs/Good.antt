-- What holds in a history: values are those of plain evaluation, equal keys have one value, and the plan is that of the registrations before it.
use Rattle.std.specs.Prelude.{◌≡◌, ℕ, List, ◌∷◌, ◌++◌, length, Some, slice_get}
use Rattle.cap_ops.specs.declared.keys.Key.{Key}
use Rattle.cap_ops.specs.declared.keys.Value.{Value as Answer}
use Rattle.cap_ops.specs.declared.plans.Plan.{Plan}
use Rattle.cap_ops.specs.Derivations.{IsPlan, AreLowerBounds, means}
use Rattle.cap_ops.specs.Told.{told_in}
use Rattle.cap_ops.specs.Primitives.{OfferData}
use Rattle.cap_terms.specs.declared.body.Rule.{Rule}
use Rattle.cap_run.specs.Plans.{costs_of, AreRules, IsPlanOf}
use Rattle.cap_run.specs.Puts.{Good}
use Rattle.cap_history.specs.declared.entries.Event.{Event}
use Rattle.cap_history.specs.declared.entries.Event.TheVariants.{Ask, Put}
use Rattle.cap_history.specs.declared.entries.Reply.{Reply}
use Rattle.cap_history.specs.declared.entries.Reply.TheVariants.{Hit, Kept, Found}
use Rattle.cap_history.specs.declared.entries.Entry.{Entry}
use Rattle.cap_history.specs.Reading.{weights, objects}
use Rattle.cap_history.specs.Replies.{IsFinal}
use Rattle.cap_legal.specs.Legal.{Legal}

-- an entry tells this value for this key
abbrev pub TellsValue : {O M : Type 0} → Event O M → Reply O M → Key M → Answer M → Type 0
TellsValue (Ask k) (Hit t) key v = (k ≡ key) × (t.value ≡ v)
TellsValue (Put k out) (Kept t) key v = (k ≡ key) × (t.value ≡ v)
TellsValue (Put k out) (Found t) key v = (k ≡ key) × (t.value ≡ v)
TellsValue _ _ key v = ⊥

-- the entry at a place tells this value for this key
pub record ValueAt {O M : Type 0} (entries : List (Entry O M)) (place : ℕ) (key : Key M) (v : Answer M) : Type 0 where
  pub entry : Entry O M
  pub is : slice_get entries place ≡ Some entry
  pub tells : TellsValue entry.event entry.reply key v

module _ {O M : Type 0} (D : OfferData O M) (rules : List Rule) (entries : List (Entry O M)) where
  -- the value of a key by the plan of the history
  pub record IsGoodValue (key : Key M) (v : Answer M) : Type 0 where
    pub at : ℕ
    pub p : Plan
    pub final : IsFinal entries at p
    pub is_plan : IsPlanOf D rules p
    pub good : Good D rules p (told_in (objects entries)) key.op.0 key.args v

  -- the plan is that of the registrations before the entry that tells it, and its bounds are lower bounds
  pub record IsPlannedBefore (at : ℕ) (p : Plan) : Type 0 where
    pub before : List (Entry O M)
    pub entry : Entry O M
    pub after : List (Entry O M)
    pub splits : entries ≡ before ++ entry ∷ after
    pub place : length before ≡ at
    pub is_plan : IsPlan (means (record { weights = weights before }) (costs_of rules) D.kind) p
    pub lower : AreLowerBounds (means (record { weights = weights before }) (costs_of rules) D.kind) p.bounds

  pub record IsGood : Type 0 where
    pub right : (place : ℕ) (key : Key M) (v : Answer M) → ValueAt entries place key v → IsGoodValue key v
    pub one : (i j : ℕ) (key : Key M) (v w : Answer M) → ValueAt entries i key v → ValueAt entries j key w → v ≡ w
    pub planned : (at : ℕ) (p : Plan) → IsFinal entries at p → IsPlannedBefore at p

-- A legal history is good, over all rules by which evaluation can run, and however cells are counted.
abbrev pub LegalIsGood : {O M : Type 0} → OfferData O M → Type 0
LegalIsGood {O} {M} D = (rules : List Rule) (object_cells : O → ℕ) (morphism_cells : M → ℕ) → AreRules rules → (entries : List (Entry O M))
    → Legal (record { offer = D; rules = rules; object_cells = object_cells; morphism_cells = morphism_cells }) entries → IsGood D rules entries
