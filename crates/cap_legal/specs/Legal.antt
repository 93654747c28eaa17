-- When a history is legal for a category: each reply is that of the history before it, and each event is true there.
use Rattle.std.specs.Prelude.{ℕ, List, [], ◌∷◌, ◌++◌, map}
use Rattle.std.specs.List.{range_with_len}
use Rattle.cap_ops.specs.declared.keys.Key.{Key}
use Rattle.cap_ops.specs.declared.keys.PrimOut.{PrimOut}
use Rattle.cap_ops.specs.declared.plans.Plan.{Plan}
use Rattle.cap_ops.specs.Arrows.{over, arguments}
use Rattle.cap_ops.specs.Primitives.{OfferData, prime_of}
use Rattle.cap_ops.specs.Told.{Known, told_in}
use Rattle.cap_ops.specs.Values.{Fits}
use Rattle.cap_terms.specs.declared.body.Rule.{Rule}
use Rattle.cap_run.specs.Plans.{costs_of}
use Rattle.cap_run.specs.Puts.{PutTrue}
use Rattle.cap_history.specs.declared.entries.Event.{Event}
use Rattle.cap_history.specs.declared.entries.Event.TheVariants.{Register, Finalise, Declare, Ask, Put, PlanOf}
use Rattle.cap_history.specs.declared.entries.Entry.{Entry}
use Rattle.cap_history.specs.May.{MayRegister}
use Rattle.cap_history.specs.Reading.{objects}
use Rattle.cap_history.specs.Replies.{Setup, IsFinal, HasRoom, Replies}

-- the category that histories are of: what it offers, the rules, and how cells are counted
pub record Frame (O M : Type 0) : Type 1 where
  pub offer : OfferData O M
  pub rules : List Rule
  pub object_cells : O → ℕ
  pub morphism_cells : M → ℕ

-- what its state is made with
abbrev pub setup_of : {O M : Type 0} → OfferData O M → List Rule → Setup
setup_of D rules = record { kind = D.kind; offered = record { weights = map D.weight (range_with_len 1 44) }; costs = costs_of rules }

module _ {O M : Type 0} (D : OfferData O M) (rules : List Rule) (entries : List (Entry O M)) where
  -- a key fits its operation, its handles are told, and its data are the category's
  pub record IsFit (key : Key M) : Type 0 where
    pub fits : Fits (over (prime_of D)) key.op.0 (arguments key.args)
    pub known : Known D.category (told_in (objects entries)) (arguments key.args)

  -- a put of a fit key whose result is, by the plan, that of plain evaluation
  pub record IsTruePut (key : Key M) (out : PrimOut O M) : Type 0 where
    pub fit : IsFit key
    pub at : ℕ
    pub p : Plan
    pub final : IsFinal entries at p
    pub is : PutTrue D rules p (told_in (objects entries)) key.op.0 key.args out

  -- what an event must be: weights are in range, objects are the category's, keys fit, and a put is true by the plan
  abbrev pub TrueEvent : Event O M → Type 0
  TrueEvent (Register op weight) = MayRegister op.0 weight
  TrueEvent Finalise = Unit {0}
  TrueEvent (Declare name object) = D.category.is_object object
  TrueEvent (Ask key) = IsFit key
  TrueEvent (Put key out) = IsTruePut key out
  TrueEvent PlanOf = Unit {0}

module _ {O M : Type 0} (F : Frame O M) where
  -- an entry on the entries before it
  pub record IsLegalNext (before : List (Entry O M)) (e : Entry O M) : Type 0 where
    pub room : HasRoom F.object_cells F.morphism_cells before
    pub replies : Replies (setup_of F.offer F.rules) before e.event e.reply
    pub is_true : TrueEvent F.offer F.rules before e.event

  abbrev pub LegalBehind : List (Entry O M) → List (Entry O M) → Type 0
  LegalBehind before [] = Unit {0}
  LegalBehind before (e ∷ es) = IsLegalNext before e × LegalBehind (before ++ e ∷ []) es

  abbrev pub Legal : List (Entry O M) → Type 0
  Legal entries = LegalBehind [] entries
