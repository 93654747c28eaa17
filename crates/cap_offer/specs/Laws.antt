-- The laws of categories of every kind and of their literals.
use Rattle.std.specs.Prelude.{◌≡◌, ◌⊎◌, ℕ, true, List}
use Rattle.cap_field.specs.Residue.{is_tabled}
use Rattle.cap_laws.specs.Universal.{IsAbelian}
use Rattle.cap_names.specs.declared.literals.ObjLit.{ObjLit}
use Rattle.cap_names.specs.declared.literals.MorLit.{MorLit}
use Rattle.cap_ops.specs.declared.plans.Kind.TheVariants.{Add}
use Rattle.cap_ops.specs.Arrows.{ValueOver, over}
use Rattle.cap_ops.specs.Offered.{offered_weight}
use Rattle.cap_ops.specs.Primitives.{prime_of}
use Rattle.cap_ops.specs.Values.{Fits}
use Rattle.cap_vec_laws.specs.Vec.{vec_data}
use Rattle.cap_data.specs.declared.data.ObjData.{ObjData}
use Rattle.cap_data.specs.declared.data.MorData.{MorData}
use Rattle.cap_data.specs.OfMatrices.{matrix_reading}
use Rattle.cap_alike.specs.Along.{read_value, read_values}
use Rattle.cap_vec_offer.specs.Canonical.{IsCanonical}
use Rattle.cap_offer.specs.Labels.{Label, vec, kind_of, prime_of_label, any_offer}
use Rattle.cap_offer.specs.Literals.{Literal, object_literal, morphism_literal}

-- the prime of a label is one of the table
abbrev pub IsTabled : Label → Type 0
IsTabled l = is_tabled (prime_of_label l) ≡ true

-- the offer of a label has its kind, that kind's weights, and its prime
pub record IsOfferOf (l : Label) : Type 0 where
  pub kind : (any_offer l).kind ≡ kind_of l
  pub weights : (any_offer l).weight ≡ offered_weight (kind_of l)
  pub prime : IsTabled l → prime_of (any_offer l) ≡ prime_of_label l

-- and equal labels have offers of one kind, with the same weights, objects, morphisms, answers, new objects and sizes past the limits
pub record AreOneOffer (l m : Label) : Type 0 where
  pub kind : (any_offer l).kind ≡ (any_offer m).kind
  pub weights : (any_offer l).weight ≡ (any_offer m).weight
  pub objects : (a : ObjData) → (any_offer l).category.is_object a → (any_offer m).category.is_object a
  pub answers : (op : ℕ) (args : List (ValueOver ObjData MorData)) (v : ValueOver ObjData MorData) → (any_offer l).answer op args v → (any_offer m).answer op args v
  pub fresh : (any_offer l).fresh ≡ (any_offer m).fresh
  pub large : (op : ℕ) (args : List (ValueOver ObjData MorData)) (rows columns : ℕ) → (any_offer l).large op args rows columns → (any_offer m).large op args rows columns

pub record OfferGoesByLabel : Type 0 where
  pub is : (l : Label) → IsOfferOf l
  pub same : (l m : Label) → l ≡ m → AreOneOffer l m

-- each rule that is allowed for the kind holds in the category: its kind is that of additive closures, or it is abelian
abbrev pub RulesHold : Type 0
RulesHold = (l : Label) → ((any_offer l).kind ≡ Add) ⊎ IsAbelian (any_offer l).category

-- an answer on arguments that fit is the canonical one of the kind
abbrev pub IsCanonicalIn : Label → ℕ → List (ValueOver ObjData MorData) → ValueOver ObjData MorData → Type 0
IsCanonicalIn (vec p) op args v = IsCanonical p op (read_values (vec_data p) matrix_reading args) (read_value (vec_data p) matrix_reading v)

abbrev pub AnswersAreCanonical : Type 0
AnswersAreCanonical = (l : Label) → IsTabled l → (op : ℕ) (args : List (ValueOver ObjData MorData)) (v : ValueOver ObjData MorData) → Fits (over (prime_of_label l)) op args
    → (any_offer l).answer op args v → IsCanonicalIn l op args v

-- a literal stands for at most one datum
abbrev pub ReadsOnce : {D : Type 0} → Literal D → Type 0
ReadsOnce {D} L = (x y : D) → L.reads x → L.reads y → x ≡ y

pub record LiteralsAreOne : Type 0 where
  pub objects : (l : Label) (lit : ObjLit) → ReadsOnce (object_literal l lit)
  pub morphisms : (l : Label) (a b : ObjData) (lit : MorLit) → ReadsOnce (morphism_literal l a b lit)
