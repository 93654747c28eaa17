-- What categories of every kind are as plain data, and what they offer.
use Rattle.std.specs.Prelude.{ℕ}
use Rattle.cap_ops.specs.declared.plans.Kind.{Kind}
use Rattle.cap_ops.specs.declared.plans.Kind.TheVariants.{Mat}
use Rattle.cap_ops.specs.Primitives.{OfferData}
use Rattle.cap_data.specs.declared.data.ObjData.{ObjData}
use Rattle.cap_data.specs.declared.data.MorData.{MorData}
use Rattle.cap_vec_offer.specs.Offer.{matrix_offer}
use Rattle.cap_offer.specs.declared.any.Over.{Over}
use Rattle.cap_offer.specs.declared.any.Over.TheVariants.{Matrices}

-- a category: its kind, and what it is over
pub data Label : Type 0 where
  -- matrices over the field of p elements
  vec : ℕ → Label

-- the label of what a category is made of
abbrev pub label_of : Over → Label
label_of (Matrices p) = vec p

-- its kind, the prime that its residues are below, and what it offers
abbrev pub kind_of : Label → Kind
kind_of (vec p) = Mat

abbrev pub prime_of_label : Label → ℕ
prime_of_label (vec p) = p

abbrev pub any_offer : Label → OfferData ObjData MorData
any_offer (vec p) = matrix_offer p
