-- The offers of labels.
use Rattle.std.proofs.Common.{◌≡◌, ℕ, refl, sym, subst, inr}
use Rattle.std.specs.Prelude.{Result, Ok, Err, IfOk}
use Rattle.cap_data.specs.declared.data.ObjData.{ObjData}
use Rattle.cap_data.specs.declared.data.ObjData.TheVariants.{Dim}
use Rattle.cap_data.specs.declared.data.MorData.{MorData}
use Rattle.cap_data.specs.OfMatrices.{read_dimension}
use Rattle.cap_ops.specs.Told.{IsArrow}
use Rattle.cap_primitives.specs.Given.{from_to}
use Rattle.cap_names.specs.declared.literals.MorLit.{MorLit}
use Rattle.cap_names.specs.declared.literals.MorLit.TheVariants as morphisms
use Rattle.cap_offer.specs.declared.faults.LitFault.{LitFault}
use Rattle.cap_offer.specs.Literals.{IsGiven, Gives, morphism_literal}
use Rattle.cap_vec_offer.specs.Members.{offer_kind, offer_weights, offer_prime, offer_abelian}
use Rattle.cap_vec_offer.proofs.Canonical.{canonical}
use Rattle.cap_vec_offer.proofs.Data.{objects_are, morphisms_are}
use Rattle.cap_offer.specs.Labels.{Label, vec, any_offer}
use Rattle.cap_offer.specs.Laws.{IsTabled, IsOfferOf, AreOneOffer, OfferGoesByLabel, RulesHold, AnswersAreCanonical}

is_offer_of : (l : Label) → IsOfferOf l
is_offer_of (vec p) = record { kind = offer_kind p; weights = offer_weights p; prime = offer_prime p }

one_offer : (l : Label) → AreOneOffer l l
one_offer l = record { kind = refl; weights = refl; objects = λ a o. o; answers = λ op args v x. x; fresh = refl; large = λ op args rows columns x. x }

pub goes_by_label : OfferGoesByLabel
goes_by_label = record { is = is_offer_of; same = λ l m e. subst (λ x. AreOneOffer l x) e (one_offer l) }

pub rules_hold : RulesHold
rules_hold (vec p) = inr (offer_abelian p)

pub are_canonical : AnswersAreCanonical
are_canonical (vec p) t op args v fits answer = canonical p t op args v fits answer

-- dimensions are objects
pub dimension-object : (l : Label) (n : ℕ) (x : ObjData) → x ≡ Dim n → (any_offer l).category.is_object x
dimension-object (vec p) n x e = (objects_are p x).1 (n, e)

same-dimension : (a : ObjData) (n : ℕ) → a ≡ Dim n → a ≡ Dim (read_dimension a)
same-dimension a n e = subst (λ x. x ≡ Dim (read_dimension x)) (sym e) refl

-- what a literal stands for is a morphism between its objects
pub literal-arrow : (l : Label) (a b : ObjData) (lit : MorLit) (m : MorData) → IsTabled l → (any_offer l).category.is_object a → (any_offer l).category.is_object b
    → IsGiven (morphism_literal l a b lit) m → IsArrow (any_offer l).category (from_to a b m)
literal-arrow (vec p) a b (morphisms.Rows w) m t A B given =
    let from = (objects_are p a).0 A in
    let to = (objects_are p b).0 B in
    (morphisms_are p t (from_to a b m)).1 (record {
      rows = read_dimension a;
      columns = read_dimension b;
      matrix = given.reads.0;
      src = same-dimension a from.0 from.1;
      tgt = same-dimension b to.0 to.1;
      value = given.reads.1;
      is = given.reads.2.is;
    })
literal-arrow (vec p) a b (morphisms.Parts ws) m t A B given = absurd given.reads

pub answer-arrow : (l : Label) (a b : ObjData) (lit : MorLit) (r : Result MorData LitFault) → IsTabled l → (any_offer l).category.is_object a → (any_offer l).category.is_object b
    → Gives (morphism_literal l a b lit) r → IfOk r (λ m. IsArrow (any_offer l).category (from_to a b m))
answer-arrow l a b lit (Ok m) t A B given = literal-arrow l a b lit m t A B given
answer-arrow l a b lit (Err e) t A B given = tt
