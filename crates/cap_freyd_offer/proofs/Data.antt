-- The objects and morphisms of the offer are relations and the matrices between them.
use Rattle.std.proofs.Common.{◌≡◌, refl, sym, ap, ◌∙◌, subst}
use Rattle.cap_laws.specs.Linear.{Arrow}
use Rattle.cap_laws.specs.Factor.{Through}
use Rattle.cap_laws.specs.Table.{TableData, IsTable}
use Rattle.cap_add_laws.specs.Closure.{MorphismMatrix, closure_data}
use Rattle.cap_add_laws.proofs.Linear.{closure-linear}
use Rattle.cap_freyd_laws.specs.Freyd.{IsFreydMorphism, freyd_data}
use Rattle.cap_ops.specs.Arrows.{Between}
use Rattle.cap_ops.specs.Told.{IsArrow}
use Rattle.cap_data.specs.declared.data.ObjData.{ObjData}
use Rattle.cap_data.specs.declared.data.MorData.{MorData}
use Rattle.cap_data.specs.declared.data.MorData.TheVariants.{Entries}
use Rattle.cap_alike.specs.Along.{IsObjectDatum, along}
use Rattle.cap_encoded.specs.OfFreyd.{read_relation, read_alpha, read_square, freyd_reading}
use Rattle.cap_freyd_offer.specs.Offer.{freyd_offer}
use Rattle.cap_freyd_offer.specs.Laws.{IsRelation, ObjectsAreRelations, IsSquare, MorphismsAreSquares}

-- a relation is an object
pub relation-object : (T : TableData) (a : ObjData) (rho : MorphismMatrix) → IsRelation T a rho → IsObjectDatum (freyd_data (closure_data T)) freyd_reading a
relation-object T a rho h = subst (λ x. IsObjectDatum (freyd_data (closure_data T)) freyd_reading x) (sym h.value) (record { is = h.is; written = refl })

-- which is read as it
pub relation-read : (T : TableData) (a : ObjData) (rho : MorphismMatrix) → IsRelation T a rho → (read_relation a).relation ≡ rho
relation-read T a rho h = ap (λ x. (read_relation x).relation) h.value

-- and each object is one
pub object-relation : (T : TableData) (a : ObjData) → IsObjectDatum (freyd_data (closure_data T)) freyd_reading a → IsRelation T a (read_relation a).relation
object-relation T a h = record { value = sym h.written; is = h.is }

pub objects_are : ObjectsAreRelations
unfolding freyd_offer
objects_are = λ T a. (λ o. ((read_relation a).relation, object-relation T a o), λ x. relation-object T a x.0 x.1)

-- a matrix between relations is a morphism
module _ (T : TableData) (V : IsTable T) (f : Between ObjData MorData) (S : IsSquare T f) where
  read-alpha : (read_square f.src f.tgt f.value).alpha ≡ S.alpha
  read-alpha =
      let a = ap (λ m. m.to) (relation-read T f.src S.rho S.src) ∙ sym S.from in
      let b = ap (λ m. m.to) (relation-read T f.tgt S.sigma S.tgt) ∙ sym S.to in
      let e = ap read_alpha S.value in
      ap {B = MorphismMatrix} (λ x. record { from = x; to = (read_relation f.tgt).relation.to; entries = read_alpha f.value }) a
      ∙ ap {B = MorphismMatrix} (λ y. record { from = S.alpha.from; to = y; entries = read_alpha f.value }) b
      ∙ ap {B = MorphismMatrix} (λ z. record { from = S.alpha.from; to = S.alpha.to; entries = z }) e

  omega-through : Through (closure_data T) S.rho.from S.sigma.from S.sigma.to S.sigma ((closure_data T).compose S.rho S.alpha)
  omega-through =
      let L = closure-linear V in
      let R : Arrow (closure_data T) S.rho.from S.rho.to S.rho = record { is = S.src.is; from = refl; to = refl } in
      let A : Arrow (closure_data T) S.rho.to S.sigma.to S.alpha = record { is = S.is; from = S.from; to = S.to } in
      let G : Arrow (closure_data T) S.sigma.from S.sigma.to S.sigma = record { is = S.tgt.is; from = refl; to = refl } in
      let O : Arrow (closure_data T) S.rho.from S.sigma.from S.omega = record { is = S.over; from = S.over_from; to = S.over_to } in
      record { over = G; by = S.omega; arrow = O; holds = record { left = L.compose_arrow R A; right = L.compose_arrow O G; congruent = sym S.commutes } }

  square-is : IsFreydMorphism (closure_data T) S.rho S.sigma S.alpha
  square-is = record { from = S.src.is; to = S.tgt.is; arrow = record { is = S.is; from = S.from; to = S.to }; omega = omega-through }

  pub square-arrow : IsArrow (along (freyd_data (closure_data T)) freyd_reading) f
  square-arrow =
      let K = closure_data T in
      let src = relation-object T f.src S.rho S.src in
      let tgt = relation-object T f.tgt S.sigma S.tgt in
      let r = relation-read T f.src S.rho S.src in
      let s = relation-read T f.tgt S.sigma S.tgt in
      record {
        src = src;
        tgt = tgt;
        is = record {
          src = src;
          tgt = tgt;
          is = record {
            is = subst (λ x. IsFreydMorphism K x (read_relation f.tgt).relation (read_square f.src f.tgt f.value).alpha) (sym r)
                (subst (λ y. IsFreydMorphism K S.rho y (read_square f.src f.tgt f.value).alpha) (sym s) (subst (λ m. IsFreydMorphism K S.rho S.sigma m) (sym read-alpha) square-is));
            from = refl;
            to = refl;
          };
          written = subst (λ m. Entries (read_alpha m) ≡ m) (sym S.value) refl;
        };
      }

-- and each morphism is one
pub arrow-square : (T : TableData) (f : Between ObjData MorData) → IsArrow (along (freyd_data (closure_data T)) freyd_reading) f → IsSquare T f
arrow-square T f F =
    let m = F.is.is.is in
    record {
      rho = (read_relation f.src).relation;
      sigma = (read_relation f.tgt).relation;
      alpha = (read_square f.src f.tgt f.value).alpha;
      omega = m.omega.by;
      src = object-relation T f.src F.src;
      tgt = object-relation T f.tgt F.tgt;
      value = sym F.is.written;
      is = m.arrow.is;
      from = refl;
      to = refl;
      over = m.omega.arrow.is;
      over_from = m.omega.arrow.from;
      over_to = m.omega.arrow.to;
      commutes = sym m.omega.holds.congruent;
    }

pub morphisms_are : MorphismsAreSquares
unfolding freyd_offer
morphisms_are = λ T V f. (λ F. arrow-square T f F, λ S. square-arrow T V f S)
