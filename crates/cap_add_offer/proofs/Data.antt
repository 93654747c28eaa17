-- The objects and morphisms of the offer are lists of table objects and matrices of combinations.
use Rattle.std.proofs.Common.{◌≡◌, ℕ, List, refl, sym, ap, ◌∙◌, subst}
use Rattle.std.specs.Prelude.{◌↔◌}
use Rattle.cap_laws.specs.Linear.{Arrow}
use Rattle.cap_laws.specs.Table.{TableData}
use Rattle.cap_add_laws.specs.Closure.{AreObjects, MorphismMatrix, IsMorphismMatrix, closure_data}
use Rattle.cap_ops.specs.Arrows.{Between}
use Rattle.cap_ops.specs.Told.{IsArrow}
use Rattle.cap_data.specs.declared.data.ObjData.{ObjData}
use Rattle.cap_data.specs.declared.data.ObjData.TheVariants.{Parts}
use Rattle.cap_data.specs.declared.data.MorData.{MorData}
use Rattle.cap_data.specs.declared.data.MorData.TheVariants.{Entries}
use Rattle.cap_alike.specs.Along.{IsObjectDatum, along}
use Rattle.cap_encoded.specs.OfClosures.{read_list, read_entries, closure_reading}
use Rattle.cap_encoded.specs.ReadsClosures.{matrix-parts}
use Rattle.cap_add_offer.specs.Offer.{list_offer}
use Rattle.cap_add_offer.specs.Laws.{ObjectsAreLists, IsMatrixBetween, MorphismsAreEntries}

module _ (T : TableData) where
  pub list-object : (a : ObjData) (parts : List ℕ) → a ≡ Parts parts → AreObjects T parts → IsObjectDatum (closure_data T) closure_reading a
  list-object a parts e are = record { is = subst (λ x. AreObjects T (read_list x)) (sym e) are; written = subst (λ x. Parts (read_list x) ≡ x) (sym e) refl }

  pub objects-are : (a : ObjData) → (list_offer T).category.is_object a ↔ ((parts : List ℕ) × (a ≡ Parts parts) × AreObjects T parts)
  unfolding list_offer
  objects-are a = (λ o. (read_list a, sym o.written, o.is), λ x. list-object a x.0 x.1 x.2)

  pub matrix-arrow : (f : Between ObjData MorData) → IsMatrixBetween T f → IsArrow (along (closure_data T) closure_reading) f
  matrix-arrow f M =
      let S = list-object f.src M.matrix.from M.src M.is.from in
      let U = list-object f.tgt M.matrix.to M.tgt M.is.to in
      let from : M.matrix.from ≡ read_list f.src = sym (ap read_list M.src) in
      let to : M.matrix.to ≡ read_list f.tgt = sym (ap read_list M.tgt) in
      let same : ◌≡◌ {A = MorphismMatrix} (record { from = read_list f.src; to = read_list f.tgt; entries = read_entries f.value }) M.matrix =
      ap {B = MorphismMatrix} (λ es. record { from = read_list f.src; to = read_list f.tgt; entries = es }) (ap read_entries M.value) ∙ matrix-parts M.matrix (read_list f.src) (read_list f.tgt) from to
      in
      record {
        src = S;
        tgt = U;
        is = record {
          src = S;
          tgt = U;
          is = record { is = subst (λ (m : MorphismMatrix). IsMorphismMatrix T m) (sym same) M.is; from = refl; to = refl };
          written = subst (λ m. Entries (read_entries m) ≡ m) (sym M.value) refl;
        };
      }

  pub arrow-matrix : (f : Between ObjData MorData) → IsArrow (along (closure_data T) closure_reading) f → IsMatrixBetween T f
  arrow-matrix f F = record {
    matrix = record { from = read_list f.src; to = read_list f.tgt; entries = read_entries f.value };
    src = sym F.src.written;
    tgt = sym F.tgt.written;
    value = sym F.is.written;
    is = F.is.is.is;
  }

pub objects_are : ObjectsAreLists
objects_are = λ T a. objects-are T a

pub morphisms_are : MorphismsAreEntries
unfolding list_offer
morphisms_are = λ T f. (λ F. arrow-matrix T f F, λ M. matrix-arrow T f M)
