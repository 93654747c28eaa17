-- Arguments that are known: objects, morphisms between them, residues; and those that are known one by one are known together.
use Rattle.std.proofs.Common.{◌≡◌, ℕ, ◌<◌, List, [], ◌∷◌, ◌++◌, map, refl, sym, ap, subst}
use Rattle.std.specs.Prelude.{Option, Some, slice_get}
use Rattle.cap_names.specs.declared.identifiers.Handle.{Handle}
use Rattle.cap_ops.specs.declared.arrows.Arrow.{Arrow}
use Rattle.cap_ops.specs.declared.keys.Arg.{Arg}
use Rattle.cap_ops.specs.declared.keys.Arg.TheVariants.{Obj, Mor, Num}
use Rattle.cap_ops.specs.Arrows.{ValueOver, argument, arguments}
use Rattle.cap_ops.specs.Primitives.{prime_of}
use Rattle.cap_ops.specs.Told.{Tells, TellsAll, IsArrow, IsDatum, AreData, Known, told_in}
use Rattle.cap_ops.specs.Values.{object, morphism, scalar}
use Rattle.cap_ops.proofs.Telling.{tells-snoc, data-snoc}
use Rattle.cap_data.specs.declared.data.ObjData.{ObjData}
use Rattle.cap_data.specs.declared.data.ObjData.TheVariants.{Dim}
use Rattle.cap_data.specs.declared.data.MorData.{MorData}
use Rattle.cap_primitives.specs.Given.{from_to}
use Rattle.cap_offer.specs.Labels.{Label, any_offer}
use Rattle.cap_offer.proofs.Offers.{dimension-object}

map-snoc : {A B : Type 0} (f : A → B) (xs : List A) (x : A) → map f (xs ++ x ∷ []) ≡ map f xs ++ f x ∷ []
map-snoc f [] x = refl
map-snoc f (a ∷ xs) x = ap (λ ys. f a ∷ ys) (map-snoc f xs x)

module _ (l : Label) where
  abbrev AreKnown : (Handle → Option ObjData) → List (Arg MorData) → Type 0
  AreKnown told args = Known (any_offer l).category told (arguments args)

  -- the datum of one argument
  one-datum : (told : Handle → Option ObjData) (a : Arg MorData) (ds : List (ValueOver ObjData MorData)) → TellsAll told (argument a ∷ []) ds → AreData (any_offer l).category ds
      → (d : ValueOver ObjData MorData) × Tells told (argument a) d × IsDatum (any_offer l).category d
  one-datum told a [] tells are = absurd tells
  one-datum told a (d ∷ []) tells are = (d, tells.0, are.0)
  one-datum told a (d ∷ e ∷ ds) tells are = absurd tells.1

  pub more-known : (told : Handle → Option ObjData) (args : List (Arg MorData)) (a : Arg MorData) → AreKnown told args → AreKnown told (a ∷ []) → AreKnown told (args ++ a ∷ [])
  more-known told args a known here =
      let one = one-datum told a here.data_of here.tells here.are in
      subst (Known (any_offer l).category told) (sym (map-snoc argument args a)) (record {
        data_of = known.data_of ++ one.0 ∷ [];
        tells = tells-snoc told (arguments args) known.data_of (argument a) one.0 known.tells one.1;
        are = data-snoc (any_offer l).category known.data_of one.0 known.are one.2;
      })

  pub none-known : (told : Handle → Option ObjData) → AreKnown told []
  none-known told = record { data_of = []; tells = tt; are = tt }

  pub object-known : (objects : List ObjData) (h : Handle) (n : ℕ) → slice_get objects h.0 ≡ Some (Dim n) → AreKnown (told_in objects) (Obj h ∷ [])
  object-known objects h n e = record { data_of = object (Dim n) ∷ []; tells = (e, tt); are = (dimension-object l n (Dim n) refl, tt) }

  pub arrow-known : (told : Handle → Option ObjData) (f : Arrow MorData) (a b : ObjData) → told f.src ≡ Some a → told f.tgt ≡ Some b
      → IsArrow (any_offer l).category (from_to a b f.value) → AreKnown told (Mor f ∷ [])
  arrow-known told f a b src tgt is = record { data_of = morphism (from_to a b f.value) ∷ []; tells = (record { src = src; tgt = tgt; value = refl }, tt); are = (is, tt) }

  pub residue-known : (told : Handle → Option ObjData) (n : ℕ) → n < prime_of (any_offer l) → AreKnown told (Num n ∷ [])
  residue-known told n small = record { data_of = scalar n ∷ []; tells = (refl, tt); are = (small, tt) }
