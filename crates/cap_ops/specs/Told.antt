-- What a value's data are, where names of objects tell objects, and when data are those of a category.
use Rattle.std.specs.Prelude.{◌≡◌, ◌<◌, List, [], ◌∷◌, Option, Some, slice_get}
use Rattle.cap_names.specs.declared.identifiers.Handle.{Handle}
use Rattle.cap_laws.specs.Linear.{CategoryData}
use Rattle.cap_ops.specs.declared.arrows.End.{End}
use Rattle.cap_ops.specs.declared.arrows.End.TheVariants.{Old, New}
use Rattle.cap_ops.specs.Values.{object, morphism, two, four, truth, scalar, none}
use Rattle.cap_ops.specs.Arrows.{Between, ValueOver}

-- g is f with objects for the names of its ends
pub record TellsArrow {E O M : Type 0} (look : E → Option O) (f : Between E M) (g : Between O M) : Type 0 where
  pub src : look f.src ≡ Some g.src
  pub tgt : look f.tgt ≡ Some g.tgt
  pub value : f.value ≡ g.value

-- d is v with objects for their names
abbrev pub Tells : {E O M : Type 0} → (E → Option O) → ValueOver E M → ValueOver O M → Type 0
Tells look (object e) (object a) = look e ≡ Some a
Tells look (morphism f) (morphism g) = TellsArrow look f g
Tells look (two f1 f2) (two g1 g2) = TellsArrow look f1 g1 × TellsArrow look f2 g2
Tells look (four f1 f2 f3 f4) (four g1 g2 g3 g4) = TellsArrow look f1 g1 × TellsArrow look f2 g2 × TellsArrow look f3 g3 × TellsArrow look f4 g4
Tells look (truth b) (truth c) = b ≡ c
Tells look (scalar m) (scalar n) = m ≡ n
Tells look none none = Unit {0}
Tells look _ _ = ⊥

abbrev pub TellsAll : {E O M : Type 0} → (E → Option O) → List (ValueOver E M) → List (ValueOver O M) → Type 0
TellsAll look [] [] = Unit {0}
TellsAll look (v ∷ vs) (d ∷ ds) = Tells look v d × TellsAll look vs ds
TellsAll look _ _ = ⊥

module _ {O M : Type 0} (C : CategoryData O (Between O M)) where
  -- a morphism of the category, between objects of it
  pub record IsArrow (f : Between O M) : Type 0 where
    pub src : C.is_object f.src
    pub tgt : C.is_object f.tgt
    pub is : C.is_morphism f

  -- objects, morphisms and residues of the category
  abbrev pub IsDatum : ValueOver O M → Type 0
  IsDatum (object a) = C.is_object a
  IsDatum (morphism f) = IsArrow f
  IsDatum (two p q) = IsArrow p × IsArrow q
  IsDatum (four p q r s) = IsArrow p × IsArrow q × IsArrow r × IsArrow s
  IsDatum (truth b) = Unit {0}
  IsDatum (scalar n) = n < C.prime
  IsDatum none = Unit {0}

  abbrev pub AreData : List (ValueOver O M) → Type 0
  AreData [] = Unit {0}
  AreData (d ∷ ds) = IsDatum d × AreData ds

  abbrev pub AreObjects : List O → Type 0
  AreObjects [] = Unit {0}
  AreObjects (a ∷ rest) = C.is_object a × AreObjects rest

  -- the names are told, and the data are the category's
  pub record Known {E : Type 0} (look : E → Option O) (vs : List (ValueOver E M)) : Type 0 where
    pub data_of : List (ValueOver O M)
    pub tells : TellsAll look vs data_of
    pub are : AreData data_of

  -- the ends of a morphism are those that it names
  pub record HasPlainEnds : Type 0 where
    pub source : C.source ≡ (λ f. f.src)
    pub target : C.target ≡ (λ f. f.tgt)

-- the object of an end, where these are the new ones
abbrev pub end_object : {O : Type 0} → (Handle → Option O) → List O → End → Option O
end_object told fresh (Old h) = told h
end_object told fresh (New k) = slice_get fresh k

-- a handle is a place in the list of the objects told
abbrev pub told_in : {O : Type 0} → List O → Handle → Option O
told_in objects h = slice_get objects h.0

-- what was told stays
abbrev pub StaysTold : {O : Type 0} → (Handle → Option O) → (Handle → Option O) → Type 0
StaysTold {O} told told' = (h : Handle) (o : O) → told h ≡ Some o → told' h ≡ Some o
