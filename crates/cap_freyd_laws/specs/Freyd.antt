-- The Freyd category of a linear category, in the constructive form of Posur.
use Rattle.cap_laws.specs.Linear.{CategoryData, Arrow}
use Rattle.cap_laws.specs.Factor.{Through}
use Rattle.cap_laws.specs.Universal.{subtract}
use Rattle.cap_freyd_laws.specs.declared.values.Presentation.{Presentation}
use Rattle.cap_freyd_laws.specs.declared.values.PresentationMor.{PresentationMor}

-- alpha is a morphism from the relation a to the relation b: some omega has a·alpha = omega·b
pub record IsFreydMorphism {Obj Mor : Type 0} (C : CategoryData Obj Mor) (a b alpha : Mor) : Type 0 where
  pub from : C.is_morphism a
  pub to : C.is_morphism b
  pub arrow : Arrow C (C.target a) (C.target b) alpha
  pub omega : Through C (C.source a) (C.source b) (C.target b) b (C.compose a alpha)

-- the objects are the morphisms of C, each the relation of what it presents; a morphism goes between the targets of two relations;
-- f and g are congruent where some sigma has f − g = sigma·b, for the relation b of their target
abbrev pub freyd_data : {Obj Mor : Type 0} → CategoryData Obj Mor → CategoryData (Presentation Mor) (PresentationMor Mor)
freyd_data C = record {
  prime = C.prime;
  is_object = λ a. C.is_morphism a.relation;
  is_morphism = λ f. IsFreydMorphism C f.from.relation f.to.relation f.alpha;
  source = λ f. f.from;
  target = λ f. f.to;
  identity = λ a. record { from = a; to = a; alpha = C.identity (C.target a.relation) };
  compose = λ f g. record { from = f.from; to = g.to; alpha = C.compose f.alpha g.alpha };
  congruent = λ f g. Through C (C.target f.from.relation) (C.source f.to.relation) (C.target f.to.relation) f.to.relation (subtract C f.alpha g.alpha);
  zero = λ a b. record { from = a; to = b; alpha = C.zero (C.target a.relation) (C.target b.relation) };
  add = λ f g. record { from = f.from; to = f.to; alpha = C.add f.alpha g.alpha };
  scale = λ n f. record { from = f.from; to = f.to; alpha = C.scale n f.alpha };
}
