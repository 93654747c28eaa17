-- Morphisms that split over a middle object. A linear category in which every morphism does is abelian up to direct sums.
use Rattle.cap_laws.specs.Linear.{CategoryData, Arrow, Same}

-- a generalized inverse of f: a→b: a by: b→a with f·by·f = f
pub record HasReturn {Obj Mor : Type 0} (C : CategoryData Obj Mor) (a b : Obj) (f : Mor) : Type 0 where
  pub by : Mor
  pub arrow : Arrow C b a by
  pub is : Same C a b (C.compose (C.compose f by) f) f

-- f: a→b splits over a middle object: f = left·right, where right = onto·f and right·section = 1
pub record HasSplit {Obj Mor : Type 0} (C : CategoryData Obj Mor) (a b : Obj) (f : Mor) : Type 0 where
  pub middle : Obj
  pub left : Mor
  pub right : Mor
  pub onto : Mor
  pub section : Mor
  pub left_arrow : Arrow C a middle left
  pub right_arrow : Arrow C middle b right
  pub onto_arrow : Arrow C middle a onto
  pub section_arrow : Arrow C b middle section
  pub whole : Same C a b (C.compose left right) f
  pub reached : Same C middle b (C.compose onto f) right
  pub unit : Same C middle middle (C.compose right section) (C.identity middle)

-- every morphism splits
pub record HasSplits {Obj Mor : Type 0} (C : CategoryData Obj Mor) : Type 0 where
  pub split : {a b : Obj} {f : Mor} → Arrow C a b f → HasSplit C a b f
