-- Factoring through a morphism, up to congruence. With relations for rho it carries Freyd categories, homology and objects without relations.
use Rattle.cap_laws.specs.Linear.{CategoryData, Arrow, Same}

-- alpha: x→b factors through rho: r→b: it is some by·rho
pub record Through {Obj Mor : Type 0} (C : CategoryData Obj Mor) (x r b : Obj) (rho alpha : Mor) : Type 0 where
  pub over : Arrow C r b rho
  pub by : Mor
  pub arrow : Arrow C x r by
  pub holds : Same C x b alpha (C.compose by rho)

-- p: k→x is a weak preimage of g: y→z along f: x→z: p·f factors through g, and every s for which s·f does factors through p
pub record IsPreimage {Obj Mor : Type 0} (C : CategoryData Obj Mor) (k x y z : Obj) (f g p : Mor) : Type 0 where
  pub arrow : Arrow C k x p
  pub through : Through C k y z g (C.compose p f)
  pub lift : {o : Obj} {s : Mor} → Arrow C o x s → Through C o y z g (C.compose s f) → Through C o k x p s

-- f above g, out of the direct sum of their sources with the parts p1 and p2: p1·f + p2·g
abbrev pub rows : {Obj Mor : Type 0} → CategoryData Obj Mor → Mor → Mor → Mor → Mor → Mor
rows C p1 p2 f g = C.add (C.compose p1 f) (C.compose p2 g)

-- h: x→c is some u·f + v·g, for f: a→c and g: b→c
pub record Parts {Obj Mor : Type 0} (C : CategoryData Obj Mor) (x a b c : Obj) (f g h : Mor) : Type 0 where
  pub u : Mor
  pub v : Mor
  pub first : Arrow C x a u
  pub second : Arrow C x b v
  pub holds : Same C x c h (C.add (C.compose u f) (C.compose v g))
