-- One morphism above another, and weak preimages.
use Rattle.std.proofs.Common.{◌-◌}
use Rattle.cap_laws.specs.Linear.{CategoryData, IsLinear, Arrow, Same}
use Rattle.cap_laws.specs.Universal.{Some-arrow, IsDirectSum, IsWeakKernel}
use Rattle.cap_laws.proofs.Calculus.{from-object, same, back, ◌⟫◌ as join, composed, added, assoc, unit-left, add-zero, zero-add, compose-add, add-compose, scale-compose, zero-compose, negate-arrow, add-negate}
use Rattle.cap_laws.proofs.Textbook.{first-of, second-of}
use Rattle.cap_laws.specs.Factor.{Through, IsPreimage, rows, Parts}
use Rattle.cap_laws.proofs.Differences.{negate-of}
use Rattle.cap_laws.proofs.Factor.{through-same, through-by, through-add, through-scale, through-before}

module _ {Obj Mor : Type 0} {C : CategoryData Obj Mor} (L : IsLinear C) where
  infixr 5 ◌⟫◌
  ◌⟫◌ : {a b : Obj} {f g h : Mor} → Same C a b f g → Same C a b g h → Same C a b f h
  ◌⟫◌ s t = join L s t

  pub rows-arrow : {s a b c : Obj} {i1 i2 p1 p2 f g : Mor} → IsDirectSum C s a b i1 i2 p1 p2 → Arrow C a c f → Arrow C b c g → Arrow C s c (rows C p1 p2 f g)
  rows-arrow D p q = L.add_arrow (L.compose_arrow D.out1 p) (L.compose_arrow D.out2 q)

  pub after-rows : {x s a b c : Obj} {i1 i2 p1 p2 f g w : Mor} → IsDirectSum C s a b i1 i2 p1 p2 → Arrow C a c f → Arrow C b c g → Arrow C x s w → Same C x c (C.compose w (rows C p1 p2 f g)) (C.add (C.compose (C.compose w p1) f) (C.compose (C.compose w p2) g))
  after-rows D p q w = compose-add L w (L.compose_arrow D.out1 p) (L.compose_arrow D.out2 q) ⟫ added L (back L (assoc L w D.out1 p)) (back L (assoc L w D.out2 q))

  pub in1-rows : {s a b c : Obj} {i1 i2 p1 p2 f g : Mor} → IsDirectSum C s a b i1 i2 p1 p2 → Arrow C a c f → Arrow C b c g → Same C a c (C.compose i1 (rows C p1 p2 f g)) f
  in1-rows D p q = after-rows D p q D.in1 ⟫ added L (composed L D.unit1 (same L p) ⟫ unit-left L p) (composed L D.zero12 (same L q) ⟫ zero-compose L (from-object L p) q) ⟫ add-zero L p

  pub in2-rows : {s a b c : Obj} {i1 i2 p1 p2 f g : Mor} → IsDirectSum C s a b i1 i2 p1 p2 → Arrow C a c f → Arrow C b c g → Same C b c (C.compose i2 (rows C p1 p2 f g)) g
  in2-rows D p q = after-rows D p q D.in2 ⟫ added L (composed L D.zero21 (same L p) ⟫ zero-compose L (from-object L q) p) (composed L D.unit2 (same L q) ⟫ unit-left L q) ⟫ zero-add L q

  -- each part factors through the two
  pub first-through : {s a b c : Obj} {i1 i2 p1 p2 f g : Mor} → IsDirectSum C s a b i1 i2 p1 p2 → Arrow C a c f → Arrow C b c g → Through C a s c (rows C p1 p2 f g) f
  first-through D p q = through-same L (back L (in1-rows D p q)) (through-by L D.in1 (rows-arrow D p q))

  pub second-through : {s a b c : Obj} {i1 i2 p1 p2 f g : Mor} → IsDirectSum C s a b i1 i2 p1 p2 → Arrow C a c f → Arrow C b c g → Through C b s c (rows C p1 p2 f g) g
  second-through D p q = through-same L (back L (in2-rows D p q)) (through-by L D.in2 (rows-arrow D p q))

  -- the two, followed by t, factor where each does
  pub rows-through : {s a b c r d : Obj} {i1 i2 p1 p2 f g t rho : Mor} → IsDirectSum C s a b i1 i2 p1 p2 → Arrow C a c f → Arrow C b c g → Arrow C c d t → Through C a r d rho (C.compose f t) → Through C b r d rho (C.compose g t) → Through C s r d rho (C.compose (rows C p1 p2 f g) t)
  rows-through D p q t S T =
      through-same L (add-compose L (L.compose_arrow D.out1 p) (L.compose_arrow D.out2 q) t ⟫ added L (assoc L D.out1 p t) (assoc L D.out2 q t))
      (through-add L (through-before L D.out1 S) (through-before L D.out2 T))

  pub parts : {x s a b c : Obj} {i1 i2 p1 p2 f g h : Mor} → IsDirectSum C s a b i1 i2 p1 p2 → Arrow C a c f → Arrow C b c g → Through C x s c (rows C p1 p2 f g) h → Parts C x a b c f g h
  parts {x} {s} {a} {b} {c} {i1} {i2} {p1} {p2} D p q t = record {
    u = C.compose t.by p1;
    v = C.compose t.by p2;
    first = L.compose_arrow t.arrow D.out1;
    second = L.compose_arrow t.arrow D.out2;
    holds = t.holds ⟫ after-rows D p q t.arrow;
  }

  -- where m is some v·w, m·p factors through w·p
  through-lift : {o k s a : Obj} {w m p h : Mor} → Arrow C k s w → Arrow C s a p → Some-arrow C o k (λ u. Same C o s (C.compose u w) m) → Same C o a (C.compose m p) h → Through C o k a (C.compose w p) h
  through-lift W P v t = through-same L (back L t ⟫ composed L (back L v.holds) (same L P) ⟫ assoc L v.arrow W P) (through-by L v.arrow (L.compose_arrow W P))

  -- the first part of a weak kernel of the two is a weak preimage
  pub preimage-is : {k s a b c : Obj} {i1 i2 p1 p2 f g w : Mor} → IsDirectSum C s a b i1 i2 p1 p2 → Arrow C a c f → Arrow C b c g → IsWeakKernel C k s c (rows C p1 p2 f g) w → IsPreimage C k a b c f g (C.compose w p1)
  preimage-is {k} {s} {a} {b} {c} {i1} {i2} {p1} {p2} {f} {g} {w} D p q K =
      let first = L.compose_arrow K.arrow D.out1 in
      let second = L.compose_arrow K.arrow D.out2 in
      record {
        arrow = first;
        through = through-same L (negate-of L (L.compose_arrow first p) (L.compose_arrow second q) (back L (after-rows D p q K.arrow) ⟫ K.zero)) (through-scale L (C.prime - 1) (through-by L second q));
        lift = λ {o} {s = h} H T.
            let n = negate-arrow L T.arrow in
            let m = L.add_arrow (L.compose_arrow H D.in1) (L.compose_arrow n D.in2) in
            let one = first-of L D H n in
            let two = second-of L D H n in
            let z = after-rows D p q m ⟫ added L (composed L one (same L p) ⟫ T.holds) (composed L two (same L q) ⟫ scale-compose L (C.prime - 1) T.arrow q) ⟫ add-negate L (L.compose_arrow T.arrow q) in
            through-lift K.arrow D.out1 (K.lift m z) one;
      }
