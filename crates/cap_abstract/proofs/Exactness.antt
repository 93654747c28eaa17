-- Homology and exactness.
use Rattle.cap_laws.specs.Linear.{CategoryData, IsLinear, Arrow, Same}
use Rattle.cap_laws.specs.Universal.{Some-arrow, IsKernel, IsCokernel, IsWeakKernel, IsWeakCokernel, IsHomology, IsExact}
use Rattle.cap_laws.proofs.Calculus.{from-object, to-object, same, back, ◌⟫◌ as join, composed, assoc, compose-zero, zero-compose}
use Rattle.cap_laws.proofs.Opposite.{turn, turned, turn-same, turned-same}

module _ {Obj Mor : Type 0} {C : CategoryData Obj Mor} (L : IsLinear C) where
  infixr 5 ◌⟫◌
  ◌⟫◌ : {a b : Obj} {f g h : Mor} → Same C a b f g → Same C a b g h → Same C a b f h
  ◌⟫◌ s t = join L s t

  -- a kernel of g and a cokernel of the l with l·i = f are the homology
  pub homology-from-kernel : {k h a b c : Obj} {f g i l p : Mor} → IsKernel C k b c g i → Arrow C a k l → Same C a b (C.compose l i) f → IsCokernel C a k h l p → IsHomology C k h a b c f g i p
  homology-from-kernel {l = l} K l-arrow s P = record { kernel = K; l = l; arrow = l-arrow; is = s; cokernel = P }

  -- there is such an l exactly where f·g = 0
  pub zero-from-part : {k a b c : Obj} {f g i l : Mor} → Arrow C b c g → IsKernel C k b c g i → Arrow C a k l → Same C a b (C.compose l i) f → Same C a c (C.compose f g) (C.zero a c)
  zero-from-part G K l s = composed L (back L s) (same L G) ⟫ assoc L l K.arrow G ⟫ composed L (same L l) K.zero ⟫ compose-zero L l (to-object L G)

  pub part-from-zero : {k a b c : Obj} {f g i : Mor} → Arrow C a b f → IsKernel C k b c g i → Same C a c (C.compose f g) (C.zero a c) → Some-arrow C a k (λ l. Same C a b (C.compose l i) f)
  part-from-zero F K z = let w = K.lift F z in record { by = w.by; arrow = w.arrow; holds = w.holds }

  -- f and g are exact exactly where f·g = 0 and i·p = 0, for a weak kernel i of g and a weak cokernel p of f
  pub exact-from-weak-kernels : {k a b c d : Obj} {f g i p : Mor} → Arrow C a b f → Arrow C b c g → IsWeakKernel C k b c g i → IsWeakCokernel C a b d f p → Same C a c (C.compose f g) (C.zero a c) → Same C k d (C.compose i p) (C.zero k d) → IsExact C a b c f g
  exact-from-weak-kernels {k} {a} {b} {c} {d} {f} {g} {i} {p} F G K P null middle = record {
    first = F;
    second = G;
    zero = null;
    middle = λ {x} {y} {t} {s} T S e z.
        let u = K.lift T e in
        let v = P.lift (turn S) (turn-same z) in
        let V = turned v.arrow in
        let p' = turned P.arrow in
        composed L (back L u.holds) (back L (turned-same v.holds))
        ⟫ assoc L u.arrow K.arrow (L.compose_arrow p' V)
        ⟫ composed L (same L u.arrow) (back L (assoc L K.arrow p' V) ⟫ composed L middle (same L V) ⟫ zero-compose L (from-object L K.arrow) V)
        ⟫ compose-zero L u.arrow (to-object L S);
  }

  pub middle-of-exact : {k a b c d : Obj} {f g i p : Mor} → IsWeakKernel C k b c g i → IsWeakCokernel C a b d f p → IsExact C a b c f g → Same C k d (C.compose i p) (C.zero k d)
  middle-of-exact K P E = E.middle K.arrow (turned P.arrow) K.zero (turned-same P.zero)
