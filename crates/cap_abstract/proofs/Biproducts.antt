-- Direct sums, products, and morphisms into a direct sum.
use Rattle.cap_laws.specs.Linear.{CategoryData, IsLinear, Arrow, Same}
use Rattle.cap_laws.specs.Universal.{Both, IsProduct, IsDirectSum}
use Rattle.cap_laws.proofs.Calculus.{from-object, to-object, same, back, ◌⟫◌ as join, composed, added, assoc, unit-left, unit-right, add-compose, add-swap, add-zero, zero-add, compose-zero}
use Rattle.cap_laws.proofs.Textbook.{first-of, second-of, by-parts}

module _ {Obj Mor : Type 0} {C : CategoryData Obj Mor} (L : IsLinear C) where
  infixr 5 ◌⟫◌
  ◌⟫◌ : {a b : Obj} {f g h : Mor} → Same C a b f g → Same C a b g h → Same C a b f h
  ◌⟫◌ s t = join L s t

  -- the summands exchanged
  pub swapped-direct-sum : {s a b : Obj} {i1 i2 p1 p2 : Mor} → IsDirectSum C s a b i1 i2 p1 p2 → IsDirectSum C s b a i2 i1 p2 p1
  swapped-direct-sum D = record {
    in1 = D.in2;
    in2 = D.in1;
    out1 = D.out2;
    out2 = D.out1;
    unit1 = D.unit2;
    unit2 = D.unit1;
    zero12 = D.zero21;
    zero21 = D.zero12;
    total = add-swap L (L.compose_arrow D.out2 D.in2) (L.compose_arrow D.out1 D.in1) ⟫ D.total;
  }

  -- (p·i + q·j)·p = p, where i and j are the pairs of an identity and a zero
  sum-first : {s a b : Obj} {p q i j : Mor} → IsProduct C s a b p q → Arrow C a s i → Arrow C b s j → Same C a a (C.compose i p) (C.identity a) → Same C b a (C.compose j p) (C.zero b a) → Same C s a (C.compose (C.add (C.compose p i) (C.compose q j)) p) p
  sum-first P I J unit null =
      add-compose L (L.compose_arrow P.first I) (L.compose_arrow P.second J) P.first
      ⟫ added L (assoc L P.first I P.first ⟫ composed L (same L P.first) unit ⟫ unit-right L P.first)
      (assoc L P.second J P.first ⟫ composed L (same L P.second) null ⟫ compose-zero L P.second (to-object L P.first))
      ⟫ add-zero L P.first

  sum-second : {s a b : Obj} {p q i j : Mor} → IsProduct C s a b p q → Arrow C a s i → Arrow C b s j → Same C a b (C.compose i q) (C.zero a b) → Same C b b (C.compose j q) (C.identity b) → Same C s b (C.compose (C.add (C.compose p i) (C.compose q j)) q) q
  sum-second P I J null unit =
      add-compose L (L.compose_arrow P.first I) (L.compose_arrow P.second J) P.second
      ⟫ added L (assoc L P.first I P.second ⟫ composed L (same L P.first) null ⟫ compose-zero L P.first (to-object L P.second))
      (assoc L P.second J P.second ⟫ composed L (same L P.second) unit ⟫ unit-right L P.second)
      ⟫ zero-add L P.second

  -- a product, with the pairs of an identity and a zero, is a direct sum
  pub direct-sum-from-product : {s a b : Obj} {p q i j : Mor} → IsProduct C s a b p q → Arrow C a s i → Both C a a b p q (C.identity a) (C.zero a b) i → Arrow C b s j → Both C b a b p q (C.zero b a) (C.identity b) j → IsDirectSum C s a b i j p q
  direct-sum-from-product {s} P I X J Y =
      let sum = L.add_arrow (L.compose_arrow P.first I) (L.compose_arrow P.second J) in
      let one = L.identity_arrow s (from-object L P.first) in
      record {
        in1 = I;
        in2 = J;
        out1 = P.first;
        out2 = P.second;
        unit1 = X.first;
        unit2 = Y.second;
        zero12 = X.second;
        zero21 = Y.first;
        total = (P.pair P.first P.second).only sum one
            (record { first = sum-first P I J X.first Y.first; second = sum-second P I J X.second Y.second })
            (record { first = unit-left L P.first; second = unit-left L P.second });
      }

  -- w·(p·i1 + q·i2) = u·i1 + v·i2 exactly where w·p = u and w·q = v
  pub pair-from-lift : {t s d a b : Obj} {i1 i2 p1 p2 p q u v w : Mor} → IsDirectSum C d a b i1 i2 p1 p2 → Arrow C s a p → Arrow C s b q → Arrow C t a u → Arrow C t b v → Arrow C t s w
      → Same C t d (C.compose w (C.add (C.compose p i1) (C.compose q i2))) (C.add (C.compose u i1) (C.compose v i2)) → Both C t a b p q u v w
  pair-from-lift D P Q U V W e =
      let m = L.add_arrow (L.compose_arrow P D.in1) (L.compose_arrow Q D.in2) in
      record {
        first = composed L (same L W) (back L (first-of L D P Q)) ⟫ back L (assoc L W m D.out1) ⟫ composed L e (same L D.out1) ⟫ first-of L D U V;
        second = composed L (same L W) (back L (second-of L D P Q)) ⟫ back L (assoc L W m D.out2) ⟫ composed L e (same L D.out2) ⟫ second-of L D U V;
      }

  pub lift-from-pair : {t s d a b : Obj} {i1 i2 p1 p2 p q u v w : Mor} → IsDirectSum C d a b i1 i2 p1 p2 → Arrow C s a p → Arrow C s b q → Arrow C t a u → Arrow C t b v → Arrow C t s w
      → Both C t a b p q u v w → Same C t d (C.compose w (C.add (C.compose p i1) (C.compose q i2))) (C.add (C.compose u i1) (C.compose v i2))
  lift-from-pair D P Q U V W B =
      let m = L.add_arrow (L.compose_arrow P D.in1) (L.compose_arrow Q D.in2) in
      let n = L.add_arrow (L.compose_arrow U D.in1) (L.compose_arrow V D.in2) in
      by-parts L D (L.compose_arrow W m) n
      (assoc L W m D.out1 ⟫ composed L (same L W) (first-of L D P Q) ⟫ B.first ⟫ back L (first-of L D U V))
      (assoc L W m D.out2 ⟫ composed L (same L W) (second-of L D P Q) ⟫ B.second ⟫ back L (second-of L D U V))

  -- u·f = t exactly where u is a pair of t and t along f and f
  pub pair-as-lift : {x a b : Obj} {t f u : Mor} → Arrow C a b f → Arrow C x a u → Both C x b b f f t t u → Same C x b (C.compose u f) t
  pair-as-lift F U B = B.first

  pub lift-as-pair : {x a b : Obj} {t f u : Mor} → Arrow C a b f → Arrow C x a u → Same C x b (C.compose u f) t → Both C x b b f f t t u
  lift-as-pair F U s = record { first = s; second = s }
