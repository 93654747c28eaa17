-- Textbook facts on universal properties, in any linear category.
use Rattle.cap_laws.specs.Linear.{CategoryData, IsLinear, Arrow, Same}
use Rattle.cap_laws.specs.Universal.{subtract, IsMono, IsWeakKernel, IsKernel, IsEqualizer, IsProduct, IsPullback, IsDirectSum}
use Rattle.cap_laws.proofs.Calculus.{from-object, to-object, same, back, ◌⟫◌ as join, composed, added, assoc, unit-right, add-zero, zero-add, compose-add, add-compose, compose-zero, zero-compose, zero-after, equal-after}

module _ {Obj Mor : Type 0} {C : CategoryData Obj Mor} (L : IsLinear C) where
  infixr 5 ◌⟫◌
  ◌⟫◌ : {a b : Obj} {f g h : Mor} → Same C a b f g → Same C a b g h → Same C a b f h
  ◌⟫◌ s t = join L s t

  -- a kernel of f − g is an equalizer of f and g
  pub equalizer-from-kernel : {k a b : Obj} {f g e : Mor} → Arrow C a b f → Arrow C a b g → IsKernel C k a b (subtract C f g) e → IsEqualizer C k a b f g e
  equalizer-from-kernel p q K = record {
    arrow = K.arrow;
    equal = equal-after L K.arrow p q K.zero;
    lift = λ t s. K.lift t (zero-after L t p q s);
  }

  -- an equalizer of f and 0 is a kernel of f
  pub kernel-from-equalizer : {k a b : Obj} {f i : Mor} → Arrow C a b f → IsEqualizer C k a b f (C.zero a b) i → IsKernel C k a b f i
  kernel-from-equalizer p E = record {
    arrow = E.arrow;
    zero = E.equal ⟫ compose-zero L E.arrow (to-object L p);
    lift = λ t s. E.lift t (s ⟫ back L (compose-zero L t (to-object L p)));
  }

  -- a kernel is mono
  pub kernel-mono : {k a b : Obj} {f i : Mor} → Arrow C a b f → IsKernel C k a b f i → IsMono C k a i
  kernel-mono {k} {a} {b} {f} {i} p K = record {
    arrow = K.arrow;
    cancel = λ {x} {u} v s.
        let z = L.zero_arrow x k (from-object L v) (from-object L K.arrow) in
        let zi = zero-compose L (from-object L v) K.arrow in
        let t = L.zero_arrow x a (from-object L v) (to-object L K.arrow) in
        (K.lift t (zero-compose L (from-object L v) p)).only v z s zi;
  }

  -- f is mono exactly where its kernel, or a weak kernel, is 0
  pub mono-from-weak-kernel : {k a b : Obj} {f i : Mor} → Arrow C a b f → IsWeakKernel C k a b f i → Same C k a i (C.zero k a) → IsMono C a b f
  mono-from-weak-kernel p K z = record {
    arrow = p;
    cancel = λ v s.
        let w = K.lift v s in
        back L w.holds ⟫ composed L (same L w.arrow) z ⟫ compose-zero L w.arrow (from-object L p);
  }

  pub weak-kernel-of-mono : {k a b : Obj} {f i : Mor} → IsWeakKernel C k a b f i → IsMono C a b f → Same C k a i (C.zero k a)
  weak-kernel-of-mono K m = m.cancel K.arrow K.zero

  pub weak-from-kernel : {k a b : Obj} {f i : Mor} → IsKernel C k a b f i → IsWeakKernel C k a b f i
  weak-from-kernel K = record {
    arrow = K.arrow;
    zero = K.zero;
    lift = λ t s. let w = K.lift t s in record { by = w.by; arrow = w.arrow; holds = w.holds };
  }

  -- w = (w·p1)·i1 + (w·p2)·i2
  pub split : {x s a b : Obj} {i1 i2 p1 p2 w : Mor} → IsDirectSum C s a b i1 i2 p1 p2 → Arrow C x s w → Same C x s w (C.add (C.compose (C.compose w p1) i1) (C.compose (C.compose w p2) i2))
  split D w =
      back L (unit-right L w) ⟫ composed L (same L w) (back L D.total)
      ⟫ compose-add L w (L.compose_arrow D.out1 D.in1) (L.compose_arrow D.out2 D.in2)
      ⟫ added L (back L (assoc L w D.out1 D.in1)) (back L (assoc L w D.out2 D.in2))

  -- (u·i1 + v·i2)·p1 = u
  pub first-of : {x s a b : Obj} {i1 i2 p1 p2 u v : Mor} → IsDirectSum C s a b i1 i2 p1 p2 → Arrow C x a u → Arrow C x b v → Same C x a (C.compose (C.add (C.compose u i1) (C.compose v i2)) p1) u
  first-of D u v =
      add-compose L (L.compose_arrow u D.in1) (L.compose_arrow v D.in2) D.out1
      ⟫ added L (assoc L u D.in1 D.out1 ⟫ composed L (same L u) D.unit1 ⟫ unit-right L u)
      (assoc L v D.in2 D.out1 ⟫ composed L (same L v) D.zero21 ⟫ compose-zero L v (to-object L u))
      ⟫ add-zero L u

  pub second-of : {x s a b : Obj} {i1 i2 p1 p2 u v : Mor} → IsDirectSum C s a b i1 i2 p1 p2 → Arrow C x a u → Arrow C x b v → Same C x b (C.compose (C.add (C.compose u i1) (C.compose v i2)) p2) v
  second-of D u v =
      add-compose L (L.compose_arrow u D.in1) (L.compose_arrow v D.in2) D.out2
      ⟫ added L (assoc L u D.in1 D.out2 ⟫ composed L (same L u) D.zero12 ⟫ compose-zero L u (to-object L v))
      (assoc L v D.in2 D.out2 ⟫ composed L (same L v) D.unit2 ⟫ unit-right L v)
      ⟫ zero-add L v

  -- two morphisms into a direct sum are congruent where their parts are
  pub by-parts : {x s a b : Obj} {i1 i2 p1 p2 v w : Mor} → IsDirectSum C s a b i1 i2 p1 p2 → Arrow C x s v → Arrow C x s w → Same C x a (C.compose v p1) (C.compose w p1) → Same C x b (C.compose v p2) (C.compose w p2) → Same C x s v w
  by-parts D v w s t = split D v ⟫ added L (composed L s (same L D.in1)) (composed L t (same L D.in2)) ⟫ back L (split D w)

  -- the parts of a direct sum are a product
  pub product-from-direct-sum : {s a b : Obj} {i1 i2 p1 p2 : Mor} → IsDirectSum C s a b i1 i2 p1 p2 → IsProduct C s a b p1 p2
  product-from-direct-sum {s} {a} {b} {i1} {i2} {p1} {p2} D = record {
    first = D.out1;
    second = D.out2;
    pair = λ {x} {u} {v} f g. record {
      by = C.add (C.compose u i1) (C.compose v i2);
      arrow = L.add_arrow (L.compose_arrow f D.in1) (L.compose_arrow g D.in2);
      holds = record { first = first-of D f g; second = second-of D f g };
      only = λ m n B E. by-parts D m n (B.first ⟫ back L E.first) (B.second ⟫ back L E.second);
    };
  }

  -- a kernel of p1·f − p2·g gives a pullback of f and g
  pub pullback-from-kernel : {k s a b c : Obj} {i1 i2 p1 p2 f g i : Mor} → Arrow C a c f → Arrow C b c g → IsDirectSum C s a b i1 i2 p1 p2 → IsKernel C k s c (subtract C (C.compose p1 f) (C.compose p2 g)) i → IsPullback C k a b c f g (C.compose i p1) (C.compose i p2)
  pullback-from-kernel {k} {s} {a} {b} {c} {i1} {i2} {p1} {p2} {f} {g} {i} F G D K =
      let pf = L.compose_arrow D.out1 F in
      let qg = L.compose_arrow D.out2 G in
      record {
        first = L.compose_arrow K.arrow D.out1;
        second = L.compose_arrow K.arrow D.out2;
        square = assoc L K.arrow D.out1 F ⟫ equal-after L K.arrow pf qg K.zero ⟫ back L (assoc L K.arrow D.out2 G);
        pair = λ {x} {u} {v} U V e.
            let m = L.add_arrow (L.compose_arrow U D.in1) (L.compose_arrow V D.in2) in
            let one = first-of D U V in
            let two = second-of D U V in
            let w = K.lift m (zero-after L m pf qg (back L (assoc L m D.out1 F) ⟫ composed L one (same L F) ⟫ e ⟫ composed L (back L two) (same L G) ⟫ assoc L m D.out2 G)) in
            record {
              by = w.by;
              arrow = w.arrow;
              holds = record {
                first = back L (assoc L w.arrow K.arrow D.out1) ⟫ composed L w.holds (same L D.out1) ⟫ one;
                second = back L (assoc L w.arrow K.arrow D.out2) ⟫ composed L w.holds (same L D.out2) ⟫ two;
              };
              only = λ n o B E. w.only n o
                  (by-parts D (L.compose_arrow n K.arrow) m (assoc L n K.arrow D.out1 ⟫ B.first ⟫ back L one) (assoc L n K.arrow D.out2 ⟫ B.second ⟫ back L two))
                  (by-parts D (L.compose_arrow o K.arrow) m (assoc L o K.arrow D.out1 ⟫ E.first ⟫ back L one) (assoc L o K.arrow D.out2 ⟫ E.second ⟫ back L two));
            };
      }

  -- universal properties speak of morphisms up to congruence
  pub kernel-of-same : {k a b : Obj} {f g i : Mor} → Same C a b f g → IsKernel C k a b f i → IsKernel C k a b g i
  kernel-of-same s K = record {
    arrow = K.arrow;
    zero = composed L (same L K.arrow) (back L s) ⟫ K.zero;
    lift = λ t z. K.lift t (composed L (same L t) s ⟫ z);
  }

  pub pullback-of-same : {k a b c : Obj} {f g p p' q q' : Mor} → Arrow C a c f → Arrow C b c g → Same C k a p' p → Same C k b q' q → IsPullback C k a b c f g p q → IsPullback C k a b c f g p' q'
  pullback-of-same F G s t P = record {
    first = s.left;
    second = t.left;
    square = composed L s (same L F) ⟫ P.square ⟫ composed L (back L t) (same L G);
    pair = λ U V e.
        let w = P.pair U V e in
        record {
          by = w.by;
          arrow = w.arrow;
          holds = record { first = composed L (same L w.arrow) s ⟫ w.holds.first; second = composed L (same L w.arrow) t ⟫ w.holds.second };
          only = λ m n B E. w.only m n
              (record { first = composed L (same L m) (back L s) ⟫ B.first; second = composed L (same L m) (back L t) ⟫ B.second })
              (record { first = composed L (same L n) (back L s) ⟫ E.first; second = composed L (same L n) (back L t) ⟫ E.second });
        };
  }
