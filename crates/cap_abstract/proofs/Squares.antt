-- Kernels, equalizers and pullbacks, each from the others.
use Rattle.cap_laws.specs.Linear.{CategoryData, IsLinear, Arrow, Same}
use Rattle.cap_laws.specs.Universal.{Unique, IsKernel, IsEqualizer, IsProduct, IsPullback, IsDirectSum, IsZeroObject}
use Rattle.cap_laws.proofs.Calculus.{from-object, to-object, same, back, ◌⟫◌ as join, composed, added, assoc, unit-right, add-compose, add-zero, zero-add, compose-zero, zero-compose}
use Rattle.cap_laws.proofs.Textbook.{by-parts}
use Rattle.cap_laws.proofs.Isos.{into-zero-object}

module _ {Obj Mor : Type 0} {C : CategoryData Obj Mor} (L : IsLinear C) where
  infixr 5 ◌⟫◌
  ◌⟫◌ : {a b : Obj} {f g h : Mor} → Same C a b f g → Same C a b g h → Same C a b f h
  ◌⟫◌ s t = join L s t

  -- universal properties speak of morphisms up to congruence
  pub equalizer-of-same : {k a b : Obj} {f f' g g' e : Mor} → Same C a b f f' → Same C a b g g' → IsEqualizer C k a b f g e → IsEqualizer C k a b f' g' e
  equalizer-of-same s t E = record {
    arrow = E.arrow;
    equal = composed L (same L E.arrow) (back L s) ⟫ E.equal ⟫ composed L (same L E.arrow) t;
    lift = λ w z. E.lift w (composed L (same L w) s ⟫ z ⟫ composed L (same L w) (back L t));
  }

  pub pullback-along-same : {k a b c : Obj} {f f' g g' p q : Mor} → Same C a c f f' → Same C b c g g' → IsPullback C k a b c f g p q → IsPullback C k a b c f' g' p q
  pullback-along-same s t P = record {
    first = P.first;
    second = P.second;
    square = composed L (same L P.first) (back L s) ⟫ P.square ⟫ composed L (same L P.second) t;
    pair = λ U V e. P.pair U V (composed L (same L U) s ⟫ e ⟫ composed L (same L V) (back L t));
  }

  -- an equalizer of p1·f and p2·g, for a product (p1, p2), gives a pullback of f and g
  pub pullback-from-equalizer : {k s a b c : Obj} {p1 p2 f g e : Mor} → Arrow C a c f → Arrow C b c g → IsProduct C s a b p1 p2 → IsEqualizer C k s c (C.compose p1 f) (C.compose p2 g) e → IsPullback C k a b c f g (C.compose e p1) (C.compose e p2)
  pullback-from-equalizer {p1 = p1} {p2 = p2} F G P E = record {
    first = L.compose_arrow E.arrow P.first;
    second = L.compose_arrow E.arrow P.second;
    square = assoc L E.arrow P.first F ⟫ E.equal ⟫ back L (assoc L E.arrow P.second G);
    pair = λ U V s.
        let w = P.pair U V in
        let z = E.lift w.arrow (back L (assoc L w.arrow P.first F) ⟫ composed L w.holds.first (same L F) ⟫ s ⟫ composed L (back L w.holds.second) (same L G) ⟫ assoc L w.arrow P.second G) in
        record {
          by = z.by;
          arrow = z.arrow;
          holds = record {
            first = back L (assoc L z.arrow E.arrow P.first) ⟫ composed L z.holds (same L P.first) ⟫ w.holds.first;
            second = back L (assoc L z.arrow E.arrow P.second) ⟫ composed L z.holds (same L P.second) ⟫ w.holds.second;
          };
          only = λ M N B D. z.only M N
              (w.only (L.compose_arrow M E.arrow) w.arrow (record { first = assoc L M E.arrow P.first ⟫ B.first; second = assoc L M E.arrow P.second ⟫ B.second }) w.holds)
              (w.only (L.compose_arrow N E.arrow) w.arrow (record { first = assoc L N E.arrow P.first ⟫ D.first; second = assoc L N E.arrow P.second ⟫ D.second }) w.holds);
        };
  }

  -- a pullback of f and 0: z→b, for a zero object z, gives a kernel of f
  pub kernel-from-pullback : {k z a b : Obj} {f p q : Mor} → IsZeroObject C z → Arrow C a b f → IsPullback C k a z b f (C.zero z b) p q → IsKernel C k a b f p
  kernel-from-pullback {k} {z} {a} {b} Z F P = record {
    arrow = P.first;
    zero = P.square ⟫ compose-zero L P.second (to-object L F);
    lift = λ {x} T e.
        let n = L.zero_arrow x z (from-object L T) Z.object in
        let w = P.pair T n (e ⟫ back L (compose-zero L n (to-object L F))) in
        record {
          by = w.by;
          arrow = w.arrow;
          holds = w.holds.first;
          only = λ U V r s. w.only U V
              (record { first = r; second = into-zero-object L Z (L.compose_arrow U P.second) })
              (record { first = s; second = into-zero-object L Z (L.compose_arrow V P.second) });
        };
  }

  -- the graph i1 + f·i2 of f: its parts are the identity and f
  graph-arrow : {s a b : Obj} {i1 i2 p1 p2 f : Mor} → IsDirectSum C s a b i1 i2 p1 p2 → Arrow C a b f → Arrow C a s (C.add i1 (C.compose f i2))
  graph-arrow D F = L.add_arrow D.in1 (L.compose_arrow F D.in2)

  pub graph-first : {s a b : Obj} {i1 i2 p1 p2 f : Mor} → IsDirectSum C s a b i1 i2 p1 p2 → Arrow C a b f → Same C a a (C.compose (C.add i1 (C.compose f i2)) p1) (C.identity a)
  graph-first {s} {a} D F =
      add-compose L D.in1 (L.compose_arrow F D.in2) D.out1
      ⟫ added L D.unit1 (assoc L F D.in2 D.out1 ⟫ composed L (same L F) D.zero21 ⟫ compose-zero L F (from-object L F))
      ⟫ add-zero L (L.identity_arrow a (from-object L F))

  pub graph-second : {s a b : Obj} {i1 i2 p1 p2 f : Mor} → IsDirectSum C s a b i1 i2 p1 p2 → Arrow C a b f → Same C a b (C.compose (C.add i1 (C.compose f i2)) p2) f
  graph-second D F =
      add-compose L D.in1 (L.compose_arrow F D.in2) D.out2
      ⟫ added L D.zero12 (assoc L F D.in2 D.out2 ⟫ composed L (same L F) D.unit2 ⟫ unit-right L F)
      ⟫ zero-add L F

  -- t followed by the graph has the parts t and t·f
  after-first : {x s a b : Obj} {i1 i2 p1 p2 f t : Mor} → IsDirectSum C s a b i1 i2 p1 p2 → Arrow C a b f → Arrow C x a t → Same C x a (C.compose (C.compose t (C.add i1 (C.compose f i2))) p1) t
  after-first D F T = assoc L T (graph-arrow D F) D.out1 ⟫ composed L (same L T) (graph-first D F) ⟫ unit-right L T

  after-second : {x s a b : Obj} {i1 i2 p1 p2 f t : Mor} → IsDirectSum C s a b i1 i2 p1 p2 → Arrow C a b f → Arrow C x a t → Same C x b (C.compose (C.compose t (C.add i1 (C.compose f i2))) p2) (C.compose t f)
  after-second D F T = assoc L T (graph-arrow D F) D.out2 ⟫ composed L (same L T) (graph-second D F)

  -- a pullback of the graphs of f and g gives an equalizer of f and g
  pub equalizer-from-pullback : {k s a b : Obj} {i1 i2 p1 p2 f g p q : Mor} → Arrow C a b f → Arrow C a b g → IsDirectSum C s a b i1 i2 p1 p2 → IsPullback C k a a s (C.add i1 (C.compose f i2)) (C.add i1 (C.compose g i2)) p q → IsEqualizer C k a b f g p
  equalizer-from-pullback {k} {s} {a} {b} {f = f} {g = g} {p = p} {q = q} F G D P =
      let one : Same C k a p q = back L (after-first D F P.first) ⟫ composed L P.square (same L D.out1) ⟫ after-first D G P.second in
      record {
        arrow = P.first;
        equal = back L (after-second D F P.first) ⟫ composed L P.square (same L D.out2) ⟫ after-second D G P.second ⟫ composed L (back L one) (same L G);
        lift = λ T e.
            let w = P.pair T T (by-parts L D (L.compose_arrow T (graph-arrow D F)) (L.compose_arrow T (graph-arrow D G))
            (after-first D F T ⟫ back L (after-first D G T))
            (after-second D F T ⟫ e ⟫ back L (after-second D G T))) in
            record {
              by = w.by;
              arrow = w.arrow;
              holds = w.holds.first;
              only = λ U V r t. w.only U V
                  (record { first = r; second = composed L (same L U) (back L one) ⟫ r })
                  (record { first = t; second = composed L (same L V) (back L one) ⟫ t });
            };
      }

  -- a square from f to g gives one morphism between their kernels
  pub kernel-map : {k l a b c d : Obj} {f g h h' i j : Mor} → Arrow C a c f → Arrow C b d g → Arrow C a b h → Arrow C c d h' → Same C a d (C.compose f h') (C.compose h g) → IsKernel C k a c f i → IsKernel C l b d g j → Unique C k l (λ u. Same C k b (C.compose u j) (C.compose i h))
  kernel-map F G H H' s K J = J.lift (L.compose_arrow K.arrow H)
      (assoc L K.arrow H G ⟫ composed L (same L K.arrow) (back L s) ⟫ back L (assoc L K.arrow F H') ⟫ composed L K.zero (same L H') ⟫ zero-compose L (from-object L K.arrow) H')
