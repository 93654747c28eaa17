-- Uniqueness against any test morphism: monos cancel, and two objects with one universal property are isomorphic. Turn round for epis, cokernels and coproducts.
use Rattle.cap_laws.specs.Linear.{CategoryData, IsLinear, Arrow, Same}
use Rattle.cap_laws.specs.Universal.{IsMono, IsKernel, IsEqualizer, IsProduct, IsPullback, IsoOver, IsoOverBoth}
use Rattle.cap_laws.proofs.Calculus.{from-object, to-object, same, back, ◌⟫◌ as join, composed, assoc, unit-left, compose-zero, zero-compose, subtract-arrow, subtract-compose, subtract-from-equal, equal-from-subtract}

module _ {Obj Mor : Type 0} {C : CategoryData Obj Mor} (L : IsLinear C) where
  infixr 5 ◌⟫◌
  ◌⟫◌ : {a b : Obj} {f g h : Mor} → Same C a b f g → Same C a b g h → Same C a b f h
  ◌⟫◌ s t = join L s t

  -- f is mono exactly where v·f = w·f gives v = w
  pub mono-cancels : {x a b : Obj} {f v w : Mor} → IsMono C a b f → Arrow C x a v → Arrow C x a w → Same C x b (C.compose v f) (C.compose w f) → Same C x a v w
  mono-cancels M V W s = equal-from-subtract L V W (M.cancel (subtract-arrow L V W) (subtract-compose L V W M.arrow ⟫ subtract-from-equal L s))

  pub mono-from-cancels : {a b : Obj} {f : Mor} → Arrow C a b f → ((x : Obj) (v w : Mor) → Arrow C x a v → Arrow C x a w → Same C x b (C.compose v f) (C.compose w f) → Same C x a v w) → IsMono C a b f
  mono-from-cancels {a} {b} {f} F h = record {
    arrow = F;
    cancel = λ {x} {u} U z. h x u (C.zero x a) U (L.zero_arrow x a (from-object L U) (from-object L F)) (z ⟫ back L (zero-compose L (from-object L U) F));
  }

  -- two morphisms into the object of a kernel, equalizer, product or pullback are congruent where they are after its morphisms
  pub kernel-only : {x k a b : Obj} {f i v w : Mor} → Arrow C a b f → IsKernel C k a b f i → Arrow C x k v → Arrow C x k w → Same C x a (C.compose v i) (C.compose w i) → Same C x k v w
  kernel-only F K V W s = (K.lift (L.compose_arrow W K.arrow) (assoc L W K.arrow F ⟫ composed L (same L W) K.zero ⟫ compose-zero L W (to-object L F))).only V W s (same L (L.compose_arrow W K.arrow))

  pub equalizer-only : {x k a b : Obj} {f g e v w : Mor} → Arrow C a b f → Arrow C a b g → IsEqualizer C k a b f g e → Arrow C x k v → Arrow C x k w → Same C x a (C.compose v e) (C.compose w e) → Same C x k v w
  equalizer-only F G E V W s = (E.lift (L.compose_arrow W E.arrow) (assoc L W E.arrow F ⟫ composed L (same L W) E.equal ⟫ back L (assoc L W E.arrow G))).only V W s (same L (L.compose_arrow W E.arrow))

  pub product-only : {x s a b : Obj} {p q v w : Mor} → IsProduct C s a b p q → Arrow C x s v → Arrow C x s w → Same C x a (C.compose v p) (C.compose w p) → Same C x b (C.compose v q) (C.compose w q) → Same C x s v w
  product-only P V W s t =
      let wp = L.compose_arrow W P.first in
      let wq = L.compose_arrow W P.second in
      (P.pair wp wq).only V W (record { first = s; second = t }) (record { first = same L wp; second = same L wq })

  pub pullback-only : {x k a b c : Obj} {f g p q v w : Mor} → Arrow C a c f → Arrow C b c g → IsPullback C k a b c f g p q → Arrow C x k v → Arrow C x k w → Same C x a (C.compose v p) (C.compose w p) → Same C x b (C.compose v q) (C.compose w q) → Same C x k v w
  pullback-only F G P V W s t =
      let wp = L.compose_arrow W P.first in
      let wq = L.compose_arrow W P.second in
      (P.pair wp wq (assoc L W P.first F ⟫ composed L (same L W) P.square ⟫ back L (assoc L W P.second G))).only V W (record { first = s; second = t }) (record { first = same L wp; second = same L wq })

  -- u·j = i and v·i = j give (u·v)·i = 1·i
  there-and-back : {k l a : Obj} {i j u v : Mor} → Arrow C k l u → Arrow C l k v → Same C k a (C.compose u j) i → Same C l a (C.compose v i) j → Same C k a (C.compose (C.compose u v) i) (C.compose (C.identity k) i)
  there-and-back U V s t = assoc L U V s.right ⟫ composed L (same L U) t ⟫ s ⟫ back L (unit-left L s.right)

  one-of : {k a : Obj} {i : Mor} → Arrow C k a i → Arrow C k k (C.identity k)
  one-of {k} I = L.identity_arrow k (from-object L I)

  -- two kernels of one morphism are isomorphic over its source
  pub kernels-iso : {k l a b : Obj} {f i j : Mor} → Arrow C a b f → IsKernel C k a b f i → IsKernel C l a b f j → IsoOver C k l a i j
  kernels-iso F K J =
      let u = J.lift K.arrow K.zero in
      let v = K.lift J.arrow J.zero in
      record {
        by = u.by;
        iso = record {
          arrow = u.arrow;
          inverse = v.by;
          is = record {
            arrow = v.arrow;
            left = kernel-only F K (L.compose_arrow u.arrow v.arrow) (one-of K.arrow) (there-and-back u.arrow v.arrow u.holds v.holds);
            right = kernel-only F J (L.compose_arrow v.arrow u.arrow) (one-of J.arrow) (there-and-back v.arrow u.arrow v.holds u.holds);
          };
        };
        over = u.holds;
      }

  -- two equalizers of one pair
  pub equalizers-iso : {k l a b : Obj} {f g i j : Mor} → Arrow C a b f → Arrow C a b g → IsEqualizer C k a b f g i → IsEqualizer C l a b f g j → IsoOver C k l a i j
  equalizers-iso F G K J =
      let u = J.lift K.arrow K.equal in
      let v = K.lift J.arrow J.equal in
      record {
        by = u.by;
        iso = record {
          arrow = u.arrow;
          inverse = v.by;
          is = record {
            arrow = v.arrow;
            left = equalizer-only F G K (L.compose_arrow u.arrow v.arrow) (one-of K.arrow) (there-and-back u.arrow v.arrow u.holds v.holds);
            right = equalizer-only F G J (L.compose_arrow v.arrow u.arrow) (one-of J.arrow) (there-and-back v.arrow u.arrow v.holds u.holds);
          };
        };
        over = u.holds;
      }

  -- two products of one pair of objects
  pub products-iso : {s t a b : Obj} {p q p' q' : Mor} → IsProduct C s a b p q → IsProduct C t a b p' q' → IsoOverBoth C s t a b p q p' q'
  products-iso P Q =
      let u = Q.pair P.first P.second in
      let v = P.pair Q.first Q.second in
      record {
        by = u.by;
        iso = record {
          arrow = u.arrow;
          inverse = v.by;
          is = record {
            arrow = v.arrow;
            left = product-only P (L.compose_arrow u.arrow v.arrow) (one-of P.first) (there-and-back u.arrow v.arrow u.holds.first v.holds.first) (there-and-back u.arrow v.arrow u.holds.second v.holds.second);
            right = product-only Q (L.compose_arrow v.arrow u.arrow) (one-of Q.first) (there-and-back v.arrow u.arrow v.holds.first u.holds.first) (there-and-back v.arrow u.arrow v.holds.second u.holds.second);
          };
        };
        over = u.holds;
      }

  -- two pullbacks of one pair of morphisms
  pub pullbacks-iso : {k l a b c : Obj} {f g p q p' q' : Mor} → Arrow C a c f → Arrow C b c g → IsPullback C k a b c f g p q → IsPullback C l a b c f g p' q' → IsoOverBoth C k l a b p q p' q'
  pullbacks-iso F G P Q =
      let u = Q.pair P.first P.second P.square in
      let v = P.pair Q.first Q.second Q.square in
      record {
        by = u.by;
        iso = record {
          arrow = u.arrow;
          inverse = v.by;
          is = record {
            arrow = v.arrow;
            left = pullback-only F G P (L.compose_arrow u.arrow v.arrow) (one-of P.first) (there-and-back u.arrow v.arrow u.holds.first v.holds.first) (there-and-back u.arrow v.arrow u.holds.second v.holds.second);
            right = pullback-only F G Q (L.compose_arrow v.arrow u.arrow) (one-of Q.first) (there-and-back v.arrow u.arrow v.holds.first u.holds.first) (there-and-back v.arrow u.arrow v.holds.second u.holds.second);
          };
        };
        over = u.holds;
      }
