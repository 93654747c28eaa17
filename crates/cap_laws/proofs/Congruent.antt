-- Universal properties speak of morphisms up to congruence: given ones and answers may be replaced by congruent ones. Turn round for the duals.
use Rattle.std.specs.Prelude.{Option, Some, None}
use Rattle.cap_laws.specs.Linear.{CategoryData, IsLinear, Arrow, Same}
use Rattle.cap_laws.specs.Universal.{IsMono, IsWeakKernel, IsKernel, IsEqualizer, IsProduct, IsInverse, IsIso, IsLift}
use Rattle.cap_laws.specs.Factor.{Through}
use Rattle.cap_laws.proofs.Calculus.{same, back, ◌⟫◌ as join, composed}

module _ {Obj Mor : Type 0} {C : CategoryData Obj Mor} (L : IsLinear C) where
  infixr 5 ◌⟫◌
  ◌⟫◌ : {a b : Obj} {f g h : Mor} → Same C a b f g → Same C a b g h → Same C a b f h
  ◌⟫◌ s t = join L s t

  pub mono-of-same : {a b : Obj} {f g : Mor} → Same C a b f g → IsMono C a b f → IsMono C a b g
  mono-of-same s M = record { arrow = s.right; cancel = λ U z. M.cancel U (composed L (same L U) s ⟫ z) }

  pub inverse-of-same : {a b : Obj} {f f' g g' : Mor} → Same C a b f f' → Same C b a g g' → IsInverse C a b f g → IsInverse C a b f' g'
  inverse-of-same s t I = record {
    arrow = t.right;
    left = composed L (back L s) (back L t) ⟫ I.left;
    right = composed L (back L t) (back L s) ⟫ I.right;
  }

  pub iso-of-same : {a b : Obj} {f g : Mor} → Same C a b f g → IsIso C a b f → IsIso C a b g
  iso-of-same s I = record { arrow = s.right; inverse = I.inverse; is = inverse-of-same s (same L I.is.arrow) I.is }

  pub weak-kernel-of-same : {k a b : Obj} {f g i : Mor} → Same C a b f g → IsWeakKernel C k a b f i → IsWeakKernel C k a b g i
  weak-kernel-of-same s K = record {
    arrow = K.arrow;
    zero = composed L (same L K.arrow) (back L s) ⟫ K.zero;
    lift = λ T z. K.lift T (composed L (same L T) s ⟫ z);
  }

  -- a morphism congruent to a kernel is one
  pub same-kernel : {k a b : Obj} {f i j : Mor} → Arrow C a b f → Same C k a i j → IsKernel C k a b f i → IsKernel C k a b f j
  same-kernel F s K = record {
    arrow = s.right;
    zero = composed L (back L s) (same L F) ⟫ K.zero;
    lift = λ T z.
        let u = K.lift T z in
        record {
          by = u.by;
          arrow = u.arrow;
          holds = composed L (same L u.arrow) (back L s) ⟫ u.holds;
          only = λ V W p q. u.only V W (composed L (same L V) s ⟫ p) (composed L (same L W) s ⟫ q);
        };
  }

  pub same-weak-kernel : {k a b : Obj} {f i j : Mor} → Arrow C a b f → Same C k a i j → IsWeakKernel C k a b f i → IsWeakKernel C k a b f j
  same-weak-kernel F s K = record {
    arrow = s.right;
    zero = composed L (back L s) (same L F) ⟫ K.zero;
    lift = λ T z.
        let u = K.lift T z in
        record { by = u.by; arrow = u.arrow; holds = composed L (same L u.arrow) (back L s) ⟫ u.holds };
  }

  pub equalizer-of-same : {k a b : Obj} {f f' g g' e : Mor} → Same C a b f f' → Same C a b g g' → IsEqualizer C k a b f g e → IsEqualizer C k a b f' g' e
  equalizer-of-same s t E = record {
    arrow = E.arrow;
    equal = composed L (same L E.arrow) (back L s) ⟫ E.equal ⟫ composed L (same L E.arrow) t;
    lift = λ T z. E.lift T (composed L (same L T) s ⟫ z ⟫ composed L (same L T) (back L t));
  }

  pub product-of-same : {s a b : Obj} {p p' q q' : Mor} → Same C s a p p' → Same C s b q q' → IsProduct C s a b p q → IsProduct C s a b p' q'
  product-of-same s t P = record {
    first = s.right;
    second = t.right;
    pair = λ U V.
        let w = P.pair U V in
        record {
          by = w.by;
          arrow = w.arrow;
          holds = record { first = composed L (same L w.arrow) (back L s) ⟫ w.holds.first; second = composed L (same L w.arrow) (back L t) ⟫ w.holds.second };
          only = λ M N B E. w.only M N
              (record { first = composed L (same L M) s ⟫ B.first; second = composed L (same L M) t ⟫ B.second })
              (record { first = composed L (same L N) s ⟫ E.first; second = composed L (same L N) t ⟫ E.second });
        };
  }

  -- factoring, and a lift or none, at congruent morphisms
  pub through-along-same : {x r b : Obj} {rho sigma f : Mor} → Same C r b rho sigma → Through C x r b rho f → Through C x r b sigma f
  through-along-same s t = record { over = s.right; by = t.by; arrow = t.arrow; holds = t.holds ⟫ composed L (same L t.arrow) s }

  pub lift-of-same : {x a b : Obj} {t t' f f' : Mor} → Same C x b t t' → Same C a b f f' → (answer : Option Mor) → IsLift C x a b t f answer → IsLift C x a b t' f' answer
  lift-of-same s r (Some u) h = (h.0, composed L (same L h.0) (back L r) ⟫ h.1 ⟫ s)
  lift-of-same s r None h = λ o. h (record { by = o.by; arrow = o.arrow; holds = composed L (same L o.arrow) r ⟫ o.holds ⟫ back L s })
