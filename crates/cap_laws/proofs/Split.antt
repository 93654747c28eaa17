-- A linear category in which every morphism splits over a middle object is half abelian, on both sides. No ranks, no transposes.
use Rattle.std.proofs.Common.{◌⊎◌, inl, inr, Option}
use Rattle.std.specs.Prelude.{Some, None}
use Rattle.cap_laws.specs.Linear.{CategoryData, IsLinear, Arrow, Same}
use Rattle.cap_laws.specs.Split.{HasReturn, HasSplit, HasSplits}
use Rattle.cap_laws.specs.Universal.{subtract, opposite, Some-arrow, IsLift, IsMono, IsKernel, IsCokernel, HasKernel, HasHalfAbelian, IsAdditive, IsAbelian}
use Rattle.cap_laws.proofs.Calculus.{from-object, to-object, same, back, ◌⟫◌ as join, composed, assoc, unit-left, unit-right, zero-of, compose-zero, zero-compose, subtract-arrow, subtract-compose, compose-subtract, subtract-from-equal, equal-from-subtract, equal-after, subtracted, added, zero-add, add-zero, add-negate, negate-arrow}
use Rattle.cap_laws.proofs.Opposite.{turn, turned, turn-same, turned-same, opposite-linear}

pub opposite-return : {Obj Mor : Type 0} {C : CategoryData Obj Mor} (L : IsLinear C) {a b : Obj} {f : Mor} → Arrow C b a f → HasReturn C b a f → HasReturn (opposite C) a b f
opposite-return L F r = record {
  by = r.by;
  arrow = turn r.arrow;
  is = turn-same (join L (back L (assoc L F r.arrow F)) r.is);
}

module _ {Obj Mor : Type 0} {C : CategoryData Obj Mor} (L : IsLinear C) where
  infixr 5 ◌⟫◌
  ◌⟫◌ : {a b : Obj} {f g h : Mor} → Same C a b f g → Same C a b g h → Same C a b f h
  ◌⟫◌ s t = join L s t

  pub return-from-split : {a b : Obj} {f : Mor} → Arrow C a b f → HasSplit C a b f → HasReturn C a b f
  return-from-split F s =
      let G = L.compose_arrow s.section_arrow s.onto_arrow in
      record {
        by = C.compose s.section s.onto;
        arrow = G;
        is = composed L (back L (assoc L F s.section_arrow s.onto_arrow)) (same L F)
            ⟫ assoc L (L.compose_arrow F s.section_arrow) s.onto_arrow F
            ⟫ composed L
            (composed L (back L s.whole) (same L s.section_arrow) ⟫ assoc L s.left_arrow s.right_arrow s.section_arrow ⟫ composed L (same L s.left_arrow) s.unit ⟫ unit-right L s.left_arrow)
            s.reached
            ⟫ s.whole;
      }

  -- a mono with a return has it as a right inverse
  pub mono-splits : {a b : Obj} {f : Mor} → IsMono C a b f → (r : HasReturn C a b f) → Same C a a (C.compose f r.by) (C.identity a)
  mono-splits {a} m r =
      let F = m.arrow in
      let FG = L.compose_arrow F r.arrow in
      let I = L.identity_arrow a (from-object L F) in
      equal-from-subtract L FG I (m.cancel (subtract-arrow L FG I)
      (subtract-compose L FG I F ⟫ subtract-from-equal L (r.is ⟫ back L (unit-left L F))))

  -- a mono is a kernel of each of its cokernels
  pub mono-is-kernel : {a b c : Obj} {f p : Mor} → IsMono C a b f → HasReturn C a b f → IsCokernel C a b c f p → IsKernel C a b c p f
  mono-is-kernel {a} {b} {c} {f} {p} m r K =
      let F = m.arrow in
      let P = turned K.arrow in
      let I = L.identity_arrow b (to-object L F) in
      let GF = L.compose_arrow r.arrow F in
      let D = subtract-arrow L I GF in
      let fd : Same C a b (C.compose f (subtract C (C.identity b) (C.compose r.by f))) (C.zero a b) =
      compose-subtract L F I GF ⟫ subtract-from-equal L (unit-right L F ⟫ back L (back L (assoc L F r.arrow F) ⟫ r.is)) in
      let q = K.lift (turn D) (turn-same fd) in
      record {
        arrow = F;
        zero = turned-same K.zero;
        lift = λ {x} {t} T z.
            let td : Same C x b (C.compose t (subtract C (C.identity b) (C.compose r.by f))) (C.zero x b) =
            composed L (same L T) (back L (turned-same q.holds)) ⟫ back L (assoc L T P (turned q.arrow)) ⟫ composed L z (same L (turned q.arrow)) ⟫ zero-compose L (from-object L T) (turned q.arrow) in
            record {
              by = C.compose t r.by;
              arrow = L.compose_arrow T r.arrow;
              holds = assoc L T r.arrow F ⟫ back L (equal-after L T I GF td) ⟫ unit-right L T;
              only = λ V W u w. equal-from-subtract L V W (m.cancel (subtract-arrow L V W) (subtract-compose L V W F ⟫ subtract-from-equal L (u ⟫ back L w)));
            };
      }

  minus-zero : {x a : Obj} {t : Mor} → Arrow C x a t → Same C x a (subtract C t (C.zero x a)) t
  minus-zero {x} {a} {t} T =
      let Z = zero-of L T in
      added L (same L T) (back L (zero-add L (negate-arrow L Z)) ⟫ add-negate L Z) ⟫ add-zero L T

  -- where t·f = 0, t·(1 − f·g) = t
  fixed-by-rest : {x a b : Obj} {f t : Mor} → Arrow C a b f → (r : HasReturn C a b f) → Arrow C x a t → Same C x b (C.compose t f) (C.zero x b)
      → Same C x a (C.compose t (subtract C (C.identity a) (C.compose f r.by))) t
  fixed-by-rest {x} {a} {b} {f} {t} F r T z =
      let I = L.identity_arrow a (from-object L F) in
      let FG = L.compose_arrow F r.arrow in
      let tfg : Same C x a (C.compose t (C.compose f r.by)) (C.zero x a) = back L (assoc L T F r.arrow) ⟫ composed L z (same L r.arrow) ⟫ zero-compose L (from-object L T) r.arrow in
      compose-subtract L T I FG
      ⟫ subtracted L (unit-right L T) tfg
      ⟫ minus-zero T

  pub rest-arrow : {a b : Obj} {f : Mor} → Arrow C a b f → (r : HasReturn C a b f) → Arrow C a a (subtract C (C.identity a) (C.compose f r.by))
  rest-arrow {a} F r = subtract-arrow L (L.identity_arrow a (from-object L F)) (L.compose_arrow F r.arrow)

  -- (1 − f·g)·f = 0
  rest-null : {a b : Obj} {f : Mor} → Arrow C a b f → (r : HasReturn C a b f) → Same C a b (C.compose (subtract C (C.identity a) (C.compose f r.by)) f) (C.zero a b)
  rest-null {a} F r =
      subtract-compose L (L.identity_arrow a (from-object L F)) (L.compose_arrow F r.arrow) F ⟫ subtract-from-equal L (unit-left L F ⟫ back L r.is)

  rest-twice : {a b : Obj} {f : Mor} → Arrow C a b f → (r : HasReturn C a b f)
      → Same C a a (C.compose (subtract C (C.identity a) (C.compose f r.by)) (subtract C (C.identity a) (C.compose f r.by))) (subtract C (C.identity a) (C.compose f r.by))
  rest-twice F r = fixed-by-rest F r (rest-arrow F r) (rest-null F r)

  -- f·(1 − g·f) = 0
  pub corest-null : {a b : Obj} {f : Mor} → Arrow C a b f → (r : HasReturn C a b f) → Same C a b (C.compose f (subtract C (C.identity b) (C.compose r.by f))) (C.zero a b)
  corest-null {a} {b} F r =
      compose-subtract L F (L.identity_arrow b (to-object L F)) (L.compose_arrow r.arrow F)
      ⟫ subtract-from-equal L (unit-right L F ⟫ back L (back L (assoc L F r.arrow F) ⟫ r.is))

  -- where t·(1 − g·f) = 0, t is (t·g)·f
  pub corest-gives : {x a b : Obj} {f t : Mor} → Arrow C a b f → (r : HasReturn C a b f) → Arrow C x b t
      → Same C x b (C.compose t (subtract C (C.identity b) (C.compose r.by f))) (C.zero x b) → Same C x b (C.compose (C.compose t r.by) f) t
  corest-gives {x} {a} {b} F r T z =
      assoc L T r.arrow F ⟫ back L (equal-after L T (L.identity_arrow b (to-object L F)) (L.compose_arrow r.arrow F) z) ⟫ unit-right L T

  -- t is u·f for some u exactly where it is (t·g)·f
  pub lift-returns : {x a b : Obj} {f t : Mor} → Arrow C a b f → (r : HasReturn C a b f) → Arrow C x b t → Some-arrow C x a (λ u. Same C x b (C.compose u f) t)
      → Same C x b (C.compose (C.compose t r.by) f) t
  lift-returns F r T s =
      assoc L T r.arrow F ⟫ composed L (back L s.holds) (same L (L.compose_arrow r.arrow F)) ⟫ assoc L s.arrow F (L.compose_arrow r.arrow F)
      ⟫ composed L (same L s.arrow) (back L (assoc L F r.arrow F) ⟫ r.is) ⟫ s.holds

  pub lift-decided : {x a b : Obj} {f t : Mor} → Arrow C a b f → (r : HasReturn C a b f) → Arrow C x b t
      → Same C x b (C.compose (C.compose t r.by) f) t ⊎ (Same C x b (C.compose (C.compose t r.by) f) t → ⊥) → (o : Option Mor) × IsLift C x a b t f o
  lift-decided {x} {a} {b} {f} {t} F r T (inl e) = (Some (C.compose t r.by), (L.compose_arrow T r.arrow, e))
  lift-decided {x} {a} {b} {f} {t} F r T (inr n) = (None, λ s. n (lift-returns F r T s))

  -- what has a right inverse is mono
  pub split-cancel : {x k b : Obj} {n h v w : Mor} → Arrow C k b n → Arrow C b k h → Same C k k (C.compose n h) (C.identity k) → Arrow C x k v → Arrow C x k w
      → Same C x b (C.compose v n) (C.compose w n) → Same C x k v w
  split-cancel N H unit V W e =
      back L (unit-right L V) ⟫ composed L (same L V) (back L unit) ⟫ back L (assoc L V N H)
      ⟫ composed L e (same L H)
      ⟫ assoc L W N H ⟫ composed L (same L W) unit ⟫ unit-right L W

  -- what is 0 before f is what the span of 1 − f·g holds, so its split is a kernel of f
  pub kernel-by-split : {a b : Obj} {f : Mor} → Arrow C a b f → (r : HasReturn C a b f) → (s : HasSplit C a a (subtract C (C.identity a) (C.compose f r.by))) → IsKernel C s.middle a b f s.right
  kernel-by-split {a} {b} {f} F r s =
      let E = rest-arrow F r in
      record {
        arrow = s.right_arrow;
        zero = composed L (back L s.reached) (same L F) ⟫ assoc L s.onto_arrow E F ⟫ composed L (same L s.onto_arrow) (rest-null F r) ⟫ compose-zero L s.onto_arrow (to-object L F);
        lift = λ {x} {t} T z. record {
          by = C.compose t s.left;
          arrow = L.compose_arrow T s.left_arrow;
          holds = assoc L T s.left_arrow s.right_arrow ⟫ composed L (same L T) s.whole ⟫ fixed-by-rest F r T z;
          only = λ V W u w. split-cancel s.right_arrow s.section_arrow s.unit V W (u ⟫ back L w);
        };
      }

  pub kernel-from-split : {a b : Obj} {f : Mor} → Arrow C a b f → (r : HasReturn C a b f) → HasSplit C a a (subtract C (C.identity a) (C.compose f r.by)) → HasKernel C a b f
  kernel-from-split F r s = record { object = s.middle; by = s.right; is = kernel-by-split F r s }

  -- a split of an idempotent is one on the other side too
  pub opposite-split : {a : Obj} {e : Mor} → Arrow C a a e → Same C a a (C.compose e e) e → HasSplit C a a e → HasSplit (opposite C) a a e
  opposite-split {a} {e} E twice s =
      let left-is : Same C a s.middle (C.compose e s.section) s.left =
      composed L (back L s.whole) (same L s.section_arrow) ⟫ assoc L s.left_arrow s.right_arrow s.section_arrow ⟫ composed L (same L s.left_arrow) s.unit ⟫ unit-right L s.left_arrow in
      let kept : Same C s.middle a (C.compose s.right e) s.right =
      composed L (back L s.reached) (same L E) ⟫ assoc L s.onto_arrow E E ⟫ composed L (same L s.onto_arrow) twice ⟫ s.reached in
      record {
        middle = s.middle;
        left = s.right;
        right = s.left;
        onto = s.section;
        section = s.right;
        left_arrow = turn s.right_arrow;
        right_arrow = turn s.left_arrow;
        onto_arrow = turn s.section_arrow;
        section_arrow = turn s.right_arrow;
        whole = turn-same s.whole;
        reached = turn-same left-is;
        unit = turn-same
            (composed L (same L s.right_arrow) (back L left-is) ⟫ back L (assoc L s.right_arrow E s.section_arrow) ⟫ composed L kept (same L s.section_arrow) ⟫ s.unit);
      }

pub half-abelian : {Obj Mor : Type 0} {C : CategoryData Obj Mor} → IsLinear C → HasSplits C → HasHalfAbelian C
half-abelian L S = record {
  kernel = λ F. let r = return-from-split L F (S.split F) in kernel-from-split L F r (S.split (rest-arrow L F r));
  mono_is_kernel = λ m K. mono-is-kernel L m (return-from-split L m.arrow (S.split m.arrow)) K;
}

return-opposite : {Obj Mor : Type 0} {C : CategoryData Obj Mor} → IsLinear C → HasSplits C → {a b : Obj} {f : Mor} → Arrow (opposite C) a b f → HasReturn (opposite C) a b f
return-opposite L S F = opposite-return L (turned F) (return-from-split L (turned F) (S.split (turned F)))

pub lift-of : {Obj Mor : Type 0} {C : CategoryData Obj Mor} → IsLinear C → HasSplits C → {x a b : Obj} {f t : Mor} → Arrow C a b f → Arrow C x b t
    → ((u v : Mor) → Arrow C x b u → Arrow C x b v → Same C x b u v ⊎ (Same C x b u v → ⊥)) → (o : Option Mor) × IsLift C x a b t f o
lift-of {Obj} {Mor} {C} L S {x} {a} {b} {f} {t} F T d =
    let r = return-from-split L F (S.split F) in
    lift-decided L F r T (d (C.compose (C.compose t r.by) f) t (L.compose_arrow (L.compose_arrow T r.arrow) F) T)

pub colift-of : {Obj Mor : Type 0} {C : CategoryData Obj Mor} → IsLinear C → HasSplits C → {x a b : Obj} {f t : Mor} → Arrow (opposite C) a b f → Arrow (opposite C) x b t
    → ((u v : Mor) → Arrow (opposite C) x b u → Arrow (opposite C) x b v → Same (opposite C) x b u v ⊎ (Same (opposite C) x b u v → ⊥)) → (o : Option Mor) × IsLift (opposite C) x a b t f o
colift-of {Obj} {Mor} {C} L S {x} {a} {b} {f} {t} F T d =
    let O = opposite-linear L in
    let r = return-opposite L S F in
    lift-decided O F r T (d (C.compose f (C.compose r.by t)) t (O.compose_arrow (O.compose_arrow T r.arrow) F) T)

pub half-abelian-opposite : {Obj Mor : Type 0} {C : CategoryData Obj Mor} → IsLinear C → HasSplits C → HasHalfAbelian (opposite C)
half-abelian-opposite L S =
    let O = opposite-linear L in
    record {
      kernel = λ F. let r = return-opposite L S F in
          kernel-from-split O F r (opposite-split L (turned (rest-arrow O F r)) (turned-same (rest-twice O F r)) (S.split (turned (rest-arrow O F r))));
      mono_is_kernel = λ m K. mono-is-kernel O m (return-opposite L S m.arrow) K;
    }

pub abelian-from-splits : {Obj Mor : Type 0} {C : CategoryData Obj Mor} → IsLinear C → IsAdditive C → HasSplits C → IsAbelian C
abelian-from-splits L A S = record { additive = A; kernels = half-abelian L S; cokernels = half-abelian-opposite L S }
