-- Kernels of the Freyd category.
use Rattle.std.proofs.Common.{refl, subst}
use Rattle.cap_laws.specs.Linear.{CategoryData, IsLinear, Arrow, Same}
use Rattle.cap_laws.specs.Universal.{IsKernel, IsDirectSum}
use Rattle.cap_laws.specs.declared.values.Sum.{Sum}
use Rattle.cap_laws.proofs.Calculus.{same, back, ◌⟫◌ as join, composed, assoc, subtract-arrow, subtract-compose}
use Rattle.cap_laws.specs.Factor.{IsPreimage}
use Rattle.cap_freyd_laws.specs.declared.values.Presentation.{Presentation}
use Rattle.cap_freyd_laws.specs.declared.values.PresentationMor.{PresentationMor}
use Rattle.cap_freyd_laws.specs.Freyd.{IsFreydMorphism, freyd_data}
use Rattle.cap_freyd_laws.specs.Canonical.{HasSums, HasWeakKernels, preimage, kernel_of, stack}
use Rattle.cap_laws.proofs.Factor.{through-same, modulo-same}
use Rattle.cap_freyd_laws.proofs.Linear.{relation, below, freyd-linear}
use Rattle.cap_freyd_laws.proofs.Bridge.{arrow-of, alpha-of, omega-of, modulo-of, same-of, null-of, zero-of}
use Rattle.cap_laws.proofs.Blocks.{preimage-is, rows-arrow}

module _ {Obj Mor : Type 0} {C : CategoryData Obj Mor} (L : IsLinear C) where
  infixr 5 ◌⟫◌
  ◌⟫◌ : {a b : Obj} {f g h : Mor} → Same C a b f g → Same C a b g h → Same C a b f h
  ◌⟫◌ s t = join L s t

  -- i is a weak preimage of b along alpha, and j one of a along i
  pub kernel-from-preimages : {l k r x s y : Obj} {a b : Presentation Mor} {i j : Mor} {f : PresentationMor Mor} → Arrow C r x a.relation → Arrow C s y b.relation → Arrow (freyd_data C) a b f → IsPreimage C k x s y f.alpha b.relation i → IsPreimage C l k r x i a.relation j → IsKernel (freyd_data C) (record { relation = j }) a b f (record { from = record { relation = j }; to = a; alpha = i })
  kernel-from-preimages {l} {k} {r} {x} {s} {y} {a} {b} {i} {j} {f} A B F I J =
      let E = arrow-of L J.arrow A I.arrow J.through in
      let LF = freyd-linear L in
      record {
        arrow = E;
        zero = zero-of L J.arrow B (LF.compose_arrow E F) I.through;
        lift = λ {x = o} {t} T Z.
            let O = relation L (below L T).from in
            let u = I.lift (alpha-of L O A T) (null-of L O B Z) in
            let U = arrow-of L O J.arrow u.arrow (J.lift (L.compose_arrow O u.arrow) (through-same L (assoc L O u.arrow I.arrow ⟫ composed L (same L O) (back L u.holds)) (omega-of L O A T))) in
            record {
              by = record { from = o; to = record { relation = j }; alpha = u.by };
              arrow = U;
              holds = same-of L O A (LF.compose_arrow U E) T (modulo-same L A (back L u.holds));
              only = λ {v} {w} V W P Q.
                  let v' = alpha-of L O J.arrow V in
                  let w' = alpha-of L O J.arrow W in
                  same-of L O J.arrow V W (J.lift (subtract-arrow L v' w') (through-same L (subtract-compose L v' w' I.arrow) (modulo-of L O A (join LF P (back LF Q)))));
            };
      }

  pub sum-at : {sum : Obj → Obj → Sum Mor} → HasSums C sum → {x y z w : Obj} {f g : Mor} → Arrow C x z f → Arrow C y w g → IsDirectSum C (C.target (sum (C.source f) (C.source g)).i1) x y (sum (C.source f) (C.source g)).i1 (sum (C.source f) (C.source g)).i2 (sum (C.source f) (C.source g)).p1 (sum (C.source f) (C.source g)).p2
  sum-at {sum} S {x} {y} {z} {w} {f} {g} F G =
      let d = sum (C.source f) (C.source g) in
      subst (λ b. IsDirectSum C (C.target d.i1) x b d.i1 d.i2 d.p1 d.p2) G.from
      (subst (λ a. IsDirectSum C (C.target d.i1) a (C.source g) d.i1 d.i2 d.p1 d.p2) F.from
      (S.is (C.source f) (C.source g) (L.source_object f F.is) (L.source_object g G.is)))

  pub preimage-at : {sum : Obj → Obj → Sum Mor} {weak_kernel : Mor → Mor} → HasSums C sum → HasWeakKernels C weak_kernel → {x y z : Obj} {f g : Mor} → Arrow C x z f → Arrow C y z g → IsPreimage C (C.source (weak_kernel (stack C sum f g))) x y z f g (preimage C sum weak_kernel f g)
  preimage-at {sum} {weak_kernel} S W {x} {y} {z} {f} {g} F G =
      let D = sum-at S F G in
      preimage-is L D F G (W.is (C.target (sum (C.source f) (C.source g)).i1) z (stack C sum f g) (rows-arrow L D F G))

  -- the canonical morphism is a kernel
  canonical : {sum : Obj → Obj → Sum Mor} {weak_kernel : Mor → Mor} → HasSums C sum → HasWeakKernels C weak_kernel → (f : PresentationMor Mor) → IsFreydMorphism C f.from.relation f.to.relation f.alpha → IsKernel (freyd_data C) (kernel_of C sum weak_kernel f).from f.from f.to f (kernel_of C sum weak_kernel f)
  canonical {sum} {weak_kernel} S W f p =
      let A = relation L p.from in
      let B = relation L p.to in
      let I = preimage-at S W p.arrow B in
      kernel-from-preimages A B (record { is = p; from = refl; to = refl }) I (preimage-at S W I.arrow A)

  pub freyd-kernel : {sum : Obj → Obj → Sum Mor} {weak_kernel : Mor → Mor} → HasSums C sum → HasWeakKernels C weak_kernel → {a b : Presentation Mor} {f : PresentationMor Mor} → Arrow (freyd_data C) a b f → IsKernel (freyd_data C) (kernel_of C sum weak_kernel f).from a b f (kernel_of C sum weak_kernel f)
  freyd-kernel {sum} {weak_kernel} S W {a} {b} {f} F =
      let k = kernel_of C sum weak_kernel f in
      subst (λ y. IsKernel (freyd_data C) k.from a y f k) F.to (subst (λ x. IsKernel (freyd_data C) k.from x f.to f k) F.from (canonical S W f F.is))
