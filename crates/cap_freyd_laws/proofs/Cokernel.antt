-- Cokernels of the Freyd category.
use Rattle.std.proofs.Common.{refl, subst}
use Rattle.cap_laws.specs.Linear.{CategoryData, IsLinear, Arrow, Same}
use Rattle.cap_laws.specs.Universal.{IsCokernel, IsDirectSum}
use Rattle.cap_laws.specs.declared.values.Sum.{Sum}
use Rattle.cap_freyd_laws.proofs.Kernel.{sum-at}
use Rattle.cap_laws.proofs.Calculus.{to-object, back, ◌⟫◌ as join, unit-left, unit-right, subtracted}
use Rattle.cap_laws.proofs.Opposite.{turn, turned, turn-same, turned-same}
use Rattle.cap_laws.specs.Factor.{rows}
use Rattle.cap_freyd_laws.specs.declared.values.Presentation.{Presentation}
use Rattle.cap_freyd_laws.specs.declared.values.PresentationMor.{PresentationMor}
use Rattle.cap_freyd_laws.specs.Freyd.{IsFreydMorphism, freyd_data}
use Rattle.cap_freyd_laws.specs.Canonical.{HasSums, cokernel_of}
use Rattle.cap_laws.proofs.Factor.{through-same, modulo-same}
use Rattle.cap_freyd_laws.proofs.Linear.{relation, below, freyd-linear}
use Rattle.cap_freyd_laws.proofs.Bridge.{arrow-of, alpha-of, omega-of, modulo-of, same-of, null-of, zero-of}
use Rattle.cap_laws.proofs.Blocks.{rows-arrow, first-through, second-through, rows-through}

module _ {Obj Mor : Type 0} {C : CategoryData Obj Mor} (L : IsLinear C) where
  infixr 5 ◌⟫◌
  ◌⟫◌ : {a b : Obj} {f g h : Mor} → Same C a b f g → Same C a b g h → Same C a b f h
  ◌⟫◌ s t = join L s t

  -- the identity, onto b above alpha
  pub cokernel-from-rows : {q r x s y : Obj} {a b : Presentation Mor} {i1 i2 p1 p2 : Mor} {f : PresentationMor Mor} → Arrow C r x a.relation → Arrow C s y b.relation → Arrow (freyd_data C) a b f → IsDirectSum C q s x i1 i2 p1 p2 → IsCokernel (freyd_data C) a b (record { relation = rows C p1 p2 b.relation f.alpha }) f (record { from = b; to = record { relation = rows C p1 p2 b.relation f.alpha }; alpha = C.identity y })
  cokernel-from-rows {q} {r} {x} {s} {y} {a} {b} {i1} {i2} {p1} {p2} {f} A B F D =
      let LF = freyd-linear L in
      let alpha = alpha-of L A B F in
      let R = rows-arrow L D B alpha in
      let one = L.identity_arrow y (to-object L B) in
      let E = arrow-of L B R one (through-same L (unit-right L B) (first-through L D B alpha)) in
      record {
        arrow = turn E;
        zero = turn-same (zero-of L A R (LF.compose_arrow F E) (through-same L (unit-right L alpha) (second-through L D B alpha)));
        lift = λ {x = o} {t} T' Z'.
            let T = turned T' in
            let Z = turned-same Z' in
            let O = relation L (below L T).to in
            let tau = alpha-of L B O T in
            let U = arrow-of L R O tau (rows-through L D B alpha tau (omega-of L B O T) (null-of L A O Z)) in
            record {
              by = record { from = record { relation = rows C p1 p2 b.relation f.alpha }; to = o; alpha = t.alpha };
              arrow = turn U;
              holds = turn-same (same-of L B O (LF.compose_arrow E U) T (modulo-same L O (unit-left L tau)));
              only = λ {v} {w} V' W' P' Q'.
                  let V = turned V' in
                  let W = turned W' in
                  let v' = alpha-of L R O V in
                  let w' = alpha-of L R O W in
                  turn-same (same-of L R O V W (through-same L (subtracted L (back L (unit-left L v')) (back L (unit-left L w'))) (modulo-of L B O (join LF (turned-same P') (back LF (turned-same Q'))))));
            };
      }

  canonical : {sum : Obj → Obj → Sum Mor} → HasSums C sum → (f : PresentationMor Mor) → IsFreydMorphism C f.from.relation f.to.relation f.alpha → IsCokernel (freyd_data C) f.from f.to (cokernel_of C sum f).to f (cokernel_of C sum f)
  canonical {sum} S f p =
      let A = relation L p.from in
      let B = relation L p.to in
      cokernel-from-rows A B (record { is = p; from = refl; to = refl }) (sum-at L S B p.arrow)

  -- the canonical morphism is a cokernel
  pub freyd-cokernel : {sum : Obj → Obj → Sum Mor} → HasSums C sum → {a b : Presentation Mor} {f : PresentationMor Mor} → Arrow (freyd_data C) a b f → IsCokernel (freyd_data C) a b (cokernel_of C sum f).to f (cokernel_of C sum f)
  freyd-cokernel {sum} S {a} {b} {f} F =
      let k = cokernel_of C sum f in
      subst (λ y. IsCokernel (freyd_data C) a y k.to f k) F.to (subst (λ x. IsCokernel (freyd_data C) x f.to k.to f k) F.from (canonical S f F.is))
