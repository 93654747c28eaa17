-- Monos are kernels of their cokernels, and epis cokernels of their kernels.
use Rattle.cap_laws.specs.Linear.{CategoryData, IsLinear, Arrow, Same}
use Rattle.cap_laws.specs.Universal.{IsMono, IsEpi, IsKernel, IsCokernel, IsDirectSum}
use Rattle.cap_laws.proofs.Calculus.{from-object, to-object, same, back, ◌⟫◌ as join, composed, assoc, unit-left, unit-right, compose-zero, zero-compose, subtracted, subtract-arrow, subtract-compose, compose-subtract}
use Rattle.cap_laws.proofs.Unique.{mono-cancels}
use Rattle.cap_laws.proofs.Opposite.{turn, turned, turn-same, turned-same, opposite-linear}
use Rattle.cap_laws.specs.Factor.{Through, rows}
use Rattle.cap_freyd_laws.specs.declared.values.Presentation.{Presentation}
use Rattle.cap_freyd_laws.specs.declared.values.PresentationMor.{PresentationMor}
use Rattle.cap_freyd_laws.specs.Freyd.{freyd_data}
use Rattle.cap_laws.proofs.Differences.{subtract-part}
use Rattle.cap_laws.proofs.Factor.{through-same, through-by, through-zero, through-before, through-self, through-other, modulo-back}
use Rattle.cap_freyd_laws.proofs.Linear.{relation, below, freyd-linear}
use Rattle.cap_freyd_laws.proofs.Bridge.{arrow-of, alpha-of, omega-of, same-of, null-of, zero-of}
use Rattle.cap_laws.proofs.Blocks.{parts, rows-arrow}
use Rattle.cap_freyd_laws.proofs.Cokernel.{cokernel-from-rows}

module _ {Obj Mor : Type 0} {C : CategoryData Obj Mor} (L : IsLinear C) where
  infixr 5 ◌⟫◌
  ◌⟫◌ : {a b : Obj} {f g h : Mor} → Same C a b f g → Same C a b g h → Same C a b f h
  ◌⟫◌ s t = join L s t

  -- every morphism into a's target is one out of the object o with no relations
  pub free : {o r x : Obj} {a : Presentation Mor} {h : Mor} → Arrow C r x a.relation → Arrow C o x h → Arrow (freyd_data C) (record { relation = C.zero o o }) a (record { from = record { relation = C.zero o o }; to = a; alpha = h })
  free {o} {r} {x} {a} {h} A H =
      let i = from-object L H in
      arrow-of L (L.zero_arrow o o i i) A H (through-same L (zero-compose L i H) (through-zero L i A))

  -- a mono reflects what factors
  pub mono-reflects : {r x s y o : Obj} {a b : Presentation Mor} {h : Mor} {f : PresentationMor Mor} → Arrow C r x a.relation → Arrow C s y b.relation → IsMono (freyd_data C) a b f → Arrow C o x h → Through C o s y b.relation (C.compose h f.alpha) → Through C o r x a.relation h
  mono-reflects {r} {x} {s} {y} {o} A B M H T =
      let i = from-object L H in
      let O = L.zero_arrow o o i i in
      let E = free A H in
      null-of L O A (M.cancel E (zero-of L O B ((freyd-linear L).compose_arrow E M.arrow) T))

  -- what is 0 on a kernel of f is 0 on all that f sends to 0
  pub kernel-kills : {r x s y q z o : Obj} {k a b c : Presentation Mor} {h : Mor} {f i t : PresentationMor Mor} → Arrow C r x a.relation → Arrow C s y b.relation → Arrow C q z c.relation → Arrow (freyd_data C) a b f → IsKernel (freyd_data C) k a b f i → Arrow (freyd_data C) a c t → Same (freyd_data C) k c ((freyd_data C).compose i t) ((freyd_data C).zero k c) → Arrow C o x h → Through C o s y b.relation (C.compose h f.alpha) → Through C o q z c.relation (C.compose h t.alpha)
  kernel-kills {r} {x} {s} {y} {q} {z} {o} {k} {a} {b} {c} {h} {f} {i} {t} A B Q F K T Z H N =
      let LF = freyd-linear L in
      let j = from-object L H in
      let O = L.zero_arrow o o j j in
      let E = free A H in
      let u = K.lift E (zero-of L O B (LF.compose_arrow E F) N) in
      null-of L O Q (join LF (composed LF (back LF u.holds) (same LF T))
      (join LF (assoc LF u.arrow K.arrow T) (join LF (composed LF (same LF u.arrow) Z) (compose-zero LF u.arrow (below L T).to))))

  -- what a cokernel sends to 0, the canonical one does: it is s·b + u·alpha
  pub cokernel-parts : {w r x s y : Obj} {a b c e : Presentation Mor} {i1 i2 p1 p2 : Mor} {f p t : PresentationMor Mor} → Arrow C r x a.relation → Arrow C s y b.relation → Arrow (freyd_data C) a b f → IsDirectSum C w s x i1 i2 p1 p2 → IsCokernel (freyd_data C) a b c f p → Arrow (freyd_data C) e b t → Same (freyd_data C) e c ((freyd_data C).compose t p) ((freyd_data C).zero e c) → Through C (C.target e.relation) w y (rows C p1 p2 b.relation f.alpha) t.alpha
  cokernel-parts {w} {r} {x} {s} {y} {a} {b} {c} {e} {i1} {i2} {p1} {p2} {f} {p} {t} A B F D K T Z =
      let LF = freyd-linear L in
      let E = relation L (below L T).from in
      let alpha = alpha-of L A B F in
      let N = cokernel-from-rows L A B F D in
      let u = K.lift N.arrow N.zero in
      let U = turned u.arrow in
      let z = join LF (composed LF (same LF T) (back LF (turned-same u.holds)))
      (join LF (back LF (assoc LF T (turned K.arrow) U)) (join LF (composed LF Z (same LF U)) (zero-compose LF (from-object LF T) U))) in
      through-same L (back L (unit-right L (alpha-of L E B T))) (null-of L E (rows-arrow L D B alpha) z)

  pub mono-is-kernel : {w r x s y : Obj} {a b c : Presentation Mor} {i1 i2 p1 p2 : Mor} {f p : PresentationMor Mor} → Arrow C r x a.relation → Arrow C s y b.relation → IsDirectSum C w s x i1 i2 p1 p2 → IsMono (freyd_data C) a b f → IsCokernel (freyd_data C) a b c f p → IsKernel (freyd_data C) a b c p f
  mono-is-kernel {w} {r} {x} {s} {y} {a} {b} {c} {i1} {i2} {p1} {p2} {f} {p} A B D M K =
      let LF = freyd-linear L in
      let F = M.arrow in
      let alpha = alpha-of L A B F in
      record {
        arrow = F;
        zero = turned-same K.zero;
        lift = λ {x = e} {t} T Z.
            let E = relation L (below L T).from in
            let tau = alpha-of L E B T in
            let h = parts L D B alpha (cokernel-parts A B F D K T Z) in
            let va = L.compose_arrow h.second alpha in
            let rest = through-same L (subtract-part L (L.compose_arrow h.first B) va h.holds) (through-by L h.first B) in
            let U = arrow-of L E A h.second (mono-reflects A B M (L.compose_arrow E h.second)
            (through-same L (assoc L E h.second alpha)
            (through-other L (L.compose_arrow E va) (L.compose_arrow E tau) (through-same L (back L (compose-subtract L E tau va)) (through-before L E rest)) (omega-of L E B T)))) in
            record {
              by = record { from = e; to = a; alpha = h.v };
              arrow = U;
              holds = back LF (same-of L E B T (LF.compose_arrow U F) rest);
              only = λ V W P Q. mono-cancels LF M V W (join LF P (back LF Q));
            };
      }

  pub epi-is-cokernel : {w r x s y : Obj} {k a b : Presentation Mor} {i1 i2 p1 p2 : Mor} {f i : PresentationMor Mor} → Arrow C r x a.relation → Arrow C s y b.relation → IsDirectSum C w s x i1 i2 p1 p2 → IsEpi (freyd_data C) a b f → IsKernel (freyd_data C) k a b f i → IsCokernel (freyd_data C) k a b i f
  epi-is-cokernel {w} {r} {x} {s} {y} {k} {a} {b} {i1} {i2} {p1} {p2} {f} {i} A B D M K =
      let LF = freyd-linear L in
      let F = turned M.arrow in
      let alpha = alpha-of L A B F in
      let one = L.identity_arrow y (to-object L B) in
      let one' = L.identity_arrow x (to-object L A) in
      let N = cokernel-from-rows L A B F D in
      let h = parts L D B alpha (null-of L B (rows-arrow L D B alpha) (turned-same (M.cancel N.arrow N.zero))) in
      let v = h.second in
      let va = L.compose_arrow v alpha in
      let av = L.compose_arrow alpha v in
      let bv = L.compose_arrow B v in
      let rest = through-same L (subtract-part L (L.compose_arrow h.first B) va h.holds) (through-by L h.first B) in
      let d = subtract-arrow L av one' in
      let onto = through-same L (assoc L B v alpha) (through-other L (L.compose_arrow B va) (L.compose_arrow B one) (through-same L (back L (compose-subtract L B one va)) (through-before L B rest)) (through-same L (unit-right L B) (through-self L B))) in
      let along = through-same L (subtract-compose L av one' alpha ⟫ subtracted L (assoc L alpha v alpha) (unit-left L alpha ⟫ back L (unit-right L alpha)) ⟫ back L (compose-subtract L alpha va one)) (through-before L alpha (modulo-back L one va rest)) in
      record {
        arrow = M.arrow;
        zero = turn-same K.zero;
        lift = λ {x = o} {t} T' Z'.
            let T = turned T' in
            let Z = turned-same Z' in
            let O = relation L (below L T).to in
            let tau = alpha-of L A O T in
            let U = arrow-of L B O (L.compose_arrow v tau) (through-same L (back L (assoc L B v tau)) (kernel-kills A B O F K T Z bv onto)) in
            record {
              by = record { from = b; to = o; alpha = C.compose h.v t.alpha };
              arrow = turn U;
              holds = turn-same (same-of L A O (LF.compose_arrow F U) T (through-same L (subtracted L (back L (assoc L alpha v tau)) (back L (unit-left L tau)) ⟫ back L (subtract-compose L av one' tau)) (kernel-kills A B O F K T Z d along)));
              only = λ V W P Q. mono-cancels (opposite-linear LF) M V W (join (opposite-linear LF) P (back (opposite-linear LF) Q));
            };
      }
