-- Monos by kernels and by pullbacks, and isomorphisms of an abelian category.
use Rattle.cap_laws.specs.Linear.{CategoryData, IsLinear, Arrow, Same}
use Rattle.cap_laws.specs.Universal.{IsMono, IsEpi, IsPullback, IsSection, IsInverse, IsIso, IsAbelian}
use Rattle.cap_laws.proofs.Calculus.{from-object, to-object, same, back, ◌⟫◌ as join, composed, assoc, unit-left, unit-right, zero-compose}
use Rattle.cap_laws.proofs.Opposite.{turn, turned, turn-same, turned-same}
use Rattle.cap_laws.proofs.Isos.{section-is-retraction}
use Rattle.cap_laws.proofs.Unique.{mono-cancels}

module _ {Obj Mor : Type 0} {C : CategoryData Obj Mor} (L : IsLinear C) where
  infixr 5 ◌⟫◌
  ◌⟫◌ : {a b : Obj} {f g h : Mor} → Same C a b f g → Same C a b g h → Same C a b f h
  ◌⟫◌ s t = join L s t

  -- f is mono exactly where the two parts of a pullback of f and f are congruent
  pub mono-from-pullback : {k a b : Obj} {f p q : Mor} → Arrow C a b f → IsPullback C k a a b f f p q → Same C k a p q → IsMono C a b f
  mono-from-pullback {a = a} F P s = record {
    arrow = F;
    cancel = λ {x} T e.
        let n = L.zero_arrow x a (from-object L T) (from-object L F) in
        let w = P.pair T n (e ⟫ back L (zero-compose L (from-object L T) F)) in
        back L w.holds.first ⟫ composed L (same L w.arrow) s ⟫ w.holds.second;
  }

  pub pullback-of-mono : {k a b : Obj} {f p q : Mor} → IsPullback C k a a b f f p q → IsMono C a b f → Same C k a p q
  pullback-of-mono P M = mono-cancels L M P.first P.second P.square

  -- a section of a mono is its inverse
  pub inverse-of-mono : {a b : Obj} {f s : Mor} → IsMono C a b f → IsSection C a b f s → IsInverse C a b f s
  inverse-of-mono {a} M S =
      let F = M.arrow in
      record {
        arrow = S.arrow;
        left = mono-cancels L M (L.compose_arrow F S.arrow) (L.identity_arrow a (from-object L F)) (assoc L F S.arrow F ⟫ composed L (same L F) S.is ⟫ unit-right L F ⟫ back L (unit-left L F));
        right = S.is;
      }

  -- a section s with f·s = 1 is an inverse, and where f has an inverse, each section is one
  pub inverse-from-section : {a b : Obj} {f s : Mor} → IsSection C a b f s → Same C a a (C.compose f s) (C.identity a) → IsInverse C a b f s
  inverse-from-section S e = record { arrow = S.arrow; left = e; right = S.is }

  pub section-of-inverse : {a b : Obj} {f g s : Mor} → Arrow C a b f → IsInverse C a b f g → IsSection C a b f s → Same C a a (C.compose f s) (C.identity a)
  section-of-inverse F I S = composed L (same L F) (section-is-retraction L S (record { arrow = turn I.arrow; is = turn-same I.left }) F) ⟫ I.left

  -- a mono that is epi has a section, in an abelian category
  epi-section : {a b : Obj} {f : Mor} → IsAbelian C → IsMono C a b f → IsEpi C a b f → (s : Mor) × IsSection C a b f s
  epi-section {a} {b} {f} A M E =
      let H = A.cokernels.kernel (turn M.arrow) in
      let K = A.kernels.mono_is_kernel M H.is in
      let p = turned H.is.arrow in
      let one = L.identity_arrow b (to-object L M.arrow) in
      let w = K.lift one (unit-left L p ⟫ turned-same (E.cancel H.is.arrow H.is.zero)) in
      (w.by, record { arrow = w.arrow; is = w.holds })

  pub iso-from-mono-epi : {a b : Obj} {f : Mor} → IsAbelian C → IsMono C a b f → IsEpi C a b f → IsIso C a b f
  iso-from-mono-epi A M E =
      let s = epi-section A M E in
      record { arrow = M.arrow; inverse = s.0; is = inverse-of-mono M s.1 }
