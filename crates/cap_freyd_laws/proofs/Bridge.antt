-- Arrows and congruence of the Freyd category, at any names of the ends.
use Rattle.std.proofs.Common.{refl}
use Rattle.cap_laws.specs.Linear.{CategoryData, IsLinear, Arrow, Same}
use Rattle.cap_laws.specs.Universal.{subtract}
use Rattle.cap_laws.specs.Factor.{Through}
use Rattle.cap_freyd_laws.specs.declared.values.Presentation.{Presentation}
use Rattle.cap_freyd_laws.specs.declared.values.PresentationMor.{PresentationMor}
use Rattle.cap_freyd_laws.specs.Freyd.{freyd_data}
use Rattle.cap_laws.proofs.Systems.{move, unmove}
use Rattle.cap_freyd_laws.proofs.Linear.{below, above, modulo, above-same, null, null-at}

module _ {Obj Mor : Type 0} {C : CategoryData Obj Mor} (L : IsLinear C) where
  pub arrow-of : {r x s y : Obj} {a b : Presentation Mor} {alpha : Mor} → Arrow C r x a.relation → Arrow C s y b.relation → Arrow C x y alpha → Through C r s y b.relation (C.compose a.relation alpha) → Arrow (freyd_data C) a b (record { from = a; to = b; alpha = alpha })
  arrow-of {r} {x} {s} {y} {a} {b} {alpha} A B p t = above L refl refl (record {
    from = A.is;
    to = B.is;
    arrow = unmove A (λ r' x'. Arrow C x' (C.target b.relation) alpha) (unmove B (λ s' y'. Arrow C x y' alpha) p);
    omega = unmove A (λ r' x'. Through C r' (C.source b.relation) (C.target b.relation) b.relation (C.compose a.relation alpha)) (unmove B (λ s' y'. Through C r s' y' b.relation (C.compose a.relation alpha)) t);
  })

  pub alpha-of : {r x s y : Obj} {a b : Presentation Mor} {f : PresentationMor Mor} → Arrow C r x a.relation → Arrow C s y b.relation → Arrow (freyd_data C) a b f → Arrow C x y f.alpha
  alpha-of {r} {x} {s} {y} {a} {b} {f} A B p = move B (λ s' y'. Arrow C x y' f.alpha) (move A (λ r' x'. Arrow C x' (C.target b.relation) f.alpha) (below L p).arrow)

  pub omega-of : {r x s y : Obj} {a b : Presentation Mor} {f : PresentationMor Mor} → Arrow C r x a.relation → Arrow C s y b.relation → Arrow (freyd_data C) a b f → Through C r s y b.relation (C.compose a.relation f.alpha)
  omega-of {r} {x} {s} {y} {a} {b} {f} A B p = move B (λ s' y'. Through C r s' y' b.relation (C.compose a.relation f.alpha)) (move A (λ r' x'. Through C r' (C.source b.relation) (C.target b.relation) b.relation (C.compose a.relation f.alpha)) (below L p).omega)

  pub modulo-of : {r x s y : Obj} {a b : Presentation Mor} {f g : PresentationMor Mor} → Arrow C r x a.relation → Arrow C s y b.relation → Same (freyd_data C) a b f g → Through C x s y b.relation (subtract C f.alpha g.alpha)
  modulo-of {r} {x} {s} {y} {a} {b} {f} {g} A B p = move B (λ s' y'. Through C x s' y' b.relation (subtract C f.alpha g.alpha)) (move A (λ r' x'. Through C x' (C.source b.relation) (C.target b.relation) b.relation (subtract C f.alpha g.alpha)) (modulo L p))

  pub same-of : {r x s y : Obj} {a b : Presentation Mor} {f g : PresentationMor Mor} → Arrow C r x a.relation → Arrow C s y b.relation → Arrow (freyd_data C) a b f → Arrow (freyd_data C) a b g → Through C x s y b.relation (subtract C f.alpha g.alpha) → Same (freyd_data C) a b f g
  same-of {r} {x} {s} {y} {a} {b} {f} {g} A B p q t = above-same L p q (unmove A (λ r' x'. Through C x' (C.source b.relation) (C.target b.relation) b.relation (subtract C f.alpha g.alpha)) (unmove B (λ s' y'. Through C x s' y' b.relation (subtract C f.alpha g.alpha)) t))

  pub null-of : {r x s y : Obj} {a b : Presentation Mor} {f : PresentationMor Mor} → Arrow C r x a.relation → Arrow C s y b.relation → Same (freyd_data C) a b f ((freyd_data C).zero a b) → Through C x s y b.relation f.alpha
  null-of {r} {x} {s} {y} {a} {b} {f} A B p = move B (λ s' y'. Through C x s' y' b.relation f.alpha) (move A (λ r' x'. Through C x' (C.source b.relation) (C.target b.relation) b.relation f.alpha) (null L p))

  pub zero-of : {r x s y : Obj} {a b : Presentation Mor} {f : PresentationMor Mor} → Arrow C r x a.relation → Arrow C s y b.relation → Arrow (freyd_data C) a b f → Through C x s y b.relation f.alpha → Same (freyd_data C) a b f ((freyd_data C).zero a b)
  zero-of {r} {x} {s} {y} {a} {b} {f} A B p t = null-at L p (unmove A (λ r' x'. Through C x' (C.source b.relation) (C.target b.relation) b.relation f.alpha) (unmove B (λ s' y'. Through C x s' y' b.relation f.alpha) t))
