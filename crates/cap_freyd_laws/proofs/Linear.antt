-- The Freyd category of a linear category is linear.
use Rattle.std.proofs.Common.{◌≡◌, ℕ, ◌+◌, ◌*◌, refl, sym, subst}
use Rattle.cap_laws.specs.Linear.{CategoryData, IsLinear, Arrow, Same}
use Rattle.cap_laws.specs.Universal.{subtract}
use Rattle.cap_laws.proofs.Calculus.{same, back, ◌⟫◌ as join, assoc, unit-left, unit-right, add-assoc, add-swap, add-zero, compose-add, add-compose, compose-scale, scale-compose, compose-zero, scale-prime}
use Rattle.cap_laws.specs.Factor.{Through}
use Rattle.cap_freyd_laws.specs.declared.values.Presentation.{Presentation}
use Rattle.cap_freyd_laws.specs.declared.values.PresentationMor.{PresentationMor}
use Rattle.cap_freyd_laws.specs.Freyd.{IsFreydMorphism, freyd_data}
use Rattle.cap_laws.proofs.Differences.{subtract-zero, scale-add, scale-product, subtract-sums, subtract-scaled, subtract-products}
use Rattle.cap_laws.proofs.Factor.{through-same, through-self, through-zero, through-add, through-scale, through-before, through-after, modulo-same, modulo-back, modulo-join}

module _ {Obj Mor : Type 0} {C : CategoryData Obj Mor} (L : IsLinear C) where
  pub relation : {a : Mor} → C.is_morphism a → Arrow C (C.source a) (C.target a) a
  relation p = record { is = p; from = refl; to = refl }

module _ {Obj Mor : Type 0} {C : CategoryData Obj Mor} (L : IsLinear C) where
  infixr 5 ◌⟫◌
  ◌⟫◌ : {a b : Obj} {f g h : Mor} → Same C a b f g → Same C a b g h → Same C a b f h
  ◌⟫◌ s t = join L s t

  -- an arrow of the Freyd category, read in C
  pub below : {a b : Presentation Mor} {f : PresentationMor Mor} → Arrow (freyd_data C) a b f → IsFreydMorphism C a.relation b.relation f.alpha
  below {a} {b} {f} p = subst (λ (y : Presentation Mor). IsFreydMorphism C a.relation y.relation f.alpha) p.to (subst (λ (x : Presentation Mor). IsFreydMorphism C x.relation f.to.relation f.alpha) p.from p.is)

  pub above : {a b : Presentation Mor} {f : PresentationMor Mor} → f.from ≡ a → f.to ≡ b → IsFreydMorphism C a.relation b.relation f.alpha → Arrow (freyd_data C) a b f
  above {a} {b} {f} d e p = record { is = subst (λ (y : Presentation Mor). IsFreydMorphism C f.from.relation y.relation f.alpha) (sym e) (subst (λ (x : Presentation Mor). IsFreydMorphism C x.relation b.relation f.alpha) (sym d) p); from = d; to = e }

  -- congruence of the Freyd category, read in C
  pub modulo : {a b : Presentation Mor} {f g : PresentationMor Mor} → Same (freyd_data C) a b f g → Through C (C.target a.relation) (C.source b.relation) (C.target b.relation) b.relation (subtract C f.alpha g.alpha)
  modulo {a} {b} {f} {g} s =
      subst (λ y. Through C (C.target a.relation) (C.source y.relation) (C.target y.relation) y.relation (subtract C f.alpha g.alpha)) s.left.to
      (subst (λ (x : Presentation Mor). Through C (C.target x.relation) (C.source f.to.relation) (C.target f.to.relation) f.to.relation (subtract C f.alpha g.alpha)) s.left.from s.congruent)

  pub above-same : {a b : Presentation Mor} {f g : PresentationMor Mor} → Arrow (freyd_data C) a b f → Arrow (freyd_data C) a b g → Through C (C.target a.relation) (C.source b.relation) (C.target b.relation) b.relation (subtract C f.alpha g.alpha) → Same (freyd_data C) a b f g
  above-same {a} {b} {f} {g} p q t = record {
    left = p;
    right = q;
    congruent = subst (λ y. Through C (C.target f.from.relation) (C.source y.relation) (C.target y.relation) y.relation (subtract C f.alpha g.alpha)) (sym p.to)
        (subst (λ (x : Presentation Mor). Through C (C.target x.relation) (C.source b.relation) (C.target b.relation) b.relation (subtract C f.alpha g.alpha)) (sym p.from) t);
  }

  -- what is congruent in C is so in the Freyd category
  pub lifted : {a b : Presentation Mor} {f g : PresentationMor Mor} → Arrow (freyd_data C) a b f → Arrow (freyd_data C) a b g → Same C (C.target a.relation) (C.target b.relation) f.alpha g.alpha → Same (freyd_data C) a b f g
  lifted p q s = above-same p q (modulo-same L (relation L (below p).to) s)

  -- an arrow is 0 where it factors through the relation
  pub null : {a b : Presentation Mor} {f : PresentationMor Mor} → Same (freyd_data C) a b f ((freyd_data C).zero a b) → Through C (C.target a.relation) (C.source b.relation) (C.target b.relation) b.relation f.alpha
  null s = through-same L (back L (subtract-zero L (below s.left).arrow)) (modulo s)

  identity-arrow : (a : Presentation Mor) → C.is_morphism a.relation → Arrow (freyd_data C) a a ((freyd_data C).identity a)
  identity-arrow a o = above refl refl (record {
    from = o;
    to = o;
    arrow = L.identity_arrow (C.target a.relation) (L.target_object a.relation o);
    omega = through-same L (unit-right L (relation L o)) (through-self L (relation L o));
  })

  compose-arrow : {a b c : Presentation Mor} {f g : PresentationMor Mor} → Arrow (freyd_data C) a b f → Arrow (freyd_data C) b c g → Arrow (freyd_data C) a c ((freyd_data C).compose f g)
  compose-arrow p q = let u = below p in let v = below q in above p.from q.to (record {
    from = u.from;
    to = v.to;
    arrow = L.compose_arrow u.arrow v.arrow;
    omega = through-same L (back L (assoc L (relation L u.from) u.arrow v.arrow)) (through-after L u.omega v.arrow v.omega);
  })

  zero-arrow : (a b : Presentation Mor) → C.is_morphism a.relation → C.is_morphism b.relation → Arrow (freyd_data C) a b ((freyd_data C).zero a b)
  zero-arrow a b o q = above refl refl (record {
    from = o;
    to = q;
    arrow = L.zero_arrow (C.target a.relation) (C.target b.relation) (L.target_object a.relation o) (L.target_object b.relation q);
    omega = through-same L (compose-zero L (relation L o) (L.target_object b.relation q)) (through-zero L (L.source_object a.relation o) (relation L q));
  })

  add-arrow : {a b : Presentation Mor} {f g : PresentationMor Mor} → Arrow (freyd_data C) a b f → Arrow (freyd_data C) a b g → Arrow (freyd_data C) a b ((freyd_data C).add f g)
  add-arrow p q = let u = below p in let v = below q in above p.from p.to (record {
    from = u.from;
    to = u.to;
    arrow = L.add_arrow u.arrow v.arrow;
    omega = through-same L (compose-add L (relation L u.from) u.arrow v.arrow) (through-add L u.omega v.omega);
  })

  scale-arrow : {a b : Presentation Mor} {f : PresentationMor Mor} (n : ℕ) → Arrow (freyd_data C) a b f → Arrow (freyd_data C) a b ((freyd_data C).scale n f)
  scale-arrow n p = let u = below p in above p.from p.to (record {
    from = u.from;
    to = u.to;
    arrow = L.scale_arrow n u.arrow;
    omega = through-same L (compose-scale L n (relation L u.from) u.arrow) (through-scale L n u.omega);
  })

  pub null-at : {a b : Presentation Mor} {f : PresentationMor Mor} → Arrow (freyd_data C) a b f → Through C (C.target a.relation) (C.source b.relation) (C.target b.relation) b.relation f.alpha → Same (freyd_data C) a b f ((freyd_data C).zero a b)
  null-at {a} {b} p t = let u = below p in above-same p (zero-arrow a b u.from u.to) (through-same L (subtract-zero L u.arrow) t)

  pub freyd-linear : IsLinear (freyd_data C)
  freyd-linear = record {
    prime_tabled = L.prime_tabled;
    source_object = λ f p. p.from;
    target_object = λ f p. p.to;
    identity_arrow = identity-arrow;
    compose_arrow = compose-arrow;
    zero_arrow = zero-arrow;
    add_arrow = add-arrow;
    scale_arrow = scale-arrow;
    reflexive = λ p. (lifted p p (same L (below p).arrow)).congruent;
    symmetric = λ s. (above-same s.right s.left (modulo-back L (below s.left).arrow (below s.right).arrow (modulo s))).congruent;
    transitive = λ s t. (above-same s.left t.right (modulo-join L (below s.left).arrow (below s.right).arrow (below t.right).arrow (modulo s) (modulo t))).congruent;
    compose_congruent = λ s t.
        let f = below s.left in
        let f' = below s.right in
        let g = below t.left in
        let g' = below t.right in
        (above-same (compose-arrow s.left t.left) (compose-arrow s.right t.right)
        (through-same L (subtract-products L f.arrow f'.arrow g.arrow g'.arrow)
        (through-add L (through-after L (modulo s) g.arrow g.omega) (through-before L f'.arrow (modulo t))))).congruent;
    add_congruent = λ s t.
        (above-same (add-arrow s.left t.left) (add-arrow s.right t.right)
        (through-same L (subtract-sums L (below s.left).arrow (below t.left).arrow (below s.right).arrow (below t.right).arrow) (through-add L (modulo s) (modulo t)))).congruent;
    scale_congruent = λ n s.
        (above-same (scale-arrow n s.left) (scale-arrow n s.right)
        (through-same L (subtract-scaled L n (below s.left).arrow (below s.right).arrow) (through-scale L n (modulo s)))).congruent;
    associative = λ p q r. (lifted (compose-arrow (compose-arrow p q) r) (compose-arrow p (compose-arrow q r)) (assoc L (below p).arrow (below q).arrow (below r).arrow)).congruent;
    unit_left = λ {a} p. (lifted (compose-arrow (identity-arrow a (below p).from) p) p (unit-left L (below p).arrow)).congruent;
    unit_right = λ {a} {b} p. (lifted (compose-arrow p (identity-arrow b (below p).to)) p (unit-right L (below p).arrow)).congruent;
    add_associative = λ p q r. (lifted (add-arrow (add-arrow p q) r) (add-arrow p (add-arrow q r)) (add-assoc L (below p).arrow (below q).arrow (below r).arrow)).congruent;
    add_commutative = λ p q. (lifted (add-arrow p q) (add-arrow q p) (add-swap L (below p).arrow (below q).arrow)).congruent;
    add_zero = λ {a} {b} p. (lifted (add-arrow p (zero-arrow a b (below p).from (below p).to)) p (add-zero L (below p).arrow)).congruent;
    scale_one = λ p. (lifted (scale-arrow 1 p) p (record { left = L.scale_arrow 1 (below p).arrow; right = (below p).arrow; congruent = L.scale_one (below p).arrow })).congruent;
    scale_prime = λ {a} {b} p. (lifted (scale-arrow C.prime p) (zero-arrow a b (below p).from (below p).to) (scale-prime L (below p).arrow)).congruent;
    scale_sum = λ m n p. (lifted (scale-arrow (m + n) p) (add-arrow (scale-arrow m p) (scale-arrow n p)) (record { left = L.scale_arrow (m + n) (below p).arrow; right = L.add_arrow (L.scale_arrow m (below p).arrow) (L.scale_arrow n (below p).arrow); congruent = L.scale_sum m n (below p).arrow })).congruent;
    scale_product = λ m n p. (lifted (scale-arrow (m * n) p) (scale-arrow m (scale-arrow n p)) (scale-product L m n (below p).arrow)).congruent;
    scale_add = λ n p q. (lifted (scale-arrow n (add-arrow p q)) (add-arrow (scale-arrow n p) (scale-arrow n q)) (scale-add L n (below p).arrow (below q).arrow)).congruent;
    compose_add = λ p q r. (lifted (compose-arrow p (add-arrow q r)) (add-arrow (compose-arrow p q) (compose-arrow p r)) (compose-add L (below p).arrow (below q).arrow (below r).arrow)).congruent;
    add_compose = λ p q r. (lifted (compose-arrow (add-arrow p q) r) (add-arrow (compose-arrow p r) (compose-arrow q r)) (add-compose L (below p).arrow (below q).arrow (below r).arrow)).congruent;
    compose_scale = λ n p q. (lifted (compose-arrow p (scale-arrow n q)) (scale-arrow n (compose-arrow p q)) (compose-scale L n (below p).arrow (below q).arrow)).congruent;
    scale_compose = λ n p q. (lifted (compose-arrow (scale-arrow n p) q) (scale-arrow n (compose-arrow p q)) (scale-compose L n (below p).arrow (below q).arrow)).congruent;
  }
