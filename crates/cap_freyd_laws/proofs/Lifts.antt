-- Lifts and colifts of the Freyd category are solutions of systems below.
use Rattle.std.proofs.Common.{◌-◌, ◌↔◌, refl, sym, ◌∙◌, subst, List, [], ◌∷◌, get_or, Option, Some, None, is_some, IsTrue}
use Rattle.cap_laws.specs.Linear.{CategoryData, IsLinear, Arrow, Same}
use Rattle.cap_laws.specs.Universal.{negate, subtract, Some-arrow, IsLift, IsColift}
use Rattle.cap_laws.specs.Systems.{IsSystem, IsSolution, AnswersSystem, first_of}
use Rattle.cap_laws.proofs.Systems.{one-is-system, from-one, to-one}
use Rattle.cap_laws.specs.declared.values.System.{System}
use Rattle.cap_laws.proofs.Calculus.{from-object, to-object, same, back, ◌⟫◌ as join, composed, added, scaled, unit-left, unit-right, add-swap, scale-compose, subtract-add, negate-arrow, subtract-arrow, equal-from-subtract, subtract-from-equal}
use Rattle.cap_laws.proofs.Opposite.{turn, turned, turn-same, turned-same}
use Rattle.cap_laws.specs.Factor.{Through}
use Rattle.cap_freyd_laws.specs.declared.values.Presentation.{Presentation}
use Rattle.cap_freyd_laws.specs.declared.values.PresentationMor.{PresentationMor}
use Rattle.cap_freyd_laws.specs.Freyd.{IsFreydMorphism, freyd_data}
use Rattle.cap_freyd_laws.specs.Canonical.{morphism_system, congruence_system, lift_system, colift_system, HasSolver, between, lift_of, colift_of}
use Rattle.cap_laws.proofs.Differences.{subtract-part}
use Rattle.cap_laws.proofs.Factor.{through-same, through-by, modulo-back}
use Rattle.cap_freyd_laws.proofs.Linear.{relation, below, above, modulo, above-same, freyd-linear}
use Rattle.cap_freyd_laws.proofs.Systems.{Grid, FitGrid, Solves, three-is-system, from-three, to-three}

module _ {Obj Mor : Type 0} {C : CategoryData Obj Mor} (L : IsLinear C) where
  infixr 5 ◌⟫◌
  ◌⟫◌ : {a b : Obj} {f g h : Mor} → Same C a b f g → Same C a b g h → Same C a b f h
  ◌⟫◌ s t = join L s t

  id-term : {x y q : Obj} {u r : Mor} → Arrow C x y u → Arrow C y q r → Same C x q (C.compose (C.compose (C.identity x) u) r) (C.compose u r)
  id-term U R = composed L (unit-left L U) (same L R)

  minus-term : {x y q : Obj} {u r : Mor} → Arrow C x y u → Arrow C y q r → Same C x q (C.compose (C.compose (negate C (C.identity x)) u) r) (negate C (C.compose u r))
  minus-term {x} U R =
      composed L (scale-compose L (C.prime - 1) (L.identity_arrow x (from-object L U)) U ⟫ scaled L (C.prime - 1) (unit-left L U)) (same L R)
      ⟫ scale-compose L (C.prime - 1) U R

  -- the rest of u·f + s·b = t is congruence modulo b
  modulo-from-sum : {x r b : Obj} {rho f s t : Mor} → Arrow C x b f → Arrow C x r s → Arrow C r b rho → Same C x b (C.add f (C.compose s rho)) t → Through C x r b rho (subtract C f t)
  modulo-from-sum F S R e = modulo-back L e.right F (through-same L (subtract-part L (L.compose_arrow S R) F (back L e ⟫ add-swap L F (L.compose_arrow S R))) (through-by L S R))

  -- a morphism is one exactly where its system has a solution
  pub morphism-exactly : {a b alpha : Mor} → C.is_morphism a → C.is_morphism b → Arrow C (C.target a) (C.target b) alpha → IsFreydMorphism C a b alpha ↔ ((xs : List Mor) × IsSolution C (morphism_system C a b alpha) xs)
  morphism-exactly {a} {b} {alpha} p q F =
      let V = L.compose_arrow (relation L p) F in (
        λ m. (m.omega.by ∷ [], to-one L V m.omega),
        λ s. record { from = p; to = q; arrow = F; omega = from-one L (relation L q) V s.0 s.1 },
      )

  pub morphism-is-system : {a b alpha : Mor} → C.is_morphism a → C.is_morphism b → Arrow C (C.target a) (C.target b) alpha → IsSystem C (morphism_system C a b alpha)
  morphism-is-system p q F = one-is-system L (relation L q) (L.compose_arrow (relation L p) F)

  -- two are congruent exactly where theirs has one
  pub congruence-is-system : {a b : Presentation Mor} {f g : PresentationMor Mor} → Arrow (freyd_data C) a b f → Arrow (freyd_data C) a b g → IsSystem C (congruence_system C a.relation b.relation f.alpha g.alpha)
  congruence-is-system F G = one-is-system L (relation L (below L F).to) (subtract-arrow L (below L F).arrow (below L G).arrow)

  pub congruence-exactly : {a b : Presentation Mor} {f g : PresentationMor Mor} → Arrow (freyd_data C) a b f → Arrow (freyd_data C) a b g → Same (freyd_data C) a b f g ↔ ((xs : List Mor) × IsSolution C (congruence_system C a.relation b.relation f.alpha g.alpha) xs)
  congruence-exactly {a} {b} {f} {g} F G =
      let V = subtract-arrow L (below L F).arrow (below L G).arrow in (
        λ m. ((modulo L m).by ∷ [], to-one L V (modulo L m)),
        λ s. above-same L F G (from-one L (relation L (below L F).to) V s.0 s.1),
      )

  -- lifts of t: x→b along f: a→b
  abbrev lift-grid : Mor → Mor → Mor → Grid Obj
  lift-grid x a b = record { x1 = C.target x; y1 = C.target a; x2 = C.target x; y2 = C.source b; x3 = C.source x; y3 = C.source a; p = C.target x; q = C.target b; p' = C.source x; q' = C.target a }

  abbrev LiftFits : Mor → Mor → Mor → Mor → Mor → Type 0
  LiftFits x a b t f = FitGrid C (lift-grid x a b) (C.identity (C.target x)) f (C.identity (C.target x)) b t x (C.identity (C.target a)) (negate C (C.identity (C.source x))) a (C.zero (C.source x) (C.target a))

  abbrev LiftSolves : Mor → Mor → Mor → Mor → Mor → Mor → Mor → Mor → Type 0
  LiftSolves x a b t f u s w = Solves C (lift-grid x a b) (C.identity (C.target x)) f (C.identity (C.target x)) b t x (C.identity (C.target a)) (negate C (C.identity (C.source x))) a (C.zero (C.source x) (C.target a)) u s w

  lift-fits : {x a b t f : Mor} → IsFreydMorphism C x b t → IsFreydMorphism C a b f → LiftFits x a b t f
  lift-fits {x} {a} {b} {t} {f} T F =
      let X = relation L T.from in
      let A = relation L F.from in
      let B = relation L F.to in
      record {
        left1 = L.identity_arrow (C.target x) (to-object L X);
        right1 = F.arrow;
        left2 = L.identity_arrow (C.target x) (to-object L X);
        right2 = B;
        value = T.arrow;
        left3 = X;
        right3 = L.identity_arrow (C.target a) (to-object L A);
        left4 = negate-arrow L (L.identity_arrow (C.source x) (from-object L X));
        right4 = A;
        value' = L.zero_arrow (C.source x) (C.target a) (from-object L X) (to-object L A);
      }

  lift-from : {x a b t f u s w : Mor} → IsFreydMorphism C x b t → IsFreydMorphism C a b f → LiftSolves x a b t f u s w → IsFreydMorphism C x a u × Through C (C.target x) (C.source b) (C.target b) b (subtract C (C.compose u f) t)
  lift-from {x} {a} {b} {t} {f} {u} {s} {w} T F S =
      let X = relation L T.from in
      let A = relation L F.from in
      let B = relation L F.to in
      let xu = L.compose_arrow X S.first in
      let wa = L.compose_arrow S.third A in (
        record {
          from = T.from;
          to = F.from;
          arrow = S.first;
          omega = through-same L (equal-from-subtract L xu wa (back L (added L (unit-right L xu) (minus-term S.third A)) ⟫ S.two)) (through-by L S.third A);
        },
        modulo-from-sum (L.compose_arrow S.first F.arrow) S.second B (back L (added L (id-term S.first F.arrow) (id-term S.second B)) ⟫ S.one),
      )

  lift-to : {x a b t f u : Mor} → IsFreydMorphism C x b t → IsFreydMorphism C a b f → (U : IsFreydMorphism C x a u) → (m : Through C (C.target x) (C.source b) (C.target b) b (subtract C t (C.compose u f))) → LiftSolves x a b t f u m.by U.omega.by
  lift-to {x} {a} {b} {t} {f} {u} T F U m =
      let uf = L.compose_arrow U.arrow F.arrow in
      record {
        first = U.arrow;
        second = m.arrow;
        third = U.omega.arrow;
        one = added L (id-term U.arrow F.arrow) (id-term m.arrow m.over ⟫ back L m.holds) ⟫ add-swap L uf m.holds.left ⟫ subtract-add L T.arrow uf;
        two = added L (unit-right L U.omega.holds.left) (minus-term U.omega.arrow U.omega.over) ⟫ subtract-from-equal L U.omega.holds;
      }

  pub lift-is-system : {x a b t f : Mor} → IsFreydMorphism C x b t → IsFreydMorphism C a b f → IsSystem C (lift_system C x a b t f)
  lift-is-system T F = three-is-system L (lift-fits T F)

  -- the first of a solution is a lift
  pub lift-by : {x a b : Presentation Mor} {t f : PresentationMor Mor} → Arrow (freyd_data C) x b t → Arrow (freyd_data C) a b f → (xs : List Mor) → IsSolution C (lift_system C x.relation a.relation b.relation t.alpha f.alpha) xs → IsLift (freyd_data C) x a b t f (between x a (first_of t.alpha (Some xs)))
  lift-by {x} {a} {b} {t} {f} T F xs s =
      let n = from-three L (lift-fits (below L T) (below L F)) t.alpha xs s in
      let r = lift-from (below L T) (below L F) n.holds in
      let U = above L refl refl r.0 in
      (U, above-same L ((freyd-linear L).compose_arrow U F) T r.1)

  -- a lift exists exactly where the system has a solution
  pub lift-exactly : {x a b : Presentation Mor} {t f : PresentationMor Mor} → Arrow (freyd_data C) x b t → Arrow (freyd_data C) a b f → Some-arrow (freyd_data C) x a (λ u. Same (freyd_data C) x b ((freyd_data C).compose u f) t) ↔ ((xs : List Mor) × IsSolution C (lift_system C x.relation a.relation b.relation t.alpha f.alpha) xs)
  lift-exactly {x} {a} {b} {t} {f} T F =
      let T' = below L T in
      let F' = below L F in (
        λ k. let m = modulo L (back (freyd-linear L) k.holds) in
            (k.by.alpha ∷ m.by ∷ (below L k.arrow).omega.by ∷ [], to-three L (lift-fits T' F') (lift-to T' F' (below L k.arrow) m)),
        λ s. let r = lift-by T F s.0 s.1 in record { by = record { from = x; to = a; alpha = get_or s.0 0 t.alpha }; arrow = r.0; holds = r.1 },
      )

  -- colifts of t: c→x along f: c→a
  abbrev colift-grid : Mor → Mor → Mor → Grid Obj
  colift-grid c a x = record { x1 = C.target a; y1 = C.target x; x2 = C.target c; y2 = C.source x; x3 = C.source a; y3 = C.source x; p = C.target c; q = C.target x; p' = C.source a; q' = C.target x }

  abbrev ColiftFits : Mor → Mor → Mor → Mor → Mor → Type 0
  ColiftFits c a x f t = FitGrid C (colift-grid c a x) f (C.identity (C.target x)) (negate C (C.identity (C.target c))) x t a (C.identity (C.target x)) (negate C (C.identity (C.source a))) x (C.zero (C.source a) (C.target x))

  abbrev ColiftSolves : Mor → Mor → Mor → Mor → Mor → Mor → Mor → Mor → Type 0
  ColiftSolves c a x f t u s w = Solves C (colift-grid c a x) f (C.identity (C.target x)) (negate C (C.identity (C.target c))) x t a (C.identity (C.target x)) (negate C (C.identity (C.source a))) x (C.zero (C.source a) (C.target x)) u s w

  colift-fits : {c a x f t : Mor} → IsFreydMorphism C c a f → IsFreydMorphism C c x t → ColiftFits c a x f t
  colift-fits {c} {a} {x} {f} {t} F T =
      let X = relation L T.to in
      let A = relation L F.to in
      let K = relation L F.from in
      record {
        left1 = F.arrow;
        right1 = L.identity_arrow (C.target x) (to-object L X);
        left2 = negate-arrow L (L.identity_arrow (C.target c) (to-object L K));
        right2 = X;
        value = T.arrow;
        left3 = A;
        right3 = L.identity_arrow (C.target x) (to-object L X);
        left4 = negate-arrow L (L.identity_arrow (C.source a) (from-object L A));
        right4 = X;
        value' = L.zero_arrow (C.source a) (C.target x) (from-object L A) (to-object L X);
      }

  colift-from : {c a x f t u s w : Mor} → IsFreydMorphism C c a f → IsFreydMorphism C c x t → ColiftSolves c a x f t u s w → IsFreydMorphism C a x u × Through C (C.target c) (C.source x) (C.target x) x (subtract C (C.compose f u) t)
  colift-from {c} {a} {x} {f} {t} {u} {s} {w} F T S =
      let X = relation L T.to in
      let A = relation L F.to in
      let au = L.compose_arrow A S.first in
      let wx = L.compose_arrow S.third X in
      let fu = L.compose_arrow F.arrow S.first in
      let sx = L.compose_arrow S.second X in
      let e = back L (added L (unit-right L fu) (minus-term S.second X)) ⟫ S.one in (
        record {
          from = F.to;
          to = T.to;
          arrow = S.first;
          omega = through-same L (equal-from-subtract L au wx (back L (added L (unit-right L au) (minus-term S.third X)) ⟫ S.two)) (through-by L S.third X);
        },
        through-same L (subtract-part L sx T.arrow (back L (subtract-add L fu sx) ⟫ added L e (same L sx) ⟫ add-swap L T.arrow sx)) (through-by L S.second X),
      )

  colift-to : {c a x f t u : Mor} → IsFreydMorphism C c a f → IsFreydMorphism C c x t → (U : IsFreydMorphism C a x u) → (m : Through C (C.target c) (C.source x) (C.target x) x (subtract C (C.compose f u) t)) → ColiftSolves c a x f t u m.by U.omega.by
  colift-to {c} {a} {x} {f} {t} {u} F T U m =
      let fu = L.compose_arrow F.arrow U.arrow in
      let sx = m.holds.right in
      record {
        first = U.arrow;
        second = m.arrow;
        third = U.omega.arrow;
        one = added L (unit-right L fu) (minus-term m.arrow m.over) ⟫ subtract-part L T.arrow sx (back L (subtract-add L fu T.arrow) ⟫ added L m.holds (same L T.arrow) ⟫ add-swap L sx T.arrow);
        two = added L (unit-right L U.omega.holds.left) (minus-term U.omega.arrow U.omega.over) ⟫ subtract-from-equal L U.omega.holds;
      }

  pub colift-is-system : {c a x f t : Mor} → IsFreydMorphism C c a f → IsFreydMorphism C c x t → IsSystem C (colift_system C c a x f t)
  colift-is-system F T = three-is-system L (colift-fits F T)

  pub colift-by : {c a x : Presentation Mor} {f t : PresentationMor Mor} → Arrow (freyd_data C) c a f → Arrow (freyd_data C) c x t → (xs : List Mor) → IsSolution C (colift_system C c.relation a.relation x.relation f.alpha t.alpha) xs → IsColift (freyd_data C) c a x f t (between a x (first_of t.alpha (Some xs)))
  colift-by {c} {a} {x} {f} {t} F T xs s =
      let n = from-three L (colift-fits (below L F) (below L T)) t.alpha xs s in
      let r = colift-from (below L F) (below L T) n.holds in
      let U = above L refl refl r.0 in
      (turn U, turn-same (above-same L ((freyd-linear L).compose_arrow F U) T r.1))

  -- a colift exists exactly where the system has a solution
  pub colift-exactly : {c a x : Presentation Mor} {f t : PresentationMor Mor} → Arrow (freyd_data C) c a f → Arrow (freyd_data C) c x t → Some-arrow (freyd_data C) a x (λ u. Same (freyd_data C) c x ((freyd_data C).compose f u) t) ↔ ((xs : List Mor) × IsSolution C (colift_system C c.relation a.relation x.relation f.alpha t.alpha) xs)
  colift-exactly {c} {a} {x} {f} {t} F T =
      let T' = below L T in
      let F' = below L F in (
        λ k. let m = modulo L k.holds in
            (k.by.alpha ∷ m.by ∷ (below L k.arrow).omega.by ∷ [], to-three L (colift-fits F' T') (colift-to F' T' (below L k.arrow) m)),
        λ s. let r = colift-by F T s.0 s.1 in record { by = record { from = a; to = x; alpha = get_or s.0 0 t.alpha }; arrow = turned r.0; holds = turned-same r.1 },
      )

  -- the answer of a solver, as a lift
  lift-answer : {x a b : Presentation Mor} {t f : PresentationMor Mor} → Arrow (freyd_data C) x b t → Arrow (freyd_data C) a b f → (r : Option (List Mor)) → AnswersSystem C (lift_system C x.relation a.relation b.relation t.alpha f.alpha) r → IsLift (freyd_data C) x a b t f (between x a (first_of t.alpha r))
  lift-answer T F (Some xs) s = lift-by T F xs s
  lift-answer T F None s = λ k. let y = (lift-exactly T F).0 k in s y.0 y.1

  colift-answer : {c a x : Presentation Mor} {f t : PresentationMor Mor} → Arrow (freyd_data C) c a f → Arrow (freyd_data C) c x t → (r : Option (List Mor)) → AnswersSystem C (colift_system C c.relation a.relation x.relation f.alpha t.alpha) r → IsColift (freyd_data C) c a x f t (between a x (first_of t.alpha r))
  colift-answer F T (Some xs) s = colift-by F T xs s
  colift-answer F T None s = λ k. let y = (colift-exactly F T).0 (record { by = k.by; arrow = turned k.arrow; holds = turned-same k.holds }) in s y.0 y.1

  -- the canonical lift and colift, by a solver of systems
  pub freyd-lift : {solve : System Obj Mor → Option (List Mor)} → HasSolver C solve → {x a b : Presentation Mor} {t f : PresentationMor Mor} → Arrow (freyd_data C) x b t → Arrow (freyd_data C) a b f → IsLift (freyd_data C) x a b t f (lift_of C solve t f)
  freyd-lift {solve} H {x} {a} {b} {t} {f} T F =
      let T0 : Arrow (freyd_data C) t.from f.to t = record { is = T.is; from = refl; to = T.to ∙ sym F.to } in
      let F0 : Arrow (freyd_data C) f.from f.to f = record { is = F.is; from = refl; to = refl } in
      let r = lift-answer T0 F0 (solve (lift_system C t.from.relation f.from.relation f.to.relation t.alpha f.alpha)) (H.is (lift_system C t.from.relation f.from.relation f.to.relation t.alpha f.alpha) (lift-is-system (below L T0) (below L F0))) in
      subst (λ y. IsLift (freyd_data C) x a y t f (lift_of C solve t f)) F.to
      (subst (λ y. IsLift (freyd_data C) x y f.to t f (lift_of C solve t f)) F.from
      (subst (λ y. IsLift (freyd_data C) y f.from f.to t f (lift_of C solve t f)) T.from r))

  pub freyd-colift : {solve : System Obj Mor → Option (List Mor)} → HasSolver C solve → {c a x : Presentation Mor} {f t : PresentationMor Mor} → Arrow (freyd_data C) c a f → Arrow (freyd_data C) c x t → IsColift (freyd_data C) c a x f t (colift_of C solve f t)
  freyd-colift {solve} H {c} {a} {x} {f} {t} F T =
      let T0 : Arrow (freyd_data C) f.from t.to t = record { is = T.is; from = T.from ∙ sym F.from; to = refl } in
      let F0 : Arrow (freyd_data C) f.from f.to f = record { is = F.is; from = refl; to = refl } in
      let r = colift-answer F0 T0 (solve (colift_system C f.from.relation f.to.relation t.to.relation f.alpha t.alpha)) (H.is (colift_system C f.from.relation f.to.relation t.to.relation f.alpha t.alpha) (colift-is-system (below L F0) (below L T0))) in
      subst (λ y. IsColift (freyd_data C) y a x f t (colift_of C solve f t)) F.from
      (subst (λ y. IsColift (freyd_data C) f.from y x f t (colift_of C solve f t)) F.to
      (subst (λ y. IsColift (freyd_data C) f.from f.to y f t (colift_of C solve f t)) T.to r))

  -- whether a system is solved decides what holds exactly where it has a solution
  pub solved-decides : {s : System Obj Mor} {P : Type 0} → P ↔ ((xs : List Mor) × IsSolution C s xs) → (r : Option (List Mor)) → AnswersSystem C s r → IsTrue (is_some r) ↔ P
  solved-decides e (Some xs) a = (λ h. e.1 (xs, a), λ p. refl)
  solved-decides e None a = (λ h. cc h, λ p. let y = e.0 p in absurd (a y.0 y.1))
