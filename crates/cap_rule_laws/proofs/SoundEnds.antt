-- Arguments whose ends are those that the category tells of them: to show something at all ends of the arguments, it is enough to show it at these.
use Rattle.std.proofs.Common.{refl}
use mathlib.Core.Path.{path_j}
use Rattle.cap_laws.specs.Linear.{CategoryData, Arrow}
use Rattle.cap_ops.specs.Meaning.{OneArrow, Parallel, Cospan, Span, Cones, Cocones}

module _ {Obj Mor : Type 0} {C : CategoryData Obj Mor} where
  -- an arrow from a is one from the source of f, and so on
  pub from-source : {f : Mor} {b : Obj} (K : (a : Obj) → Arrow C a b f → Type 0) → ((F : Arrow C (C.source f) b f) → K (C.source f) F) → (a : Obj) (F : Arrow C a b f) → K a F
  from-source {f} {b} K k a F = path_j (λ a e. K a (record { is = F.is; from = e; to = F.to })) (k (record { is = F.is; from = refl; to = F.to })) F.from

  pub to-target : {f : Mor} {a : Obj} (K : (b : Obj) → Arrow C a b f → Type 0) → ((F : Arrow C a (C.target f) f) → K (C.target f) F) → (b : Obj) (F : Arrow C a b f) → K b F
  to-target {f} {a} K k b F = path_j (λ b e. K b (record { is = F.is; from = F.from; to = e })) (k (record { is = F.is; from = F.from; to = refl })) F.to

  pub own-arrow : {f : Mor} (K : OneArrow C f → Type 0) → ((F : Arrow C (C.source f) (C.target f) f) → K (record { a = C.source f; b = C.target f; arrow = F })) → (e : OneArrow C f) → K e
  own-arrow {f} K k e = from-source (λ a F. K (record { a = a; b = e.b; arrow = F })) (λ G. to-target (λ b F. K (record { a = C.source f; b = b; arrow = F })) k e.b G) e.a e.arrow

  -- the ends of f
  pub own-parallel : {f g : Mor} (K : Parallel C f g → Type 0) → ((F : Arrow C (C.source f) (C.target f) f) (G : Arrow C (C.source f) (C.target f) g) → K (record { a = C.source f; b = C.target f; first = F; second = G })) → (e : Parallel C f g) → K e
  own-parallel {f} {g} K k e =
      from-source (λ a F. (G : Arrow C a e.b g) → K (record { a = a; b = e.b; first = F; second = G }))
      (λ F. to-target (λ b F. (G : Arrow C (C.source f) b g) → K (record { a = C.source f; b = b; first = F; second = G })) k e.b F)
      e.a e.first e.second

  -- the sources
  pub own-cospan : {f g : Mor} (K : Cospan C f g → Type 0) → ((c : Obj) (F : Arrow C (C.source f) c f) (G : Arrow C (C.source g) c g) → K (record { a = C.source f; b = C.source g; c = c; first = F; second = G })) → (e : Cospan C f g) → K e
  own-cospan {f} {g} K k e =
      from-source (λ a F. K (record { a = a; b = e.b; c = e.c; first = F; second = e.second }))
      (λ F. from-source (λ b G. K (record { a = C.source f; b = b; c = e.c; first = F; second = G })) (λ G. k e.c F G) e.b e.second)
      e.a e.first

  -- the targets
  pub own-span : {f g : Mor} (K : Span C f g → Type 0) → ((c : Obj) (F : Arrow C c (C.target f) f) (G : Arrow C c (C.target g) g) → K (record { c = c; a = C.target f; b = C.target g; first = F; second = G })) → (e : Span C f g) → K e
  own-span {f} {g} K k e =
      to-target (λ a F. K (record { c = e.c; a = a; b = e.b; first = F; second = e.second }))
      (λ F. to-target (λ b G. K (record { c = e.c; a = C.target f; b = b; first = F; second = G })) (λ G. k e.c F G) e.b e.second)
      e.a e.first

  -- the targets of the first two
  pub own-cones : {p q u v : Mor} (K : Cones C p q u v → Type 0)
      → ((s t : Obj) (P : Arrow C s (C.target p) p) (Q : Arrow C s (C.target q) q) (U : Arrow C t (C.target p) u) (V : Arrow C t (C.target q) v) → K (record { s = s; t = t; a = C.target p; b = C.target q; first = P; second = Q; left = U; right = V }))
      → (e : Cones C p q u v) → K e
  own-cones {p} {q} {u} {v} K k e =
      to-target (λ a P. (U : Arrow C e.t a u) → K (record { s = e.s; t = e.t; a = a; b = e.b; first = P; second = e.second; left = U; right = e.right }))
      (λ P U. to-target (λ b Q. (V : Arrow C e.t b v) → K (record { s = e.s; t = e.t; a = C.target p; b = b; first = P; second = Q; left = U; right = V })) (λ Q V. k e.s e.t P Q U V) e.b e.second e.right)
      e.a e.first e.left

  -- the sources of the first two
  pub own-cocones : {i j u v : Mor} (K : Cocones C i j u v → Type 0)
      → ((s t : Obj) (I : Arrow C (C.source i) s i) (J : Arrow C (C.source j) s j) (U : Arrow C (C.source i) t u) (V : Arrow C (C.source j) t v) → K (record { s = s; t = t; a = C.source i; b = C.source j; first = I; second = J; left = U; right = V }))
      → (e : Cocones C i j u v) → K e
  own-cocones {i} {j} {u} {v} K k e =
      from-source (λ a I. (U : Arrow C a e.t u) → K (record { s = e.s; t = e.t; a = a; b = e.b; first = I; second = e.second; left = U; right = e.right }))
      (λ I U. from-source (λ b J. (V : Arrow C b e.t v) → K (record { s = e.s; t = e.t; a = C.source i; b = b; first = I; second = J; left = U; right = V })) (λ J V. k e.s e.t I J U V) e.b e.second e.right)
      e.a e.first e.left
