-- An example: objects are numbers, and there is exactly one morphism, zero, between any two.
use Rattle.std.specs.Prelude.{◌≡◌, ℕ, zero, suc, true, refl, Some, List, [], ◌∷◌, map}
use Rattle.std.proofs.Common.{ap, sym, subst, ◌∙◌}
use Rattle.std.proofs.lemmas.List.{length-map}
use Rattle.cap_field.specs.Residue.{is_tabled}
use Rattle.cap_laws.specs.Answers.{Size}
use Rattle.cap_laws.specs.Linear.{CategoryData, IsLinear, Arrow, Same}
use Rattle.cap_laws.specs.Universal.{opposite, IsZeroObject, IsWeakKernel, IsKernel, IsCokernel, IsWeakCokernel, IsDirectSum, IsLift, IsColift, IsAbelian, HasHalfAbelian}
use Rattle.cap_laws.specs.Systems.{IsTerm, IsSystem, IsSolution, Nth, total}
use Rattle.cap_laws.specs.Systems.Nth.{here, further}
use Rattle.cap_laws.specs.declared.values.Term.{Term}
use Rattle.cap_laws.specs.declared.values.System.{System}
use Rattle.cap_laws.specs.declared.examples.null.Null.{Null}

-- the one morphism from a to b
abbrev pub null : ℕ → ℕ → Null
null a b = record { from = a; to = b }

abbrev pub null_data : ℕ → CategoryData ℕ Null
null_data p = record {
  prime = p;
  is_object = λ a. Unit {0};
  is_morphism = λ f. Unit {0};
  source = λ f. f.from;
  target = λ f. f.to;
  identity = λ a. null a a;
  compose = λ f g. null f.from g.to;
  congruent = λ f g. f ≡ g;
  zero = λ a b. null a b;
  add = λ f g. f;
  scale = λ n f. f;
}

-- the morphism is counted as a matrix with a rows and b columns of morphisms that have no coefficients
abbrev pub null_size : ℕ → ℕ → Size
null_size a b = record { rows = a; columns = b; cells = 0 }

pub null-equal : (f g : Null) → f.from ≡ g.from → f.to ≡ g.to → f ≡ g
null-equal f g s t = ap (λ a. null a f.to) s ∙ ap (λ b. null g.from b) t

module _ (p : ℕ) where
  arrow : (a b : ℕ) → Arrow (null_data p) a b (null a b)
  arrow a b = record { is = tt; from = refl; to = refl }

  arrow-of : {a b : ℕ} (f : Null) → f.from ≡ a → f.to ≡ b → Arrow (null_data p) a b f
  arrow-of f s t = record { is = tt; from = s; to = t }

  only : {a b : ℕ} {f g : Null} → Arrow (null_data p) a b f → Arrow (null_data p) a b g → f ≡ g
  only {f = f} {g = g} F G = null-equal f g (F.from ∙ sym G.from) (F.to ∙ sym G.to)

  one : {a b : ℕ} {f g : Null} → Arrow (null_data p) a b f → Arrow (null_data p) a b g → Same (null_data p) a b f g
  one F G = record { left = F; right = G; congruent = only F G }

  composed : {a b c : ℕ} {f g : Null} → Arrow (null_data p) a b f → Arrow (null_data p) b c g → Arrow (null_data p) a c (null f.from g.to)
  composed {f = f} {g = g} F G = record { is = tt; from = F.from; to = G.to }

pub null_linear : (p : ℕ) → is_tabled p ≡ true → IsLinear (null_data p)
null_linear p t = record {
  prime_tabled = t;
  source_object = λ f h. tt;
  target_object = λ f h. tt;
  identity_arrow = λ a o. arrow p a a;
  compose_arrow = λ F G. composed p F G;
  zero_arrow = λ a b o o'. arrow p a b;
  add_arrow = λ F G. F;
  scale_arrow = λ n F. F;
  reflexive = λ F. refl;
  symmetric = λ s. sym s.congruent;
  transitive = λ s u. s.congruent ∙ u.congruent;
  compose_congruent = λ s u. only p (composed p s.left u.left) (composed p s.right u.right);
  add_congruent = λ s u. s.congruent;
  scale_congruent = λ n s. s.congruent;
  associative = λ F G H. refl;
  unit_left = λ {a} {b} F. only p (composed p (arrow p a a) F) F;
  unit_right = λ {a} {b} F. only p (composed p F (arrow p b b)) F;
  add_associative = λ F G H. refl;
  add_commutative = λ F G. only p F G;
  add_zero = λ F. refl;
  scale_one = λ F. refl;
  scale_prime = λ {a} {b} F. only p F (arrow p a b);
  scale_sum = λ m n F. refl;
  scale_product = λ m n F. refl;
  scale_add = λ n F G. refl;
  compose_add = λ F G H. refl;
  add_compose = λ F G H. refl;
  compose_scale = λ n F G. refl;
  scale_compose = λ n F G. refl;
}

-- some morphism goes from any object to any other, and any two with equal ends are congruent
record IsThin (C : CategoryData ℕ Null) : Type 0 where
  after : {a b c : ℕ} {f g : Null} → Arrow C a b f → Arrow C b c g → Arrow C a c (C.compose f g)
  zero : (a b : ℕ) → Arrow C a b (C.zero a b)
  all : {a b : ℕ} {f g : Null} → Arrow C a b f → Arrow C a b g → Same C a b f g

-- then every morphism is a kernel of every other
module _ {C : CategoryData ℕ Null} (T : IsThin C) where
  thin-kernel : {k a b : ℕ} {f i : Null} → Arrow C a b f → Arrow C k a i → IsKernel C k a b f i
  thin-kernel {k} {a} {b} F I = record {
    arrow = I;
    zero = T.all (T.after I F) (T.zero k b);
    lift = λ {x} S s. record {
      by = C.zero x k;
      arrow = T.zero x k;
      holds = T.all (T.after (T.zero x k) I) S;
      only = λ V W h j. T.all V W;
    };
  }

  thin-weak : {k a b : ℕ} {f i : Null} → Arrow C a b f → Arrow C k a i → IsWeakKernel C k a b f i
  thin-weak {k} {a} {b} F I = record {
    arrow = I;
    zero = T.all (T.after I F) (T.zero k b);
    lift = λ {x} S s. record { by = C.zero x k; arrow = T.zero x k; holds = T.all (T.after (T.zero x k) I) S };
  }

  thin-lift : {x a b : ℕ} {t f u : Null} → Arrow C x b t → Arrow C a b f → Arrow C x a u → IsLift C x a b t f (Some u)
  thin-lift S F U = (U, T.all (T.after U F) S)

  thin-half : HasHalfAbelian C
  thin-half = record {
    kernel = λ {a} F. record { object = 0; by = C.zero 0 a; is = thin-kernel F (T.zero 0 a) };
    mono_is_kernel = λ M K. thin-kernel (record { is = K.arrow.is; from = K.arrow.to; to = K.arrow.from }) M.arrow;
  }

module _ (p : ℕ) where
  turn : {a b : ℕ} {f : Null} → Arrow (null_data p) a b f → Arrow (opposite (null_data p)) b a f
  turn F = record { is = F.is; from = F.to; to = F.from }

  turned : {a b : ℕ} {f : Null} → Arrow (opposite (null_data p)) b a f → Arrow (null_data p) a b f
  turned F = record { is = F.is; from = F.to; to = F.from }

  back-one : {a b : ℕ} {f g : Null} → Arrow (opposite (null_data p)) a b f → Arrow (opposite (null_data p)) a b g → Same (opposite (null_data p)) a b f g
  back-one F G = record { left = F; right = G; congruent = only p (turned F) (turned G) }

  back-after : {a b c : ℕ} {f g : Null} → Arrow (opposite (null_data p)) a b f → Arrow (opposite (null_data p)) b c g → Arrow (opposite (null_data p)) a c (null g.from f.to)
  back-after F G = turn (composed p (turned G) (turned F))

  thin : IsThin (null_data p)
  thin = record { after = λ F G. composed p F G; zero = arrow p; all = λ F G. one p F G }

  back-thin : IsThin (opposite (null_data p))
  back-thin = record { after = λ F G. back-after F G; zero = λ a b. turn (arrow p b a); all = λ F G. back-one F G }

  pub null_zero : (z : ℕ) → IsZeroObject (null_data p) z
  null_zero z = record { object = tt; unit = one p (arrow p z z) (arrow p z z) }

  pub null_sum : (s a b : ℕ) → IsDirectSum (null_data p) s a b (null a s) (null b s) (null s a) (null s b)
  null_sum s a b = record {
    in1 = arrow p a s;
    in2 = arrow p b s;
    out1 = arrow p s a;
    out2 = arrow p s b;
    unit1 = one p (arrow p a a) (arrow p a a);
    unit2 = one p (arrow p b b) (arrow p b b);
    zero12 = one p (arrow p a b) (arrow p a b);
    zero21 = one p (arrow p b a) (arrow p b a);
    total = one p (arrow p s s) (arrow p s s);
  }

  pub null_kernel : (a b : ℕ) (f : Null) → Arrow (null_data p) a b f → IsKernel (null_data p) 0 a b f (null 0 f.from)
  null_kernel a b f F = thin-kernel thin F (arrow-of p (null 0 f.from) refl F.from)

  pub null_cokernel : (a b : ℕ) (f : Null) → Arrow (null_data p) a b f → IsCokernel (null_data p) a b 0 f (null f.to 0)
  null_cokernel a b f F = thin-kernel back-thin (turn F) (turn (arrow-of p (null f.to 0) F.to refl))

  pub null_weak_kernel : (a b : ℕ) (f : Null) → Arrow (null_data p) a b f → IsWeakKernel (null_data p) 0 a b f (null 0 f.from)
  null_weak_kernel a b f F = thin-weak thin F (arrow-of p (null 0 f.from) refl F.from)

  pub null_weak_cokernel : (a b : ℕ) (f : Null) → Arrow (null_data p) a b f → IsWeakCokernel (null_data p) a b 0 f (null f.to 0)
  null_weak_cokernel a b f F = thin-weak back-thin (turn F) (turn (arrow-of p (null f.to 0) F.to refl))

  pub null_lift : (x a b : ℕ) (s f : Null) → Arrow (null_data p) x b s → Arrow (null_data p) a b f → IsLift (null_data p) x a b s f (Some (null s.from f.from))
  null_lift x a b s f S F = thin-lift thin S F (arrow-of p (null s.from f.from) S.from F.from)

  pub null_colift : (c a x : ℕ) (f s : Null) → Arrow (null_data p) c a f → Arrow (null_data p) c x s → IsColift (null_data p) c a x f s (Some (null f.to s.to))
  null_colift c a x f s F S = thin-lift back-thin (turn S) (turn F) (turn (arrow-of p (null f.to s.to) F.to S.to))

  pub null_abelian : IsAbelian (null_data p)
  null_abelian = record {
    additive = record {
      zero_object = record { object = 0; is = null_zero 0 };
      direct_sum = λ a b o o'. record { object = 0; i1 = null a 0; i2 = null b 0; p1 = null 0 a; p2 = null 0 b; is = null_sum 0 a b };
    };
    kernels = thin-half thin;
    cokernels = thin-half back-thin;
  }

-- the morphisms with the ends of the unknowns solve every system
nth-zero : {A : Type 0} {xs : List A} {x y : A} → Nth (x ∷ xs) zero y → x ≡ y
nth-zero here = refl

nth-suc : {A : Type 0} {xs : List A} {x y : A} {n : ℕ} → Nth (x ∷ xs) (suc n) y → Nth xs n y
nth-suc (further h) = h

nth-none : {A : Type 0} {n : ℕ} {x : A} → Nth [] n x → ⊥
nth-none h = elim h [ ]

abbrev pub between : ℕ × ℕ → Null
between e = null e.0 e.1

module _ (p : ℕ) where
  solution-arrow : {us : List (ℕ × ℕ)} {n : ℕ} {a b : ℕ} {x : Null} → Nth us n (a, b) → Nth (map between us) n x → Arrow (null_data p) a b x
  solution-arrow {a = a} {b = b} here h = subst (λ y. Arrow (null_data p) a b y) (nth-zero h) (arrow p a b)
  solution-arrow (further k) h = solution-arrow k (nth-suc h)

  total-arrow : (us : List (ℕ × ℕ)) (a b : ℕ) (xs : List Null) (ts : List (Term Null)) → ((n : ℕ) (t : Term Null) → Nth ts n t → IsTerm (null_data p) us a b t) → Arrow (null_data p) a b (total (null_data p) a b xs ts)
  total-arrow us a b xs [] h = arrow p a b
  total-arrow us a b xs (t ∷ ts) h = let T = h 0 t here in record { is = tt; from = T.left.from; to = T.right.to }

  pub null_solves : (s : System ℕ Null) → IsSystem (null_data p) s → IsSolution (null_data p) s (map between s.unknowns)
  null_solves s S = record {
    count = length-map s.unknowns between;
    arrows = λ n x e h. solution-arrow e.is h;
    equations = λ n e h. one p (total-arrow s.unknowns e.value.from e.value.to (map between s.unknowns) e.terms (λ m t k. (S.equations n e h).terms m t k)) (record { is = tt; from = refl; to = refl });
  }
