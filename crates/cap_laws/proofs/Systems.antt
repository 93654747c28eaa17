-- Places in a list, the solutions of systems, and a system with one equation in one unknown.
use Rattle.std.proofs.Common.{◌≡◌, ℕ, zero, suc, ◌<◌, refl, sym, subst, List, [], ◌∷◌, length, get_or, Option, Some, None, arith}
use Rattle.cap_laws.specs.Linear.{CategoryData, IsLinear, Arrow, Same}
use Rattle.cap_laws.specs.Factor.{Through}
use Rattle.cap_laws.specs.Systems.{Nth, Ends, IsTerm, IsEquation, IsSystem, IsSolution, AnswersSystem, total, term_of, term_system, one_system, first_of}
use Rattle.cap_laws.specs.Universal.{IsLift, IsColift}
use Rattle.cap_laws.specs.Systems.Nth.{here, further}
use Rattle.cap_laws.specs.declared.values.System.{System}
use Rattle.cap_laws.proofs.Calculus.{from-object, to-object, same, back, ◌⟫◌ as join, composed, add-zero, unit-left, unit-right}
use Rattle.cap_laws.proofs.Opposite.{turn, turned, turn-same, turned-same}

pub nth-none : {A : Type 0} {n : ℕ} {x : A} → Nth [] n x → ⊥
nth-none h = elim h [ ]

pub nth-zero : {A : Type 0} {xs : List A} {x y : A} → Nth (x ∷ xs) zero y → x ≡ y
nth-zero here = refl

pub nth-suc : {A : Type 0} {xs : List A} {x y : A} {n : ℕ} → Nth (x ∷ xs) (suc n) y → Nth xs n y
nth-suc (further h) = h

-- a property of each place: of the first, and of the others
pub nth-cons : {A : Type 0} {x : A} {xs : List A} (P : ℕ → A → Type 0) → P zero x → ((n : ℕ) (y : A) → Nth xs n y → P (suc n) y) → (n : ℕ) (y : A) → Nth (x ∷ xs) n y → P n y
nth-cons P p q n y here = p
nth-cons P p q n y (further {n = m} h) = q m y h

-- a place has one element
pub nth-unique : {A : Type 0} {xs : List A} {n : ℕ} {x y : A} → Nth xs n x → Nth xs n y → x ≡ y
nth-unique here k = nth-zero k
nth-unique (further h) k = nth-unique h (nth-suc k)

-- the places are those below the length
pub nth-below : {A : Type 0} {xs : List A} {n : ℕ} {x : A} → Nth xs n x → n < length xs
nth-below {xs = []} h = elim h [ ]
nth-below {xs = x ∷ xs} here = omega arith
nth-below {xs = x ∷ xs} (further h) = omega (arith, nth-below h)

pub nth-exists : {A : Type 0} (xs : List A) (n : ℕ) → n < length xs → (x : A) × Nth xs n x
nth-exists [] n h = absurd (omega (arith, h))
nth-exists (x ∷ xs) zero h = (x, here)
nth-exists (x ∷ xs) (suc n) h = let r = nth-exists xs n (omega (arith, h)) in (r.0, further r.1)

-- and what stands there is what a look-up finds
pub nth-get : {A : Type 0} {xs : List A} {n : ℕ} {x : A} (d : A) → Nth xs n x → get_or xs n d ≡ x
nth-get d here = refl
nth-get d (further h) = nth-get d h

-- a solution has a morphism for each unknown
pub solution-present : {Obj Mor : Type 0} {C : CategoryData Obj Mor} {s : System Obj Mor} {xs : List Mor} → IsSolution C s xs → (n : ℕ) (e : Ends s.unknowns n) → (x : Mor) × Nth xs n x
solution-present {xs = xs} S n e = nth-exists xs n (omega (arith, S.count, nth-below e.is))

-- u: x→y has l·u·r = v
pub record SolvesTerm {Obj Mor : Type 0} (C : CategoryData Obj Mor) (p q x y : Obj) (l r v u : Mor) : Type 0 where
  pub arrow : Arrow C x y u
  pub holds : Same C p q (C.compose (C.compose l u) r) v

-- a statement on the ends of a morphism, at their names
pub move : {Obj Mor : Type 0} {C : CategoryData Obj Mor} {r x : Obj} {a : Mor} → Arrow C r x a → (P : Obj → Obj → Type 0) → P (C.source a) (C.target a) → P r x
move {C = C} {r} {x} {a} p P t = subst (λ y. P r y) p.to (subst (λ z. P z (C.target a)) p.from t)

pub unmove : {Obj Mor : Type 0} {C : CategoryData Obj Mor} {r x : Obj} {a : Mor} → Arrow C r x a → (P : Obj → Obj → Type 0) → P r x → P (C.source a) (C.target a)
unmove {C = C} {r} {x} {a} p P t = subst (λ y. P (C.source a) y) (sym p.to) (subst (λ z. P z x) (sym p.from) t)

module _ {Obj Mor : Type 0} {C : CategoryData Obj Mor} (L : IsLinear C) where
  infixr 5 ◌⟫◌
  ◌⟫◌ : {a b : Obj} {f g h : Mor} → Same C a b f g → Same C a b g h → Same C a b f h
  ◌⟫◌ s t = join L s t

  -- l·X·r = v is a system, and its solutions are the u with l·u·r = v
  pub term-is-system : {p q x y : Obj} {l r v : Mor} → Arrow C p x l → Arrow C y q r → Arrow C p q v → IsSystem C (term_system x y l r v)
  term-is-system {p} {q} {x} {y} {l} {r} {v} F R V = record {
    unknowns = λ n e. nth-cons (λ n' z. C.is_object z.0 × C.is_object z.1) (to-object L F, from-object L R) (λ m z h. elim (nth-none h) [ ]) n (e.from, e.to) e.is;
    equations = nth-cons (λ n e. IsEquation C ((x, y) ∷ []) e)
        (record {
          value = V.is;
          terms = nth-cons (λ n t. IsTerm C ((x, y) ∷ []) (C.source v) (C.target v) t)
              (record { ends = record { from = x; to = y; is = here }; left = unmove V (λ p' q'. Arrow C p' x l) F; right = unmove V (λ p' q'. Arrow C y q' r) R })
              (λ m t h. elim (nth-none h) [ ]);
        })
        (λ m e h. elim (nth-none h) [ ]);
  }

  alone : {p q x y : Obj} {l r u : Mor} → Arrow C p x l → Arrow C x y u → Arrow C y q r → Same C p q (C.add (C.compose (C.compose l u) r) (C.zero p q)) (C.compose (C.compose l u) r)
  alone F U R = add-zero L (L.compose_arrow (L.compose_arrow F U) R)

  pub from-term : {p q x y : Obj} {l r v : Mor} → Arrow C p x l → Arrow C y q r → Arrow C p q v → (d : Mor) (xs : List Mor) → IsSolution C (term_system x y l r v) xs → SolvesTerm C p q x y l r v (get_or xs 0 d)
  from-term {p} {q} {x} {y} {l} {r} {v} F R V d [] S = absurd (omega (arith, S.count))
  from-term {p} {q} {x} {y} {l} {r} {v} F R V d (u ∷ xs) S =
      let U = S.arrows 0 u (record { from = x; to = y; is = here }) here in
      record {
        arrow = U;
        holds = back L (alone F U R) ⟫ move V (λ p' q'. Same C p' q' (C.add (C.compose (C.compose l u) r) (C.zero p' q')) v) (S.equations 0 (record { terms = term_of l 0 r ∷ []; value = v }) here);
      }

  pub to-term : {p q x y : Obj} {l r v u : Mor} → Arrow C p x l → Arrow C y q r → SolvesTerm C p q x y l r v u → IsSolution C (term_system x y l r v) (u ∷ [])
  to-term {p} {q} {x} {y} {l} {r} {v} {u} F R t = record {
    count = refl;
    arrows = λ n w e h. nth-cons (λ n' z. (m : Mor) → Nth (u ∷ []) n' m → Arrow C z.0 z.1 m) (λ m k. subst (λ a. Arrow C x y a) (nth-zero k) t.arrow) (λ m z k. elim (nth-none k) [ ]) n (e.from, e.to) e.is w h;
    equations = nth-cons (λ n e. Same C (C.source e.value) (C.target e.value) (total C (C.source e.value) (C.target e.value) (u ∷ []) e.terms) e.value)
        (unmove t.holds.right (λ p' q'. Same C p' q' (C.add (C.compose (C.compose l u) r) (C.zero p' q')) v) (alone F t.arrow R ⟫ t.holds))
        (λ m e k. elim (nth-none k) [ ]);
  }

  -- X·r = v has a solution exactly where v factors through r
  pub one-is-system : {x y q : Obj} {r v : Mor} → Arrow C y q r → Arrow C x q v → IsSystem C (one_system C x y r v)
  one-is-system {x} R V = term-is-system (L.identity_arrow x (from-object L V)) R V

  pub from-one : {x y q : Obj} {r v : Mor} → Arrow C y q r → Arrow C x q v → (xs : List Mor) → IsSolution C (one_system C x y r v) xs → Through C x y q r v
  from-one {x} {v = v} R V xs S =
      let t = from-term (L.identity_arrow x (from-object L V)) R V v xs S in
      record { over = R; by = get_or xs 0 v; arrow = t.arrow; holds = back L t.holds ⟫ composed L (unit-left L t.arrow) (same L R) }

  pub to-one : {x y q : Obj} {r v : Mor} → Arrow C x q v → (t : Through C x y q r v) → IsSolution C (one_system C x y r v) (t.by ∷ [])
  to-one {x} V t = to-term (L.identity_arrow x (from-object L V)) t.over (record { arrow = t.arrow; holds = composed L (unit-left L t.arrow) (same L t.over) ⟫ back L t.holds })

  -- so the answer of a system in one unknown is the answer of a lift, or of a colift
  pub lift-by-system : {x a b : Obj} {t f : Mor} → Arrow C x b t → Arrow C a b f → (answer : Option (List Mor)) → AnswersSystem C (one_system C x a f t) answer → IsLift C x a b t f (first_of t answer)
  lift-by-system {x} {t = t} T F (Some xs) S =
      let s = from-term (L.identity_arrow x (from-object L T)) F T t xs S in
      (s.arrow, composed L (back L (unit-left L s.arrow)) (same L F) ⟫ s.holds)
  lift-by-system {x} {t = t} T F None N = λ o. N (o.by ∷ []) (to-one T (record { over = F; by = o.by; arrow = o.arrow; holds = back L o.holds }))

  pub colift-by-system : {c a x : Obj} {f t : Mor} → Arrow C c a f → Arrow C c x t → (answer : Option (List Mor)) → AnswersSystem C (term_system a x f (C.identity x) t) answer → IsColift C c a x f t (first_of t answer)
  colift-by-system {x = x} {t = t} F T (Some xs) S =
      let I = L.identity_arrow x (to-object L T) in
      let s = from-term F I T t xs S in
      (turn s.arrow, turn-same (back L (unit-right L (L.compose_arrow F s.arrow)) ⟫ s.holds))
  colift-by-system {x = x} {t = t} F T None N = λ o.
      let I = L.identity_arrow x (to-object L T) in
      let U = turned o.arrow in
      N (o.by ∷ []) (to-term F I (record { arrow = U; holds = unit-right L (L.compose_arrow F U) ⟫ turned-same o.holds }))
