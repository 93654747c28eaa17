-- Systems of two equations in three unknowns, and what a solution of them is.
use Rattle.std.proofs.Common.{ℕ, suc, refl, subst, List, [], ◌∷◌, get_or, arith}
use Rattle.cap_laws.specs.Linear.{CategoryData, IsLinear, Arrow, Same}
use Rattle.cap_laws.specs.Systems.{Nth, Ends, IsTerm, IsEquation, IsSystem, IsSolution, total, term_of}
use Rattle.cap_laws.specs.Systems.Nth.{here, further}
use Rattle.cap_laws.specs.declared.values.Equation.{Equation}
use Rattle.cap_laws.specs.declared.values.System.{System}
use Rattle.cap_laws.proofs.Calculus.{from-object, to-object, same, back, ◌⟫◌ as join, added, add-zero}
use Rattle.cap_laws.proofs.Systems.{nth-none, nth-zero, nth-suc, nth-cons, move, unmove}
use Rattle.cap_freyd_laws.specs.Canonical.{three_system}

-- the ends of three unknowns and of two equations
pub record Grid (Obj : Type 0) : Type 0 where
  pub x1 : Obj
  pub y1 : Obj
  pub x2 : Obj
  pub y2 : Obj
  pub x3 : Obj
  pub y3 : Obj
  pub p : Obj
  pub q : Obj
  pub p' : Obj
  pub q' : Obj

-- the factors and values have these ends
pub record FitGrid {Obj Mor : Type 0} (C : CategoryData Obj Mor) (g : Grid Obj) (l1 r1 l2 r2 v l3 r3 l4 r4 z : Mor) : Type 0 where
  pub left1 : Arrow C g.p g.x1 l1
  pub right1 : Arrow C g.y1 g.q r1
  pub left2 : Arrow C g.p g.x2 l2
  pub right2 : Arrow C g.y2 g.q r2
  pub value : Arrow C g.p g.q v
  pub left3 : Arrow C g.p' g.x1 l3
  pub right3 : Arrow C g.y1 g.q' r3
  pub left4 : Arrow C g.p' g.x3 l4
  pub right4 : Arrow C g.y3 g.q' r4
  pub value' : Arrow C g.p' g.q' z

-- u, s, w solve the two equations
pub record Solves {Obj Mor : Type 0} (C : CategoryData Obj Mor) (g : Grid Obj) (l1 r1 l2 r2 v l3 r3 l4 r4 z u s w : Mor) : Type 0 where
  pub first : Arrow C g.x1 g.y1 u
  pub second : Arrow C g.x2 g.y2 s
  pub third : Arrow C g.x3 g.y3 w
  pub one : Same C g.p g.q (C.add (C.compose (C.compose l1 u) r1) (C.compose (C.compose l2 s) r2)) v
  pub two : Same C g.p' g.q' (C.add (C.compose (C.compose l3 u) r3) (C.compose (C.compose l4 w) r4)) z

-- the first of the answers, and two more, solve them
pub record Answer {Obj Mor : Type 0} (C : CategoryData Obj Mor) (g : Grid Obj) (l1 r1 l2 r2 v l3 r3 l4 r4 z d : Mor) (xs : List Mor) : Type 0 where
  pub s : Mor
  pub w : Mor
  pub holds : Solves C g l1 r1 l2 r2 v l3 r3 l4 r4 z (get_or xs 0 d) s w

module _ {Obj Mor : Type 0} {C : CategoryData Obj Mor} (L : IsLinear C) where
  infixr 5 ◌⟫◌
  ◌⟫◌ : {a b : Obj} {f g h : Mor} → Same C a b f g → Same C a b g h → Same C a b f h
  ◌⟫◌ s t = join L s t

  -- two equations in three unknowns
  module _ {g : Grid Obj} {l1 r1 l2 r2 v l3 r3 l4 r4 z : Mor} (F : FitGrid C g l1 r1 l2 r2 v l3 r3 l4 r4 z) where
    two-terms : {p q x y x' y' : Obj} {l r l' r' u w : Mor} → Arrow C p x l → Arrow C x y u → Arrow C y q r → Arrow C p x' l' → Arrow C x' y' w → Arrow C y' q r' → Same C p q (C.add (C.compose (C.compose l u) r) (C.add (C.compose (C.compose l' w) r') (C.zero p q))) (C.add (C.compose (C.compose l u) r) (C.compose (C.compose l' w) r'))
    two-terms a b c a' b' c' = added L (same L (L.compose_arrow (L.compose_arrow a b) c)) (add-zero L (L.compose_arrow (L.compose_arrow a' b') c'))

    abbrev unknowns : List (Obj × Obj)
    unknowns = (g.x1, g.y1) ∷ (g.x2, g.y2) ∷ (g.x3, g.y3) ∷ []

    abbrev first : Equation Mor
    first = record { terms = term_of l1 0 r1 ∷ term_of l2 1 r2 ∷ []; value = v }

    abbrev second : Equation Mor
    second = record { terms = term_of l3 0 r3 ∷ term_of l4 2 r4 ∷ []; value = z }

    abbrev pub system : System Obj Mor
    system = three_system (g.x1, g.y1) (g.x2, g.y2) (g.x3, g.y3) l1 r1 l2 r2 v l3 r3 l4 r4 z

    -- a property of each of two, and of each of three
    each-two : {A : Type 0} {a b : A} (P : ℕ → A → Type 0) → P 0 a → P 1 b → (n : ℕ) (y : A) → Nth (a ∷ b ∷ []) n y → P n y
    each-two P p q = nth-cons P p (nth-cons (λ n y. P (suc n) y) q (λ n y h. elim (nth-none h) [ ]))

    each-three : {A : Type 0} {a b c : A} (P : ℕ → A → Type 0) → P 0 a → P 1 b → P 2 c → (n : ℕ) (y : A) → Nth (a ∷ b ∷ c ∷ []) n y → P n y
    each-three P p q r = nth-cons P p (each-two (λ n y. P (suc n) y) q r)

    is-term : {x y p' q' : Obj} {n : ℕ} {l r value : Mor} → Arrow C p' q' value → Nth unknowns n (x, y) → Arrow C p' x l → Arrow C y q' r → IsTerm C unknowns (C.source value) (C.target value) (term_of l n r)
    is-term {x} {y} {p'} {q'} {n} {l} {r} {value} V h a b = record {
      ends = record { from = x; to = y; is = h };
      left = unmove V (λ i j. Arrow C i x l) a;
      right = unmove V (λ i j. Arrow C y j r) b;
    }

    pub three-is-system : IsSystem C system
    three-is-system = record {
      unknowns = λ n e. each-three (λ n' y. C.is_object y.0 × C.is_object y.1)
          (to-object L F.left1, from-object L F.right1) (to-object L F.left2, from-object L F.right2) (to-object L F.left4, from-object L F.right4) n (e.from, e.to) e.is;
      equations = each-two (λ n e. IsEquation C unknowns e)
          (record {
            value = F.value.is;
            terms = each-two (λ n t. IsTerm C unknowns (C.source v) (C.target v) t) (is-term F.value here F.left1 F.right1) (is-term F.value (further here) F.left2 F.right2);
          })
          (record {
            value = F.value'.is;
            terms = each-two (λ n t. IsTerm C unknowns (C.source z) (C.target z) t) (is-term F.value' here F.left3 F.right3) (is-term F.value' (further (further here)) F.left4 F.right4);
          });
    }

    abbrev end1 : Ends unknowns 0
    end1 = record { from = g.x1; to = g.y1; is = here }

    abbrev end2 : Ends unknowns 1
    end2 = record { from = g.x2; to = g.y2; is = further here }

    abbrev end3 : Ends unknowns 2
    end3 = record { from = g.x3; to = g.y3; is = further (further here) }

    pub from-three : (d : Mor) (xs : List Mor) → IsSolution C system xs → Answer C g l1 r1 l2 r2 v l3 r3 l4 r4 z d xs
    from-three d [] S = absurd (omega (arith, S.count))
    from-three d (u ∷ []) S = absurd (omega (arith, S.count))
    from-three d (u ∷ s ∷ []) S = absurd (omega (arith, S.count))
    from-three d (u ∷ s ∷ w ∷ xs) S =
        let U = S.arrows 0 u end1 here in
        let T = S.arrows 1 s end2 (further here) in
        let W = S.arrows 2 w end3 (further (further here)) in
        record {
          s = s;
          w = w;
          holds = record {
            first = U;
            second = T;
            third = W;
            one = back L (two-terms F.left1 U F.right1 F.left2 T F.right2) ⟫ move F.value (λ i j. Same C i j (C.add (C.compose (C.compose l1 u) r1) (C.add (C.compose (C.compose l2 s) r2) (C.zero i j))) v) (S.equations 0 first here);
            two = back L (two-terms F.left3 U F.right3 F.left4 W F.right4) ⟫ move F.value' (λ i j. Same C i j (C.add (C.compose (C.compose l3 u) r3) (C.add (C.compose (C.compose l4 w) r4) (C.zero i j))) z) (S.equations 1 second (further here));
          };
        }

    pub to-three : {u s w : Mor} → Solves C g l1 r1 l2 r2 v l3 r3 l4 r4 z u s w → IsSolution C system (u ∷ s ∷ w ∷ [])
    to-three {u} {s} {w} S = record {
      arrows = λ n a e h. each-three (λ n' y. (b : Mor) → Nth (u ∷ s ∷ w ∷ []) n' b → Arrow C y.0 y.1 b)
          (λ b k. subst (λ c. Arrow C g.x1 g.y1 c) (nth-zero k) S.first)
          (λ b k. subst (λ c. Arrow C g.x2 g.y2 c) (nth-zero (nth-suc k)) S.second)
          (λ b k. subst (λ c. Arrow C g.x3 g.y3 c) (nth-zero (nth-suc (nth-suc k))) S.third) n (e.from, e.to) e.is a h;
      count = refl;
      equations = each-two (λ n e. Same C (C.source e.value) (C.target e.value) (total C (C.source e.value) (C.target e.value) (u ∷ s ∷ w ∷ []) e.terms) e.value)
          (unmove F.value (λ i j. Same C i j (C.add (C.compose (C.compose l1 u) r1) (C.add (C.compose (C.compose l2 s) r2) (C.zero i j))) v) (two-terms F.left1 S.first F.right1 F.left2 S.second F.right2 ⟫ S.one))
          (unmove F.value' (λ i j. Same C i j (C.add (C.compose (C.compose l3 u) r3) (C.add (C.compose (C.compose l4 w) r4) (C.zero i j))) z) (two-terms F.left3 S.first F.right3 F.left4 S.third F.right4 ⟫ S.two));
    }
