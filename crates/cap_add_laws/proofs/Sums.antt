-- Sums of morphisms in a linear category.
use Rattle.std.proofs.Common.{◌≡◌, ◌≢◌, ℕ, zero, suc, ◌<◌, subst, arith, ⊎_elim}
use Rattle.std.proofs.lemmas.Bool.{cases_eq}
use Rattle.cap_laws.specs.Linear.{CategoryData, IsLinear, Arrow, Same}
use Rattle.cap_laws.proofs.Calculus.{from-object, to-object, same, back, ◌⟫◌ as join, added, add-assoc, add-swap, add-zero, zero-add, compose-add, add-compose, scale-compose, compose-zero, zero-compose, scaled}
use Rattle.cap_add_laws.specs.Closure.{sum_below}

module _ {Obj Mor : Type 0} {C : CategoryData Obj Mor} (L : IsLinear C) where
  infixr 5 ◌⟫◌
  ◌⟫◌ : {a b : Obj} {f g h : Mor} → Same C a b f g → Same C a b g h → Same C a b f h
  ◌⟫◌ s t = join L s t

  -- (f + g) + (h + k) = (f + h) + (g + k)
  pub exchange : {a b : Obj} {f g h k : Mor} → Arrow C a b f → Arrow C a b g → Arrow C a b h → Arrow C a b k → Same C a b (C.add (C.add f g) (C.add h k)) (C.add (C.add f h) (C.add g k))
  exchange F G H K =
      add-assoc L F G (L.add_arrow H K)
      ⟫ added L (same L F) (back L (add-assoc L G H K) ⟫ added L (add-swap L G H) (same L K) ⟫ add-assoc L H G K)
      ⟫ back L (add-assoc L F H (L.add_arrow G K))

  module _ (a b : Obj) (A : C.is_object a) (B : C.is_object b) where
    pub sum-arrow : (n : ℕ) (F : ℕ → Mor) → ((j : ℕ) → j < n → Arrow C a b (F j)) → Arrow C a b (sum_below C a b n F)
    sum-arrow zero F h = L.zero_arrow a b A B
    sum-arrow (suc n) F h = L.add_arrow (sum-arrow n F (λ j lt. h j (omega (arith, lt)))) (h n (omega arith))

    pub sum-same : (n : ℕ) (F G : ℕ → Mor) → ((j : ℕ) → j < n → Same C a b (F j) (G j)) → Same C a b (sum_below C a b n F) (sum_below C a b n G)
    sum-same zero F G h = same L (L.zero_arrow a b A B)
    sum-same (suc n) F G h = added L (sum-same n F G (λ j lt. h j (omega (arith, lt)))) (h n (omega arith))

    pub sum-zeros : (n : ℕ) (F : ℕ → Mor) → ((j : ℕ) → j < n → Same C a b (F j) (C.zero a b)) → Same C a b (sum_below C a b n F) (C.zero a b)
    sum-zeros zero F h = same L (L.zero_arrow a b A B)
    sum-zeros (suc n) F h = added L (sum-zeros n F (λ j lt. h j (omega (arith, lt)))) (h n (omega arith)) ⟫ add-zero L (L.zero_arrow a b A B)

    pub sum-plus : (n : ℕ) (F G : ℕ → Mor) → ((j : ℕ) → j < n → Arrow C a b (F j)) → ((j : ℕ) → j < n → Arrow C a b (G j))
        → Same C a b (sum_below C a b n (λ j. C.add (F j) (G j))) (C.add (sum_below C a b n F) (sum_below C a b n G))
    sum-plus zero F G h k = back L (add-zero L (L.zero_arrow a b A B))
    sum-plus (suc n) F G h k =
        let h' = λ (j : ℕ) (lt : j < n). h j (omega (arith, lt)) in
        let k' = λ (j : ℕ) (lt : j < n). k j (omega (arith, lt)) in
        added L (sum-plus n F G h' k') (same L (L.add_arrow (h n (omega arith)) (k n (omega arith))))
        ⟫ exchange (sum-arrow n F h') (sum-arrow n G k') (h n (omega arith)) (k n (omega arith))

    scale-zero : (m : ℕ) → Same C a b (C.scale m (C.zero a b)) (C.zero a b)
    scale-zero m =
        let z = L.zero_arrow a b A B in
        let I = L.identity_arrow a A in
        scaled L m (back L (compose-zero L I B)) ⟫ back L (scale-compose L m I z) ⟫ compose-zero L (L.scale_arrow m I) B

    pub sum-scale : (m n : ℕ) (F : ℕ → Mor) → ((j : ℕ) → j < n → Arrow C a b (F j)) → Same C a b (sum_below C a b n (λ j. C.scale m (F j))) (C.scale m (sum_below C a b n F))
    sum-scale m zero F h = back L (scale-zero m)
    sum-scale m (suc n) F h =
        let h' = λ (j : ℕ) (lt : j < n). h j (omega (arith, lt)) in
        let s = sum-arrow n F h' in
        let t = h n (omega arith) in
        added L (sum-scale m n F h') (same L (L.scale_arrow m t))
        ⟫ back L (record { left = L.scale_arrow m (L.add_arrow s t); right = L.add_arrow (L.scale_arrow m s) (L.scale_arrow m t); congruent = L.scale_add m s t })

    -- only one term counts
    pub sum-one : (n k : ℕ) (F : ℕ → Mor) → k < n → ((j : ℕ) → j < n → Arrow C a b (F j)) → ((j : ℕ) → j < n → j ≢ k → Same C a b (F j) (C.zero a b)) → Same C a b (sum_below C a b n F) (F k)
    sum-one zero k F lt h z = absurd (omega (arith, lt))
    sum-one (suc n) k F lt h z = ⊎_elim
        (λ (here : n ≡ k).
        let t : Arrow C a b (F n) = h n (omega arith) in
        let s : Same C a b (sum_below C a b (suc n) F) (F n) = added L (sum-zeros n F (λ j below. z j (omega (arith, below)) (λ e. absurd (omega (arith, below, e, here))))) (same L t) ⟫ zero-add L t in
        subst (λ m. Same C a b (sum_below C a b (suc n) F) (F m)) here s)
        (λ (other : n ≢ k).
        let h' = λ (j : ℕ) (below : j < n). h j (omega (arith, below)) in
        let t : Arrow C a b (F k) = h k lt in
        added L (sum-one n k F (omega (arith, lt, other)) h' (λ j below ne. z j (omega (arith, below)) ne)) (z n (omega arith) other) ⟫ add-zero L t)
        (cases_eq n k)

    -- sums of sums
    pub sum-swap : (n m : ℕ) (F : ℕ → ℕ → Mor) → ((i j : ℕ) → i < n → j < m → Arrow C a b (F i j)) → Same C a b (sum_below C a b n (λ i. sum_below C a b m (F i))) (sum_below C a b m (λ j. sum_below C a b n (λ i. F i j)))
    sum-swap zero m F h = back L (sum-zeros m (λ j. C.zero a b) (λ j lt. same L (L.zero_arrow a b A B)))
    sum-swap (suc n) m F h =
        let h' = λ (i j : ℕ) (lt : i < n) (below : j < m). h i j (omega (arith, lt)) below in
        let row = λ (j : ℕ) (below : j < m). h n j (omega arith) below in
        added L (sum-swap n m F h') (same L (sum-arrow m (F n) row))
        ⟫ back L (sum-plus m (λ j. sum_below C a b n (λ i. F i j)) (F n) (λ j below. sum-arrow n (λ i. F i j) (λ i lt. h' i j lt below)) row)

  -- sums and composites
  pub compose-sum : {a b c : Obj} {f : Mor} (n : ℕ) (F : ℕ → Mor) → Arrow C a b f → C.is_object c → ((j : ℕ) → j < n → Arrow C b c (F j)) → Same C a c (C.compose f (sum_below C b c n F)) (sum_below C a c n (λ j. C.compose f (F j)))
  compose-sum {a} {b} {c} zero F p o h = compose-zero L p o
  compose-sum {a} {b} {c} (suc n) F p o h =
      let h' = λ (j : ℕ) (lt : j < n). h j (omega (arith, lt)) in
      let t = h n (omega arith) in
      compose-add L p (sum-arrow b c (to-object L p) o n F h') t ⟫ added L (compose-sum n F p o h') (same L (L.compose_arrow p t))

  pub sum-compose : {a b c : Obj} {g : Mor} (n : ℕ) (F : ℕ → Mor) → C.is_object a → Arrow C b c g → ((j : ℕ) → j < n → Arrow C a b (F j)) → Same C a c (C.compose (sum_below C a b n F) g) (sum_below C a c n (λ j. C.compose (F j) g))
  sum-compose {a} {b} {c} zero F o q h = zero-compose L o q
  sum-compose {a} {b} {c} (suc n) F o q h =
      let h' = λ (j : ℕ) (lt : j < n). h j (omega (arith, lt)) in
      let t = h n (omega arith) in
      add-compose L (sum-arrow a b o (from-object L q) n F h') t q ⟫ added L (sum-compose n F o q h') (same L (L.compose_arrow t q))
