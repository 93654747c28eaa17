-- An example: the table with one object whose only basis element is its unit. Its combinations are the residues.
use Rattle.std.specs.Prelude.{◌≡◌, ℕ, zero, suc, ◌+◌, ◌-◌, ◌*◌, ◌%◌, ◌^◌, ◌<◌, true, refl, List, [], ◌∷◌, length, slice_index}
use Rattle.std.proofs.Common.{sym, ◌∙◌, ap, subst, arith, add_assoc, add_comm}
use Rattle.std.proofs.Math.Nat.{add-mod-mod, mod-add-mod, mul-mod_right, mod-lt, mod-eq_of_lt, zero-mod, mul_assoc, mul_comm, mul_left_comm, mul-one, one-mul, zero-mul, mul-add, add-mul, pow-succ'}
use Rattle.std.proofs.lemmas.Nat.{mul-mod_first, mul-mod_second}
use Rattle.cap_field.specs.Residue.{is_tabled}
use Rattle.cap_field.proofs.Fermat.{tabled_range, fermat}
use Rattle.cap_laws.specs.Linear.{CategoryData, IsLinear, Arrow, Same}
use Rattle.cap_laws.specs.Universal.{opposite, IsWeakKernel, IsWeakCokernel}
use Rattle.cap_laws.specs.Table.{TableData, Combination, IsRow, IsCombination, IsTable, table_data, ends_of, width_of}

abbrev pub scalar_table : ℕ → TableData
scalar_table p = record { prime = p; objects = 1; basis = (0, 0) ∷ []; unit = λ x. 1 ∷ []; product = λ i j. 1 ∷ [] }

abbrev pub scalar_data : ℕ → CategoryData ℕ Combination
scalar_data p = table_data (scalar_table p)

-- the residue n as a combination
abbrev pub scalar : ℕ → Combination
scalar n = record { from = 0; to = 0; coefficients = n ∷ [] }

-- the residue that a combination is
abbrev pub value_of : Combination → ℕ
value_of f = slice_index f.coefficients 0

one-long : (xs : List ℕ) → length xs ≡ 1 → xs ≡ slice_index xs 0 ∷ []
one-long [] h = absurd (omega (arith, h))
one-long (x ∷ []) h = refl
one-long (x ∷ y ∷ zs) h = absurd (omega (arith, h))

below-one : {n : ℕ} → n < 1 → n ≡ 0
below-one h = omega (arith, h)

module _ (p : ℕ) where
  wide : (f : Combination) → IsCombination (scalar_table p) f → length f.coefficients ≡ 1
  wide f h = subst (λ b. length f.coefficients ≡ width_of (scalar_table p) 0 b) (below-one h.to) (subst (λ a. length f.coefficients ≡ width_of (scalar_table p) a f.to) (below-one h.from) h.row.long)

  pub scalar-of : (f : Combination) → IsCombination (scalar_table p) f → f ≡ scalar (value_of f)
  scalar-of f h =
      ap (λ a. record { from = a; to = f.to; coefficients = f.coefficients }) (below-one h.from)
      ∙ ap (λ b. record { from = 0; to = b; coefficients = f.coefficients }) (below-one h.to)
      ∙ ap (λ xs. record { from = 0; to = 0; coefficients = xs }) (one-long f.coefficients (wide f h))

  value-below : (f : Combination) → IsCombination (scalar_table p) f → value_of f < p
  value-below f h = h.row.residues 0 (omega (arith, wide f h))

  -- a property of every combination, from every residue
  one : (P : Combination → Type 0) → ((x : ℕ) → x < p → P (scalar x)) → (f : Combination) → IsCombination (scalar_table p) f → P f
  one P k f h = subst P (sym (scalar-of f h)) (k (value_of f) (value-below f h))

  two : (P : Combination → Combination → Type 0) → ((x y : ℕ) → x < p → y < p → P (scalar x) (scalar y)) → (f g : Combination) → IsCombination (scalar_table p) f → IsCombination (scalar_table p) g → P f g
  two P k f g h j = one (λ f'. P f' g) (λ x hx. one (λ g'. P (scalar x) g') (λ y hy. k x y hx hy) g j) f h

  three : (P : Combination → Combination → Combination → Type 0) → ((x y z : ℕ) → x < p → y < p → z < p → P (scalar x) (scalar y) (scalar z)) → (f g l : Combination) → IsCombination (scalar_table p) f → IsCombination (scalar_table p) g → IsCombination (scalar_table p) l → P f g l
  three P k f g l h j m = one (λ f'. P f' g l) (λ x hx. two (λ g' l'. P (scalar x) g' l') (λ y z hy hz. k x y z hx hy hz) g l j m) f h

  scalar-row : (n : ℕ) → n < p → IsRow (scalar_table p) 0 0 (n ∷ [])
  scalar-row n h = record { long = refl; residues = λ k b. subst (λ i. slice_index (n ∷ []) i < p) (sym (below-one b)) h }

  scalar-is : (n : ℕ) → n < p → IsCombination (scalar_table p) (scalar n)
  scalar-is n h = record { from = omega arith; to = omega arith; row = scalar-row n h }

  -- between any two names of the one object
  arrow : (a b : ℕ) (n : ℕ) → n < p → a < 1 → b < 1 → Arrow (scalar_data p) a b (scalar n)
  arrow a b n h s t = record { is = scalar-is n h; from = sym (below-one s); to = sym (below-one t) }

  product-is : (x y : ℕ) → (scalar_data p).compose (scalar x) (scalar y) ≡ scalar (x * y % p)
  product-is x y = let e : 0 + (0 + x * y * 1) ≡ x * y = omega arith in ap (λ n. scalar (n % p)) e

  left-product : (x y z : ℕ) → (scalar_data p).compose ((scalar_data p).compose (scalar x) (scalar y)) (scalar z) ≡ scalar (x * y % p * z % p)
  left-product x y z = ap (λ f. (scalar_data p).compose f (scalar z)) (product-is x y) ∙ product-is (x * y % p) z

  right-product : (x y z : ℕ) → (scalar_data p).compose (scalar x) ((scalar_data p).compose (scalar y) (scalar z)) ≡ scalar (x * (y * z % p) % p)
  right-product x y z = ap (λ f. (scalar_data p).compose (scalar x) f) (product-is y z) ∙ product-is x (y * z % p)

  -- residues
  product-assoc : (x y z : ℕ) → x * y % p * z % p ≡ x * (y * z % p) % p
  product-assoc x y z = mul-mod_first (x * y) z p ∙ ap (λ n. n % p) (mul_assoc x y z) ∙ sym (mul-mod_second x (y * z) p)

  sum-assoc : (x y z : ℕ) → ((x + y) % p + z) % p ≡ (x + (y + z) % p) % p
  sum-assoc x y z = mod-add-mod (x + y) p z ∙ ap (λ n. n % p) (add_assoc x y z) ∙ sym (add-mod-mod x (y + z) p)

  sum-scale : (m n x : ℕ) → (m + n) * x % p ≡ (m * x % p + n * x % p) % p
  sum-scale m n x = ap (λ k. k % p) (add-mul m n x) ∙ sym (mod-add-mod (m * x) p (n * x)) ∙ sym (add-mod-mod (m * x % p) (n * x) p)

  product-scale : (m n x : ℕ) → m * n * x % p ≡ m * (n * x % p) % p
  product-scale m n x = ap (λ k. k % p) (mul_assoc m n x) ∙ sym (mul-mod_second m (n * x) p)

  left-sum : (x y z : ℕ) → x * ((y + z) % p) % p ≡ (x * y % p + x * z % p) % p
  left-sum x y z = mul-mod_second x (y + z) p ∙ ap (λ k. k % p) (mul-add x y z) ∙ sym (mod-add-mod (x * y) p (x * z)) ∙ sym (add-mod-mod (x * y % p) (x * z) p)

  right-sum : (x y z : ℕ) → (x + y) % p * z % p ≡ (x * z % p + y * z % p) % p
  right-sum x y z = mul-mod_first (x + y) z p ∙ sum-scale x y z

  right-scale : (n x y : ℕ) → x * (n * y % p) % p ≡ n * (x * y % p) % p
  right-scale n x y = mul-mod_second x (n * y) p ∙ ap (λ k. k % p) (mul_left_comm x n y) ∙ sym (mul-mod_second n (x * y) p)

  one-product : (x : ℕ) → x < p → 1 * x % p ≡ x
  one-product x h = ap (λ n. n % p) (one-mul x) ∙ mod-eq_of_lt h

  product-one : (x : ℕ) → x < p → x * 1 % p ≡ x
  product-one x h = ap (λ n. n % p) (mul-one x) ∙ mod-eq_of_lt h

  sum-zero : (x : ℕ) → x < p → (x + 0) % p ≡ x
  sum-zero x h = ap (λ n. n % p) (let e : x + 0 ≡ x = omega arith in e) ∙ mod-eq_of_lt h

  -- a zero between any names of the ends is the residue 0
  zero-is : (a b : ℕ) → a < 1 → b < 1 → (scalar_data p).zero a b ≡ scalar 0
  zero-is a b s t = ap (λ x. (scalar_data p).zero x b) (below-one s) ∙ ap (λ y. (scalar_data p).zero 0 y) (below-one t)

  identity-is : (a : ℕ) → a < 1 → (scalar_data p).identity a ≡ scalar 1
  identity-is a s = ap (λ x. (scalar_data p).identity x) (below-one s)

pub scalar_linear : (p : ℕ) → is_tabled p ≡ true → IsLinear (scalar_data p)
scalar_linear p t =
    let K = scalar_data p in
    let big = (tabled_range p t).0 in
    record {
      prime_tabled = t;
      source_object = λ f h. h.from;
      target_object = λ f h. h.to;
      identity_arrow = λ a o. subst (λ f. Arrow K a a f) (sym (identity-is p a o)) (arrow p a a 1 (omega (arith, big)) o o);
      compose_arrow = λ {f = f} {g = g} F G. record {
        is = two p (λ f' g'. IsCombination (scalar_table p) (K.compose f' g')) (λ x y hx hy. subst (λ h. IsCombination (scalar_table p) h) (sym (product-is p x y)) (scalar-is p (x * y % p) (mod-lt (x * y) (omega (arith, big))))) f g F.is G.is;
        from = F.from;
        to = G.to;
      };
      zero_arrow = λ a b o o'. subst (λ f. Arrow K a b f) (sym (zero-is p a b o o')) (arrow p a b 0 (omega (arith, big)) o o');
      add_arrow = λ {f = f} {g = g} F G. record {
        is = two p (λ f' g'. IsCombination (scalar_table p) (K.add f' g')) (λ x y hx hy. scalar-is p ((x + y) % p) (mod-lt (x + y) (omega (arith, big)))) f g F.is G.is;
        from = F.from;
        to = F.to;
      };
      scale_arrow = λ {f = f} n F. record {
        is = one p (λ f'. IsCombination (scalar_table p) (K.scale n f')) (λ x hx. scalar-is p (n * x % p) (mod-lt (n * x) (omega (arith, big)))) f F.is;
        from = F.from;
        to = F.to;
      };
      reflexive = λ F. refl;
      symmetric = λ s. sym s.congruent;
      transitive = λ s u. s.congruent ∙ u.congruent;
      compose_congruent = λ {f' = f'} {g = g} s u. ap (λ (h : Combination). K.compose h g) s.congruent ∙ ap (λ (h : Combination). K.compose f' h) u.congruent;
      add_congruent = λ {f' = f'} {g = g} s u. ap (λ (h : Combination). K.add h g) s.congruent ∙ ap (λ (h : Combination). K.add f' h) u.congruent;
      scale_congruent = λ n s. ap (λ h. K.scale n h) s.congruent;
      associative = λ {f = f} {g = g} {h = l} F G H. three p (λ f' g' l'. K.compose (K.compose f' g') l' ≡ K.compose f' (K.compose g' l')) (λ x y z hx hy hz. left-product p x y z ∙ ap scalar (product-assoc p x y z) ∙ sym (right-product p x y z)) f g l F.is G.is H.is;
      unit_left = λ {a = a} {f = f} F. ap (λ i. K.compose i f) (identity-is p a (subst (λ x. x < 1) F.from F.is.from)) ∙ one p (λ f'. K.compose (scalar 1) f' ≡ f') (λ x hx. product-is p 1 x ∙ ap scalar (one-product p x hx)) f F.is;
      unit_right = λ {b = b} {f = f} F. ap (λ i. K.compose f i) (identity-is p b (subst (λ x. x < 1) F.to F.is.to)) ∙ one p (λ f'. K.compose f' (scalar 1) ≡ f') (λ x hx. product-is p x 1 ∙ ap scalar (product-one p x hx)) f F.is;
      add_associative = λ {f = f} {g = g} {h = l} F G H. three p (λ f' g' l'. K.add (K.add f' g') l' ≡ K.add f' (K.add g' l')) (λ x y z hx hy hz. ap scalar (sum-assoc p x y z)) f g l F.is G.is H.is;
      add_commutative = λ {f = f} {g = g} F G. two p (λ f' g'. K.add f' g' ≡ K.add g' f') (λ x y hx hy. ap (λ n. scalar (n % p)) (add_comm x y)) f g F.is G.is;
      add_zero = λ {a = a} {b = b} {f = f} F. ap (λ z. K.add f z) (zero-is p a b (subst (λ x. x < 1) F.from F.is.from) (subst (λ x. x < 1) F.to F.is.to)) ∙ one p (λ f'. K.add f' (scalar 0) ≡ f') (λ x hx. ap scalar (sum-zero p x hx)) f F.is;
      scale_one = λ {f = f} F. one p (λ f'. K.scale 1 f' ≡ f') (λ x hx. ap scalar (one-product p x hx)) f F.is;
      scale_prime = λ {a = a} {b = b} {f = f} F. one p (λ f'. K.scale p f' ≡ scalar 0) (λ x hx. ap scalar (mul-mod_right p x)) f F.is ∙ sym (zero-is p a b (subst (λ x. x < 1) F.from F.is.from) (subst (λ x. x < 1) F.to F.is.to));
      scale_sum = λ {f = f} m n F. one p (λ f'. K.scale (m + n) f' ≡ K.add (K.scale m f') (K.scale n f')) (λ x hx. ap scalar (sum-scale p m n x)) f F.is;
      scale_product = λ {f = f} m n F. one p (λ f'. K.scale (m * n) f' ≡ K.scale m (K.scale n f')) (λ x hx. ap scalar (product-scale p m n x)) f F.is;
      scale_add = λ {f = f} {g = g} n F G. two p (λ f' g'. K.scale n (K.add f' g') ≡ K.add (K.scale n f') (K.scale n g')) (λ x y hx hy. ap scalar (left-sum p n x y)) f g F.is G.is;
      compose_add = λ {f = f} {g = g} {h = l} F G H. three p (λ f' g' l'. K.compose f' (K.add g' l') ≡ K.add (K.compose f' g') (K.compose f' l'))
          (λ x y z hx hy hz. product-is p x ((y + z) % p) ∙ ap scalar (left-sum p x y z) ∙ sym (ap (λ h. K.add h (K.compose (scalar x) (scalar z))) (product-is p x y) ∙ ap (λ h. K.add (scalar (x * y % p)) h) (product-is p x z))) f g l F.is G.is H.is;
      add_compose = λ {f = f} {g = g} {h = l} F G H. three p (λ f' g' l'. K.compose (K.add f' g') l' ≡ K.add (K.compose f' l') (K.compose g' l'))
          (λ x y z hx hy hz. product-is p ((x + y) % p) z ∙ ap scalar (right-sum p x y z) ∙ sym (ap (λ h. K.add h (K.compose (scalar y) (scalar z))) (product-is p x z) ∙ ap (λ h. K.add (scalar (x * z % p)) h) (product-is p y z))) f g l F.is G.is H.is;
      compose_scale = λ {f = f} {g = g} n F G. two p (λ f' g'. K.compose f' (K.scale n g') ≡ K.scale n (K.compose f' g')) (λ x y hx hy. product-is p x (n * y % p) ∙ ap scalar (right-scale p n x y) ∙ sym (ap (λ h. K.scale n h) (product-is p x y))) f g F.is G.is;
      scale_compose = λ {f = f} {g = g} n F G. two p (λ f' g'. K.compose (K.scale n f') g' ≡ K.scale n (K.compose f' g')) (λ x y hx hy. product-is p (n * x % p) y ∙ ap scalar (product-assoc p n x y) ∙ sym (ap (λ h. K.scale n h) (product-is p x y))) f g F.is G.is;
    }

-- the one basis element goes from 0 to 0
only-ends : (p b : ℕ) → b < 1 → ends_of (scalar_table p) b ≡ (0, 0)
only-ends p b h = ap (λ i. ends_of (scalar_table p) i) (below-one h)

pub scalar_is_table : (p : ℕ) → is_tabled p ≡ true → IsTable (scalar_table p)
scalar_is_table p t = record {
  few_objects = omega arith;
  few_elements = omega arith;
  ends = λ b h. subst (λ e. (e.0 < 1) × (e.1 < 1)) (sym (only-ends p b h)) (omega arith, omega arith);
  products = λ i j h k m. subst (λ e. IsRow (scalar_table p) e.0 (ends_of (scalar_table p) j).1 (1 ∷ [])) (sym (only-ends p i h))
      (subst (λ e. IsRow (scalar_table p) 0 e.1 (1 ∷ [])) (sym (only-ends p j k)) (scalar-row p 1 (omega (arith, (tabled_range p t).0))));
  linear = scalar_linear p t;
}

-- modulo a prime, y·x = 0 and x ≠ 0 give y = 0: y = y·x^(p−1)
no-divisors : (p x y : ℕ) → is_tabled p ≡ true → 0 < x → x < p → y < p → y * x % p ≡ 0 → y ≡ 0
no-divisors p x y t some hx hy z =
    let e : suc (p - 2) ≡ p - 1 = omega (arith, (tabled_range p t).0) in
    sym (mod-eq_of_lt hy)
    ∙ ap (λ n. n % p) (sym (mul-one y))
    ∙ ap (λ n. y * n % p) (sym (fermat p x t some hx))
    ∙ mul-mod_second y (x ^ (p - 1)) p
    ∙ ap (λ n. y * n % p) (ap (λ k. x ^ k) (sym e) ∙ pow-succ' x (p - 2))
    ∙ ap (λ n. n % p) (sym (mul_assoc y x (x ^ (p - 2))))
    ∙ sym (mul-mod_first (y * x) (x ^ (p - 2)) p)
    ∙ ap (λ n. n * x ^ (p - 2) % p) z
    ∙ ap (λ n. n % p) (zero-mul (x ^ (p - 2)))
    ∙ zero-mod p

-- 1 at 0, and 0 elsewhere
abbrev pub unit_at : ℕ → ℕ
unit_at zero = 1
unit_at (suc n) = 0

-- a weak kernel and a weak cokernel: of 0 the unit, of the others 0
abbrev pub weak_of : Combination → Combination
weak_of f = scalar (unit_at (value_of f))

module _ (p : ℕ) (t : is_tabled p ≡ true) where
  abbrev K : CategoryData ℕ Combination
  K = scalar_data p

  abbrev L : IsLinear (scalar_data p)
  L = scalar_linear p t

  first-is : {a b : ℕ} {f : Combination} → Arrow (scalar_data p) a b f → a < 1
  first-is F = subst (λ x. x < 1) F.from F.is.from

  second-is : {a b : ℕ} {f : Combination} → Arrow (scalar_data p) a b f → b < 1
  second-is F = subst (λ x. x < 1) F.to F.is.to

  -- where y·x = 0 and x is not 0, y is 0
  zero-first : (x : ℕ) → 0 < x → x < p → (f : Combination) → IsCombination (scalar_table p) f → K.compose f (scalar x) ≡ scalar 0 → f ≡ scalar 0
  zero-first x some hx f h z = one p (λ g. K.compose g (scalar x) ≡ scalar 0 → g ≡ scalar 0) (λ y hy e. ap scalar (no-divisors p x y t some hx hy (ap value_of (sym (product-is p y x) ∙ e)))) f h z

  weak-at : (x : ℕ) → x < p → IsWeakKernel (scalar_data p) 0 0 0 (scalar x) (weak_of (scalar x))
  weak-at zero h =
      let I : Arrow (scalar_data p) 0 0 (scalar 1) = arrow p 0 0 1 (omega (arith, (tabled_range p t).0)) (omega arith) (omega arith) in
      let F : Arrow (scalar_data p) 0 0 (scalar 0) = arrow p 0 0 0 (omega (arith, h)) (omega arith) (omega arith) in
      record {
        arrow = I;
        zero = record { left = L.compose_arrow I F; right = L.zero_arrow 0 0 (omega arith) (omega arith); congruent = product-is p 1 0 ∙ ap scalar (one-product p 0 h) };
        lift = λ {x = x'} {t = g} G z. record {
          by = g;
          arrow = G;
          holds = record { left = L.compose_arrow G I; right = G; congruent = one p (λ f'. K.compose f' (scalar 1) ≡ f') (λ y hy. product-is p y 1 ∙ ap scalar (product-one p y hy)) g G.is };
        };
      }
  weak-at (suc x) h =
      let positive : 0 < p = omega (arith, h) in
      let I : Arrow (scalar_data p) 0 0 (scalar 0) = arrow p 0 0 0 positive (omega arith) (omega arith) in
      let F : Arrow (scalar_data p) 0 0 (scalar (suc x)) = arrow p 0 0 (suc x) h (omega arith) (omega arith) in
      record {
        arrow = I;
        zero = record { left = L.compose_arrow I F; right = L.zero_arrow 0 0 (omega arith) (omega arith); congruent = product-is p 0 (suc x) ∙ ap (λ n. scalar (n % p)) (zero-mul (suc x)) ∙ ap scalar (zero-mod p) };
        lift = λ {x = x'} {t = g} G z.
            let U = arrow p x' 0 0 positive (first-is G) (omega arith) in
            record {
              by = scalar 0;
              arrow = U;
              holds = record {
                left = L.compose_arrow U I;
                right = G;
                congruent = product-is p 0 0 ∙ ap scalar (zero-mod p) ∙ sym (zero-first (suc x) (omega arith) h g G.is (z.congruent ∙ zero-is p x' 0 (first-is G) (omega arith)));
              };
            };
      }

  weak-here : (f : Combination) → IsCombination (scalar_table p) f → IsWeakKernel (scalar_data p) 0 0 0 f (weak_of f)
  weak-here f h = one p (λ g. IsWeakKernel (scalar_data p) 0 0 0 g (weak_of g)) weak-at f h

  pub scalar_weak_kernel : (a b : ℕ) (f : Combination) → Arrow (scalar_data p) a b f → IsWeakKernel (scalar_data p) 0 a b f (weak_of f)
  scalar_weak_kernel a b f F =
      subst (λ x. IsWeakKernel (scalar_data p) 0 x b f (weak_of f)) (sym (below-one (first-is F)))
      (subst (λ y. IsWeakKernel (scalar_data p) 0 0 y f (weak_of f)) (sym (below-one (second-is F))) (weak-here f F.is))

  -- residues commute, so a weak kernel is a weak cokernel
  commute : (f g : Combination) → IsCombination (scalar_table p) f → IsCombination (scalar_table p) g → K.compose f g ≡ K.compose g f
  commute f g h k = two p (λ f' g'. K.compose f' g' ≡ K.compose g' f') (λ x y hx hy. product-is p x y ∙ ap (λ n. scalar (n % p)) (mul_comm x y) ∙ sym (product-is p y x)) f g h k

  back-to : {a b : ℕ} {f : Combination} → Arrow (scalar_data p) a b f → Arrow (opposite (scalar_data p)) b a f
  back-to F = record { is = F.is; from = F.to; to = F.from }

  same-back : {a b : ℕ} {f g h : Combination} → Same (scalar_data p) a b f g → h ≡ f → Same (opposite (scalar_data p)) b a h g
  same-back {a} {b} {g = g} s e = subst (λ h. Same (opposite (scalar_data p)) b a h g) (sym e) (record { left = back-to s.left; right = back-to s.right; congruent = s.congruent })

  turned-weak : (f i : Combination) → Arrow (scalar_data p) 0 0 f → IsWeakKernel (scalar_data p) 0 0 0 f i → IsWeakKernel (opposite (scalar_data p)) 0 0 0 f i
  turned-weak f i F W = record {
    arrow = back-to W.arrow;
    zero = same-back W.zero (commute f i F.is W.arrow.is);
    lift = λ {x = x} {t = g} G z.
        let at-zero : x ≡ 0 = below-one (second-is (record { is = G.is; from = G.to; to = G.from })) in
        let G' : Arrow (scalar_data p) x 0 g = record { is = G.is; from = below-one G.is.from ∙ sym at-zero; to = below-one G.is.to } in
        let z' : Same (scalar_data p) x 0 (K.compose g f) (K.zero x 0) = record {
          left = L.compose_arrow G' F;
          right = L.zero_arrow x 0 (first-is G') (omega arith);
          congruent = commute g f G.is F.is ∙ z.congruent ∙ zero-is p 0 x (omega arith) (first-is G') ∙ sym (zero-is p x 0 (first-is G') (omega arith));
        } in
        let u = W.lift G' z' in
        let U : Arrow (opposite (scalar_data p)) x 0 u.by = record { is = u.arrow.is; from = below-one u.arrow.is.to ∙ sym at-zero; to = below-one u.arrow.is.from } in
        record {
          by = u.by;
          arrow = U;
          holds = record {
            left = back-to (L.compose_arrow W.arrow (record { is = U.is; from = U.to; to = U.from }));
            right = G;
            congruent = commute i u.by W.arrow.is u.arrow.is ∙ u.holds.congruent;
          };
        };
  }

  pub scalar_weak_cokernel : (a b : ℕ) (f : Combination) → Arrow (scalar_data p) a b f → IsWeakCokernel (scalar_data p) a b 0 f (weak_of f)
  scalar_weak_cokernel a b f F =
      let F' : Arrow (scalar_data p) 0 0 f = record { is = F.is; from = below-one F.is.from; to = below-one F.is.to } in
      subst (λ x. IsWeakKernel (opposite (scalar_data p)) 0 b x f (weak_of f)) (sym (below-one (first-is F)))
      (subst (λ y. IsWeakKernel (opposite (scalar_data p)) 0 y 0 f (weak_of f)) (sym (below-one (second-is F))) (turned-weak f (weak_of f) F' (weak-here f F.is)))
