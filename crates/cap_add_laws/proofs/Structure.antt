-- The coefficients of all entries are a homomorphism structure of the additive closure.
use Rattle.std.proofs.Common.{◌≡◌, ℕ, zero, suc, ◌+◌, ◌*◌, ◌/◌, ◌%◌, ◌<◌, List, [], ◌∷◌, length, get_or, refl, sym, ap, ◌∙◌, subst, arith}
use Rattle.std.proofs.lemmas.Nat.{div-mul-add, mod-mul-add, mul-add-lt, div_below, mod_below}
use Rattle.std.proofs.Math.Nat.{div-add-mod', zero-add}
use Rattle.std.proofs.lemmas.List.FromFn.{length-map-range_with_len, get_or-map-range_with_len}
use Rattle.cap_matrix.specs.Grid.{row_by}
use Rattle.cap_matrix.proofs.Writes.{some_below}
use Rattle.cap_laws.specs.Linear.{Arrow}
use Rattle.cap_laws.specs.Table.{TableData, Combination, IsTable, IsRow, width_of}
use Rattle.cap_homlaw.specs.Rows.{row_sum, row_scaled}
use Rattle.cap_homlaw.specs.Hom.{IsHom, IsSumOf, IsGenerator}
use Rattle.cap_homlaw.specs.Hom.IsSumOf.{empty, more}
use Rattle.cap_add_laws.specs.Closure.{MorphismMatrix, entry_of, AreObjects, closure_data, closure_hom, widths_of, sum_list, joined}
use Rattle.cap_add_laws.proofs.Joined.{AreRows, rows-from, rows-at, rows-many, joined-residues, cut-rows, joined-cut, joined-same, joined-sum, joined-scaled}
use Rattle.cap_add_laws.proofs.Linear.{add-arrow, add-entry, scale-arrow, scale-entry}
use Rattle.cap_add_laws.proofs.DirectSum.{empty-is-zero, sum-is}

pub widths-many : (T : TableData) (a b : List ℕ) → length (widths_of T a b) ≡ length a * length b
widths-many T a b = length-map-range_with_len (λ k. width_of T (get_or a (k / length b) 0) (get_or b (k % length b) 0)) 0 (length a * length b)

pub width-at : (T : TableData) (a b : List ℕ) (k : ℕ) → k < length a * length b → get_or (widths_of T a b) k 0 ≡ width_of T (get_or a (k / length b) 0) (get_or b (k % length b) 0)
width-at T a b k lt = get_or-map-range_with_len (λ k. width_of T (get_or a (k / length b) 0) (get_or b (k % length b) 0)) 0 (length a * length b) k k 0 lt (zero-add k)

module _ {T : TableData} where
  -- the k-th of the entries
  pub place-row : {a b : List ℕ} {f : MorphismMatrix} → Arrow (closure_data T) a b f → (k : ℕ) → k < length a * length b → get_or f.entries k [] ≡ (entry_of f (k / length b) (k % length b)).coefficients
  place-row {a} {b} {f} p k lt =
      let n = length b in
      let same : length f.to ≡ n = ap (λ (z : List ℕ). length z) p.to in
      sym (ap (λ m. get_or f.entries (k / n * m + k % n) []) same ∙ ap (λ m. get_or f.entries m []) (div-add-mod' k n))

  pub matrix-rows : {a b : List ℕ} {f : MorphismMatrix} → Arrow (closure_data T) a b f → AreRows T.prime (widths_of T a b) f.entries
  matrix-rows {a} {b} {f} p =
      let n = length b in
      let many : length f.entries ≡ length a * length b = p.is.many ∙ ap (λ (z : List ℕ). length z * length f.to) p.from ∙ ap (λ (z : List ℕ). length a * length z) p.to in
      rows-from T.prime (widths_of T a b) f.entries (many ∙ sym (widths-many T a b))
      (λ k lt.
      let inside : k < length a * n = omega (arith, lt, widths-many T a b) in
      let some : 0 < n = some_below k (length a) n inside in
      let i = k / n in
      let j = k % n in
      let hi : i < length a = div_below k n (length a) some inside in
      let hj : j < n = mod_below k n some in
      let R : IsRow T (get_or f.from i 0) (get_or f.to j 0) (entry_of f i j).coefficients = p.is.rows i j (subst (λ (z : List ℕ). i < length z) (sym p.from) hi) (subst (λ (z : List ℕ). j < length z) (sym p.to) hj) in
      let w : get_or (widths_of T a b) k 0 ≡ width_of T (get_or f.from i 0) (get_or f.to j 0) =
      width-at T a b k inside ∙ ap (λ (z : List ℕ). width_of T (get_or z i 0) (get_or b j 0)) (sym p.from) ∙ ap (λ (z : List ℕ). width_of T (get_or f.from i 0) (get_or z j 0)) (sym p.to) in
      let at = place-row p k inside in
      record {
        long = ap length at ∙ R.long ∙ sym w;
        residues = λ q below. subst (λ (z : List ℕ). get_or z q 0 < T.prime) (sym at) (R.residues q (omega (arith, below, w, R.long)));
      })

  pub rows-matrix : {a b : List ℕ} {xs : List (List ℕ)} → AreObjects T a → AreObjects T b → AreRows T.prime (widths_of T a b) xs → Arrow (closure_data T) a b (record { from = a; to = b; entries = xs })
  rows-matrix {a} {b} {xs} A B h = record {
    is = record {
      from = A;
      to = B;
      many = rows-many h ∙ widths-many T a b;
      rows = λ i j hi hj.
          let n = length b in
          let k = i * n + j in
          let inside : k < length a * n = omega (arith, mul-add-lt i n j (length a) hi hj) in
          let R = rows-at h k (omega (arith, inside, widths-many T a b)) in
          let w : get_or (widths_of T a b) k 0 ≡ width_of T (get_or a i 0) (get_or b j 0) =
          width-at T a b k inside ∙ ap (λ q. width_of T (get_or a q 0) (get_or b (k % n) 0)) (div-mul-add i n j hj) ∙ ap (λ r. width_of T (get_or a i 0) (get_or b r 0)) (mod-mul-add i n j hj) in
          record { long = R.long ∙ w; residues = λ q lt. R.residues q (omega (arith, lt, R.long)) };
    };
    from = refl;
    to = refl;
  }

  same-matrix : {a b : List ℕ} {f g : MorphismMatrix} → Arrow (closure_data T) a b f → Arrow (closure_data T) a b g → f.entries ≡ g.entries → f ≡ g
  same-matrix {a} {b} {f} {g} p q e =
      ap (λ (z : List ℕ). record { from = z; to = f.to; entries = f.entries }) (p.from ∙ sym q.from)
      ∙ ap (λ (z : List ℕ). record { from = g.from; to = z; entries = f.entries }) (p.to ∙ sym q.to)
      ∙ ap (λ (z : List (List ℕ)). record { from = g.from; to = g.to; entries = z }) e

module _ {T : TableData} (V : IsTable T) where
  nu-add : {a b : List ℕ} {f g : MorphismMatrix} → Arrow (closure_data T) a b f → Arrow (closure_data T) a b g
      → joined ((closure_data T).add f g).entries ≡ row_sum T.prime (sum_list (widths_of T a b)) (joined f.entries) (joined g.entries)
  nu-add {a} {b} {f} {g} p q =
      let S = add-arrow V p q in
      joined-sum (matrix-rows p) (matrix-rows q) (matrix-rows S)
      (λ k lt.
      let n = length b in
      let inside : k < length a * n = omega (arith, lt, widths-many T a b) in
      let some : 0 < n = some_below k (length a) n inside in
      let i = k / n in
      let j = k % n in
      let hi : i < length a = div_below k n (length a) some inside in
      let hj : j < n = mod_below k n some in
      let sum = λ (w : ℕ) (x y : List ℕ). row_by w (λ c. (get_or x c 0 + get_or y c 0) % T.prime) in
      place-row S k inside ∙ ap (λ (c : Combination). c.coefficients) (add-entry V p q i j hi hj)
      ∙ ap (λ (z : List ℕ). sum (width_of T (get_or z i 0) (get_or f.to j 0)) (entry_of f i j).coefficients (entry_of g i j).coefficients) p.from
      ∙ ap (λ (z : List ℕ). sum (width_of T (get_or a i 0) (get_or z j 0)) (entry_of f i j).coefficients (entry_of g i j).coefficients) p.to
      ∙ ap (λ w. sum w (entry_of f i j).coefficients (entry_of g i j).coefficients) (sym (width-at T a b k inside))
      ∙ ap (λ x. sum (get_or (widths_of T a b) k 0) x (entry_of g i j).coefficients) (sym (place-row p k inside))
      ∙ ap (λ y. sum (get_or (widths_of T a b) k 0) (get_or f.entries k []) y) (sym (place-row q k inside)))

  nu-scale : {a b : List ℕ} {f : MorphismMatrix} (m : ℕ) → Arrow (closure_data T) a b f → joined ((closure_data T).scale m f).entries ≡ row_scaled T.prime (sum_list (widths_of T a b)) m (joined f.entries)
  nu-scale {a} {b} {f} m p =
      let S = scale-arrow V m p in
      joined-scaled m (matrix-rows p) (matrix-rows S)
      (λ k lt.
      let n = length b in
      let inside : k < length a * n = omega (arith, lt, widths-many T a b) in
      let some : 0 < n = some_below k (length a) n inside in
      let i = k / n in
      let j = k % n in
      let hi : i < length a = div_below k n (length a) some inside in
      let hj : j < n = mod_below k n some in
      let times = λ (w : ℕ) (x : List ℕ). row_by w (λ c. m * get_or x c 0 % T.prime) in
      place-row S k inside ∙ ap (λ (c : Combination). c.coefficients) (scale-entry V m p i j hi hj)
      ∙ ap (λ (z : List ℕ). times (width_of T (get_or z i 0) (get_or f.to j 0)) (entry_of f i j).coefficients) p.from
      ∙ ap (λ (z : List ℕ). times (width_of T (get_or a i 0) (get_or z j 0)) (entry_of f i j).coefficients) p.to
      ∙ ap (λ w. times w (entry_of f i j).coefficients) (sym (width-at T a b k inside))
      ∙ ap (λ x. times (get_or (widths_of T a b) k 0) x) (sym (place-row p k inside)))

  -- the lists of one object generate
  one-object : (n : ℕ) → n < T.objects → AreObjects T (n ∷ [])
  one-object n lt = record { each = only }
    where
      only : (i : ℕ) → i < length (n ∷ []) → get_or (n ∷ []) i 0 < T.objects
      only zero h = lt
      only (suc i) h = absurd (omega (arith, h))

  generated : (a : List ℕ) → AreObjects T a → IsSumOf (closure_data T) (IsGenerator (closure_hom T)) a
  generated [] A = empty (empty-is-zero V)
  generated (x ∷ a) A =
      let lt : x < T.objects = A.each 0 (omega arith) in
      let rest : AreObjects T a = record { each = λ i h. A.each (suc i) (omega (arith, h)) } in
      more (sum-is V (one-object x lt) rest) (record { number = x; below = lt; is = refl }) (generated a rest)

  pub closure-is-hom : IsHom (closure_data T) (closure_hom T)
  closure-is-hom = record {
    nu_row = λ p. joined-residues (matrix-rows p);
    back_arrow = λ {a} {b} {row} A B R. rows-matrix A B (cut-rows T.prime (widths_of T a b) row R);
    nu_back = λ {a} {b} {row} A B R. joined-cut T.prime (widths_of T a b) row R;
    nu_same = λ s. ap (λ (z : MorphismMatrix). joined z.entries) s.congruent;
    same_nu = λ p q e. same-matrix p q (joined-same (matrix-rows p) (matrix-rows q) e);
    nu_add = λ p q. nu-add p q;
    nu_scale = λ m p. nu-scale m p;
    generator_object = one-object;
    generated = generated;
  }
