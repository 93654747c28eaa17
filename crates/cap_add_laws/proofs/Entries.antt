-- Matrices of combinations, entry by entry.
use Rattle.std.proofs.Common.{◌≡◌, ℕ, ◌+◌, ◌*◌, ◌/◌, ◌%◌, ◌<◌, List, [], length, get_or, refl, sym, ap, ◌∙◌, subst, arith}
use Rattle.std.proofs.lemmas.Nat.{div-mul-add, mod-mul-add, mul-add-lt, div_below, mod_below}
use Rattle.std.proofs.Math.Nat.{div-add-mod', zero-add}
use Rattle.std.proofs.lemmas.List.{ext_get_or}
use Rattle.std.proofs.lemmas.List.FromFn.{length-map-range_with_len, get_or-map-range_with_len}
use Rattle.cap_matrix.proofs.Writes.{some_below}
use Rattle.cap_laws.specs.Linear.{Arrow}
use Rattle.cap_laws.specs.Table.{TableData, Combination, IsRow, table_data}
use Rattle.cap_add_laws.specs.Closure.{MorphismMatrix, entry_of, morphism_by, AreObjects, closure_data}

-- the entries of a matrix by a formula
pub length-by : (a b : List ℕ) (F : ℕ → ℕ → Combination) → length (morphism_by a b F).entries ≡ length a * length b
length-by a b F = length-map-range_with_len (λ k. (F (k / length b) (k % length b)).coefficients) 0 (length a * length b)

pub row-by : (a b : List ℕ) (F : ℕ → ℕ → Combination) (i j : ℕ) → i < length a → j < length b → get_or (morphism_by a b F).entries (i * length b + j) [] ≡ (F i j).coefficients
row-by a b F i j lt below =
    let n = length b in
    get_or-map-range_with_len (λ k. (F (k / n) (k % n)).coefficients) 0 (length a * n) (i * n + j) (i * n + j) [] (omega (arith, mul-add-lt i n j (length a) lt below)) (zero-add (i * n + j))
    ∙ ap (λ q. (F q ((i * n + j) % n)).coefficients) (div-mul-add i n j below)
    ∙ ap (λ r. (F i r).coefficients) (mod-mul-add i n j below)

same-combination : {x y : ℕ} {f : Combination} (row : List ℕ) → f.from ≡ x → f.to ≡ y → row ≡ f.coefficients → record { from = x; to = y; coefficients = row } ≡ f
same-combination {x} {y} {f} row e d r =
    ap (λ (z : ℕ). record { from = z; to = y; coefficients = row }) (sym e)
    ∙ ap (λ (z : ℕ). record { from = f.from; to = z; coefficients = row }) (sym d)
    ∙ ap (λ (z : List ℕ). record { from = f.from; to = f.to; coefficients = z }) r

abbrev make : List ℕ → List ℕ → List (List ℕ) → MorphismMatrix
make a b e = record { from = a; to = b; entries = e }

module _ {T : TableData} where
  -- its entries are arrows of the table's combinations
  pub entry-arrow : {a b : List ℕ} {f : MorphismMatrix} → Arrow (closure_data T) a b f → (i j : ℕ) → i < length a → j < length b → Arrow (table_data T) (get_or a i 0) (get_or b j 0) (entry_of f i j)
  entry-arrow {a} {b} {f} p i j lt below =
      let lt' : i < length f.from = subst (λ (z : List ℕ). i < length z) (sym p.from) lt in
      let below' : j < length f.to = subst (λ (z : List ℕ). j < length z) (sym p.to) below in
      record {
        is = record { from = p.is.from.each i lt'; to = p.is.to.each j below'; row = p.is.rows i j lt' below' };
        from = ap (λ (z : List ℕ). get_or z i 0) p.from;
        to = ap (λ (z : List ℕ). get_or z j 0) p.to;
      }

  -- a matrix whose entries are such arrows
  pub by-arrow : (a b : List ℕ) (F : ℕ → ℕ → Combination) → AreObjects T a → AreObjects T b → ((i j : ℕ) → i < length a → j < length b → Arrow (table_data T) (get_or a i 0) (get_or b j 0) (F i j)) → Arrow (closure_data T) a b (morphism_by a b F)
  by-arrow a b F A B h = record {
    is = record {
      from = A;
      to = B;
      many = length-by a b F;
      rows = λ i j lt below.
          let e = h i j lt below in
          subst (λ r. IsRow T (get_or a i 0) (get_or b j 0) r) (sym (row-by a b F i j lt below))
          (subst (λ y. IsRow T (get_or a i 0) y (F i j).coefficients) e.to (subst (λ x. IsRow T x (F i j).to (F i j).coefficients) e.from e.is.row));
    };
    from = refl;
    to = refl;
  }

  -- and they are its entries
  pub by-entry : (a b : List ℕ) (F : ℕ → ℕ → Combination) (i j : ℕ) → i < length a → j < length b → Arrow (table_data T) (get_or a i 0) (get_or b j 0) (F i j) → entry_of (morphism_by a b F) i j ≡ F i j
  by-entry a b F i j lt below p = same-combination (get_or (morphism_by a b F).entries (i * length b + j) []) p.from p.to (row-by a b F i j lt below)

  -- a matrix is fixed by its entries
  pub matrix-ext : {a b : List ℕ} {f g : MorphismMatrix} → Arrow (closure_data T) a b f → Arrow (closure_data T) a b g → ((i j : ℕ) → i < length a → j < length b → entry_of f i j ≡ entry_of g i j) → f ≡ g
  matrix-ext {a} {b} {f} {g} p q h =
      let from : f.from ≡ g.from = p.from ∙ sym q.from in
      let to : f.to ≡ g.to = p.to ∙ sym q.to in
      let lf : length f.entries ≡ length a * length b = p.is.many ∙ ap (λ (z : List ℕ). length z * length f.to) p.from ∙ ap (λ (z : List ℕ). length a * length z) p.to in
      let lg : length g.entries ≡ length a * length b = q.is.many ∙ ap (λ (z : List ℕ). length z * length g.to) q.from ∙ ap (λ (z : List ℕ). length a * length z) q.to in
      let same : f.entries ≡ g.entries = ext_get_or [] f.entries g.entries (lf ∙ sym lg)
      (λ k lt.
      let n = length b in
      let inside : k < length a * n = omega (arith, lt, lf) in
      let some : 0 < n = some_below k (length a) n inside in
      let i = k / n in
      let j = k % n in
      let at : i * n + j ≡ k = div-add-mod' k n in
      let e = h i j (div_below k n (length a) some inside) (mod_below k n some) in
      let nf : length f.to ≡ n = ap (λ (z : List ℕ). length z) p.to in
      let ng : length g.to ≡ n = ap (λ (z : List ℕ). length z) q.to in
      sym (ap (λ m. get_or f.entries (i * m + j) []) nf ∙ ap (λ m. get_or f.entries m []) at)
      ∙ ap (λ (c : Combination). c.coefficients) e
      ∙ (ap (λ m. get_or g.entries (i * m + j) []) ng ∙ ap (λ m. get_or g.entries m []) at)) in
      ap (λ z. make z f.to f.entries) from ∙ ap (λ z. make g.from z f.entries) to ∙ ap (λ z. make g.from g.to z) same
