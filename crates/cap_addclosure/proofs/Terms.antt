-- The sum of the products of a row and a column, one term after another.
use Rattle.std.proofs.Common.{◌≡◌, ℕ, suc, ◌+◌, ◌*◌, ◌%◌, ◌<◌, ◌≤◌, List, length, get_or, refl, sym, ap, ◌∙◌, subst, arith}
use Rattle.std.proofs.Math.Nat.{mod-eq_of_lt, zero-add}
use Rattle.std.proofs.lemmas.List.{ext_get_or}
use Rattle.cap_laws.specs.Linear.{Arrow}
use Rattle.cap_laws.specs.Table.{TableData, Combination, IsTable, IsRow, table_data, width_of, hom_of, total_below, row_below}
use Rattle.std.proofs.lemmas.List.FromFn.{length-map-range_with_len, get_or-map-range_with_len}
use Rattle.cap_add_laws.specs.Closure.{MorphismMatrix, IsMorphismMatrix, entry_of, sum_below, closure_data}
use Rattle.cap_add_laws.proofs.Sums.{sum-arrow}
use Rattle.cap_add_laws.proofs.Linear.{term-arrow}
use Rattle.cap_addclosure.proofs.Combined.{last-mod}

row-at : (n : ℕ) (f : ℕ → ℕ) (k : ℕ) → k < n → get_or (row_below n f) k 0 ≡ f k
row-at n f k lt = get_or-map-range_with_len f 0 n k k 0 lt (zero-add k)

module _ {T : TableData} (V : IsTable T) (f g : MorphismMatrix) (F : IsMorphismMatrix T f) (G : IsMorphismMatrix T g) (meet : f.to ≡ g.from) (i k : ℕ) (hi : i < length f.from) (hk : k < length g.to) where
  p-arrow : Arrow (closure_data T) f.from f.to f
  p-arrow = record { is = F; from = refl; to = refl }

  q-arrow : Arrow (closure_data T) f.to g.to g
  q-arrow = record { is = G; from = sym meet; to = refl }

  abbrev pub term : ℕ → Combination
  term j = (table_data T).compose (entry_of f i j) (entry_of g j k)

  abbrev pub so_far : ℕ → Combination
  so_far n = sum_below (table_data T) (get_or f.from i 0) (get_or g.to k 0) n term

  pub so-far-arrow : (n : ℕ) → n ≤ length f.to → Arrow (table_data T) (get_or f.from i 0) (get_or g.to k 0) (so_far n)
  so-far-arrow n le = sum-arrow V.linear (get_or f.from i 0) (get_or g.to k 0) (F.from.each i hi) (G.to.each k hk) n term (λ j lt. term-arrow V p-arrow q-arrow i j k hi (omega (arith, lt, le)) hk)

  -- the row of the sum so far
  pub so-far-row : (n : ℕ) → n ≤ length f.to → IsRow T (get_or f.from i 0) (get_or g.to k 0) (so_far n).coefficients
  so-far-row n le =
      let p = so-far-arrow n le in
      subst (λ y. IsRow T (get_or f.from i 0) y (so_far n).coefficients) p.to (subst (λ x. IsRow T x (so_far n).to (so_far n).coefficients) p.from p.is.row)

  -- with one term more
  pub so-far-next : (j : ℕ) → j < length f.to → (old new : List ℕ) → old ≡ (so_far j).coefficients → length new ≡ length old
      → ((q : ℕ) → q < length old → get_or new q 0 ≡ (get_or old q 0 + total_below (width_of T (get_or f.from i 0) (get_or f.to j 0)) (λ a. total_below (width_of T (get_or f.to j 0) (get_or g.to k 0)) (λ b.
      get_or (entry_of f i j).coefficients a 0 * get_or (entry_of g j k).coefficients b 0 * get_or (T.product (get_or (hom_of T (get_or f.from i 0) (get_or f.to j 0)) a 0) (get_or (hom_of T (get_or f.to j 0) (get_or g.to k 0)) b 0)) q 0))) % T.prime)
      → new ≡ (so_far (j + 1)).coefficients
  so-far-next j lt old new e long h =
      let x = get_or f.from i 0 in
      let z = get_or g.to k 0 in
      let p = T.prime in
      let le : j ≤ length f.to = omega (arith, lt) in
      let R = so-far-row j le in
      let P = so-far-arrow j le in
      let u = (entry_of f i j).coefficients in
      let v = (entry_of g j k).coefficients in
      let inner = λ (y q : ℕ). total_below (width_of T x (get_or f.to j 0)) (λ a. total_below (width_of T y z) (λ b.
      get_or u a 0 * get_or v b 0 * get_or (T.product (get_or (hom_of T x (get_or f.to j 0)) a 0) (get_or (hom_of T y z) b 0)) q 0)) in
      let same : get_or g.from j 0 ≡ get_or f.to j 0 = ap (λ (l : List ℕ). get_or l j 0) (sym meet) in
      let w : width_of T (so_far j).from (so_far j).to ≡ width_of T x z = ap (λ n. width_of T n (so_far j).to) P.from ∙ ap (λ n. width_of T x n) P.to in
      let wide : length old ≡ width_of T x z = ap (λ (l : List ℕ). length l) e ∙ R.long in
      let whole = λ (q : ℕ). (get_or (so_far j).coefficients q 0 + get_or (term j).coefficients q 0) % p in
      let last : so_far (suc j) ≡ so_far (j + 1) = ap so_far (let d : suc j ≡ j + 1 = omega arith in d) in
      ext_get_or 0 new (row_below (width_of T (so_far j).from (so_far j).to) whole)
      (long ∙ wide ∙ sym (length-map-range_with_len whole 0 (width_of T (so_far j).from (so_far j).to) ∙ w))
      (λ q below.
      let inside : q < width_of T x z = omega (arith, below, long, wide) in
      let small : get_or old q 0 % p ≡ get_or old q 0 = mod-eq_of_lt (subst (λ (l : List ℕ). get_or l q 0 < p) (sym e) (R.residues q (omega (arith, inside, R.long)))) in
      h q (omega (arith, below, long))
      ∙ last-mod p (get_or old q 0) (inner (get_or f.to j 0) q) small
      ∙ ap (λ n. (get_or old q 0 + n) % p) (ap (λ y. inner y q % p) (sym same) ∙ sym (row-at (width_of T x z) (λ q. inner (get_or g.from j 0) q % p) q inside))
      ∙ ap (λ (l : List ℕ). (get_or l q 0 + get_or (term j).coefficients q 0) % p) e
      ∙ sym (row-at (width_of T (so_far j).from (so_far j).to) whole q (omega (arith, inside, w))))
      ∙ ap (λ (c : Combination). c.coefficients) last
