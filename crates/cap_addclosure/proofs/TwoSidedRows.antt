-- The entries of products from both sides with one basis element.
use Rattle.std.proofs.Common.{◌≡◌, ℕ, ◌+◌, ◌*◌, ◌/◌, ◌%◌, ◌<◌, List, ◌++◌, length, get_or, take, refl, sym, ap, ◌∙◌, subst, arith}
use Rattle.std.proofs.lemmas.Nat.{div_below, mod_below}
use Rattle.std.proofs.Math.Nat.{div-add-mod'}
use Rattle.cap_matrix.specs.Grid.{matrix_by}
use Rattle.cap_matrix.specs.Buffer.{matrix_of}
use Rattle.cap_matrix.proofs.Writes.{some_below}
use Rattle.cap_matrix.proofs.Buffers.{each_place}
use Rattle.cap_matrix.proofs.Filled.{filled_matrix}
use Rattle.cap_laws.specs.Linear.{Arrow}
use Rattle.cap_field.proofs.Fermat.{tabled_range}
use Rattle.cap_laws.specs.Table.{TableData, Combination, IsTable, IsRow, table_data, width_of}
use Rattle.cap_homlaw.specs.Rows.{AreResidues, unit_row}
use Rattle.cap_homlaw.proofs.Rows.{unit-residues}
use Rattle.cap_add_laws.proofs.Entries.{entry-arrow}
use Rattle.cap_homlaw.specs.Hom.{basis_of}
use Rattle.cap_add_laws.specs.Closure.{MorphismMatrix, IsMorphismMatrix, entry_of, closure_data, closure_hom, widths_of, sum_list, joined}
use Rattle.cap_add_laws.proofs.Joined.{joined-residues}
use Rattle.cap_add_laws.proofs.Structure.{matrix-rows, widths-many, width-at, closure-is-hom}
use Rattle.cap_add_laws.proofs.Linear.{compose-arrow}
use Rattle.cap_addclosure.specs.TwoSided.{element_at, two_sided, IsStack}
use Rattle.cap_addclosure.proofs.OneElement.{two-sided-is, two-sided-arrow}
use Rattle.cap_addclosure.proofs.Stacks.{stack-append, stack-one, stack-same}
use Rattle.cap_addclosure.proofs.Widths.{sum-next}

abbrev pub two_sided_piece : TableData → MorphismMatrix → MorphismMatrix → ℕ → ℕ → ℕ → ℕ → ℕ → Combination
two_sided_piece T l r i j t u v = (table_data T).compose ((table_data T).compose (entry_of l u i) (element_at T (get_or l.to i 0) (get_or r.from j 0) t)) (entry_of r j v)

module _ {T : TableData} (V : IsTable T) (l r : MorphismMatrix) (F : IsMorphismMatrix T l) (G : IsMorphismMatrix T r) where
  p : Arrow (closure_data T) l.from l.to l
  p = record { is = F; from = refl; to = refl }

  q : Arrow (closure_data T) r.from r.to r
  q = record { is = G; from = refl; to = refl }

  abbrev pub row_at : ℕ → List ℕ
  row_at k = joined ((closure_data T).compose ((closure_data T).compose l (basis_of (closure_hom T) l.to r.from k)) r).entries

  -- a row more for one place
  pub rows-more : (i j t : ℕ) → i < length l.to → j < length r.from → t < width_of T (get_or l.to i 0) (get_or r.from j 0) → (rows row : List ℕ)
      → IsStack t (sum_list (widths_of T l.from r.to)) (λ t. joined (two_sided T l r i j t).entries) rows → row ≡ joined (two_sided T l r i j t).entries
      → IsStack (t + 1) (sum_list (widths_of T l.from r.to)) (λ t. joined (two_sided T l r i j t).entries) (rows ++ row)
  rows-more i j t hi hj ht rows row X e =
      stack-append X (stack-one {R = λ k. joined (two_sided T l r i j (t + k)).entries} (ap (λ (z : List ℕ). length z) e ∙ (joined-residues (matrix-rows (two-sided-arrow V l r p q i j t hi hj ht))).long)
      (e ∙ ap (λ n. joined (two_sided T l r i j n).entries) (let d : t ≡ t + 0 = omega arith in d)))

  -- the rows of a place more
  pub places-more : (k : ℕ) → k < length l.to * length r.from → (cells rows : List ℕ)
      → IsStack (sum_list (take k (widths_of T l.to r.from))) (sum_list (widths_of T l.from r.to)) row_at cells
      → IsStack (width_of T (get_or l.to (k / length r.from) 0) (get_or r.from (k % length r.from) 0)) (sum_list (widths_of T l.from r.to)) (λ t. joined (two_sided T l r (k / length r.from) (k % length r.from) t).entries) rows
      → IsStack (sum_list (take (k + 1) (widths_of T l.to r.from))) (sum_list (widths_of T l.from r.to)) row_at (cells ++ rows)
  places-more k lt cells rows X Y =
      let n = length r.from in
      let ws = widths_of T l.to r.from in
      let some : 0 < n = some_below k (length l.to) n lt in
      let i = k / n in
      let j = k % n in
      let hi : i < length l.to = div_below k n (length l.to) some lt in
      let hj : j < n = mod_below k n some in
      let w = width_of T (get_or l.to i 0) (get_or r.from j 0) in
      let same = λ (t : ℕ) (ht : t < w). sym (ap (λ m. row_at (sum_list (take m ws) + t)) (sym (div-add-mod' k n)) ∙ ap (λ (z : MorphismMatrix). joined z.entries) (two-sided-is V l r p q i j t hi hj ht)) in
      subst (λ m. IsStack m (sum_list (widths_of T l.from r.to)) row_at (cells ++ rows))
      (ap (λ m. sum_list (take k ws) + m) (sym (width-at T l.to r.from k lt)) ∙ sym (sum-next ws k (omega (arith, lt, widths-many T l.to r.from))))
      (stack-append X (stack-same {S = λ t. row_at (sum_list (take k ws) + t)} Y same))

-- the rows of an element, and of a product with it
pub element-row : {T : TableData} (V : IsTable T) (x y t : ℕ) → IsRow T x y (unit_row (width_of T x y) t)
element-row {T} V x y t =
    let R = unit-residues T.prime (width_of T x y) t (tabled_range T.prime V.linear.prime_tabled).0 in
    record { long = R.long; residues = λ k lt. R.residues k (omega (arith, lt, R.long)) }

pub left-row : {T : TableData} (V : IsTable T) (l r : MorphismMatrix) → IsMorphismMatrix T l → IsMorphismMatrix T r → (u i j t : ℕ) → u < length l.from → i < length l.to → j < length r.from
    → IsRow T (get_or l.from u 0) (get_or r.from j 0) ((table_data T).compose (entry_of l u i) (element_at T (get_or l.to i 0) (get_or r.from j 0) t)).coefficients
left-row {T} V l r F G u i j t hu hi hj =
    let p : Arrow (closure_data T) l.from l.to l = record { is = F; from = refl; to = refl } in
    let e : Arrow (table_data T) (get_or l.to i 0) (get_or r.from j 0) (element_at T (get_or l.to i 0) (get_or r.from j 0) t)
    = record { is = record { from = F.to.each i hi; to = G.from.each j hj; row = element-row V (get_or l.to i 0) (get_or r.from j 0) t }; from = refl; to = refl } in
    (V.linear.compose_arrow (entry-arrow p u i hu hi) e).is.row

-- the buffer of a stack as a matrix, and its cells
pub stack-matrix : (p n m k l : ℕ) (R : ℕ → List ℕ) (cells : List ℕ) → n ≡ k → m ≡ l → IsStack k l R cells → matrix_of p n m cells ≡ matrix_by p k l (λ i j. get_or (R i) j 0)
stack-matrix p n m k l R cells en em X =
    filled_matrix p p n k m l cells cells (λ i j. get_or (R i) j 0) refl en em refl
    (record { at = λ i j lt below. ap (λ w. get_or cells (i * w + j) 0) em ∙ X.at i j (omega (arith, lt, en)) (omega (arith, below, em)) })

pub stack-residues : (p n m : ℕ) (R : ℕ → List ℕ) (cells : List ℕ) → IsStack n m R cells → ((i : ℕ) → AreResidues p m (R i)) → (k : ℕ) → k < n * m → get_or cells k 0 < p
stack-residues p n m R cells X h = each_place n m (λ k. get_or cells k 0 < p) (λ i j lt below. subst (λ q. q < p) (sym (X.at i j lt below)) ((h i).residues j below))

pub row-residues : {T : TableData} (V : IsTable T) (l r : MorphismMatrix) (F : IsMorphismMatrix T l) (G : IsMorphismMatrix T r) (k : ℕ) → AreResidues T.prime (sum_list (widths_of T l.from r.to)) (row_at V l r F G k)
row-residues {T} V l r F G k =
    let p : Arrow (closure_data T) l.from l.to l = record { is = F; from = refl; to = refl } in
    let q : Arrow (closure_data T) r.from r.to r = record { is = G; from = refl; to = refl } in
    let e = (closure-is-hom V).back_arrow F.to G.from (unit-residues T.prime (sum_list (widths_of T l.to r.from)) k (tabled_range T.prime V.linear.prime_tabled).0) in
    (closure-is-hom V).nu_row (compose-arrow V (compose-arrow V p e) q)
