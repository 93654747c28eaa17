-- The entries of a matrix, one after another.
use Rattle.std.proofs.Common.{◌≡◌, ℕ, ◌+◌, ◌*◌, ◌/◌, ◌%◌, ◌<◌, List, [], length, get_or, ap, ◌∙◌, subst, arith}
use Rattle.cap_laws.specs.Linear.{Arrow}
use Rattle.cap_laws.specs.Table.{TableData, table_data, width_of, row_below}
use Rattle.cap_homlaw.specs.Rows.{AreResidues}
use Rattle.cap_add_laws.specs.Closure.{MorphismMatrix, entry_of, closure_data}
use Rattle.cap_add_laws.proofs.Joined.{rows-at}
use Rattle.cap_add_laws.proofs.Structure.{widths-many, width-at, place-row, matrix-rows}

module _ {T : TableData} {a b : List ℕ} {f : MorphismMatrix} (p : Arrow (closure_data T) a b f) where
  pub places-many : length f.entries ≡ length a * length b
  places-many = p.is.many ∙ ap (λ (z : List ℕ). length z * length f.to) p.from ∙ ap (λ (z : List ℕ). length a * length z) p.to

  -- the k-th entry is a row of residues of its width
  pub place-residues : (k : ℕ) → k < length a * length b → AreResidues T.prime (width_of T (get_or a (k / length b) 0) (get_or b (k % length b) 0)) (get_or f.entries k [])
  place-residues k lt = subst (λ w. AreResidues T.prime w (get_or f.entries k [])) (width-at T a b k lt) (rows-at (matrix-rows p) k (omega (arith, lt, widths-many T a b)))

-- the k-th entry of a sum, and of a multiple
pub sum-place : {T : TableData} {f g : MorphismMatrix} → Arrow (closure_data T) f.from f.to f → Arrow (closure_data T) f.from f.to g → (k : ℕ) → k < length f.entries → (row : List ℕ)
    → row ≡ row_below (length (get_or f.entries k [])) (λ c. (get_or (get_or f.entries k []) c 0 + get_or (get_or g.entries k []) c 0) % T.prime)
    → row ≡ ((table_data T).add (entry_of f (k / length f.to) (k % length f.to)) (entry_of g (k / length f.to) (k % length f.to))).coefficients
sum-place {T} {f} {g} p q k lt row e =
    let inside : k < length f.from * length f.to = omega (arith, lt, places-many p) in
    let sum = λ (w : ℕ) (x y : List ℕ). row_below w (λ c. (get_or x c 0 + get_or y c 0) % T.prime) in
    e ∙ ap (λ w. sum w (get_or f.entries k []) (get_or g.entries k [])) (place-residues p k inside).long
    ∙ ap (λ x. sum (width_of T (get_or f.from (k / length f.to) 0) (get_or f.to (k % length f.to) 0)) x (get_or g.entries k [])) (place-row p k inside)
    ∙ ap (λ y. sum (width_of T (get_or f.from (k / length f.to) 0) (get_or f.to (k % length f.to) 0)) (entry_of f (k / length f.to) (k % length f.to)).coefficients y) (place-row q k inside)

pub multiple-place : {T : TableData} {f : MorphismMatrix} → Arrow (closure_data T) f.from f.to f → (n k : ℕ) → k < length f.entries → (row : List ℕ)
    → row ≡ row_below (length (get_or f.entries k [])) (λ c. n * get_or (get_or f.entries k []) c 0 % T.prime)
    → row ≡ ((table_data T).scale n (entry_of f (k / length f.to) (k % length f.to))).coefficients
multiple-place {T} {f} p n k lt row e =
    let inside : k < length f.from * length f.to = omega (arith, lt, places-many p) in
    let times = λ (w : ℕ) (x : List ℕ). row_below w (λ c. n * get_or x c 0 % T.prime) in
    e ∙ ap (λ w. times w (get_or f.entries k [])) (place-residues p k inside).long
    ∙ ap (λ x. times (width_of T (get_or f.from (k / length f.to) 0) (get_or f.to (k % length f.to) 0)) x) (place-row p k inside)
