-- The sizes that the calls of the additive closure meet.
use Rattle.std.specs.Prelude.{◌≡◌, ◌⊎◌, ℕ, List, ◌++◌, length}
use Rattle.cap_laws.specs.Answers.{Size, numbers}
use Rattle.cap_laws.specs.Table.{TableData}
use Rattle.cap_add_laws.specs.Closure.{MorphismMatrix, widths_of, sum_list}
use Rattle.cap_homlaw.specs.Meets.{HomMeets}

-- the size of a matrix of combinations from a to b: its parts, and the coefficients of all its entries
abbrev pub closure_size : TableData → List ℕ → List ℕ → Size
closure_size T a b = record { rows = length a; columns = length b; cells = sum_list (widths_of T a b) }

-- the four morphisms of a direct sum
abbrev pub IsSizeInSum : TableData → List ℕ → List ℕ → Size → Type 0
IsSizeInSum T a b s =
    ((s ≡ closure_size T a (a ++ b)) ⊎ (s ≡ closure_size T b (a ++ b))) ⊎ ((s ≡ closure_size T (a ++ b) a) ⊎ (s ≡ closure_size T (a ++ b) b))

-- the two factors of products from both sides, and the matrix of them
abbrev pub IsSizeInFactors : TableData → MorphismMatrix → MorphismMatrix → Size → Type 0
IsSizeInFactors T l r s =
    ((s ≡ closure_size T l.from l.to) ⊎ (s ≡ closure_size T r.from r.to)) ⊎ (s ≡ numbers (sum_list (widths_of T l.to r.from)) (sum_list (widths_of T l.from r.to)))

-- a row of coefficients meets its matrix, and h its two factors and the matrix that it answers
abbrev pub closure_meets : TableData → HomMeets (List ℕ) MorphismMatrix
closure_meets T = record {
  generator = λ n s. ⊥;
  nu = λ f s. s ≡ closure_size T f.from f.to;
  back = λ a b row s. s ≡ closure_size T a b;
  h = λ l r s. IsSizeInFactors T l r s;
}
