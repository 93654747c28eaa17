-- Sums of the widths of entries.
use Rattle.std.proofs.Common.{Bool, ◌==◌, ◌&&◌, ◌≡◌, ℕ, zero, suc, ◌+◌, ◌<◌, ◌≤◌, List, [], ◌∷◌, length, get_or, take, filter, ap, ◌∙◌, arith}
use Rattle.std.proofs.Math.Seq.{take-length}
use Rattle.std.specs.List.{range_with_len}
use Rattle.std.proofs.lemmas.List.Sums.{length-filter, count_by-le-length}
use Rattle.std.proofs.lemmas.List.FromFn.{length-range_with_len}
use Rattle.cap_laws.specs.Table.{TableData, IsTable, width_of, ends_of}
use Rattle.cap_add_laws.specs.Closure.{sum_list}

pub sum-next : (ws : List ℕ) (k : ℕ) → k < length ws → sum_list (take (k + 1) ws) ≡ sum_list (take k ws) + get_or ws k 0
sum-next ws k lt = ap (λ n. sum_list (take n ws)) (let e : k + 1 ≡ suc k = omega arith in e) ∙ next ws k lt
  where
    next : (ws : List ℕ) (k : ℕ) → k < length ws → sum_list (take (suc k) ws) ≡ sum_list (take k ws) + get_or ws k 0
    next [] k lt = absurd (omega (arith, lt))
    next (w ∷ ws) zero lt = omega arith
    next (w ∷ ws) (suc k) lt = omega (arith, next ws k (omega (arith, lt)))

pub sum-all : (ws : List ℕ) → sum_list (take (length ws) ws) ≡ sum_list ws
sum-all ws = ap sum_list (take-length ws)

kept-few : {X : Type 0} (p : X → Bool) (xs : List X) → length (filter p xs) ≤ length xs
kept-few p xs = omega (arith, length-filter p xs, count_by-le-length p xs)

pub width-few : {T : TableData} → IsTable T → (x y : ℕ) → width_of T x y ≤ 128
width-few {T} V x y = omega (arith, kept-few (λ b. ((ends_of T b).0 == x) && ((ends_of T b).1 == y)) (range_with_len 0 (length T.basis)), length-range_with_len 0 (length T.basis), V.few_elements)
