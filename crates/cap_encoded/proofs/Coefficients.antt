-- The coefficients of entries are as many as those of the entries one after another.
use Rattle.std.proofs.Common.{◌≡◌, ℕ, ◌+◌, List, [], ◌∷◌, length, refl, sym, ap, ◌∙◌, length-append}
use Rattle.std.proofs.lemmas.List.Sums.{sum_by-cons}
use Rattle.cap_add_laws.specs.Closure.{joined}
use Rattle.cap_data.specs.Cells.{coefficients}

pub coefficients-joined : (xs : List (List ℕ)) → coefficients xs ≡ length (joined xs)
coefficients-joined [] = refl
coefficients-joined (x ∷ xs) = sum_by-cons length x xs ∙ ap (λ n. length x + n) (coefficients-joined xs) ∙ sym (length-append x (joined xs))
