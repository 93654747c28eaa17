-- The elements of a list, each once, in order of first mention.
use Rattle.std.specs.Prelude.{ℕ, ◌==◌, if◌then◌else◌, Bool, List, [], ◌∷◌}
use Rattle.std.specs.List.{list_any}

module _ {A : Type 0} (number : A → ℕ) where
  -- whether an element with the same number is among these
  abbrev pub is_among : List A → A → Bool
  is_among xs x = list_any (λ y. number y == number x) xs

  -- the elements of the second list that are not among the first, each once, in order of first mention; elements are told apart by their numbers
  abbrev pub once : List A → List A → List A
  once seen [] = []
  once seen (x ∷ xs) = if is_among seen x then once seen xs else x ∷ once (x ∷ seen) xs
