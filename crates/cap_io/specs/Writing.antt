-- What a sink tells of the bytes written, and what a call adds to them.
use Rattle.std.specs.Prelude.{◌≡◌, ℕ, List, ◌++◌, take, Option, Some, None, Result, MatchResult}

-- the bytes stand behind what was written before, where that is still told; what was not told before is not told after
abbrev pub Adds : Option (List ℕ) → Option (List ℕ) → List ℕ → Type 0
Adds None None bytes = Unit {0}
Adds None (Some ys) bytes = ⊥
Adds (Some xs) None bytes = Unit {0}
Adds (Some xs) (Some ys) bytes = ys ≡ xs ++ bytes

-- the first bytes of these were added, and the rest were not
pub record AddsFront (before after : Option (List ℕ)) (bytes : List ℕ) : Type 0 where
  pub front : List ℕ
  pub rest : List ℕ
  pub parts : bytes ≡ front ++ rest
  pub added : Adds before after front

-- the answer of one call: the number of bytes added from the front, or a fault and what is told stays
abbrev pub GiveAdds : {E : Type 0} → Option (List ℕ) → Option (List ℕ) → Result ℕ E → List ℕ → Type 0
GiveAdds before after r bytes = MatchResult r (λ n. Adds before after (take n bytes)) (λ _. after ≡ before)

-- the answer for a whole text: all of it was added, or its front
abbrev pub WriteAdds : {A E : Type 0} → Option (List ℕ) → Option (List ℕ) → Result A E → List ℕ → Type 0
WriteAdds before after r bytes = MatchResult r (λ _. Adds before after bytes) (λ _. AddsFront before after bytes)
