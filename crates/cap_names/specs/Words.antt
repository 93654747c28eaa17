-- The texts of words, numbers and marks.
use Rattle.std.specs.Prelude.{◌≡◌, ℕ, ◌-◌, ◌<◌, ◌≤◌, List, [], ◌∷◌, ◌++◌, length, take, replicate, slice_index, codes, Bool, true, ◌==◌, ◌||◌}
use Rattle.std.specs.List.{AllPass}
use Rattle.std.specs.Char.{is_ascii_digit, is_ascii_alphabetic}

-- a letter, a digit or _
abbrev pub is_word_byte : ℕ → Bool
is_word_byte b = is_ascii_alphabetic b || is_ascii_digit b || b == 95

-- a word: 1 to 32 letters, digits and _, of which the first is a letter
pub record IsWord (bs : List ℕ) : Type 0 where
  pub some : 0 < length bs
  pub within : length bs ≤ 32
  pub letter : is_ascii_alphabetic (slice_index bs 0) ≡ true
  pub all : AllPass is_word_byte bs

-- a number: 1 to 16 digits
pub record IsNumber (bs : List ℕ) : Type 0 where
  pub some : 0 < length bs
  pub within : length bs ≤ 16
  pub all : AllPass is_ascii_digit bs

-- the marks
abbrev pub marks : List (List ℕ)
marks = codes "->" ∷ codes "[" ∷ codes "]" ∷ codes "(" ∷ codes ")" ∷ codes "{" ∷ codes "}" ∷ codes ";" ∷ codes "=" ∷ codes "." ∷ codes "*" ∷ codes "+" ∷ codes "-" ∷ []

-- a word of len bytes stands in front of 32 bytes, of which the others are 0
pub record IsStoredWord (bytes : List ℕ) (len : ℕ) : Type 0 where
  pub word : IsWord (take len bytes)
  pub fits : length (take len bytes) ≡ len
  pub whole : bytes ≡ take len bytes ++ replicate (32 - len) 0
