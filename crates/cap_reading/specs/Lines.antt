-- Texts of lines: empty lines count for nothing, and the last line may lack its end (this project's own).
use Rattle.std.specs.Prelude.{ℕ, List, [], ◌∷◌, ◌++◌, Bool, true, ◌+◌, ◌&&◌, if◌then◌else◌}

-- A text without its empty lines: an end of a line where a line begins is one.
abbrev pub without_empty_lines : {S : Type 0} → (S → Bool) → Bool → List S → List S
without_empty_lines ends begins [] = []
without_empty_lines ends begins (t ∷ ts) = if begins && ends t then without_empty_lines ends (ends t) ts else t ∷ without_empty_lines ends (ends t) ts

-- where the items stand that are left, the first of the text being the i-th
abbrev pub places : {S : Type 0} → (S → Bool) → Bool → ℕ → List S → List ℕ
places ends begins i [] = []
places ends begins i (t ∷ ts) = if begins && ends t then places ends (ends t) (i + 1) ts else i ∷ places ends (ends t) (i + 1) ts

-- The lines of a text, each with its end: one end more is an empty line, or that of the last line.
abbrev pub lines : {S : Type 0} → (S → Bool) → S → List S → List S
lines ends end ts = without_empty_lines ends true (ts ++ end ∷ [])

abbrev pub line_places : {S : Type 0} → (S → Bool) → S → List S → List ℕ
line_places ends end ts = places ends true 0 (ts ++ end ∷ [])

-- The lists of which the lines are in the language.
abbrev pub text_of : {S A : Type 0} → (S → Bool) → S → (A → List S → Type 0) → A → List S → Type 0
text_of ends end spells a ts = spells a (lines ends end ts)
