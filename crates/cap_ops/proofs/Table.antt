-- The table of the code is the table of the specs.
use Rattle.std.proofs.Common.{◌≡◌, ℕ, zero, suc, ◌-◌, ◌≤◌, ◌<◌, length, List, [], ◌∷◌, get_or, refl, sym, ◌∙◌, ap, arith}
use Rattle.std.specs.Prelude.{map, slice_get, Option}
use Rattle.std.proofs.lemmas.List.{get_or-map}
use Rattle.std.proofs.lemmas.Option.{unwrap_or-slice_get}
use Rattle.cap_ops.specs.declared.ends.Line.{Line}
use Rattle.cap_ops.specs.declared.ends.Shape.{Shape}
use Rattle.cap_ops.specs.declared.ends.Shape.TheVariants.{Truth}
use Rattle.cap_ops.specs.declared.ends.TheConstants.{TABLE}
use Rattle.cap_ops.specs.Ends.{Profile, profiles, profile_of, takes, padded}

-- a line of the specs' table as the code has it
unfoldable pub line : Profile → Line
line p = record { 0 = slice_get p.arguments 0; 1 = slice_get p.arguments 1; 2 = slice_get p.arguments 2; 3 = slice_get p.arguments 3; 4 = p.answer }

table_is : TABLE ≡ map line profiles
unfolding line
table_is = refl

-- the code's line of an operation
pub table-line : (op k : ℕ) (d : Line) → k ≡ op → 1 ≤ op → op ≤ 44 → get_or TABLE (k - 1) d ≡ line (profile_of op)
table-line zero k d same low high = absurd (omega arith)
table-line (suc n) k d same low high =
    let place : k - 1 ≡ n = omega arith in
    let inside : n < length profiles = omega arith in
    ap (λ i. get_or TABLE i d) place ∙ ap (λ t. get_or t n d) table_is ∙ get_or-map line profiles n (takes [] Truth) d inside ∙ ap line (sym (unwrap_or-slice_get profiles n (takes [] Truth)))

abbrev pub places-of : Line → List (Option (Shape ℕ))
places-of l = l.0 ∷ l.1 ∷ l.2 ∷ l.3 ∷ []

pub line-arguments : (op k : ℕ) (d : Line) → k ≡ op → 1 ≤ op → op ≤ 44 → places-of (get_or TABLE (k - 1) d) ≡ padded (profile_of op).arguments
unfolding line
line-arguments op k d same low high = ap places-of (table-line op k d same low high)

pub line-answer : (op k : ℕ) (d : Line) → k ≡ op → 1 ≤ op → op ≤ 44 → (get_or TABLE (k - 1) d).4 ≡ (profile_of op).answer
unfolding line
line-answer op k d same low high = ap (λ (l : Line). l.4) (table-line op k d same low high)
