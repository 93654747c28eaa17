-- Worked examples of the definitions.
use Rattle.std.proofs.Common.{◌≡◌, ℕ, ◌≤◌, [], ◌∷◌, Some, refl, arith, true, lit≤, length}
use Rattle.std.specs.Prelude.{codes}
use Rattle.std.proofs.lemmas.List.Elements.{All-nil}
use Rattle.cap_names.specs.declared.token.PieceKind.{PieceKind}
use Rattle.cap_names.specs.declared.token.PieceKind.TheVariants.{Blank, Word, Number}
use Rattle.cap_names.specs.declared.token.TokenKind.TheVariants as token
use Rattle.cap_names.specs.Tokens.{goes_on, limit, kind_of, IsPiece, AreTokens}
use Rattle.cap_names.specs.Places.{line_at, column_at}
use Rattle.cap_names.specs.Operations.{operation_names, IsNamed}

-- a piece of one byte
one_byte : (kind : PieceKind) (b : ℕ) → kind_of b ≡ Some kind → ((most : ℕ) → limit kind ≡ Some most → 1 ≤ most) → IsPiece (record { kind = kind; first = b; others = [] })
one_byte kind b begins within = record { begins = begins; goes = All-nil (λ b. goes_on kind b ≡ true); within = within }

-- `a 1` is a word, a blank and a number
a_1 : AreTokens (codes "a 1") (record { kind = token.Word; start = 0; end = 1 } ∷ record { kind = token.Number; start = 2; end = 3 } ∷ [])
a_1 =
    record {
      pieces = record { kind = Word; first = 97; others = [] } ∷ record { kind = Blank; first = 32; others = [] } ∷ record { kind = Number; first = 49; others = [] } ∷ [];
      longest = (
        one_byte Word 97 refl (λ most e. let same : 32 ≡ most = cc in omega arith),
        refl,
        (one_byte Blank 32 refl (λ most e. cc), refl, (one_byte Number 49 refl (λ most e. let same : 16 ≡ most = cc in omega arith), tt, tt)),
      );
      all = refl;
      are = refl;
    }

-- lines and columns count from 1, and an LF ends its line
places : (line_at (codes "ab\nc") 0 ≡ 1) × (column_at (codes "ab\nc") 0 ≡ 1) × (line_at (codes "ab\nc") 2 ≡ 1) × (column_at (codes "ab\nc") 2 ≡ 3) × (line_at (codes "ab\nc") 3 ≡ 2) × (column_at (codes "ab\nc") 4 ≡ 2)
places = (refl, refl, refl, refl, refl, refl)

-- there are 44 names, and Kernel is the 16th
names : (length operation_names ≡ 44) × IsNamed 16 (codes "Kernel") × IsNamed 44 (codes "IsExact")
names = (refl, record { first = lit≤ tt; name = refl }, record { first = lit≤ tt; name = refl })
