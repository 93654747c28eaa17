-- Texts and their tokens (this project's own script language).
use Rattle.std.specs.Prelude.{◌≡◌, ℕ, ◌+◌, ◌<◌, ◌≤◌, suc, List, [], ◌∷◌, ◌++◌, length, take, slice_range, All, Contains, Bool, false, Option, Some, None, ◌==◌, ◌||◌, not, if◌then◌else◌, option_map, option_to_list}
use Rattle.std.specs.List.{flat_map, AllPass}
use Rattle.std.specs.Char.{is_ascii_digit, is_ascii_alphabetic}
use Rattle.cap_names.specs.Words.{is_word_byte, IsWord, IsNumber, marks}
use Rattle.cap_names.specs.declared.token.PieceKind.{PieceKind}
use Rattle.cap_names.specs.declared.token.PieceKind.TheVariants.{Blank, Comment, Word, Number, Dash, Mark, Newline}
use Rattle.cap_names.specs.declared.token.TokenKind.{TokenKind}
use Rattle.cap_names.specs.declared.token.TokenKind.TheVariants as token
use Rattle.cap_names.specs.declared.token.Token.{Token}
use Rattle.cap_names.specs.declared.token.TokenFault.{TokenFault}
use Rattle.cap_names.specs.declared.token.TokenFault.TheVariants.{BadByte, NoMemory}

-- the marks of one byte, but for the dash: [ ] ( ) { } ; = . * +
abbrev pub is_mark : ℕ → Bool
is_mark b = b == 91 || b == 93 || b == 40 || b == 41 || b == 123 || b == 125 || b == 59 || b == 61 || b == 46 || b == 42 || b == 43

-- what a byte begins: a blank is a space, a tab or a CR, a comment begins with #, and LF is a Newline
abbrev pub kind_of : ℕ → Option PieceKind
kind_of b =
    if b == 32 || b == 9 || b == 13 then Some Blank
    else (if is_ascii_alphabetic b then Some Word
    else (if is_ascii_digit b then Some Number
    else (if b == 35 then Some Comment
    else (if b == 45 then Some Dash
    else (if b == 10 then Some Newline
    else (if is_mark b then Some Mark
    else None))))))

-- whether a piece goes on with a byte: a comment does up to the LF, and a dash with > is an arrow
abbrev pub goes_on : PieceKind → ℕ → Bool
goes_on Blank b = false
goes_on Comment b = not (b == 10)
goes_on Word b = is_word_byte b
goes_on Number b = is_ascii_digit b
goes_on Dash b = b == 62
goes_on Mark b = false
goes_on Newline b = false

-- the most bytes that a piece may have, where there is such a limit
abbrev pub limit : PieceKind → Option ℕ
limit Blank = None
limit Comment = None
limit Word = Some 32
limit Number = Some 16
limit Dash = Some 2
limit Mark = None
limit Newline = None

-- a piece of a text: its first byte and the others
pub record Piece : Type 0 where
  pub kind : PieceKind
  pub first : ℕ
  pub others : List ℕ

abbrev pub text : Piece → List ℕ
text p = p.first ∷ p.others

-- the first byte begins a piece of the kind, the others go on with it, and the limit is kept
pub record IsPiece (p : Piece) : Type 0 where
  pub begins : kind_of p.first ≡ Some p.kind
  pub goes : AllPass (goes_on p.kind) p.others
  pub within : (most : ℕ) → limit p.kind ≡ Some most → length (text p) ≤ most

-- the next byte, if there is one, fails the test
abbrev pub Stops : (ℕ → Bool) → List ℕ → Type 0
Stops test [] = Unit {0}
Stops test (b ∷ bs) = test b ≡ false

-- these pieces stand before rest, each as long as it can be: it doesn't go on with the byte behind it
abbrev pub ArePieces : List Piece → List ℕ → Type 0
ArePieces [] rest = Unit {0}
ArePieces (p ∷ ps) rest = IsPiece p × Stops (goes_on p.kind) (flat_map text ps ++ rest) × ArePieces ps rest

-- what token a piece is: blanks and comments are none
abbrev pub token_kind : PieceKind → Option TokenKind
token_kind Blank = None
token_kind Comment = None
token_kind Word = Some token.Word
token_kind Number = Some token.Number
token_kind Dash = Some token.Mark
token_kind Mark = Some token.Mark
token_kind Newline = Some token.Newline

-- the token, if it is one, of a piece that stands at i
abbrev pub token_at : ℕ → Piece → List Token
token_at i p = option_to_list (option_map (λ kind. record { kind = kind; start = i; end = i + length (text p) }) (token_kind p.kind))

-- the tokens of pieces that stand from i on
abbrev pub tokens_from : ℕ → List Piece → List Token
tokens_from i [] = []
tokens_from i (p ∷ ps) = token_at i p ++ tokens_from (i + length (text p)) ps

-- ts are the tokens of the text bs: it is a list of pieces, and these are their tokens
pub record AreTokens (bs : List ℕ) (ts : List Token) : Type 0 where
  pub pieces : List Piece
  pub longest : ArePieces pieces []
  pub all : flat_map text pieces ≡ bs
  pub are : ts ≡ tokens_from 0 pieces

-- n is the first bad byte: the text before it has tokens, and with it has none
pub record IsBadAt (bs : List ℕ) (n : ℕ) : Type 0 where
  pub within : n < length bs
  pub before : (ts : List Token) × AreTokens (take n bs) ts
  pub after : (ts : List Token) → AreTokens (take (suc n) bs) ts → ⊥

-- the cause of a fault
abbrev pub IsCause : List ℕ → TokenFault → Type 0
IsCause bs (BadByte bad) = IsBadAt bs bad.place
IsCause bs NoMemory = Unit {0}

-- what the text of a token is
abbrev pub IsTokenText : TokenKind → List ℕ → Type 0
IsTokenText token.Word bs = IsWord bs
IsTokenText token.Number bs = IsNumber bs
IsTokenText token.Mark bs = Contains marks bs
IsTokenText token.Newline bs = bs ≡ 10 ∷ []

-- the tokens stand one behind the other, from i on, and none is empty
abbrev pub InOrder : ℕ → List Token → Type 0
InOrder i [] = Unit {0}
InOrder i (t ∷ ts) = (i ≤ t.start) × (t.start < t.end) × InOrder t.end ts

-- a token is within the text, and its slice is a text of its kind
pub record IsSlice (bs : List ℕ) (t : Token) : Type 0 where
  pub within : t.end ≤ length bs
  pub text : IsTokenText t.kind (slice_range bs t.start t.end)

-- the tokens are slices of the text, in order
pub record AreSlices (bs : List ℕ) (ts : List Token) : Type 0 where
  pub order : InOrder 0 ts
  pub slices : All (IsSlice bs) ts
