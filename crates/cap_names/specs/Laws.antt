-- The laws of tokens, and of the names of operations.
use Rattle.std.specs.Prelude.{◌≡◌, ◌⊎◌, ◌↔◌, ℕ, ◌≤◌, List, length, take}
use Rattle.cap_names.specs.declared.token.Token.{Token}
use Rattle.cap_names.specs.Tokens.{AreTokens, IsBadAt, AreSlices}
use Rattle.cap_names.specs.Operations.{IsNamed}

-- the text is a list of tokens, blanks and comments
abbrev pub HasTokens : List ℕ → Type 0
HasTokens bs = (ts : List Token) × AreTokens bs ts

-- a text has one token list at most
abbrev pub OneTokenList : Type 0
OneTokenList = (bs : List ℕ) (ts us : List Token) → AreTokens bs ts → AreTokens bs us → ts ≡ us

-- the tokens of a text are slices of it, in order
abbrev pub TokensAreSlices : Type 0
TokensAreSlices = (bs : List ℕ) (ts : List Token) → AreTokens bs ts → AreSlices bs ts

-- each text, of any size, has tokens or a first bad byte
abbrev pub TokensOrBadByte : Type 0
TokensOrBadByte = (bs : List ℕ) → HasTokens bs ⊎ ((n : ℕ) × IsBadAt bs n)

-- the fronts of a text that have tokens are those that end at its first bad byte or before it
abbrev pub FrontsBeforeBadByte : Type 0
FrontsBeforeBadByte = (bs : List ℕ) (n : ℕ) → IsBadAt bs n → (m : ℕ) → m ≤ length bs → HasTokens (take m bs) ↔ (m ≤ n)

-- a text has one first bad byte at most
abbrev pub OneBadByte : Type 0
OneBadByte = (bs : List ℕ) (m n : ℕ) → IsBadAt bs m → IsBadAt bs n → m ≡ n

-- a name names one operation at most
abbrev pub OneNumber : Type 0
OneNumber = (m n : ℕ) (word : List ℕ) → IsNamed m word → IsNamed n word → m ≡ n
