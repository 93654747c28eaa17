-- The tokens of a text are slices of it, in order.
use Rattle.std.proofs.Common.{◌≡◌, ℕ, ◌+◌, ◌-◌, ◌<◌, ◌≤◌, List, [], ◌∷◌, ◌++◌, length, take, Bool, true, false, Some, None, refl, sym, ap, ◌∙◌, subst, ⊎_elim, cond, arith, append_assoc, length-append, lit<}
use Rattle.std.specs.Prelude.{Contains, All, slice_range, slice_index_or, ◌==◌, ◌||◌}
use Rattle.std.specs.List.{flat_map, AllPass}
use Rattle.std.specs.Char.{is_ascii_digit, is_ascii_alphabetic}
use Rattle.std.proofs.lemmas.Bool.{false≢true, or_cases, or_left, eqb-true}
use Rattle.std.proofs.lemmas.List.Elements.{All-nil, All-cons, All-head, All-append}
use Rattle.std.proofs.Math.Seq.{take-append_seam, drop-append_seam}
use Rattle.cap_names.specs.declared.token.PieceKind.{PieceKind}
use Rattle.cap_names.specs.declared.token.PieceKind.TheVariants.{Blank, Comment, Word, Number, Dash, Mark, Newline}
use Rattle.cap_names.specs.declared.token.TokenKind.{TokenKind}
use Rattle.cap_names.specs.declared.token.TokenKind.TheVariants as token
use Rattle.cap_names.specs.declared.token.Token.{Token}
use Rattle.cap_names.specs.Words.{is_word_byte, IsWord, IsNumber, marks}
use Rattle.cap_names.specs.Tokens.{is_mark, kind_of, Piece, text, IsPiece, ArePieces, token_at, tokens_from, AreTokens, IsTokenText, InOrder, IsSlice, AreSlices}

-- The test that a byte passes which begins a piece of a kind.
picked_test : PieceKind → (blank letter digit hash dash newline mark : Bool) → Bool
picked_test Blank blank letter digit hash dash newline mark = blank
picked_test Word blank letter digit hash dash newline mark = letter
picked_test Number blank letter digit hash dash newline mark = digit
picked_test Comment blank letter digit hash dash newline mark = hash
picked_test Dash blank letter digit hash dash newline mark = dash
picked_test Newline blank letter digit hash dash newline mark = newline
picked_test Mark blank letter digit hash dash newline mark = mark

picked : (kind : PieceKind) (blank letter digit hash dash newline mark : Bool)
    → cond blank (Some Blank) (cond letter (Some Word) (cond digit (Some Number) (cond hash (Some Comment) (cond dash (Some Dash) (cond newline (Some Newline) (cond mark (Some Mark) None)))))) ≡ Some kind
    → picked_test kind blank letter digit hash dash newline mark ≡ true
unfolding picked_test
picked kind true letter digit hash dash newline mark e = let s : Blank ≡ kind = cc in subst (λ k. picked_test k true letter digit hash dash newline mark ≡ true) s refl
picked kind false true digit hash dash newline mark e = let s : Word ≡ kind = cc in subst (λ k. picked_test k false true digit hash dash newline mark ≡ true) s refl
picked kind false false true hash dash newline mark e = let s : Number ≡ kind = cc in subst (λ k. picked_test k false false true hash dash newline mark ≡ true) s refl
picked kind false false false true dash newline mark e = let s : Comment ≡ kind = cc in subst (λ k. picked_test k false false false true dash newline mark ≡ true) s refl
picked kind false false false false true newline mark e = let s : Dash ≡ kind = cc in subst (λ k. picked_test k false false false false true newline mark ≡ true) s refl
picked kind false false false false false true mark e = let s : Newline ≡ kind = cc in subst (λ k. picked_test k false false false false false true mark ≡ true) s refl
picked kind false false false false false false true e = let s : Mark ≡ kind = cc in subst (λ k. picked_test k false false false false false false true ≡ true) s refl
picked kind false false false false false false false e = cc

begins_by : (kind : PieceKind) (b : ℕ) → kind_of b ≡ Some kind → picked_test kind (b == 32 || b == 9 || b == 13) (is_ascii_alphabetic b) (is_ascii_digit b) (b == 35) (b == 45) (b == 10) (is_mark b) ≡ true
begins_by kind b e = picked kind (b == 32 || b == 9 || b == 13) (is_ascii_alphabetic b) (is_ascii_digit b) (b == 35) (b == 45) (b == 10) (is_mark b) e

is_word : (b : ℕ) (bs : List ℕ) → kind_of b ≡ Some Word → AllPass is_word_byte bs → length (b ∷ bs) ≤ 32 → IsWord (b ∷ bs)
unfolding picked_test
is_word b bs begins goes within =
    let letter : is_ascii_alphabetic b ≡ true = begins_by Word b begins in
    let head : is_word_byte b ≡ true = or_left (is_ascii_alphabetic b || is_ascii_digit b) (b == 95) (or_left (is_ascii_alphabetic b) (is_ascii_digit b) letter) in
    record { some = omega arith; within = within; letter = letter; all = All-cons (λ b. is_word_byte b ≡ true) b bs head goes }

is_number : (b : ℕ) (bs : List ℕ) → kind_of b ≡ Some Number → AllPass is_ascii_digit bs → length (b ∷ bs) ≤ 16 → IsNumber (b ∷ bs)
unfolding picked_test
is_number b bs begins goes within =
    let digit : is_ascii_digit b ≡ true = begins_by Number b begins in
    record { some = omega arith; within = within; all = All-cons (λ b. is_ascii_digit b ≡ true) b bs digit goes }

-- Marks are found in their list.
or_elim : {P : Type 0} (x y : Bool) → (x ≡ true → P) → (y ≡ true → P) → (x || y) ≡ true → P
or_elim x y f g e = ⊎_elim f g (or_cases x y e)

mark_at : (b k c : ℕ) → k < length marks → slice_index_or marks k (b ∷ []) ≡ c ∷ [] → (b == c) ≡ true → Contains marks (b ∷ [])
mark_at b k c lt at e = (k, lt, at ∙ ap (λ c. c ∷ []) (sym (eqb-true b c e)))

one_byte_mark : (b : ℕ) → is_mark b ≡ true → Contains marks (b ∷ [])
one_byte_mark b =
    or_elim (b == 91 || b == 93 || b == 40 || b == 41 || b == 123 || b == 125 || b == 59 || b == 61 || b == 46 || b == 42) (b == 43)
    (or_elim (b == 91 || b == 93 || b == 40 || b == 41 || b == 123 || b == 125 || b == 59 || b == 61 || b == 46) (b == 42)
    (or_elim (b == 91 || b == 93 || b == 40 || b == 41 || b == 123 || b == 125 || b == 59 || b == 61) (b == 46)
    (or_elim (b == 91 || b == 93 || b == 40 || b == 41 || b == 123 || b == 125 || b == 59) (b == 61)
    (or_elim (b == 91 || b == 93 || b == 40 || b == 41 || b == 123 || b == 125) (b == 59)
    (or_elim (b == 91 || b == 93 || b == 40 || b == 41 || b == 123) (b == 125)
    (or_elim (b == 91 || b == 93 || b == 40 || b == 41) (b == 123)
    (or_elim (b == 91 || b == 93 || b == 40) (b == 41)
    (or_elim (b == 91 || b == 93) (b == 40)
    (or_elim (b == 91) (b == 93) (mark_at b 1 91 (lit< tt) refl) (mark_at b 2 93 (lit< tt) refl))
    (mark_at b 3 40 (lit< tt) refl))
    (mark_at b 4 41 (lit< tt) refl))
    (mark_at b 5 123 (lit< tt) refl))
    (mark_at b 6 125 (lit< tt) refl))
    (mark_at b 7 59 (lit< tt) refl))
    (mark_at b 8 61 (lit< tt) refl))
    (mark_at b 9 46 (lit< tt) refl))
    (mark_at b 10 42 (lit< tt) refl))
    (mark_at b 11 43 (lit< tt) refl)

-- Nothing goes on with a piece of one byte.
no_others : (bs : List ℕ) → AllPass (λ b. false) bs → bs ≡ []
no_others [] h = refl
no_others (b ∷ bs) h = absurd (false≢true (All-head (λ b. false ≡ true) b bs h))

arrow_or_dash : (b : ℕ) (bs : List ℕ) → (b == 45) ≡ true → AllPass (λ b. b == 62) bs → length (b ∷ bs) ≤ 2 → Contains marks (b ∷ bs)
arrow_or_dash b [] e goes within = mark_at b 12 45 (lit< tt) refl e
arrow_or_dash b (c ∷ []) e goes within =
    let arrow : 45 ∷ 62 ∷ [] ≡ b ∷ c ∷ [] = (λ i. sym (eqb-true b 45 e) i ∷ sym (eqb-true c 62 (All-head (λ b. (b == 62) ≡ true) c [] goes)) i ∷ []) in
    let at : slice_index_or marks 0 (b ∷ c ∷ []) ≡ 45 ∷ 62 ∷ [] = refl in
    (0, lit< tt, at ∙ arrow)
arrow_or_dash b (c ∷ d ∷ bs) e goes within = absurd (omega arith)

-- The text of a token.
one_slice : (kind : TokenKind) (i : ℕ) (bs whole : List ℕ) → slice_range whole i (i + length bs) ≡ bs → i + length bs ≤ length whole → IsTokenText kind bs → All (IsSlice whole) (record { kind = kind; start = i; end = i + length bs } ∷ [])
one_slice kind i bs whole cut le is =
    All-cons (IsSlice whole) (record { kind = kind; start = i; end = i + length bs }) [] (record { within = le; text = subst (IsTokenText kind) (sym cut) is }) (All-nil (IsSlice whole))

token_text : (kind : PieceKind) (b : ℕ) (bs : List ℕ) → IsPiece (record { kind = kind; first = b; others = bs }) → (i : ℕ) (whole : List ℕ) → slice_range whole i (i + length (b ∷ bs)) ≡ b ∷ bs → i + length (b ∷ bs) ≤ length whole
    → All (IsSlice whole) (token_at i (record { kind = kind; first = b; others = bs }))
unfolding picked_test
token_text Blank b bs p i whole cut le = All-nil (IsSlice whole)
token_text Comment b bs p i whole cut le = All-nil (IsSlice whole)
token_text Word b bs p i whole cut le = one_slice token.Word i (b ∷ bs) whole cut le (is_word b bs p.begins p.goes (p.within 32 refl))
token_text Number b bs p i whole cut le = one_slice token.Number i (b ∷ bs) whole cut le (is_number b bs p.begins p.goes (p.within 16 refl))
token_text Dash b bs p i whole cut le = one_slice token.Mark i (b ∷ bs) whole cut le (arrow_or_dash b bs (begins_by Dash b p.begins) p.goes (p.within 2 refl))
token_text Mark b bs p i whole cut le = one_slice token.Mark i (b ∷ bs) whole cut le (subst (λ l. Contains marks (b ∷ l)) (sym (no_others bs p.goes)) (one_byte_mark b (begins_by Mark b p.begins)))
token_text Newline b bs p i whole cut le = one_slice token.Newline i (b ∷ bs) whole cut le (λ j. eqb-true b 10 (begins_by Newline b p.begins) j ∷ no_others bs p.goes j)

-- Order, and slices of a text that has a front before them.
earlier : (i j : ℕ) (ts : List Token) → i ≤ j → InOrder j ts → InOrder i ts
earlier i j [] le h = tt
earlier i j (t ∷ ts) le h = (omega (arith, h.0), h.1, h.2)

in_order : (i : ℕ) (ps : List Piece) → InOrder i (tokens_from i ps)
in_order i [] = tt
in_order i (p ∷ ps) = token_first p.kind p.first p.others (tokens_from (i + length (text p)) ps) (in_order (i + length (text p)) ps)
  where
    token_first : (kind : PieceKind) (b : ℕ) (bs : List ℕ) (ts : List Token) → InOrder (i + length (b ∷ bs)) ts → InOrder i (token_at i (record { kind = kind; first = b; others = bs }) ++ ts)
    token_first Blank b bs ts h = earlier i (i + length (b ∷ bs)) ts (omega arith) h
    token_first Comment b bs ts h = earlier i (i + length (b ∷ bs)) ts (omega arith) h
    token_first Word b bs ts h = (omega arith, omega arith, h)
    token_first Number b bs ts h = (omega arith, omega arith, h)
    token_first Dash b bs ts h = (omega arith, omega arith, h)
    token_first Mark b bs ts h = (omega arith, omega arith, h)
    token_first Newline b bs ts h = (omega arith, omega arith, h)

-- the slice of a piece behind a front
pub slice_of_piece : (front mid rest : List ℕ) → slice_range (front ++ (mid ++ rest)) (length front) (length front + length mid) ≡ mid
slice_of_piece front mid rest =
    let n : length front + length mid - length front ≡ length mid = omega arith in
    (λ i. take (n i) (drop-append_seam front (mid ++ rest) i)) ∙ take-append_seam mid rest

slices_behind : (front : List ℕ) (ps : List Piece) → ArePieces ps [] → All (IsSlice (front ++ flat_map text ps)) (tokens_from (length front) ps)
slices_behind front [] h = All-nil (IsSlice (front ++ []))
slices_behind front (p ∷ ps) h =
    let whole : List ℕ = front ++ (text p ++ flat_map text ps) in
    let len : length whole ≡ length front + (length (text p) + length (flat_map text ps)) = length-append front (text p ++ flat_map text ps) ∙ ap (λ n. length front + n) (length-append (text p) (flat_map text ps)) in
    let mine : All (IsSlice whole) (token_at (length front) p) = token_text p.kind p.first p.others h.0 (length front) whole (slice_of_piece front (text p) (flat_map text ps)) (omega (arith, len)) in
    let rest : All (IsSlice ((front ++ text p) ++ flat_map text ps)) (tokens_from (length (front ++ text p)) ps) = slices_behind (front ++ text p) ps h.2 in
    let rest2 : All (IsSlice whole) (tokens_from (length front + length (text p)) ps) = coe_both rest in
    All-append (IsSlice whole) (token_at (length front) p) (tokens_from (length front + length (text p)) ps) mine rest2
  where
    coe_both : All (IsSlice ((front ++ text p) ++ flat_map text ps)) (tokens_from (length (front ++ text p)) ps) → All (IsSlice (front ++ (text p ++ flat_map text ps))) (tokens_from (length front + length (text p)) ps)
    coe_both r = subst (λ n. All (IsSlice (front ++ (text p ++ flat_map text ps))) (tokens_from n ps)) (length-append front (text p)) (subst (λ l. All (IsSlice l) (tokens_from (length (front ++ text p)) ps)) (append_assoc front (text p) (flat_map text ps)) r)

pub tokens_are_slices : (bs : List ℕ) (ts : List Token) → AreTokens bs ts → AreSlices bs ts
tokens_are_slices bs ts are =
    let order : InOrder 0 ts = subst (InOrder 0) (sym are.are) (in_order 0 are.pieces) in
    let slices : All (IsSlice bs) ts = subst (λ ts. All (IsSlice bs) ts) (sym are.are) (subst (λ l. All (IsSlice l) (tokens_from 0 are.pieces)) are.all (slices_behind [] are.pieces are.longest)) in
    record { order = order; slices = slices }
