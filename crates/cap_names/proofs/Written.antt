-- Texts that are written token by token: what a printer shows of its text.
use Rattle.std.proofs.Common.{◌≡◌, ℕ, ◌+◌, ◌≤◌, List, [], ◌∷◌, ◌++◌, length, map, Bool, true, false, ◌||◌, leb, Option, Some, None, refl, sym, ap, ◌∙◌, subst, cond, arith, append_assoc, length-append}
use Rattle.std.specs.Prelude.{slice_range, ◌==◌, option_map, option_to_list}
use Rattle.std.specs.List.{flat_map}
use Rattle.std.specs.Char.{is_ascii_digit, is_ascii_alphabetic}
use Rattle.std.proofs.lemmas.Bool.{and_parts, leb-true}
use Rattle.std.proofs.lemmas.Bool.Decides.{nat_tests}
use Rattle.std.proofs.lemmas.List.{append-nil, map-append}
use Rattle.std.proofs.lemmas.List.Concat.{flat_map-append}
use Rattle.std.proofs.lemmas.List.Elements.{All-nil, All-cons, All-head, All-tail}
use Rattle.cap_names.specs.declared.token.PieceKind.{PieceKind}
use Rattle.cap_names.specs.declared.token.PieceKind.TheVariants.{Blank, Comment, Word, Number, Dash, Mark, Newline}
use Rattle.cap_names.specs.declared.token.Token.{Token}
use Rattle.cap_names.specs.Words.{is_word_byte, IsWord, IsNumber}
use Rattle.cap_names.specs.Tokens.{is_mark, kind_of, goes_on, limit, Stops, Piece, text, IsPiece, ArePieces, token_kind, token_at, tokens_from, AreTokens}
use Rattle.cap_names.proofs.Slices.{slice_of_piece}

-- the text of the token that a piece is, if it is one
abbrev pub token_text : Piece → List (List ℕ)
token_text p = option_to_list (option_map (λ _. text p) (token_kind p.kind))

-- The texts of tokens are those of their pieces.
abbrev pub slice_of : List ℕ → Token → List ℕ
slice_of bs t = slice_range bs t.start t.end

token_slice : (bs : List ℕ) (kind : PieceKind) (b : ℕ) (others : List ℕ) (i : ℕ) → slice_range bs i (i + length (b ∷ others)) ≡ b ∷ others
    → map (slice_of bs) (token_at i (record { kind = kind; first = b; others = others })) ≡ token_text (record { kind = kind; first = b; others = others })
token_slice bs Blank b others i e = refl
token_slice bs Comment b others i e = refl
token_slice bs Word b others i e = ap (λ l. l ∷ []) e
token_slice bs Number b others i e = ap (λ l. l ∷ []) e
token_slice bs Dash b others i e = ap (λ l. l ∷ []) e
token_slice bs Mark b others i e = ap (λ l. l ∷ []) e
token_slice bs Newline b others i e = ap (λ l. l ∷ []) e

texts_behind : (front : List ℕ) (ps : List Piece) → map (slice_of (front ++ flat_map text ps)) (tokens_from (length front) ps) ≡ flat_map token_text ps
texts_behind front [] = refl
texts_behind front (p ∷ ps) =
    let whole : List ℕ = front ++ (text p ++ flat_map text ps) in
    let mine : map (slice_of whole) (token_at (length front) p) ≡ token_text p = token_slice whole p.kind p.first p.others (length front) (slice_of_piece front (text p) (flat_map text ps)) in
    let rest : map (slice_of ((front ++ text p) ++ flat_map text ps)) (tokens_from (length (front ++ text p)) ps) ≡ flat_map token_text ps = texts_behind (front ++ text p) ps in
    let place : length (front ++ text p) ≡ length front + length (text p) = length-append front (text p) in
    let others : map (slice_of whole) (tokens_from (length front + length (text p)) ps) ≡ flat_map token_text ps =
    (λ i. map (slice_of (sym (append_assoc front (text p) (flat_map text ps)) i)) (tokens_from (sym place i) ps)) ∙ rest
    in
    map-append (slice_of whole) (token_at (length front) p) (tokens_from (length front + length (text p)) ps) ∙ (λ i. mine i ++ others i)

pub texts_of_tokens : (bs : List ℕ) (ts : List Token) (are : AreTokens bs ts) → map (slice_of bs) ts ≡ flat_map token_text are.pieces
texts_of_tokens bs ts are = (λ i. map (slice_of (sym are.all i)) (are.are i)) ∙ texts_behind [] are.pieces

-- bs is a text of these tokens, whatever stands behind it
pub record IsWritten (bs : List ℕ) (texts : List (List ℕ)) : Type 0 where
  pub pieces : List Piece
  pub closed : (rest : List ℕ) → ArePieces pieces rest
  pub all : flat_map text pieces ≡ bs
  pub texts_are : flat_map token_text pieces ≡ texts

pub written_tokens : (bs : List ℕ) (texts : List (List ℕ)) → IsWritten bs texts → (ts : List Token) × (AreTokens bs ts) × (map (slice_of bs) ts ≡ texts)
written_tokens bs texts w =
    let are : AreTokens bs (tokens_from 0 w.pieces) = record { pieces = w.pieces; longest = w.closed []; all = w.all; are = refl } in
    (tokens_from 0 w.pieces, are, texts_of_tokens bs (tokens_from 0 w.pieces) are ∙ w.texts_are)

pub written_none : IsWritten [] []
written_none = record { pieces = []; closed = λ rest. tt; all = refl; texts_are = refl }

pieces_append : (ps qs : List Piece) (rest : List ℕ) → ArePieces ps (flat_map text qs ++ rest) → ArePieces qs rest → ArePieces (ps ++ qs) rest
pieces_append [] qs rest h k = k
pieces_append (p ∷ ps) qs rest h k =
    let e : flat_map text ps ++ (flat_map text qs ++ rest) ≡ flat_map text (ps ++ qs) ++ rest = sym (append_assoc (flat_map text ps) (flat_map text qs) rest) ∙ ap (λ l. l ++ rest) (sym (flat_map-append text ps qs)) in
    (h.0, subst (Stops (goes_on p.kind)) e h.1, pieces_append ps qs rest h.2 k)

pub written_append : (front bs : List ℕ) (xs ys : List (List ℕ)) → IsWritten front xs → IsWritten bs ys → IsWritten (front ++ bs) (xs ++ ys)
written_append front bs xs ys v w =
    record {
      pieces = v.pieces ++ w.pieces;
      closed = λ rest. pieces_append v.pieces w.pieces rest (v.closed (flat_map text w.pieces ++ rest)) (w.closed rest);
      all = flat_map-append text v.pieces w.pieces ∙ (λ i. v.all i ++ w.all i);
      texts_are = flat_map-append token_text v.pieces w.pieces ∙ (λ i. v.texts_are i ++ w.texts_are i);
    }

-- A piece before a byte that doesn't go on with it.
pub written_before : (p : Piece) (b : ℕ) (bs : List ℕ) (texts : List (List ℕ)) → IsPiece p → goes_on p.kind b ≡ false → IsWritten (b ∷ bs) texts → IsWritten (text p ++ b ∷ bs) (token_text p ++ texts)
written_before p b bs texts is stops w =
    let next : (rest : List ℕ) → Stops (goes_on p.kind) (flat_map text w.pieces ++ rest) = λ rest. subst (λ l. Stops (goes_on p.kind) (l ++ rest)) (sym w.all) stops in
    record { pieces = p ∷ w.pieces; closed = λ rest. (is, next rest, w.closed rest); all = ap (λ l. text p ++ l) w.all; texts_are = ap (λ l. token_text p ++ l) w.texts_are }

never_goes_on : (kind : PieceKind) → ((b : ℕ) → goes_on kind b ≡ false) → (rest : List ℕ) → Stops (goes_on kind) rest
never_goes_on kind never [] = tt
never_goes_on kind never (b ∷ bs) = never b

one_byte : (kind : PieceKind) (b : ℕ) → kind_of b ≡ Some kind → limit kind ≡ None → IsPiece (record { kind = kind; first = b; others = [] })
one_byte kind b begins none = record { begins = begins; goes = All-nil (λ b. goes_on kind b ≡ true); within = λ most e. let clash : None ≡ Some most = sym none ∙ e in cc }

written_one : (kind : PieceKind) (b : ℕ) → kind_of b ≡ Some kind → limit kind ≡ None → ((b : ℕ) → goes_on kind b ≡ false) → IsWritten (b ∷ []) (token_text (record { kind = kind; first = b; others = [] }))
written_one kind b begins none never =
    let p : Piece = record { kind = kind; first = b; others = [] } in
    record { pieces = p ∷ []; closed = λ rest. (one_byte kind b begins none, never_goes_on kind never rest, tt); all = refl; texts_are = append-nil (token_text p) }

pub written_blank : IsWritten (32 ∷ []) []
written_blank = written_one Blank 32 refl refl (λ b. refl)

pub written_newline : IsWritten (10 ∷ []) ((10 ∷ []) ∷ [])
written_newline = written_one Newline 10 refl refl (λ b. refl)

-- a mark of one byte but the dash: at a numeral the fact is refl
pub written_mark : (b : ℕ) → kind_of b ≡ Some Mark → IsWritten (b ∷ []) ((b ∷ []) ∷ [])
written_mark b begins = written_one Mark b begins refl (λ b. refl)

two_at_most : (n most : ℕ) → n ≤ 2 → limit Dash ≡ Some most → n ≤ most
two_at_most n most le e = let same : 2 ≡ most = cc in omega arith

-- a dash before anything but >
pub written_dash : (b : ℕ) (bs : List ℕ) (texts : List (List ℕ)) → (b == 62) ≡ false → IsWritten (b ∷ bs) texts → IsWritten (45 ∷ b ∷ bs) ((45 ∷ []) ∷ texts)
written_dash b bs texts stops w =
    written_before (record { kind = Dash; first = 45; others = [] }) b bs texts
    (record { begins = refl; goes = All-nil (λ b. goes_on Dash b ≡ true); within = λ most e. two_at_most 1 most (omega arith) e }) stops w

-- an arrow before anything but >
pub written_arrow : (b : ℕ) (bs : List ℕ) (texts : List (List ℕ)) → (b == 62) ≡ false → IsWritten (b ∷ bs) texts → IsWritten (45 ∷ 62 ∷ b ∷ bs) ((45 ∷ 62 ∷ []) ∷ texts)
written_arrow b bs texts stops w =
    written_before (record { kind = Dash; first = 45; others = 62 ∷ [] }) b bs texts
    (record { begins = refl; goes = All-cons (λ b. goes_on Dash b ≡ true) 62 [] refl (All-nil (λ b. goes_on Dash b ≡ true)); within = λ most e. two_at_most 2 most (omega arith) e }) stops w

-- Words and numbers are pieces.
kind_from : (blank letter digit hash dash newline mark : Bool) → Option PieceKind
kind_from blank letter digit hash dash newline mark =
    cond blank (Some Blank) (cond letter (Some Word) (cond digit (Some Number) (cond hash (Some Comment) (cond dash (Some Dash) (cond newline (Some Newline) (cond mark (Some Mark) None))))))

no_blank : (b : ℕ) → 33 ≤ b → (b == 32 || b == 9 || b == 13) ≡ false
no_blank b le = grind (arith, nat_tests)

letter_large : (b : ℕ) → is_ascii_alphabetic b ≡ true → 65 ≤ b
letter_large b h = grind (arith, nat_tests)

digit_range : (b : ℕ) → is_ascii_digit b ≡ true → (48 ≤ b) × (b ≤ 57)
digit_range b h = let parts = and_parts (leb 48 b) (leb b 57) h in (leb-true 48 b parts.0, leb-true b 57 parts.1)

no_letter : (b : ℕ) → b ≤ 57 → is_ascii_alphabetic b ≡ false
no_letter b le = grind (arith, nat_tests)

letter_begins : (b : ℕ) → is_ascii_alphabetic b ≡ true → kind_of b ≡ Some Word
unfolding kind_from
letter_begins b h =
    let blank = no_blank b (omega (arith, letter_large b h)) in
    λ i. kind_from (blank i) (h i) (is_ascii_digit b) (b == 35) (b == 45) (b == 10) (is_mark b)

digit_begins : (b : ℕ) → is_ascii_digit b ≡ true → kind_of b ≡ Some Number
unfolding kind_from
digit_begins b h =
    let range = digit_range b h in
    let blank = no_blank b (omega (arith, range.0)) in
    let letter = no_letter b range.1 in
    λ i. kind_from (blank i) (letter i) (h i) (b == 35) (b == 45) (b == 10) (is_mark b)

-- a word before a byte that is in no word
pub written_word : (word : List ℕ) (b : ℕ) (bs : List ℕ) (texts : List (List ℕ)) → IsWord word → is_word_byte b ≡ false → IsWritten (b ∷ bs) texts → IsWritten (word ++ b ∷ bs) (word ∷ texts)
written_word [] b bs texts is stops w = absurd (omega (arith, is.some))
written_word (c ∷ cs) b bs texts is stops w =
    let within : (most : ℕ) → limit Word ≡ Some most → length (c ∷ cs) ≤ most = λ most e. let same : 32 ≡ most = cc in omega (arith, is.within) in
    written_before (record { kind = Word; first = c; others = cs }) b bs texts
    (record { begins = letter_begins c is.letter; goes = All-tail (λ b. is_word_byte b ≡ true) c cs is.all; within = within }) stops w

-- a number before a byte that is no digit
pub written_number : (digits : List ℕ) (b : ℕ) (bs : List ℕ) (texts : List (List ℕ)) → IsNumber digits → is_ascii_digit b ≡ false → IsWritten (b ∷ bs) texts → IsWritten (digits ++ b ∷ bs) (digits ∷ texts)
written_number [] b bs texts is stops w = absurd (omega (arith, is.some))
written_number (c ∷ cs) b bs texts is stops w =
    let within : (most : ℕ) → limit Number ≡ Some most → length (c ∷ cs) ≤ most = λ most e. let same : 16 ≡ most = cc in omega (arith, is.within) in
    written_before (record { kind = Number; first = c; others = cs }) b bs texts
    (record { begins = digit_begins c (All-head (λ b. is_ascii_digit b ≡ true) c cs is.all); goes = All-tail (λ b. is_ascii_digit b ≡ true) c cs is.all; within = within }) stops w
