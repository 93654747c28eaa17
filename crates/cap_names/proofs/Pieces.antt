-- Pieces of a text, each as long as it can be.
use Rattle.std.proofs.Common.{◌≡◌, ℕ, zero, suc, ◌+◌, ◌-◌, ◌<◌, ◌≤◌, List, [], ◌∷◌, ◌++◌, length, take, drop, Bool, true, false, Some, refl, sym, ap, ◌∙◌, subst, inl, inr, ⊎_elim, cond, arith, append_assoc, length-append}
use Rattle.std.specs.Prelude.{◌⊎◌, option_map, option_to_list}
use Rattle.std.specs.List.{flat_map, AllPass, prefix_len}
use Rattle.std.proofs.lemmas.Bool.{false≢true, cases_lt}
use Rattle.std.proofs.lemmas.List.{append-nil, take-append-drop, take-append-le, length-take-le, length-drop}
use Rattle.std.proofs.lemmas.List.Concat.{flat_map-append}
use Rattle.std.proofs.lemmas.List.Elements.{All-nil, All-cons, All-head, All-tail, All-take}
use Rattle.std.proofs.lemmas.List.Sums.{prefix_len-le-length}
use Rattle.std.proofs.Math.Seq.{take-append-add}
use Rattle.cap_names.specs.declared.token.PieceKind.{PieceKind}
use Rattle.cap_names.specs.declared.token.Token.{Token}
use Rattle.cap_names.specs.Tokens.{kind_of, goes_on, limit, Stops, Piece, text, IsPiece, ArePieces, token_kind, token_at, tokens_from, AreTokens, IsBadAt}

-- What is read when rest is left: the tokens of the pieces before it, which end at the place.
pub record IsReadUpTo (bs rest : List ℕ) (out : List Token) (at : ℕ) : Type 0 where
  pub pieces : List Piece
  pub longest : ArePieces pieces rest
  pub split : flat_map text pieces ++ rest ≡ bs
  pub are : out ≡ tokens_from 0 pieces
  pub place : at ≡ length (flat_map text pieces)
  pub room : at + length rest ≡ length bs

yes_or_no : (b : Bool) → (b ≡ true) ⊎ (b ≡ false)
yes_or_no true = inl refl
yes_or_no false = inr refl

cases_le : (m n : ℕ) → (m ≤ n) ⊎ (n < m)
cases_le m n = ⊎_elim inr inl (cases_lt n m)

add_one : (n : ℕ) → 1 + n ≡ suc n
add_one n = omega arith

pub plus_none : (i : ℕ) → i ≡ i + 0
plus_none i = omega arith

-- The front that passes a test, and what is behind it.
pub run_passes : (g : ℕ → Bool) (bs : List ℕ) → AllPass g (take (prefix_len g bs) bs)
run_passes g [] = All-nil (λ b. g b ≡ true)
run_passes g (b ∷ bs) =
    ⊎_elim
    (λ y. subst (λ n. AllPass g (take n (b ∷ bs))) (sym (add_one (prefix_len g bs)) ∙ ap (λ c. cond c (1 + prefix_len g bs) 0) (sym y)) (All-cons (λ b. g b ≡ true) b (take (prefix_len g bs) bs) y (run_passes g bs)))
    (λ n. subst (λ n. AllPass g (take n (b ∷ bs))) (ap (λ c. cond c (1 + prefix_len g bs) 0) (sym n)) (All-nil (λ b. g b ≡ true)))
    (yes_or_no (g b))

pub run_stops : (g : ℕ → Bool) (bs : List ℕ) → Stops g (drop (prefix_len g bs) bs)
run_stops g [] = tt
run_stops g (b ∷ bs) =
    ⊎_elim
    (λ y. subst (λ n. Stops g (drop n (b ∷ bs))) (sym (add_one (prefix_len g bs)) ∙ ap (λ c. cond c (1 + prefix_len g bs) 0) (sym y)) (run_stops g bs))
    (λ n. subst (λ n. Stops g (drop n (b ∷ bs))) (ap (λ c. cond c (1 + prefix_len g bs) 0) (sym n)) n)
    (yes_or_no (g b))

pub take_take : (m n : ℕ) (bs : List ℕ) → m ≤ n → take m (take n bs) ≡ take m bs
take_take zero n bs le = refl
take_take (suc m) zero bs le = absurd (omega arith)
take_take (suc m) (suc n) [] le = refl
take_take (suc m) (suc n) (b ∷ bs) le = ap (λ l. b ∷ l) (take_take m n bs (omega arith))

pub passes_less : (g : ℕ → Bool) (m n : ℕ) (bs : List ℕ) → m ≤ n → AllPass g (take n bs) → AllPass g (take m bs)
passes_less g m n bs le h =
    let e : take m (take n bs) ≡ take m bs = take_take m n bs le in
    subst (AllPass g) e (All-take (λ b. g b ≡ true) m (take n bs) h)

-- A piece more.
pub text_snoc : (ps : List Piece) (p : Piece) → flat_map text (ps ++ p ∷ []) ≡ flat_map text ps ++ text p
text_snoc ps p = flat_map-append text ps (p ∷ []) ∙ ap (λ l. flat_map text ps ++ l) (append-nil (text p))

pub pieces_snoc : (ps : List Piece) (p : Piece) (rest : List ℕ) → ArePieces ps (text p ++ rest) → IsPiece p → Stops (goes_on p.kind) rest → ArePieces (ps ++ p ∷ []) rest
pieces_snoc [] p rest h k st = (k, st, tt)
pieces_snoc (q ∷ ps) p rest h k st =
    let e : flat_map text ps ++ (text p ++ rest) ≡ flat_map text (ps ++ p ∷ []) ++ rest = sym (append_assoc (flat_map text ps) (text p) rest) ∙ ap (λ l. l ++ rest) (sym (text_snoc ps p)) in
    (h.0, subst (Stops (goes_on q.kind)) e h.1, pieces_snoc ps p rest h.2 k st)

tokens_snoc : (i : ℕ) (ps : List Piece) (p : Piece) → tokens_from i (ps ++ p ∷ []) ≡ tokens_from i ps ++ token_at (i + length (flat_map text ps)) p
tokens_snoc i [] p = append-nil (token_at i p) ∙ ap (λ n. token_at n p) (plus_none i)
tokens_snoc i (q ∷ ps) p =
    let n : length (text q ++ flat_map text ps) ≡ length (text q) + length (flat_map text ps) = length-append (text q) (flat_map text ps) in
    let k : i + length (text q) + length (flat_map text ps) ≡ i + length (text q ++ flat_map text ps) = omega (arith, n) in
    ap (λ l. token_at i q ++ l) (tokens_snoc (i + length (text q)) ps p ∙ ap (λ n. tokens_from (i + length (text q)) ps ++ token_at n p) k)
    ∙ sym (append_assoc (token_at i q) (tokens_from (i + length (text q)) ps) (token_at (i + length (text q ++ flat_map text ps)) p))

-- the token of a piece of n bytes besides the first
abbrev pub token_of : PieceKind → ℕ → ℕ → List Token
token_of kind start end = option_to_list (option_map (λ kind. record { kind = kind; start = start; end = end }) (token_kind kind))

-- One more piece is read: the first byte, and those that go on with it.
pub read_more : (bs : List ℕ) (first : ℕ) (others : List ℕ) (out : List Token) (at n : ℕ) (kind : PieceKind) → IsReadUpTo bs (first ∷ others) out at → kind_of first ≡ Some kind → n ≡ prefix_len (goes_on kind) others
    → ((most : ℕ) → limit kind ≡ Some most → 1 + n ≤ most) → IsReadUpTo bs (drop n others) (out ++ token_of kind at (at + (1 + n))) (at + (1 + n))
read_more bs first others out at n kind before begins e within =
    let p : Piece = record { kind = kind; first = first; others = take n others } in
    let whole : text p ++ drop n others ≡ first ∷ others = ap (λ l. first ∷ l) (take-append-drop n others) in
    let short : n ≤ length others = omega (arith, e, prefix_len-le-length (goes_on kind) others) in
    let len : length (take n others) ≡ n = length-take-le n others short in
    let goes : AllPass (goes_on kind) (take n others) = subst (λ k. AllPass (goes_on kind) (take k others)) (sym e) (run_passes (goes_on kind) others) in
    let stops : Stops (goes_on kind) (drop n others) = subst (λ k. Stops (goes_on kind) (drop k others)) (sym e) (run_stops (goes_on kind) others) in
    let is : IsPiece p = record { begins = begins; goes = goes; within = λ most h. omega (arith, within most h, len) } in
    let end : at + (1 + n) ≡ at + length (text p) = omega (arith, len) in
    let from : 0 + length (flat_map text before.pieces) ≡ at = omega (arith, before.place) in
    record {
      pieces = before.pieces ++ p ∷ [];
      longest = pieces_snoc before.pieces p (drop n others) (subst (ArePieces before.pieces) (sym whole) before.longest) is stops;
      split = ap (λ l. l ++ drop n others) (text_snoc before.pieces p) ∙ append_assoc (flat_map text before.pieces) (text p) (drop n others) ∙ ap (λ l. flat_map text before.pieces ++ l) whole ∙ before.split;
      are = (λ i. before.are i ++ token_of kind at (end i)) ∙ sym (tokens_snoc 0 before.pieces p ∙ ap (λ k. tokens_from 0 before.pieces ++ token_at k p) from);
      place = end ∙ omega (arith, before.place, length-append (flat_map text before.pieces) (text p), ap length (text_snoc before.pieces p));
      room = omega (arith, before.room, length-drop n others, short);
    }

pub read_none : (bs : List ℕ) → IsReadUpTo bs bs [] 0
read_none bs = record { pieces = []; longest = tt; split = refl; are = refl; place = refl; room = omega arith }

pub read_all : (bs : List ℕ) (out : List Token) (at : ℕ) → IsReadUpTo bs [] out at → AreTokens bs out
read_all bs out at before = record { pieces = before.pieces; longest = before.longest; all = sym (append-nil (flat_map text before.pieces)) ∙ before.split; are = before.are }

-- There is only one way to cut a text into pieces.
stops_front : (g : ℕ → Bool) (l r : List ℕ) → Stops g (l ++ r) → Stops g l
stops_front g [] r h = tt
stops_front g (b ∷ l) r h = h

pub pieces_cut : (ps : List Piece) (x y : List ℕ) → ArePieces ps (x ++ y) → ArePieces ps x
pieces_cut [] x y h = tt
pieces_cut (p ∷ ps) x y h = (h.0, stops_front (goes_on p.kind) (flat_map text ps ++ x) y (subst (Stops (goes_on p.kind)) (sym (append_assoc (flat_map text ps) x y)) h.1), pieces_cut ps x y h.2)

passes_head : (g : ℕ → Bool) (b : ℕ) (bs : List ℕ) → AllPass g (b ∷ bs) → g b ≡ true
passes_head g b bs h = All-head (λ b. g b ≡ true) b bs h

passes_tail : (g : ℕ → Bool) (b : ℕ) (bs : List ℕ) → AllPass g (b ∷ bs) → AllPass g bs
passes_tail g b bs h = All-tail (λ b. g b ≡ true) b bs h

pub same_run : (g : ℕ → Bool) (a b x y : List ℕ) → AllPass g a → AllPass g b → Stops g x → Stops g y → a ++ x ≡ b ++ y → (a ≡ b) × (x ≡ y)
same_run g [] [] x y h k s t e = (refl, e)
same_run g [] (c ∷ b) [] y h k s t e = cc
same_run g [] (c ∷ b) (d ∷ x) y h k s t e = let same : d ≡ c = cc in absurd (false≢true (sym s ∙ ap g same ∙ passes_head g c b k))
same_run g (c ∷ a) [] x [] h k s t e = cc
same_run g (c ∷ a) [] x (d ∷ y) h k s t e = let same : c ≡ d = cc in absurd (false≢true (sym t ∙ ap g (sym same) ∙ passes_head g c a h))
same_run g (c ∷ a) (d ∷ b) x y h k s t e =
    let same : c ≡ d = cc in
    let r = same_run g a b x y (passes_tail g c a h) (passes_tail g d b k) s t cc in
    ((λ i. same i ∷ r.0 i), r.1)

pub same_kind : (b c : ℕ) (k l : PieceKind) → b ≡ c → kind_of b ≡ Some k → kind_of c ≡ Some l → k ≡ l
same_kind b c k l e h h' = let s : Some k ≡ Some l = sym h ∙ ap kind_of e ∙ h' in cc

-- the pieces of x, which ends a text
pub record IsSuffix (x : List ℕ) : Type 0 where
  pub rest : List Piece
  pub longest : ArePieces rest []
  pub all : flat_map text rest ≡ x

pub same_front : (ps qs : List Piece) (x : List ℕ) → ArePieces ps x → ArePieces qs [] → flat_map text qs ≡ flat_map text ps ++ x → IsSuffix x
same_front [] qs x h k e = record { rest = qs; longest = k; all = e }
same_front (p ∷ ps) [] x h k e = cc
same_front (p ∷ ps) (r ∷ qs) x h k e =
    let e' : r.first ∷ (r.others ++ flat_map text qs) ≡ p.first ∷ (p.others ++ (flat_map text ps ++ x)) = e ∙ ap (λ l. p.first ∷ l) (append_assoc p.others (flat_map text ps) x) in
    let same : r.first ≡ p.first = cc in
    let tails : r.others ++ flat_map text qs ≡ p.others ++ (flat_map text ps ++ x) = cc in
    let kind : r.kind ≡ p.kind = same_kind r.first p.first r.kind p.kind same k.0.begins h.0.begins in
    let stops : Stops (goes_on p.kind) (flat_map text qs) = subst (λ c. Stops (goes_on c) (flat_map text qs)) kind (subst (Stops (goes_on r.kind)) (append-nil (flat_map text qs)) k.1) in
    let parts = same_run (goes_on p.kind) r.others p.others (flat_map text qs) (flat_map text ps ++ x) (subst (λ c. AllPass (goes_on c) r.others) kind k.0.goes) h.0.goes stops h.1 tails in
    let more = same_front ps qs x h.2 k.2 parts.1 in
    record { rest = more.rest; longest = more.longest; all = more.all }

pub one_cut : (ps qs : List Piece) → ArePieces ps [] → ArePieces qs [] → flat_map text ps ≡ flat_map text qs → ps ≡ qs
one_cut [] [] h k e = refl
one_cut [] (q ∷ qs) h k e = cc
one_cut (p ∷ ps) [] h k e = cc
one_cut (p ∷ ps) (q ∷ qs) h k e =
    let same : p.first ≡ q.first = cc in
    let tails : p.others ++ flat_map text ps ≡ q.others ++ flat_map text qs = cc in
    let kind : p.kind ≡ q.kind = same_kind p.first q.first p.kind q.kind same h.0.begins k.0.begins in
    let stops : Stops (goes_on q.kind) (flat_map text ps) = subst (λ c. Stops (goes_on c) (flat_map text ps)) kind (subst (Stops (goes_on p.kind)) (append-nil (flat_map text ps)) h.1) in
    let stops2 : Stops (goes_on q.kind) (flat_map text qs) = subst (Stops (goes_on q.kind)) (append-nil (flat_map text qs)) k.1 in
    let parts = same_run (goes_on q.kind) p.others q.others (flat_map text ps) (flat_map text qs) (subst (λ c. AllPass (goes_on c) p.others) kind h.0.goes) k.0.goes stops stops2 tails in
    (λ i. record { kind = kind i; first = same i; others = parts.0 i } ∷ one_cut ps qs h.2 k.2 parts.1 i)

pub one_token_list : (bs : List ℕ) (ts us : List Token) → AreTokens bs ts → AreTokens bs us → ts ≡ us
one_token_list bs ts us a b = a.are ∙ ap (tokens_from 0) (one_cut a.pieces b.pieces a.longest b.longest (a.all ∙ sym b.all)) ∙ sym b.are

-- A front of a text that has tokens has tokens.
pub record IsFront (x : List ℕ) : Type 0 where
  pub pieces : List Piece
  pub longest : ArePieces pieces []
  pub all : flat_map text pieces ≡ x

front_pieces : (n : ℕ) (ps : List Piece) → ArePieces ps [] → IsFront (take n (flat_map text ps))
front_pieces zero ps h = record { pieces = []; longest = tt; all = refl }
front_pieces (suc n) [] h = record { pieces = []; longest = tt; all = refl }
front_pieces (suc n) (p ∷ ps) h =
    ⊎_elim
    (λ (le : length p.others ≤ n).
    let rest = front_pieces (n - length p.others) ps h.2 in
    let sum : length p.others + (n - length p.others) ≡ n = omega arith in
    let cut : p.others ++ take (n - length p.others) (flat_map text ps) ≡ take n (p.others ++ flat_map text ps) = sym (take-append-add p.others (flat_map text ps) (n - length p.others)) ∙ ap (λ k. take k (p.others ++ flat_map text ps)) sum in
    let next : Stops (goes_on p.kind) (take (n - length p.others) (flat_map text ps)) = stops_front (goes_on p.kind) (take (n - length p.others) (flat_map text ps)) (drop (n - length p.others) (flat_map text ps)) (subst (Stops (goes_on p.kind)) (append-nil (flat_map text ps) ∙ sym (take-append-drop (n - length p.others) (flat_map text ps))) h.1) in
    let same : take (n - length p.others) (flat_map text ps) ≡ flat_map text rest.pieces ++ [] = sym rest.all ∙ sym (append-nil (flat_map text rest.pieces)) in
    let stops : Stops (goes_on p.kind) (flat_map text rest.pieces ++ []) = subst (Stops (goes_on p.kind)) same next in
    let whole : flat_map text (p ∷ rest.pieces) ≡ take (suc n) (flat_map text (p ∷ ps)) = ap (λ l. p.first ∷ (p.others ++ l)) rest.all ∙ ap (λ l. p.first ∷ l) cut in
    record { pieces = p ∷ rest.pieces; longest = (h.0, stops, rest.longest); all = whole })
    (λ (lt : n < length p.others).
    let q : Piece = record { kind = p.kind; first = p.first; others = take n p.others } in
    let short : n ≤ length p.others = omega arith in
    let len : length (take n p.others) ≡ n = length-take-le n p.others short in
    let is : IsPiece q = record { begins = h.0.begins; goes = All-take (λ b. goes_on p.kind b ≡ true) n p.others h.0.goes; within = λ most e. omega (arith, len, h.0.within most e) } in
    let whole : flat_map text (q ∷ []) ≡ take (suc n) (flat_map text (p ∷ ps)) = ap (λ l. p.first ∷ l) (append-nil (take n p.others) ∙ sym (take-append-le n p.others (flat_map text ps) short)) in
    record { pieces = q ∷ []; longest = (is, tt, tt); all = whole })
    (cases_le (length p.others) n)

pub tokens_of_front : (bs : List ℕ) (ts : List Token) (n : ℕ) → AreTokens bs ts → (us : List Token) × AreTokens (take n bs) us
tokens_of_front bs ts n are =
    let front = front_pieces n are.pieces are.longest in
    (tokens_from 0 front.pieces, record { pieces = front.pieces; longest = front.longest; all = front.all ∙ ap (take n) are.all; are = refl })

-- A text with a bad byte has no tokens, and no other bad byte.
pub bad_has_none : (bs : List ℕ) (n : ℕ) → IsBadAt bs n → (ts : List Token) → AreTokens bs ts → ⊥
bad_has_none bs n bad ts are = let front = tokens_of_front bs ts (suc n) are in bad.after front.0 front.1

bad_not_before : (bs : List ℕ) (m n : ℕ) → IsBadAt bs m → IsBadAt bs n → m < n → ⊥
bad_not_before bs m n bad other lt =
    let front = tokens_of_front (take n bs) other.before.0 (suc m) other.before.1 in
    let e : take (suc m) (take n bs) ≡ take (suc m) bs = take_take (suc m) n bs (omega arith) in
    bad.after front.0 (subst (λ l. AreTokens l front.0) e front.1)

pub one_bad_byte : (bs : List ℕ) (m n : ℕ) → IsBadAt bs m → IsBadAt bs n → m ≡ n
one_bad_byte bs m n bad other =
    ⊎_elim
    (λ (le : m ≤ n). ⊎_elim (λ (ge : n ≤ m). omega arith) (λ (lt : m < n). absurd (bad_not_before bs m n bad other lt)) (cases_le n m))
    (λ (gt : n < m). absurd (bad_not_before bs n m other bad gt))
    (cases_le m n)
