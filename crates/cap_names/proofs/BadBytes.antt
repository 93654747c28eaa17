-- Where reading stops is the first bad byte.
use Rattle.std.proofs.Common.{◌≡◌, ℕ, zero, suc, ◌+◌, ◌<◌, ◌≤◌, List, [], ◌∷◌, ◌++◌, length, take, drop, Some, None, refl, sym, ap, ◌∙◌, subst, arith}
use Rattle.std.specs.List.{flat_map, AllPass, prefix_len}
use Rattle.std.proofs.lemmas.List.{append-nil, take-append-drop, length-take-le}
use Rattle.std.proofs.lemmas.List.Sums.{prefix_len-le-length}
use Rattle.std.proofs.Math.Seq.{take-append-add}
use Rattle.cap_names.specs.declared.token.PieceKind.{PieceKind}
use Rattle.cap_names.specs.declared.token.PieceKind.TheVariants.{Blank, Comment, Word, Number, Dash, Mark, Newline}
use Rattle.cap_names.specs.declared.token.Token.{Token}
use Rattle.cap_names.specs.Tokens.{kind_of, goes_on, limit, Stops, Piece, text, IsPiece, ArePieces, tokens_from, IsBadAt}
use Rattle.cap_names.proofs.Pieces.{IsReadUpTo, same_front, same_kind, same_run, pieces_cut, pieces_snoc, text_snoc, run_passes, passes_less, plus_none}

take_to : (bs rest : List ℕ) (ps : List Piece) (at : ℕ) → flat_map text ps ++ rest ≡ bs → at ≡ length (flat_map text ps) → (m : ℕ) → take (at + m) bs ≡ flat_map text ps ++ take m rest
take_to bs rest ps at split place m = (λ i. take (place i + m) (sym split i)) ∙ take-append-add (flat_map text ps) rest m

-- a byte that begins no piece
nothing_begins : (first : ℕ) → kind_of first ≡ None → (q : List Piece) → ArePieces q [] → flat_map text q ≡ first ∷ [] → ⊥
nothing_begins first none [] h e = cc
nothing_begins first none (r ∷ qs) h e =
    let same : r.first ≡ first = cc in
    let e : Some r.kind ≡ None = sym h.0.begins ∙ ap kind_of same ∙ none in
    cc

pub bad_begin : (bs : List ℕ) (first : ℕ) (others : List ℕ) (out : List Token) (at : ℕ) → IsReadUpTo bs (first ∷ others) out at → kind_of first ≡ None → IsBadAt bs at
bad_begin bs first others out at before none =
    let ps = before.pieces in
    let upto : take (at + 0) bs ≡ flat_map text ps ++ [] = take_to bs (first ∷ others) ps at before.split before.place 0 in
    let next : take (at + 1) bs ≡ flat_map text ps ++ first ∷ [] = take_to bs (first ∷ others) ps at before.split before.place 1 in
    let more : suc at ≡ at + 1 = omega arith in
    record {
      within = omega (arith, before.room);
      before = (tokens_from 0 ps, record { pieces = ps; longest = pieces_cut ps [] (first ∷ others) before.longest; all = sym (append-nil (flat_map text ps)) ∙ sym upto ∙ ap (λ n. take n bs) (sym (plus_none at)); are = refl });
      after = λ ts are.
          let rest = same_front ps are.pieces (first ∷ []) (pieces_cut ps (first ∷ []) others before.longest) are.longest (are.all ∙ ap (λ n. take n bs) more ∙ next) in
          nothing_begins first none rest.rest rest.longest rest.all;
    }

-- a piece that passes its limit
too_long : (first : ℕ) (others : List ℕ) (most : ℕ) (kind : PieceKind) → kind_of first ≡ Some kind → limit kind ≡ Some most → most ≤ length others → AllPass (goes_on kind) (take most others)
    → (q : List Piece) → ArePieces q [] → flat_map text q ≡ first ∷ take most others → ⊥
too_long first others most kind begins lim long goes [] h e = cc
too_long first others most kind begins lim long goes (r ∷ qs) h e =
    let same : r.first ≡ first = cc in
    let tails : r.others ++ flat_map text qs ≡ take most others = cc in
    let same_kinds : r.kind ≡ kind = same_kind r.first first r.kind kind same h.0.begins begins in
    let stops : Stops (goes_on kind) (flat_map text qs) = subst (λ c. Stops (goes_on c) (flat_map text qs)) same_kinds (subst (Stops (goes_on r.kind)) (append-nil (flat_map text qs)) h.1) in
    let parts = same_run (goes_on kind) r.others (take most others) (flat_map text qs) [] (subst (λ c. AllPass (goes_on c) r.others) same_kinds h.0.goes) goes stops tt (tails ∙ sym (append-nil (take most others))) in
    let len = length-take-le most others long in
    omega (arith, h.0.within most (ap limit same_kinds ∙ lim), ap length parts.0, len)

bad_long : (bs : List ℕ) (first : ℕ) (others : List ℕ) (out : List Token) (at m : ℕ) (kind : PieceKind) → IsReadUpTo bs (first ∷ others) out at → kind_of first ≡ Some kind → limit kind ≡ Some (suc m) → suc m ≤ prefix_len (goes_on kind) others → IsBadAt bs (at + suc m)
bad_long bs first others out at m kind before begins lim long =
    let ps = before.pieces in
    let short = prefix_len-le-length (goes_on kind) others in
    let p : Piece = record { kind = kind; first = first; others = take m others } in
    let len : length (take m others) ≡ m = length-take-le m others (omega arith) in
    let goes : AllPass (goes_on kind) (take m others) = passes_less (goes_on kind) m (prefix_len (goes_on kind) others) others (omega arith) (run_passes (goes_on kind) others) in
    let goes2 : AllPass (goes_on kind) (take (suc m) others) = passes_less (goes_on kind) (suc m) (prefix_len (goes_on kind) others) others long (run_passes (goes_on kind) others) in
    let same_most : (most : ℕ) → limit kind ≡ Some most → suc m ≡ most = λ most e. let s : Some (suc m) ≡ Some most = sym lim ∙ e in cc in
    let is : IsPiece p = record { begins = begins; goes = goes; within = λ most e. omega (arith, len, same_most most e) } in
    let whole : text p ++ drop m others ≡ first ∷ others = ap (λ l. first ∷ l) (take-append-drop m others) in
    let cut2 : (first ∷ take (suc m) others) ++ drop (suc m) others ≡ first ∷ others = ap (λ l. first ∷ l) (take-append-drop (suc m) others) in
    let upto : take (at + suc m) bs ≡ flat_map text ps ++ text p = take_to bs (first ∷ others) ps at before.split before.place (suc m) in
    let next : take (at + suc (suc m)) bs ≡ flat_map text ps ++ first ∷ take (suc m) others = take_to bs (first ∷ others) ps at before.split before.place (suc (suc m)) in
    let more : suc (at + suc m) ≡ at + suc (suc m) = omega arith in
    let mine : ArePieces ps (text p ++ []) = subst (ArePieces ps) (sym (append-nil (text p))) (pieces_cut ps (text p) (drop m others) (subst (ArePieces ps) (sym whole) before.longest)) in
    record {
      within = omega (arith, before.room);
      before = (tokens_from 0 (ps ++ p ∷ []), record { pieces = ps ++ p ∷ []; longest = pieces_snoc ps p [] mine is tt; all = text_snoc ps p ∙ sym upto; are = refl });
      after = λ ts are.
          let rest = same_front ps are.pieces (first ∷ take (suc m) others) (pieces_cut ps (first ∷ take (suc m) others) (drop (suc m) others) (subst (ArePieces ps) (sym cut2) before.longest)) are.longest (are.all ∙ ap (λ n. take n bs) more ∙ next) in
          too_long first others (suc m) kind begins lim (omega arith) goes2 rest.rest rest.longest rest.all;
    }

limit_some : (kind : PieceKind) → limit kind ≡ Some 0 → ⊥
limit_some Blank e = cc
limit_some Comment e = cc
limit_some Word e = cc
limit_some Number e = cc
limit_some Dash e = cc
limit_some Mark e = cc
limit_some Newline e = cc

pub bad_over : (bs : List ℕ) (first : ℕ) (others : List ℕ) (out : List Token) (at most : ℕ) (kind : PieceKind) → IsReadUpTo bs (first ∷ others) out at → kind_of first ≡ Some kind → limit kind ≡ Some most → most < 1 + prefix_len (goes_on kind) others → IsBadAt bs (at + most)
bad_over bs first others out at zero kind before begins e long = absurd (limit_some kind e)
bad_over bs first others out at (suc m) kind before begins e long = bad_long bs first others out at m kind before begins e (omega arith)
