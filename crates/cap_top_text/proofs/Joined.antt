-- Pieces with separators, one more at a time.
use Rattle.std.proofs.Common.{◌≡◌, ℕ, zero, suc, ◌+◌, ◌<◌, List, [], ◌∷◌, ◌++◌, length, get_or, take, sym, ap, ◌∙◌, append_assoc, append-nil, add-one, arith}
use Rattle.std.specs.List.{flat_map}
use Rattle.std.proofs.Math.Seq.{take-suc}
use Rattle.std.proofs.lemmas.Grind.{flat_map-append}
use Rattle.cap_top_text.specs.Data.{joined}

joined-last : (separator : List ℕ) (first : List ℕ) (pieces : List (List ℕ)) (piece : List ℕ)
    → joined separator ((first ∷ pieces) ++ piece ∷ []) ≡ (joined separator (first ∷ pieces) ++ separator) ++ piece
joined-last separator first pieces piece =
    ap (λ l. first ++ l) (flat_map-append (λ next. separator ++ next) pieces (piece ∷ []) ∙ ap (λ l. flat_map (λ next. separator ++ next) pieces ++ l) (append-nil (separator ++ piece)))
    ∙ sym (append_assoc first (flat_map (λ next. separator ++ next) pieces) (separator ++ piece))
    ∙ sym (append_assoc (first ++ flat_map (λ next. separator ++ next) pieces) separator piece)

pub joined-start : (separator : List ℕ) (pieces : List (List ℕ)) → 0 < length pieces → joined separator (take 1 pieces) ≡ get_or pieces 0 []
joined-start separator [] some = absurd (omega arith)
joined-start separator (piece ∷ pieces) some = append-nil piece

pub joined-next : (separator : List ℕ) (pieces : List (List ℕ)) (i : ℕ) → i < length pieces → 0 < i
    → joined separator (take (i + 1) pieces) ≡ (joined separator (take i pieces) ++ separator) ++ get_or pieces i []
joined-next separator [] i below positive = absurd (omega arith)
joined-next separator (first ∷ pieces) zero below positive = absurd (omega arith)
joined-next separator (first ∷ pieces) (suc i) below positive =
    ap (λ n. joined separator (take n (first ∷ pieces))) (add-one (suc i))
    ∙ ap (joined separator) (take-suc (first ∷ pieces) (suc i) [] below)
    ∙ joined-last separator first (take i pieces) (get_or pieces i [])

-- a text that ends with the first i pieces, and then the next one behind its label
pub grown_start : (old out new label piece separator : List ℕ) (pieces : List (List ℕ)) (i : ℕ) → i ≡ 0 → i < length pieces
    → out ≡ old ++ joined separator (take i pieces) → label ≡ [] → new ≡ (out ++ label) ++ piece → get_or pieces i [] ≡ piece
    → new ≡ old ++ joined separator (take (i + 1) pieces)
grown_start old out new label piece separator pieces i start below before none grown at =
    grown
    ∙ ap (λ l. l ++ piece) (ap (λ l. out ++ l) none ∙ append-nil out ∙ before ∙ ap (λ n. old ++ joined separator (take n pieces)) start ∙ append-nil old)
    ∙ ap (λ l. old ++ l) (sym at ∙ ap (λ n. get_or pieces n []) start ∙ sym (joined-start separator pieces (omega arith)))
    ∙ ap (λ n. old ++ joined separator (take (n + 1) pieces)) (sym start)

pub grown_next : (old out new label piece separator : List ℕ) (pieces : List (List ℕ)) (i : ℕ) → 0 < i → i < length pieces
    → out ≡ old ++ joined separator (take i pieces) → label ≡ separator → new ≡ (out ++ label) ++ piece → get_or pieces i [] ≡ piece
    → new ≡ old ++ joined separator (take (i + 1) pieces)
grown_next old out new label piece separator pieces i positive below before same grown at =
    grown
    ∙ ap (λ l. l ++ piece) (ap (λ l. out ++ l) same ∙ ap (λ l. l ++ separator) before)
    ∙ ap (λ l. l ++ piece) (append_assoc old (joined separator (take i pieces)) separator)
    ∙ append_assoc old (joined separator (take i pieces) ++ separator) piece
    ∙ ap (λ l. old ++ ((joined separator (take i pieces) ++ separator) ++ l)) (sym at)
    ∙ ap (λ l. old ++ l) (sym (joined-next separator pieces i below positive))
