-- Each text has tokens or a bad byte.
use Rattle.std.proofs.Common.{◌≡◌, ℕ, zero, suc, ◌+◌, ◌<◌, ◌≤◌, List, [], ◌∷◌, ◌++◌, length, take, drop, Option, Some, None, refl, sym, ◌∙◌, subst, inl, inr, ⊎_elim, arith, length-drop}
use Rattle.std.specs.Prelude.{◌⊎◌}
use Rattle.std.specs.List.{prefix_len}
use Rattle.std.proofs.lemmas.Bool.{cases_lt}
use Rattle.cap_names.specs.declared.token.PieceKind.{PieceKind}
use Rattle.cap_names.specs.declared.token.Token.{Token}
use Rattle.cap_names.specs.Tokens.{kind_of, goes_on, limit, AreTokens, IsBadAt}
use Rattle.cap_names.specs.Laws.{HasTokens, TokensOrBadByte, FrontsBeforeBadByte}
use Rattle.cap_names.proofs.Pieces.{IsReadUpTo, read_more, read_none, read_all, token_of, take_take, tokens_of_front}
use Rattle.cap_names.proofs.BadBytes.{bad_begin, bad_over}

none_or_some : {A : Type 0} (o : Option A) → (o ≡ None) ⊎ ((x : A) × (o ≡ Some x))
none_or_some None = inl refl
none_or_some (Some x) = inr (x, refl)

decided : (most : ℕ) (bs rest : List ℕ) (out : List Token) (at : ℕ) → length rest ≤ most → IsReadUpTo bs rest out at → HasTokens bs ⊎ ((n : ℕ) × IsBadAt bs n)
decided most bs [] out at le before = inl (out, read_all bs out at before)
decided zero bs (first ∷ others) out at le before = absurd (omega arith)
decided (suc most) bs (first ∷ others) out at le before =
    ⊎_elim
    (λ none. inr (at, bad_begin bs first others out at before none))
    (λ begins.
    let kind : PieceKind = begins.0 in
    let n : ℕ = prefix_len (goes_on kind) others in
    let more : ((limit_of : ℕ) → limit kind ≡ Some limit_of → 1 + n ≤ limit_of) → HasTokens bs ⊎ ((n : ℕ) × IsBadAt bs n) =
    λ within.
    decided most bs (drop n others) (out ++ token_of kind at (at + (1 + n))) (at + (1 + n)) (omega (arith, length-drop n others))
    (read_more bs first others out at n kind before begins.1 refl within)
    in
    ⊎_elim
    (λ none. more (λ limit_of e. let clash : None ≡ Some limit_of = sym none ∙ e in cc))
    (λ some.
    ⊎_elim
    (λ (long : some.0 < 1 + n). inr (at + some.0, bad_over bs first others out at some.0 kind before begins.1 some.1 long))
    (λ (short : 1 + n ≤ some.0). more (λ limit_of e. let same : Some some.0 ≡ Some limit_of = sym some.1 ∙ e in let same_limit : some.0 ≡ limit_of = cc in omega arith))
    (cases_lt some.0 (1 + n)))
    (none_or_some (limit kind)))
    (none_or_some (kind_of first))

pub tokens_or_bad_byte : TokensOrBadByte
tokens_or_bad_byte bs = decided (length bs) bs bs [] 0 (omega arith) (read_none bs)

pub fronts_before_bad_byte : FrontsBeforeBadByte
fronts_before_bad_byte bs n bad m le = (
  λ has.
      ⊎_elim
      (λ (lt : n < m).
      let front = tokens_of_front (take m bs) has.0 (suc n) has.1 in
      absurd (bad.after front.0 (subst (λ l. AreTokens l front.0) (take_take (suc n) m bs (omega arith)) front.1)))
      (λ (ge : m ≤ n). ge)
      (cases_lt n m),
  λ before. let front = tokens_of_front (take n bs) bad.before.0 m bad.before.1 in (front.0, subst (λ l. AreTokens l front.0) (take_take m n bs before) front.1),
)
