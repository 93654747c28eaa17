-- Where products are given, one more at a time.
use Rattle.std.proofs.Common.{◌≡◌, ℕ, ◌+◌, ◌*◌, ◌/◌, ◌%◌, ◌<◌, ◌≤◌, Option, Some, None, is_some, Bool, true, false, List, [], length, get_or, set, replicate, MatchOption, sym, ap, ◌∙◌, subst, arith, ⊎_elim}
use Rattle.std.proofs.lemmas.List.{length-set, length-replicate, get_or-replicate, get_or-set_other, get_or_default}
use Rattle.std.proofs.lemmas.Grind.{get_or-set_at}
use Rattle.std.proofs.lemmas.Nat.{div-mul-add, mod-mul-add, mul-add-lt}
use Rattle.std.proofs.lemmas.Bool.{cases_lt, cases_eq, false≢true}
use Rattle.cap_laws.specs.Table.{TableData}
use Rattle.cap_lincat.specs.declared.parts.ProductRow.{ProductRow}
use Rattle.cap_lincat.specs.Parts.{IsGiven, AreGiven, HasNone, HasAt, ArePlaces, given_at}
use Rattle.cap_lincat.proofs.ProductRows.{given-is}

weaken : (o : Option ℕ) (P R : Type 0) (Q S : ℕ → Type 0) → (P → R) → ((r : ℕ) → Q r → S r) → MatchOption o P Q → MatchOption o R S
weaken None P R Q S f g h = f h
weaken (Some r) P R Q S f g h = g r h

none-told : (o : Option ℕ) (P : Type 0) (Q : ℕ → Type 0) → is_some o ≡ false → MatchOption o P Q → P
none-told None P Q t h = h
none-told (Some r) P Q t h = absurd (false≢true (sym t))

some-clash : (o : Option ℕ) (P : Type 0) (Q : ℕ → Type 0) → is_some o ≡ true → MatchOption o P Q → ((r : ℕ) → Q r → ⊥) → ⊥
some-clash None P Q t h f = false≢true t
some-clash (Some r) P Q t h f = f r h

same-pair : (n i j a b : ℕ) → j < n → b < n → i * n + j ≡ a * n + b → (i ≡ a) × (j ≡ b)
same-pair n i j a b lj lb e = (
  sym (div-mul-add i n j lj) ∙ ap (λ m. m / n) e ∙ div-mul-add a n b lb,
  sym (mod-mul-add i n j lj) ∙ ap (λ m. m % n) e ∙ mod-mul-add a n b lb,
)

-- none is given at first
pub places-none : (products : List ProductRow) (n : ℕ) → ArePlaces products n (replicate (n * n) None) 0
places-none products n = record {
  long = length-replicate (n * n) None;
  at = λ i j li lj. subst (λ o. MatchOption o (HasNone products 0 i j) (λ r. HasAt products 0 i j r)) (sym (get_or-replicate (n * n) (i * n + j) None None (mul-add-lt i n j n li lj)))
      (λ r lt e f. absurd (omega (arith, lt)));
}

-- one more, for i and j
pub places-more : (products : List ProductRow) (n : ℕ) (places : List (Option ℕ)) (k : ℕ) → ArePlaces products n places k → (given_at products k).i < n → (given_at products k).j < n
    → ArePlaces products n (set places ((given_at products k).i * n + (given_at products k).j) (Some k)) (k + 1)
places-more products n places k A la lb =
    let a = (given_at products k).i in
    let b = (given_at products k).j in
    let m = a * n + b in
    let lt : m < n * n = mul-add-lt a n b n la lb in
    record {
      long = length-set places m (Some k) ∙ A.long;
      at = λ i j li lj. ⊎_elim
          (λ (same : i * n + j ≡ m).
          let p = same-pair n i j a b lj lb same in
          subst (λ o. MatchOption o (HasNone products (k + 1) i j) (λ r. HasAt products (k + 1) i j r)) (sym (get_or-set_at places m (i * n + j) (Some k) None same (omega (arith, lt, A.long))))
          (omega arith, sym p.0, sym p.1))
          (λ apart.
          subst (λ o. MatchOption o (HasNone products (k + 1) i j) (λ r. HasAt products (k + 1) i j r)) (sym (get_or-set_other places m (i * n + j) (Some k) None apart))
          (weaken (get_or places (i * n + j) None) (HasNone products k i j) (HasNone products (k + 1) i j) (λ r. HasAt products k i j r) (λ r. HasAt products (k + 1) i j r)
          (λ none r l e f. ⊎_elim
          (λ less. none r less e f)
          (λ ge.
          let here : r ≡ k = omega (arith, l, ge) in
          apart (ap (λ x. x * n + j) (sym e ∙ ap (λ q. (given_at products q).i) here) ∙ ap (λ y. a * n + y) (sym f ∙ ap (λ q. (given_at products q).j) here)))
          (cases_lt r k))
          (λ r h. (omega (arith, h.0), h.1, h.2))
          (A.at i j li lj)))
          (cases_eq (i * n + j) m);
    }

-- the next product, and what is listed at its place
module _ (T : TableData) (products : List ProductRow) (places : List (Option ℕ)) (k : ℕ) (row : ProductRow) (old : Option ℕ) (A : ArePlaces products (length T.basis) places k)
    (lt : k < length products) (e : row ≡ get_or products k row) (F : IsGiven T row) (o : old ≡ get_or places (row.i * length T.basis + row.j) old) where
  here : given_at products k ≡ row
  here = given-is products k row lt e

  told : MatchOption old (HasNone products k row.i row.j) (λ r. HasAt products k row.i row.j r)
  told =
      let n = length T.basis in
      let m = row.i * n + row.j in
      let inside : m < n * n = mul-add-lt row.i n row.j n F.first F.second in
      subst (λ x. MatchOption x (HasNone products k row.i row.j) (λ r. HasAt products k row.i row.j r)) (get_or_default places m None old (omega (arith, inside, A.long)) ∙ sym o) (A.at row.i row.j F.first F.second)

  pub given-twice : is_some old ≡ true → AreGiven T products → ⊥
  given-twice t G = some-clash old (HasNone products k row.i row.j) (λ r. HasAt products k row.i row.j r) t told
      (λ r h. G.once r k h.0 lt (h.1 ∙ ap (λ (x : ProductRow). x.i) (sym here)) (h.2 ∙ ap (λ (x : ProductRow). x.j) (sym here)))

  pub each-more : ((s : ℕ) → s < k → IsGiven T (given_at products s)) → (s : ℕ) → s < k + 1 → IsGiven T (given_at products s)
  each-more h s l = ⊎_elim
      (λ less. h s less)
      (λ ge. let same : k ≡ s = omega (arith, l, ge) in subst (λ q. IsGiven T (given_at products q)) same (subst (λ x. IsGiven T x) (sym here) F))
      (cases_lt s k)

  pub once-more : is_some old ≡ false → ((q s : ℕ) → q < s → s < k → (given_at products q).i ≡ (given_at products s).i → (given_at products q).j ≡ (given_at products s).j → ⊥)
      → (q s : ℕ) → q < s → s < k + 1 → (given_at products q).i ≡ (given_at products s).i → (given_at products q).j ≡ (given_at products s).j → ⊥
  once-more t h q s ql sl a b = ⊎_elim
      (λ less. h q s ql less a b)
      (λ ge.
      let same : s ≡ k = omega (arith, sl, ge) in
      none-told old (HasNone products k row.i row.j) (λ r. HasAt products k row.i row.j r) t told q (omega (arith, ql, same))
      (a ∙ ap (λ x. (given_at products x).i) same ∙ ap (λ (x : ProductRow). x.i) here) (b ∙ ap (λ x. (given_at products x).j) same ∙ ap (λ (x : ProductRow). x.j) here))
      (cases_lt s k)

  pub listed-more : ArePlaces products (length T.basis) (set places (row.i * length T.basis + row.j) (Some k)) (k + 1)
  listed-more =
      let n = length T.basis in
      subst (λ (x : ProductRow). ArePlaces products n (set places (x.i * n + x.j) (Some k)) (k + 1)) here
      (places-more products n places k A (subst (λ (x : ProductRow). x.i < n) (sym here) F.first) (subst (λ (x : ProductRow). x.j < n) (sym here) F.second))
