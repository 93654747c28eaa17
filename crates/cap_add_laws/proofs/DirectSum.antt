-- The additive closure is additive: the empty list, and one list after another.
use Rattle.std.proofs.Common.{◌≡◌, ◌≢◌, ℕ, ◌+◌, ◌-◌, ◌<◌, ◌≤◌, List, [], ◌++◌, length, get_or, refl, sym, ap, ◌∙◌, subst, arith, ⊎_elim, length-append}
use Rattle.std.proofs.lemmas.Bool.{cases_eq, cases_lt}
use Rattle.std.proofs.lemmas.List.{get_or_append_left, get_or-append_right}
use Rattle.cap_laws.specs.Linear.{Arrow, Same}
use Rattle.cap_laws.specs.Universal.{IsZeroObject, IsDirectSum}
use Rattle.cap_laws.specs.Table.{TableData, Combination, IsTable, table_data}
use Rattle.cap_laws.proofs.Calculus.{add-zero, zero-add}
use Rattle.cap_add_laws.specs.Closure.{MorphismMatrix, entry_of, AreObjects, diagonal_of, closure_data, closure_sum}
use Rattle.cap_add_laws.proofs.Entries.{entry-arrow, matrix-ext}
use Rattle.cap_add_laws.proofs.Linear.{Matches, diagonal-arrow, diagonal-on, diagonal-off, pick-row, pick-none, own-matches, identity-arrow, zero-arrow, zero-entry, add-arrow, add-entry, compose-arrow}

module _ {T : TableData} (V : IsTable T) where
  pub empty-objects : AreObjects T []
  empty-objects = record { each = λ i h. absurd (omega (arith, h)) }

  pub empty-is-zero : IsZeroObject (closure_data T) []
  empty-is-zero =
      let I = identity-arrow V [] empty-objects in
      let Z = zero-arrow V [] [] empty-objects empty-objects in
      record { object = empty-objects; unit = record { left = I; right = Z; congruent = matrix-ext I Z (λ i j hi hj. absurd (omega (arith, hi))) } }

  pub append-objects : {a b : List ℕ} → AreObjects T a → AreObjects T b → AreObjects T (a ++ b)
  append-objects {a} {b} A B = record {
    each = λ i h. ⊎_elim
        (λ (low : i < length a). subst (λ z. z < T.objects) (sym (get_or_append_left a b 0 i low)) (A.each i low))
        (λ (high : length a ≤ i). subst (λ z. z < T.objects) (sym (get_or-append_right a b (length a) i 0 refl high)) (B.each (i - length a) (omega (arith, h, high, length-append a b))))
        (cases_lt i (length a));
  }

  module _ {a b : List ℕ} (A : AreObjects T a) (B : AreObjects T b) where
    s : List ℕ
    s = a ++ b

    long : length (a ++ b) ≡ length a + length b
    long = length-append a b

    whole : AreObjects T (a ++ b)
    whole = append-objects A B

    in1-matches : Matches V a (a ++ b) 0 0
    in1-matches = record { at = λ i j hi hj e. let d : i ≡ j = omega (arith, e) in sym (ap (λ k. get_or (a ++ b) k 0) (sym d) ∙ get_or_append_left a b 0 i hi) }

    out1-matches : Matches V (a ++ b) a 0 0
    out1-matches = record { at = λ i j hi hj e. let d : i ≡ j = omega (arith, e) in ap (λ k. get_or (a ++ b) k 0) d ∙ get_or_append_left a b 0 j hj }

    second-at : (i : ℕ) → get_or (a ++ b) (length a + i) 0 ≡ get_or b i 0
    second-at i = get_or-append_right a b (length a) (length a + i) 0 refl (omega arith) ∙ ap (λ k. get_or b k 0) (let e : length a + i - length a ≡ i = omega arith in e)

    in2-matches : Matches V b (a ++ b) 0 (length a)
    in2-matches = record { at = λ i j hi hj e. let d : length a + i ≡ j = omega (arith, e) in sym (ap (λ k. get_or (a ++ b) k 0) (sym d) ∙ second-at i) }

    out2-matches : Matches V (a ++ b) b (length a) 0
    out2-matches = record { at = λ i j hi hj e. let d : i ≡ length a + j = omega (arith, e) in ap (λ k. get_or (a ++ b) k 0) d ∙ second-at j }

    i1-arrow : Arrow (closure_data T) a (a ++ b) (diagonal_of T a (a ++ b) 0 0)
    i1-arrow = diagonal-arrow V A whole in1-matches

    i2-arrow : Arrow (closure_data T) b (a ++ b) (diagonal_of T b (a ++ b) 0 (length a))
    i2-arrow = diagonal-arrow V B whole in2-matches

    p1-arrow : Arrow (closure_data T) (a ++ b) a (diagonal_of T (a ++ b) a 0 0)
    p1-arrow = diagonal-arrow V whole A out1-matches

    p2-arrow : Arrow (closure_data T) (a ++ b) b (diagonal_of T (a ++ b) b (length a) 0)
    p2-arrow = diagonal-arrow V whole B out2-matches

    -- i1·p1 = 1
    first-unit : (closure_data T).compose (diagonal_of T a (a ++ b) 0 0) (diagonal_of T (a ++ b) a 0 0) ≡ (closure_data T).identity a
    first-unit =
        matrix-ext (compose-arrow V i1-arrow p1-arrow) (identity-arrow V a A)
        (λ i k hi hk.
        let hj : i < length (a ++ b) = omega (arith, hi, long) in
        let at : get_or (a ++ b) i 0 ≡ get_or a i 0 = get_or_append_left a b 0 i hi in
        pick-row V A whole in1-matches p1-arrow i i k hi hj hk refl
        ∙ ⊎_elim
        (λ (e : i + 0 ≡ k + 0). diagonal-on V whole A out1-matches i k hj hk e ∙ ap (λ x. (table_data T).identity x) at ∙ sym (diagonal-on V A A (own-matches V a) i k hi hk e))
        (λ (ne : i + 0 ≢ k + 0). diagonal-off V whole A out1-matches i k hj hk ne ∙ ap (λ x. (table_data T).zero x (get_or a k 0)) at ∙ sym (diagonal-off V A A (own-matches V a) i k hi hk ne))
        (cases_eq (i + 0) (k + 0)))

    -- i2·p2 = 1
    second-unit : (closure_data T).compose (diagonal_of T b (a ++ b) 0 (length a)) (diagonal_of T (a ++ b) b (length a) 0) ≡ (closure_data T).identity b
    second-unit =
        matrix-ext (compose-arrow V i2-arrow p2-arrow) (identity-arrow V b B)
        (λ i k hi hk.
        let j = length a + i in
        let hj : j < length (a ++ b) = omega (arith, hi, long) in
        pick-row V B whole in2-matches p2-arrow i j k hi hj hk (omega arith)
        ∙ ⊎_elim
        (λ (e : i + 0 ≡ k + 0). diagonal-on V whole B out2-matches j k hj hk (omega (arith, e)) ∙ ap (λ x. (table_data T).identity x) (second-at i) ∙ sym (diagonal-on V B B (own-matches V b) i k hi hk e))
        (λ (ne : i + 0 ≢ k + 0). diagonal-off V whole B out2-matches j k hj hk (λ e. ne (omega (arith, e))) ∙ ap (λ x. (table_data T).zero x (get_or b k 0)) (second-at i) ∙ sym (diagonal-off V B B (own-matches V b) i k hi hk ne))
        (cases_eq (i + 0) (k + 0)))

    -- i1·p2 = 0 and i2·p1 = 0
    first-zero : (closure_data T).compose (diagonal_of T a (a ++ b) 0 0) (diagonal_of T (a ++ b) b (length a) 0) ≡ (closure_data T).zero a b
    first-zero =
        matrix-ext (compose-arrow V i1-arrow p2-arrow) (zero-arrow V a b A B)
        (λ i k hi hk.
        let hj : i < length (a ++ b) = omega (arith, hi, long) in
        pick-row V A whole in1-matches p2-arrow i i k hi hj hk refl
        ∙ diagonal-off V whole B out2-matches i k hj hk (λ e. absurd (omega (arith, e, hi)))
        ∙ ap (λ x. (table_data T).zero x (get_or b k 0)) (get_or_append_left a b 0 i hi) ∙ sym (zero-entry V a b A B i k hi hk))

    second-zero : (closure_data T).compose (diagonal_of T b (a ++ b) 0 (length a)) (diagonal_of T (a ++ b) a 0 0) ≡ (closure_data T).zero b a
    second-zero =
        matrix-ext (compose-arrow V i2-arrow p1-arrow) (zero-arrow V b a B A)
        (λ i k hi hk.
        let j = length a + i in
        let hj : j < length (a ++ b) = omega (arith, hi, long) in
        pick-row V B whole in2-matches p1-arrow i j k hi hj hk (omega arith)
        ∙ diagonal-off V whole A out1-matches j k hj hk (λ e. absurd (omega (arith, e, hk)))
        ∙ ap (λ x. (table_data T).zero x (get_or a k 0)) (second-at i) ∙ sym (zero-entry V b a B A i k hi hk))

    -- p1·i1 + p2·i2 = 1
    PI : Arrow (closure_data T) (a ++ b) (a ++ b) ((closure_data T).compose (diagonal_of T (a ++ b) a 0 0) (diagonal_of T a (a ++ b) 0 0))
    PI = compose-arrow V p1-arrow i1-arrow

    QJ : Arrow (closure_data T) (a ++ b) (a ++ b) ((closure_data T).compose (diagonal_of T (a ++ b) b (length a) 0) (diagonal_of T b (a ++ b) 0 (length a)))
    QJ = compose-arrow V p2-arrow i2-arrow

    total : (closure_data T).add ((closure_data T).compose (diagonal_of T (a ++ b) a 0 0) (diagonal_of T a (a ++ b) 0 0)) ((closure_data T).compose (diagonal_of T (a ++ b) b (length a) 0) (diagonal_of T b (a ++ b) 0 (length a))) ≡ (closure_data T).identity (a ++ b)
    total =
        let I = identity-arrow V (a ++ b) whole in
        matrix-ext (add-arrow V PI QJ) I
        (λ j l hj hl.
        let x = get_or (a ++ b) j 0 in
        let y = get_or (a ++ b) l 0 in
        let E = entry-arrow I j l hj hl in
        let unit : (z : Combination) → (j + 0 ≡ l + 0 → z ≡ (table_data T).identity x) → (j + 0 ≢ l + 0 → z ≡ (table_data T).zero x y) → z ≡ entry_of ((closure_data T).identity (a ++ b)) j l =
        λ z on off. ⊎_elim
        (λ (e : j + 0 ≡ l + 0). on e ∙ sym (diagonal-on V whole whole (own-matches V (a ++ b)) j l hj hl e))
        (λ (ne : j + 0 ≢ l + 0). off ne ∙ sym (diagonal-off V whole whole (own-matches V (a ++ b)) j l hj hl ne))
        (cases_eq (j + 0) (l + 0)) in
        add-entry V PI QJ j l hj hl
        ∙ ⊎_elim
        (λ (low : j < length a).
        let at : get_or (a ++ b) j 0 ≡ get_or a j 0 = get_or_append_left a b 0 j low in
        ap (λ z. (table_data T).add z (entry_of ((closure_data T).compose (diagonal_of T (a ++ b) b (length a) 0) (diagonal_of T b (a ++ b) 0 (length a))) j l))
        (pick-row V whole A out1-matches i1-arrow j j l hj low hl refl
        ∙ unit (entry_of (diagonal_of T a (a ++ b) 0 0) j l)
        (λ e. diagonal-on V A whole in1-matches j l low hl e ∙ ap (λ w. (table_data T).identity w) (sym at))
        (λ ne. diagonal-off V A whole in1-matches j l low hl ne ∙ ap (λ w. (table_data T).zero w y) (sym at)))
        ∙ ap (λ z. (table_data T).add (entry_of ((closure_data T).identity (a ++ b)) j l) z) (pick-none V whole B out2-matches i2-arrow j l hj hl (λ i hi e. absurd (omega (arith, e, low))))
        ∙ (add-zero V.linear E).congruent)
        (λ (high : length a ≤ j).
        let i = j - length a in
        let hi : i < length b = omega (arith, high, hj, long) in
        let at : get_or (a ++ b) j 0 ≡ get_or b i 0 = get_or-append_right a b (length a) j 0 refl high in
        ap (λ z. (table_data T).add z (entry_of ((closure_data T).compose (diagonal_of T (a ++ b) b (length a) 0) (diagonal_of T b (a ++ b) 0 (length a))) j l))
        (pick-none V whole A out1-matches i1-arrow j l hj hl (λ k hk e. absurd (omega (arith, e, hk, high))))
        ∙ ap (λ z. (table_data T).add ((table_data T).zero x y) z)
        (pick-row V whole B out2-matches i2-arrow j i l hj hi hl (omega (arith, high))
        ∙ unit (entry_of (diagonal_of T b (a ++ b) 0 (length a)) i l)
        (λ e. diagonal-on V B whole in2-matches i l hi hl (omega (arith, e, high)) ∙ ap (λ w. (table_data T).identity w) (sym at))
        (λ ne. diagonal-off V B whole in2-matches i l hi hl (λ e. ne (omega (arith, e, high))) ∙ ap (λ w. (table_data T).zero w y) (sym at)))
        ∙ (zero-add V.linear E).congruent)
        (cases_lt j (length a)))

    same-of : {x y : List ℕ} {f g : MorphismMatrix} → Arrow (closure_data T) x y f → f ≡ g → Same (closure_data T) x y f g
    same-of {x} {y} p e = record { left = p; right = subst (λ z. Arrow (closure_data T) x y z) e p; congruent = e }

    pub sum-is : let d = closure_sum T a b in IsDirectSum (closure_data T) ((closure_data T).target d.i1) a b d.i1 d.i2 d.p1 d.p2
    sum-is = record {
      in1 = i1-arrow;
      in2 = i2-arrow;
      out1 = p1-arrow;
      out2 = p2-arrow;
      unit1 = same-of (compose-arrow V i1-arrow p1-arrow) first-unit;
      unit2 = same-of (compose-arrow V i2-arrow p2-arrow) second-unit;
      zero12 = same-of (compose-arrow V i1-arrow p2-arrow) first-zero;
      zero21 = same-of (compose-arrow V i2-arrow p1-arrow) second-zero;
      total = same-of (add-arrow V PI QJ) total;
    }
