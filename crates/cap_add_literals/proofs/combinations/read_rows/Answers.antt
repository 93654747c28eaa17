use Rattle.std.proofs.Common.{◌≡◌, ℕ, suc, ◌+◌, ◌*◌, ◌<◌, ◌≤◌, List, length, refl, sym, ap, ◌∙◌, subst, arith, inl, inr}
use Rattle.std.proofs.lemmas.Nat.{mul-le}
use Rattle.cap_laws.specs.Linear.{Arrow}
use Rattle.std.specs.Prelude.{Err}
use Rattle.cap_laws.specs.Answers.{Fits, Answers}
use Rattle.cap_add_laws.specs.Closure.{joined, closure_data, widths_of, sum_list}
use Rattle.cap_addclosure.specs.Sizes.{closure_size}
use Rattle.cap_addclosure.proofs.Built.{coefficients-few}
use Rattle.cap_encoded.proofs.Coefficients.{coefficients-joined}
use Rattle.cap_data.specs.Cells.{coefficients}
use Rattle.cap_data.specs.declared.data.MorData.TheVariants.{Entries}
use Rattle.cap_lincat.specs.Tables.{table_in}
use Rattle.cap_add_literals.specs.Combinations.{lists_of}
use Rattle.cap_offer.specs.Literals.{IsLeast, IsGiven}
use Rattle.cap_add_literals.specs.Literals.{IsWrongEntry, entries_literal}
use Rattle.cap_add_literals.proofs.EntryLiterals.{read-lists, no-wrong, least-wrong, given-entries, matrix-of-entries, table-some}
use Rattle.cap_add_literals.proofs.combinations.read_rows.Goals as goal

many-few : (n a b : ℕ) → n ≡ a * b → a ≤ 2048 → b ≤ 2048 → n ≤ 4194304
many-few n a b e h k = let most : a * b ≤ 2048 * 2048 = mul-le a b 2048 2048 h k in omega (arith, e, most)

pub first_wrong-requires-clause-many : goal.first_wrong-requires-clause-many
first_wrong-requires-clause-many c = (read-lists c.args.table.now.field (length c.args.a.now) (length c.args.b.now) c.args.lit.now c.deref.result.now (table-some c.args.table.now) c.requires.entries (c.if-not-has_size.ensures.0 refl)
    (c.deref.ensures.value ∙ c.in_ok-entries.ensures ∙ ap (lists_of c.field.result) c.as_slice.ensures ∙ ap (λ p. lists_of p c.args.lit.now.rows) (sym c.field.ensures))).many

pub overflow_add-result : goal.overflow_add-result
overflow_add-result c =
    let few = many-few _ _ _ (read-lists c.args.table.now.field (length c.args.a.now) (length c.args.b.now) c.args.lit.now c.deref.result.now (table-some c.args.table.now) c.requires.entries (c.if-not-has_size.ensures.0 refl)
    (c.deref.ensures.value ∙ c.in_ok-entries.ensures ∙ ap (lists_of c.field.result) c.as_slice.ensures ∙ ap (λ p. lists_of p c.args.lit.now.rows) (sym c.field.ensures))).many c.requires.short c.requires.narrow in
    let inside = c.in-Some.ensures.inside in
    omega (arith, few, inside)

pub returns-in-Some : goal.returns-in-Some
returns-in-Some c =
    let L = entries_literal (table_in c.args.table.now) c.args.a.now c.args.b.now c.args.lit.now in
    let k = c.in-Some.k in
    subst (IsLeast L.wrong) (let e : suc k ≡ k + 1 = omega arith in e)
    (least-wrong (table_in c.args.table.now) c.args.a.now c.args.b.now c.args.lit.now c.deref.result.now (read-lists c.args.table.now.field (length c.args.a.now) (length c.args.b.now) c.args.lit.now c.deref.result.now (table-some c.args.table.now) c.requires.entries (c.if-not-has_size.ensures.0 refl)
    (c.deref.ensures.value ∙ c.in_ok-entries.ensures ∙ ap (lists_of c.field.result) c.as_slice.ensures ∙ ap (λ p. lists_of p c.args.lit.now.rows) (sym c.field.ensures))) (c.if-not-has_size.ensures.0 refl) k c.in-Some.ensures)

pub new-requires-in-Ok-clause-many : goal.new-requires-in-Ok-clause-many
new-requires-in-Ok-clause-many c =
    let few = many-few _ _ _ (read-lists c.args.table.now.field (length c.args.a.now) (length c.args.b.now) c.args.lit.now c.deref.result.now (table-some c.args.table.now) c.requires.entries (c.if-not-has_size.ensures.0 refl)
    (c.deref.ensures.value ∙ c.in_ok-entries.ensures ∙ ap (lists_of c.field.result) c.as_slice.ensures ∙ ap (λ p. lists_of p c.args.lit.now.rows) (sym c.field.ensures))).many c.requires.short c.requires.narrow in
    let e = ap (λ (xs : List (List ℕ)). length xs) (c.new.ensures ∙ sym c.deref.ensures.value) in
    omega (arith, few, e)

pub new-requires-in-Ok-clause-cells : goal.new-requires-in-Ok-clause-cells
new-requires-in-Ok-clause-cells c =
    let T = table_in c.args.table.now in
    let A = read-lists c.args.table.now.field (length c.args.a.now) (length c.args.b.now) c.args.lit.now c.deref.result.now (table-some c.args.table.now) c.requires.entries (c.if-not-has_size.ensures.0 refl)
    (c.deref.ensures.value ∙ c.in_ok-entries.ensures ∙ ap (lists_of c.field.result) c.as_slice.ensures ∙ ap (λ p. lists_of p c.args.lit.now.rows) (sym c.field.ensures)) in
    let held = c.deref.result.now in
    let is = matrix-of-entries T c.args.a.now c.args.b.now c.args.lit.now held c.requires.from c.requires.to A (no-wrong T c.args.a.now c.args.b.now c.args.lit.now held A c.in_default.ensures) in
    let arrow : Arrow (closure_data T) c.args.a.now c.args.b.now (record { from = c.args.a.now; to = c.args.b.now; entries = held }) = record { is = is; from = refl; to = refl } in
    let few : length (joined held) ≤ 1048576 = coefficients-few arrow (c.in-Ok.ensures.1 (closure_size T c.args.a.now c.args.b.now) refl) in
    let e = ap (λ (xs : List (List ℕ)). coefficients xs) (c.new.ensures ∙ sym c.deref.ensures.value) in
    let j = coefficients-joined held in
    omega (arith, few, e, j)

pub returns-in-Ok : goal.returns-in-Ok
returns-in-Ok c =
    let T = table_in c.args.table.now in
    let held = c.deref.result.now in
    subst (λ xs. IsGiven (entries_literal T c.args.a.now c.args.b.now c.args.lit.now) (Entries xs)) (sym (c.new-in-Ok.ensures ∙ c.new.ensures ∙ sym c.deref.ensures.value))
    (given-entries T c.args.a.now c.args.b.now c.args.lit.now held (read-lists c.args.table.now.field (length c.args.a.now) (length c.args.b.now) c.args.lit.now c.deref.result.now (table-some c.args.table.now) c.requires.entries (c.if-not-has_size.ensures.0 refl)
    (c.deref.ensures.value ∙ c.in_ok-entries.ensures ∙ ap (lists_of c.field.result) c.as_slice.ensures ∙ ap (λ p. lists_of p c.args.lit.now.rows) (sym c.field.ensures))) (c.if-not-has_size.ensures.0 refl) c.in_default.ensures c.in-Ok.ensures.1)

pub returns-in-Err-TooLarge : goal.returns-in-Err-TooLarge
returns-in-Err-TooLarge c =
    let T = table_in c.args.table.now in
    let given : (part : ℕ) → IsWrongEntry T c.args.a.now c.args.b.now c.args.lit.now part → ⊥ = λ part wrong. no-wrong T c.args.a.now c.args.b.now c.args.lit.now c.deref.result.now (read-lists c.args.table.now.field (length c.args.a.now) (length c.args.b.now) c.args.lit.now c.deref.result.now (table-some c.args.table.now) c.requires.entries (c.if-not-has_size.ensures.0 refl)
    (c.deref.ensures.value ∙ c.in_ok-entries.ensures ∙ ap (lists_of c.field.result) c.as_slice.ensures ∙ ap (λ p. lists_of p c.args.lit.now.rows) (sym c.field.ensures))) c.in_default.ensures part wrong in
    record { shape = λ part wrong. elim wrong [ inl w ↦ w.1 (c.if-not-has_size.ensures.0 refl) | inr w ↦ given part w ]; names = subst (λ e. Answers {A = ℕ} (λ s. s ≡ closure_size T c.args.a.now c.args.b.now) (λ n. n ≡ sum_list (widths_of T c.args.a.now c.args.b.now)) (Err e)) c.in-Err-TooLarge.field-0-is c.in-Err-TooLarge.ensures }
