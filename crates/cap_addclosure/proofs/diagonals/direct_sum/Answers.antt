use Rattle.std.proofs.Common.{◌≡◌, ℕ, ◌+◌, ◌⊎◌, inl, inr, List, ◌++◌, length, get_or, Err, Result, refl, sym, ap, ◌∙◌, subst, arith, rules, length-append}
use Rattle.cap_laws.specs.Answers.{Size, Fits, Answers}
use Rattle.cap_laws.specs.declared.faults.CatFault.{CatFault}
use Rattle.cap_laws.specs.declared.values.Sum.{Sum}
use Rattle.cap_add_laws.specs.Closure.{MorphismMatrix, AreObjects, diagonal_of, closure_sum}
use Rattle.cap_add_laws.proofs.DirectSum.{append-objects}
use Rattle.cap_addclosure.specs.Sizes.{closure_size, IsSizeInSum}
use Rattle.cap_addclosure.proofs.Faults.{fault-of, either-fits}
use Rattle.cap_addclosure.proofs.Limits.{uncut}
use Rattle.cap_addclosure.proofs.Units.{first-equal, second-equal}
use Rattle.cap_addclosure.proofs.diagonals.direct_sum.Goals as goal

pub diagonal-requires-clause-to : goal.diagonal-requires-clause-to
diagonal-requires-clause-to g c =
    let T = g.T.Table.table c.args.table.now in
    let V = g.met.T.Table.valid c.args.table.now in
    subst (λ (z : List ℕ). AreObjects T z) (sym c.in_ok-s.ensures) (append-objects V c.requires.left c.requires.right)

pub diagonal-requires-clause-equal : goal.diagonal-requires-clause-equal
diagonal-requires-clause-equal g c = λ i j hi hj e. first-equal c.args.a.now c.args.b.now i j hi e ∙ ap (λ (z : List ℕ). get_or z j 0) (sym c.in_ok-s.ensures)

pub diagonal-requires-2-clause-to : goal.diagonal-requires-2-clause-to
diagonal-requires-2-clause-to g c =
    let T = g.T.Table.table c.args.table.now in
    let V = g.met.T.Table.valid c.args.table.now in
    subst (λ (z : List ℕ). AreObjects T z) (sym c.in_ok-s.ensures) (append-objects V c.requires.left c.requires.right)

pub diagonal-requires-2-clause-equal : goal.diagonal-requires-2-clause-equal
diagonal-requires-2-clause-equal g c =
    let n = ap (λ (z : List ℕ). length z) c.parts.ensures.value in
    λ i j hi hj e. second-equal c.args.a.now c.args.b.now i j (omega (arith, e, n)) ∙ ap (λ (z : List ℕ). get_or z j 0) (sym c.in_ok-s.ensures)

pub diagonal-requires-3-clause-from : goal.diagonal-requires-3-clause-from
diagonal-requires-3-clause-from g c =
    let T = g.T.Table.table c.args.table.now in
    let V = g.met.T.Table.valid c.args.table.now in
    subst (λ (z : List ℕ). AreObjects T z) (sym c.in_ok-s.ensures) (append-objects V c.requires.left c.requires.right)

pub diagonal-requires-3-clause-equal : goal.diagonal-requires-3-clause-equal
diagonal-requires-3-clause-equal g c = λ i j hi hj e. sym (first-equal c.args.a.now c.args.b.now j i hj (sym e) ∙ ap (λ (z : List ℕ). get_or z i 0) (sym c.in_ok-s.ensures))

pub diagonal-requires-4-clause-from : goal.diagonal-requires-4-clause-from
diagonal-requires-4-clause-from g c =
    let T = g.T.Table.table c.args.table.now in
    let V = g.met.T.Table.valid c.args.table.now in
    subst (λ (z : List ℕ). AreObjects T z) (sym c.in_ok-s.ensures) (append-objects V c.requires.left c.requires.right)

pub diagonal-requires-4-clause-equal : goal.diagonal-requires-4-clause-equal
diagonal-requires-4-clause-equal g c =
    let n = ap (λ (z : List ℕ). length z) c.parts.ensures.value in
    λ i j hi hj e. sym (second-equal c.args.a.now c.args.b.now j i (omega (arith, e, n)) ∙ ap (λ (z : List ℕ). get_or z i 0) (sym c.in_ok-s.ensures))

pub returns-in_err-i1 : goal.returns-in_err-i1
returns-in_err-i1 g c =
    let T = g.T.Table.table c.args.table.now in
    let a = c.args.a.now in
    let b = c.args.b.now in
    let s = c.in_ok-s.s in
    let e = c.in_err-i1.field-0.0 in
    let is : c.from_residual-in_err-i1.result ≡ Err e = search rules in
    subst (λ (x : Result (Sum MorphismMatrix) CatFault). Answers (IsSizeInSum T a b) (λ x. x ≡ closure_sum T a b) x) (sym is)
    (fault-of (IsSizeInSum T a b) (λ z. z ≡ closure_size T a s) (λ x. x ≡ closure_sum T a b) (λ x. x ≡ diagonal_of T a s 0 0) e
    (λ z m. inl (inl (m ∙ ap (λ (q : List ℕ). closure_size T a q) c.in_ok-s.ensures))) c.in_err-i1.ensures)

pub returns-in_err-i2 : goal.returns-in_err-i2
returns-in_err-i2 g c =
    let T = g.T.Table.table c.args.table.now in
    let a = c.args.a.now in
    let b = c.args.b.now in
    let s = c.in_ok-s.s in
    let e = c.in_err-i2.field-0.0 in
    let is : c.from_residual-in_err-i2.result ≡ Err e = search rules in
    subst (λ (x : Result (Sum MorphismMatrix) CatFault). Answers (IsSizeInSum T a b) (λ x. x ≡ closure_sum T a b) x) (sym is)
    (fault-of (IsSizeInSum T a b) (λ z. z ≡ closure_size T b s) (λ x. x ≡ closure_sum T a b) (λ x. x ≡ diagonal_of T b s 0 (length c.parts.result.now)) e
    (λ z m. inl (inr (m ∙ ap (λ (q : List ℕ). closure_size T b q) c.in_ok-s.ensures))) c.in_err-i2.ensures)

pub returns-in_err-p1 : goal.returns-in_err-p1
returns-in_err-p1 g c =
    let T = g.T.Table.table c.args.table.now in
    let a = c.args.a.now in
    let b = c.args.b.now in
    let s = c.in_ok-s.s in
    let e = c.in_err-p1.field-0.0 in
    let is : c.from_residual-in_err-p1.result ≡ Err e = search rules in
    subst (λ (x : Result (Sum MorphismMatrix) CatFault). Answers (IsSizeInSum T a b) (λ x. x ≡ closure_sum T a b) x) (sym is)
    (fault-of (IsSizeInSum T a b) (λ z. z ≡ closure_size T s a) (λ x. x ≡ closure_sum T a b) (λ x. x ≡ diagonal_of T s a 0 0) e
    (λ z m. inr (inl (m ∙ ap (λ (q : List ℕ). closure_size T q a) c.in_ok-s.ensures))) c.in_err-p1.ensures)

pub returns-in_err-p2 : goal.returns-in_err-p2
returns-in_err-p2 g c =
    let T = g.T.Table.table c.args.table.now in
    let a = c.args.a.now in
    let b = c.args.b.now in
    let s = c.in_ok-s.s in
    let e = c.in_err-p2.field-0.0 in
    let is : c.from_residual-in_err-p2.result ≡ Err e = search rules in
    subst (λ (x : Result (Sum MorphismMatrix) CatFault). Answers (IsSizeInSum T a b) (λ x. x ≡ closure_sum T a b) x) (sym is)
    (fault-of (IsSizeInSum T a b) (λ z. z ≡ closure_size T s b) (λ x. x ≡ closure_sum T a b) (λ x. x ≡ diagonal_of T s b (length c.parts.result.now) 0) e
    (λ z m. inr (inr (m ∙ ap (λ (q : List ℕ). closure_size T q b) c.in_ok-s.ensures))) c.in_err-p2.ensures)

pub returns-then-count : goal.returns-then-count
returns-then-count g c =
    let T = g.T.Table.table c.args.table.now in
    let a = c.args.a.now in
    let b = c.args.b.now in
    let n = ap (λ (z : List ℕ). length z) c.parts.ensures.value in
    let m = ap (λ (z : List ℕ). length z) c.parts-2.ensures.value in
    let all : length c.parts.result.now + length c.parts-2.result.now ≡ length (a ++ b) = ap (λ k. k + length c.parts-2.result.now) n ∙ ap (λ k. length a + k) m ∙ sym (length-append a b) in
    record {
      size = closure_size T a (a ++ b);
      is_met = inl (inl refl);
      past = λ (h : Fits (closure_size T a (a ++ b))). omega (arith, h.columns, all, c.if-count.true);
      rows_named = n ∙ uncut (length a) (omega (arith, c.parts.ensures.few, n));
      columns_named = all ∙ uncut (length (a ++ b)) (omega (arith, c.parts.ensures.few, c.parts-2.ensures.few, n, m, all));
    }

pub returns : goal.returns
returns g c =
    let T = g.T.Table.table c.args.table.now in
    let a = c.args.a.now in
    let b = c.args.b.now in
    let es = c.in_ok-s.ensures in
    let n = ap (λ (z : List ℕ). length z) c.parts.ensures.value in
    let m = length c.parts.result.now in
    let make = λ (w x y z : MorphismMatrix). let d : Sum MorphismMatrix = record { i1 = w; i2 = x; p1 = y; p2 = z } in d in
    let e1 = c.in_ok-i1.ensures.0 ∙ ap (λ (z : List ℕ). diagonal_of T a z 0 0) es in
    let e2 = c.in_ok-i2.ensures.0 ∙ ap (λ (z : List ℕ). diagonal_of T b z 0 m) es ∙ ap (λ k. diagonal_of T b (a ++ b) 0 k) n in
    let e3 = c.in_ok-p1.ensures.0 ∙ ap (λ (z : List ℕ). diagonal_of T z a 0 0) es in
    let e4 = c.in_ok-p2.ensures.0 ∙ ap (λ (z : List ℕ). diagonal_of T z b m 0) es ∙ ap (λ k. diagonal_of T (a ++ b) b k 0) n in
    let d = closure_sum T a b in (
      ap (λ w. make w c.in_ok-i2.i2 c.in_ok-p1.p1 c.in_ok-p2.p2) e1 ∙ ap (λ x. make d.i1 x c.in_ok-p1.p1 c.in_ok-p2.p2) e2 ∙ ap (λ y. make d.i1 d.i2 y c.in_ok-p2.p2) e3 ∙ ap (λ z. make d.i1 d.i2 d.p1 z) e4,
      either-fits (λ s. (s ≡ closure_size T a (a ++ b)) ⊎ (s ≡ closure_size T b (a ++ b))) (λ s. (s ≡ closure_size T (a ++ b) a) ⊎ (s ≡ closure_size T (a ++ b) b))
          (either-fits (λ s. s ≡ closure_size T a (a ++ b)) (λ s. s ≡ closure_size T b (a ++ b))
          (subst (λ (z : List ℕ). (s : Size) → s ≡ closure_size T a z → Fits s) es c.in_ok-i1.ensures.1) (subst (λ (z : List ℕ). (s : Size) → s ≡ closure_size T b z → Fits s) es c.in_ok-i2.ensures.1))
          (either-fits (λ s. s ≡ closure_size T (a ++ b) a) (λ s. s ≡ closure_size T (a ++ b) b)
          (subst (λ (z : List ℕ). (s : Size) → s ≡ closure_size T z a → Fits s) es c.in_ok-p1.ensures.1) (subst (λ (z : List ℕ). (s : Size) → s ≡ closure_size T z b → Fits s) es c.in_ok-p2.ensures.1)),
    )
