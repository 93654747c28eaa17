use Rattle.std.proofs.Common.{◌≡◌, ◌≢◌, ℕ, ◌+◌, ◌*◌, ◌/◌, ◌%◌, ◌<◌, List, [], length, get_or, sym, ap, ◌∙◌, subst, arith, ⊎_elim}
use Rattle.std.proofs.lemmas.Bool.{cases_eq}
use Rattle.std.proofs.lemmas.List.{get_or_default}
use Rattle.cap_laws.specs.Table.{TableData, width_of}
use Rattle.cap_add_laws.proofs.Structure.{width-at}
use Rattle.cap_addclosure.specs.Shapes.{HasWidth, HasWidths}
use Rattle.cap_addclosure.proofs.shape.first_wrong.Goals as goal

-- the number of coefficients of an element of the list, and of the entry there
has-width : (T : TableData) (a b : List ℕ) (entries : List (List ℕ)) (k : ℕ) (x : List ℕ) → length entries ≡ length a * length b → k < length entries → x ≡ get_or entries k x → (n w : ℕ) → n ≡ length x
    → w ≡ width_of T (get_or a (k / length b) 0) (get_or b (k % length b) 0) → n ≡ w → HasWidth T a b entries k
has-width T a b entries k x many lt e n w en ew s =
    sym (en ∙ ap (λ (z : List ℕ). length z) (e ∙ get_or_default entries k x [] lt)) ∙ s ∙ ew ∙ sym (width-at T a b k (omega (arith, lt, many)))

same-width : (T : TableData) (a b : List ℕ) (entries : List (List ℕ)) (k : ℕ) (x : List ℕ) → length entries ≡ length a * length b → k < length entries → x ≡ get_or entries k x → (n w : ℕ) → n ≡ length x
    → w ≡ width_of T (get_or a (k / length b) 0) (get_or b (k % length b) 0) → HasWidth T a b entries k → n ≡ w
same-width T a b entries k x many lt e n w en ew h =
    en ∙ ap (λ (z : List ℕ). length z) (e ∙ get_or_default entries k x [] lt) ∙ h ∙ width-at T a b k (omega (arith, lt, many)) ∙ sym ew

one-more : (T : TableData) (a b : List ℕ) (entries : List (List ℕ)) (k : ℕ) → HasWidths T a b entries k → HasWidth T a b entries k → HasWidths T a b entries (k + 1)
one-more T a b entries k h x q lt = ⊎_elim
    (λ (e : q ≡ k). subst (HasWidth T a b entries) (sym e) x)
    (λ (ne : q ≢ k). h q (omega (arith, lt, ne)))
    (cases_eq q k)

pub loop-k-preserved : goal.loop-k-preserved
loop-k-preserved g c =
    let T = g.T.Table.table c.args.table.now in
    let k = c.loop-k.k in
    one-more T c.args.a.now c.args.b.now c.args.entries.now k c.loop-k.invariant
    (has-width T c.args.a.now c.args.b.now c.args.entries.now k c.index-entries-k.result c.requires.many c.loop-k-test.true c.index-entries-k.is c.len.result c.width.result c.len.ensures c.width.ensures.value c.if-len-width.false)

pub returns-then-len-width : goal.returns-then-len-width
returns-then-len-width g c =
    let T = g.T.Table.table c.args.table.now in
    let k = c.loop-k.k in
    record {
      inside = c.loop-k-test.true;
      wrong = λ h. c.if-len-width.true
          (same-width T c.args.a.now c.args.b.now c.args.entries.now k c.index-entries-k.result c.requires.many c.loop-k-test.true c.index-entries-k.is c.len.result c.width.result c.len.ensures c.width.ensures.value h);
      before = c.loop-k.invariant;
    }
