use Rattle.std.proofs.Common.{◌≡◌, ℕ, ◌+◌, ◌*◌, ◌%◌, ◌<◌, List, [], length, get_or, refl, sym, ap, ◌∙◌, subst, arith}
use Rattle.std.proofs.lemmas.List.{get_or_default}
use Rattle.cap_laws.specs.Linear.{Arrow}
use Rattle.cap_laws.specs.Table.{TableData, table_data, row_below}
use Rattle.cap_add_laws.specs.Closure.{MorphismMatrix, IsMorphismMatrix, entry_of, closure_data}
use Rattle.cap_addclosure.proofs.Built.{entry-next, all-entries}
use Rattle.cap_addclosure.proofs.Places.{places-many, place-residues, sum-place}
use Rattle.cap_addclosure.proofs.linear.sum_entries.Goals as goal

first : {T : TableData} {f : MorphismMatrix} → IsMorphismMatrix T f → Arrow (closure_data T) f.from f.to f
first F = record { is = F; from = refl; to = refl }

pub row_sum-requires-clause-long : goal.row_sum-requires-clause-long
row_sum-requires-clause-long g c =
    let f = c.args.f.now in
    let h = c.args.g.now in
    let k = c.loop-k.k in
    let T = g.T.Table.table c.args.table.now in
    let p : Arrow (closure_data T) f.from f.to f = first c.requires.left in
    let q : Arrow (closure_data T) f.from f.to h = record { is = c.requires.right; from = sym c.requires.sources; to = sym c.requires.targets } in
    let lx = ap (λ (z : List (List ℕ)). length z) c.entries-x.ensures.value in
    let ly = ap (λ (z : List (List ℕ)). length z) c.entries-y.ensures.value in
    let inside : k < length f.from * length f.to = omega (arith, c.loop-k-test.true, lx, places-many p) in
    let x = c.as_slice.ensures ∙ c.index-x-k.is ∙ get_or_default c.entries-x.result.now k c.index-x-k.result [] c.loop-k-test.true ∙ ap (λ (z : List (List ℕ)). get_or z k []) c.entries-x.ensures.value in
    let y = c.as_slice-in-loop-k.ensures ∙ c.index-y-k.is ∙ get_or_default c.entries-y.result.now k c.index-y-k.result [] (omega (arith, inside, ly, places-many q)) ∙ ap (λ (z : List (List ℕ)). get_or z k []) c.entries-y.ensures.value in
    ap (λ (z : List ℕ). length z) y ∙ (place-residues q k inside).long ∙ sym (ap (λ (z : List ℕ). length z) x ∙ (place-residues p k inside).long)

pub row_sum-requires-clause-left : goal.row_sum-requires-clause-left
row_sum-requires-clause-left g c =
    let f = c.args.f.now in
    let k = c.loop-k.k in
    let T = g.T.Table.table c.args.table.now in
    let p : Arrow (closure_data T) f.from f.to f = first c.requires.left in
    let lx = ap (λ (z : List (List ℕ)). length z) c.entries-x.ensures.value in
    let inside : k < length f.from * length f.to = omega (arith, c.loop-k-test.true, lx, places-many p) in
    let x = c.as_slice.ensures ∙ c.index-x-k.is ∙ get_or_default c.entries-x.result.now k c.index-x-k.result [] c.loop-k-test.true ∙ ap (λ (z : List (List ℕ)). get_or z k []) c.entries-x.ensures.value in
    let R = place-residues p k inside in
    λ i lt. subst (λ n. get_or c.as_slice.result.now i 0 < n) c.field-field.ensures
    (subst (λ (z : List ℕ). get_or z i 0 < T.prime) (sym x) (R.residues i (let e = ap (λ (z : List ℕ). length z) x in omega (arith, lt, e, R.long))))

pub row_sum-requires-clause-right : goal.row_sum-requires-clause-right
row_sum-requires-clause-right g c =
    let f = c.args.f.now in
    let h = c.args.g.now in
    let k = c.loop-k.k in
    let T = g.T.Table.table c.args.table.now in
    let p : Arrow (closure_data T) f.from f.to f = first c.requires.left in
    let q : Arrow (closure_data T) f.from f.to h = record { is = c.requires.right; from = sym c.requires.sources; to = sym c.requires.targets } in
    let lx = ap (λ (z : List (List ℕ)). length z) c.entries-x.ensures.value in
    let ly = ap (λ (z : List (List ℕ)). length z) c.entries-y.ensures.value in
    let inside : k < length f.from * length f.to = omega (arith, c.loop-k-test.true, lx, places-many p) in
    let y = c.as_slice-in-loop-k.ensures ∙ c.index-y-k.is ∙ get_or_default c.entries-y.result.now k c.index-y-k.result [] (omega (arith, inside, ly, places-many q)) ∙ ap (λ (z : List (List ℕ)). get_or z k []) c.entries-y.ensures.value in
    let R = place-residues q k inside in
    λ i lt. subst (λ n. get_or c.as_slice-in-loop-k.result.now i 0 < n) c.field-field.ensures
    (subst (λ (z : List ℕ). get_or z i 0 < T.prime) (sym y) (R.residues i (let e = ap (λ (z : List ℕ). length z) y in omega (arith, lt, e, R.long))))

pub loop-k-preserved : goal.loop-k-preserved
loop-k-preserved g c =
    let f = c.args.f.now in
    let h = c.args.g.now in
    let k = c.loop-k.k in
    let T = g.T.Table.table c.args.table.now in
    let p : Arrow (closure_data T) f.from f.to f = first c.requires.left in
    let q : Arrow (closure_data T) f.from f.to h = record { is = c.requires.right; from = sym c.requires.sources; to = sym c.requires.targets } in
    let lx = ap (λ (z : List (List ℕ)). length z) c.entries-x.ensures.value in
    let ly = ap (λ (z : List (List ℕ)). length z) c.entries-y.ensures.value in
    let below : k < length f.entries = omega (arith, c.loop-k-test.true, lx) in
    let x = c.as_slice.ensures ∙ c.index-x-k.is ∙ get_or_default c.entries-x.result.now k c.index-x-k.result [] c.loop-k-test.true ∙ ap (λ (z : List (List ℕ)). get_or z k []) c.entries-x.ensures.value in
    let y = c.as_slice-in-loop-k.ensures ∙ c.index-y-k.is ∙ get_or_default c.entries-y.result.now k c.index-y-k.result [] (omega (arith, below, ly, places-many p, places-many q)) ∙ ap (λ (z : List (List ℕ)). get_or z k []) c.entries-y.ensures.value in
    let sum = λ (u v : List ℕ) (n : ℕ). row_below (length u) (λ i. (get_or u i 0 + get_or v i 0) % n) in
    c.in_ok-push.ensures.items
    ∙ entry-next f.from f.to (λ i j. (table_data T).add (entry_of f i j) (entry_of h i j)) k c.loop-k.entries.items c.in_ok-entry.entry c.loop-k.invariant
    (sum-place p q k below c.in_ok-entry.entry
    (c.in_ok-entry.ensures ∙ ap (λ u. sum u c.as_slice-in-loop-k.result.now c.field-field.result) x ∙ ap (λ v. sum (get_or f.entries k []) v c.field-field.result) y
    ∙ ap (λ n. sum (get_or f.entries k []) (get_or h.entries k []) n) (sym c.field-field.ensures)))

pub returns : goal.returns
returns g c =
    let T = g.T.Table.table c.args.table.now in
    let f = c.args.f.now in
    let h = c.args.g.now in
    let p : Arrow (closure_data T) f.from f.to f = first c.requires.left in
    let done : c.loop-k.k ≡ length c.entries-x.result.now = omega (arith, c.loop-k-test.false, c.loop-k.auto.k-end) in
    all-entries f.from f.to (λ i j. (table_data T).add (entry_of f i j) (entry_of h i j)) c.loop-k.k c.loop-k.entries.items c.loop-k.invariant
    (done ∙ ap (λ (z : List (List ℕ)). length z) c.entries-x.ensures.value ∙ places-many p)
