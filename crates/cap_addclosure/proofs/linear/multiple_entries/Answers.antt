use Rattle.std.proofs.Common.{◌≡◌, ℕ, ◌*◌, ◌%◌, ◌<◌, List, [], length, get_or, refl, sym, ap, ◌∙◌, subst, arith}
use Rattle.std.proofs.lemmas.List.{get_or_default}
use Rattle.cap_laws.specs.Linear.{Arrow}
use Rattle.cap_laws.specs.Table.{TableData, table_data, row_below}
use Rattle.cap_add_laws.specs.Closure.{MorphismMatrix, IsMorphismMatrix, entry_of, closure_data}
use Rattle.cap_addclosure.proofs.Built.{entry-next, all-entries}
use Rattle.cap_addclosure.proofs.Places.{places-many, place-residues, multiple-place}
use Rattle.cap_addclosure.proofs.linear.multiple_entries.Goals as goal

first : {T : TableData} {f : MorphismMatrix} → IsMorphismMatrix T f → Arrow (closure_data T) f.from f.to f
first F = record { is = F; from = refl; to = refl }

pub row_multiple-requires-clause-factor : goal.row_multiple-requires-clause-factor
row_multiple-requires-clause-factor g c = subst (λ p. c.args.n < p) c.field-field.ensures c.requires.residue

pub row_multiple-requires-clause-row : goal.row_multiple-requires-clause-row
row_multiple-requires-clause-row g c =
    let f = c.args.f.now in
    let k = c.loop-k.k in
    let T = g.T.Table.table c.args.table.now in
    let p : Arrow (closure_data T) f.from f.to f = first c.requires.matrix in
    let lx = ap (λ (z : List (List ℕ)). length z) c.entries-x.ensures.value in
    let inside : k < length f.from * length f.to = omega (arith, c.loop-k-test.true, lx, places-many p) in
    let x = c.as_slice.ensures ∙ c.index-x-k.is ∙ get_or_default c.entries-x.result.now k c.index-x-k.result [] c.loop-k-test.true ∙ ap (λ (z : List (List ℕ)). get_or z k []) c.entries-x.ensures.value in
    let R = place-residues p k inside in
    λ i lt. subst (λ n. get_or c.as_slice.result.now i 0 < n) c.field-field.ensures
    (subst (λ (z : List ℕ). get_or z i 0 < T.prime) (sym x) (R.residues i (let e = ap (λ (z : List ℕ). length z) x in omega (arith, lt, e, R.long))))

pub loop-k-preserved : goal.loop-k-preserved
loop-k-preserved g c =
    let f = c.args.f.now in
    let k = c.loop-k.k in
    let T = g.T.Table.table c.args.table.now in
    let p : Arrow (closure_data T) f.from f.to f = first c.requires.matrix in
    let lx = ap (λ (z : List (List ℕ)). length z) c.entries-x.ensures.value in
    let below : k < length f.entries = omega (arith, c.loop-k-test.true, lx) in
    let x = c.as_slice.ensures ∙ c.index-x-k.is ∙ get_or_default c.entries-x.result.now k c.index-x-k.result [] c.loop-k-test.true ∙ ap (λ (z : List (List ℕ)). get_or z k []) c.entries-x.ensures.value in
    let times = λ (u : List ℕ) (n : ℕ). row_below (length u) (λ i. c.args.n * get_or u i 0 % n) in
    c.in_ok-push.ensures.items
    ∙ entry-next f.from f.to (λ i j. (table_data T).scale c.args.n (entry_of f i j)) k c.loop-k.entries.items c.in_ok-entry.entry c.loop-k.invariant
    (multiple-place p c.args.n k below c.in_ok-entry.entry
    (c.in_ok-entry.ensures ∙ ap (λ u. times u c.field-field.result) x ∙ ap (λ n. times (get_or f.entries k []) n) (sym c.field-field.ensures)))

pub returns : goal.returns
returns g c =
    let T = g.T.Table.table c.args.table.now in
    let f = c.args.f.now in
    let p : Arrow (closure_data T) f.from f.to f = first c.requires.matrix in
    let done : c.loop-k.k ≡ length c.entries-x.result.now = omega (arith, c.loop-k-test.false, c.loop-k.auto.k-end) in
    all-entries f.from f.to (λ i j. (table_data T).scale c.args.n (entry_of f i j)) c.loop-k.k c.loop-k.entries.items c.loop-k.invariant
    (done ∙ ap (λ (z : List (List ℕ)). length z) c.entries-x.ensures.value ∙ places-many p)
