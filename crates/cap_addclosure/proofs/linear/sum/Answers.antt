use Rattle.std.proofs.Common.{ℕ, ◌*◌, List, length, refl, sym, ap, ◌∙◌}
use Rattle.cap_laws.specs.Linear.{Arrow}
use Rattle.cap_laws.specs.Table.{table_data}
use Rattle.cap_add_laws.specs.Closure.{MorphismMatrix, entry_of, closure_data}
use Rattle.cap_add_laws.proofs.Linear.{add-arrow}
use Rattle.cap_addclosure.specs.Sizes.{closure_size}
use Rattle.cap_addclosure.proofs.Built.{all-many, all-few, answers-by, held-fits}
use Rattle.cap_addclosure.proofs.linear.sum.Goals as goal

pub built-requires-clause-many : goal.built-requires-clause-many
built-requires-clause-many g c =
    let T = g.T.Table.table c.args.table.now in
    let f = c.args.f.now in
    all-many f.from f.to (λ i j. (table_data T).add (entry_of f i j) (entry_of c.args.g.now i j)) c.in_ok-entries.entries.items c.in_ok-entries.ensures
    ∙ ap (λ (l : List ℕ). length l * length f.to) (sym c.source.ensures) ∙ ap (λ (l : List ℕ). length c.source.result.now * length l) (sym c.target.ensures)

pub built-requires-clause-few : goal.built-requires-clause-few
built-requires-clause-few g c =
    let T = g.T.Table.table c.args.table.now in
    let f = c.args.f.now in
    let h = c.args.g.now in
    let p : Arrow (closure_data T) f.from f.to f = record { is = c.requires.left; from = refl; to = refl } in
    let q : Arrow (closure_data T) f.from f.to h = record { is = c.requires.right; from = sym c.requires.sources; to = sym c.requires.targets } in
    all-few f.from f.to (λ i j. (table_data T).add (entry_of f i j) (entry_of h i j)) c.in_ok-entries.entries.items c.in_ok-entries.ensures
    (add-arrow (g.met.T.Table.valid c.args.table.now) p q) (held-fits f c.requires.left c.limits.ensures.rows c.limits.ensures.columns c.limits.ensures.cells (closure_size T f.from f.to) refl)

pub returns : goal.returns
returns g c =
    let T = g.T.Table.table c.args.table.now in
    let f = c.args.f.now in
    let make = λ (e : List (List ℕ)). let m : MorphismMatrix = record { from = f.from; to = f.to; entries = e } in m in
    answers-by T f.from f.to c.source.result.now c.target.result.now ((closure_data T).add f c.args.g.now) c.in_ok-entries.entries.items c.built.result
    (held-fits f c.requires.left c.limits.ensures.rows c.limits.ensures.columns c.limits.ensures.cells (closure_size T f.from f.to) refl)
    c.built.ensures.value c.built.ensures.fault c.source.ensures c.target.ensures (ap make c.in_ok-entries.ensures)
