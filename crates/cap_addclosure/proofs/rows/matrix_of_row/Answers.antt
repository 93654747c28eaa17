use Rattle.std.proofs.Common.{◌≡◌, ℕ, List, length, refl, sym, ap, ◌∙◌, subst, arith}
use Rattle.cap_laws.specs.Answers.{Fits}
use Rattle.cap_add_laws.specs.Closure.{MorphismMatrix, widths_of, sum_list, cut_by, joined, closure_hom}
use Rattle.cap_add_laws.proofs.Joined.{rows-many, cut-rows, joined-cut}
use Rattle.cap_add_laws.proofs.Structure.{widths-many}
use Rattle.cap_addclosure.specs.Sizes.{closure_size}
use Rattle.cap_addclosure.proofs.Built.{answers-by}
use Rattle.cap_addclosure.proofs.rows.matrix_of_row.Goals as goal

pub cut_entries-requires-clause-long : goal.cut_entries-requires-clause-long
cut_entries-requires-clause-long g c =
    let T = g.T.Table.table c.args.table.now in
    c.requires.row.long ∙ ap (λ (z : List ℕ). sum_list (widths_of T z c.args.b.now)) (sym c.parts-xs.ensures.value) ∙ ap (λ (z : List ℕ). sum_list (widths_of T c.parts-xs.result.now z)) (sym c.parts-ys.ensures.value)

pub built-requires-clause-many : goal.built-requires-clause-many
built-requires-clause-many g c =
    let T = g.T.Table.table c.args.table.now in
    let a = c.args.a.now in
    let b = c.args.b.now in
    let row = c.args.row.now in
    let e = c.in_ok-entries.ensures ∙ ap (λ (z : List ℕ). cut_by (widths_of T z c.parts-ys.result.now) row) c.parts-xs.ensures.value ∙ ap (λ (z : List ℕ). cut_by (widths_of T a z) row) c.parts-ys.ensures.value in
    ap (λ (z : List (List ℕ)). length z) e ∙ rows-many (cut-rows T.prime (widths_of T a b) row c.requires.row) ∙ widths-many T a b

pub built-requires-clause-few : goal.built-requires-clause-few
built-requires-clause-few g c =
    let T = g.T.Table.table c.args.table.now in
    let a = c.args.a.now in
    let b = c.args.b.now in
    let row = c.args.row.now in
    let e = c.in_ok-entries.ensures ∙ ap (λ (z : List ℕ). cut_by (widths_of T z c.parts-ys.result.now) row) c.parts-xs.ensures.value ∙ ap (λ (z : List ℕ). cut_by (widths_of T a z) row) c.parts-ys.ensures.value in
    let fits : Fits (closure_size T a b) = subst (λ (z : List ℕ). Fits (closure_size T a z)) c.parts-ys.ensures.value (subst (λ (z : List ℕ). Fits (closure_size T z c.parts-ys.result.now)) c.parts-xs.ensures.value
    (c.in_ok-_count.ensures.1 (closure_size T c.parts-xs.result.now c.parts-ys.result.now) refl)) in
    let long : length (joined c.in_ok-entries.entries.items) ≡ sum_list (widths_of T a b) = ap (λ (z : List (List ℕ)). length (joined z)) e ∙ ap (λ (z : List ℕ). length z) (joined-cut T.prime (widths_of T a b) row c.requires.row) ∙ c.requires.row.long in
    omega (arith, long, fits.cells)

pub returns : goal.returns
returns g c =
    let T = g.T.Table.table c.args.table.now in
    let a = c.args.a.now in
    let b = c.args.b.now in
    let row = c.args.row.now in
    let e = c.in_ok-entries.ensures ∙ ap (λ (z : List ℕ). cut_by (widths_of T z c.parts-ys.result.now) row) c.parts-xs.ensures.value ∙ ap (λ (z : List ℕ). cut_by (widths_of T a z) row) c.parts-ys.ensures.value in
    let fits : Fits (closure_size T a b) = subst (λ (z : List ℕ). Fits (closure_size T a z)) c.parts-ys.ensures.value (subst (λ (z : List ℕ). Fits (closure_size T z c.parts-ys.result.now)) c.parts-xs.ensures.value
    (c.in_ok-_count.ensures.1 (closure_size T c.parts-xs.result.now c.parts-ys.result.now) refl)) in
    let make = λ (z : List (List ℕ)). let m : MorphismMatrix = record { from = a; to = b; entries = z } in m in
    answers-by T a b a b ((closure_hom T).back a b row) c.in_ok-entries.entries.items c.built.result fits c.built.ensures.value c.built.ensures.fault refl refl (ap make e)
