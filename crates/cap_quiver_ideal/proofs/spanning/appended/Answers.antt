use Rattle.std.proofs.Common.{◌≡◌, ℕ, ◌+◌, ◌*◌, ◌<◌, get_or, ap, ◌∙◌, subst, arith}
use Rattle.std.proofs.Math.Nat.{zero-mul}
use Rattle.cap_matrix.specs.Grid.{Grid, IsMatrixOf, stacked_of}
use Rattle.cap_matrix.specs.Buffer.{matrix_of}
use Rattle.cap_matrix.specs.Reduced.{IsReducedForm}
use Rattle.cap_matrix.proofs.Entries.{matrix_by-is, matrix_by-at}
use Rattle.cap_quiver_ideal.proofs.Growth.{grown-reduced}
use Rattle.cap_quiver_ideal.proofs.spanning.appended.Goals as goal

-- the only row
place : (i m j : ℕ) → i < 1 → i * m + j ≡ j
place i m j lt = ap (λ x. x * m + j) (let e : i ≡ 0 = omega (arith, lt) in e) ∙ ap (λ x. x + j) (zero-mul m) ∙ (let e : 0 + j ≡ j = omega arith in e)

pub returns-in-Ok : goal.returns-in-Ok
returns-in-Ok c =
    let J = c.args.rows.now in
    let m = J.column_count in
    let cells = c.args.row.items in
    let x : c.from_cells-last.result ≡ matrix_of J.prime 1 m cells = c.from_cells-last.ensures
    ∙ ap (λ p. matrix_of p 1 c.cols.result cells) c.field.ensures.value ∙ ap (λ n. matrix_of J.prime 1 n cells) c.cols.ensures.value in
    let R = subst (λ (g : Grid). IsReducedForm g c.in_ok-reduced-in-Ok.reduced) (c.in-Ok.ensures.0 ∙ ap (λ (g : Grid). stacked_of J g) x) c.in_ok-reduced-in-Ok.ensures in
    let f = λ (i j : ℕ). get_or cells (i * m + j) 0 in
    let N : IsMatrixOf J.prime 1 m (matrix_of J.prime 1 m cells) = matrix_by-is J.prime 1 m f (λ i j li lj. c.requires.residues (i * m + j) (omega (arith, place i m j li, lj, c.requires.long))) in
    grown-reduced m (λ q. get_or cells q 0) J (matrix_of J.prime 1 m cells) c.in_ok-reduced-in-Ok.reduced c.requires.short N R
    (λ q lq. matrix_by-at J.prime 1 m f 0 q (omega arith) lq ∙ ap (λ k. get_or cells k 0) (place 0 m q (omega arith)))
