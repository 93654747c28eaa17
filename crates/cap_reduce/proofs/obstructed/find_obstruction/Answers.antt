use Rattle.std.proofs.Common.{◌≡◌, ℕ, ◌*◌, ◌%◌, get_or, sym, ap, ◌∙◌, subst, arith, ⊎_elim}
use Rattle.std.proofs.lemmas.Bool.{cases_lt}
use Rattle.cap_matrix.specs.Grid.{total}
use Rattle.cap_matrix.proofs.Sums.{total-same}
use Rattle.cap_reduce.specs.Flat.{cell}
use Rattle.cap_reduce.specs.NullTable.{null_value}
use Rattle.cap_reduce.proofs.obstructed.find_obstruction.Goals as goal
use Rattle.cap_reduce.proofs.obstructed.find_obstruction.Goals.{then-place-f+else-dot-p-ne0, else-place-f}

pub loop-f-preserved : goal.loop-f-preserved
loop-f-preserved c =
    let v = λ (q : ℕ). get_or c.args.v.now q 0 in
    let value = null_value c.args.p c.args.rank (cell c.args.cells.now c.args.cols) (λ j. get_or c.args.place.now j 0) in
    let f = c.loop-f.f in
    elim c.if-place-f.branch [
      | then-place-f+else-dot-p-ne0 w ↦ λ k lt out. ⊎_elim
          (λ less. c.loop-f.invariant k less out)
          (λ ge.
          let same : f ≡ k = omega arith in
          let zero : total c.args.cols (λ q. v q * get_or w.write_null_column.new.y q 0) % c.args.p ≡ 0 = ap (λ y. y % c.args.p) (sym w.dot.ensures) ∙ (let e : w.dot.result % c.args.p ≡ 0 = omega arith in e) in
          subst (λ z. total c.args.cols (λ q. v q * value z q) % c.args.p ≡ 0) same
          (ap (λ y. y % c.args.p) (total-same c.args.cols (λ q. v q * value f q) (λ q. v q * get_or w.write_null_column.new.y q 0)
          (λ q below. ap (λ y. v q * y) (sym (w.write_null_column.ensures q below)))) ∙ zero))
          (cases_lt k f)
      | else-place-f w ↦ λ k lt out. ⊎_elim
          (λ less. c.loop-f.invariant k less out)
          (λ ge. absurd (omega (arith, ap (λ y. get_or c.args.place.now y 0) (let same : f ≡ k = omega arith in same))))
          (cases_lt k f)
    ]
