use Rattle.std.proofs.Common.{arith}
use Rattle.cap_quiver_laws.specs.Ideal.{ideal_rows, ideal_table}
use Rattle.cap_quiver_laws.proofs.Numbering.{path-algebra}
use Rattle.cap_quiver_laws.proofs.Ideal.{two-sided}
use Rattle.cap_quiver_laws.proofs.Valid.{quotient-valid}
use Rattle.cap_quiver_laws.proofs.laws.law_quiver_table_is_table.Goals as goal

pub returns : goal.returns
returns c = λ p Q R T paths few short W H.
    let K = path-algebra Q H.paths H.numbers W H.all H.numbered in
    quotient-valid (ideal_rows H.numbers R) H.numbers (ideal_table T.prime H.numbers R H.term) H.basis T (omega (arith, few, H.quotient.objects, H.numbered.objects)) short K (two-sided T.prime H.numbers K R H.term) H.quotient
