use Rattle.std.proofs.Common.{◌*◌, List, ℕ, length, get_or, sym, ap, ◌∙◌, subst, arith}
use Rattle.cap_laws.specs.Table.{IsTable}
use Rattle.cap_matrix.specs.Grid.{entry}
use Rattle.cap_lincat.specs.Data.{table_of, AreHomsSoFar, HasHoms, IsFilled}
use Rattle.cap_quiver_laws.specs.Ideal.{ideal_rows, ideal_table}
use Rattle.cap_quiver_paths.specs.Read.{numbers_in}
use Rattle.cap_quiver_paths.specs.Relations.{relations_of}
use Rattle.cap_quiver_paths.specs.TermNumbers.{number_in}
use Rattle.cap_quiver.specs.Rows.{AreInside, AreEndsOf, AreUnitRows, AreProductRows, IsQuotientOf}
use Rattle.cap_quiver.proofs.ClassRows.{homs-inside}
use Rattle.cap_quiver.proofs.Made.{nulls-width, nulls-few, nulls-entry, table-quotient, table-valid, table-homs, table-filled}
use Rattle.cap_quiver.proofs.quotients.quotient.Goals as goal

pub leads-requires : goal.leads-requires
leads-requires c = λ f lf. nulls-entry c.in_ok-span.span c.in_ok-rows.rows c.in_ok-rows.ensures f lf

pub basis_ends-requires : goal.basis_ends-requires
basis_ends-requires c =
    let p = c.args.field in
    let A = numbers_in c.args.numbers.now in
    let R = relations_of c.args.relations.now in
    let number = number_in c.args.terms.now in
    let J = c.in_ok-span.span in
    let N = c.in_ok-rows.rows in
    let S = c.in_ok-span.ensures in
    let B = c.in_ok-rows.ensures in
    let width = nulls-width p (ideal_rows A R) A.count (ideal_table p A R number) J N S B in
    let bs = c.in_ok-basis.basis.items in
    let long = c.in_ok-basis.ensures.0 in
    let L = c.in_ok-basis.ensures.1 in
    λ b lt. omega (arith, ap (λ (l : List ℕ). get_or l b 0) c.as_slice.ensures.value, L.inside b (omega (arith, lt, ap (λ (l : List ℕ). length l) c.as_slice.ensures.value)), width)

pub all_homs-requires-clause-basis : goal.all_homs-requires-clause-basis
all_homs-requires-clause-basis c =
    let p = c.args.field in
    let A = numbers_in c.args.numbers.now in
    let R = relations_of c.args.relations.now in
    let number = number_in c.args.terms.now in
    let J = c.in_ok-span.span in
    let N = c.in_ok-rows.rows in
    let S = c.in_ok-span.ensures in
    let B = c.in_ok-rows.ensures in
    let width = nulls-width p (ideal_rows A R) A.count (ideal_table p A R number) J N S B in
    let bs = c.in_ok-basis.basis.items in
    let long = c.in_ok-basis.ensures.0 in
    let L = c.in_ok-basis.ensures.1 in
    let ends = c.in_ok-ends.ends.items in
    let E = subst (λ x. AreEndsOf A x ends (length x)) c.as_slice.ensures.value c.in_ok-ends.ensures in
    omega (arith, ap (λ (l : List (ℕ × ℕ)). length l) c.as_slice-2.ensures.value, E.long, long, nulls-few J N B, width, c.args.numbers.now.are.few)

pub unit_rows-requires-clause-many : goal.unit_rows-requires-clause-many
unit_rows-requires-clause-many c =
    let p = c.args.field in
    let A = numbers_in c.args.numbers.now in
    let R = relations_of c.args.relations.now in
    let number = number_in c.args.terms.now in
    let J = c.in_ok-span.span in
    let N = c.in_ok-rows.rows in
    let S = c.in_ok-span.ensures in
    let B = c.in_ok-rows.ensures in
    let width = nulls-width p (ideal_rows A R) A.count (ideal_table p A R number) J N S B in
    let bs = c.in_ok-basis.basis.items in
    let long = c.in_ok-basis.ensures.0 in
    let L = c.in_ok-basis.ensures.1 in
    let ends = c.in_ok-ends.ends.items in
    let E = subst (λ x. AreEndsOf A x ends (length x)) c.as_slice.ensures.value c.in_ok-ends.ensures in
    let homs = c.in_ok-homs.homs in
    let o = A.objects in
    let H = subst (λ x. AreHomsSoFar o x homs (o * o)) c.as_slice-2.ensures.value (subst (λ n. AreHomsSoFar n c.as_slice-2.result.now homs (n * n)) c.objects-objects.ensures.value c.in_ok-homs.ensures) in
    ap (λ (l : List (List ℕ)). length l) c.as_slice-3.ensures ∙ H.long

pub unit_rows-requires-clause-inside : goal.unit_rows-requires-clause-inside
unit_rows-requires-clause-inside c =
    let p = c.args.field in
    let A = numbers_in c.args.numbers.now in
    let R = relations_of c.args.relations.now in
    let number = number_in c.args.terms.now in
    let J = c.in_ok-span.span in
    let N = c.in_ok-rows.rows in
    let S = c.in_ok-span.ensures in
    let B = c.in_ok-rows.ensures in
    let width = nulls-width p (ideal_rows A R) A.count (ideal_table p A R number) J N S B in
    let bs = c.in_ok-basis.basis.items in
    let long = c.in_ok-basis.ensures.0 in
    let L = c.in_ok-basis.ensures.1 in
    let ends = c.in_ok-ends.ends.items in
    let E = subst (λ x. AreEndsOf A x ends (length x)) c.as_slice.ensures.value c.in_ok-ends.ensures in
    let homs = c.in_ok-homs.homs in
    let o = A.objects in
    let H = subst (λ x. AreHomsSoFar o x homs (o * o)) c.as_slice-2.ensures.value (subst (λ n. AreHomsSoFar n c.as_slice-2.result.now homs (n * n)) c.objects-objects.ensures.value c.in_ok-homs.ensures) in
    subst (λ l. AreInside N.row_count l) (sym c.as_slice-3.ensures) (homs-inside o ends homs N.row_count (E.long ∙ long) H)

pub product_rows-requires-clause-many : goal.product_rows-requires-clause-many
product_rows-requires-clause-many c =
    let p = c.args.field in
    let A = numbers_in c.args.numbers.now in
    let R = relations_of c.args.relations.now in
    let number = number_in c.args.terms.now in
    let J = c.in_ok-span.span in
    let N = c.in_ok-rows.rows in
    let S = c.in_ok-span.ensures in
    let B = c.in_ok-rows.ensures in
    let width = nulls-width p (ideal_rows A R) A.count (ideal_table p A R number) J N S B in
    let bs = c.in_ok-basis.basis.items in
    let long = c.in_ok-basis.ensures.0 in
    let L = c.in_ok-basis.ensures.1 in
    let ends = c.in_ok-ends.ends.items in
    let E = subst (λ x. AreEndsOf A x ends (length x)) c.as_slice.ensures.value c.in_ok-ends.ensures in
    let homs = c.in_ok-homs.homs in
    let o = A.objects in
    let H = subst (λ x. AreHomsSoFar o x homs (o * o)) c.as_slice-2.ensures.value (subst (λ n. AreHomsSoFar n c.as_slice-2.result.now homs (n * n)) c.objects-objects.ensures.value c.in_ok-homs.ensures) in
    ap (λ (l : List (List ℕ)). length l) c.as_slice-4.ensures ∙ H.long

pub product_rows-requires-clause-inside : goal.product_rows-requires-clause-inside
product_rows-requires-clause-inside c =
    let p = c.args.field in
    let A = numbers_in c.args.numbers.now in
    let R = relations_of c.args.relations.now in
    let number = number_in c.args.terms.now in
    let J = c.in_ok-span.span in
    let N = c.in_ok-rows.rows in
    let S = c.in_ok-span.ensures in
    let B = c.in_ok-rows.ensures in
    let width = nulls-width p (ideal_rows A R) A.count (ideal_table p A R number) J N S B in
    let bs = c.in_ok-basis.basis.items in
    let long = c.in_ok-basis.ensures.0 in
    let L = c.in_ok-basis.ensures.1 in
    let ends = c.in_ok-ends.ends.items in
    let E = subst (λ x. AreEndsOf A x ends (length x)) c.as_slice.ensures.value c.in_ok-ends.ensures in
    let homs = c.in_ok-homs.homs in
    let o = A.objects in
    let H = subst (λ x. AreHomsSoFar o x homs (o * o)) c.as_slice-2.ensures.value (subst (λ n. AreHomsSoFar n c.as_slice-2.result.now homs (n * n)) c.objects-objects.ensures.value c.in_ok-homs.ensures) in
    subst (λ l. AreInside N.row_count l) (sym c.as_slice-4.ensures) (homs-inside o ends homs N.row_count (E.long ∙ long) H)

pub product_rows-requires-clause-few : goal.product_rows-requires-clause-few
product_rows-requires-clause-few c =
    let p = c.args.field in
    let A = numbers_in c.args.numbers.now in
    let R = relations_of c.args.relations.now in
    let number = number_in c.args.terms.now in
    let J = c.in_ok-span.span in
    let N = c.in_ok-rows.rows in
    let S = c.in_ok-span.ensures in
    let B = c.in_ok-rows.ensures in
    let width = nulls-width p (ideal_rows A R) A.count (ideal_table p A R number) J N S B in
    let bs = c.in_ok-basis.basis.items in
    let long = c.in_ok-basis.ensures.0 in
    let L = c.in_ok-basis.ensures.1 in
    omega (arith, ap (λ (l : List ℕ). length l) c.as_slice-5.ensures.value, long, nulls-few J N B, width, c.args.numbers.now.are.few)

pub product_rows-requires-clause-basis : goal.product_rows-requires-clause-basis
product_rows-requires-clause-basis c =
    let p = c.args.field in
    let A = numbers_in c.args.numbers.now in
    let R = relations_of c.args.relations.now in
    let number = number_in c.args.terms.now in
    let J = c.in_ok-span.span in
    let N = c.in_ok-rows.rows in
    let S = c.in_ok-span.ensures in
    let B = c.in_ok-rows.ensures in
    let width = nulls-width p (ideal_rows A R) A.count (ideal_table p A R number) J N S B in
    let bs = c.in_ok-basis.basis.items in
    let long = c.in_ok-basis.ensures.0 in
    let L = c.in_ok-basis.ensures.1 in
    λ b lt. omega (arith, ap (λ (l : List ℕ). get_or l b 0) c.as_slice-5.ensures.value, L.inside b (omega (arith, lt, ap (λ (l : List ℕ). length l) c.as_slice-5.ensures.value)), width)

pub from_valid-table-requires-clause-valid : goal.from_valid-table-requires-clause-valid
from_valid-table-requires-clause-valid c =
    let p = c.args.field in
    let A = numbers_in c.args.numbers.now in
    let R = relations_of c.args.relations.now in
    let number = number_in c.args.terms.now in
    let J = c.in_ok-span.span in
    let N = c.in_ok-rows.rows in
    let S = c.in_ok-span.ensures in
    let B = c.in_ok-rows.ensures in
    let width = nulls-width p (ideal_rows A R) A.count (ideal_table p A R number) J N S B in
    let bs = c.in_ok-basis.basis.items in
    let long = c.in_ok-basis.ensures.0 in
    let L = c.in_ok-basis.ensures.1 in
    let ends = c.in_ok-ends.ends.items in
    let E = subst (λ x. AreEndsOf A x ends (length x)) c.as_slice.ensures.value c.in_ok-ends.ensures in
    let homs = c.in_ok-homs.homs in
    let o = A.objects in
    let H = subst (λ x. AreHomsSoFar o x homs (o * o)) c.as_slice-2.ensures.value (subst (λ n. AreHomsSoFar n c.as_slice-2.result.now homs (n * n)) c.objects-objects.ensures.value c.in_ok-homs.ensures) in
    let e = entry N.entries in
    let units = c.in_ok-units.units in
    let products = c.in_ok-products.products in
    let U = subst (λ x. AreUnitRows A N.column_count e x units o) c.as_slice-3.ensures c.in_ok-units.ensures in
    let P = subst (λ x. AreProductRows A N.column_count e x bs products (length bs * length bs)) c.as_slice-4.ensures
    (subst (λ x. AreProductRows A N.column_count e c.as_slice-4.result.now x products (length x * length x)) c.as_slice-5.ensures.value c.in_ok-products.ensures) in
    subst (λ n. IsTable (table_of p n c.new-elements.result units products)) (sym c.objects-objects.ensures.value)
    (subst (λ b. IsTable (table_of p o b units products)) (sym c.new-elements.ensures) (table-valid p A R number J N bs ends units products homs c.prime.ensures.tabled c.requires.algebra S B long L E H U P c.args.numbers.now.are.few_objects c.args.numbers.now.are.few))

pub from_valid-table-requires-clause-homs : goal.from_valid-table-requires-clause-homs
from_valid-table-requires-clause-homs c =
    let p = c.args.field in
    let A = numbers_in c.args.numbers.now in
    let R = relations_of c.args.relations.now in
    let number = number_in c.args.terms.now in
    let J = c.in_ok-span.span in
    let N = c.in_ok-rows.rows in
    let S = c.in_ok-span.ensures in
    let B = c.in_ok-rows.ensures in
    let width = nulls-width p (ideal_rows A R) A.count (ideal_table p A R number) J N S B in
    let bs = c.in_ok-basis.basis.items in
    let long = c.in_ok-basis.ensures.0 in
    let L = c.in_ok-basis.ensures.1 in
    let ends = c.in_ok-ends.ends.items in
    let E = subst (λ x. AreEndsOf A x ends (length x)) c.as_slice.ensures.value c.in_ok-ends.ensures in
    let homs = c.in_ok-homs.homs in
    let o = A.objects in
    let H = subst (λ x. AreHomsSoFar o x homs (o * o)) c.as_slice-2.ensures.value (subst (λ n. AreHomsSoFar n c.as_slice-2.result.now homs (n * n)) c.objects-objects.ensures.value c.in_ok-homs.ensures) in
    let e = entry N.entries in
    let units = c.in_ok-units.units in
    let products = c.in_ok-products.products in
    let U = subst (λ x. AreUnitRows A N.column_count e x units o) c.as_slice-3.ensures c.in_ok-units.ensures in
    let P = subst (λ x. AreProductRows A N.column_count e x bs products (length bs * length bs)) c.as_slice-4.ensures
    (subst (λ x. AreProductRows A N.column_count e c.as_slice-4.result.now x products (length x * length x)) c.as_slice-5.ensures.value c.in_ok-products.ensures) in
    subst (λ n. HasHoms (table_of p n c.new-elements.result units products) homs) (sym c.objects-objects.ensures.value)
    (subst (λ b. HasHoms (table_of p o b units products) homs) (sym c.new-elements.ensures) (table-homs p A R number J N bs ends units products homs c.prime.ensures.tabled c.requires.algebra S B long L E H U P))

pub from_valid-table-requires-clause-filled : goal.from_valid-table-requires-clause-filled
from_valid-table-requires-clause-filled c =
    let p = c.args.field in
    let A = numbers_in c.args.numbers.now in
    let R = relations_of c.args.relations.now in
    let number = number_in c.args.terms.now in
    let J = c.in_ok-span.span in
    let N = c.in_ok-rows.rows in
    let S = c.in_ok-span.ensures in
    let B = c.in_ok-rows.ensures in
    let width = nulls-width p (ideal_rows A R) A.count (ideal_table p A R number) J N S B in
    let bs = c.in_ok-basis.basis.items in
    let long = c.in_ok-basis.ensures.0 in
    let L = c.in_ok-basis.ensures.1 in
    let ends = c.in_ok-ends.ends.items in
    let E = subst (λ x. AreEndsOf A x ends (length x)) c.as_slice.ensures.value c.in_ok-ends.ensures in
    let homs = c.in_ok-homs.homs in
    let o = A.objects in
    let H = subst (λ x. AreHomsSoFar o x homs (o * o)) c.as_slice-2.ensures.value (subst (λ n. AreHomsSoFar n c.as_slice-2.result.now homs (n * n)) c.objects-objects.ensures.value c.in_ok-homs.ensures) in
    let e = entry N.entries in
    let units = c.in_ok-units.units in
    let products = c.in_ok-products.products in
    let U = subst (λ x. AreUnitRows A N.column_count e x units o) c.as_slice-3.ensures c.in_ok-units.ensures in
    let P = subst (λ x. AreProductRows A N.column_count e x bs products (length bs * length bs)) c.as_slice-4.ensures
    (subst (λ x. AreProductRows A N.column_count e c.as_slice-4.result.now x products (length x * length x)) c.as_slice-5.ensures.value c.in_ok-products.ensures) in
    subst (λ n. IsFilled n (length c.new-elements.result) units products) (sym c.objects-objects.ensures.value)
    (subst (λ b. IsFilled o (length b) units products) (sym c.new-elements.ensures) (table-filled p A R number J N bs ends units products homs c.prime.ensures.tabled c.requires.algebra S B long L E H U P))

pub returns : goal.returns
returns c =
    let p = c.args.field in
    let A = numbers_in c.args.numbers.now in
    let R = relations_of c.args.relations.now in
    let number = number_in c.args.terms.now in
    let J = c.in_ok-span.span in
    let N = c.in_ok-rows.rows in
    let S = c.in_ok-span.ensures in
    let B = c.in_ok-rows.ensures in
    let width = nulls-width p (ideal_rows A R) A.count (ideal_table p A R number) J N S B in
    let bs = c.in_ok-basis.basis.items in
    let long = c.in_ok-basis.ensures.0 in
    let L = c.in_ok-basis.ensures.1 in
    let ends = c.in_ok-ends.ends.items in
    let E = subst (λ x. AreEndsOf A x ends (length x)) c.as_slice.ensures.value c.in_ok-ends.ensures in
    let homs = c.in_ok-homs.homs in
    let o = A.objects in
    let H = subst (λ x. AreHomsSoFar o x homs (o * o)) c.as_slice-2.ensures.value (subst (λ n. AreHomsSoFar n c.as_slice-2.result.now homs (n * n)) c.objects-objects.ensures.value c.in_ok-homs.ensures) in
    let e = entry N.entries in
    let units = c.in_ok-units.units in
    let products = c.in_ok-products.products in
    let U = subst (λ x. AreUnitRows A N.column_count e x units o) c.as_slice-3.ensures c.in_ok-units.ensures in
    let P = subst (λ x. AreProductRows A N.column_count e x bs products (length bs * length bs)) c.as_slice-4.ensures
    (subst (λ x. AreProductRows A N.column_count e c.as_slice-4.result.now x products (length x * length x)) c.as_slice-5.ensures.value c.in_ok-products.ensures) in
    subst (λ t. IsQuotientOf p A R number bs t) (sym c.from_valid-table.ensures.table)
    (subst (λ n. IsQuotientOf p A R number bs (table_of p n c.new-elements.result units products)) (sym c.objects-objects.ensures.value)
    (subst (λ b. IsQuotientOf p A R number bs (table_of p o b units products)) (sym c.new-elements.ensures) (table-quotient p A R number J N bs ends units products homs c.prime.ensures.tabled c.requires.algebra S B long L E H U P)))
