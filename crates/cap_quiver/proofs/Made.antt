-- The table that was made is the quotient, and valid.
use Rattle.std.proofs.Common.{◌≡◌, ℕ, ◌*◌, ◌<◌, ◌≤◌, true, List, length, refl, sym, ap, ◌∙◌, subst, arith}
use Rattle.std.proofs.Math.Nat.{mod-lt}
use Rattle.cap_field.specs.Residue.{is_tabled}
use Rattle.cap_field.proofs.Fermat.{tabled_range}
use Rattle.cap_laws.specs.Table.{TableData, IsTable}
use Rattle.cap_matrix.specs.Grid.{Grid, entry, transposed_of}
use Rattle.cap_matrix.specs.Reduced.{IsNullBasis}
use Rattle.cap_reduce.proofs.NullAnswer.{few_leads}
use Rattle.cap_lincat.specs.Data.{table_of, AreHomsSoFar, HasHoms, IsFilled}
use Rattle.cap_lincat.proofs.HomLists.{homs-all}
use Rattle.cap_quiver_laws.specs.Quotient.{PathNumbers, IsPathAlgebra}
use Rattle.cap_quiver_laws.specs.Ideal.{Relations, ideal_rows, ideal_table}
use Rattle.cap_quiver_laws.specs.ClassTable.{IsLeads}
use Rattle.cap_quiver_laws.proofs.Ideal.{between, two-sided}
use Rattle.cap_quiver_laws.proofs.Nulls.{nulls-quotient}
use Rattle.cap_quiver_laws.proofs.Valid.{quotient-valid}
use Rattle.cap_quiver_ideal.specs.Spans.{IsSpanOf}
use Rattle.cap_quiver.specs.Rows.{HasEntry, AreEndsOf, AreUnitRows, AreProductRows, IsQuotientOf}
use Rattle.cap_quiver.proofs.ClassRows.{class-table}

-- the rows of coordinates: as many columns as paths, at most as many rows, none of them 0
pub nulls-width : (p k m : ℕ) (t : ℕ → ℕ → ℕ) (J N : Grid) → IsSpanOf p k m t J → IsNullBasis (transposed_of J) N → N.column_count ≡ m
nulls-width p k m t J N S B = B.width ∙ S.short.matrix.to

pub nulls-few : (J N : Grid) → IsNullBasis (transposed_of J) N → N.row_count ≤ N.column_count
nulls-few J N B = few_leads N.prime N.row_count N.column_count (entry N.entries) B.reduced.lead B.reduced.by_leads

pub nulls-entry : (J N : Grid) → IsNullBasis (transposed_of J) N → (f : ℕ) → f < N.row_count → HasEntry N f
nulls-entry J N B f lf = (B.reduced.lead f, B.reduced.by_leads.inside f lf, λ z. absurd (omega (arith, z, B.reduced.by_leads.one f lf)))

module _ (p : ℕ) (A : PathNumbers) (R : Relations) (number : ℕ → ℕ → ℕ) (J N : Grid) (bs : List ℕ) (ends : List (ℕ × ℕ)) (units products homs : List (List ℕ)) (tabled : is_tabled p ≡ true) (K : IsPathAlgebra A)
    (S : IsSpanOf p (ideal_rows A R) A.count (ideal_table p A R number) J) (B : IsNullBasis (transposed_of J) N) (long : length bs ≡ N.row_count) (L : IsLeads (entry N.entries) N.column_count bs)
    (E : AreEndsOf A bs ends (length bs)) (H : AreHomsSoFar A.objects ends homs (A.objects * A.objects))
    (U : AreUnitRows A N.column_count (entry N.entries) homs units A.objects) (P : AreProductRows A N.column_count (entry N.entries) homs bs products (length bs * length bs)) where
  abbrev T : TableData
  T = table_of p A.objects ends units products

  width : N.column_count ≡ A.count
  width = nulls-width p (ideal_rows A R) A.count (ideal_table p A R number) J N S B

  leads : IsLeads (entry N.entries) A.count bs
  leads = subst (λ m. IsLeads (entry N.entries) m bs) width L

  pub table-quotient : IsQuotientOf p A R number bs (table_of p A.objects ends units products)
  table-quotient = record {
    prime = refl;
    quotient = nulls-quotient {r = J.row_count} {J = J} {N = N} (ideal_rows A R) A (ideal_table p A R number) bs T S.short.matrix B K
        (class-table p A (entry N.entries) bs ends units products homs tabled K (λ b lt. leads.inside b lt) E H
        (subst (λ m. AreUnitRows A m (entry N.entries) homs units A.objects) width U)
        (subst (λ m. AreProductRows A m (entry N.entries) homs bs products (length bs * length bs)) width P))
        long leads
        (λ i j li lj. mod-lt _ (omega (arith, (tabled_range p tabled).0)))
        (λ i li. between p A K R number i)
        S.same;
  }

  pub table-valid : A.objects ≤ 16 → A.count ≤ 128 → IsTable (table_of p A.objects ends units products)
  table-valid few short =
      quotient-valid (ideal_rows A R) A (ideal_table p A R number) bs T few (omega (arith, E.long, long, nulls-few J N B, width, short)) K (two-sided p A K R number) table-quotient.quotient

  pub table-homs : HasHoms (table_of p A.objects ends units products) homs
  table-homs = homs-all T homs H

  pub table-filled : IsFilled A.objects (length ends) units products
  table-filled = record { unit_count = U.long; row_count = P.long ∙ ap (λ n. n * n) (sym E.long) }
