-- Valid tables with equal lists are equal: that lists are those of a valid table holds in one way.
use Rattle.std.proofs.Common.{◌≡◌, ℕ, List, length, ap, ◌∙◌, subst}
use Rattle.std.proofs.Props.{props}
use Rattle.cap_laws.specs.Table.{IsTable}
use Rattle.cap_lincat.specs.Data.{table_of, HasHoms, IsFilled}
use Rattle.cap_lincat.specs.declared.table.LinTable.{LinTable}

-- the lists of a table, and that they are those of a valid one
record Lists : Type 0 where
  field : ℕ
  objects : ℕ
  basis : List (ℕ × ℕ)
  units : List (List ℕ)
  rows : List (List ℕ)
  homs : List (List ℕ)

record AreValid (l : Lists) : Type 0 where
  valid : IsTable (table_of l.field l.objects l.basis l.units l.rows)
  homs_are : HasHoms (table_of l.field l.objects l.basis l.units l.rows) l.homs
  filled : IsFilled l.objects (length l.basis) l.units l.rows

are-valid-once : (l : Lists) → IsProp (AreValid l)
are-valid-once l = hlevel props

abbrev made : (l : Lists) → AreValid l → LinTable
made l v = record { field = l.field; objects = l.objects; basis = l.basis; units = l.units; rows = l.rows; homs = l.homs; valid = v.valid; homs_are = v.homs_are; filled = v.filled }

abbrev lists-in : LinTable → Lists
lists-in t = record { field = t.field; objects = t.objects; basis = t.basis; units = t.units; rows = t.rows; homs = t.homs }

abbrev valid-in : (t : LinTable) → AreValid (lists-in t)
valid-in t = record { valid = t.valid; homs_are = t.homs_are; filled = t.filled }

same-lists : {p q o m : ℕ} {b d : List (ℕ × ℕ)} {u v r s h k : List (List ℕ)} → p ≡ q → o ≡ m → b ≡ d → u ≡ v → r ≡ s → h ≡ k
    → ◌≡◌ {A = Lists} (record { field = p; objects = o; basis = b; units = u; rows = r; homs = h }) (record { field = q; objects = m; basis = d; units = v; rows = s; homs = k })
same-lists {p} {q} {o} {m} {b} {d} {u} {v} {r} {s} {h} {k} e f g i j l =
    ap {B = Lists} (λ x. record { field = x; objects = o; basis = b; units = u; rows = r; homs = h }) e
    ∙ ap {B = Lists} (λ x. record { field = q; objects = x; basis = b; units = u; rows = r; homs = h }) f
    ∙ ap {B = Lists} (λ x. record { field = q; objects = m; basis = x; units = u; rows = r; homs = h }) g
    ∙ ap {B = Lists} (λ x. record { field = q; objects = m; basis = d; units = x; rows = r; homs = h }) i
    ∙ ap {B = Lists} (λ x. record { field = q; objects = m; basis = d; units = v; rows = x; homs = h }) j
    ∙ ap {B = Lists} (λ x. record { field = q; objects = m; basis = d; units = v; rows = s; homs = x }) l

pub same-table : (t w : LinTable) → t.field ≡ w.field → t.objects ≡ w.objects → t.basis ≡ w.basis → t.units ≡ w.units → t.rows ≡ w.rows → t.homs ≡ w.homs → t ≡ w
same-table t w e f g i j l = subst (λ x. (v : AreValid x) → t ≡ made x v) (same-lists e f g i j l) (λ v. ap (made (lists-in t)) (are-valid-once (lists-in t) (valid-in t) v)) (valid-in w)
