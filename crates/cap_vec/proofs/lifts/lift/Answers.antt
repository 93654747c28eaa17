use Rattle.std.proofs.Common.{◌≡◌, ℕ, ◌∙◌, sym, ap, true, subst, List, Ok, Option}
use Rattle.std.specs.Prelude.{Some, None}
use Rattle.cap_matrix.specs.Grid.{Grid, fits_limits}
use Rattle.cap_matrix.specs.Buffer.{matrix_of}
use Rattle.cap_laws.specs.Answers.{Size, Fits}
use Rattle.cap_vec.specs.Members.{lift_of}
use Rattle.cap_vec.specs.Sizes.{IsSizeOf, IsSizeInLift}
use Rattle.cap_vec.specs.Solved.{AreRowsSolved}
use Rattle.cap_vec.proofs.Faults.{fault_of}
use Rattle.cap_vec.proofs.RowBuffers.{buffer_residues, buffer_matrix}
use Rattle.cap_vec.proofs.LiftSizes.{lift_same, lift_fits, lift_met}
use Rattle.cap_vec.proofs.lifts.lift.Goals as goal

pub from_rows-requires-clause-residues : goal.from_rows-requires-clause-residues
from_rows-requires-clause-residues c =
    let x = c.args.x.now in
    let f = c.args.f.now in
    let buffer = subst (λ (o : Option (List ℕ)). AreRowsSolved x f (Ok o)) c.in-Ok-Some.field-0-is c.in-Ok-Some.ensures in
    buffer_residues c.args.field c.source.result.now c.source-in-Ok-Some.result.now x f c.in-Ok-Some.cells c.requires.f.prime (sym c.source.ensures) (sym c.source-in-Ok-Some.ensures) buffer

pub returns-in-Ok-None : goal.returns-in-Ok-None
returns-in-Ok-None c = λ t.
    let p = c.args.field in
    let x = c.args.x.now in
    let f = c.args.f.now in
    let none = subst (λ (o : Option (List ℕ)). AreRowsSolved x f (Ok o)) c.in-Ok-None.field-0-is c.in-Ok-None.ensures in
    let size = subst (λ (g : Grid). fits_limits g.row_count g.column_count ≡ true) c.matrix.ensures c.cells.ensures.flat.size in
    (lift_same p t x f c.requires.x c.requires.f c.requires.meet None none, lift_fits p t x f c.requires.x c.requires.f c.requires.meet size None none (λ s m. absurd m))

pub returns-in-Ok : goal.returns-in-Ok
returns-in-Ok c = λ t.
    let p = c.args.field in
    let x = c.args.x.now in
    let f = c.args.f.now in
    let cells = c.in-Ok-Some.cells in
    let buffer = subst (λ (o : Option (List ℕ)). AreRowsSolved x f (Ok o)) c.in-Ok-Some.field-0-is c.in-Ok-Some.ensures in
    let e = buffer_matrix p c.source.result.now c.source-in-Ok-Some.result.now x f cells c.requires.f.prime (sym c.source.ensures) (sym c.source-in-Ok-Some.ensures) in
    let u = matrix_of f.prime x.row_count f.row_count cells in
    let size = subst (λ (g : Grid). fits_limits g.row_count g.column_count ≡ true) c.matrix.ensures c.cells.ensures.flat.size in (
      ap Some (c.in-Ok.ensures.0 ∙ e) ∙ lift_same p t x f c.requires.x c.requires.f c.requires.meet (Some u) buffer.rows,
      lift_fits p t x f c.requires.x c.requires.f c.requires.meet size (Some u) buffer.rows
          (subst (λ (g : Grid). (s : Size) → IsSizeOf g s → Fits s) e c.in-Ok.ensures.1),
    )

pub returns-in-Err-from_rows : goal.returns-in-Err-from_rows
returns-in-Err-from_rows c = λ t.
    let p = c.args.field in
    let x = c.args.x.now in
    let f = c.args.f.now in
    let cells = c.in-Ok-Some.cells in
    let buffer = subst (λ (o : Option (List ℕ)). AreRowsSolved x f (Ok o)) c.in-Ok-Some.field-0-is c.in-Ok-Some.ensures in
    let made = matrix_of p c.source.result.now c.source-in-Ok-Some.result.now cells in
    let e = buffer_matrix p c.source.result.now c.source-in-Ok-Some.result.now x f cells c.requires.f.prime (sym c.source.ensures) (sym c.source-in-Ok-Some.ensures) in
    let u = matrix_of f.prime x.row_count f.row_count cells in
    fault_of (IsSizeInLift p t x f) (IsSizeOf made) (λ o. o ≡ lift_of p t x f) (λ y. y ≡ made) c.in-Err-from_rows.fault
    (λ s m. lift_met p t x f c.requires.x c.requires.f c.requires.meet u buffer.rows s (subst (λ (g : Grid). IsSizeOf g s) e m)) c.in-Err-from_rows.ensures
