use Rattle.std.proofs.Common.{refl, sym, subst}
use Rattle.cap_laws.specs.Linear.{Arrow}
use Rattle.cap_laws.specs.Systems.{IsSystem, term_system}
use Rattle.cap_matrix.specs.Grid.{Grid}
use Rattle.cap_laws.specs.declared.values.System.{System}
use Rattle.std.specs.Prelude.{ℕ}
use Rattle.cap_laws.proofs.Systems.{term-is-system}
use Rattle.cap_vec_laws.specs.Vec.{vec_data}
use Rattle.cap_vec_laws.proofs.Linear.{vec_linear}
use Rattle.cap_kind_tests.proofs.vec.solved.Goals as goal

pub first_solved-requires : goal.first_solved-requires
first_solved-requires c =
    let p = c.args.category.now.field in
    let left = c.args.left in
    let right = c.args.right in
    let value = c.args.value in
    let F : Arrow (vec_data p) left.row_count left.column_count left = record { is = c.requires.left; from = refl; to = refl } in
    let R : Arrow (vec_data p) right.row_count right.column_count right = record { is = c.requires.right; from = refl; to = refl } in
    let V : Arrow (vec_data p) left.row_count right.column_count value = record { is = c.requires.value; from = c.requires.rows; to = c.requires.columns } in
    subst (λ (s : System ℕ Grid). IsSystem (vec_data p) s) (sym {b = term_system left.column_count right.row_count left right value} c.in_ok-s.ensures) (term-is-system (vec_linear p c.args.category.now.tabled) F R V)
