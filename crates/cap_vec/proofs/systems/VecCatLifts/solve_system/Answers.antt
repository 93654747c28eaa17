use Rattle.std.proofs.Common.{◌∙◌}
use Rattle.cap_vec_laws.proofs.Linear.{vec_linear}
use Rattle.cap_vec_hom_laws.proofs.HomLaws.{vec_has_hom}
use Rattle.cap_solve.proofs.Answered.{answered-is}
use Rattle.cap_vec.proofs.systems.VecCatLifts.solve_system.Goals as goal

pub returns : goal.returns
returns c =
    let p = c.args.self.now.field in
    let t = c.args.self.now.tabled in (
      c.solution.ensures ∙ answered-is (vec_linear p t) (vec_has_hom p t) c.args.s.now c.requires c.in_ok-answer.answer c.in_ok-answer.ensures.0,
      c.in_ok-answer.ensures.1,
    )
