use Rattle.std.proofs.Common.{◌-◌, ◌<◌, ◌≤◌, ℕ, List, length, get_or, sym, ap, ◌∙◌, subst, arith}
use Rattle.cap_quiver_paths.specs.Data.{quiver}
use Rattle.cap_quiver_paths.proofs.Ends.{end-last, last-inside}
use Rattle.cap_quiver_paths.proofs.walks.Walk.end.Goals as goal

pub bounds-arrows-list : goal.bounds-arrows-list
bounds-arrows-list c =
    let some : 1 ≤ length c.args.self.now.arrows = omega (arith, c.if-list-eq0.false, ap length c.arrows-list.ensures) in
    subst (λ (xs : List ℕ). get_or xs (length xs - 1) 0 < length c.args.arrows.now) (sym c.arrows-list.ensures)
    (last-inside (quiver 0 c.args.arrows.now 0) c.args.self.now.start c.args.self.now.arrows some c.requires)

pub returns : goal.returns
returns c =
    let some : 1 ≤ length c.args.self.now.arrows = omega (arith, c.if-list-eq0.false, ap length c.arrows-list.ensures) in
    ap (λ (xs : List ℕ). (get_or c.args.arrows.now (get_or xs (length xs - 1) 0) (0, 0)).1) c.arrows-list.ensures
    ∙ end-last (quiver 0 c.args.arrows.now 0) c.args.self.now.start c.args.self.now.arrows some
