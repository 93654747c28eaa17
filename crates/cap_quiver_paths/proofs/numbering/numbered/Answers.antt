use Rattle.std.proofs.Common.{sym, subst}
use Rattle.cap_quiver_laws.specs.Quotient.{PathNumbers}
use Rattle.cap_quiver_laws.specs.Paths.{IsNumbering}
use Rattle.cap_quiver_paths.specs.Data.{quiver}
use Rattle.cap_quiver_paths.proofs.NumberLists.{joins-inside, lists-number}
use Rattle.cap_quiver_paths.proofs.numbering.numbered.Goals as goal

pub all_joins-requires-clause-joins : goal.all_joins-requires-clause-joins
all_joins-requires-clause-joins c = joins-inside c.args.objects c.args.arrows.now c.args.bound c.args.paths.now c.requires.quiver c.requires.paths

pub returns : goal.returns
returns c = subst (λ (A : PathNumbers). IsNumbering (quiver c.args.objects c.args.arrows.now c.args.bound) c.args.paths.now A) (sym c.from_lists.ensures)
    (lists-number c.args.objects c.args.arrows.now c.args.bound c.args.paths.now c.requires.quiver c.requires.paths c.in_ok-ends.ends.items c.in_ok-units.units.items c.in_ok-joins.joins.items
    c.in_ok-ends.ensures c.in_ok-units.ensures c.in_ok-joins.ensures)
