use Rattle.std.proofs.Common.{◌<◌, refl, sym, subst, length, arith}
use Rattle.cap_laws.specs.Linear.{Arrow}
use Rattle.cap_laws.specs.Systems.{IsSystem}
use Rattle.cap_laws.proofs.Sizes.{answers-after}
use Rattle.cap_freyd_laws.specs.Freyd.{freyd_data}
use Rattle.cap_freyd_laws.proofs.Linear.{below}
use Rattle.cap_freyd_laws.proofs.Lifts.{colift-is-system}
use Rattle.cap_freyd_univ.proofs.colift.freyd_colift.Goals as goal

pub first_unknown-requires-clause-system : goal.first_unknown-requires-clause-system
first_unknown-requires-clause-system g c =
    let L = g.met.P.Cat.linear c.args.below.now in
    let K = g.P.Cat.category c.args.below.now in
    let T : Arrow (freyd_data K) c.args.f.now.from c.args.t.now.to c.args.t.now = record { is = c.requires.right; from = sym c.requires.sources; to = refl } in
    subst (λ s. IsSystem K s) (sym c.in_ok-system.ensures.0) (colift-is-system L c.requires.left (below L T))

pub first_unknown-requires-clause-unknowns : goal.first_unknown-requires-clause-unknowns
first_unknown-requires-clause-unknowns g c = subst (λ s. 0 < length s.unknowns) (sym c.in_ok-system.ensures.0) (omega arith)

pub returns : goal.returns
returns g c = answers-after _ _ _ _ c.in_ok-system.ensures.1 (λ y k. k c.args.t.now.alpha) _ (rw c.in_ok-system.ensures.0 at c.first_unknown.ensures)
