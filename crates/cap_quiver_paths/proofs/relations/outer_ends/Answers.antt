use Rattle.std.proofs.Common.{sym, arith, ⊎_elim}
use Rattle.cap_quiver_paths.specs.Data.{quiver}
use Rattle.cap_quiver_paths.proofs.Goes.{term-first, term-last}
use Rattle.cap_quiver_paths.proofs.relations.outer_ends.Goals as goal

pub returns-then-first-arrows : goal.returns-then-first-arrows
returns-then-first-arrows c = λ x y t.
    let q = quiver 0 c.args.arrows.now 0 in
    let a = term-first q x y c.args.list.now t in
    let b = term-last q x y c.args.list.now t in
    ⊎_elim (λ past. omega (arith, past, a.0)) (λ past. omega (arith, past, b.0)) c.then-first-arrows.either

pub returns : goal.returns
returns c = λ x y t.
    let q = quiver 0 c.args.arrows.now 0 in
    (sym (term-first q x y c.args.list.now t).1, sym (term-last q x y c.args.list.now t).1)
