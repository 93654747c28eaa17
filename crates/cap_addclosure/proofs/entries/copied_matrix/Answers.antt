use Rattle.std.proofs.Common.{ℕ, ◌*◌, List, length, sym, ap, ◌∙◌, arith}
use Rattle.cap_add_laws.specs.Closure.{joined}
use Rattle.cap_addclosure.proofs.Built.{copies-built}
use Rattle.cap_addclosure.proofs.entries.copied_matrix.Goals as goal

pub built-requires-clause-many : goal.built-requires-clause-many
built-requires-clause-many c =
    let f = c.args.f.now in
    ap (λ (z : List (List ℕ)). length z) (c.in_ok-entries.ensures ∙ c.entries.ensures.value) ∙ c.entries.ensures.many
    ∙ ap (λ (z : List ℕ). length z * length f.to) (sym c.source.ensures) ∙ ap (λ (z : List ℕ). length c.source.result.now * length z) (sym c.target.ensures)

pub built-requires-clause-few : goal.built-requires-clause-few
built-requires-clause-few c =
    let e = ap (λ (z : List (List ℕ)). length (joined z)) (c.in_ok-entries.ensures ∙ c.entries.ensures.value) in
    omega (arith, e, c.entries.ensures.few)

pub returns : goal.returns
returns c = copies-built c.args.f.now c.source.result.now c.target.result.now c.in_ok-entries.entries.items c.built.result c.built.ensures.value c.built.ensures.fault
    c.source.ensures c.target.ensures (c.in_ok-entries.ensures ∙ c.entries.ensures.value)
