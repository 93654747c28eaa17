use Rattle.std.proofs.Common.{◌++◌, take, List, ℕ, sym, ap, ◌∙◌}
use Rattle.cap_add_laws.specs.Closure.{joined}
use Rattle.cap_addclosure.proofs.Built.{joined-next}
use Rattle.cap_addclosure.proofs.rows.all_coefficients.Goals as goal

pub loop-entry-preserved : goal.loop-entry-preserved
loop-entry-preserved c =
    let es = c.args.entries.now in
    let i = c.loop-entry.entry-index in
    c.in_ok-extend_from_slice.ensures.items
    ∙ ap (λ (z : List ℕ). z ++ c.as_slice.result.now) c.loop-entry.invariant
    ∙ ap (λ (z : List ℕ). joined (take i es) ++ z) (c.as_slice.ensures ∙ c.entry-item.is)
    ∙ sym (joined-next es i c.entry-item.result c.loop-entry-test.true)
