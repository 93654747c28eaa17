use Rattle.std.proofs.Common.{◌≡◌, sym, ◌∙◌}
use Rattle.cap_block_faults.proofs.Each.{skip, here, ended}
use Rattle.cap_block_faults.proofs.marks.first_fault.Goals as goal

pub returns-in-Some : goal.returns-in-Some
returns-in-Some c = c.fault_at.ensures ∙ sym (here c.args.places.now c.args.marks.now c.tokens.i c.in-Some.reason c.tokens-test.true c.in-Some.is) ∙ c.tokens.invariant

pub tokens-preserved : goal.tokens-preserved
tokens-preserved c = skip c.args.places.now c.args.marks.now c.tokens.i c.tokens-test.true c.in_default.is ∙ c.tokens.invariant

pub returns : goal.returns
returns c = sym (ended c.args.places.now c.args.marks.now c.tokens.i c.tokens-test.false) ∙ c.tokens.invariant
