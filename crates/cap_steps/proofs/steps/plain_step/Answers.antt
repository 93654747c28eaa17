use Rattle.cap_steps.proofs.steps.plain_step.Goals as goal

pub returns-in-Src : goal.returns-in-Src
returns-in-Src g c = rw c.in-Src.is (c.source_at.ensures c.args.prime)

pub returns-in-Tgt : goal.returns-in-Tgt
returns-in-Tgt g c = rw c.in-Tgt.is (c.target_at.ensures c.args.prime)
