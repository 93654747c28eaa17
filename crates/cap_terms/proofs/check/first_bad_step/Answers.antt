use Rattle.std.proofs.Common.{[], ◌∷◌, ◌++◌, refl, ap, ◌∙◌, length, get_or, arith}
use Rattle.cap_terms.specs.Checker.{given_shapes}
use Rattle.cap_terms.proofs.Loops.{parameters-nameable, known-next, steps-next}
use Rattle.cap_terms.proofs.check.first_bad_step.Goals as goal

pub loop-k-init : goal.loop-k-init
loop-k-init c = (given_shapes c.args.head.0, parameters-nameable c.args.head.0 c.known_parameters-known.result c.known_parameters-known.ensures, refl)

pub loop-k-preserved : goal.loop-k-preserved
loop-k-preserved c =
    let full = c.loop-k.invariant.0 in (
      full ++ c.in-Some.shape ∷ [],
      known-next full c.loop-k.known c.push.new.self c.in-Some.shape c.loop-k.invariant.1 c.push.ensures,
      c.loop-k.invariant.2
          ∙ steps-next full c.args.head.0 c.args.body.now.params c.args.body.now.answer c.loop-k.k c.args.body.now.steps c.step-item.result c.in-Some.shape (omega (arith, ap length c.as_slice-step-items.ensures)) (c.step-item.is ∙ ap (λ ss. get_or ss c.loop-k.k c.step-item.result) c.as_slice-step-items.ensures) (c.in-Some.ensures full c.loop-k.invariant.1),
    )
