use Rattle.std.proofs.Common.{◌≡◌, ◌∙◌, [], ◌∷◌, ◌+◌, ◌*◌, ◌<◌, drop, false, Some, Ok, Err, sym, subst, ap, refl, arith}
use Rattle.cap_ops.specs.declared.plans.Choice.TheVariants.{Prim, Rule as ByRule, Missing}
use Rattle.cap_ops.specs.Arrows.{over, arguments}
use Rattle.cap_ops.specs.Mismatches.{IsMismatch}
use Rattle.cap_ops.specs.Primitives.{prime_of, PrimAnswers, PrimIsLarge, PrimGives}
use Rattle.cap_ops.specs.Told.{Known}
use Rattle.cap_ops.specs.Values.{Fits, FitsWithAnswer, none}
use Rattle.cap_terms.specs.declared.body.Step.TheVariants.{Call}
use Rattle.cap_terms.specs.Run.{at, all_at, has_none}
use Rattle.cap_terms.proofs.Fit.{never_mismatches}
use Rattle.cap_run.specs.Plans.{rule_at, AreRules}
use Rattle.cap_steps.specs.Slots.{slot_value, slots, plain, AreArguments}
use Rattle.cap_board.specs.declared.answers.Asked.TheVariants.{Hit, Miss, NotFinal, Full}
use Rattle.cap_board.specs.declared.refusals.CallRefusal.TheVariants.{NoMemory, TooLarge}
use Rattle.cap_board.specs.Board.{Asks, MayPut}
use Rattle.cap_board.specs.Call.{depth, Chosen, CallSays, BodySays, PutEnds, BodySaysSlot, StepFits, StepSays, StepSaysSlot}
use Rattle.cap_board.proofs.LoopSays.{LoopSays}
use Rattle.cap_board.proofs.StepsSay.{plain-says, none-says, call-says}
use Rattle.cap_board.proofs.BodiesSay.{rest-from, rest-none, loop-init, loop-chosen, loop-known, loop-fits, loop-done, loop-grows, refused-says, loop-step, grows-none, grows-more}
use Rattle.cap_board.proofs.Facts.{fits-arguments, fits-sorts, fits-answer, ready-more, known-more, step-falls, loop-falls, known-at, mismatch-says}
use Rattle.cap_board.proofs.CallsSay.{prim-says, prim-puts, large-says, head-is, rule-typed, rule-chosen, rule-refused, rule-fits, rule-puts, rule-says}
use Rattle.cap_eval.proofs.Answered.{err-is, same-size, slots-snoc, plain-unless, hit-says, not-final-says, full-says, missing-says, prim-offered, rule-inside, rule-found, rule-measure}
use Rattle.cap_eval.proofs.eval.+eval.Goals as goal

pub run_rule-loop-step-init : goal.run_rule-loop-step-init
run_rule-loop-step-init g t c =
    let D = g.C.Offer.offered c.args.offer.now in
    let s = g.B.Board.state c.args.board.now in
    let told = g.B.Objects.told c.args.board.now in
    let r = c.args.rule.now in
    let args = arguments c.args.args.now in
    (c.requires.holds, g.met.B.Board.stays c.args.board.now, loop-init D r args s told (slots c.in_ok-env.env.items) c.in_ok-env.ensures c.requires.chosen c.requires.known)

pub run_rule-run_step-requires : goal.run_rule-run_step-requires
run_rule-run_step-requires g t c κs within =
    let D = g.C.Offer.offered c.args.offer.now in
    let s = g.B.Board.state c.args.board.now in
    let told = g.B.Objects.told c.args.board.now in
    let s1 = g.B.Board.state c.loop-step.board in
    let told1 = g.B.Objects.told c.loop-step.board in
    let r = c.args.rule.now in
    let args = arguments c.args.args.now in
    let i = c.loop-step.step-index in
    let env = slots c.loop-step.env.items in
    let says = c.loop-step.invariant.2 in
    let step = c.step-item.result in
    let rest = drop (i + 1) r.body.steps in
    let here : drop i r.body.steps ≡ step ∷ rest = rest-from r.body.steps c.as_slice-step-items.result.now i step c.as_slice-step-items.ensures c.loop-step-test.true c.step-item.is in
    let m : 3 * depth s.plan r.cost.head.0 + 1 ≡ t = c.decreases in
    let lt : 3 * depth s1.plan r.cost.head.0 < t = subst (λ n. 3 * depth s1.plan r.cost.head.0 < n) m (loop-falls D r args s told i env s1 told1 says) in (
      lt,
      (
        within.0,
        (
          within.1.0,
          (
            within.1.1.0,
            (
              within.1.1.1,
              (
                c.requires.fits.operation,
                (
                  subst (λ vs. StepFits (prime_of D) step (slots vs)) (sym c.deref.ensures.value) (loop-fits D r args s told i env s1 told1 says c.requires.typed c.requires.fits (never_mismatches (over (prime_of D)) r.cost.head.0 r.body) step rest here),
                  (
                    ready-more s told s1 told1 c.args.offer.now c.args.rules.now c.requires.ready says.grows,
                    (loop-chosen D r args s told i env s1 told1 says step rest here, (subst (λ vs. Known D.category told1 (slots vs)) (sym c.deref.ensures.value) (loop-known D r args s told i env s1 told1 says), c.loop-step.invariant.0)),
                  ),
                ),
              ),
            ),
          ),
        ),
      ),
    )

pub run_rule-returns-in_err-value-clause-onward : goal.run_rule-returns-in_err-value-clause-onward
run_rule-returns-in_err-value-clause-onward g t c = g.met.B.Board.goes_on c.args.board.now c.loop-step.board c.run_step.new.board c.loop-step.invariant.1 c.run_step.ensures.onward

pub run_rule-returns-in_err-value-clause-grows : goal.run_rule-returns-in_err-value-clause-grows
run_rule-returns-in_err-value-clause-grows g t c =
    let D = g.C.Offer.offered c.args.offer.now in
    let s = g.B.Board.state c.args.board.now in
    let told = g.B.Objects.told c.args.board.now in
    let s1 = g.B.Board.state c.loop-step.board in
    let told1 = g.B.Objects.told c.loop-step.board in
    let s2 = g.B.Board.state c.run_step.new.board in
    let told2 = g.B.Objects.told c.run_step.new.board in
    let r = c.args.rule.now in
    let args = arguments c.args.args.now in
    let i = c.loop-step.step-index in
    let env = slots c.loop-step.env.items in
    let says = c.loop-step.invariant.2 in
    let step = c.step-item.result in
    let rest = drop (i + 1) r.body.steps in
    let here : drop i r.body.steps ≡ step ∷ rest = rest-from r.body.steps c.as_slice-step-items.result.now i step c.as_slice-step-items.ensures c.loop-step-test.true c.step-item.is in
    loop-grows D r args s told i env s1 told1 says step rest here s2 told2 c.run_step.ensures.grows

pub run_rule-returns-in_err-value-clause-says : goal.run_rule-returns-in_err-value-clause-says
run_rule-returns-in_err-value-clause-says g t c =
    let D = g.C.Offer.offered c.args.offer.now in
    let s = g.B.Board.state c.args.board.now in
    let told = g.B.Objects.told c.args.board.now in
    let s1 = g.B.Board.state c.loop-step.board in
    let told1 = g.B.Objects.told c.loop-step.board in
    let s2 = g.B.Board.state c.run_step.new.board in
    let told2 = g.B.Objects.told c.run_step.new.board in
    let r = c.args.rule.now in
    let args = arguments c.args.args.now in
    let i = c.loop-step.step-index in
    let env = slots c.loop-step.env.items in
    let says = c.loop-step.invariant.2 in
    let step = c.step-item.result in
    let rest = drop (i + 1) r.body.steps in
    let here : drop i r.body.steps ≡ step ∷ rest = rest-from r.body.steps c.as_slice-step-items.result.now i step c.as_slice-step-items.ensures c.loop-step-test.true c.step-item.is in
    subst (λ w. BodySaysSlot D s s2 told2 r args w) (sym (err-is c.from_residual-in_err-value.result c.in_err-value.field-0.0 c.from_residual-in_err-value.ensures.1)) (refused-says D r args s told i env s1 told1 says step rest here s2 told2 c.run_step.ensures.grows c.in_err-value.field-0.0 (subst (λ vs. StepSays D s1 s2 told2 r.cost.head.0 step (slots vs) (Err c.in_err-value.field-0.0)) c.deref.ensures.value c.in_err-value.ensures.says))

pub run_rule-returns-in_err-push-clause-onward : goal.run_rule-returns-in_err-push-clause-onward
run_rule-returns-in_err-push-clause-onward g t c = g.met.B.Board.goes_on c.args.board.now c.loop-step.board c.run_step.new.board c.loop-step.invariant.1 c.run_step.ensures.onward

pub run_rule-returns-in_err-push-clause-grows : goal.run_rule-returns-in_err-push-clause-grows
run_rule-returns-in_err-push-clause-grows g t c =
    let D = g.C.Offer.offered c.args.offer.now in
    let s = g.B.Board.state c.args.board.now in
    let told = g.B.Objects.told c.args.board.now in
    let s1 = g.B.Board.state c.loop-step.board in
    let told1 = g.B.Objects.told c.loop-step.board in
    let s2 = g.B.Board.state c.run_step.new.board in
    let told2 = g.B.Objects.told c.run_step.new.board in
    let r = c.args.rule.now in
    let args = arguments c.args.args.now in
    let i = c.loop-step.step-index in
    let env = slots c.loop-step.env.items in
    let says = c.loop-step.invariant.2 in
    let step = c.step-item.result in
    let rest = drop (i + 1) r.body.steps in
    let here : drop i r.body.steps ≡ step ∷ rest = rest-from r.body.steps c.as_slice-step-items.result.now i step c.as_slice-step-items.ensures c.loop-step-test.true c.step-item.is in
    loop-grows D r args s told i env s1 told1 says step rest here s2 told2 c.run_step.ensures.grows

pub run_rule-loop-step-preserved : goal.run_rule-loop-step-preserved
run_rule-loop-step-preserved g t c =
    let D = g.C.Offer.offered c.args.offer.now in
    let s = g.B.Board.state c.args.board.now in
    let told = g.B.Objects.told c.args.board.now in
    let s1 = g.B.Board.state c.loop-step.board in
    let told1 = g.B.Objects.told c.loop-step.board in
    let s2 = g.B.Board.state c.run_step.new.board in
    let told2 = g.B.Objects.told c.run_step.new.board in
    let r = c.args.rule.now in
    let args = arguments c.args.args.now in
    let i = c.loop-step.step-index in
    let env = slots c.loop-step.env.items in
    let says = c.loop-step.invariant.2 in
    let step = c.step-item.result in
    let rest = drop (i + 1) r.body.steps in
    let here : drop i r.body.steps ≡ step ∷ rest = rest-from r.body.steps c.as_slice-step-items.result.now i step c.as_slice-step-items.ensures c.loop-step-test.true c.step-item.is in (
      c.run_step.ensures.holds,
      g.met.B.Board.goes_on c.args.board.now c.loop-step.board c.run_step.new.board c.loop-step.invariant.1 c.run_step.ensures.onward,
      subst (λ vs. LoopSays D r args s told (i + 1) vs s2 told2) (sym (ap slots c.in_ok-push.ensures.items ∙ slots-snoc c.loop-step.env.items c.in_ok-value.value)) (loop-step D r args s told i env s1 told1 says step rest here s2 told2 c.run_step.ensures.grows (slot_value c.in_ok-value.value) refl (subst (λ vs. StepSays D s1 s2 told2 r.cost.head.0 step (slots vs) (Ok (slot_value c.in_ok-value.value))) c.deref.ensures.value c.in_ok-value.ensures.says)),
    )

pub run_rule-returns-in_err-copy_at-clause-onward : goal.run_rule-returns-in_err-copy_at-clause-onward
run_rule-returns-in_err-copy_at-clause-onward g t c = c.loop-step.invariant.1

pub run_rule-returns-clause-onward : goal.run_rule-returns-clause-onward
run_rule-returns-clause-onward g t c = c.loop-step.invariant.1

pub run_rule-returns-clause-says : goal.run_rule-returns-clause-says
run_rule-returns-clause-says g t c =
    let D = g.C.Offer.offered c.args.offer.now in
    let s = g.B.Board.state c.args.board.now in
    let told = g.B.Objects.told c.args.board.now in
    let s1 = g.B.Board.state c.loop-step.board in
    let told1 = g.B.Objects.told c.loop-step.board in
    let r = c.args.rule.now in
    let args = arguments c.args.args.now in
    let i = c.loop-step.step-index in
    let env = slots c.loop-step.env.items in
    let says = c.loop-step.invariant.2 in
    loop-done D r args s told i env s1 told1 says (rest-none r.body.steps c.as_slice-step-items.result.now i c.as_slice-step-items.ensures c.loop-step-test.false) (slot_value c.in_ok-copy_at.field-0) (c.in_ok-copy_at.ensures ∙ ap (λ vs. at (slots vs) r.body.answer) c.deref-2.ensures.value)

pub run_step-returns-then-any_nothing-clause-onward : goal.run_step-returns-then-any_nothing-clause-onward
run_step-returns-then-any_nothing-clause-onward g t c = g.met.B.Board.stays c.args.board.now

pub run_step-returns-then-any_nothing-clause-says : goal.run_step-returns-then-any_nothing-clause-says
run_step-returns-then-any_nothing-clause-says g t c =
    let D = g.C.Offer.offered c.args.offer.now in
    let s = g.B.Board.state c.args.board.now in
    let told = g.B.Objects.told c.args.board.now in
    let head = c.args.head.0 in
    let env = slots c.args.env.now in
    let op = c.in-Call.op in
    let xs = c.in-Call.args in
    let chosen : Chosen D s head (Call op xs ∷ []) = subst (λ x. Chosen D s head (x ∷ [])) c.in-Call.is c.requires.chosen in
    subst (λ x. StepSays D s s told head x env (Ok none)) (sym c.in-Call.is) (none-says D s told head op xs env chosen c.requires.known (sym (c.any_nothing.ensures ∙ ap (λ xs. has_none (all_at env xs)) c.as_slice.ensures) ∙ c.if-any_nothing.true))

pub run_step-arguments_at-requires : goal.run_step-arguments_at-requires
run_step-arguments_at-requires g t c =
    let D = g.C.Offer.offered c.args.offer.now in
    let env = slots c.args.env.now in
    let op = c.in-Call.op in
    let xs = c.in-Call.args in
    let some : has_none (all_at env xs) ≡ false = sym (c.any_nothing.ensures ∙ ap (λ ys. has_none (all_at env ys)) c.as_slice.ensures) ∙ c.if-any_nothing.false in
    let fits : Fits (over (prime_of D)) op.0 (all_at env xs) = subst (λ x. StepFits (prime_of D) x env) c.in-Call.is c.requires.fits some in
    subst (λ xs. AreArguments (all_at env xs)) (sym c.as_slice-in-Call.ensures) (fits-arguments (prime_of D) op.0 (all_at env xs) fits)

pub run_step-value_of_key-requires : goal.run_step-value_of_key-requires
run_step-value_of_key-requires g t c κs within =
    let D = g.C.Offer.offered c.args.offer.now in
    let s = g.B.Board.state c.args.board.now in
    let told = g.B.Objects.told c.args.board.now in
    let head = c.args.head.0 in
    let env = slots c.args.env.now in
    let op = c.in-Call.op in
    let xs = c.in-Call.args in
    let some : has_none (all_at env xs) ≡ false = sym (c.any_nothing.ensures ∙ ap (λ ys. has_none (all_at env ys)) c.as_slice.ensures) ∙ c.if-any_nothing.false in
    let fits : Fits (over (prime_of D)) op.0 (all_at env xs) = subst (λ x. StepFits (prime_of D) x env) c.in-Call.is c.requires.fits some in
    let given : arguments c.new.result ≡ all_at env xs = ap arguments c.new.ensures ∙ (c.in_ok-arguments_at-in-Call.ensures ∙ ap (λ ys. all_at env ys) c.as_slice-in-Call.ensures) in
    let chosen : Chosen D s head (Call op xs ∷ []) = subst (λ x. Chosen D s head (x ∷ [])) c.in-Call.is c.requires.chosen in
    let m : 3 * depth s.plan head ≡ t = c.decreases in
    let lt : 3 * depth s.plan op.0 + 2 < t = subst (λ n. 3 * depth s.plan op.0 + 2 < n) m (step-falls D s head op xs chosen) in (
      lt,
      (
        within.0,
        (
          within.1.0,
          (
            within.1.1.0,
            (
              within.1.1.1,
              (
                fits-sorts (prime_of D) op.0 c.new.result (subst (λ vs. Fits (over (prime_of D)) op.0 vs) (sym given) fits),
                (c.requires.ready, (subst (λ vs. Known D.category told vs) (sym given) (known-at D told env xs c.requires.known), c.requires.holds)),
              ),
            ),
          ),
        ),
      ),
    )

pub run_step-returns-in_err-value-in-Call-clause-says : goal.run_step-returns-in_err-value-in-Call-clause-says
run_step-returns-in_err-value-in-Call-clause-says g t c =
    let D = g.C.Offer.offered c.args.offer.now in
    let s = g.B.Board.state c.args.board.now in
    let told = g.B.Objects.told c.args.board.now in
    let s1 = g.B.Board.state c.value_of_key.new.board in
    let told1 = g.B.Objects.told c.value_of_key.new.board in
    let head = c.args.head.0 in
    let env = slots c.args.env.now in
    let op = c.in-Call.op in
    let xs = c.in-Call.args in
    let some : has_none (all_at env xs) ≡ false = sym (c.any_nothing.ensures ∙ ap (λ ys. has_none (all_at env ys)) c.as_slice.ensures) ∙ c.if-any_nothing.false in
    let given : arguments c.new.result ≡ all_at env xs = ap arguments c.new.ensures ∙ (c.in_ok-arguments_at-in-Call.ensures ∙ ap (λ ys. all_at env ys) c.as_slice-in-Call.ensures) in
    let are : AreRules s.rules = subst AreRules (sym c.requires.ready.by_rules) c.requires.ready.are in
    let chosen : Chosen D s head (Call op xs ∷ []) = subst (λ x. Chosen D s head (x ∷ [])) c.in-Call.is c.requires.chosen in
    subst (λ w. StepSaysSlot D s s1 told1 head c.args.step.now env w) (sym (err-is c.from_residual-in_err-value-in-Call.result c.in_err-value-in-Call.field-0.0 c.from_residual-in_err-value-in-Call.ensures.1)) (subst (λ x. StepSays D s s1 told1 head x env (Err c.in_err-value-in-Call.field-0.0)) (sym c.in-Call.is) (call-says D s s1 told told1 head op xs env chosen c.requires.known c.value_of_key.ensures.grows some c.new.result given are c.requires.head (Err c.in_err-value-in-Call.field-0.0) (Err c.in_err-value-in-Call.field-0.0) refl c.in_err-value-in-Call.ensures.says))

pub run_step-returns-in_err-plain_step-in_default : goal.run_step-returns-in_err-plain_step-in_default
run_step-returns-in_err-plain_step-in_default g t c =
    let D = g.C.Offer.offered c.args.offer.now in
    let s = g.B.Board.state c.args.board.now in
    let told = g.B.Objects.told c.args.board.now in
    let head = c.args.head.0 in
    let env = slots c.args.env.now in
    record {
      holds = c.requires.holds;
      onward = g.met.B.Board.stays c.args.board.now;
      grows = grows-none s told;
      says = subst (λ w. StepSaysSlot D s s told head c.args.step.now env w) (sym (err-is c.from_residual-in_err-plain_step-in_default.result NoMemory c.from_residual-in_err-plain_step-in_default.ensures.1)) tt;
    }

pub run_step-returns-in_ok-value-in-Call-clause-says : goal.run_step-returns-in_ok-value-in-Call-clause-says
run_step-returns-in_ok-value-in-Call-clause-says g t c =
    let D = g.C.Offer.offered c.args.offer.now in
    let s = g.B.Board.state c.args.board.now in
    let told = g.B.Objects.told c.args.board.now in
    let s1 = g.B.Board.state c.value_of_key.new.board in
    let told1 = g.B.Objects.told c.value_of_key.new.board in
    let head = c.args.head.0 in
    let env = slots c.args.env.now in
    let op = c.in-Call.op in
    let xs = c.in-Call.args in
    let some : has_none (all_at env xs) ≡ false = sym (c.any_nothing.ensures ∙ ap (λ ys. has_none (all_at env ys)) c.as_slice.ensures) ∙ c.if-any_nothing.false in
    let given : arguments c.new.result ≡ all_at env xs = ap arguments c.new.ensures ∙ (c.in_ok-arguments_at-in-Call.ensures ∙ ap (λ ys. all_at env ys) c.as_slice-in-Call.ensures) in
    let are : AreRules s.rules = subst AreRules (sym c.requires.ready.by_rules) c.requires.ready.are in
    let chosen : Chosen D s head (Call op xs ∷ []) = subst (λ x. Chosen D s head (x ∷ [])) c.in-Call.is c.requires.chosen in
    subst (λ x. StepSays D s s1 told1 head x env (Ok (slot_value c.slot_of_value.result))) (sym c.in-Call.is) (call-says D s s1 told told1 head op xs env chosen c.requires.known c.value_of_key.ensures.grows some c.new.result given are c.requires.head (Ok c.in_ok-value-in-Call.value) (Ok (slot_value c.slot_of_value.result)) c.slot_of_value.ensures c.in_ok-value-in-Call.ensures.says)

pub run_step-returns-in_ok-plain_step-in_default : goal.run_step-returns-in_ok-plain_step-in_default
run_step-returns-in_ok-plain_step-in_default g t c =
    let D = g.C.Offer.offered c.args.offer.now in
    let s = g.B.Board.state c.args.board.now in
    let told = g.B.Objects.told c.args.board.now in
    let head = c.args.head.0 in
    let env = slots c.args.env.now in
    record {
      holds = c.requires.holds;
      onward = g.met.B.Board.stays c.args.board.now;
      grows = grows-none s told;
      says =
          let prime : prime_of D ≡ c.prime.result = c.field.ensures ∙ sym c.prime.ensures.value in
          let low = c.prime.ensures.low in
          let is : slot_value c.in_ok-plain_step-in_default.field-0 ≡ plain (over (prime_of D)) c.args.step.now env = c.in_ok-plain_step-in_default.ensures ∙ ap (λ p. plain (over p) c.args.step.now env) (sym prime) in
          subst (λ v. StepSays D s s told head c.args.step.now env (Ok v)) (sym is) (plain-says D s told head c.args.step.now env (plain-unless c.args.step.now (λ op xs e. c.in_default.not-Call op xs e)) (omega (arith, prime, low)) c.requires.chosen c.requires.known);
    }

pub value_of_key-returns-in-Err-clause-says : goal.value_of_key-returns-in-Err-clause-says
value_of_key-returns-in-Err-clause-says g t c =
    let D = g.C.Offer.offered c.args.offer.now in
    let s = g.B.Board.state c.args.board.now in
    let told = g.B.Objects.told c.args.board.now in
    let op = c.args.key.now.op.0 in
    let args = c.args.key.now.args in
    mismatch-says D s told op args c.in-Err.mismatch (subst (λ us. IsMismatch op us c.in-Err.mismatch) c.as_slice.ensures c.in-Err.ensures.wrong)

pub value_of_key-prim-requires-clause-is_offered : goal.value_of_key-prim-requires-clause-is_offered
value_of_key-prim-requires-clause-is_offered g t c =
    let D = g.C.Offer.offered c.args.offer.now in
    let s = g.B.Board.state c.args.board.now in
    let told = g.B.Objects.told c.args.board.now in
    let s1 = g.B.Board.state c.ask.new.self in
    let told1 = g.B.Objects.told c.ask.new.self in
    let op = c.args.key.now.op.0 in
    let args = c.args.key.now.args in
    let by_rules : s1.rules ≡ c.args.rules.now = c.in_ok-value.ensures.asks.grows.rules ∙ c.requires.ready.by_rules in
    let are : AreRules s1.rules = subst AreRules (sym by_rules) c.requires.ready.are in
    let fits : Fits (over (prime_of D)) op (arguments args) = subst (λ us. Fits (over (prime_of D)) op (arguments us)) c.as_slice.ensures ((c.in-Ok.ensures.fits (prime_of D)).0 refl) in
    let asks : Asks D s told op args (Miss Prim) s1 told1 = subst (λ a. Asks D s told op args a s1 told1) (c.in-Miss-Prim.is ∙ ap Miss c.in-Miss-Prim.field-0-is) (subst (λ o. Asks (g.C.Offer.offered o) s told op args c.in_ok-value.field-0 s1 told1) c.requires.ready.offers c.in_ok-value.ensures.asks) in
    prim-offered D s told op args fits s1 told1 are asks

pub value_of_key-prim-requires-clause-fits : goal.value_of_key-prim-requires-clause-fits
value_of_key-prim-requires-clause-fits g t c =
    let D = g.C.Offer.offered c.args.offer.now in
    let op = c.args.key.now.op.0 in
    let args = c.args.key.now.args in
    let fits : Fits (over (prime_of D)) op (arguments args) = subst (λ us. Fits (over (prime_of D)) op (arguments us)) c.as_slice.ensures ((c.in-Ok.ensures.fits (prime_of D)).0 refl) in
    subst (λ us. Fits (over (prime_of D)) op (arguments us)) (sym c.as_slice-in-Miss-Prim.ensures) fits

pub value_of_key-prim-requires-clause-known : goal.value_of_key-prim-requires-clause-known
value_of_key-prim-requires-clause-known g t c =
    let D = g.C.Offer.offered c.args.offer.now in
    let s = g.B.Board.state c.args.board.now in
    let told = g.B.Objects.told c.args.board.now in
    let s1 = g.B.Board.state c.ask.new.self in
    let told1 = g.B.Objects.told c.ask.new.self in
    let args = c.args.key.now.args in
    subst (λ us. Known D.category told1 (arguments us)) (sym c.as_slice-in-Miss-Prim.ensures) (known-more D s told s1 told1 (arguments args) c.in_ok-value.ensures.asks.grows c.requires.known)

pub value_of_key-rule-rule-requires : goal.value_of_key-rule-rule-requires
value_of_key-rule-rule-requires g t c =
    let D = g.C.Offer.offered c.args.offer.now in
    let s = g.B.Board.state c.args.board.now in
    let told = g.B.Objects.told c.args.board.now in
    let s1 = g.B.Board.state c.ask.new.self in
    let told1 = g.B.Objects.told c.ask.new.self in
    let op = c.args.key.now.op.0 in
    let args = c.args.key.now.args in
    let by_rules : s1.rules ≡ c.args.rules.now = c.in_ok-value.ensures.asks.grows.rules ∙ c.requires.ready.by_rules in
    let are : AreRules s1.rules = subst AreRules (sym by_rules) c.requires.ready.are in
    let fits : Fits (over (prime_of D)) op (arguments args) = subst (λ us. Fits (over (prime_of D)) op (arguments us)) c.as_slice.ensures ((c.in-Ok.ensures.fits (prime_of D)).0 refl) in
    let asks : Asks D s told op args (Miss (ByRule c.in-Miss-Rule.number)) s1 told1 = subst (λ a. Asks D s told op args a s1 told1) (c.in-Miss-Rule.is ∙ ap Miss c.in-Miss-Rule.field-0-is) (subst (λ o. Asks (g.C.Offer.offered o) s told op args c.in_ok-value.field-0 s1 told1) c.requires.ready.offers c.in_ok-value.ensures.asks) in
    let number = c.in-Miss-Rule.number in
    rule-inside D s told op args fits s1 told1 are number asks c.args.rules.now by_rules

pub value_of_key-run_rule-requires : goal.value_of_key-run_rule-requires
value_of_key-run_rule-requires g t c κs within =
    let D = g.C.Offer.offered c.args.offer.now in
    let s = g.B.Board.state c.args.board.now in
    let told = g.B.Objects.told c.args.board.now in
    let s1 = g.B.Board.state c.ask.new.self in
    let told1 = g.B.Objects.told c.ask.new.self in
    let op = c.args.key.now.op.0 in
    let args = c.args.key.now.args in
    let by_rules : s1.rules ≡ c.args.rules.now = c.in_ok-value.ensures.asks.grows.rules ∙ c.requires.ready.by_rules in
    let are : AreRules s1.rules = subst AreRules (sym by_rules) c.requires.ready.are in
    let fits : Fits (over (prime_of D)) op (arguments args) = subst (λ us. Fits (over (prime_of D)) op (arguments us)) c.as_slice.ensures ((c.in-Ok.ensures.fits (prime_of D)).0 refl) in
    let asks : Asks D s told op args (Miss (ByRule c.in-Miss-Rule.number)) s1 told1 = subst (λ a. Asks D s told op args a s1 told1) (c.in-Miss-Rule.is ∙ ap Miss c.in-Miss-Rule.field-0-is) (subst (λ o. Asks (g.C.Offer.offered o) s told op args c.in_ok-value.field-0 s1 told1) c.requires.ready.offers c.in_ok-value.ensures.asks) in
    let number = c.in-Miss-Rule.number in
    let r = c.rule-rule.result.now in
    let found : rule_at s1.rules number ≡ Some r = rule-found D s told op args fits s1 told1 are number asks c.args.rules.now by_rules r c.rule-rule.ensures.found in
    let m : 3 * depth s.plan op + 2 ≡ t = c.decreases in
    let lt : 3 * depth s1.plan r.cost.head.0 + 1 < t = subst (λ n. 3 * depth s1.plan r.cost.head.0 + 1 < n) m (rule-measure D s told op args fits s1 told1 are number asks r found) in (
      lt,
      (
        within.0,
        (
          within.1.0,
          (
            within.1.1.0,
            (
              within.1.1.1,
              (
                rule-typed D s told op args fits s1 told1 number asks are r found,
                (
                  subst (λ us. Fits (over (prime_of D)) r.cost.head.0 (arguments us)) (sym c.as_slice-in-Miss-Rule.ensures) (subst (λ o. Fits (over (prime_of D)) o (arguments args)) (sym (head-is D s told op args fits s1 told1 number asks are r found)) fits),
                  (
                    ready-more s told s1 told1 c.args.offer.now c.args.rules.now c.requires.ready c.in_ok-value.ensures.asks.grows,
                    (rule-chosen D s told op args fits s1 told1 number asks are r found, (subst (λ us. Known D.category told1 (arguments us)) (sym c.as_slice-in-Miss-Rule.ensures) (known-more D s told s1 told1 (arguments args) c.in_ok-value.ensures.asks.grows c.requires.known), c.ask.ensures.holds)),
                  ),
                ),
              ),
            ),
          ),
        ),
      ),
    )

pub value_of_key-returns-in_err-slot-in-Miss-Rule-clause-grows : goal.value_of_key-returns-in_err-slot-in-Miss-Rule-clause-grows
value_of_key-returns-in_err-slot-in-Miss-Rule-clause-grows g t c =
    let s = g.B.Board.state c.args.board.now in
    let told = g.B.Objects.told c.args.board.now in
    let s1 = g.B.Board.state c.ask.new.self in
    let told1 = g.B.Objects.told c.ask.new.self in
    let s2 = g.B.Board.state c.run_rule.new.board in
    let told2 = g.B.Objects.told c.run_rule.new.board in
    grows-more s told s1 told1 s2 told2 c.in_ok-value.ensures.asks.grows c.run_rule.ensures.grows

pub value_of_key-returns-in_err-slot-in-Miss-Rule-clause-says : goal.value_of_key-returns-in_err-slot-in-Miss-Rule-clause-says
value_of_key-returns-in_err-slot-in-Miss-Rule-clause-says g t c =
    let D = g.C.Offer.offered c.args.offer.now in
    let s = g.B.Board.state c.args.board.now in
    let told = g.B.Objects.told c.args.board.now in
    let s1 = g.B.Board.state c.ask.new.self in
    let told1 = g.B.Objects.told c.ask.new.self in
    let s2 = g.B.Board.state c.run_rule.new.board in
    let told2 = g.B.Objects.told c.run_rule.new.board in
    let op = c.args.key.now.op.0 in
    let args = c.args.key.now.args in
    let by_rules : s1.rules ≡ c.args.rules.now = c.in_ok-value.ensures.asks.grows.rules ∙ c.requires.ready.by_rules in
    let are : AreRules s1.rules = subst AreRules (sym by_rules) c.requires.ready.are in
    let fits : Fits (over (prime_of D)) op (arguments args) = subst (λ us. Fits (over (prime_of D)) op (arguments us)) c.as_slice.ensures ((c.in-Ok.ensures.fits (prime_of D)).0 refl) in
    let asks : Asks D s told op args (Miss (ByRule c.in-Miss-Rule.number)) s1 told1 = subst (λ a. Asks D s told op args a s1 told1) (c.in-Miss-Rule.is ∙ ap Miss c.in-Miss-Rule.field-0-is) (subst (λ o. Asks (g.C.Offer.offered o) s told op args c.in_ok-value.field-0 s1 told1) c.requires.ready.offers c.in_ok-value.ensures.asks) in
    let number = c.in-Miss-Rule.number in
    let r = c.rule-rule.result.now in
    let found : rule_at s1.rules number ≡ Some r = rule-found D s told op args fits s1 told1 are number asks c.args.rules.now by_rules r c.rule-rule.ensures.found in
    subst (λ w. CallSays D s s2 told2 op args w) (sym (err-is c.from_residual-in_err-slot-in-Miss-Rule.result c.in_err-slot-in-Miss-Rule.field-0.0 c.from_residual-in_err-slot-in-Miss-Rule.ensures.1)) (rule-refused D s told op args fits s1 told1 number asks are r found s2 told2 c.run_rule.ensures.grows c.in_err-slot-in-Miss-Rule.field-0.0 (subst (λ us. BodySays D s1 s2 told2 r (arguments us) (Err c.in_err-slot-in-Miss-Rule.field-0.0)) c.as_slice-in-Miss-Rule.ensures c.in_err-slot-in-Miss-Rule.ensures.says))

pub value_of_key-out_of_slot-requires : goal.value_of_key-out_of_slot-requires
value_of_key-out_of_slot-requires g t c =
    let D = g.C.Offer.offered c.args.offer.now in
    let s = g.B.Board.state c.args.board.now in
    let told = g.B.Objects.told c.args.board.now in
    let s1 = g.B.Board.state c.ask.new.self in
    let told1 = g.B.Objects.told c.ask.new.self in
    let s2 = g.B.Board.state c.run_rule.new.board in
    let told2 = g.B.Objects.told c.run_rule.new.board in
    let op = c.args.key.now.op.0 in
    let args = c.args.key.now.args in
    let by_rules : s1.rules ≡ c.args.rules.now = c.in_ok-value.ensures.asks.grows.rules ∙ c.requires.ready.by_rules in
    let are : AreRules s1.rules = subst AreRules (sym by_rules) c.requires.ready.are in
    let fits : Fits (over (prime_of D)) op (arguments args) = subst (λ us. Fits (over (prime_of D)) op (arguments us)) c.as_slice.ensures ((c.in-Ok.ensures.fits (prime_of D)).0 refl) in
    let asks : Asks D s told op args (Miss (ByRule c.in-Miss-Rule.number)) s1 told1 = subst (λ a. Asks D s told op args a s1 told1) (c.in-Miss-Rule.is ∙ ap Miss c.in-Miss-Rule.field-0-is) (subst (λ o. Asks (g.C.Offer.offered o) s told op args c.in_ok-value.field-0 s1 told1) c.requires.ready.offers c.in_ok-value.ensures.asks) in
    let number = c.in-Miss-Rule.number in
    let r = c.rule-rule.result.now in
    let found : rule_at s1.rules number ≡ Some r = rule-found D s told op args fits s1 told1 are number asks c.args.rules.now by_rules r c.rule-rule.ensures.found in
    let w = slot_value c.in_ok-slot-in-Miss-Rule.slot in
    let body : BodySays D s1 s2 told2 r (arguments args) (Ok w) = subst (λ us. BodySays D s1 s2 told2 r (arguments us) (Ok w)) c.as_slice-in-Miss-Rule.ensures c.in_ok-slot-in-Miss-Rule.ensures.says in
    let ends : FitsWithAnswer (over (prime_of D)) op (arguments args) w = rule-fits D s told op args fits s1 told1 number asks are r found s2 told2 c.run_rule.ensures.grows (never_mismatches (over (prime_of D)) r.cost.head.0 r.body) w body.1 in
    fits-answer (prime_of D) op (arguments args) w ends

pub value_of_key-returns-in_err-out_of_slot-in-Miss-Rule-clause-onward : goal.value_of_key-returns-in_err-out_of_slot-in-Miss-Rule-clause-onward
value_of_key-returns-in_err-out_of_slot-in-Miss-Rule-clause-onward g t c = g.met.B.Board.goes_on c.args.board.now c.ask.new.self c.run_rule.new.board c.ask.ensures.onward c.run_rule.ensures.onward

pub value_of_key-returns-in_err-out_of_slot-in-Miss-Rule-clause-grows : goal.value_of_key-returns-in_err-out_of_slot-in-Miss-Rule-clause-grows
value_of_key-returns-in_err-out_of_slot-in-Miss-Rule-clause-grows g t c =
    let s = g.B.Board.state c.args.board.now in
    let told = g.B.Objects.told c.args.board.now in
    let s1 = g.B.Board.state c.ask.new.self in
    let told1 = g.B.Objects.told c.ask.new.self in
    let s2 = g.B.Board.state c.run_rule.new.board in
    let told2 = g.B.Objects.told c.run_rule.new.board in
    grows-more s told s1 told1 s2 told2 c.in_ok-value.ensures.asks.grows c.run_rule.ensures.grows

pub value_of_key-put_value-requires-in-Miss-Rule-clause-fits : goal.value_of_key-put_value-requires-in-Miss-Rule-clause-fits
value_of_key-put_value-requires-in-Miss-Rule-clause-fits g t c =
    let D = g.C.Offer.offered c.args.offer.now in
    let s2 = g.B.Board.state c.run_rule.new.board in
    let op = c.args.key.now.op.0 in
    let args = c.args.key.now.args in
    let fits : Fits (over (prime_of D)) op (arguments args) = subst (λ us. Fits (over (prime_of D)) op (arguments us)) c.as_slice.ensures ((c.in-Ok.ensures.fits (prime_of D)).0 refl) in
    let offers : s2.offer ≡ c.args.offer.now = c.run_rule.ensures.grows.offer ∙ (c.in_ok-value.ensures.asks.grows.offer ∙ c.requires.ready.offers) in
    subst (λ o. Fits (over (prime_of (g.C.Offer.offered o))) op (arguments args)) (sym offers) fits

pub value_of_key-put_value-requires-in-Miss-Rule-clause-known : goal.value_of_key-put_value-requires-in-Miss-Rule-clause-known
value_of_key-put_value-requires-in-Miss-Rule-clause-known g t c =
    let D = g.C.Offer.offered c.args.offer.now in
    let s = g.B.Board.state c.args.board.now in
    let told = g.B.Objects.told c.args.board.now in
    let s1 = g.B.Board.state c.ask.new.self in
    let told1 = g.B.Objects.told c.ask.new.self in
    let s2 = g.B.Board.state c.run_rule.new.board in
    let told2 = g.B.Objects.told c.run_rule.new.board in
    let args = arguments c.args.key.now.args in
    let known = known-more D s told s1 told1 args c.in_ok-value.ensures.asks.grows c.requires.known in
    subst (λ o. Known (g.C.Offer.offered o).category told2 args) (sym (c.run_rule.ensures.grows.offer ∙ (c.in_ok-value.ensures.asks.grows.offer ∙ c.requires.ready.offers))) (known-more D s1 told1 s2 told2 args c.run_rule.ensures.grows known)

pub value_of_key-put_value-requires-in-Miss-Rule-clause-may : goal.value_of_key-put_value-requires-in-Miss-Rule-clause-may
value_of_key-put_value-requires-in-Miss-Rule-clause-may g t c =
    let D = g.C.Offer.offered c.args.offer.now in
    let s = g.B.Board.state c.args.board.now in
    let told = g.B.Objects.told c.args.board.now in
    let s1 = g.B.Board.state c.ask.new.self in
    let told1 = g.B.Objects.told c.ask.new.self in
    let s2 = g.B.Board.state c.run_rule.new.board in
    let told2 = g.B.Objects.told c.run_rule.new.board in
    let op = c.args.key.now.op.0 in
    let args = c.args.key.now.args in
    let by_rules : s1.rules ≡ c.args.rules.now = c.in_ok-value.ensures.asks.grows.rules ∙ c.requires.ready.by_rules in
    let are : AreRules s1.rules = subst AreRules (sym by_rules) c.requires.ready.are in
    let fits : Fits (over (prime_of D)) op (arguments args) = subst (λ us. Fits (over (prime_of D)) op (arguments us)) c.as_slice.ensures ((c.in-Ok.ensures.fits (prime_of D)).0 refl) in
    let asks : Asks D s told op args (Miss (ByRule c.in-Miss-Rule.number)) s1 told1 = subst (λ a. Asks D s told op args a s1 told1) (c.in-Miss-Rule.is ∙ ap Miss c.in-Miss-Rule.field-0-is) (subst (λ o. Asks (g.C.Offer.offered o) s told op args c.in_ok-value.field-0 s1 told1) c.requires.ready.offers c.in_ok-value.ensures.asks) in
    let number = c.in-Miss-Rule.number in
    let r = c.rule-rule.result.now in
    let found : rule_at s1.rules number ≡ Some r = rule-found D s told op args fits s1 told1 are number asks c.args.rules.now by_rules r c.rule-rule.ensures.found in
    let w = slot_value c.in_ok-slot-in-Miss-Rule.slot in
    let body : BodySays D s1 s2 told2 r (arguments args) (Ok w) = subst (λ us. BodySays D s1 s2 told2 r (arguments us) (Ok w)) c.as_slice-in-Miss-Rule.ensures c.in_ok-slot-in-Miss-Rule.ensures.says in
    let ends : FitsWithAnswer (over (prime_of D)) op (arguments args) w = rule-fits D s told op args fits s1 told1 number asks are r found s2 told2 c.run_rule.ensures.grows (never_mismatches (over (prime_of D)) r.cost.head.0 r.body) w body.1 in
    let offers : s2.offer ≡ c.args.offer.now = c.run_rule.ensures.grows.offer ∙ (c.in_ok-value.ensures.asks.grows.offer ∙ c.requires.ready.offers) in
    let known = known-more D s told s2 told2 (arguments args) (grows-more s told s1 told1 s2 told2 c.in_ok-value.ensures.asks.grows c.run_rule.ensures.grows) c.requires.known in
    subst (λ o. MayPut (g.C.Offer.offered o) s2 told2 op args (record { fresh = c.new-in-Miss-Rule.result; out = c.in_ok-out_of_slot-in-Miss-Rule.field-0 })) (sym offers) (rule-puts D s told op args fits s1 told1 number asks are r found s2 told2 c.run_rule.ensures.grows known w body.1 ends (record { fresh = c.new-in-Miss-Rule.result; out = c.in_ok-out_of_slot-in-Miss-Rule.field-0 }) (c.new-in-Miss-Rule.ensures ∙ c.new.ensures.items) c.in_ok-out_of_slot-in-Miss-Rule.ensures)

pub value_of_key-returns-in-Hit-clause-says : goal.value_of_key-returns-in-Hit-clause-says
value_of_key-returns-in-Hit-clause-says g t c =
    let D = g.C.Offer.offered c.args.offer.now in
    let s = g.B.Board.state c.args.board.now in
    let told = g.B.Objects.told c.args.board.now in
    let s1 = g.B.Board.state c.ask.new.self in
    let told1 = g.B.Objects.told c.ask.new.self in
    let op = c.args.key.now.op.0 in
    let args = c.args.key.now.args in
    let fits : Fits (over (prime_of D)) op (arguments args) = subst (λ us. Fits (over (prime_of D)) op (arguments us)) c.as_slice.ensures ((c.in-Ok.ensures.fits (prime_of D)).0 refl) in
    let asks : Asks D s told op args (Hit c.in-Hit.value) s1 told1 = subst (λ a. Asks D s told op args a s1 told1) c.in-Hit.is (subst (λ o. Asks (g.C.Offer.offered o) s told op args c.in_ok-value.field-0 s1 told1) c.requires.ready.offers c.in_ok-value.ensures.asks) in
    hit-says D s told op args fits s1 told1 c.in-Hit.value asks

pub value_of_key-returns-in-NotFinal-clause-says : goal.value_of_key-returns-in-NotFinal-clause-says
value_of_key-returns-in-NotFinal-clause-says g t c =
    let D = g.C.Offer.offered c.args.offer.now in
    let s = g.B.Board.state c.args.board.now in
    let told = g.B.Objects.told c.args.board.now in
    let s1 = g.B.Board.state c.ask.new.self in
    let told1 = g.B.Objects.told c.ask.new.self in
    let op = c.args.key.now.op.0 in
    let args = c.args.key.now.args in
    let fits : Fits (over (prime_of D)) op (arguments args) = subst (λ us. Fits (over (prime_of D)) op (arguments us)) c.as_slice.ensures ((c.in-Ok.ensures.fits (prime_of D)).0 refl) in
    let asks : Asks D s told op args (NotFinal) s1 told1 = subst (λ a. Asks D s told op args a s1 told1) c.in-NotFinal.is (subst (λ o. Asks (g.C.Offer.offered o) s told op args c.in_ok-value.field-0 s1 told1) c.requires.ready.offers c.in_ok-value.ensures.asks) in
    not-final-says D s told op args fits s1 told1 asks

pub value_of_key-returns-in-Full-clause-says : goal.value_of_key-returns-in-Full-clause-says
value_of_key-returns-in-Full-clause-says g t c =
    let D = g.C.Offer.offered c.args.offer.now in
    let s = g.B.Board.state c.args.board.now in
    let told = g.B.Objects.told c.args.board.now in
    let s1 = g.B.Board.state c.ask.new.self in
    let told1 = g.B.Objects.told c.ask.new.self in
    let op = c.args.key.now.op.0 in
    let args = c.args.key.now.args in
    let fits : Fits (over (prime_of D)) op (arguments args) = subst (λ us. Fits (over (prime_of D)) op (arguments us)) c.as_slice.ensures ((c.in-Ok.ensures.fits (prime_of D)).0 refl) in
    let asks : Asks D s told op args (Full c.in-Full.entries c.in-Full.cells) s1 told1 = subst (λ a. Asks D s told op args a s1 told1) c.in-Full.is (subst (λ o. Asks (g.C.Offer.offered o) s told op args c.in_ok-value.field-0 s1 told1) c.requires.ready.offers c.in_ok-value.ensures.asks) in
    full-says D s told op args fits s1 told1 c.in-Full.entries c.in-Full.cells asks

pub value_of_key-returns-in-Miss-Missing-clause-says : goal.value_of_key-returns-in-Miss-Missing-clause-says
value_of_key-returns-in-Miss-Missing-clause-says g t c =
    let D = g.C.Offer.offered c.args.offer.now in
    let s = g.B.Board.state c.args.board.now in
    let told = g.B.Objects.told c.args.board.now in
    let s1 = g.B.Board.state c.ask.new.self in
    let told1 = g.B.Objects.told c.ask.new.self in
    let op = c.args.key.now.op.0 in
    let args = c.args.key.now.args in
    let by_rules : s1.rules ≡ c.args.rules.now = c.in_ok-value.ensures.asks.grows.rules ∙ c.requires.ready.by_rules in
    let are : AreRules s1.rules = subst AreRules (sym by_rules) c.requires.ready.are in
    let fits : Fits (over (prime_of D)) op (arguments args) = subst (λ us. Fits (over (prime_of D)) op (arguments us)) c.as_slice.ensures ((c.in-Ok.ensures.fits (prime_of D)).0 refl) in
    let asks : Asks D s told op args (Miss Missing) s1 told1 = subst (λ a. Asks D s told op args a s1 told1) (c.in-Miss-Missing.is ∙ ap Miss c.in-Miss-Missing.field-0-is) (subst (λ o. Asks (g.C.Offer.offered o) s told op args c.in_ok-value.field-0 s1 told1) c.requires.ready.offers c.in_ok-value.ensures.asks) in
    missing-says D s told op args fits s1 told1 are c.args.key.now.op refl asks

pub value_of_key-put_value-requires-clause-known : goal.value_of_key-put_value-requires-clause-known
value_of_key-put_value-requires-clause-known g t c =
    let D = g.C.Offer.offered c.args.offer.now in
    let s = g.B.Board.state c.args.board.now in
    let told = g.B.Objects.told c.args.board.now in
    let s1 = g.B.Board.state c.ask.new.self in
    let told1 = g.B.Objects.told c.ask.new.self in
    let args = arguments c.args.key.now.args in
    let known = known-more D s told s1 told1 args c.in_ok-value.ensures.asks.grows c.requires.known in
    subst (λ o. Known (g.C.Offer.offered o).category told1 args) (sym (c.in_ok-value.ensures.asks.grows.offer ∙ c.requires.ready.offers)) known

pub value_of_key-put_value-requires-clause-may : goal.value_of_key-put_value-requires-clause-may
value_of_key-put_value-requires-clause-may g t c =
    let D = g.C.Offer.offered c.args.offer.now in
    let s = g.B.Board.state c.args.board.now in
    let told = g.B.Objects.told c.args.board.now in
    let s1 = g.B.Board.state c.ask.new.self in
    let told1 = g.B.Objects.told c.ask.new.self in
    let op = c.args.key.now.op.0 in
    let args = c.args.key.now.args in
    let fits : Fits (over (prime_of D)) op (arguments args) = subst (λ us. Fits (over (prime_of D)) op (arguments us)) c.as_slice.ensures ((c.in-Ok.ensures.fits (prime_of D)).0 refl) in
    let asks : Asks D s told op args (Miss Prim) s1 told1 = subst (λ a. Asks D s told op args a s1 told1) (c.in-Miss-Prim.is ∙ ap Miss c.in-Miss-Prim.field-0-is) (subst (λ o. Asks (g.C.Offer.offered o) s told op args c.in_ok-value.field-0 s1 told1) c.requires.ready.offers c.in_ok-value.ensures.asks) in
    let known = known-more D s told s1 told1 (arguments args) asks.grows c.requires.known in
    let prim = subst (λ us. PrimAnswers D told1 op us c.in-Ok-prim.out) c.as_slice-in-Miss-Prim.ensures c.in-Ok-prim.ensures in
    subst (λ o. MayPut (g.C.Offer.offered o) s1 told1 op args c.in-Ok-prim.out) (sym (asks.grows.offer ∙ c.requires.ready.offers)) (prim-puts D s told op args fits s1 told1 asks known c.in-Ok-prim.out prim)

pub value_of_key-returns-in-Ok-prim-clause-onward : goal.value_of_key-returns-in-Ok-prim-clause-onward
value_of_key-returns-in-Ok-prim-clause-onward g t c = g.met.B.Board.goes_on c.args.board.now c.ask.new.self c.put_value.new.board c.ask.ensures.onward c.put_value.ensures.onward

pub value_of_key-returns-in-Ok-prim-clause-grows : goal.value_of_key-returns-in-Ok-prim-clause-grows
value_of_key-returns-in-Ok-prim-clause-grows g t c =
    let s = g.B.Board.state c.args.board.now in
    let told = g.B.Objects.told c.args.board.now in
    let s1 = g.B.Board.state c.ask.new.self in
    let told1 = g.B.Objects.told c.ask.new.self in
    let s3 = g.B.Board.state c.put_value.new.board in
    let told3 = g.B.Objects.told c.put_value.new.board in
    grows-more s told s1 told1 s3 told3 c.in_ok-value.ensures.asks.grows c.put_value.ensures.grows

pub value_of_key-returns-in-Ok-prim-clause-says : goal.value_of_key-returns-in-Ok-prim-clause-says
value_of_key-returns-in-Ok-prim-clause-says g t c =
    let D = g.C.Offer.offered c.args.offer.now in
    let s = g.B.Board.state c.args.board.now in
    let told = g.B.Objects.told c.args.board.now in
    let s1 = g.B.Board.state c.ask.new.self in
    let told1 = g.B.Objects.told c.ask.new.self in
    let s3 = g.B.Board.state c.put_value.new.board in
    let told3 = g.B.Objects.told c.put_value.new.board in
    let op = c.args.key.now.op.0 in
    let args = c.args.key.now.args in
    let fits : Fits (over (prime_of D)) op (arguments args) = subst (λ us. Fits (over (prime_of D)) op (arguments us)) c.as_slice.ensures ((c.in-Ok.ensures.fits (prime_of D)).0 refl) in
    let asks : Asks D s told op args (Miss Prim) s1 told1 = subst (λ a. Asks D s told op args a s1 told1) (c.in-Miss-Prim.is ∙ ap Miss c.in-Miss-Prim.field-0-is) (subst (λ o. Asks (g.C.Offer.offered o) s told op args c.in_ok-value.field-0 s1 told1) c.requires.ready.offers c.in_ok-value.ensures.asks) in
    prim-says D s told op args fits s1 told1 asks c.in-Ok-prim.out (subst (λ us. PrimAnswers D told1 op us c.in-Ok-prim.out) c.as_slice-in-Miss-Prim.ensures c.in-Ok-prim.ensures) s3 told3 c.put_value.ensures.grows c.put_value.result (subst (λ o. PutEnds (g.C.Offer.offered o) s1 told1 op args c.in-Ok-prim.out s3 told3 c.put_value.result) (c.in_ok-value.ensures.asks.grows.offer ∙ c.requires.ready.offers) c.put_value.ensures.says)

pub value_of_key-returns-in-Err-TooLarge-clause-says : goal.value_of_key-returns-in-Err-TooLarge-clause-says
value_of_key-returns-in-Err-TooLarge-clause-says g t c =
    let D = g.C.Offer.offered c.args.offer.now in
    let s = g.B.Board.state c.args.board.now in
    let told = g.B.Objects.told c.args.board.now in
    let s1 = g.B.Board.state c.ask.new.self in
    let told1 = g.B.Objects.told c.ask.new.self in
    let op = c.args.key.now.op.0 in
    let args = c.args.key.now.args in
    let fits : Fits (over (prime_of D)) op (arguments args) = subst (λ us. Fits (over (prime_of D)) op (arguments us)) c.as_slice.ensures ((c.in-Ok.ensures.fits (prime_of D)).0 refl) in
    let asks : Asks D s told op args (Miss Prim) s1 told1 = subst (λ a. Asks D s told op args a s1 told1) (c.in-Miss-Prim.is ∙ ap Miss c.in-Miss-Prim.field-0-is) (subst (λ o. Asks (g.C.Offer.offered o) s told op args c.in_ok-value.field-0 s1 told1) c.requires.ready.offers c.in_ok-value.ensures.asks) in
    subst (λ z. CallSays D s s1 told1 op args (Err (TooLarge z))) (same-size c.in-Err-TooLarge.rows _ c.in-Err-TooLarge.cols _ (sym c.in-Err-TooLarge.rows-is) (sym c.in-Err-TooLarge.cols-is)) (large-says D s told op args fits s1 told1 asks c.in-Err-TooLarge.rows c.in-Err-TooLarge.cols (subst (λ us. PrimIsLarge D told1 op us c.in-Err-TooLarge.rows c.in-Err-TooLarge.cols) c.as_slice-in-Miss-Prim.ensures (subst (λ e. PrimGives D told1 op c.as_slice-in-Miss-Prim.result.now (Err e)) c.in-Err-TooLarge.field-0-is c.in-Err-TooLarge.ensures)))

pub value_of_key-returns-in_ok-out_of_slot-in-Miss-Rule-clause-onward : goal.value_of_key-returns-in_ok-out_of_slot-in-Miss-Rule-clause-onward
value_of_key-returns-in_ok-out_of_slot-in-Miss-Rule-clause-onward g t c =
    let body = g.met.B.Board.goes_on c.args.board.now c.ask.new.self c.run_rule.new.board c.ask.ensures.onward c.run_rule.ensures.onward in
    g.met.B.Board.goes_on c.args.board.now c.run_rule.new.board c.put_value-in-Miss-Rule.new.board body c.put_value-in-Miss-Rule.ensures.onward

pub value_of_key-returns-in_ok-out_of_slot-in-Miss-Rule-clause-grows : goal.value_of_key-returns-in_ok-out_of_slot-in-Miss-Rule-clause-grows
value_of_key-returns-in_ok-out_of_slot-in-Miss-Rule-clause-grows g t c =
    let s = g.B.Board.state c.args.board.now in
    let told = g.B.Objects.told c.args.board.now in
    let s1 = g.B.Board.state c.ask.new.self in
    let told1 = g.B.Objects.told c.ask.new.self in
    let s2 = g.B.Board.state c.run_rule.new.board in
    let told2 = g.B.Objects.told c.run_rule.new.board in
    let s3 = g.B.Board.state c.put_value-in-Miss-Rule.new.board in
    let told3 = g.B.Objects.told c.put_value-in-Miss-Rule.new.board in
    grows-more s told s2 told2 s3 told3 (grows-more s told s1 told1 s2 told2 c.in_ok-value.ensures.asks.grows c.run_rule.ensures.grows) c.put_value-in-Miss-Rule.ensures.grows

pub value_of_key-returns-in_ok-out_of_slot-in-Miss-Rule-clause-says : goal.value_of_key-returns-in_ok-out_of_slot-in-Miss-Rule-clause-says
value_of_key-returns-in_ok-out_of_slot-in-Miss-Rule-clause-says g t c =
    let D = g.C.Offer.offered c.args.offer.now in
    let s = g.B.Board.state c.args.board.now in
    let told = g.B.Objects.told c.args.board.now in
    let s1 = g.B.Board.state c.ask.new.self in
    let told1 = g.B.Objects.told c.ask.new.self in
    let s2 = g.B.Board.state c.run_rule.new.board in
    let told2 = g.B.Objects.told c.run_rule.new.board in
    let s3 = g.B.Board.state c.put_value-in-Miss-Rule.new.board in
    let told3 = g.B.Objects.told c.put_value-in-Miss-Rule.new.board in
    let op = c.args.key.now.op.0 in
    let args = c.args.key.now.args in
    let by_rules : s1.rules ≡ c.args.rules.now = c.in_ok-value.ensures.asks.grows.rules ∙ c.requires.ready.by_rules in
    let are : AreRules s1.rules = subst AreRules (sym by_rules) c.requires.ready.are in
    let fits : Fits (over (prime_of D)) op (arguments args) = subst (λ us. Fits (over (prime_of D)) op (arguments us)) c.as_slice.ensures ((c.in-Ok.ensures.fits (prime_of D)).0 refl) in
    let asks : Asks D s told op args (Miss (ByRule c.in-Miss-Rule.number)) s1 told1 = subst (λ a. Asks D s told op args a s1 told1) (c.in-Miss-Rule.is ∙ ap Miss c.in-Miss-Rule.field-0-is) (subst (λ o. Asks (g.C.Offer.offered o) s told op args c.in_ok-value.field-0 s1 told1) c.requires.ready.offers c.in_ok-value.ensures.asks) in
    let number = c.in-Miss-Rule.number in
    let r = c.rule-rule.result.now in
    let found : rule_at s1.rules number ≡ Some r = rule-found D s told op args fits s1 told1 are number asks c.args.rules.now by_rules r c.rule-rule.ensures.found in
    let w = slot_value c.in_ok-slot-in-Miss-Rule.slot in
    let body : BodySays D s1 s2 told2 r (arguments args) (Ok w) = subst (λ us. BodySays D s1 s2 told2 r (arguments us) (Ok w)) c.as_slice-in-Miss-Rule.ensures c.in_ok-slot-in-Miss-Rule.ensures.says in
    let offers : s2.offer ≡ c.args.offer.now = c.run_rule.ensures.grows.offer ∙ (c.in_ok-value.ensures.asks.grows.offer ∙ c.requires.ready.offers) in
    rule-says D s told op args fits s1 told1 number asks are r found s2 told2 c.run_rule.ensures.grows w body.0 (record { fresh = c.new-in-Miss-Rule.result; out = c.in_ok-out_of_slot-in-Miss-Rule.field-0 }) (c.new-in-Miss-Rule.ensures ∙ c.new.ensures.items) c.in_ok-out_of_slot-in-Miss-Rule.ensures s3 told3 c.put_value-in-Miss-Rule.ensures.grows c.put_value-in-Miss-Rule.result (subst (λ o. PutEnds (g.C.Offer.offered o) s2 told2 op args (record { fresh = c.new-in-Miss-Rule.result; out = c.in_ok-out_of_slot-in-Miss-Rule.field-0 }) s3 told3 c.put_value-in-Miss-Rule.result) offers c.put_value-in-Miss-Rule.ensures.says)
