use Rattle.std.proofs.Common.{◌≡◌, ◌<◌, ◌∙◌, Some, sym, ap, subst, arith, length, [], get_or, ℕ, List}
use Rattle.std.proofs.lemmas.List.{length-map}
use Rattle.std.proofs.lemmas.Bool.{false≢true}
use Rattle.cap_cert.specs.Reading.{texts_of, text_of, IsFaultAt}
use Rattle.cap_cert.specs.Machine.{step}
use Rattle.cap_cert.proofs.FirstFaults.{fault_inside, fault_end, no_fault, run_more, runs_whole, inside_more, read_little}
use Rattle.cap_cert.proofs.faults.first_fault.Goals as goal

pub returns-in-None-clause-some : goal.returns-in-None-clause-some
returns-in-None-clause-some c =
    let ts : List (List ℕ) = texts_of c.args.bytes.now c.args.tokens.now in
    let inside : c.tokens.index < length ts = omega (arith, length-map c.args.tokens.now (text_of c.args.bytes.now), c.tokens-test.true) in
    fault_inside c.args.strict ts c.tokens.index c.tokens.state inside c.tokens.invariant.runs (ap (step c.args.strict c.tokens.state) (sym c.text_at.ensures) ∙ sym c.in-None.ensures)

pub tokens-preserved : goal.tokens-preserved
tokens-preserved c =
    let ts : List (List ℕ) = texts_of c.args.bytes.now c.args.tokens.now in
    let inside : c.tokens.index < length ts = omega (arith, length-map c.args.tokens.now (text_of c.args.bytes.now), c.tokens-test.true) in
    let goes : step c.args.strict c.tokens.state (get_or ts c.tokens.index []) ≡ Some c.in-Some.after = ap (step c.args.strict c.tokens.state) (sym c.text_at.ensures) ∙ sym c.in-Some.ensures in
    record {
      runs = run_more c.args.strict ts c.tokens.index c.tokens.state c.in-Some.after inside c.tokens.invariant.runs goes;
      inside = inside_more c.args.strict c.tokens.state c.in-Some.after (get_or ts c.tokens.index []) c.tokens.invariant.inside goes;
      few = omega (arith, read_little c.args.strict c.tokens.state c.in-Some.after (get_or ts c.tokens.index []) goes, c.tokens.invariant.few);
    }

pub returns-then-may_end-clause-none : goal.returns-then-may_end-clause-none
returns-then-may_end-clause-none c =
    no_fault c.args.strict (texts_of c.args.bytes.now c.args.tokens.now) c.tokens.state (runs_whole c.args.strict (texts_of c.args.bytes.now c.args.tokens.now) c.tokens.index c.tokens.state (omega (arith, length-map c.args.tokens.now (text_of c.args.bytes.now), c.tokens-test.false)) c.tokens.invariant.runs) (c.may_end.ensures.0 c.if-may_end.true)

pub returns-else-may_end-clause-some : goal.returns-else-may_end-clause-some
returns-else-may_end-clause-some c =
    let ts : List (List ℕ) = texts_of c.args.bytes.now c.args.tokens.now in
    subst (IsFaultAt c.args.strict ts) (length-map c.args.tokens.now (text_of c.args.bytes.now))
    (fault_end c.args.strict ts c.tokens.state (runs_whole c.args.strict (texts_of c.args.bytes.now c.args.tokens.now) c.tokens.index c.tokens.state (omega (arith, length-map c.args.tokens.now (text_of c.args.bytes.now), c.tokens-test.false)) c.tokens.invariant.runs) (λ e. false≢true (sym c.if-may_end.false ∙ c.may_end.ensures.1 e)))
