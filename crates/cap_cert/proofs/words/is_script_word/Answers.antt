use Rattle.std.proofs.Common.{refl, sym, ◌∙◌, below_more, arith, ap}
use Rattle.cap_cert.specs.Machine.{is}
use Rattle.cap_cert.proofs.WordTests.{listed_at, not_listed}
use Rattle.cap_cert.proofs.words.is_script_word.Goals as goal

pub returns-then-is : goal.returns-then-is
returns-then-is c = (λ h. listed_at c.args.text.now c.words.place c.words-test.true (ap (λ w. is w c.args.text.now) (sym c.script_word.ensures) ∙ sym c.is.ensures ∙ c.if-is.true), λ h. refl)

pub words-preserved : goal.words-preserved
words-preserved c = below_more _ _ c.words.invariant (ap (λ w. is w c.args.text.now) (sym c.script_word.ensures) ∙ sym c.is.ensures ∙ c.if-is.false)

pub returns : goal.returns
returns c = (λ h. absurd (cc (h)), λ h. absurd (not_listed c.args.text.now (λ k less. c.words.invariant k (omega (arith, less, c.words-test.false))) h))
