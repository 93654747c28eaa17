use Rattle.std.proofs.Common.{◌≡◌, List, map, sym, ap, ◌∙◌, subst}
use Rattle.std.proofs.lemmas.Result.{IfOk-weaker}
use Rattle.cap_grammar.specs.Scripts.{Mark, symbols, IsScript}
use Rattle.cap_spelling.specs.Again.{plain_zero}
use Rattle.cap_printer.specs.Texts.{text_of}
use Rattle.cap_printer.specs.Printed.{IsPrinted}
use Rattle.cap_printer.proofs.Whole.{printed}
use Rattle.cap_printer.proofs.printer.print.Goals as goal

pub returns-clause-text : goal.returns-clause-text
returns-clause-text c = λ has.
    IfOk-weaker c.text_of.result (λ v. v.items ≡ text_of c.as_slice.result.now) (λ v. IsPrinted c.args.script.now v.items)
    (λ v e. subst (IsPrinted c.args.script.now) (sym (e ∙ ap text_of c.as_slice.ensures.value)) (printed c.args.script.now c.in_ok-symbols.symbols.items has c.in_ok-symbols.ensures.text c.in_ok-symbols.ensures.again)) c.text_of.ensures

pub returns-clause-form : goal.returns-clause-form
returns-clause-form c =
    IfOk-weaker c.text_of.result (λ v. v.items ≡ text_of c.as_slice.result.now) (λ v. (marks : List Mark) → IsScript c.args.script.now marks → v.items ≡ text_of (map plain_zero (symbols marks)))
    (λ v e marks text. e ∙ ap text_of (c.as_slice.ensures.value ∙ c.in_ok-symbols.ensures.text marks text)) c.text_of.ensures
