use Rattle.std.proofs.lemmas.Result.{IfOk-weaker}
use Rattle.cap_printer.specs.Printed.{IsPrinted}
use Rattle.cap_script.specs.Printed.{IsPrintedAgain}
use Rattle.cap_script.proofs.Parsed.{has_text, is_parsed}
use Rattle.cap_script.proofs.printing.print.Goals as goal

pub returns : goal.returns
returns c = λ bs parsed.
    IfOk-weaker c.print.result (λ v. IsPrinted c.args.script.now v.items) (λ v. IsPrintedAgain c.args.script.now v.items) (λ v printed. (printed.0, is_parsed v.items printed.0 printed.1, printed.2)) (c.print.ensures.text (has_text bs c.args.script.now parsed))
