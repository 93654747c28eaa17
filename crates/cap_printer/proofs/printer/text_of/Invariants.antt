use Rattle.std.proofs.Common.{◌≡◌, ◌++◌, drop}
use Rattle.cap_printer.specs.Texts.{text_behind, text_of}
use Rattle.cap_printer.proofs.printer.text_of.Given as goal

abbrev pub invariant-symbols : goal.invariant-symbols
invariant-symbols l = l.out.items ++ text_behind l.before (drop l.symbol-index l.symbols) ≡ text_of l.symbols
