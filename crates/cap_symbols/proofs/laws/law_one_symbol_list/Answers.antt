use Rattle.cap_symbols.proofs.OneText.{one_symbol_list}
use Rattle.cap_symbols.proofs.laws.law_one_symbol_list.Goals as goal

pub returns : goal.returns
returns c = one_symbol_list
