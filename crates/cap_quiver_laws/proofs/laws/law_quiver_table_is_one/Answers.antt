use Rattle.cap_quiver_laws.proofs.OneTable.{table-one}
use Rattle.cap_quiver_laws.proofs.laws.law_quiver_table_is_one.Goals as goal

pub returns : goal.returns
returns c = λ p Q R T U ps qs H G. table-one p Q R T U ps qs H G
