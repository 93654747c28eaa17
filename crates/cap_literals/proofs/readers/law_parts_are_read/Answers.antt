use Rattle.std.proofs.Common.{List, Bool}
use Rattle.cap_reading.specs.Steps.{Read}
use Rattle.cap_reading.proofs.Law.{Law}
use Rattle.cap_reading.proofs.Whole.{found, only, fault}
use Rattle.cap_literals.specs.Readers.{Reads}
use Rattle.cap_literals.proofs.Laws.{law_name, law_operation, law_number, law_int, law_ref, law_arg, law_list, law_path, law_combo, law_sum, law_rows, law_object, law_morphism}
use Rattle.cap_literals.proofs.readers.law_parts_are_read.Goals as goal

reads : {S A : Type 0} {r : List S → Read S A} {p : A → List S → Type 0} {goes : S → Bool} → Law r p goes → Reads r p
reads law = record { found = found law; only = only law; fault = fault law }

pub returns : goal.returns
returns c = record {
  names = reads law_name;
  operations = reads law_operation;
  numbers = reads law_number;
  ints = reads law_int;
  refs = reads law_ref;
  args = reads law_arg;
  lists = reads law_list;
  paths = reads law_path;
  combos = reads law_combo;
  sums = reads law_sum;
  matrices = reads law_rows;
  objects = reads law_object;
  morphisms = reads law_morphism;
}
