-- The laws of the readers, and what each part of a command begins with.
pub use Rattle.cap_literals.proofs.Symbols.{law_name, law_operation, law_number, name_begins, number_begins}
pub use Rattle.cap_literals.proofs.Parts.{law_int, law_ref, law_arg, law_names, law_list, law_next_name, law_path, int_begins, ref_begins, arg_begins, list_begins, next_name_begins, path_begins}
pub use Rattle.cap_literals.proofs.Sums.{longer, law_multiple, law_next_multiple, next_multiple_begins, law_combo, law_term, law_next_term, next_term_begins, sum_longer, law_sum}
pub use Rattle.cap_literals.proofs.Values.{law_entry, entry_begins, law_row, row_begins, law_next_row, next_row_begins, law_rows, rows_begins, law_map, map_begins, law_numbers, dims_longer, object_longer, law_object, law_matrices, law_morphism}
