-- The residues of a literal's coefficients: of an entry in order, and of all entries row after row.
use Rattle.std.specs.Prelude.{ℕ, ℤ, List, [], map, pos, nat_abs}
use Rattle.std.specs.List.{flat_map}
use Rattle.std.specs.Int.{int_rem_euclid}
use Rattle.cap_names.specs.declared.literals.EntryLit.{EntryLit}
use Rattle.cap_names.specs.declared.literals.EntryLit.TheVariants.{Int, Coeffs}

abbrev pub residue_in : ℕ → ℤ → ℕ
residue_in p n = nat_abs (int_rem_euclid n (pos p))

abbrev pub residues_of_entry : ℕ → EntryLit → List ℕ
residues_of_entry p (Int n) = []
residues_of_entry p (Coeffs coefficients) = map (residue_in p) coefficients

abbrev pub lists_of : ℕ → List (List EntryLit) → List (List ℕ)
lists_of p rows = flat_map (map (residues_of_entry p)) rows
