-- The residues of a literal's integers, row after row.
use Rattle.std.specs.Prelude.{ℕ, List, map, pos, nat_abs}
use Rattle.std.specs.List.{flat_map}
use Rattle.std.specs.Int.{int_rem_euclid}
use Rattle.cap_names.specs.declared.literals.EntryLit.{EntryLit}
use Rattle.cap_names.specs.declared.literals.EntryLit.TheVariants.{Int, Coeffs}

abbrev pub residue_of : ℕ → EntryLit → ℕ
residue_of p (Int n) = nat_abs (int_rem_euclid n (pos p))
residue_of p (Coeffs coefficients) = 0

abbrev pub residues_of : ℕ → List (List EntryLit) → List ℕ
residues_of p rows = flat_map (map (residue_of p)) rows
