-- What contracts see of the numbers of paths.
use Rattle.cap_quiver_laws.specs.Quotient.{PathNumbers}
use Rattle.cap_quiver_paths.specs.Numbers.{numbers_of}
use Rattle.cap_quiver_paths.specs.declared.numbers.Numbers.{Numbers}

-- the numbers in their lists
abbrev pub numbers_in : Numbers → PathNumbers
numbers_in n = numbers_of n.objects n.ends n.units n.joins
