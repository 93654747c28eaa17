use Rattle.std.proofs.Common.{◌≡◌, take}
use Rattle.cap_data.proofs.lists.copy_matrices.Given as goal

abbrev pub invariant-loop-m : goal.invariant-loop-m
invariant-loop-m l = l.copy.items ≡ take l.m-index l.matrices
