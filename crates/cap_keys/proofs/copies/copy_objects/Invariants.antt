use Rattle.std.proofs.Common.{◌≡◌, take}
use Rattle.cap_keys.proofs.copies.copy_objects.Given as goal

abbrev pub invariant-loop-object : goal.invariant-loop-object
invariant-loop-object g l = l.copy.items ≡ take l.object-index l.objects
