use Rattle.std.proofs.Common.{◌≡◌, take}
use Rattle.cap_history.proofs.copies.copy_objects.Given as goal

abbrev pub invariant-loop-told : goal.invariant-loop-told
invariant-loop-told g l = l.copy.items ≡ take l.told-index l.objects
