use Rattle.std.proofs.Common.{◌≡◌, drop, map}
use Rattle.cap_history.specs.Reading.{read, more_objects, objects}
use Rattle.cap_top_text.proofs.text.objects_in.Given as goal

abbrev pub invariant-entries : goal.invariant-entries
invariant-entries l = read more_objects (map (λ x. x.now) l.objects.items) (drop l.entry-index l.entries) ≡ objects l.entries
