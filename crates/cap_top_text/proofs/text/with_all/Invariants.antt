use Rattle.std.proofs.Common.{◌≡◌, ◌++◌, take, map}
use Rattle.cap_top_text.proofs.text.with_all.Given as goal

abbrev pub invariant-fresh : goal.invariant-fresh
invariant-fresh l = map (λ x. x.now) l.objects.items ≡ map (λ x. x.now) l.fn.objects.items ++ take l.object-index l.fresh
