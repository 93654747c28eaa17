use Rattle.std.proofs.Common.{ap, ◌∙◌}
use Rattle.cap_add_laws.specs.Closure.{joined}
use Rattle.cap_addclosure.proofs.Built.{held-fits}
use Rattle.cap_addclosure.proofs.category.AddCatHomFp.nu.Goals as goal

pub returns : goal.returns
returns g c = (
  c.new.ensures ∙ c.in_ok-row.ensures ∙ ap joined c.entries.ensures.value,
  held-fits c.args.f.now c.requires c.limits.ensures.rows c.limits.ensures.columns c.limits.ensures.cells,
)
