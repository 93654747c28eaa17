use Rattle.std.proofs.Common.{◌≡◌, ℕ, ◌<◌, length}
use Rattle.std.specs.List.{slice_index_or}
use Rattle.cap_ops.specs.Derivations.{means, choice_for}
use Rattle.cap_ops.specs.declared.plans.Choice.TheVariants.{Missing}
use Rattle.cap_plan.proofs.plan.Given as goal

abbrev pub invariant-loop-op : goal.invariant-loop-op
invariant-loop-op l =
    record {
      long : length l.choices ≡ 44;
      each : (k : ℕ) → k < l.op → slice_index_or l.choices k Missing ≡ choice_for (means l.regs l.costs l.kind) l.bounds k;
    }
