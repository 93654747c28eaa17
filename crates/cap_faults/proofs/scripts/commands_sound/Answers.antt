use Rattle.std.proofs.Common.{Some, None, sym, ◌∙◌, arith}
use Rattle.cap_block_faults.proofs.Each.{none_at_all}
use Rattle.cap_faults.specs.Scripts.{command_faults, bound_by_command}
use Rattle.cap_faults.proofs.Loops.{none_more, first_at, command_first, behind_more}
use Rattle.cap_faults.proofs.scripts.commands_sound.Goals as goal

pub returns-in-Some : goal.returns-in-Some
returns-in-Some c =
    first_at (command_faults c.args.left c.args.parts.now c.args.outer.now c.args.commands.now) _ _ c.index-commands-i.result c.in-Some.fault c.commands-test.true c.index-commands-i.is c.commands.invariant.none
    (command_first c.args.left c.args.parts.now c.args.outer.now c.args.commands.now c.commands.i c.index-commands-i.result c.as_slice-places.result.now c.saturating_sub-own.result c.deref.result.now (Some c.in-Some.fault)
    (sym c.in_ok-fault.ensures ∙ c.in-Some.is) c.as_slice-places.ensures (omega (arith, c.saturating_sub-own.ensures, c.len.ensures, c.deref.ensures.len)) (c.deref.ensures.value ∙ c.commands.invariant.bound))

pub commands-preserved : goal.commands-preserved
commands-preserved c = record {
  none = none_more (command_faults c.args.left c.args.parts.now c.args.outer.now c.args.commands.now) _ _ c.index-commands-i.result c.commands-test.true c.index-commands-i.is c.commands.invariant.none
      (none_at_all _ (command_first c.args.left c.args.parts.now c.args.outer.now c.args.commands.now c.commands.i c.index-commands-i.result c.as_slice-places.result.now c.saturating_sub-own.result c.deref.result.now None
      (sym c.in_ok-fault.ensures ∙ c.in_default.is) c.as_slice-places.ensures (omega (arith, c.saturating_sub-own.ensures, c.len.ensures, c.deref.ensures.len)) (c.deref.ensures.value ∙ c.commands.invariant.bound)));
  bound = behind_more bound_by_command _ _ _ _ c.index-commands-i.result _ c.commands-test.true c.index-commands-i.is c.commands.invariant.bound c.in_ok-bind.ensures;
}
