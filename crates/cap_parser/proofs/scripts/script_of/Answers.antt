use Rattle.std.proofs.Common.{◌∙◌, List, arith}
use Rattle.cap_grammar.specs.Scripts.{Mark}
use Rattle.cap_grammar.specs.declared.tree.Script.{Script}
use Rattle.cap_lines.specs.Marks.{marks}
use Rattle.cap_lines.proofs.Cuts.{symbols_marks}
use Rattle.cap_reading.specs.Steps.{both}
use Rattle.cap_parser.specs.Scripts.{items_at, sessions_at, script_at, new_script}
use Rattle.cap_parser.proofs.ScriptLaws.{marks_fail_so, mapped_fails, mapped_reads, both_fails, both_second, both_reads, ends_here, ends_before, whole_fails, whole_reads}
use Rattle.cap_parser.proofs.scripts.script_of.Goals as goal

pub returns-in-Err : goal.returns-in-Err
unfolding script_at
returns-in-Err c =
    let ms : List Mark = marks c.args.symbols.now c.args.places.now in
    marks_fail_so c.in-Err.error _ _
    (λ rest e. whole_fails script_at ms rest (mapped_fails new_script (both items_at sessions_at) ms rest (both_fails items_at sessions_at ms rest e)))
    c.in-Err.ensures.marks

pub returns-in-Err-sessions_of : goal.returns-in-Err-sessions_of
unfolding script_at
returns-in-Err-sessions_of c =
    let ms : List Mark = marks c.args.symbols.now c.args.places.now in
    let behind : List Mark = marks c.in-Ok.read.1.now c.in-Ok.read.2.now in
    marks_fail_so c.in-Err-sessions_of.error _ _
    (λ rest e. whole_fails script_at ms rest (mapped_fails new_script (both items_at sessions_at) ms rest (both_second items_at sessions_at ms (c.in-Ok.read.0, behind) rest c.in-Ok.ensures.marks e)))
    c.in-Err-sessions_of.ensures.marks

pub returns-in-empty : goal.returns-in-empty
unfolding script_at
returns-in-empty c =
    let ms : List Mark = marks c.args.symbols.now c.args.places.now in
    let behind : List Mark = marks c.in-Ok.read.1.now c.in-Ok.read.2.now in
    let after : List Mark = marks c.in-Ok-sessions_of.read.1.now c.in-Ok-sessions_of.read.2.now in
    let s : Script = record { prelude = c.in-Ok.read.0; sessions = c.in-Ok-sessions_of.read.0 } in
    whole_reads script_at ms (s, after)
    (mapped_reads new_script (both items_at sessions_at) ms ((c.in-Ok.read.0, c.in-Ok-sessions_of.read.0), after)
    (both_reads items_at sessions_at ms (c.in-Ok.read.0, behind) (c.in-Ok-sessions_of.read.0, after) c.in-Ok.ensures.marks c.in-Ok-sessions_of.ensures.marks))
    ∙ ends_here s c.in-Ok-sessions_of.read.1.now c.in-Ok-sessions_of.read.2.now (omega (arith, c.in-empty.len_below))

pub returns-in_default : goal.returns-in_default
unfolding script_at
returns-in_default c =
    let ms : List Mark = marks c.args.symbols.now c.args.places.now in
    let behind : List Mark = marks c.in-Ok.read.1.now c.in-Ok.read.2.now in
    let after : List Mark = marks c.in-Ok-sessions_of.read.1.now c.in-Ok-sessions_of.read.2.now in
    let s : Script = record { prelude = c.in-Ok.read.0; sessions = c.in-Ok-sessions_of.read.0 } in (
      after,
      whole_reads script_at ms (s, after)
          (mapped_reads new_script (both items_at sessions_at) ms ((c.in-Ok.read.0, c.in-Ok-sessions_of.read.0), after)
          (both_reads items_at sessions_at ms (c.in-Ok.read.0, behind) (c.in-Ok-sessions_of.read.0, after) c.in-Ok.ensures.marks c.in-Ok-sessions_of.ensures.marks))
          ∙ ends_before s c.in-Ok-sessions_of.read.1.now c.in-Ok-sessions_of.read.2.now c.in-Ok-sessions_of.ensures.lengths (omega (arith, c.in_default.len_at_least)),
      symbols_marks c.in-Ok-sessions_of.read.1.now c.in-Ok-sessions_of.read.2.now c.in-Ok-sessions_of.ensures.lengths,
    )
