use Rattle.std.proofs.Common.{◌∙◌, sym, List, Ok}
use Rattle.cap_grammar.specs.Scripts.{Mark}
use Rattle.cap_lines.specs.Marks.{marks, placed_at}
use Rattle.cap_reading.specs.Steps.{both}
use Rattle.cap_parser.specs.Scripts.{session_head_at, session_end_at, commands_at, session_at, new_session}
use Rattle.cap_parser.proofs.ScriptLaws.{marks_fail_so, mapped_fails, mapped_reads, both_fails, both_second, both_reads}
use Rattle.cap_parser.proofs.scripts.session_of.Goals as goal

pub returns-in-Err-clause-marks : goal.returns-in-Err-clause-marks
unfolding session_at
returns-in-Err-clause-marks c =
    let ms : List Mark = marks c.args.symbols.now c.args.places.now in
    marks_fail_so c.in-Err.error _ _
    (λ rest e. mapped_fails new_session (both (placed_at session_head_at) (both commands_at (placed_at session_end_at))) ms rest (both_fails (placed_at session_head_at) (both commands_at (placed_at session_end_at)) ms rest e))
    c.in-Err.ensures.marks

pub returns-in-Err-commands_of-clause-marks : goal.returns-in-Err-commands_of-clause-marks
unfolding session_at
returns-in-Err-commands_of-clause-marks c =
    let ms : List Mark = marks c.args.symbols.now c.args.places.now in
    let behind : List Mark = marks c.in-Ok.read.1.now c.in-Ok.read.2.now in
    marks_fail_so c.in-Err-commands_of.error _ _
    (λ rest e.
    mapped_fails new_session (both (placed_at session_head_at) (both commands_at (placed_at session_end_at))) ms rest
    (both_second (placed_at session_head_at) (both commands_at (placed_at session_end_at)) ms (c.in-Ok.read.0, behind) rest c.in-Ok.ensures.marks
    (both_fails commands_at (placed_at session_end_at) behind rest e)))
    c.in-Err-commands_of.ensures.marks

pub returns-in-Err-session_end_of-clause-marks : goal.returns-in-Err-session_end_of-clause-marks
unfolding session_at
returns-in-Err-session_end_of-clause-marks c =
    let ms : List Mark = marks c.args.symbols.now c.args.places.now in
    let behind : List Mark = marks c.in-Ok.read.1.now c.in-Ok.read.2.now in
    let last : List Mark = marks c.in-Ok-commands_of.read.1.now c.in-Ok-commands_of.read.2.now in
    marks_fail_so c.in-Err-session_end_of.error _ _
    (λ rest e.
    mapped_fails new_session (both (placed_at session_head_at) (both commands_at (placed_at session_end_at))) ms rest
    (both_second (placed_at session_head_at) (both commands_at (placed_at session_end_at)) ms (c.in-Ok.read.0, behind) rest c.in-Ok.ensures.marks
    (both_second commands_at (placed_at session_end_at) behind (c.in-Ok-commands_of.read.0, last) rest c.in-Ok-commands_of.ensures.marks e)))
    c.in-Err-session_end_of.ensures.marks

pub returns-clause-marks : goal.returns-clause-marks
unfolding session_at
returns-clause-marks c =
    let ms : List Mark = marks c.args.symbols.now c.args.places.now in
    let behind : List Mark = marks c.in-Ok.read.1.now c.in-Ok.read.2.now in
    let last : List Mark = marks c.in-Ok-commands_of.read.1.now c.in-Ok-commands_of.read.2.now in
    let after : List Mark = marks c.in-Ok-session_end_of.read.1.now c.in-Ok-session_end_of.read.2.now in
    mapped_reads new_session (both (placed_at session_head_at) (both commands_at (placed_at session_end_at))) ms ((c.in-Ok.read.0, (c.in-Ok-commands_of.read.0, c.in-Ok-session_end_of.read.0)), after)
    (both_reads (placed_at session_head_at) (both commands_at (placed_at session_end_at)) ms (c.in-Ok.read.0, behind) ((c.in-Ok-commands_of.read.0, c.in-Ok-session_end_of.read.0), after) c.in-Ok.ensures.marks
    (both_reads commands_at (placed_at session_end_at) behind (c.in-Ok-commands_of.read.0, last) (c.in-Ok-session_end_of.read.0, after) c.in-Ok-commands_of.ensures.marks c.in-Ok-session_end_of.ensures.marks))
    ∙ (λ i. Ok (record { node = record { name = c.in-Ok.read.0.node; commands = c.in-Ok-commands_of.read.0 }; places = sym c.in_ok-own.ensures i }, after))
