use Rattle.std.proofs.Common.{sym, ◌∙◌}
use Rattle.cap_reading.proofs.Loops.{loop_more, loop_fails, loop_done, loop_shrinks, front_none}
use Rattle.cap_grammar.specs.declared.symbol.Fixed.TheVariants as word
use Rattle.cap_lines.specs.Marks.{marks}
use Rattle.cap_literals.specs.Reading.{is}
use Rattle.cap_parser.specs.Scripts.{mark_starts, sessions_at}
use Rattle.cap_parser.proofs.ScriptLaws.{law_session, session_begins, begins_marks, marks_fail_so, shorter_marks}
use Rattle.cap_parser.proofs.scripts.sessions_of.Goals as goal

pub nodes-init : goal.nodes-init
nodes-init c = record { read = rw (c.new-sessions.ensures, c.new.ensures.items) (front_none _); lengths = c.requires }

pub returns-in-Err-clause-marks : goal.returns-in-Err-clause-marks
unfolding sessions_at
returns-in-Err-clause-marks c =
    marks_fail_so c.in-Err.error _ _
    (λ rest e. loop_fails (mark_starts (is word.Session)) law_session session_begins c.nodes.sessions (marks c.nodes.rest.now c.nodes.others.now) rest _ (begins_marks (is word.Session) c.nodes.rest.now c.nodes.others.now c.nodes.invariant.lengths ∙ sym c.starts.ensures ∙ c.nodes-test.true) e c.nodes.invariant.read)
    c.in-Err.ensures.marks

pub nodes-smaller : goal.nodes-smaller
nodes-smaller c =
    shorter_marks c.nodes.rest.now c.in-Ok.read.1.now c.nodes.others.now c.in-Ok.read.2.now c.nodes.invariant.lengths c.in-Ok.ensures.lengths
    (loop_shrinks (mark_starts (is word.Session)) law_session session_begins (marks c.nodes.rest.now c.nodes.others.now) c.in-Ok.read.0 (marks c.in-Ok.read.1.now c.in-Ok.read.2.now) c.in-Ok.ensures.marks)

pub nodes-preserved : goal.nodes-preserved
nodes-preserved c = record {
  read = rw c.in_ok-push.ensures (loop_more (mark_starts (is word.Session)) law_session session_begins c.nodes.sessions (marks c.nodes.rest.now c.nodes.others.now) c.in-Ok.read.0 (marks c.in-Ok.read.1.now c.in-Ok.read.2.now) _ (begins_marks (is word.Session) c.nodes.rest.now c.nodes.others.now c.nodes.invariant.lengths ∙ sym c.starts.ensures ∙ c.nodes-test.true) c.in-Ok.ensures.marks c.nodes.invariant.read);
  lengths = c.in-Ok.ensures.lengths;
}

pub returns-clause-marks : goal.returns-clause-marks
unfolding sessions_at
returns-clause-marks c = loop_done (mark_starts (is word.Session)) law_session session_begins c.nodes.sessions (marks c.nodes.rest.now c.nodes.others.now) _ (begins_marks (is word.Session) c.nodes.rest.now c.nodes.others.now c.nodes.invariant.lengths ∙ sym c.starts.ensures ∙ c.nodes-test.false) c.nodes.invariant.read
