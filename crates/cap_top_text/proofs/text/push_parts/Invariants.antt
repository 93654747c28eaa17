use Rattle.std.proofs.Common.{◌≡◌, ◌++◌, drop, length}
use Rattle.std.specs.Prelude.{zip}
use Rattle.cap_top_text.specs.Text.{parts_text, behind_parts}
use Rattle.cap_top_text.proofs.text.push_parts.Given as goal

abbrev pub invariant-parts : goal.invariant-parts
invariant-parts l = record {
  text : l.out.items ++ parts_text l.histories.all.now l.book (drop (length l.yielded) (zip l.parts l.done)) ≡ l.fn.out.items ++ parts_text l.histories.all.now l.fn.book (zip l.parts l.done);
  book : behind_parts l.book (drop (length l.yielded) (zip l.parts l.done)) ≡ behind_parts l.fn.book (zip l.parts l.done);
}
