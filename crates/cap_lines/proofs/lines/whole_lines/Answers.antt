use Rattle.std.proofs.Common.{rules, ◌∷◌, [], ◌+◌, sym, ap, ◌∙◌, get_or}
use Rattle.std.proofs.lemmas.List.{length_push}
use Rattle.cap_lines.specs.Marks.{marks}
use Rattle.cap_lines.proofs.Trimmed.{step_kept, step_dropped, end_kept, end_dropped}
use Rattle.cap_lines.proofs.Kept.{newline}
use Rattle.cap_lines.proofs.lines.whole_lines.Goals as goal
use Rattle.cap_lines.proofs.lines.whole_lines.Goals.{then-not-is_empty_line+in_ok-push_mark, else-not-is_empty_line, then-not-begins+in_ok-push_mark-2, else-not-begins}

pub symbols-preserved : goal.symbols-preserved
symbols-preserved c = elim c.if-not-is_empty_line.branch [
  | then-not-is_empty_line+in_ok-push_mark w ↦
      rw (w.kept-is, w.kept_places-is, w.in_ok-push_mark.ensures.symbols, w.in_ok-push_mark.ensures.places)
      (record {
        lengths = length_push c.symbols.kept.items c.index-symbols-i.result ∙ ap (λ n. n + 1) c.symbols.invariant.lengths ∙ sym (length_push c.symbols.kept_places.items _);
        kept = step_kept c.symbols.kept.items c.symbols.kept_places.items c.symbols.begins c.is_newline-newline.result c.args.symbols.now c.args.places.now c.symbols.i c.index-symbols-i.result _ (newline c.args.end ∷ []) _ (search rules) (search rules) c.index-symbols-i.is c.is_newline-newline.ensures (sym c.is_empty_line.ensures ∙ w.if-not-is_empty_line.true) c.symbols.invariant.lengths c.symbols.invariant.kept;
      })
  | else-not-is_empty_line w ↦
      rw (w.kept-is, w.kept_places-is)
      (record {
        lengths = c.symbols.invariant.lengths;
        kept = step_dropped (marks c.symbols.kept.items c.symbols.kept_places.items) c.symbols.begins c.is_newline-newline.result c.args.symbols.now c.args.places.now c.symbols.i c.index-symbols-i.result (get_or c.args.places.now c.symbols.i c.args.end) (newline c.args.end ∷ []) _ (search rules) (search rules) c.index-symbols-i.is c.is_newline-newline.ensures (sym c.is_empty_line.ensures ∙ w.if-not-is_empty_line.false) c.symbols.invariant.kept;
      })
]

pub returns-clause-marks : goal.returns-clause-marks
returns-clause-marks c = elim c.if-not-begins.branch [
  | then-not-begins+in_ok-push_mark-2 w ↦
      rw (w.kept-is, w.kept_places-is, w.in_ok-push_mark-2.ensures.symbols, w.in_ok-push_mark-2.ensures.places)
      (end_kept c.symbols.kept.items c.symbols.kept_places.items c.symbols.begins c.args.symbols.now c.args.places.now c.symbols.i c.args.end _ (search rules) w.if-not-begins.true c.symbols.invariant.lengths c.symbols.invariant.kept)
  | else-not-begins w ↦
      rw (w.kept-is, w.kept_places-is)
      (end_dropped (marks c.symbols.kept.items c.symbols.kept_places.items) c.symbols.begins c.args.symbols.now c.args.places.now c.symbols.i c.args.end _ (search rules) w.if-not-begins.false c.symbols.invariant.kept)
]
