use Rattle.std.proofs.Common.{◌≡◌, ◌<◌, [], ◌++◌, length, get_or, map, ap, sym, ◌∙◌, arith}
use Rattle.std.specs.Prelude.{codes}
use Rattle.std.proofs.lemmas.List.{get_or-map, length-map}
use Rattle.cap_top_text.proofs.Joined.{grown_start, grown_next}
use Rattle.cap_top_log.specs.Log.{arrow_text}
use Rattle.cap_top_log.proofs.values.push_tuple.Goals as goal
use Rattle.cap_top_log.proofs.values.push_tuple.Goals.{then-i-eq0, else-i-eq0}

pub loop-i-preserved : goal.loop-i-preserved
loop-i-preserved c =
    let arrows = c.args.arrows.now in
    let i = c.loop-i.i in
    let below : i < length arrows = c.loop-i-test.true in
    let inside : i < length (map arrow_text arrows) = omega (arith, below, length-map arrows arrow_text) in
    let f = c.index-arrows-i.result in
    let at : get_or (map arrow_text arrows) i [] ≡ arrow_text f = get_or-map arrow_text arrows i f [] below ∙ ap arrow_text (sym c.index-arrows-i.is) in
    let before = c.loop-i.invariant in
    let h = c.in_ok-push_arrow.ensures ∙ ap (λ l. l ++ arrow_text f) c.in_ok-push_text.ensures in
    elim c.if-i-eq0.branch [
      | then-i-eq0 w ↦ grown_start _ _ _ _ _ (codes " | ") (map arrow_text arrows) i w.if-i-eq0.true inside before (ap (λ r. r.now) w.separator-is) h at
      | else-i-eq0 w ↦ let ne = w.if-i-eq0.false in grown_next _ _ _ _ _ (codes " | ") (map arrow_text arrows) i (omega arith) inside before (ap (λ r. r.now) w.separator-is) h at
    ]
