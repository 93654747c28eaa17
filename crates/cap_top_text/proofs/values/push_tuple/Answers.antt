use Rattle.std.proofs.Common.{◌≡◌, ◌<◌, [], ◌++◌, length, get_or, map, ap, sym, ◌∙◌, arith}
use Rattle.std.specs.Prelude.{codes}
use Rattle.std.proofs.lemmas.List.{get_or-map, length-map}
use Rattle.cap_top_text.specs.Values.{arrow_text}
use Rattle.cap_top_text.proofs.Joined.{grown_start, grown_next}
use Rattle.cap_top_text.proofs.values.push_tuple.Goals as goal
use Rattle.cap_top_text.proofs.values.push_tuple.Goals.{then-i-eq0, else-i-eq0}

pub loop-i-preserved : goal.loop-i-preserved
loop-i-preserved c =
    let arrows = c.args.arrows.now in
    let text = arrow_text c.args.home.now c.args.seen.now in
    let i = c.loop-i.i in
    let below : i < length arrows = c.loop-i-test.true in
    let inside : i < length (map text arrows) = omega (arith, below, length-map arrows text) in
    let f = c.index-arrows-i.result in
    let at : get_or (map text arrows) i [] ≡ text f = get_or-map text arrows i f [] below ∙ ap text (sym c.index-arrows-i.is) in
    let before = c.loop-i.invariant in
    let h = c.in_ok-push_arrow.ensures ∙ ap (λ l. l ++ text f) c.in_ok-push_text.ensures in
    elim c.if-i-eq0.branch [
      | then-i-eq0 w ↦ grown_start _ _ _ _ _ (codes " | ") (map text arrows) i w.if-i-eq0.true inside before (ap (λ r. r.now) w.separator-is) h at
      | else-i-eq0 w ↦ let ne = w.if-i-eq0.false in grown_next _ _ _ _ _ (codes " | ") (map text arrows) i (omega arith) inside before (ap (λ r. r.now) w.separator-is) h at
    ]
