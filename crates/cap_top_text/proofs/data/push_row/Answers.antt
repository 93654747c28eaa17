use Rattle.std.proofs.Common.{◌≡◌, ◌<◌, [], ◌++◌, length, get_or, map, sym, ap, ◌∙◌, arith}
use Rattle.std.specs.Prelude.{codes}
use Rattle.std.specs.Fmt.{decimal}
use Rattle.std.proofs.lemmas.List.{get_or-map, length-map, take_all}
use Rattle.cap_top_text.specs.Data.{joined}
use Rattle.cap_top_text.proofs.Joined.{grown_start, grown_next}
use Rattle.cap_top_text.proofs.data.push_row.Goals as goal
use Rattle.cap_top_text.proofs.data.push_row.Goals.{then-column-eq0, else-column-eq0}

pub loop-column-preserved : goal.loop-column-preserved
loop-column-preserved c =
    let row = get_or c.args.m.now.entries c.args.row [] in
    let wide : length row ≡ c.args.m.now.column_count = c.requires.shaped.column_many c.args.row c.requires.within in
    let below : c.loop-column.column < length row = omega (arith, wide, c.cols-column-end.ensures.value) in
    let inside : c.loop-column.column < length (map decimal row) = omega (arith, below, length-map row decimal) in
    let at : get_or (map decimal row) c.loop-column.column [] ≡ decimal c.at.result =
    get_or-map decimal row c.loop-column.column 0 [] below ∙ ap decimal (sym c.at.ensures.value) in
    let h = c.in_ok-push_separated.ensures in
    let before = c.loop-column.invariant in
    elim c.if-column-eq0.branch [
      | then-column-eq0 w ↦ grown_start _ _ _ _ _ (codes " ") (map decimal row) c.loop-column.column w.if-column-eq0.true inside before (ap (λ r. r.now) w.separator-is) h at
      | else-column-eq0 w ↦ let ne = w.if-column-eq0.false in grown_next _ _ _ _ _ (codes " ") (map decimal row) c.loop-column.column (omega arith) inside before (ap (λ r. r.now) w.separator-is) h at
    ]

pub returns : goal.returns
returns c =
    let row = get_or c.args.m.now.entries c.args.row [] in
    let wide : length row ≡ c.args.m.now.column_count = c.requires.shaped.column_many c.args.row c.requires.within in
    c.loop-column.invariant
    ∙ ap (λ l. c.args.out.now.items ++ joined (codes " ") l) (take_all c.loop-column.column (map decimal row) (omega (arith, wide, length-map row decimal, c.cols-column-end.ensures.value)))
