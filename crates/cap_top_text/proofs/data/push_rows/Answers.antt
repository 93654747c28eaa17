use Rattle.std.proofs.Common.{◌≡◌, ◌<◌, [], ◌++◌, length, get_or, map, ap, ◌∙◌, arith}
use Rattle.std.specs.Prelude.{codes}
use Rattle.std.proofs.lemmas.List.{get_or-map, length-map, take_all}
use Rattle.cap_top_text.specs.Data.{joined, row_text}
use Rattle.cap_top_text.proofs.Joined.{grown_start, grown_next}
use Rattle.cap_top_text.proofs.data.push_rows.Goals as goal
use Rattle.cap_top_text.proofs.data.push_rows.Goals.{then-row-eq0, else-row-eq0}

pub loop-row-preserved : goal.loop-row-preserved
loop-row-preserved c =
    let rows = c.args.m.now.entries in
    let many : length rows ≡ c.args.m.now.row_count = c.requires.row_many in
    let below : c.loop-row.row < length rows = omega (arith, many, c.rows-row-end.ensures.value) in
    let inside : c.loop-row.row < length (map row_text rows) = omega (arith, below, length-map rows row_text) in
    let at : get_or (map row_text rows) c.loop-row.row [] ≡ row_text (get_or rows c.loop-row.row []) = get_or-map row_text rows c.loop-row.row [] [] below in
    let before = c.loop-row.invariant in
    let h = c.in_ok-push_row.ensures ∙ ap (λ l. l ++ row_text (get_or rows c.loop-row.row [])) c.in_ok-push_text.ensures in
    elim c.if-row-eq0.branch [
      | then-row-eq0 w ↦ grown_start _ _ _ _ _ (codes "; ") (map row_text rows) c.loop-row.row w.if-row-eq0.true inside before (ap (λ r. r.now) w.separator-is) h at
      | else-row-eq0 w ↦ let ne = w.if-row-eq0.false in grown_next _ _ _ _ _ (codes "; ") (map row_text rows) c.loop-row.row (omega arith) inside before (ap (λ r. r.now) w.separator-is) h at
    ]

pub returns : goal.returns
returns c =
    let rows = c.args.m.now.entries in
    let many : length rows ≡ c.args.m.now.row_count = c.requires.row_many in
    c.loop-row.invariant
    ∙ ap (λ l. c.args.out.now.items ++ joined (codes "; ") l) (take_all c.loop-row.row (map row_text rows) (omega (arith, many, length-map rows row_text, c.rows-row-end.ensures.value)))
