use Rattle.std.proofs.Common.{sym, ◌∙◌}
use Rattle.std.proofs.lemmas.Result.{err_from_is_err_and}
use Rattle.cap_literals.specs.Reading.{is_name}
use Rattle.cap_reading.proofs.Loops.{fails_so, loop_more, loop_fails, loop_done, loop_shrinks}
use Rattle.cap_literals.proofs.Laws.{law_map, map_begins}
use Rattle.cap_literals.proofs.literals.more_maps.Goals as goal

pub returns-in_err-map : goal.returns-in_err-map
returns-in_err-map c =
    let p = err_from_is_err_and c.from_residual.result c.from_residual.ensures.1 in
    rw (p.1, p.2) (fails_so c.in_err-map.field-0.0 _ _ (λ rest e. loop_fails is_name law_map map_begins c.maps.maps c.maps.rest.now rest _ (sym c.starts_name.ensures ∙ c.maps-test.true) e c.maps.invariant) c.in_err-map.ensures)

pub maps-smaller : goal.maps-smaller
maps-smaller c = loop_shrinks is_name law_map map_begins c.maps.rest.now c.in_ok-map.map c.in_ok-map.after.now c.in_ok-map.ensures

pub maps-preserved : goal.maps-preserved
maps-preserved c =
    rw c.in_ok-push.ensures (loop_more is_name law_map map_begins c.maps.maps c.maps.rest.now c.in_ok-map.map c.in_ok-map.after.now _ (sym c.starts_name.ensures ∙ c.maps-test.true) c.in_ok-map.ensures c.maps.invariant)

pub returns : goal.returns
returns c = loop_done is_name law_map map_begins c.maps.maps c.maps.rest.now _ (sym c.starts_name.ensures ∙ c.maps-test.false) c.maps.invariant
