use Rattle.std.proofs.Common.{map, ap, ◌∙◌}
use Rattle.cap_top_text.proofs.Told.{objects_found, objects_absent}
use Rattle.cap_top_text.proofs.lines.objects_of.Goals as goal

pub returns-in-Some : goal.returns-in-Some
returns-in-Some c =
    let h = c.args.histories.now in
    ap (map (λ x. x.now)) c.as_slice.ensures.value
    ∙ objects_found (λ list. map (λ x. x.now) list.items) h.objects.now h.all.now c.requires c.args.number c.in-Some.objects.now c.in-Some.ensures.lookup.3.0 c.in-Some.ensures.lookup.1

pub returns-in-None : goal.returns-in-None
returns-in-None c =
    let h = c.args.histories.now in
    objects_absent (λ list. map (λ x. x.now) list.items) h.objects.now h.all.now c.requires c.args.number c.in-None.ensures.lookup.3
