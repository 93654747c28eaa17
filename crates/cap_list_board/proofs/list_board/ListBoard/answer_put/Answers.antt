use Rattle.std.proofs.Common.{◌≡◌, [], ◌∷◌, ◌++◌, length, subst}
use Rattle.cap_board.specs.declared.answers.PutAnswer.TheVariants.{Entry as Kept}
use Rattle.cap_settle.specs.Settled.{settled}
use Rattle.cap_list_board.specs.declared.entries.Seen.TheVariants.{Put}
use Rattle.cap_list_board.specs.Lists.{IsNew}
use Rattle.cap_list_board.specs.Answers.{with_entry, ListPuts}
use Rattle.cap_list_board.proofs.Answering.{ok-then, new-answers, full-answers}
use Rattle.cap_list_board.proofs.list_board.ListBoard.answer_put.Goals as goal

pub returns-then-has_room-clause-ok : goal.returns-then-has_room-clause-ok
returns-then-has_room-clause-ok g c =
    let s = c.args.self.now in
    let key = c.args.key.now in
    let out = c.args.out in
    let s' = c.keep.new.self in
    ok-then (λ a. (a ≡ Kept (settled (length s.objects) out.out)) × (s' ≡ record (with_entry s key out) { seen = s.seen ++ Put key out a ∷ [] })) (λ a. ListPuts s key out a s') c.keep.result c.keep.ensures.ok (λ a h. new-answers s key out s' a (subst (λ es. IsNew es c.args.key.now) c.entries.ensures c.in_default.ensures) c.if-has_room.ensures h.0 h.1)

pub returns-clause-ok : goal.returns-clause-ok
returns-clause-ok g c = full-answers c.args.self.now c.args.key.now c.args.out c.add_put.new.self c.count-entries.result (subst (λ es. IsNew es c.args.key.now) c.entries.ensures c.in_default.ensures) c.if-has_room.ensures c.count-entries.ensures c.in_ok-add_put.ensures.ok
