use Rattle.std.proofs.Common.{◌≡◌, length, sym, subst}
use Rattle.cap_ops.specs.Told.{told_in}
use Rattle.cap_settle.proofs.Fitting.{out-fits}
use Rattle.cap_board.specs.Board.{Puts}
use Rattle.cap_list_board.specs.Lists.{state_of}
use Rattle.cap_list_board.specs.Answers.{ListPuts}
use Rattle.cap_list_board.specs.Holds.{Holds}
use Rattle.cap_list_board.specs.Onward.{GoesOn}
use Rattle.cap_list_board.proofs.Answering.{ok-then, either-way, list-puts, list-puts-hold, puts-offer, puts-onward, same-onward}
use Rattle.cap_list_board.proofs.board.ListBoardBoard.put.Goals as goal

pub answer_put-requires-clause-fits : goal.answer_put-requires-clause-fits
answer_put-requires-clause-fits g c = λ room. let T = c.requires.may.is in out-fits (told_in c.args.self.now.objects) c.args.out.fresh (length c.args.self.now.objects) room c.args.out.out T.value T.out T.is_value T.tells

pub returns-clause-puts : goal.returns-clause-puts
returns-clause-puts g c =
    let s = c.args.self.now in
    let s' = c.answer_put.new.self in
    let D = g.C.Offer.offered c.args.self.now.offer in
    ok-then (λ a. ListPuts s c.args.key.now c.args.out a s') (λ a. Puts D (state_of s) (told_in s.objects) c.args.key.now.op.0 c.args.key.now.args c.args.out a (state_of s') (told_in s'.objects)) c.answer_put.result c.answer_put.ensures.ok (λ a L. list-puts D s c.args.key.now c.requires.holds c.args.out c.requires.may a s' L)

pub returns-clause-holds : goal.returns-clause-holds
returns-clause-holds g c =
    let s = c.args.self.now in
    let s' = c.answer_put.new.self in
    let D = g.C.Offer.offered in
    either-way (λ a. ListPuts s c.args.key.now c.args.out a s') (s' ≡ s) (Holds (D s'.offer) s') c.answer_put.result c.answer_put.ensures.ok c.answer_put.ensures.err (
    λ a L. subst (λ x. Holds (D x) s') (sym (puts-offer s c.args.key.now c.args.out a s' L)) (list-puts-hold (D s.offer) s c.args.key.now c.requires.holds c.args.out c.requires.may a s' L)
    ) (λ e. subst (λ t. Holds (D t.offer) t) (sym e) c.requires.holds)

pub returns-clause-onward : goal.returns-clause-onward
returns-clause-onward g c =
    let s = c.args.self.now in
    let s' = c.answer_put.new.self in
    either-way (λ a. ListPuts s c.args.key.now c.args.out a s') (s' ≡ s) (GoesOn s s') c.answer_put.result c.answer_put.ensures.ok c.answer_put.ensures.err (λ a L. puts-onward s c.args.key.now c.args.out a s' L) (λ e. same-onward s c.args.key.now s' e)
