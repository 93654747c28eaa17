use Rattle.std.proofs.Common.{◌≡◌, sym, subst}
use Rattle.cap_ops.specs.Told.{told_in}
use Rattle.cap_board.specs.Board.{Asks}
use Rattle.cap_list_board.specs.Lists.{state_of}
use Rattle.cap_list_board.specs.Answers.{ListAsks}
use Rattle.cap_list_board.specs.Holds.{Holds}
use Rattle.cap_list_board.specs.Onward.{GoesOn}
use Rattle.cap_list_board.proofs.Answering.{ok-then, either-way, list-asks, list-asks-hold, asks-offer, asks-onward, same-onward}
use Rattle.cap_list_board.proofs.board.ListBoardBoard.ask.Goals as goal

pub returns-clause-asks : goal.returns-clause-asks
returns-clause-asks g c =
    let s = c.args.self.now in
    let s' = c.answer_ask.new.self in
    let D = g.C.Offer.offered c.args.self.now.offer in
    ok-then (λ a. ListAsks s c.args.key.now a s') (λ a. Asks D (state_of s) (told_in s.objects) c.args.key.now.op.0 c.args.key.now.args a (state_of s') (told_in s'.objects)) c.answer_ask.result c.answer_ask.ensures.ok (λ a L. list-asks D s c.args.key.now c.requires.holds a s' L)

pub returns-clause-holds : goal.returns-clause-holds
returns-clause-holds g c =
    let s = c.args.self.now in
    let s' = c.answer_ask.new.self in
    let D = g.C.Offer.offered in
    either-way (λ a. ListAsks s c.args.key.now a s') (s' ≡ s) (Holds (D s'.offer) s') c.answer_ask.result c.answer_ask.ensures.ok c.answer_ask.ensures.err (
    λ a L. subst (λ x. Holds (D x) s') (sym (asks-offer s c.args.key.now a s' L)) (list-asks-hold (D s.offer) s c.args.key.now c.requires.holds a s' L)
    ) (λ e. subst (λ t. Holds (D t.offer) t) (sym e) c.requires.holds)

pub returns-clause-onward : goal.returns-clause-onward
returns-clause-onward g c =
    let s = c.args.self.now in
    let s' = c.answer_ask.new.self in
    either-way (λ a. ListAsks s c.args.key.now a s') (s' ≡ s) (GoesOn s s') c.answer_ask.result c.answer_ask.ensures.ok c.answer_ask.ensures.err (λ a L. asks-onward s c.args.key.now a s' L) (λ e. same-onward s c.args.key.now s' e)
