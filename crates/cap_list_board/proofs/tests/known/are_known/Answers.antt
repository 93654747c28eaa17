use Rattle.std.proofs.Common.{◌≡◌, ◌+◌, [], ◌∷◌, ◌++◌, take, sym, subst, arith, refl}
use Rattle.std.proofs.lemmas.List.{take_all, take_more}
use Rattle.cap_ops.specs.Arrows.{arguments}
use Rattle.cap_ops.specs.Told.{Known, told_in}
use Rattle.cap_board.specs.Board.{ToldObjects}
use Rattle.cap_vec_offer.specs.Offer.{matrix_offer}
use Rattle.cap_list_board.specs.Benches.{IsArgumentOf}
use Rattle.cap_list_board.proofs.Readied.{one-more-known}
use Rattle.cap_list_board.proofs.tests.known.are_known.Goals as goal

pub loop-arg-init : goal.loop-arg-init
loop-arg-init c = record { data_of = []; tells = tt; are = tt }

pub loop-arg-preserved : goal.loop-arg-preserved
loop-arg-preserved c =
    let i = c.loop-arg.arg-index in
    let xs = c.args.args.now in
    let p = c.args.b.now.offer in
    let objects = c.objects-objects.result.now in
    let more : take (i + 1) xs ≡ take i xs ++ c.arg-item.result ∷ [] = grind (arith, take_more xs i c.arg-item.result c.loop-arg-test.true, c.arg-item.is) in
    let told : ToldObjects (matrix_offer p) (told_in objects) = subst (λ os. ToldObjects (matrix_offer p) (told_in os)) (sym c.objects-objects.ensures) (subst (λ o. ToldObjects (matrix_offer o) (told_in c.args.b.now.board.objects)) c.requires.is.ready.offers c.requires.is.holds.objects) in
    let is = subst (λ q. IsArgumentOf objects q c.arg-item.result) (sym c.requires.field) (c.if-not-is_argument.ensures refl) in
    subst (λ ys. Known (matrix_offer p).category (told_in objects) (arguments ys)) (sym more) (one-more-known p objects told (take i xs) c.arg-item.result c.loop-arg.invariant is)

pub returns : goal.returns
returns c = λ yes.
    let C = (matrix_offer c.args.b.now.offer).category in
    let whole : take c.loop-arg.arg-index c.args.args.now ≡ c.args.args.now = take_all c.loop-arg.arg-index c.args.args.now c.loop-arg-test.false in
    subst (λ objects. Known C (told_in objects) (arguments c.args.args.now)) c.objects-objects.ensures (subst (λ ys. Known C (told_in c.objects-objects.result.now) (arguments ys)) whole c.loop-arg.invariant)
