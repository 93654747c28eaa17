use Rattle.std.proofs.Common.{◌≡◌, true, false, Some, eqb}
use Rattle.cap_lincat.specs.declared.kinds.RowKind.TheVariants.{Zero, Element}
use Rattle.cap_lincat.proofs.ProductKinds.{agree-by, zero-element, element-zero, element-element}
use Rattle.cap_lincat.proofs.kinds.agree.Goals as goal

pub returns-in-Element-right : goal.returns-in-Element-right
returns-in-Element-right c = let b = c.in-Element-right.field-0 in agree-by c.args.left c.args.right Zero (Element b) (Some false) c.in-Zero.is c.in-Element-right.is (zero-element b)

pub returns-in-Zero-right-2 : goal.returns-in-Zero-right-2
returns-in-Zero-right-2 c = let a = c.in-Element.a in agree-by c.args.left c.args.right (Element a) Zero (Some false) c.in-Element.is c.in-Zero-right-2.is (element-zero a)

pub returns-in-Element-right-2 : goal.returns-in-Element-right-2
returns-in-Element-right-2 c =
    let a = c.in-Element.a in
    let b = c.in-Element-right-2.b in
    agree-by c.args.left c.args.right (Element a) (Element b) (Some (eqb a b)) c.in-Element.is c.in-Element-right-2.is (element-element a b)
