use Rattle.std.proofs.Common.{◌≡◌, ℕ, List, ap, ◌∙◌, subst}
use Rattle.cap_laws.specs.Table.{ends_of, hom_of}
use Rattle.cap_lincat.specs.Data.{table_of}
use Rattle.cap_lincat.specs.Kinds.{IsRowKind}
use Rattle.cap_lincat.proofs.ProductKinds.{kind-from_row}
use Rattle.cap_lincat.proofs.draft.Draft.kind.Goals as goal

pub returns : goal.returns
returns c = λ meet.
    let t = table_of c.args.self.now.field c.args.self.now.objects c.args.self.now.basis c.args.self.now.units c.args.self.now.rows in
    let i = c.args.i in
    let j = c.args.j in
    let K = c.kind_of.result in
    let e = c.hom.ensures ∙ ap (λ (p : ℕ × ℕ). hom_of t p.0 c.ends-z.result.1) c.ends-x.ensures ∙ ap (λ (p : ℕ × ℕ). hom_of t (ends_of t i).0 p.1) c.ends-z.ensures in
    kind-from_row t (ends_of t i).0 (ends_of t j).1 (t.product i j) K (c.args.self.now.dimensioned.products i j c.requires.first c.requires.second meet).long
    (subst (λ (r : List ℕ). IsRowKind r (hom_of t (ends_of t i).0 (ends_of t j).1) K) c.product.ensures (subst (λ (h : List ℕ). IsRowKind c.product.result.now h K) e c.kind_of.ensures))
