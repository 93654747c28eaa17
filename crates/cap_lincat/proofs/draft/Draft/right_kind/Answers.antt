use Rattle.std.proofs.Common.{◌≡◌, refl, ℕ, ◌+◌, ◌*◌, ◌<◌, length, get_or, sym, ap, ◌∙◌, subst, arith}
use Rattle.std.proofs.lemmas.Nat.{mul-add-lt}
use Rattle.cap_laws.specs.Table.{ends_of}
use Rattle.cap_lincat.specs.declared.kinds.RowKind.TheVariants.{Zero, Element}
use Rattle.cap_lincat.specs.Data.{table_of}
use Rattle.cap_lincat.specs.Kinds.{IsKind}
use Rattle.cap_lincat_laws.proofs.Homs.{Member}
use Rattle.cap_lincat.proofs.ProductKinds.{told-kind, right-zero, right-element_kind}
use Rattle.cap_lincat.proofs.draft.Draft.right_kind.Goals as goal

pub returns-in-Zero : goal.returns-in-Zero
returns-in-Zero c =
    let t = table_of c.args.self.now.field c.args.self.now.objects c.args.self.now.basis c.args.self.now.units c.args.self.now.rows in
    let R = c.requires.chain in
    right-zero t c.args.self.now.dimensioned (ends_of t c.args.i).0 (ends_of t c.args.i).1 (ends_of t c.args.k).1 c.args.i c.args.j c.args.k
    (subst (λ a. IsKind t a (ends_of t c.args.k).1 (λ m. get_or (t.product c.args.j c.args.k) m 0) Zero) (sym R.left)
    (told-kind t c.args.kinds.now c.len-n.result c.args.j c.args.k _ Zero c.requires.kinds c.len-n.ensures R.second R.third R.right c.in-Zero.is))

pub returns-in-Element : goal.returns-in-Element
returns-in-Element c =
    let t = table_of c.args.self.now.field c.args.self.now.objects c.args.self.now.basis c.args.self.now.units c.args.self.now.rows in
    let R = c.requires.chain in
    let s = c.in-Element.s in
    let K = get_or c.args.kinds.now (c.args.i * c.len-n.result + s) Zero in
    let H = told-kind t c.args.kinds.now c.len-n.result c.args.j c.args.k _ (Element s) c.requires.kinds c.len-n.ensures R.second R.third R.right c.in-Element.is in
    let F = subst (λ a. IsKind t a (ends_of t c.args.k).1 (λ m. get_or (t.product c.args.j c.args.k) m 0) (Element s)) (sym R.left) H in
    let O : Member t (ends_of t c.args.i).0 (ends_of t c.args.i).1 c.args.i = record { inside = R.first; from = refl; to = refl } in
    let G = told-kind t c.args.kinds.now c.len-n.result c.args.i s Zero K c.requires.kinds c.len-n.ensures R.first F.inside (sym F.from) refl in
    right-element_kind t c.args.self.now.dimensioned (ends_of t c.args.i).0 (ends_of t c.args.i).1 (ends_of t c.args.k).1 c.args.i c.args.j c.args.k s K O F
    (subst (λ b. IsKind t (ends_of t c.args.i).0 b (λ m. get_or (t.product c.args.i s) m 0) K) F.to G)
