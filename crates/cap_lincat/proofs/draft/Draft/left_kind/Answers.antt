use Rattle.std.proofs.Common.{◌≡◌, refl, ℕ, ◌+◌, ◌*◌, ◌<◌, length, get_or, sym, ap, ◌∙◌, subst, arith}
use Rattle.std.proofs.lemmas.Nat.{mul-add-lt}
use Rattle.cap_laws.specs.Table.{ends_of}
use Rattle.cap_lincat.specs.declared.kinds.RowKind.TheVariants.{Zero, Element}
use Rattle.cap_lincat.specs.Data.{table_of}
use Rattle.cap_lincat.specs.Kinds.{IsKind}
use Rattle.cap_lincat_laws.proofs.Homs.{Member}
use Rattle.cap_lincat.proofs.ProductKinds.{told-kind, left-zero, left-element_kind}
use Rattle.cap_lincat.proofs.draft.Draft.left_kind.Goals as goal

pub bounds-kinds-s : goal.bounds-kinds-s
bounds-kinds-s c =
    let t = table_of c.args.self.now.field c.args.self.now.objects c.args.self.now.basis c.args.self.now.units c.args.self.now.rows in
    let R = c.requires.chain in
    let N = length t.basis in
    let s = c.in-Element.s in
    let F = told-kind t c.args.kinds.now c.len-n.result c.args.i c.args.j _ (Element s) c.requires.kinds c.len-n.ensures R.first R.second R.left c.in-Element.is in
    let lt : s * N + c.args.k < N * N = mul-add-lt s N c.args.k N F.inside R.third in
    subst (λ m. s * m + c.args.k < length c.args.kinds.now) (sym c.len-n.ensures) (omega (arith, lt, c.requires.kinds.long))

pub returns-in-Zero : goal.returns-in-Zero
returns-in-Zero c =
    let t = table_of c.args.self.now.field c.args.self.now.objects c.args.self.now.basis c.args.self.now.units c.args.self.now.rows in
    let R = c.requires.chain in
    left-zero t c.args.self.now.dimensioned (ends_of t c.args.i).0 (ends_of t c.args.j).1 (ends_of t c.args.k).1 c.args.i c.args.j c.args.k
    (told-kind t c.args.kinds.now c.len-n.result c.args.i c.args.j _ Zero c.requires.kinds c.len-n.ensures R.first R.second R.left c.in-Zero.is)

pub returns-in-Element : goal.returns-in-Element
returns-in-Element c =
    let t = table_of c.args.self.now.field c.args.self.now.objects c.args.self.now.basis c.args.self.now.units c.args.self.now.rows in
    let R = c.requires.chain in
    let s = c.in-Element.s in
    let K = get_or c.args.kinds.now (s * c.len-n.result + c.args.k) Zero in
    let F = told-kind t c.args.kinds.now c.len-n.result c.args.i c.args.j _ (Element s) c.requires.kinds c.len-n.ensures R.first R.second R.left c.in-Element.is in
    let O : Member t (ends_of t c.args.j).1 (ends_of t c.args.k).1 c.args.k = record { inside = R.third; from = sym R.right; to = refl } in
    let G = told-kind t c.args.kinds.now c.len-n.result s c.args.k Zero K c.requires.kinds c.len-n.ensures F.inside R.third (F.to ∙ R.right) refl in
    left-element_kind t c.args.self.now.dimensioned (ends_of t c.args.i).0 (ends_of t c.args.j).1 (ends_of t c.args.k).1 c.args.i c.args.j c.args.k s K O F
    (subst (λ a. IsKind t a (ends_of t c.args.k).1 (λ m. get_or (t.product s c.args.k) m 0) K) F.from G)
