use Rattle.std.proofs.Common.{◌≡◌, ℕ, ◌+◌, ◌/◌, ◌%◌, ◌++◌, ◌∷◌, [], get_or, rules, sym, subst}
use Rattle.cap_laws.specs.Table.{ends_of}
use Rattle.cap_lincat.specs.Data.{table_of}
use Rattle.cap_lincat.specs.Kinds.{IsKind, AreKindsSoFar}
use Rattle.cap_lincat.proofs.ProductKinds.{kinds-push}
use Rattle.cap_lincat.proofs.draft.Draft.kinds.Goals as goal

pub loop-m-preserved : goal.loop-m-preserved
loop-m-preserved c =
    let t = table_of c.args.self.now.field c.args.self.now.objects c.args.self.now.basis c.args.self.now.units c.args.self.now.rows in
    let m = c.loop-m.m in
    let is : c.push.new.self.items ≡ c.loop-m.kinds.items ++ c.kind.result ∷ [] = search rules in
    subst (λ l. AreKindsSoFar t l (m + 1)) (sym is)
    (kinds-push t c.loop-m.kinds.items m c.kind.result c.loop-m.invariant
    (subst (λ n. (ends_of t (m / n)).1 ≡ (ends_of t (m % n)).0 → IsKind t (ends_of t (m / n)).0 (ends_of t (m % n)).1 (λ k. get_or (t.product (m / n) (m % n)) k 0) c.kind.result) c.len-n.ensures c.kind.ensures))
