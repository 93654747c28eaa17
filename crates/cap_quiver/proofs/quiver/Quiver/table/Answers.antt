use Rattle.std.proofs.Common.{ℕ, ◌+◌, ◌<◌, length, sym, subst, arith}
use Rattle.cap_quiver_laws.specs.Ideal.{IsRelation}
use Rattle.cap_quiver_paths.specs.Data.{quiver, HasManyShort}
use Rattle.cap_quiver_paths.specs.Relations.{relations_of}
use Rattle.cap_quiver.specs.Answers.{IsFirstBad, HasTooMany}
use Rattle.cap_quiver.proofs.FewPaths.{many-here}
use Rattle.cap_quiver.proofs.Tabled.{relation-anywhere, first-bad}
use Rattle.cap_quiver.proofs.quiver.Quiver.table.Goals as goal

pub returns-in-Some-clause-fault : goal.returns-in-Some-clause-fault
returns-in-Some-clause-fault c =
    let q = c.args.self.now in
    let n = c.in-Some.n in
    let one = c.as_slice-arrows.result.now in
    let rs = c.as_slice.result.now in
    let h = c.in-Some.ensures in
    subst (λ a. IsFirstBad (quiver q.objects a q.bound) (relations_of q.relations) (n + 1)) c.as_slice-arrows.ensures
    (subst (λ r. IsFirstBad (quiver q.objects one q.bound) (relations_of r) (n + 1)) c.as_slice.ensures (first-bad q.objects q.bound n one (relations_of rs) h.0 h.1 h.2))

pub returns-in_default-2-clause-fault : goal.returns-in_default-2-clause-fault
returns-in_default-2-clause-fault c =
    let q = c.args.self.now in
    let one = c.as_slice-arrows.result.now in
    let rs = c.as_slice.result.now in
    let E = rw c.in_default-2.is at c.in_ok-paths.ensures in
    let H : HasTooMany (quiver q.objects one q.bound) (relations_of rs) = record { good = λ r lt. relation-anywhere 0 q.objects 0 q.bound one (relations_of rs) r (c.in_default.ensures r lt); many = E } in
    subst (λ a. HasTooMany (quiver q.objects a q.bound) (relations_of q.relations)) c.as_slice-arrows.ensures
    (subst (λ r. HasTooMany (quiver q.objects one q.bound) (relations_of r)) c.as_slice.ensures H)

pub table_of_paths-requires-clause-good : goal.table_of_paths-requires-clause-good
table_of_paths-requires-clause-good c =
    let q = c.args.self.now in
    let one = c.as_slice-arrows.result.now in
    let rs = c.as_slice.result.now in
    subst (λ a. (r : ℕ) → r < length q.relations → IsRelation (quiver q.objects a q.bound) (relations_of q.relations) r) c.as_slice-arrows.ensures
    (subst (λ x. (r : ℕ) → r < length x → IsRelation (quiver q.objects one q.bound) (relations_of x) r) c.as_slice.ensures
    (λ r lt. relation-anywhere 0 q.objects 0 q.bound one (relations_of rs) r (c.in_default.ensures r lt)))

pub returns-clause-few : goal.returns-clause-few
returns-clause-few c = λ H.
    let q = c.args.self.now in
    let one = c.as_slice-arrows.result.now in
    let ps = c.in-Some-2.paths.items in
    let E = rw c.in-Some-2.is at c.in_ok-paths.ensures in
    let K : HasManyShort (quiver q.objects one q.bound) 128 = subst (λ a. HasManyShort (quiver q.objects a q.bound) 128) (sym c.as_slice-arrows.ensures) H in
    omega (arith, many-here (quiver q.objects one q.bound) ps E.0 128 K, E.1)
