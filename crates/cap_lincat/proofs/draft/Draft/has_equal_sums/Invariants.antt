use Rattle.std.proofs.Common.{◌≡◌, ℕ, ◌<◌}
use Rattle.cap_lincat_laws.proofs.Products.{left_triple_at, right_triple_at}
use Rattle.cap_lincat.specs.Data.{table_of}
use Rattle.cap_lincat.proofs.draft.Draft.has_equal_sums.Given as goal

abbrev pub invariant-loop-m : goal.invariant-loop-m
invariant-loop-m l =
    let t = table_of l.self.field l.self.objects l.self.basis l.self.units l.self.rows in
    (n : ℕ) → n < l.m → left_triple_at t l.x l.z l.fn.i l.fn.j l.fn.k n ≡ right_triple_at t l.y l.w l.fn.i l.fn.j l.fn.k n
