-- Residues modulo a prime of the table have inverses.
use Rattle.std.proofs.Common.{◌≡◌, ℕ, suc, ◌-◌, ◌%◌, ◌^◌, true, sym, ap, ◌∙◌, arith}
use Rattle.std.proofs.Math.Nat.{pow-succ'}
use Rattle.cap_field.specs.Residue.{is_tabled}
use Rattle.cap_field.proofs.Fermat.{fermat, tabled_range}
use Rattle.cap_reduce.proofs.Eliminate.{HasInverses}

pub inverses : (p : ℕ) → is_tabled p ≡ true → HasInverses p
inverses p t = record {
  inverse = λ a pos below.
      let e : suc (p - 2) ≡ p - 1 = omega (arith, (tabled_range p t).0) in
      (a ^ (p - 2), ap (λ y. y % p) (sym (pow-succ' a (p - 2)) ∙ ap (λ k. a ^ k) e) ∙ fermat p a t pos below);
}
