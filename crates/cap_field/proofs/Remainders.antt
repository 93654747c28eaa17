-- The remainder of an integer, rounding down.
use Rattle.std.proofs.Common.{◌≡◌, ℕ, suc, ◌+◌, ◌*◌, ◌/◌, ◌%◌, ◌<◌, ℤ, pos, negsuc, ◌+ℤ◌, ◌*ℤ◌, nat_abs, refl, sym, ap, ◌∙◌, arith}
use Rattle.std.specs.Int.{int_rem_euclid}
use Rattle.std.proofs.Math.Nat.{mod-lt, mod-eq_of_lt, add-mul-mod_self_right, div-add-mod'}
use Rattle.std.proofs.lemmas.Int.{ints, int_rem_euclid_is}
use Rattle.cap_field.specs.Residue.{IsResidueOf}

pub residue_is : (p : ℕ) (n : ℤ) → 0 < p → IsResidueOf p n (nat_abs (int_rem_euclid n (pos p)))
residue_is p (pos a) some = record {
  below = mod-lt a some;
  factor = pos (a / p);
  differs = ap pos (let e : a ≡ a % p + a / p * p = omega (arith, div-add-mod' a p) in e);
}
residue_is p (negsuc a) some = record {
  below = omega arith;
  factor = negsuc (a / p);
  differs = omega (arith, ints, div-add-mod' a p, mod-lt a some);
}

-- an integer has one residue, which for a natural number is the remainder
pub residue_value : (p : ℕ) (n : ℤ) (r : ℕ) → IsResidueOf p n r → int_rem_euclid n (pos p) ≡ pos r
residue_value p n r h = by_sign h.factor h.differs where
  some : 0 < p
  some = let b = h.below in omega arith

  by_sign : (f : ℤ) → n ≡ pos r +ℤ f *ℤ pos p → int_rem_euclid n (pos p) ≡ pos r
  by_sign (pos q) e =
      int_rem_euclid_is n (pos p) p 0 (r + q * p) some refl (omega (arith, ints))
      ∙ ap pos (add-mul-mod_self_right r q p ∙ mod-eq_of_lt h.below)
  by_sign (negsuc q) e =
      int_rem_euclid_is n (pos p) p (suc q) r some refl (omega (arith, ints)) ∙ ap pos (mod-eq_of_lt h.below)

pub residue_unique : (p : ℕ) (n : ℤ) (r s : ℕ) → IsResidueOf p n r → IsResidueOf p n s → r ≡ s
residue_unique p n r s h k = ap nat_abs (sym (residue_value p n r h) ∙ residue_value p n s k)

pub residue_natural : (p n r : ℕ) → IsResidueOf p (pos n) r → r ≡ n % p
residue_natural p n r h = ap nat_abs (sym (residue_value p (pos n) r h))
