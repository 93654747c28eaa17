-- Numbers that name no operation, and places behind all arguments.
use Rattle.std.proofs.Common.{◌≡◌, ℕ, zero, suc, ◌≤◌, List, [], ◌∷◌, length, refl, ap, arith}
use Rattle.std.specs.Prelude.{None, slice_get, unwrap_or, IsTrue, false}
use Rattle.std.proofs.lemmas.List.{length-map}
use Rattle.cap_ops.specs.declared.ends.Shape.TheVariants.{Truth}
use Rattle.cap_ops.specs.Ends.{IsOperation, profiles, profile_of, takes, sort_of, operation_arguments}
use Rattle.cap_ops.proofs.Letters.{few_letters}

past : {X : Type 0} (xs : List X) (n : ℕ) → length xs ≤ n → slice_get xs n ≡ None
past [] n h = refl
past (x ∷ xs) zero h = absurd (omega arith)
past (x ∷ xs) (suc n) h = past xs n (omega arith)

pub outside_table : (op : ℕ) → (IsOperation op → ⊥) → profile_of op ≡ takes [] Truth
outside_table zero never = refl
outside_table (suc n) never =
    let lower : suc n ≤ 44 → ⊥ = λ h. never (omega arith, h) in
    let high : length profiles ≤ n = omega arith in
    ap (λ p. unwrap_or p (takes [] Truth)) (past profiles n high)

pub no_argument : (op i : ℕ) → 4 ≤ i → slice_get (operation_arguments op) i ≡ None
no_argument op i h = past (operation_arguments op) i (omega (arith, (few_letters op).2, length-map (profile_of op).arguments sort_of))

pub no_truth : IsTrue false → ⊥
no_truth h = absurd (cc)
