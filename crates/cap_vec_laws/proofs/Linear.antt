-- Matrices modulo a prime of the table are a linear category.
use Rattle.std.proofs.Common.{◌≡◌, ℕ, ◌≤◌, true, refl, sym, ap, ◌∙◌, arith}
use Rattle.cap_field.specs.Residue.{is_tabled}
use Rattle.cap_field.proofs.Fermat.{tabled_range}
use Rattle.cap_matrix.specs.Grid.{product_of, sum_of, scaled_of}
use Rattle.cap_matrix.proofs.Entries.{product-matrix, sum-matrix, scaled-matrix, zero-matrix, unit-matrix}
use Rattle.cap_matrix.proofs.Algebra.{product-assoc, sum-assoc, sum-comm, sum-zero, scaled-one, scaled-prime, scaled-add, scaled-scaled, scaled-sum, product-sum, sum-product, product-scaled, scaled-product, unit-product, product-unit}
use Rattle.cap_laws.specs.Linear.{IsLinear}
use Rattle.cap_vec_laws.specs.Vec.{vec_data}
use Rattle.cap_vec_laws.proofs.Arrows.{as-arrow, as-matrix}

pub vec_linear : (p : ℕ) → is_tabled p ≡ true → IsLinear (vec_data p)
vec_linear p t =
    let big : 2 ≤ p = (tabled_range p t).0 in
    let pos : 1 ≤ p = omega arith in
    record {
      prime_tabled = t;
      source_object = λ f t. tt;
      target_object = λ f t. tt;
      identity_arrow = λ a o. as-arrow (unit-matrix p a big);
      compose_arrow = λ F G. as-arrow (product-matrix pos (as-matrix F) (as-matrix G));
      zero_arrow = λ a b o q. as-arrow (zero-matrix p a b pos);
      add_arrow = λ {g = g} F G. as-arrow (sum-matrix g pos (as-matrix F));
      scale_arrow = λ n F. as-arrow (scaled-matrix n pos (as-matrix F));
      reflexive = λ F. refl;
      symmetric = λ s. sym s.congruent;
      transitive = λ s t. s.congruent ∙ t.congruent;
      compose_congruent = λ {f' = f'} {g = g} s t. ap (λ x. product_of x g) s.congruent ∙ ap (λ x. product_of f' x) t.congruent;
      add_congruent = λ {f' = f'} {g = g} s t. ap (λ x. sum_of x g) s.congruent ∙ ap (λ x. sum_of f' x) t.congruent;
      scale_congruent = λ n s. ap (λ x. scaled_of n x) s.congruent;
      associative = λ F G H. product-assoc pos (as-matrix F) (as-matrix G) (as-matrix H);
      unit_left = λ F. unit-product big (as-matrix F);
      unit_right = λ F. product-unit big (as-matrix F);
      add_associative = λ {h = h} F G H. sum-assoc pos h (as-matrix F) (as-matrix G);
      add_commutative = λ F G. sum-comm pos (as-matrix F) (as-matrix G);
      add_zero = λ F. sum-zero pos (as-matrix F);
      scale_one = λ F. scaled-one pos (as-matrix F);
      scale_prime = λ F. scaled-prime pos (as-matrix F);
      scale_sum = λ m n F. scaled-add pos m n (as-matrix F);
      scale_product = λ m n F. scaled-scaled pos m n (as-matrix F);
      scale_add = λ n F G. scaled-sum pos n (as-matrix F) (as-matrix G);
      compose_add = λ F G H. product-sum pos (as-matrix F) (as-matrix G) (as-matrix H);
      add_compose = λ F G H. sum-product pos (as-matrix F) (as-matrix G) (as-matrix H);
      compose_scale = λ n F G. product-scaled pos n (as-matrix F) (as-matrix G);
      scale_compose = λ n F G. scaled-product pos n (as-matrix F) (as-matrix G);
    }
