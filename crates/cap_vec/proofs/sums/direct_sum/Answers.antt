use Rattle.std.proofs.Common.{refl, ap, ◌∙◌, arith, inl, ◌⊎◌, ⊎_elim, rules}
use Rattle.cap_matrix.specs.Grid.{Grid}
use Rattle.cap_laws.specs.Answers.{Fits}
use Rattle.cap_laws.specs.declared.values.Sum.{Sum}
use Rattle.cap_matrix.specs.Summands.{first_in, second_in, first_out, second_out}
use Rattle.cap_vec.specs.Sizes.{IsSizeOf, size_of}
use Rattle.cap_vec.proofs.Diagonals.{first_in-diagonal, second_in-diagonal, first_out-diagonal, second_out-diagonal}
use Rattle.cap_vec.proofs.Faults.{either_fits}
use Rattle.cap_vec.proofs.sums.direct_sum.Goals as goal

pub returns-then-a-gt-MOST_SIDE : goal.returns-then-a-gt-MOST_SIDE
returns-then-a-gt-MOST_SIDE c =
    let a = c.args.a in
    let b = c.args.b in
    record {
      size = size_of (first_in c.args.field a b);
      is_met = inl (inl refl);
      past = λ (h : Fits (size_of (first_in c.args.field a b))). let wide = h.columns in ⊎_elim (λ x. omega (arith, wide, x)) (λ x. omega (arith, wide, x.1)) c.then-a-gt-MOST_SIDE.either;
      rows_named = search rules;
      columns_named = c.saturating_add.ensures;
    }

pub returns : goal.returns
returns c =
    let p = c.args.field in
    let a = c.args.a in
    let b = c.args.b in
    let make = λ (w x y z : Grid). let d : Sum Grid = record { i1 = w; i2 = x; p1 = y; p2 = z } in d in
    let e1 = c.in_ok-i1.ensures.0 ∙ first_in-diagonal p a b in
    let e2 = c.in_ok-i2.ensures.0 ∙ second_in-diagonal p a b in
    let e3 = c.in_ok-p1.ensures.0 ∙ first_out-diagonal p a b in
    let e4 = c.in_ok-p2.ensures.0 ∙ second_out-diagonal p a b in (
      ap (λ w. make w c.in_ok-i2.i2 c.in_ok-p1.p1 c.in_ok-p2.p2) e1
          ∙ ap (λ x. make (first_in p a b) x c.in_ok-p1.p1 c.in_ok-p2.p2) e2
          ∙ ap (λ y. make (first_in p a b) (second_in p a b) y c.in_ok-p2.p2) e3
          ∙ ap (λ z. make (first_in p a b) (second_in p a b) (first_out p a b) z) e4,
      either_fits (λ s. IsSizeOf (first_in p a b) s ⊎ IsSizeOf (second_in p a b) s) (λ s. IsSizeOf (first_out p a b) s ⊎ IsSizeOf (second_out p a b) s)
          (either_fits (IsSizeOf (first_in p a b)) (IsSizeOf (second_in p a b)) c.in_ok-i1.ensures.1 c.in_ok-i2.ensures.1)
          (either_fits (IsSizeOf (first_out p a b)) (IsSizeOf (second_out p a b)) c.in_ok-p1.ensures.1 c.in_ok-p2.ensures.1),
    )
