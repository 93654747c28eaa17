use Rattle.std.proofs.Common.{◌≡◌, ◌+◌, ◌-◌, ◌*◌, ◌<◌, ℕ, inl, inr, List, map, length, take, drop, get_or, [], refl, sym, ap, ◌∙◌, subst, arith}
use Rattle.cap_laws.specs.Linear.{Arrow}
use Rattle.cap_laws.specs.Answers.{Answers, Size, Fits}
use Rattle.cap_homlaw.specs.Hom.{hom_matrix}
use Rattle.cap_solve_laws.specs.Sums.{HasSums}
use Rattle.cap_solve_laws.proofs.Solver.{solution_row}
use Rattle.cap_solve_laws.proofs.WeakKernels.{kept_by, kept_of}
use Rattle.cap_solve.specs.Sizes.{IsSizeInTest, IsSizeInRows, IsSizeAtRow}
use Rattle.cap_solve.proofs.Faults.{err-is, fault_of, either_fits}
use Rattle.cap_solve.proofs.Kept.{sum_meets, sum_data, kept_by-arrow, kept-next, part-fits, part-back, part-met, part-meets, row-arrow, test-moved, kept-same, below-next}
use Rattle.cap_solve.proofs.Places.{take_all}
use Rattle.cap_solve.proofs.weak_kernels.keep_rows.Goals as goal

pub back-requires-clause-left : goal.back-requires-clause-left
back-requires-clause-left g c =
    let q = c.args.c.now in
    subst (λ x. (g.C.Cat.category q).is_object x) (sym c.source.ensures) ((g.met.C.Cat.linear q).source_object c.args.unit.now c.requires.unit)

pub back-requires-clause-right : goal.back-requires-clause-right
back-requires-clause-right g c =
    let q = c.args.c.now in
    subst (λ x. (g.C.Cat.category q).is_object x) (sym c.source-in-loop-i.ensures) ((g.met.C.Cat.linear q).source_object c.args.f.now c.requires.test)

pub back-requires-clause-row : goal.back-requires-clause-row
back-requires-clause-row g c =
    let q = c.args.c.now in
    part-fits (g.met.C.Cat.linear q) (g.met.C.HomFp.is_hom q) c.requires.unit c.requires.test c.args.rows.now c.cells-cells.result.now c.loop-i.i c.cols-n.result
    c.cells-cells.ensures (omega (arith, c.loop-i-test.true, c.rows-i-end.ensures.value)) c.requires.rows c.cols-n.ensures.value c.source.result.now c.source-in-loop-i.result.now c.source.ensures c.source-in-loop-i.ensures

pub keep-requires-clause-first : goal.keep-requires-clause-first
keep-requires-clause-first g c = c.loop-i.invariant.arrow.is

pub keep-requires-clause-second : goal.keep-requires-clause-second
keep-requires-clause-second g c =
    let q = c.args.c.now in
    let lt : c.loop-i.i < c.args.rows.now.row_count = omega (arith, c.loop-i-test.true, c.rows-i-end.ensures.value) in
    let L = g.met.C.Cat.linear q in
    let S = g.met.C.HomFp.is_hom q in
    let n = c.cols-n.result in
    let e = c.in_ok-g.ensures.0 ∙ part-back L S c.requires.unit c.requires.test c.args.rows.now c.cells-cells.result.now c.loop-i.i n c.cells-cells.ensures lt c.requires.rows c.cols-n.ensures.value c.source.result.now c.source-in-loop-i.result.now c.source.ensures c.source-in-loop-i.ensures in
    (row-arrow L S c.requires.unit c.requires.test c.args.rows.now c.cells-cells.result.now c.loop-i.i n c.cells-cells.ensures lt c.requires.rows c.cols-n.ensures.value c.source.result.now c.source-in-loop-i.result.now c.source.ensures c.source-in-loop-i.ensures c.in_ok-g.g e).is

pub keep-requires-clause-sources : goal.keep-requires-clause-sources
keep-requires-clause-sources g c =
    let q = c.args.c.now in
    let lt : c.loop-i.i < c.args.rows.now.row_count = omega (arith, c.loop-i-test.true, c.rows-i-end.ensures.value) in
    let L = g.met.C.Cat.linear q in
    let S = g.met.C.HomFp.is_hom q in
    let n = c.cols-n.result in
    let e = c.in_ok-g.ensures.0 ∙ part-back L S c.requires.unit c.requires.test c.args.rows.now c.cells-cells.result.now c.loop-i.i n c.cells-cells.ensures lt c.requires.rows c.cols-n.ensures.value c.source.result.now c.source-in-loop-i.result.now c.source.ensures c.source-in-loop-i.ensures in
    sym (row-arrow L S c.requires.unit c.requires.test c.args.rows.now c.cells-cells.result.now c.loop-i.i n c.cells-cells.ensures lt c.requires.rows c.cols-n.ensures.value c.source.result.now c.source-in-loop-i.result.now c.source.ensures c.source-in-loop-i.ensures c.in_ok-g.g e).from

pub keep-requires-clause-targets : goal.keep-requires-clause-targets
keep-requires-clause-targets g c =
    let q = c.args.c.now in
    let lt : c.loop-i.i < c.args.rows.now.row_count = omega (arith, c.loop-i-test.true, c.rows-i-end.ensures.value) in
    let L = g.met.C.Cat.linear q in
    let S = g.met.C.HomFp.is_hom q in
    let n = c.cols-n.result in
    let e = c.in_ok-g.ensures.0 ∙ part-back L S c.requires.unit c.requires.test c.args.rows.now c.cells-cells.result.now c.loop-i.i n c.cells-cells.ensures lt c.requires.rows c.cols-n.ensures.value c.source.result.now c.source-in-loop-i.result.now c.source.ensures c.source-in-loop-i.ensures in
    c.loop-i.invariant.arrow.to ∙ sym (row-arrow L S c.requires.unit c.requires.test c.args.rows.now c.cells-cells.result.now c.loop-i.i n c.cells-cells.ensures lt c.requires.rows c.cols-n.ensures.value c.source.result.now c.source-in-loop-i.result.now c.source.ensures c.source-in-loop-i.ensures c.in_ok-g.g e).to

pub loop-i-init : goal.loop-i-init
loop-i-init g c = record {
  kept = refl;
  arrow = record { is = c.requires.kept; from = refl; to = c.requires.target };
  sizes = λ n lt s m. absurd (omega (arith, lt));
}

pub loop-i-preserved : goal.loop-i-preserved
loop-i-preserved g c =
    let q = c.args.c.now in
    let C = g.C.Cat.category q in
    let H = g.C.HomFp.hom q in
    let W = g.C.HomFp.hom_meets q in
    let V = sum_meets (g.C.Additive.zero_object_meets q) (g.C.Cat.identity_meets q) (g.C.Preadditive.zero_meets q) (g.C.Preadditive.add_meets q) (g.C.Cat.compose_meets q) (g.C.Additive.direct_sum_meets q) in
    let Z = sum_data (g.C.Additive.zero_object_of q) (g.C.Additive.sum_of q) in
    let L = g.met.C.Cat.linear q in
    let S = g.met.C.HomFp.is_hom q in
    let A : HasSums C Z = record { zero_object_is = g.met.C.Additive.zero_object_is q; sum_is = g.met.C.Additive.sum_is q } in
    let unit = c.args.unit.now in
    let x = C.source unit in
    let a = C.source c.args.f.now in
    let rows = c.args.rows.now in
    let cells = c.cells-cells.result.now in
    let i = c.loop-i.i in
    let n = c.cols-n.result in
    let k = c.args.k in
    let kept = c.loop-i.kept in
    let lt : i < rows.row_count = omega (arith, c.loop-i-test.true, c.rows-i-end.ensures.value) in
    let x' = c.source.result.now in
    let a' = c.source-in-loop-i.result.now in
    let e = c.in_ok-g.ensures.0 ∙ part-back L S c.requires.unit c.requires.test rows cells i n c.cells-cells.ensures lt c.requires.rows c.cols-n.ensures.value x' a' c.source.ensures c.source-in-loop-i.ensures in
    let t = c.in_ok-g.g in
    let G = row-arrow L S c.requires.unit c.requires.test rows cells i n c.cells-cells.ensures lt c.requires.rows c.cols-n.ensures.value x' a' c.source.ensures c.source-in-loop-i.ensures t e in
    let f = λ (r : List ℕ). H.back x a r in
    let inner : i < length rows.entries = omega (arith, lt, c.requires.rows.is.shaped.row_many) in
    let own = c.requires.identity ∙ ap C.identity (sym G.from) in
    let made = c.in_ok-kept.ensures.0 in
    record {
      kept = made ∙ kept-same C H Z own c.loop-i.invariant.kept e ∙ sym (kept-next C H Z f k rows.entries i inner);
      arrow = subst (λ z. Arrow C (C.source z) a z) (sym made)
          (kept_by-arrow L A (solution_row C.prime (hom_matrix C H unit kept) (H.nu t)) c.loop-i.invariant.arrow (record { is = G.is; from = refl; to = G.to }));
      sizes = below-next (λ m. (s : Size) → IsSizeAtRow V W C H Z x a k rows.entries m s → Fits s) i c.loop-i.invariant.sizes
          (either_fits (W.back x a (get_or rows.entries i [])) (IsSizeInTest V W C H Z (C.identity x) (kept_of C H Z k (map f (take i rows.entries))) (f (get_or rows.entries i [])))
          (λ s m. c.in_ok-g.ensures.1 s (part-met L S c.requires.unit c.requires.test rows cells i n c.cells-cells.ensures lt c.requires.rows c.cols-n.ensures.value x' a' c.source.ensures c.source-in-loop-i.ensures (λ y z r. W.back y z r s) m))
          (λ s m. c.in_ok-kept.ensures.1 s (test-moved V W C H Z (sym c.requires.identity) (sym c.loop-i.invariant.kept) (sym e) s m)));
    }

pub returns : goal.returns
returns g c =
    let q = c.args.c.now in
    let C = g.C.Cat.category q in
    let H = g.C.HomFp.hom q in
    let Z = sum_data (g.C.Additive.zero_object_of q) (g.C.Additive.sum_of q) in
    let rows = c.args.rows.now in
    let f = λ (r : List ℕ). H.back (C.source c.args.unit.now) (C.source c.args.f.now) r in
    let all : c.loop-i.i ≡ length rows.entries = omega (arith, c.loop-i-test.false, c.loop-i.auto.i-end, c.rows-i-end.ensures.value, c.requires.rows.is.shaped.row_many) in (
      (
        c.loop-i.invariant.kept ∙ ap (λ m. kept_of C H Z c.args.k (map f (take m rows.entries))) all ∙ ap (λ l. kept_of C H Z c.args.k (map f l)) (take_all rows.entries),
        c.loop-i.invariant.arrow,
      ),
      λ s m. c.loop-i.invariant.sizes m.number (omega (arith, all, m.below)) s m.meets,
    )

pub returns-in_err-g : goal.returns-in_err-g
returns-in_err-g g c =
    let q = c.args.c.now in
    let C = g.C.Cat.category q in
    let H = g.C.HomFp.hom q in
    let W = g.C.HomFp.hom_meets q in
    let V = sum_meets (g.C.Additive.zero_object_meets q) (g.C.Cat.identity_meets q) (g.C.Preadditive.zero_meets q) (g.C.Preadditive.add_meets q) (g.C.Cat.compose_meets q) (g.C.Additive.direct_sum_meets q) in
    let Z = sum_data (g.C.Additive.zero_object_of q) (g.C.Additive.sum_of q) in
    let L = g.met.C.Cat.linear q in
    let S = g.met.C.HomFp.is_hom q in
    let x = C.source c.args.unit.now in
    let a = C.source c.args.f.now in
    let rows = c.args.rows.now in
    let cells = c.cells-cells.result.now in
    let i = c.loop-i.i in
    let n = c.cols-n.result in
    let lt : i < rows.row_count = omega (arith, c.loop-i-test.true, c.rows-i-end.ensures.value) in
    let inner : i < length rows.entries = omega (arith, lt, c.requires.rows.is.shaped.row_many) in
    let x' = c.source.result.now in
    let a' = c.source-in-loop-i.result.now in
    let part = take (i * n + n - i * n) (drop (i * n) cells) in
    let e = c.in_err-g.field-0.0 in
    let is = err-is c.from_residual.result e c.from_residual.ensures.1 in
    let met = IsSizeInRows V W C H Z x a c.args.k rows.entries in
    let right = λ (m : _). (m ≡ kept_of C H Z c.args.k (map (λ r. H.back x a r) rows.entries)) × Arrow C (C.source m) a m in
    subst (λ r. Answers met right r) (sym is)
    (fault_of met (W.back x' a' part) right (λ z. z ≡ H.back x' a' part) e
    (λ s m. record { number = i; below = inner; meets = inl (part-meets L S c.requires.unit c.requires.test rows cells i n c.cells-cells.ensures lt c.requires.rows c.cols-n.ensures.value x' a' c.source.ensures c.source-in-loop-i.ensures (λ y z r. W.back y z r s) m) })
    c.in_err-g.ensures)

pub returns-in_err-kept : goal.returns-in_err-kept
returns-in_err-kept g c =
    let q = c.args.c.now in
    let C = g.C.Cat.category q in
    let H = g.C.HomFp.hom q in
    let W = g.C.HomFp.hom_meets q in
    let V = sum_meets (g.C.Additive.zero_object_meets q) (g.C.Cat.identity_meets q) (g.C.Preadditive.zero_meets q) (g.C.Preadditive.add_meets q) (g.C.Cat.compose_meets q) (g.C.Additive.direct_sum_meets q) in
    let Z = sum_data (g.C.Additive.zero_object_of q) (g.C.Additive.sum_of q) in
    let L = g.met.C.Cat.linear q in
    let S = g.met.C.HomFp.is_hom q in
    let unit = c.args.unit.now in
    let x = C.source unit in
    let a = C.source c.args.f.now in
    let rows = c.args.rows.now in
    let cells = c.cells-cells.result.now in
    let i = c.loop-i.i in
    let n = c.cols-n.result in
    let kept = c.loop-i.kept in
    let t = c.in_ok-g.g in
    let lt : i < rows.row_count = omega (arith, c.loop-i-test.true, c.rows-i-end.ensures.value) in
    let inner : i < length rows.entries = omega (arith, lt, c.requires.rows.is.shaped.row_many) in
    let made = c.in_ok-g.ensures.0 ∙ part-back L S c.requires.unit c.requires.test rows cells i n c.cells-cells.ensures lt c.requires.rows c.cols-n.ensures.value c.source.result.now c.source-in-loop-i.result.now c.source.ensures c.source-in-loop-i.ensures in
    let e = c.in_err-kept.field-0.0 in
    let is = err-is c.from_residual-in_err-kept.result e c.from_residual-in_err-kept.ensures.1 in
    let met = IsSizeInRows V W C H Z x a c.args.k rows.entries in
    let right = λ (m : _). (m ≡ kept_of C H Z c.args.k (map (λ r. H.back x a r) rows.entries)) × Arrow C (C.source m) a m in
    subst (λ r. Answers met right r) (sym is)
    (fault_of met (IsSizeInTest V W C H Z unit kept t) right (λ z. z ≡ kept_by C Z kept t (solution_row C.prime (hom_matrix C H unit kept) (H.nu t))) e
    (λ s m. record { number = i; below = inner; meets = inr (test-moved V W C H Z c.requires.identity c.loop-i.invariant.kept made s m) })
    c.in_err-kept.ensures)
