use Rattle.std.proofs.Common.{◌≡◌, ◌⊎◌, inl, inr, map, refl, sym, ap, ◌∙◌, subst}
use Rattle.cap_matrix.specs.Grid.{Grid, IsMatrixOf}
use Rattle.cap_reduce.proofs.NullBasis.{basis-matrix}
use Rattle.cap_laws.specs.Linear.{Arrow}
use Rattle.cap_laws.specs.Answers.{Answers, Size, numbers}
use Rattle.cap_laws.proofs.Sizes.{answers-after}
use Rattle.cap_homlaw.specs.Hom.{hom_matrix}
use Rattle.cap_homlaw.proofs.TwoSided.{hom_matrix-matrix}
use Rattle.cap_solve_laws.proofs.Solver.{null_rows_of, null_rows_of-is}
use Rattle.cap_solve_laws.proofs.WeakKernels.{kept_of, null_morphisms}
use Rattle.cap_solve.specs.Sizes.{IsSizeInRows, IsSizeAtGenerator}
use Rattle.cap_solve.proofs.Faults.{err-is, fault_of, either_fits}
use Rattle.cap_solve.proofs.Kept.{sum_meets, sum_data}
use Rattle.cap_solve.proofs.weak_kernels.keep_generator.Goals as goal

pub identity-requires : goal.identity-requires
identity-requires g c =
    let q = c.args.c.now in
    subst (λ x. (g.C.Cat.category q).is_object x) (sym c.in_ok-x.ensures.0) ((g.met.C.HomFp.is_hom q).generator_object c.args.number c.requires.number)

pub null_rows_at-requires-clause-unit : goal.null_rows_at-requires-clause-unit
null_rows_at-requires-clause-unit g c =
    let q = c.args.c.now in
    let C = g.C.Cat.category q in
    let H = g.C.HomFp.hom q in
    let X = H.generator c.args.number in
    let eu = c.in_ok-unit.ensures.0 ∙ ap C.identity c.in_ok-x.ensures.0 in
    subst (λ z. C.is_morphism z) (sym eu) ((g.met.C.Cat.linear q).identity_arrow X ((g.met.C.HomFp.is_hom q).generator_object c.args.number c.requires.number)).is

pub keep_rows-requires-clause-unit : goal.keep_rows-requires-clause-unit
keep_rows-requires-clause-unit g c =
    let q = c.args.c.now in
    let C = g.C.Cat.category q in
    let H = g.C.HomFp.hom q in
    let X = H.generator c.args.number in
    let eu = c.in_ok-unit.ensures.0 ∙ ap C.identity c.in_ok-x.ensures.0 in
    subst (λ z. C.is_morphism z) (sym eu) ((g.met.C.Cat.linear q).identity_arrow X ((g.met.C.HomFp.is_hom q).generator_object c.args.number c.requires.number)).is

pub keep_rows-requires-clause-identity : goal.keep_rows-requires-clause-identity
keep_rows-requires-clause-identity g c =
    let q = c.args.c.now in
    let C = g.C.Cat.category q in
    let H = g.C.HomFp.hom q in
    let X = H.generator c.args.number in
    let eu = c.in_ok-unit.ensures.0 ∙ ap C.identity c.in_ok-x.ensures.0 in
    let I = (g.met.C.Cat.linear q).identity_arrow X ((g.met.C.HomFp.is_hom q).generator_object c.args.number c.requires.number) in
    eu ∙ ap C.identity (sym (ap C.source eu ∙ I.from))

pub keep_rows-requires-clause-rows : goal.keep_rows-requires-clause-rows
keep_rows-requires-clause-rows g c =
    let q = c.args.c.now in
    let C = g.C.Cat.category q in
    let H = g.C.HomFp.hom q in
    let L = g.met.C.Cat.linear q in
    let S = g.met.C.HomFp.is_hom q in
    let f = c.args.f.now in
    let X = H.generator c.args.number in
    let I = L.identity_arrow X (S.generator_object c.args.number c.requires.number) in
    let eu = c.in_ok-unit.ensures.0 ∙ ap C.identity c.in_ok-x.ensures.0 in
    let er = c.in_ok-rows.ensures.0 ∙ ap (λ u. null_rows_of C.prime (hom_matrix C H u f)) eu in
    let M = hom_matrix-matrix L S I (record { is = c.requires.test; from = refl; to = refl }) in
    let m = hom_matrix C H (C.identity X) f in
    let N = basis-matrix M (null_rows_of-is C.prime m L.prime_tabled M.is) in
    subst (λ (x : Grid). IsMatrixOf C.prime x.row_count (H.dim (C.source c.in_ok-unit.unit) (C.source f)) x) (sym er)
    (subst (λ y. IsMatrixOf C.prime (null_rows_of C.prime m).row_count (H.dim y (C.source f)) (null_rows_of C.prime m)) (sym (ap C.source eu ∙ I.from)) N)

pub returns-in_err-x : goal.returns-in_err-x
returns-in_err-x g c =
    let q = c.args.c.now in
    let C = g.C.Cat.category q in
    let H = g.C.HomFp.hom q in
    let W = g.C.HomFp.hom_meets q in
    let V = sum_meets (g.C.Additive.zero_object_meets q) (g.C.Cat.identity_meets q) (g.C.Preadditive.zero_meets q) (g.C.Preadditive.add_meets q) (g.C.Cat.compose_meets q) (g.C.Additive.direct_sum_meets q) in
    let Z = sum_data (g.C.Additive.zero_object_of q) (g.C.Additive.sum_of q) in
    let f = c.args.f.now in
    let n = c.args.number in
    let e = c.in_err-x.field-0.0 in
    let is = err-is c.from_residual.result e c.from_residual.ensures.1 in
    let right = λ (m : _). (m ≡ kept_of C H Z c.args.k (null_morphisms C H f n)) × Arrow C (C.source m) (C.source f) m in
    subst (λ r. Answers (IsSizeAtGenerator V W C H Z f n c.args.k) right r) (sym is)
    (fault_of (IsSizeAtGenerator V W C H Z f n c.args.k) (W.generator n) right (λ z. z ≡ H.generator n) e (λ s m. inl (inl (inl m))) c.in_err-x.ensures)

pub returns-in_err-unit : goal.returns-in_err-unit
returns-in_err-unit g c =
    let q = c.args.c.now in
    let C = g.C.Cat.category q in
    let H = g.C.HomFp.hom q in
    let W = g.C.HomFp.hom_meets q in
    let V = sum_meets (g.C.Additive.zero_object_meets q) (g.C.Cat.identity_meets q) (g.C.Preadditive.zero_meets q) (g.C.Preadditive.add_meets q) (g.C.Cat.compose_meets q) (g.C.Additive.direct_sum_meets q) in
    let Z = sum_data (g.C.Additive.zero_object_of q) (g.C.Additive.sum_of q) in
    let f = c.args.f.now in
    let n = c.args.number in
    let x = c.in_ok-x.x in
    let e = c.in_err-unit.field-0.0 in
    let is = err-is c.from_residual-in_err-unit.result e c.from_residual-in_err-unit.ensures.1 in
    let right = λ (m : _). (m ≡ kept_of C H Z c.args.k (null_morphisms C H f n)) × Arrow C (C.source m) (C.source f) m in
    subst (λ r. Answers (IsSizeAtGenerator V W C H Z f n c.args.k) right r) (sym is)
    (fault_of (IsSizeAtGenerator V W C H Z f n c.args.k) (V.identity x) right (λ z. z ≡ C.identity x) e
    (λ s m. inl (inl (inr (subst (λ y. V.identity y s) c.in_ok-x.ensures.0 m)))) c.in_err-unit.ensures)

pub returns-in_err-rows : goal.returns-in_err-rows
returns-in_err-rows g c =
    let q = c.args.c.now in
    let C = g.C.Cat.category q in
    let H = g.C.HomFp.hom q in
    let W = g.C.HomFp.hom_meets q in
    let V = sum_meets (g.C.Additive.zero_object_meets q) (g.C.Cat.identity_meets q) (g.C.Preadditive.zero_meets q) (g.C.Preadditive.add_meets q) (g.C.Cat.compose_meets q) (g.C.Additive.direct_sum_meets q) in
    let Z = sum_data (g.C.Additive.zero_object_of q) (g.C.Additive.sum_of q) in
    let f = c.args.f.now in
    let n = c.args.number in
    let unit = c.in_ok-unit.unit in
    let eu = c.in_ok-unit.ensures.0 ∙ ap C.identity c.in_ok-x.ensures.0 in
    let nulls = λ (u : _). null_rows_of C.prime (hom_matrix C H u f) in
    let part = λ (u : _) (s : Size). W.h u f s ⊎ (s ≡ numbers (nulls u).row_count (nulls u).column_count) in
    let e = c.in_err-rows.field-0.0 in
    let is = err-is c.from_residual-in_err-rows.result e c.from_residual-in_err-rows.ensures.1 in
    let right = λ (m : _). (m ≡ kept_of C H Z c.args.k (null_morphisms C H f n)) × Arrow C (C.source m) (C.source f) m in
    subst (λ r. Answers (IsSizeAtGenerator V W C H Z f n c.args.k) right r) (sym is)
    (fault_of (IsSizeAtGenerator V W C H Z f n c.args.k) (part unit) right (λ (z : Grid). z ≡ nulls unit) e
    (λ s m. inl (inr (subst (λ u. part u s) eu m))) c.in_err-rows.ensures)

pub returns : goal.returns
returns g c =
    let q = c.args.c.now in
    let C = g.C.Cat.category q in
    let H = g.C.HomFp.hom q in
    let W = g.C.HomFp.hom_meets q in
    let L = g.met.C.Cat.linear q in
    let S = g.met.C.HomFp.is_hom q in
    let V = sum_meets (g.C.Additive.zero_object_meets q) (g.C.Cat.identity_meets q) (g.C.Preadditive.zero_meets q) (g.C.Preadditive.add_meets q) (g.C.Cat.compose_meets q) (g.C.Additive.direct_sum_meets q) in
    let Z = sum_data (g.C.Additive.zero_object_of q) (g.C.Additive.sum_of q) in
    let f = c.args.f.now in
    let n = c.args.number in
    let k = c.args.k in
    let X = H.generator n in
    let a = C.source f in
    let I = L.identity_arrow X (S.generator_object n c.requires.number) in
    let ex = c.in_ok-x.ensures.0 in
    let eu = c.in_ok-unit.ensures.0 ∙ ap C.identity ex in
    let es = ap C.source eu ∙ I.from in
    let nulls = λ (u : _). null_rows_of C.prime (hom_matrix C H u f) in
    let part = λ (u : _) (s : Size). W.h u f s ⊎ (s ≡ numbers (nulls u).row_count (nulls u).column_count) in
    let N = nulls (C.identity X) in
    let er = c.in_ok-rows.ensures.0 ∙ ap nulls eu in
    let kept = λ (x : _) (rows : Grid). Answers (IsSizeInRows V W C H Z x a k rows.entries) (λ m. (m ≡ kept_of C H Z k (map (λ r. H.back x a r) rows.entries)) × Arrow C (C.source m) a m) c.keep_rows.result in
    let answer = subst (λ x. kept x N) es (subst (λ (rows : Grid). kept (C.source c.in_ok-unit.unit) rows) er c.keep_rows.ensures) in
    let right = λ (m : _). (m ≡ kept_of C H Z k (null_morphisms C H f n)) × Arrow C (C.source m) a m in
    answers-after (λ s. (W.generator n s ⊎ V.identity X s) ⊎ part (C.identity X) s) (IsSizeInRows V W C H Z X a k N.entries) right right
    (either_fits (λ s. W.generator n s ⊎ V.identity X s) (part (C.identity X))
    (either_fits (W.generator n) (V.identity X) c.in_ok-x.ensures.1 (λ s m. c.in_ok-unit.ensures.1 s (subst (λ y. V.identity y s) (sym ex) m)))
    (λ s m. c.in_ok-rows.ensures.1 s (subst (λ u. part u s) (sym eu) m)))
    (λ m d. d) c.keep_rows.result answer
