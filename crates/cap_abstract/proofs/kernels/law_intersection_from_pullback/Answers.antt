use Rattle.cap_abstract.proofs.kernels.law_intersection_from_pullback.Goals as goal

pub returns : goal.returns
returns g c = λ k. record { law = λ {k} {a} {b} {c} {m} {n} {p} {q} P s. record { p = p; q = q; pullback = P; is = s } }
