use Rattle.cap_abstract.proofs.sums.law_zero_from_direct_sum.Goals as goal

pub returns : goal.returns
returns g c = λ k. record { law = λ D. D.zero12 }
