use Rattle.std.proofs.Common.{◌≡◌, ◌+◌, ◌++◌, take, sym, ap, subst, ◌∙◌}
use Rattle.cap_registered.specs.Registrations.{registered, kind_of, category, categories_among}
use Rattle.cap_registered.specs.Certificates.{IsCertificate, AreCertificatesOf}
use Rattle.cap_registered.proofs.Texts.{after_category, after_other, no_category}
use Rattle.cap_registered.proofs.certifying.certificates_of.Goals as goal
use Rattle.cap_registered.proofs.certifying.certificates_of.Goals.{in-Category+in_ok-one+in_ok-extend_from_slice, in_default}

pub parts-preserved : goal.parts-preserved
parts-preserved c =
    elim c.match-part.branch [
      | in-Category+in_ok-one+in_ok-extend_from_slice w ↦
          let text : c.match-part.text.items ≡ c.parts.text.items ++ w.in_ok-one.one.items =
          ap (λ t. t.items) w.text-is ∙ w.in_ok-extend_from_slice.ensures.items ∙ ap (λ one. c.parts.text.items ++ one) w.deref.ensures.value in
          let is : IsCertificate (registered c.args.parts.now w.in-Category.name (kind_of w.in-Category.over)) w.in_ok-one.one.items =
          subst (λ kind. IsCertificate (registered c.args.parts.now w.in-Category.name kind) w.in_ok-one.one.items) w.kind_of.ensures w.in_ok-one.ensures in
          subst (AreCertificatesOf (categories_among c.args.parts.now (take (c.parts.part-index + 1) c.args.parts.now))) (sym text)
          (after_category c.args.parts.now c.args.parts.now c.parts.part-index c.part-item.result (registered c.args.parts.now w.in-Category.name (kind_of w.in-Category.over))
          c.parts.text.items w.in_ok-one.one.items c.parts-test.true c.part-item.is (ap (category c.args.parts.now) w.in-Category.is) c.parts.invariant is)
      | in_default w ↦
          subst (λ t. AreCertificatesOf (categories_among c.args.parts.now (take (c.parts.part-index + 1) c.args.parts.now)) t.items) (sym w.text-is)
          (after_other c.args.parts.now c.args.parts.now c.parts.part-index c.part-item.result c.parts.text.items c.parts-test.true c.part-item.is
          (no_category c.args.parts.now c.part-item.result.node w.in_default.not-Category) c.parts.invariant)
    ]
