use Rattle.std.proofs.Common.{◌≡◌, [], ◌∷◌, ◌++◌, ap, ◌∙◌}
use Rattle.cap_checked.specs.Checked.{part, prelude}
use Rattle.cap_checked.proofs.Preludes.{prelude_step}
use Rattle.cap_checked.proofs.scripts.prelude.Goals as goal

pub tokens-preserved : goal.tokens-preserved
tokens-preserved c =
    let token = c.in-Some.token in
    let left = c.pop.new.self.items in
    let taken : c.tokens.before.items ≡ left ++ token ∷ [] = c.in-Some.ensures.items in
    let made : c.in_ok-part.part ≡ part left token = c.in_ok-part.ensures ∙ ap (λ l. part l token) c.as_slice.ensures.value in
    let put = c.in_ok-push.ensures.items ∙ ap (λ x. c.tokens.parts.items ++ x ∷ []) made in
    prelude_step (prelude c.args.tokens.items) _ left token _ _ taken put c.tokens.invariant
