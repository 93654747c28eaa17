use Rattle.std.proofs.Common.{◌≡◌, ◌++◌, Some, None, sym, ap, ◌∙◌}
use Rattle.std.proofs.lemmas.Bool.{false≢true}
use Rattle.std.proofs.lemmas.Bool.Decides.{Decides-eqb}
use Rattle.std.proofs.lemmas.Slice.Eq.{slice_eq-Decides, strip_prefix_is}
use Rattle.cap_quiver_laws.specs.Paths.{Path}
use Rattle.cap_quiver_paths.proofs.NumberLists.{joined-is, joined-rest}
use Rattle.cap_quiver_paths.proofs.numbering.is_joined.Goals as goal

pub returns-in-Some : goal.returns-in-Some
returns-in-Some c =
    let P = c.args.walk.now in
    let first = c.args.first.now in
    let second = c.args.second.now in
    let rest = c.in-Some.rest.now in
    let parts : P.arrows ≡ first ++ rest = sym c.arrows.ensures ∙ strip_prefix_is Decides-eqb c.arrows.result.now first (Some c.in-Some.rest) c.in-Some.ensures.cases in
    let same = slice_eq-Decides Decides-eqb rest second c.eq.result c.eq.ensures in (
      λ t. joined-is P c.args.start first second (sym c.start.ensures ∙ c.if-start.false) (parts ∙ ap (λ l. first ++ l) (same.0 t)),
      λ e. same.1 (joined-rest P c.args.start first second rest parts e),
    )

pub returns-in-None : goal.returns-in-None
returns-in-None c = (
  λ t. absurd (false≢true t),
  λ e. absurd (strip_prefix_is Decides-eqb c.arrows.result.now c.args.first.now None c.in-None.ensures.cases c.args.second.now (c.arrows.ensures ∙ ap (λ (P : Path). P.arrows) e)),
)
