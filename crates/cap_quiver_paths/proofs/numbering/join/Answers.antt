use Rattle.std.proofs.Common.{◌≡◌, ◌++◌, [], length, sym, ap, ◌∙◌, arith}
use Rattle.std.proofs.lemmas.List.{get_or_default}
use Rattle.cap_quiver_laws.specs.Paths.{Path, end_of, path_of, IsJoinable}
use Rattle.cap_quiver_laws.proofs.Numbering.{path}
use Rattle.cap_quiver_paths.specs.Data.{quiver}
use Rattle.cap_quiver_paths.specs.Numbers.{joined_of}
use Rattle.cap_quiver_paths.proofs.NumberLists.{join-found}
use Rattle.cap_quiver_paths.proofs.numbering.join.Goals as goal

pub returns-then-end-start : goal.returns-then-end-start
returns-then-end-start c =
    let q = quiver 0 c.args.arrows.now c.args.bound in
    let ps = c.args.paths.now in
    let a = c.args.a in
    let b = c.args.b in
    let first : c.index-paths-a.result ≡ path_of ps a = c.index-paths-a.is ∙ get_or_default ps a c.index-paths-a.result (path 0 []) c.requires.first in
    let second : c.index-paths-b.result ≡ path_of ps b = c.index-paths-b.is ∙ get_or_default ps b c.index-paths-b.result (path 0 []) c.requires.second in
    let J : IsJoinable q ps a b = record {
      first = c.requires.first;
      second = c.requires.second;
      meet = ap (λ (P : Path). end_of q P.start P.arrows) (sym first) ∙ sym c.end.ensures ∙ c.if-end-start.true ∙ c.start.ensures ∙ ap (λ (P : Path). P.start) second;
      short = omega (arith, c.if-length-bound.true, ap length c.arrows.ensures, ap length c.arrows-2.ensures, ap (λ (P : Path). length P.arrows) first, ap (λ (P : Path). length P.arrows) second);
    } in
    let made : path c.start-then-end-start.result (c.arrows-then-end-start.result.now ++ c.arrows-then-end-start-2.result.now) ≡ joined_of ps a b =
    ap (λ x. path x (c.arrows-then-end-start.result.now ++ c.arrows-then-end-start-2.result.now)) (c.start-then-end-start.ensures ∙ ap (λ (P : Path). P.start) first)
    ∙ ap (λ xs. path (path_of ps a).start (xs ++ c.arrows-then-end-start-2.result.now)) (c.arrows-then-end-start.ensures ∙ ap (λ (P : Path). P.arrows) first)
    ∙ ap (λ ys. path (path_of ps a).start ((path_of ps a).arrows ++ ys)) (c.arrows-then-end-start-2.ensures ∙ ap (λ (P : Path). P.arrows) second) in
    join-found q ps a b c.number_of.result (path c.start-then-end-start.result (c.arrows-then-end-start.result.now ++ c.arrows-then-end-start-2.result.now)) made J (c.requires.joins a b J) c.number_of.ensures
