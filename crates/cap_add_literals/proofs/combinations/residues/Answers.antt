use Rattle.std.proofs.Common.{rules, ◌≡◌, ℕ, ◌<◌, ◌++◌, ◌+◌, ℤ, pos, List, [], ◌∷◌, length, map, take, get_or, refl, sym, ap, ◌∙◌, FitsSigned, w64, to_z, of_z}
use Rattle.std.proofs.lemmas.Int.{to_z-of_z}
use Rattle.std.proofs.lemmas.List.{take_more}
use Rattle.cap_add_literals.specs.Combinations.{residue_in}
use Rattle.cap_add_literals.proofs.combinations.residues.Goals as goal

map-snoc : (f : ℤ → ℕ) (xs : List ℤ) (x : ℤ) → map f (xs ++ x ∷ []) ≡ map f xs ++ f x ∷ []
map-snoc f [] x = refl
map-snoc f (y ∷ xs) x = ap (λ ys. f y ∷ ys) (map-snoc f xs x)

pub loop-n-preserved : goal.loop-n-preserved
loop-n-preserved c =
    let f = residue_in c.args.field in
    let xs = c.args.coefficients.now in
    let i = c.loop-n.n-index in
    let x = get_or xs i (pos 0) in
    let fits : FitsSigned w64 x = search rules in
    let residue : c.residue.result ≡ f x = c.residue.ensures ∙ ap f (to_z-of_z w64 x fits) in
    c.in_ok-push.ensures.items ∙ ap (λ r. c.loop-n.row.items ++ r ∷ []) residue ∙ ap (λ ys. ys ++ f x ∷ []) c.loop-n.invariant ∙ sym (map-snoc f (take i xs) x) ∙ ap (map f) (sym (take_more xs i (pos 0) c.loop-n-test.true))
