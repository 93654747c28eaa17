use Rattle.std.proofs.Common.{◌≡◌, ℕ, List, [], ◌++◌, get_or, sym, ap, ◌∙◌, subst}
use Rattle.std.specs.List.{Contains}
use Rattle.std.proofs.lemmas.List.{append-nil}
use Rattle.cap_quiver_laws.proofs.Numbering.{path}
use Rattle.cap_quiver_paths.specs.Data.{quiver}
use Rattle.cap_quiver_paths.proofs.Goes.{term-first}
use Rattle.cap_quiver_paths.proofs.NumberLists.{arrows-found}
use Rattle.cap_quiver_paths.proofs.terms.term_number.Goals as goal

pub returns-then-list-bound : goal.returns-then-list-bound
returns-then-list-bound c =
    let q = quiver 0 c.args.arrows.now c.args.bound in
    let ps = c.args.paths.now in
    let list = c.args.list.now in
    let t = c.requires.term in
    let s = (get_or c.args.arrows.now (get_or list 0 0) (0, 0)).0 in
    let e : path t.0 list ≡ path s (list ++ []) = ap (λ x. path x list) (sym (term-first q t.0 t.1 list t.2).1) ∙ ap (λ (l : List ℕ). path s l) (sym (append-nil list)) in
    arrows-found q ps list c.number_of.result (path s (list ++ [])) (append-nil list) (subst (λ P. Contains ps P) e (c.requires.known t.0 t.1 list t.2 c.if-list-bound.true)) c.number_of.ensures
