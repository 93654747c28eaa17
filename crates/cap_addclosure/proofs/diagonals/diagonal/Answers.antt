use Rattle.std.proofs.Common.{ℕ, List, refl, ap, ◌∙◌, subst}
use Rattle.cap_laws.specs.Answers.{Fits}
use Rattle.cap_add_laws.specs.Closure.{MorphismMatrix, diagonal_of}
use Rattle.cap_add_laws.proofs.Linear.{Matches, diagonal-arrow}
use Rattle.cap_addclosure.specs.Sizes.{closure_size}
use Rattle.cap_addclosure.proofs.Built.{all-many, all-few, answers-by}
use Rattle.cap_addclosure.proofs.Units.{diagonal_piece}
use Rattle.cap_addclosure.proofs.diagonals.diagonal.Goals as goal

pub built-requires-clause-many : goal.built-requires-clause-many
built-requires-clause-many g c =
    let T = g.T.Table.table c.args.table.now in
    let a = c.args.a.now in
    let b = c.args.b.now in
    let r = c.args.row in
    let q = c.args.col in
    let e = c.in_ok-entries.ensures ∙ ap (λ (z : List ℕ). (diagonal_of T z c.parts-ys.result.now r q).entries) c.parts-xs.ensures.value ∙ ap (λ (z : List ℕ). (diagonal_of T a z r q).entries) c.parts-ys.ensures.value in
    all-many a b (diagonal_piece T a b r q) c.in_ok-entries.entries.items e

pub built-requires-clause-few : goal.built-requires-clause-few
built-requires-clause-few g c =
    let T = g.T.Table.table c.args.table.now in
    let V = g.met.T.Table.valid c.args.table.now in
    let a = c.args.a.now in
    let b = c.args.b.now in
    let r = c.args.row in
    let q = c.args.col in
    let e = c.in_ok-entries.ensures ∙ ap (λ (z : List ℕ). (diagonal_of T z c.parts-ys.result.now r q).entries) c.parts-xs.ensures.value ∙ ap (λ (z : List ℕ). (diagonal_of T a z r q).entries) c.parts-ys.ensures.value in
    let fits : Fits (closure_size T a b) = subst (λ (z : List ℕ). Fits (closure_size T a z)) c.parts-ys.ensures.value (subst (λ (z : List ℕ). Fits (closure_size T z c.parts-ys.result.now)) c.parts-xs.ensures.value
    (c.in_ok-_count.ensures.1 (closure_size T c.parts-xs.result.now c.parts-ys.result.now) refl)) in
    let M : Matches V a b r q = record { at = c.requires.equal } in
    all-few a b (diagonal_piece T a b r q) c.in_ok-entries.entries.items e (diagonal-arrow V c.requires.from c.requires.to M) fits

pub returns : goal.returns
returns g c =
    let T = g.T.Table.table c.args.table.now in
    let a = c.args.a.now in
    let b = c.args.b.now in
    let r = c.args.row in
    let q = c.args.col in
    let e = c.in_ok-entries.ensures ∙ ap (λ (z : List ℕ). (diagonal_of T z c.parts-ys.result.now r q).entries) c.parts-xs.ensures.value ∙ ap (λ (z : List ℕ). (diagonal_of T a z r q).entries) c.parts-ys.ensures.value in
    let fits : Fits (closure_size T a b) = subst (λ (z : List ℕ). Fits (closure_size T a z)) c.parts-ys.ensures.value (subst (λ (z : List ℕ). Fits (closure_size T z c.parts-ys.result.now)) c.parts-xs.ensures.value
    (c.in_ok-_count.ensures.1 (closure_size T c.parts-xs.result.now c.parts-ys.result.now) refl)) in
    let make = λ (z : List (List ℕ)). let m : MorphismMatrix = record { from = a; to = b; entries = z } in m in
    answers-by T a b a b (diagonal_of T a b r q) c.in_ok-entries.entries.items c.built.result fits c.built.ensures.value c.built.ensures.fault refl refl (ap make e)
