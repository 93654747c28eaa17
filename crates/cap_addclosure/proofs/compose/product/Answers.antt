use Rattle.std.proofs.Common.{◌≡◌, ℕ, ◌*◌, List, length, get_or, refl, sym, ap, ◌∙◌, subst}
use Rattle.cap_laws.specs.Linear.{Arrow}
use Rattle.cap_laws.specs.Answers.{Size, Fits}
use Rattle.cap_laws.specs.Table.{table_data}
use Rattle.cap_add_laws.specs.Closure.{MorphismMatrix, entry_of, sum_below, closure_data}
use Rattle.cap_add_laws.proofs.Linear.{compose-arrow}
use Rattle.cap_addclosure.specs.Sizes.{closure_size}
use Rattle.cap_addclosure.proofs.Built.{all-many, all-few, answers-built}
use Rattle.cap_addclosure.proofs.compose.product.Goals as goal

pub built-requires-clause-many : goal.built-requires-clause-many
built-requires-clause-many g c =
    let T = g.T.Table.table c.args.table.now in
    let f = c.args.f.now in
    let h = c.args.g.now in
    let F = λ (i k : ℕ). sum_below (table_data T) (get_or f.from i 0) (get_or h.to k 0) (length f.to) (λ j. (table_data T).compose (entry_of f i j) (entry_of h j k)) in
    all-many f.from h.to F c.in_ok-entries.entries.items c.in_ok-entries.ensures
    ∙ ap (λ (l : List ℕ). length l * length h.to) (sym c.source-a.ensures) ∙ ap (λ (l : List ℕ). length c.source-a.result.now * length l) (sym c.target-c.ensures)

pub built-requires-clause-few : goal.built-requires-clause-few
built-requires-clause-few g c =
    let T = g.T.Table.table c.args.table.now in
    let f = c.args.f.now in
    let h = c.args.g.now in
    let F = λ (i k : ℕ). sum_below (table_data T) (get_or f.from i 0) (get_or h.to k 0) (length f.to) (λ j. (table_data T).compose (entry_of f i j) (entry_of h j k)) in
    let p : Arrow (closure_data T) f.from f.to f = record { is = c.requires.left; from = refl; to = refl } in
    let q : Arrow (closure_data T) f.to h.to h = record { is = c.requires.right; from = sym c.requires.meet; to = refl } in
    let size : (s : Size) → s ≡ closure_size T f.from h.to → Fits s =
    subst (λ z. (s : Size) → s ≡ closure_size T z h.to → Fits s) (c.parts.ensures.value ∙ c.source-a.ensures)
    (subst (λ z. (s : Size) → s ≡ closure_size T c.parts.result.now z → Fits s) (c.parts-2.ensures.value ∙ c.target-c.ensures) c.in_ok-_count.ensures.1) in
    all-few f.from h.to F c.in_ok-entries.entries.items c.in_ok-entries.ensures (compose-arrow (g.met.T.Table.valid c.args.table.now) p q) (size (closure_size T f.from h.to) refl)

pub returns : goal.returns
returns g c =
    let T = g.T.Table.table c.args.table.now in
    let f = c.args.f.now in
    let h = c.args.g.now in
    let make = λ (a b : List ℕ) (e : List (List ℕ)). let m : MorphismMatrix = record { from = a; to = b; entries = e } in m in
    let size : (s : Size) → s ≡ closure_size T f.from h.to → Fits s =
    subst (λ z. (s : Size) → s ≡ closure_size T z h.to → Fits s) (c.parts.ensures.value ∙ c.source-a.ensures)
    (subst (λ z. (s : Size) → s ≡ closure_size T c.parts.result.now z → Fits s) (c.parts-2.ensures.value ∙ c.target-c.ensures) c.in_ok-_count.ensures.1) in
    answers-built (λ s. s ≡ closure_size T f.from h.to) ((closure_data T).compose f h) (make c.source-a.result.now c.target-c.result.now c.in_ok-entries.entries.items) c.built.result size c.built.ensures.value c.built.ensures.fault
    (ap (λ z. make z c.target-c.result.now c.in_ok-entries.entries.items) c.source-a.ensures ∙ ap (λ z. make f.from z c.in_ok-entries.entries.items) c.target-c.ensures ∙ ap (λ z. make f.from h.to z) c.in_ok-entries.ensures)
