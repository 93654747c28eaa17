use Rattle.std.proofs.Common.{◌≡◌, ℕ, ◌*◌, List, length, get_or, refl, sym, ap, ◌∙◌, subst}
use Rattle.cap_laws.specs.Answers.{Size, Fits}
use Rattle.cap_laws.specs.Table.{table_data}
use Rattle.cap_add_laws.specs.Closure.{MorphismMatrix, closure_data, AreObjects}
use Rattle.cap_add_laws.proofs.Linear.{zero-arrow}
use Rattle.cap_addclosure.specs.Sizes.{closure_size}
use Rattle.cap_addclosure.proofs.Built.{all-many, all-few, answers-built}
use Rattle.cap_addclosure.proofs.build.zero_matrix.Goals as goal

pub built-requires-clause-many : goal.built-requires-clause-many
built-requires-clause-many g c =
    let T = g.T.Table.table c.args.table.now in
    let a = c.parts-xs.result.now in
    let b = c.parts-ys.result.now in
    all-many a b (λ i j. (table_data T).zero (get_or a i 0) (get_or b j 0)) c.in_ok-entries.entries.items c.in_ok-entries.ensures
    ∙ ap (λ (z : List ℕ). length z * length b) c.parts-xs.ensures.value ∙ ap (λ (z : List ℕ). length c.args.a.now * length z) c.parts-ys.ensures.value

pub built-requires-clause-few : goal.built-requires-clause-few
built-requires-clause-few g c =
    let T = g.T.Table.table c.args.table.now in
    let a = c.parts-xs.result.now in
    let b = c.parts-ys.result.now in
    let A = subst (λ z. AreObjects T z) (sym c.parts-xs.ensures.value) c.requires.from in
    let B = subst (λ z. AreObjects T z) (sym c.parts-ys.ensures.value) c.requires.to in
    all-few a b (λ i j. (table_data T).zero (get_or a i 0) (get_or b j 0)) c.in_ok-entries.entries.items c.in_ok-entries.ensures
    (zero-arrow (g.met.T.Table.valid c.args.table.now) a b A B) (c.in_ok-_count.ensures.1 (closure_size T a b) refl)

pub returns : goal.returns
returns g c =
    let T = g.T.Table.table c.args.table.now in
    let a = c.args.a.now in
    let b = c.args.b.now in
    let make = λ (e : List (List ℕ)). let m : MorphismMatrix = record { from = a; to = b; entries = e } in m in
    let size : (s : Size) → s ≡ closure_size T a b → Fits s =
    subst (λ z. (s : Size) → s ≡ closure_size T z b → Fits s) c.parts-xs.ensures.value (subst (λ z. (s : Size) → s ≡ closure_size T c.parts-xs.result.now z → Fits s) c.parts-ys.ensures.value c.in_ok-_count.ensures.1) in
    answers-built (λ s. s ≡ closure_size T a b) ((closure_data T).zero a b) (make c.in_ok-entries.entries.items) c.built.result size c.built.ensures.value c.built.ensures.fault
    (ap make (c.in_ok-entries.ensures ∙ ap (λ z. ((closure_data T).zero z c.parts-ys.result.now).entries) c.parts-xs.ensures.value ∙ ap (λ z. ((closure_data T).zero a z).entries) c.parts-ys.ensures.value))
