-- The names of operations by number.
use Rattle.std.proofs.Common.{◌≡◌, ℕ, zero, suc, ◌-◌, ◌<◌, List, [], ap, ◌∙◌, refl, arith}
use Rattle.std.specs.Prelude.{slice_get}
use Rattle.std.proofs.lemmas.Option.{get_or_from_slice_get}
use Rattle.std.proofs.lemmas.List.{get_or_past}
use Rattle.cap_names.specs.Operations.{operation_names, IsNamed}
use Rattle.cap_names.specs.declared.identifiers.OpId.{OpId}
use Rattle.cap_top_text.specs.Values.{operation_text}

named : (n : ℕ) (word : List ℕ) → IsNamed n word → operation_text (record { 0 = n }) ≡ word
unfolding operation_text
named zero word h = absurd (omega (arith, h.first))
named (suc n) word h =
    let same : n ≡ suc n - 1 = omega arith in
    get_or_from_slice_get operation_names n word [] (ap (slice_get operation_names) same ∙ h.name)

pub op_named : (op : OpId) (word : List ℕ) → IsNamed op.0 word → operation_text op ≡ word
op_named op word h = named op.0 word h

unnamed : (n : ℕ) → 44 < n → operation_text (record { 0 = n }) ≡ []
unfolding operation_text
unnamed zero h = absurd (omega arith)
unnamed (suc n) h = get_or_past operation_names n [] (let past : 44 < suc n = h in omega arith)

pub op_past : (op : OpId) → 44 < op.0 → operation_text op ≡ []
op_past op h = unnamed op.0 h

nothing : operation_text (record { 0 = 0 }) ≡ []
unfolding operation_text
nothing = refl

pub op_zero : (op : OpId) → op.0 ≡ 0 → operation_text op ≡ []
op_zero op h = ap (λ n. operation_text (record { 0 = n })) h ∙ nothing
