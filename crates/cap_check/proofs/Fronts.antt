-- What is not built yet, in a front of the parts and in all of them.
use Rattle.std.proofs.Common.{◌≡◌, ℕ, zero, suc, ◌+◌, ◌<◌, List, [], ◌∷◌, ◌++◌, Option, Some, None, length, take, get_or, sym, ap, ◌∙◌, add-one, arith}
use Rattle.std.specs.Prelude.{option_to_list}
use Rattle.cap_names.specs.declared.reasons.BadScript.{BadScript}
use Rattle.cap_block_faults.specs.Marks.{first}
use Rattle.cap_check.specs.Unbuilt.{CheckedPart, unbuilt_part, unbuilt}

past_none : (o : Option BadScript) (front rest : List BadScript) → option_to_list o ++ front ≡ [] → (front ≡ [] → rest ≡ []) → option_to_list o ++ rest ≡ []
past_none None front rest e more = more e
past_none (Some g) front rest e more = let n = ap length e in absurd (omega (arith, n))

past_first : (o : Option BadScript) (front rest : List BadScript) (fault : BadScript) → option_to_list o ++ front ≡ [] → (front ≡ [] → first rest ≡ Some fault) → first (option_to_list o ++ rest) ≡ Some fault
past_first None front rest fault e more = more e
past_first (Some g) front rest fault e more = let n = ap length e in absurd (omega (arith, n))

none_suc : (xs : List CheckedPart) (i : ℕ) (x : CheckedPart) → i < length xs → x ≡ get_or xs i x → unbuilt (take i xs) ≡ [] → unbuilt_part x ≡ None → unbuilt (take (suc i) xs) ≡ []
none_suc [] i x h e was here = absurd (omega arith)
none_suc (y ∷ ys) zero x h e was here = ap (λ z. option_to_list (unbuilt_part z) ++ []) (sym e) ∙ ap (λ o. option_to_list o ++ []) here
none_suc (y ∷ ys) (suc i) x h e was here =
    past_none (unbuilt_part y) (unbuilt (take i ys)) (unbuilt (take (suc i) ys)) was (λ rest. none_suc ys i x (omega arith) e rest here)

-- nothing in front, and not this part either
pub none_more : (xs : List CheckedPart) (i : ℕ) (x : CheckedPart) → i < length xs → x ≡ get_or xs i x → unbuilt (take i xs) ≡ [] → unbuilt_part x ≡ None → unbuilt (take (i + 1) xs) ≡ []
none_more xs i x h e was here = ap (λ n. unbuilt (take n xs)) (add-one i) ∙ none_suc xs i x h e was here

-- nothing in front, but this part
pub first_at : (xs : List CheckedPart) (i : ℕ) (x : CheckedPart) (fault : BadScript) → i < length xs → x ≡ get_or xs i x → unbuilt (take i xs) ≡ [] → unbuilt_part x ≡ Some fault → first (unbuilt xs) ≡ Some fault
first_at [] i x fault h e was here = absurd (omega arith)
first_at (y ∷ ys) zero x fault h e was here =
    ap (λ z. first (option_to_list (unbuilt_part z) ++ unbuilt ys)) (sym e) ∙ ap (λ o. first (option_to_list o ++ unbuilt ys)) here
first_at (y ∷ ys) (suc i) x fault h e was here =
    past_first (unbuilt_part y) (unbuilt (take i ys)) (unbuilt ys) fault was (λ rest. first_at ys i x fault (omega arith) e rest here)
