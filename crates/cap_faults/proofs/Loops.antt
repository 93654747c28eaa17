-- Loops that stop at the first fault.
use Rattle.std.proofs.Common.{◌≡◌, ℕ, zero, suc, ◌+◌, ◌<◌, List, [], ◌∷◌, ◌++◌, length, take, get_or, refl, sym, ap, ◌∙◌, add-one, arith}
use Rattle.std.specs.Prelude.{Option, Some, None, nat_le, ◌-◌, sum_by}
use Rattle.std.proofs.lemmas.List.Sums.{sum_by-cons}
use Rattle.cap_names.specs.declared.reasons.BadScript.{BadScript}
use Rattle.cap_grammar.specs.declared.tree.Place.{Place}
use Rattle.cap_block_faults.specs.Marks.{each, first, faults}
use Rattle.cap_block_faults.proofs.Each.{each_more, each-split, first_of_none, first_of_some}
use Rattle.cap_faults.specs.declared.values.Value.{Value}
use Rattle.cap_faults.specs.declared.fault.CheckFault.{CheckFault}
use Rattle.cap_faults.specs.declared.fault.CheckFault.TheVariants.{Bad, NoMemory}
use Rattle.cap_faults.specs.Scripts.{values_behind, Tells, item_marks, part_faults, command_faults, bound_by_part, bound_by_command, SessionCommand, Session, one_session, session_faults, commands_left}
use Rattle.cap_faults.specs.Commands.{scope, command_marks}
use Rattle.cap_block_faults.specs.Names.{Part}

-- no item so far has a fault, and this one has none either
pub none_more : {A : Type 0} (f : ℕ → A → List BadScript) (xs : List A) (i : ℕ) (x : A) → i < length xs → x ≡ get_or xs i x → each f (take i xs) ≡ [] → f i x ≡ [] → each f (take (i + 1) xs) ≡ []
none_more f xs i x h e was here = sym (each_more f [] [] [] xs i x h e (sym was) (sym here))

-- no item so far has a fault, and the first one of this item is the first of all
pub first_at : {A : Type 0} (f : ℕ → A → List BadScript) (xs : List A) (i : ℕ) (x : A) (fault : BadScript) → i < length xs → x ≡ get_or xs i x → each f (take i xs) ≡ [] → first (f i x) ≡ Some fault → first (each f xs) ≡ Some fault
first_at f xs i x fault h e was here =
    let s = each-split f xs (i + 1) in
    let more : each f (take (i + 1) xs) ≡ [] ++ f i x = sym (each_more f [] (f i x) [] xs i x h e (sym was) refl) in
    ap first s.1 ∙ first_of_some (each f (take (i + 1) xs)) s.0 fault (ap first more ∙ here)

pub tells_at : {A : Type 0} (f : ℕ → A → List BadScript) (xs : List A) (i : ℕ) (x : A) (fault : CheckFault) → i < length xs → x ≡ get_or xs i x → each f (take i xs) ≡ [] → Tells (f i x) fault → Tells (each f xs) fault
tells_at f xs i x (Bad fault) h e was here = first_at f xs i x fault h e was here
tells_at f xs i x NoMemory h e was here = tt

-- the faults of two lists, where the first has none, or has one
pub tells_second : (fs gs : List BadScript) (fault : CheckFault) → first fs ≡ None → Tells gs fault → Tells (fs ++ gs) fault
tells_second fs gs (Bad fault) none here = first_of_none fs gs none ∙ here
tells_second fs gs NoMemory none here = tt

pub tells_first : (fs gs : List BadScript) (fault : CheckFault) → Tells fs fault → Tells (fs ++ gs) fault
tells_first fs gs (Bad fault) here = first_of_some fs gs fault here
tells_first fs gs NoMemory here = tt

one_more : {A : Type 0} (bound : List Value → A → List Value) (values : List Value) (xs : List A) (i : ℕ) (x : A) → i < length xs → x ≡ get_or xs i x → values_behind bound values (take (suc i) xs) ≡ values_behind bound values (take i xs) ++ bound (values_behind bound values (take i xs)) x
one_more bound values [] i x h e = absurd (omega arith)
one_more bound values (y ∷ ys) zero x h e = ap (λ z. values ++ bound values z) (sym e)
one_more bound values (y ∷ ys) (suc i) x h e = one_more bound (values ++ bound values y) ys i x (omega arith) e

-- one more value
pub behind_more : {A : Type 0} (bound : List Value → A → List Value) (values now : List Value) (xs : List A) (i : ℕ) (x : A) (old : List Value) → i < length xs → x ≡ get_or xs i x → old ≡ values_behind bound values (take i xs) → now ≡ old ++ bound old x → now ≡ values_behind bound values (take (i + 1) xs)
behind_more bound values now xs i x old h e was is =
    is ∙ ap (λ vs. vs ++ bound vs x) was ∙ sym (one_more bound values xs i x h e) ∙ ap (λ n. values_behind bound values (take n xs)) (sym (add-one i))

-- the first fault of a part, of a command and of a session, by what the code has at hand
pub part_first : (parts : List Part) (i : ℕ) (x : Part) (front : List Part) (values : List Value) (y : Option BadScript) → first (faults x.places (item_marks (nat_le 4096 i) front values x.node)) ≡ y → front ≡ take i parts → values ≡ values_behind bound_by_part [] (take i parts) → first (part_faults parts i x) ≡ y
part_first parts i x front values y h e f =
    ap (λ l. first (faults x.places (item_marks (nat_le 4096 i) l (values_behind bound_by_part [] (take i parts)) x.node))) (sym e)
    ∙ ap (λ vs. first (faults x.places (item_marks (nat_le 4096 i) front vs x.node))) (sym f) ∙ h

pub command_first : (left : ℕ) (parts : List Part) (outer : List Value) (commands : List SessionCommand) (i : ℕ) (x : SessionCommand) (places : List Place) (own : ℕ) (values : List Value) (y : Option BadScript) → first (faults places (command_marks (scope (nat_le left i) parts own values) x.node)) ≡ y → places ≡ x.places → own ≡ length values - length outer → values ≡ values_behind bound_by_command outer (take i commands) → first (command_faults left parts outer commands i x) ≡ y
command_first left parts outer commands i x places own values y h p o e =
    ap (λ vs. first (faults x.places (command_marks (scope (nat_le left i) parts (length vs - length outer) vs) x.node))) (sym e)
    ∙ ap (λ n. first (faults x.places (command_marks (scope (nat_le left i) parts n values) x.node))) (sym o)
    ∙ ap (λ ps. first (faults ps (command_marks (scope (nat_le left i) parts own values) x.node))) (sym p) ∙ h

pub session_is : (parts : List Part) (outer : List Value) (sessions : List Session) (i : ℕ) (x : Session) (left : ℕ) (front : List Session) → front ≡ take i sessions → left ≡ commands_left parts (take i sessions) → one_session left parts outer front i x ≡ session_faults parts outer sessions i x
session_is parts outer sessions i x left front e f =
    ap (λ l. one_session left parts outer l i x) e ∙ ap (λ n. one_session n parts outer (take i sessions) i x) f

sum_more : {A : Type 0} (f : A → ℕ) (xs : List A) (i : ℕ) (x : A) → i < length xs → x ≡ get_or xs i x → sum_by f (take (suc i) xs) ≡ sum_by f (take i xs) + f x
sum_more f [] i x h e = absurd (omega arith)
sum_more f (y ∷ ys) zero x h e = let same : f x ≡ f y = ap f e in omega arith
sum_more f (y ∷ ys) (suc i) x h e =
    let more = sum_more f ys i x (omega arith) e in
    omega (arith, more, sum_by-cons f y (take (suc i) ys), sum_by-cons f y (take i ys))

-- how many commands may still come behind one more session
pub left_more : (parts : List Part) (sessions : List Session) (i : ℕ) (x : Session) (left count new : ℕ) → i < length sessions → x ≡ get_or sessions i x → left ≡ commands_left parts (take i sessions) → count ≡ length x.node.commands → new ≡ left - count → new ≡ commands_left parts (take (i + 1) sessions)
left_more parts sessions i x left count new h e was is here =
    let total : sum_by (λ s. length s.node.commands) (take (suc i) sessions) ≡ sum_by (λ s. length s.node.commands) (take i sessions) + length x.node.commands = sum_more (λ (s : Session). length s.node.commands) sessions i x h e in
    let all : new ≡ commands_left parts (take (suc i) sessions) = omega (arith, total) in
    all ∙ ap (λ n. commands_left parts (take n sessions)) (sym (add-one i))
