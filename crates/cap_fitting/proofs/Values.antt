-- Values behind lists of commands or parts, and references among more values.
use Rattle.std.proofs.Common.{◌≡◌, ℕ, List, [], ◌∷◌, ◌++◌, Bool, true, false, cond, None, Some, find, refl, ap, sym, ◌∙◌, append_assoc, append-nil}
use Rattle.std.specs.Prelude.{option_map, option_to_list}
use Rattle.cap_grammar.specs.declared.tree.RefTok.{RefTok}
use Rattle.cap_grammar.specs.declared.tree.Command.TheVariants.{Src}
use Rattle.cap_faults.specs.declared.values.Value.{Value}
use Rattle.cap_faults.specs.Commands.{value_of, is_value, end_of}
use Rattle.cap_faults.specs.Scripts.{values_behind}
use Rattle.cap_fitting.specs.Values.{bound_by}

-- behind two lists the values are those behind the second, where those behind the first are bound
pub values_append : {A : Type 0} (bound : List Value → A → List Value) (values : List Value) (xs ys : List A) → values_behind bound values (xs ++ ys) ≡ values_behind bound (values_behind bound values xs) ys
values_append bound values [] ys = refl
values_append bound values (x ∷ xs) ys = values_append bound (values ++ bound values x) xs ys

-- behind one element more they have at their end what it binds
pub values_push : {A : Type 0} (bound : List Value → A → List Value) (values : List Value) (before : List A) (x : A) → values_behind bound values (before ++ x ∷ []) ≡ values_behind bound values before ++ bound (values_behind bound values before) x
values_push bound values before x = values_append bound values before (x ∷ [])

-- all values that were bound before stand first
pub record Begins (values all : List Value) : Type 0 where
  pub own : List Value
  pub whole : all ≡ values ++ own

pub values_begin : {A : Type 0} (bound : List Value → A → List Value) (values : List Value) (xs : List A) → Begins values (values_behind bound values xs)
values_begin bound values [] = record { own = []; whole = sym (append-nil values) }
values_begin bound values (x ∷ xs) =
    let more = values_begin bound (values ++ bound values x) xs in
    record { own = bound values x ++ more.own; whole = more.whole ∙ append_assoc values (bound values x) more.own }

found_more : (p : Value → Bool) (v : Value) (xs ys : List Value) (w : Value) (b : Bool) → (find p xs ≡ Some w → find p (xs ++ ys) ≡ Some w) → cond b (Some v) (find p xs) ≡ Some w → cond b (Some v) (find p (xs ++ ys)) ≡ Some w
found_more p v xs ys w true rest e = e
found_more p v xs ys w false rest e = rest e

found_front : (p : Value → Bool) (xs ys : List Value) (w : Value) → find p xs ≡ Some w → find p (xs ++ ys) ≡ Some w
found_front p [] ys w e = absurd (cc)
found_front p (x ∷ xs) ys w e = found_more p x xs ys w (p x) (found_front p xs ys w) e

-- the value of a name stays the same when more are bound
pub value_stays : (values more : List Value) (name : List ℕ) (v : Value) → value_of values name ≡ Some v → value_of (values ++ more) name ≡ Some v
value_stays values more name v e = found_front (is_value name) values more v e

later : (p : Value → Bool) (v : Value) (xs ys : List Value) (b : Bool) → (find p xs ≡ None → find p (xs ++ ys) ≡ find p ys) → cond b (Some v) (find p xs) ≡ None → cond b (Some v) (find p (xs ++ ys)) ≡ find p ys
later p v xs ys true rest e = absurd (cc)
later p v xs ys false rest e = rest e

found_later : (p : Value → Bool) (xs ys : List Value) → find p xs ≡ None → find p (xs ++ ys) ≡ find p ys
found_later p [] ys e = refl
found_later p (x ∷ xs) ys e = later p x xs ys (p x) (found_later p xs ys) e

-- where a name was new, its value is found among those that are bound then
pub value_later : (values more : List Value) (name : List ℕ) → value_of values name ≡ None → value_of (values ++ more) name ≡ value_of more name
value_later values more name e = found_later (is_value name) values more e

-- the source or the target of a morphism that is there is one value more
pub end_bound : (O M : Type 0) (values : List Value) (x : List ℕ) (of : RefTok) (v : Value) → value_of values of.name ≡ Some v → bound_by {O = O} {M = M} values (Src x of) ≡ end_of x v ∷ []
end_bound O M values x of v e = ap (λ o. option_to_list (option_map (end_of x) o)) e
