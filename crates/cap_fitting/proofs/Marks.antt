-- A command whose marks are all free fits where it stands.
use Rattle.std.proofs.Common.{◌≡◌, ℕ, suc, ◌+◌, ◌≤◌, List, [], ◌∷◌, ◌++◌, length, Bool, true, false, not, ◌&&◌, ◌||◌, Option, None, Some, refl, ap, sym, ◌∙◌, subst, arith}
use Rattle.std.specs.Prelude.{is_some, nat_le, slice_get, unwrap_or}
use Rattle.std.specs.List.{All, list_any}
use Rattle.std.specs.Cmp.Lexicographic.{bytes_decides}
use Rattle.std.proofs.lemmas.Bool.{and_parts}
use Rattle.std.proofs.lemmas.List.Elements.{All-head, All-tail}
use Rattle.cap_names.specs.declared.reasons.Reason.TheVariants.{Known, Taken, Sort as SortReason, Limit}
use Rattle.cap_grammar.specs.declared.tree.RefTok.{RefTok}
use Rattle.cap_grammar.specs.declared.tree.ArgTok.{ArgTok}
use Rattle.cap_grammar.specs.declared.tree.ArgTok.TheVariants as argument
use Rattle.cap_grammar.specs.declared.tree.ObjTok.{ObjTok}
use Rattle.cap_grammar.specs.declared.tree.MorTok.{MorTok}
use Rattle.cap_grammar.specs.declared.tree.Over.{Over}
use Rattle.cap_grammar.specs.declared.tree.Command.{Command}
use Rattle.cap_grammar.specs.declared.tree.Command.TheVariants.{Register, Finalise, Plan, Object, Src, Tgt, Let, Call}
use Rattle.cap_ops.specs.declared.sorts.Sort.{Sort}
use Rattle.cap_ops.specs.declared.sorts.Sort.TheVariants.{Obj, Mor, Num, Truth, Tuple}
use Rattle.cap_ops.specs.Ends.{operation_arguments}
use Rattle.cap_ops.specs.Derivations.{IsWeight}
use Rattle.cap_block_faults.specs.Marks.{Mark, free, told, ◌or_else◌, each_from}
use Rattle.cap_block_faults.specs.Marks as marks
use Rattle.cap_block_faults.specs.Names.{same, has_category, over_of}
use Rattle.cap_block_faults.specs.Blocks.{signed}
use Rattle.cap_faults.specs.declared.values.Value.{Value}
use Rattle.cap_faults.specs.Commands.{is_value, value_of, new_name, is_object, is_morphism, has_part, object_ref, morphism_ref, any_ref, part_marks, ref_marks, ref_mark, arg_marks, arg_item, category_mark, object_literal, morphism_literal, weight_marks, binding, end_marks, given_morphism, given_call, args_marks, command_marks}
use Rattle.cap_faults.specs.Commands as given
use Rattle.cap_sound.proofs.Faults.{AllFree, free_front, free_rest, untold, neither, below}
use Rattle.cap_sound.proofs.Dimensions.{over_known, known}
use Rattle.cap_fitting.specs.Commands.{Scope, IsKnown, IsNew, HasPart, IsMorphism, RefersToObject, RefersToMorphism, RefersToAnyMorphism, ArgumentFits, ArgumentsFit, EndFits, MorphismFits, CommandFits}
use Rattle.cap_fitting.specs.Given.{IsShortArgument, IsWritten, scope_of}
use Rattle.cap_fitting.proofs.Lists.{none_found}

-- categories and new names
some_over : (s : Scope) (cat : List ℕ) (o : Option Over) → o ≡ s.over cat → (o ≡ None → ⊥) → IsKnown s cat
some_over s cat None e there = absurd (there refl)
some_over s cat (Some over) e there = record { over = over; known = sym e }

is_known : (s : given.Scope) (cat : List ℕ) → category_mark s.parts cat ≡ None → IsKnown (scope_of s) cat
is_known s cat f = some_over (scope_of s) cat (over_of s.parts cat) refl (over_known s.parts cat (known (has_category s.parts cat) (untold (not (has_category s.parts cat)) Known f)))

is_new : (s : given.Scope) (name : List ℕ) → new_name s.own s.values name ≡ None → IsNew (scope_of s) name
is_new s name f =
    let both = neither (told (nat_le 512 s.own) Limit) (told (list_any (is_value name) s.values) Taken) f in
    record { new = none_found (is_value name) s.values (untold (list_any (is_value name) s.values) Taken both.1); room = below 512 s.own Limit both.0 }

-- sorts and parts
object_sort : (s : Sort) → is_object s ≡ true → s ≡ Obj
object_sort Obj e = refl
object_sort Mor e = absurd (cc)
object_sort Num e = absurd (cc)
object_sort Truth e = absurd (cc)
object_sort (Tuple n) e = absurd (cc)

morphism_sort : (s : Sort) → is_morphism s ≡ true → s ≡ Mor
morphism_sort Obj e = absurd (cc)
morphism_sort Mor e = refl
morphism_sort Num e = absurd (cc)
morphism_sort Truth e = absurd (cc)
morphism_sort (Tuple n) e = absurd (cc)

no_part : (part : Option ℕ) → not (is_some part) ≡ true → part ≡ None
no_part None e = refl
no_part (Some i) e = absurd (cc)

within : (i n : ℕ) → (nat_le 1 i && nat_le i n) ≡ true → (1 ≤ i) × (i ≤ n)
within i n e = grind (arith, e)

part_there : (s : Sort) (i : ℕ) → has_part s i ≡ true → HasPart s i
part_there Obj i e = absurd (cc)
part_there Mor i e = absurd (cc)
part_there Num i e = absurd (cc)
part_there Truth i e = absurd (cc)
part_there (Tuple n) i e = let both = within i n e in record { parts = n; tuple = refl; first = both.0; last = both.1 }

morphism_at : (v : Value) (part : Option ℕ) → (is_some part || is_morphism v.sort) ≡ true → AllFree (part_marks (Some v) part) → IsMorphism v.sort part
morphism_at v None e f = morphism_sort v.sort e
morphism_at v (Some i) e f = part_there v.sort i (known (has_part v.sort i) (untold (not (has_part v.sort i)) SortReason f.1.0))

-- references
abbrev object_test : List ℕ → Option ℕ → Value → Bool
object_test cat part v = same v.cat cat && is_object v.sort && not (is_some part)

object_at : (values : List Value) (cat : List ℕ) (r : RefTok) (v : Option Value) → value_of values r.name ≡ v → object_ref cat r.part v ≡ None → RefersToObject values cat r
object_at values cat r None e f = absurd (cc)
object_at values cat r (Some v) e f =
    let test = known (object_test cat r.part v) (untold (not (object_test cat r.part v)) SortReason f) in
    let last = and_parts (same v.cat cat && is_object v.sort) (not (is_some r.part)) test in
    let both = and_parts (same v.cat cat) (is_object v.sort) last.0 in
    record { value = v; bound = e; category = (bytes_decides v.cat cat).0 both.0; object = object_sort v.sort both.1; whole = no_part r.part last.1 }

refers_to_object : (values : List Value) (cat : List ℕ) (r : RefTok) → AllFree (ref_marks values (object_ref cat) r) → RefersToObject values cat r
refers_to_object values cat r f = object_at values cat r (value_of values r.name) refl f.0

abbrev morphism_test : List ℕ → Option ℕ → Value → Bool
morphism_test cat part v = same v.cat cat && (is_some part || is_morphism v.sort)

morphism_in : (values : List Value) (cat : List ℕ) (r : RefTok) (v : Option Value) → value_of values r.name ≡ v → morphism_ref cat r.part v ≡ None → AllFree (part_marks v r.part) → RefersToMorphism values cat r
morphism_in values cat r None e f g = absurd (cc)
morphism_in values cat r (Some v) e f g =
    let test = known (morphism_test cat r.part v) (untold (not (morphism_test cat r.part v)) SortReason f) in
    let both = and_parts (same v.cat cat) (is_some r.part || is_morphism v.sort) test in
    record { value = v; bound = e; category = (bytes_decides v.cat cat).0 both.0; morphism = morphism_at v r.part both.1 g }

refers_to_morphism : (values : List Value) (cat : List ℕ) (r : RefTok) → AllFree (ref_marks values (morphism_ref cat) r) → RefersToMorphism values cat r
refers_to_morphism values cat r f = morphism_in values cat r (value_of values r.name) refl f.0 f.1

any_morphism_at : (values : List Value) (r : RefTok) (v : Option Value) → value_of values r.name ≡ v → any_ref r.part v ≡ None → AllFree (part_marks v r.part) → RefersToAnyMorphism values r
any_morphism_at values r None e f g = absurd (cc)
any_morphism_at values r (Some v) e f g =
    record { value = v; bound = e; morphism = morphism_at v r.part (known (is_some r.part || is_morphism v.sort) (untold (not (is_some r.part || is_morphism v.sort)) SortReason f)) g }

refers_to_any : (values : List Value) (r : RefTok) → AllFree (ref_marks values any_ref r) → RefersToAnyMorphism values r
refers_to_any values r f = any_morphism_at values r (value_of values r.name) refl f.0 f.1

-- where no value may stand there is a mark
nothing_there : (v : Option Value) → given.no_ref v ≡ None → ⊥
nothing_there None e = cc
nothing_there (Some v) e = cc

first_free : (minus : Bool) (m : Mark) → AllFree (signed minus m) → m ≡ None
first_free true m f = f.0
first_free false m f = f.0

no_integer : (minus : Bool) → AllFree (signed minus (Some SortReason)) → ⊥
no_integer minus f = let e = first_free minus (Some SortReason) f in cc

-- arguments
no_argument : (values : List Value) (cat : List ℕ) (a : ArgTok) → AllFree (arg_marks values cat None a) → ⊥
no_argument values cat (argument.Ref r) f = nothing_there (value_of values r.name) f.0
no_argument values cat (argument.Int i) f = no_integer i.minus f

argument_fits : (values : List Value) (cat : List ℕ) (sort : Sort) (a : ArgTok) → AllFree (arg_marks values cat (Some sort) a) → IsShortArgument a → ArgumentFits values cat sort a
argument_fits values cat Obj (argument.Ref r) f h = refers_to_object values cat r f
argument_fits values cat Mor (argument.Ref r) f h = refers_to_morphism values cat r f
argument_fits values cat Num (argument.Ref r) f h = nothing_there (value_of values r.name) f.0
argument_fits values cat Truth (argument.Ref r) f h = nothing_there (value_of values r.name) f.0
argument_fits values cat (Tuple n) (argument.Ref r) f h = nothing_there (value_of values r.name) f.0
argument_fits values cat Obj (argument.Int i) f h = no_integer i.minus f
argument_fits values cat Mor (argument.Int i) f h = no_integer i.minus f
argument_fits values cat Num (argument.Int i) f h = h
argument_fits values cat Truth (argument.Int i) f h = no_integer i.minus f
argument_fits values cat (Tuple n) (argument.Int i) f h = no_integer i.minus f

abbrev arg_at : List Value → List ℕ → List Sort → ℕ → ArgTok → List Mark
arg_at values cat wanted i a = arg_marks values cat (slice_get wanted i) a

-- from the argument of this number on
arguments_from : (values : List Value) (cat : List ℕ) (wanted : List Sort) (i : ℕ) (sorts : List Sort) (args : List ArgTok) → ((k : ℕ) → slice_get wanted (i + k) ≡ slice_get sorts k)
    → AllFree (each_from (arg_at values cat wanted) i args) → is_some (slice_get wanted (i + length args)) ≡ false → All IsShortArgument args → ArgumentsFit values cat sorts args
arguments_from values cat wanted i [] [] at f last h = tt
arguments_from values cat wanted i (s ∷ sorts) [] at f last h = absurd (let e : is_some (Some s) ≡ false = ap is_some (sym (at 0)) ∙ last in cc)
arguments_from values cat wanted i [] (a ∷ args) at f last h =
    let here : i + 0 ≡ i = omega arith in
    let none : slice_get wanted i ≡ None = ap (slice_get wanted) (sym here) ∙ at 0 in
    absurd (no_argument values cat a (subst (λ o. AllFree (arg_marks values cat o a)) none (free_front (arg_at values cat wanted i a) (each_from (arg_at values cat wanted) (suc i) args) f)))
arguments_from values cat wanted i (s ∷ sorts) (a ∷ args) at f last h =
    let here : i + 0 ≡ i = omega arith in
    let one : slice_get wanted i ≡ Some s = ap (slice_get wanted) (sym here) ∙ at 0 in
    let next : suc i + length args ≡ i + length (a ∷ args) = omega arith in (
      argument_fits values cat s a (subst (λ o. AllFree (arg_marks values cat o a)) one (free_front (arg_at values cat wanted i a) (each_from (arg_at values cat wanted) (suc i) args) f)) (All-head IsShortArgument a args h),
      arguments_from values cat wanted (suc i) sorts args (λ k. let m : suc i + k ≡ i + suc k = omega arith in ap (slice_get wanted) m ∙ at (suc k))
          (free_rest (arg_at values cat wanted i a) (each_from (arg_at values cat wanted) (suc i) args) f) (ap (λ n. is_some (slice_get wanted n)) next ∙ last) (All-tail IsShortArgument a args h),
    )

arguments_fit : (values : List Value) (cat : List ℕ) (op : ℕ) (args : List ArgTok) → AllFree (args_marks values cat op args) → All IsShortArgument args → ArgumentsFit values cat (operation_arguments op) args
arguments_fit values cat op args f h =
    let wanted = operation_arguments op in
    let all = marks.each (arg_item values cat op) args in
    let enough = told (is_some (slice_get wanted (length args))) SortReason in
    let here : length args ≡ 0 + length args = omega arith in
    arguments_from values cat wanted 0 wanted args (λ k. let m : 0 + k ≡ k = omega arith in ap (slice_get wanted) m) (free_front all (enough ∷ []) f)
    (ap (λ n. is_some (slice_get wanted n)) (sym here) ∙ untold (is_some (slice_get wanted (length args))) SortReason (free_rest all (enough ∷ []) f).0) h

-- weights
passed : (w : ℕ) → not (nat_le 1 w && nat_le w 1000000) ≡ false → (1 ≤ w) × (w ≤ 1000000)
passed w e = grind (arith, e)

a_weight : (w : ℕ) → (1 ≤ w) × (w ≤ 1000000) → IsWeight (Some w)
a_weight w h = record { from = λ n e. let same = ap (λ o. unwrap_or o 0) e in omega (arith, h.0, same); to = λ n e. let same = ap (λ o. unwrap_or o 0) e in omega (arith, h.1, same) }

weight_fits : (weight : Option ℕ) → AllFree (weight_marks weight) → IsWeight weight
weight_fits None f = record { from = λ n e. absurd (cc); to = λ n e. absurd (cc) }
weight_fits (Some w) f = a_weight w (passed w (untold (not (nat_le 1 w && nat_le w 1000000)) Limit f.0))

-- commands
let_fits : (s : given.Scope) (x cat : List ℕ) (src tgt : RefTok) (lit : MorTok) → AllFree (binding s x ++ given_morphism s cat src tgt lit) → MorphismFits (scope_of s) cat x src tgt
let_fits s x cat src tgt lit f =
    let own = f.1.1.1 in
    let target = ref_marks s.values (object_ref cat) tgt in
    let literal = morphism_literal s.parts (over_of s.parts cat) lit in
    let source = ref_marks s.values (object_ref cat) src in
    record {
      category = is_known s cat own.0;
      name = is_new s x f.1.0;
      source = refers_to_object s.values cat src (free_front source (free ∷ (target ++ literal)) own.1);
      target = refers_to_object s.values cat tgt (free_front target literal (free_rest source (free ∷ (target ++ literal)) own.1).1);
    }

end_fits : (s : given.Scope) (x : List ℕ) (of : RefTok) → AllFree (end_marks s x of) → EndFits (scope_of s) x of
end_fits s x of f = record { name = is_new s x f.1.0; morphism = refers_to_any s.values of f.1.1.1.1 }

pub command_fits : (s : given.Scope) (c : Command ObjTok MorTok) → IsWritten c → AllFree (command_marks s c) → CommandFits (scope_of s) c
command_fits s (Register cat op weight) w f = record { category = is_known s cat f.1.0; operation = w; range = weight_fits weight f.1.1.1 }
command_fits s (Finalise cat) w f = is_known s cat f.1.0
command_fits s (Plan cat) w f = is_known s cat f.1.0
command_fits s (Object cat x lit) w f = record { category = is_known s cat f.1.0; name = is_new s x f.1.1.0 }
command_fits s (Src x of) w f = end_fits s x of f
command_fits s (Tgt x of) w f = end_fits s x of f
command_fits s (Let x cat src tgt lit) w f = let_fits s x cat src tgt lit f
command_fits s (Call x cat op args) w f =
    let own = f.1.1.1 in
    record { category = is_known s cat own.0; name = is_new s x f.1.0; operation = w.0; arguments = arguments_fit s.values cat op.0 args own.1.1 w.1 }

-- a command whose marks are free is not one too many
pub not_full : (s : given.Scope) (c : Command ObjTok MorTok) → AllFree (command_marks s c) → s.full ≡ false
not_full s (Register cat op weight) f = untold s.full Limit f.0
not_full s (Finalise cat) f = untold s.full Limit f.0
not_full s (Plan cat) f = untold s.full Limit f.0
not_full s (Object cat x lit) f = untold s.full Limit f.0
not_full s (Src x of) f = untold s.full Limit f.0
not_full s (Tgt x of) f = untold s.full Limit f.0
not_full s (Let x cat src tgt lit) f = untold s.full Limit f.0
not_full s (Call x cat op args) f = untold s.full Limit f.0
