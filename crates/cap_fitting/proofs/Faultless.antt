-- A command that fits, with a literal without faults, has no mark.
use Rattle.std.proofs.Common.{◌≡◌, ℕ, suc, ◌+◌, ◌<◌, ◌≤◌, List, [], ◌∷◌, ◌++◌, length, Bool, true, false, not, ◌&&◌, ◌||◌, cond, Option, None, Some, find, refl, ap, sym, ◌∙◌, subst, arith}
use Rattle.std.specs.Prelude.{is_some, nat_le, slice_get}
use Rattle.std.specs.List.{All, list_any}
use Rattle.std.specs.Cmp.Lexicographic.{bytes_decides}
use Rattle.std.proofs.lemmas.List.Elements.{All-nil, All-cons, All-head, All-tail}
use Rattle.cap_names.specs.declared.reasons.Reason.{Reason}
use Rattle.cap_names.specs.declared.reasons.Reason.TheVariants.{Known, Taken, Sort as SortReason, Limit}
use Rattle.cap_grammar.specs.declared.tree.RefTok.{RefTok}
use Rattle.cap_grammar.specs.declared.tree.ArgTok.{ArgTok}
use Rattle.cap_grammar.specs.declared.tree.ArgTok.TheVariants as argument
use Rattle.cap_grammar.specs.declared.tree.ObjTok.{ObjTok}
use Rattle.cap_grammar.specs.declared.tree.MorTok.{MorTok}
use Rattle.cap_grammar.specs.declared.tree.Over.{Over}
use Rattle.cap_grammar.specs.declared.tree.Command.{Command}
use Rattle.cap_grammar.specs.declared.tree.Command.TheVariants.{Register, Finalise, Plan, Object, Src, Tgt, Let, Call}
use Rattle.cap_ops.specs.declared.sorts.Sort.{Sort}
use Rattle.cap_ops.specs.declared.sorts.Sort.TheVariants.{Obj, Mor, Num, Truth, Tuple}
use Rattle.cap_ops.specs.Ends.{operation_arguments}
use Rattle.cap_ops.specs.Derivations.{IsWeight}
use Rattle.cap_block_faults.specs.Marks.{Mark, free, told, ◌or_else◌, each_from}
use Rattle.cap_block_faults.specs.Marks as marks
use Rattle.cap_block_faults.specs.Names.{Part, same, is_category_named, has_category, over_in, found, over_of}
use Rattle.cap_block_faults.specs.Blocks.{signed}
use Rattle.cap_faults.specs.declared.values.Value.{Value}
use Rattle.cap_faults.specs.Commands.{is_value, value_of, new_name, is_object, is_morphism, has_part, object_ref, morphism_ref, any_ref, part_marks, ref_marks, arg_marks, arg_item, category_mark, object_literal, morphism_literal, weight_marks, binding, given_morphism, args_marks, command_marks}
use Rattle.cap_faults.specs.Commands as given
use Rattle.cap_sound.proofs.Faults.{AllFree, free_rest}
use Rattle.cap_fitting.specs.Commands.{IsKnown, IsNew, IsMorphism, RefersToObject, RefersToMorphism, RefersToAnyMorphism, ArgumentFits, ArgumentsFit, CommandFits}
use Rattle.cap_fitting.specs.Given.{scope_of, literal_marks}
use Rattle.cap_fitting.specs.Laws.{GivenAreWritten, FreeWhereFaultless}
use Rattle.cap_fitting.proofs.Texts.{part_written, session_text, command_written_at}
use Rattle.cap_fitting.proofs.Marks.{command_fits, not_full}

-- all are free
pub all_free : (ms : List Mark) → All (λ m. m ≡ None) ms → AllFree ms
all_free [] h = tt
all_free (m ∷ ms) h = (All-head (λ m. m ≡ None) m ms h, all_free ms (All-tail (λ m. m ≡ None) m ms h))

pub free_all : (ms : List Mark) → AllFree ms → All (λ m. m ≡ None) ms
free_all [] h = All-nil (λ m. m ≡ None)
free_all (m ∷ ms) h = All-cons (λ m. m ≡ None) m ms h.0 (free_all ms h.1)

pub both_free : (a b : List Mark) → AllFree a → AllFree b → AllFree (a ++ b)
both_free [] b h k = k
both_free (m ∷ a) b h k = (h.0, both_free a b h.1 k)

pub not_told : (b : Bool) (r : Reason) → b ≡ false → told b r ≡ None
not_told true r e = absurd (cc)
not_told false r e = refl

-- a test that passes
pub passes : (b : Bool) (r : Reason) → b ≡ true → told (not b) r ≡ None
passes true r e = refl
passes false r e = absurd (cc)

neither_told : (a b : Mark) → a ≡ None → b ≡ None → a or_else b ≡ None
neither_told None b e f = f
neither_told (Some r) b e f = absurd (cc)

-- categories
has_first : (p : Part) (ps : List Part) (name : List ℕ) (over : Over) (b : Bool) → (over_of ps name ≡ Some over → has_category ps name ≡ true)
    → found over_in None (cond b (Some p) (find (is_category_named name) ps)) ≡ Some over → (b || has_category ps name) ≡ true
has_first p ps name over true rest e = refl
has_first p ps name over false rest e = rest e

has_over : (ps : List Part) (name : List ℕ) (over : Over) → over_of ps name ≡ Some over → has_category ps name ≡ true
has_over [] name over e = absurd (cc)
has_over (p ∷ ps) name over e = has_first p ps name over (is_category_named name p) (has_over ps name over) e

known_free : (s : given.Scope) (cat : List ℕ) → IsKnown (scope_of s) cat → category_mark s.parts cat ≡ None
known_free s cat h = passes (has_category s.parts cat) Known (has_over s.parts cat h.over h.known)

-- new names
none_first : (p : Value → Bool) (v : Value) (vs : List Value) (b : Bool) → (find p vs ≡ None → list_any p vs ≡ false) → cond b (Some v) (find p vs) ≡ None → (b || list_any p vs) ≡ false
none_first p v vs true rest e = absurd (cc)
none_first p v vs false rest e = rest e

none_any : (p : Value → Bool) (vs : List Value) → find p vs ≡ None → list_any p vs ≡ false
none_any p [] e = refl
none_any p (v ∷ vs) e = none_first p v vs (p v) (none_any p vs) e

pub below_free : (n m : ℕ) → m < n → nat_le n m ≡ false
below_free n m h = grind (arith, h)

new_free : (s : given.Scope) (name : List ℕ) → IsNew (scope_of s) name → new_name s.own s.values name ≡ None
new_free s name h =
    neither_told (told (nat_le 512 s.own) Limit) (told (list_any (is_value name) s.values) Taken)
    (not_told (nat_le 512 s.own) Limit (below_free 512 s.own h.room)) (not_told (list_any (is_value name) s.values) Taken (none_any (is_value name) s.values h.new))

-- references
both_true : (a b : Bool) → a ≡ true → b ≡ true → (a && b) ≡ true
both_true true true e f = refl
both_true true false e f = absurd (cc)
both_true false b e f = absurd (cc)

object_free : (values : List Value) (cat : List ℕ) (r : RefTok) → RefersToObject values cat r → AllFree (ref_marks values (object_ref cat) r)
object_free values cat r h =
    let v = h.value in
    let kind = both_true (same v.cat cat) (is_object v.sort) ((bytes_decides v.cat cat).1 h.category) (ap is_object h.object) in
    let test = passes (same v.cat cat && is_object v.sort && true) SortReason (both_true (same v.cat cat && is_object v.sort) true kind refl) in
    let whole : AllFree (object_ref cat None (Some v) ∷ part_marks (Some v) None) = (test, tt) in
    subst (λ o. AllFree (object_ref cat r.part o ∷ part_marks o r.part)) (sym h.bound)
    (subst (λ part. AllFree (object_ref cat part (Some v) ∷ part_marks (Some v) part)) (sym h.whole) whole)

in_range : (i n : ℕ) → 1 ≤ i → i ≤ n → (nat_le 1 i && nat_le i n) ≡ true
in_range i n h k = grind (arith, h, k)

part_free : (v : Value) (part : Option ℕ) → IsMorphism v.sort part → AllFree (part_marks (Some v) part)
part_free v None h = tt
part_free v (Some i) h =
    let there : has_part v.sort i ≡ true = ap (λ sort. has_part sort i) h.tuple ∙ in_range i h.parts h.first h.last in
    (refl, (passes (has_part v.sort i) SortReason there, tt))

morphism_there : (sort : Sort) (part : Option ℕ) → IsMorphism sort part → (is_some part || is_morphism sort) ≡ true
morphism_there sort None h = ap is_morphism h
morphism_there sort (Some i) h = refl

morphism_free : (values : List Value) (cat : List ℕ) (r : RefTok) → RefersToMorphism values cat r → AllFree (ref_marks values (morphism_ref cat) r)
morphism_free values cat r h =
    let v = h.value in
    let test = both_true (same v.cat cat) (is_some r.part || is_morphism v.sort) ((bytes_decides v.cat cat).1 h.category) (morphism_there v.sort r.part h.morphism) in
    subst (λ o. AllFree (morphism_ref cat r.part o ∷ part_marks o r.part)) (sym h.bound)
    (passes (same v.cat cat && (is_some r.part || is_morphism v.sort)) SortReason test, part_free v r.part h.morphism)

any_free : (values : List Value) (r : RefTok) → RefersToAnyMorphism values r → AllFree (ref_marks values any_ref r)
any_free values r h =
    let v = h.value in
    subst (λ o. AllFree (any_ref r.part o ∷ part_marks o r.part)) (sym h.bound)
    (passes (is_some r.part || is_morphism v.sort) SortReason (morphism_there v.sort r.part h.morphism), part_free v r.part h.morphism)

-- arguments
signed_free : (minus : Bool) → AllFree (signed minus None)
signed_free true = (refl, (refl, tt))
signed_free false = (refl, tt)

argument_free : (values : List Value) (cat : List ℕ) (sort : Sort) (a : ArgTok) → ArgumentFits values cat sort a → AllFree (arg_marks values cat (Some sort) a)
argument_free values cat Obj (argument.Ref r) h = object_free values cat r h
argument_free values cat Mor (argument.Ref r) h = morphism_free values cat r h
argument_free values cat Num (argument.Ref r) h = absurd h
argument_free values cat Truth (argument.Ref r) h = absurd h
argument_free values cat (Tuple n) (argument.Ref r) h = absurd h
argument_free values cat Obj (argument.Int i) h = absurd h
argument_free values cat Mor (argument.Int i) h = absurd h
argument_free values cat Num (argument.Int i) h = signed_free i.minus
argument_free values cat Truth (argument.Int i) h = absurd h
argument_free values cat (Tuple n) (argument.Int i) h = absurd h

abbrev arg_at : List Value → List ℕ → List Sort → ℕ → ArgTok → List Mark
arg_at values cat wanted i a = arg_marks values cat (slice_get wanted i) a

pub record FreeFrom (values : List Value) (cat : List ℕ) (wanted : List Sort) (i : ℕ) (args : List ArgTok) : Type 0 where
  pub each : AllFree (each_from (arg_at values cat wanted) i args)
  pub last : is_some (slice_get wanted (i + length args)) ≡ false

arguments_free : (values : List Value) (cat : List ℕ) (wanted : List Sort) (i : ℕ) (sorts : List Sort) (args : List ArgTok) → ((k : ℕ) → slice_get wanted (i + k) ≡ slice_get sorts k)
    → ArgumentsFit values cat sorts args → FreeFrom values cat wanted i args
arguments_free values cat wanted i [] [] at h = record { each = tt; last = ap is_some (at 0) }
arguments_free values cat wanted i (s ∷ sorts) [] at h = absurd h
arguments_free values cat wanted i [] (a ∷ args) at h = absurd h
arguments_free values cat wanted i (s ∷ sorts) (a ∷ args) at h =
    let here : i + 0 ≡ i = omega arith in
    let one : slice_get wanted i ≡ Some s = ap (slice_get wanted) (sym here) ∙ at 0 in
    let next : suc i + length args ≡ i + length (a ∷ args) = omega arith in
    let more = arguments_free values cat wanted (suc i) sorts args (λ k. let m : suc i + k ≡ i + suc k = omega arith in ap (slice_get wanted) m ∙ at (suc k)) h.1 in
    record {
      each = both_free (arg_at values cat wanted i a) (each_from (arg_at values cat wanted) (suc i) args) (subst (λ o. AllFree (arg_marks values cat o a)) (sym one) (argument_free values cat s a h.0)) more.each;
      last = ap (λ n. is_some (slice_get wanted n)) (sym next) ∙ more.last;
    }

args_free : (values : List Value) (cat : List ℕ) (op : ℕ) (args : List ArgTok) → ArgumentsFit values cat (operation_arguments op) args → AllFree (args_marks values cat op args)
args_free values cat op args h =
    let wanted = operation_arguments op in
    let all = arguments_free values cat wanted 0 wanted args (λ k. let m : 0 + k ≡ k = omega arith in ap (slice_get wanted) m) h in
    let here : length args ≡ 0 + length args = omega arith in
    both_free (marks.each (arg_item values cat op) args) (told (is_some (slice_get wanted (length args))) SortReason ∷ []) all.each
    (not_told (is_some (slice_get wanted (length args))) SortReason (ap (λ n. is_some (slice_get wanted n)) here ∙ all.last), tt)

-- weights
weight_passes : (w : ℕ) → 1 ≤ w → w ≤ 1000000 → (nat_le 1 w && nat_le w 1000000) ≡ true
weight_passes w h k = grind (arith, h, k)

weight_free : (weight : Option ℕ) → IsWeight weight → AllFree (weight_marks weight)
weight_free None h = tt
weight_free (Some w) h = (passes (nat_le 1 w && nat_le w 1000000) Limit (weight_passes w (h.from w refl) (h.to w refl)), tt)

-- commands
room_free : (s : given.Scope) → s.full ≡ false → told s.full Limit ≡ None
room_free s e = not_told s.full Limit e

pub free_command : (s : given.Scope) (c : Command ObjTok MorTok) → s.full ≡ false → CommandFits (scope_of s) c → AllFree (literal_marks s.parts c) → AllFree (command_marks s c)
free_command s (Register cat op weight) e h l = (room_free s e, (known_free s cat h.category, (refl, weight_free weight h.range)))
free_command s (Finalise cat) e h l = (room_free s e, (known_free s cat h, tt))
free_command s (Plan cat) e h l = (room_free s e, (known_free s cat h, tt))
free_command s (Object cat x lit) e h l = (room_free s e, (known_free s cat h.category, (new_free s x h.name, (refl, l))))
free_command s (Src x of) e h l = (room_free s e, (new_free s x h.name, (refl, (refl, any_free s.values of h.morphism))))
free_command s (Tgt x of) e h l = (room_free s e, (new_free s x h.name, (refl, (refl, any_free s.values of h.morphism))))
free_command s (Let x cat src tgt lit) e h l =
    let source = ref_marks s.values (object_ref cat) src in
    let target = ref_marks s.values (object_ref cat) tgt in
    let literal = morphism_literal s.parts (over_of s.parts cat) lit in
    let ends = both_free source (free ∷ (target ++ literal)) (object_free s.values cat src h.source) (refl, both_free target literal (object_free s.values cat tgt h.target) l) in
    (room_free s e, (new_free s x h.name, (refl, (known_free s cat h.category, ends))))
free_command s (Call x cat op args) e h l = (room_free s e, (new_free s x h.name, (refl, (known_free s cat h.category, (refl, args_free s.values cat op.0 args h.arguments)))))

pub literal_free : (s : given.Scope) (c : Command ObjTok MorTok) → AllFree (command_marks s c) → AllFree (literal_marks s.parts c)
literal_free s (Register cat op weight) f = tt
literal_free s (Finalise cat) f = tt
literal_free s (Plan cat) f = tt
literal_free s (Object cat x lit) f = f.1.1.1.1
literal_free s (Src x of) f = tt
literal_free s (Tgt x of) f = tt
literal_free s (Let x cat src tgt lit) f =
    let own = f.1.1.1 in
    let source = ref_marks s.values (object_ref cat) src in
    let target = ref_marks s.values (object_ref cat) tgt in
    let literal = morphism_literal s.parts (over_of s.parts cat) lit in
    free_rest target literal (free_rest source (free ∷ (target ++ literal)) own.1).1
literal_free s (Call x cat op args) f = tt

pub free_where_faultless : FreeWhereFaultless
free_where_faultless s c written = (
  λ all. let f = all_free (command_marks s c) all in record { room = not_full s c f; fits = command_fits s c written f; literal = free_all (literal_marks s.parts c) (literal_free s c f) },
  λ h. free_all (command_marks s c) (free_command s c h.room h.fits (all_free (literal_marks s.parts c) h.literal)),
)

pub given_are_written : GivenAreWritten
given_are_written s given = record {
  prelude = part_written s given;
  sessions = λ before behind x e. command_written_at x (session_text s given before behind x e);
}
