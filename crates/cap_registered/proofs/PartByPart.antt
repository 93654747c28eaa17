-- What one more part registers.
use Rattle.std.proofs.Common.{◌≡◌, ℕ, Bool, true, false, cond, List, [], ◌∷◌, ◌++◌, Option, Some, None, refl, sym, ap, ◌∙◌}
use Rattle.std.specs.Prelude.{◌||◌, not, option_to_list}
use Rattle.std.specs.List.{before_first, list_any, filter_map}
use Rattle.std.proofs.lemmas.List.{append-nil}
use Rattle.std.proofs.lemmas.List.Sums.{take_while-cons}
use Rattle.std.proofs.lemmas.List.Elements.{filter_map-append}
use Rattle.cap_names.specs.declared.identifiers.OpId.{OpId}
use Rattle.cap_check.specs.Unbuilt.{CheckedPart}
use Rattle.cap_ops.specs.declared.plans.Kind.{Kind}
use Rattle.cap_ops.specs.Offered.{offered_weight}
use Rattle.cap_names.specs.declared.literals.MorLit.{MorLit}
use Rattle.cap_grammar.specs.declared.tree.Command.{Command}
use Rattle.cap_grammar.specs.declared.tree.Command.TheVariants.{Register, Finalise, Plan, Object, Src, Tgt, Let, Call}
use Rattle.cap_grammar.specs.declared.tree.Item.{Item}
use Rattle.cap_grammar.specs.declared.tree.Item.TheVariants as top
use Rattle.cap_checked.specs.declared.tree.CheckedObj.{CheckedObj}
use Rattle.cap_registered.specs.Registrations.{is_finalise, asked, finalises, before_final, registration, weight_among, registered_weight}
use Rattle.cap_registered.specs.Laws.{is_final, weight_behind, GoesPartByPart}
use Rattle.cap_registered.proofs.Asks.{one_of, among_more, among_none}

turned : {X : Type 0} (b : Bool) (ys : List X) → cond (not b) ys [] ≡ cond b [] ys
turned true ys = refl
turned false ys = refl

-- what stands before the first that passes, when one more element stands in front
step_before : {X : Type 0} (f : X → Bool) (x : X) (xs : List X) → before_first f (x ∷ xs) ≡ cond (f x) [] (x ∷ before_first f xs)
step_before f x xs = take_while-cons (λ y. not (f y)) x xs ∙ turned (f x) (x ∷ before_first f xs)

under : {X : Type 0} (b rest : Bool) (x : X) (front all last : List X) → cond b [] (x ∷ cond rest front (all ++ last)) ≡ cond (b || rest) (cond b [] (x ∷ front)) ((x ∷ all) ++ last)
under true rest x front all last = refl
under false true x front all last = refl
under false false x front all last = refl

pub before_push : {X : Type 0} (f : X → Bool) (xs : List X) (y : X) → before_first f (xs ++ y ∷ []) ≡ cond (list_any f xs) (before_first f xs) (xs ++ cond (f y) [] (y ∷ []))
before_push f [] y = step_before f y []
before_push f (x ∷ xs) y =
    step_before f x (xs ++ y ∷ [])
    ∙ ap (λ ys. cond (f x) [] (x ∷ ys)) (before_push f xs y)
    ∙ under (f x) (list_any f xs) x (before_first f xs) xs (cond (f y) [] (y ∷ []))
    ∙ ap (λ ys. cond (f x || list_any f xs) ys ((x ∷ xs) ++ cond (f y) [] (y ∷ []))) (sym (step_before f x xs))

none_passes : (a b : Bool) → (a || b) ≡ false → (a ≡ false) × (b ≡ false)
none_passes true b h = absurd (cc (h))
none_passes false b h = (refl, h)

-- all of them, where none passes
before_none : {X : Type 0} (f : X → Bool) (xs : List X) → list_any f xs ≡ false → before_first f xs ≡ xs
before_none f [] h = refl
before_none f (x ∷ xs) h =
    let both = none_passes (f x) (list_any f xs) h in
    step_before f x xs ∙ ap (λ b. cond b [] (x ∷ before_first f xs)) both.0 ∙ ap (λ ys. x ∷ ys) (before_none f xs both.1)

-- a command that makes a category final asks for nothing
final_command : (name : List ℕ) (c : Command CheckedObj MorLit) → is_finalise name c ≡ true → asked name c ≡ None
final_command name (Register cat op weight) h = absurd (cc (h))
final_command name (Finalise cat) h = refl
final_command name (Plan cat) h = refl
final_command name (Object cat x lit) h = refl
final_command name (Src x of) h = refl
final_command name (Tgt x of) h = refl
final_command name (Let x cat src tgt lit) h = refl
final_command name (Call x cat op args) h = refl

final_part : (name : List ℕ) (item : Item CheckedObj MorLit) → finalises name item ≡ true → registration name item ≡ None
final_part name (top.Block b) h = refl
final_part name (top.Category n o) h = refl
final_part name (top.Command c) h = final_command name c h

-- what the part asks for, where it is no `finalise`
own_asks : (name : List ℕ) (p : CheckedPart) (final : Bool) → finalises name p.node ≡ final → filter_map (λ q. registration name q.node) (cond final [] (p ∷ [])) ≡ option_to_list (registration name p.node)
own_asks name p true h = sym (ap option_to_list (final_part name p.node h))
own_asks name p false h = one_of (registration name p.node)

behind_final : (o : Option (OpId × Option ℕ)) (op : ℕ) (default before : Option ℕ) → before ≡ weight_behind true o op default before
behind_final None op default before = refl
behind_final (Some ask) op default before = refl

before_it : (kind : Kind) (asks : List (OpId × Option ℕ)) (o : Option (OpId × Option ℕ)) (op : ℕ) → weight_among kind (asks ++ option_to_list o) op ≡ weight_behind false o op (offered_weight kind op) (weight_among kind asks op)
before_it kind asks None op = ap (λ all. weight_among kind all op) (append-nil asks)
before_it kind asks (Some ask) op = among_more kind asks ask op

next_part : (kind : Kind) (name : List ℕ) (op : ℕ) (parts : List CheckedPart) (p : CheckedPart) (final : Bool) → is_final name parts ≡ final → registered_weight kind name (parts ++ p ∷ []) op ≡ weight_behind final (registration name p.node) op (offered_weight kind op) (registered_weight kind name parts op)
next_part kind name op parts p true e =
    let f : CheckedPart → Bool = λ q. finalises name q.node in
    let same : before_final name (parts ++ p ∷ []) ≡ before_final name parts =
    before_push f parts p ∙ ap (λ b. cond b (before_first f parts) (parts ++ cond (f p) [] (p ∷ []))) e in
    ap (λ qs. weight_among kind (filter_map (λ q. registration name q.node) qs) op) same
    ∙ behind_final (registration name p.node) op (offered_weight kind op) (registered_weight kind name parts op)
next_part kind name op parts p false e =
    let f : CheckedPart → Bool = λ q. finalises name q.node in
    let g : CheckedPart → Option (OpId × Option ℕ) = λ q. registration name q.node in
    let more : before_final name (parts ++ p ∷ []) ≡ parts ++ cond (f p) [] (p ∷ []) =
    before_push f parts p ∙ ap (λ b. cond b (before_first f parts) (parts ++ cond (f p) [] (p ∷ []))) e in
    let asks : filter_map g (parts ++ cond (f p) [] (p ∷ [])) ≡ filter_map g parts ++ option_to_list (g p) =
    filter_map-append g parts (cond (f p) [] (p ∷ [])) ∙ ap (λ own. filter_map g parts ++ own) (own_asks name p (f p) refl) in
    let all : before_final name parts ≡ parts = before_none f parts e in
    ap (λ qs. weight_among kind (filter_map g qs) op) more
    ∙ ap (λ own. weight_among kind own op) asks
    ∙ before_it kind (filter_map g parts) (g p) op
    ∙ ap (λ qs. weight_behind false (g p) op (offered_weight kind op) (weight_among kind (filter_map g qs) op)) (sym all)

pub part_by_part : (kind : Kind) (name : List ℕ) (op : ℕ) → GoesPartByPart kind name op
part_by_part kind name op = record {
  first = among_none kind op;
  next = λ parts p. next_part kind name op parts p (is_final name parts) refl;
}
