-- The registered weights of a category are one for each operation, and in range.
use Rattle.std.proofs.Common.{◌≡◌, ℕ, ◌+◌, ◌<◌, List, [], ◌∷◌, length, Bool, true, false, cond, Option, Some, None, refl, sym, subst, arith}
use Rattle.std.specs.Prelude.{unwrap_or, option_map, option_and_then, find, ◌==◌}
use Rattle.std.specs.List.{All, filter_map, cons_option, position_or_len}
use Rattle.std.proofs.lemmas.List.Elements.{All-nil, All-cons, All-head, All-tail, All-take}
use Rattle.std.proofs.lemmas.List.FromFn.{get_or-map-range_with_len, length-map-range_with_len}
use Rattle.cap_names.specs.declared.identifiers.OpId.{OpId}
use Rattle.cap_names.specs.declared.literals.MorLit.{MorLit}
use Rattle.cap_grammar.specs.declared.tree.Command.{Command}
use Rattle.cap_grammar.specs.declared.tree.Command.TheVariants.{Register, Finalise, Plan, Object, Src, Tgt, Let, Call}
use Rattle.cap_grammar.specs.declared.tree.Item.{Item}
use Rattle.cap_grammar.specs.declared.tree.Item.TheVariants as top
use Rattle.cap_block_faults.specs.Names.{same}
use Rattle.cap_checked.specs.declared.tree.CheckedObj.{CheckedObj}
use Rattle.cap_check.specs.Unbuilt.{CheckedPart}
use Rattle.cap_ops.specs.declared.plans.Kind.{Kind}
use Rattle.cap_ops.specs.declared.plans.TheConstants.{OPERATIONS}
use Rattle.cap_ops.specs.Offered.{offered_weight}
use Rattle.cap_ops.specs.Derivations.{IsWeight}
use Rattle.cap_sound.specs.Weights.{written, written_weight, AreRanged}
use Rattle.cap_registered.specs.Registrations.{finalises, before_final, asked, registration, registrations, first_for, registered_weight, registered_weights}
use Rattle.cap_registered.proofs.Offers.{offers_ranged}

no_weight : IsWeight None
no_weight = record { from = λ n e. absurd (cc (e)); to = λ n e. absurd (cc (e)) }

-- a weight that is asked for is in range, where it is written
abbrev IsAsk : (OpId × Option ℕ) → Type 0
IsAsk ask = IsWeight ask.1

one_ask : (b : Bool) (ask : OpId × Option ℕ) (asks : List (OpId × Option ℕ)) → IsAsk ask → All IsAsk asks → All IsAsk (cons_option (cond b (Some ask) None) asks)
one_ask true ask asks h k = All-cons IsAsk ask asks h k
one_ask false ask asks h k = k

command_asks : (name : List ℕ) (c : Command CheckedObj MorLit) (asks : List (OpId × Option ℕ)) → IsWeight (written c) → All IsAsk asks → All IsAsk (cons_option (asked name c) asks)
command_asks name (Register cat op weight) asks h k = one_ask (same cat name) (op, weight) asks h k
command_asks name (Finalise cat) asks h k = k
command_asks name (Plan cat) asks h k = k
command_asks name (Object cat x lit) asks h k = k
command_asks name (Src x of) asks h k = k
command_asks name (Tgt x of) asks h k = k
command_asks name (Let x cat src tgt lit) asks h k = k
command_asks name (Call x cat op args) asks h k = k

item_asks : (name : List ℕ) (n : Item CheckedObj MorLit) (asks : List (OpId × Option ℕ)) → IsWeight (written_weight n) → All IsAsk asks → All IsAsk (cons_option (registration name n) asks)
item_asks name (top.Block b) asks h k = k
item_asks name (top.Category n o) asks h k = k
item_asks name (top.Command c) asks h k = command_asks name c asks h k

abbrev IsRanged : CheckedPart → Type 0
IsRanged p = IsWeight (written_weight p.node)

parts_ask : (name : List ℕ) (xs : List CheckedPart) → All IsRanged xs → All IsAsk (filter_map (λ p. registration name p.node) xs)
parts_ask name [] h = All-nil IsAsk
parts_ask name (x ∷ xs) h = item_asks name x.node (filter_map (λ p. registration name p.node) xs) (All-head IsRanged x xs h) (parts_ask name xs (All-tail IsRanged x xs h))

registrations_ask : (name : List ℕ) (parts : List CheckedPart) → AreRanged parts → All IsAsk (registrations name parts)
registrations_ask name parts h = parts_ask name (before_final name parts) (All-take IsRanged (position_or_len (λ p. finalises name p.node) parts) parts h)

-- the written weight, or the default
written_or : (weight : Option ℕ) (default : ℕ) → IsWeight weight → IsWeight (Some default) → IsWeight (Some (unwrap_or weight default))
written_or None default h d = d
written_or (Some n) default h d = h

abbrev of_first : ℕ → Option (OpId × Option ℕ) → Option ℕ
of_first default first = option_map (λ ask. unwrap_or ask.1 default) first

one_first : (b : Bool) (ask : OpId × Option ℕ) (later : Option (OpId × Option ℕ)) (default : ℕ) → IsAsk ask → IsWeight (Some default) → IsWeight (of_first default later) → IsWeight (of_first default (cond b (Some ask) later))
one_first true ask later default h d k = written_or ask.1 default h d
one_first false ask later default h d k = k

first_ranged : (test : (OpId × Option ℕ) → Bool) (asks : List (OpId × Option ℕ)) (default : ℕ) → All IsAsk asks → IsWeight (Some default) → IsWeight (of_first default (find test asks))
first_ranged test [] default h d = no_weight
first_ranged test (ask ∷ asks) default h d =
    one_first (test ask) ask (find test asks) default (All-head IsAsk ask asks h) d (first_ranged test asks default (All-tail IsAsk ask asks h) d)

offered_ranged : (offer : Option ℕ) (op : ℕ) (asks : List (OpId × Option ℕ)) → All IsAsk asks → IsWeight offer → IsWeight (option_and_then (λ default. option_map (λ ask. unwrap_or ask.1 default) (first_for op asks)) offer)
offered_ranged None op asks h d = no_weight
offered_ranged (Some default) op asks h d = first_ranged (λ ask. ask.0.0 == op) asks default h d

offer_ranged : (kind : Kind) (k op : ℕ) → k < 44 → 1 + k ≡ op → IsWeight (offered_weight kind op)
offer_ranged kind k op inside at =
    let long = length-map-range_with_len (offered_weight kind) 1 44 in
    subst IsWeight (get_or-map-range_with_len (offered_weight kind) 1 44 k op None inside at) (offers_ranged kind k None (omega (arith, inside, long)))

pub weights_long : (kind : Kind) (name : List ℕ) (parts : List CheckedPart) → length (registered_weights kind name parts) ≡ OPERATIONS
unfolding registered_weights
weights_long kind name parts = length-map-range_with_len (registered_weight kind name parts) 1 44

pub weights_ranged : (kind : Kind) (name : List ℕ) (parts : List CheckedPart) → AreRanged parts → All IsWeight (registered_weights kind name parts)
unfolding registered_weights
weights_ranged kind name parts h k d lt =
    let long = length-map-range_with_len (registered_weight kind name parts) 1 44 in
    let inside : k < 44 = omega (arith, lt, long) in
    subst IsWeight (sym (get_or-map-range_with_len (registered_weight kind name parts) 1 44 k (1 + k) d inside refl))
    (offered_ranged (offered_weight kind (1 + k)) (1 + k) (registrations name parts) (registrations_ask name parts h) (offer_ranged kind k (1 + k) inside refl))
