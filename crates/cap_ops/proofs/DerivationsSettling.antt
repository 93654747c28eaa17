-- To settle the lightest operation changes no bound that was settled.
use Rattle.std.proofs.Common.{◌≡◌, ◌≢◌, ℕ, ◌+◌, ◌*◌, ◌<◌, ◌≤◌, List, [], ◌∷◌, length, set, get_or, slice_index, sym, ◌∙◌, arith, suc, zero, ◌⊎◌, inl, inr, Bool, true, false, cond, Option, Some, None, get_or-set_same, get_or-set_other, length-set}
use Rattle.std.specs.List.{All, slice_index_or}
use Rattle.std.proofs.lemmas.Nat.{mul-le}
use Rattle.std.proofs.lemmas.List.Elements.{All-head, All-tail}
use Rattle.cap_ops.specs.Derivations.{Means, IsCost, weight_by, charge, leads_to, ways_by_rule, first_way, ways, lesser, lightest}
use Rattle.cap_ops.proofs.DerivationsWays.{lesser-left, lesser-right, lesser-is, lightest-capped}
use Rattle.cap_ops.proofs.DerivationsBounds.{lt_or_le}
use Rattle.cap_ops.specs.declared.plans.RuleCost.{RuleCost}
use Rattle.cap_ops.specs.declared.plans.Kind.{Kind}
use Rattle.cap_ops.specs.declared.plans.Choice.{Choice}
use Rattle.cap_ops.specs.declared.plans.Choice.TheVariants.{Prim, Rule}
use Rattle.cap_ops.specs.declared.plans.TheConstants.{NO_PLAN}

-- new is at most old, and where it is less it is still above w
pub record Falls (w old new : ℕ) : Type 0 where
  pub down : new ≤ old
  pub above : (old ≤ new) ⊎ (w < new)

-- the sum, where a bound falls to w
pub record FallsTo (w old new : ℕ) : Type 0 where
  pub down : new ≤ old
  pub above : (old ≤ new) ⊎ (w ≤ new)

one_falls : (w x n rest : ℕ) → w ≤ x → FallsTo w (n * x + rest) (n * w + rest)
one_falls w x zero rest h = record { down = omega arith; above = inl (omega arith) }
one_falls w x (suc n) rest h = let k : suc n * w ≤ suc n * x = mul-le (suc n) w (suc n) x (omega arith) h in record { down = omega arith; above = inr (omega arith) }

more_falls : (w a old new : ℕ) → FallsTo w old new → FallsTo w (a + old) (a + new)
more_falls w a old new f = record { down = omega arith; above = elim f.above [ inl h ↦ inl (omega (arith, h)) | inr h ↦ inr (omega (arith, h)) ] }

pub charge_falls : (w : ℕ) (counts bounds : List ℕ) (op : ℕ) → op < length bounds → w ≤ slice_index bounds op → FallsTo w (charge counts bounds) (charge counts (set bounds op w))
charge_falls w [] bounds op inside h = record { down = omega arith; above = inl (omega arith) }
charge_falls w (count ∷ counts) [] op inside h = absurd (omega (arith, inside))
charge_falls w (count ∷ counts) (x ∷ xs) zero inside h = one_falls w x count (charge counts xs) h
charge_falls w (count ∷ counts) (x ∷ xs) (suc op) inside h = more_falls w (count * x) (charge counts xs) (charge counts (set xs op w)) (charge_falls w counts xs op (omega (arith, inside)) h)

weight_falls : (w own old new : ℕ) → 1 ≤ own → FallsTo w old new → Falls w (own + old) (own + new)
weight_falls w own old new one f = record { down = omega arith; above = elim f.above [ inl h ↦ inl (omega (arith, h)) | inr h ↦ inr (omega (arith, h, one)) ] }

lesser_falls : (w a b c d : ℕ) → Falls w a c → Falls w b d → Falls w (lesser a b) (lesser c d)
lesser_falls w a b c d f g = record {
  down = elim (lesser-is a b) [
    | inl e ↦ omega (arith, e, lesser-left c d, f.down)
    | inr e ↦ omega (arith, e, lesser-right c d, g.down)
  ];
  above = elim (lesser-is c d) [
    | inl e ↦ elim f.above [ inl h ↦ inl (omega (arith, e, h, lesser-left a b)) | inr h ↦ inr (omega (arith, e, h)) ]
    | inr e ↦ elim g.above [ inl h ↦ inl (omega (arith, e, h, lesser-right a b)) | inr h ↦ inr (omega (arith, e, h)) ]
  ];
}

same_falls : (w a : ℕ) → Falls w a a
same_falls w a = record { down = omega arith; above = inl (omega arith) }

cond_falls : (w : ℕ) (b : Bool) (x y : ℕ) (c d : Choice) (old new : List (ℕ × Choice)) → Falls w x y → Falls w (lightest old) (lightest new) → Falls w (lightest (cond b ((x, c) ∷ old) old)) (lightest (cond b ((y, d) ∷ new) new))
cond_falls w true x y c d old new f g = lesser_falls w x (lightest old) y (lightest new) f g
cond_falls w false x y c d old new f g = g

pub rules_fall : (w : ℕ) (kind : Kind) (bounds : List ℕ) (at op : ℕ) (rules : List RuleCost) → at < length bounds → w ≤ slice_index bounds at → All IsCost rules → Falls w (lightest (ways_by_rule kind bounds op rules)) (lightest (ways_by_rule kind (set bounds at w) op rules))
rules_fall w kind bounds at op [] inside h costs = same_falls w NO_PLAN
rules_fall w kind bounds at op (rule ∷ rules) inside h costs =
    let cost : IsCost rule = All-head IsCost rule rules costs in
    cond_falls w (leads_to kind op rule) (weight_by bounds rule) (weight_by (set bounds at w) rule) (Rule rule.no) (Rule rule.no) (ways_by_rule kind bounds op rules) (ways_by_rule kind (set bounds at w) op rules)
    (weight_falls w rule.own (charge rule.calls bounds) (charge rule.calls (set bounds at w)) cost.own_from (charge_falls w rule.calls bounds at inside h))
    (rules_fall w kind bounds at op rules inside h (All-tail IsCost rule rules costs))

first_falls : (w : ℕ) (o : Option ℕ) (old new : List (ℕ × Choice)) → Falls w (lightest old) (lightest new) → Falls w (lightest (first_way o old)) (lightest (first_way o new))
first_falls w None old new f = f
first_falls w (Some n) old new f = lesser_falls w n (lightest old) n (lightest new) (same_falls w n) f

pub ways_fall : (m : Means) (w : ℕ) (bounds : List ℕ) (at op : ℕ) → at < length bounds → w ≤ slice_index bounds at → All IsCost m.rules → Falls w (lightest (ways m bounds op)) (lightest (ways m (set bounds at w) op))
ways_fall m w bounds at op inside h costs = first_falls w (slice_index_or m.weights op None) (ways_by_rule m.kind bounds op m.rules) (ways_by_rule m.kind (set bounds at w) op m.rules) (rules_fall w m.kind bounds at op m.rules inside h costs)

-- what is settled has its lightest way, at most level, and no way to another is lighter than level
pub record IsSettled (m : Means) (bounds : List ℕ) (level : ℕ) : Type 0 where
  pub settled : (op : ℕ) → op < length bounds → slice_index bounds op < NO_PLAN → (slice_index bounds op ≡ lightest (ways m bounds op)) × (slice_index bounds op ≤ level)
  pub others : (op : ℕ) → op < length bounds → NO_PLAN ≤ slice_index bounds op → level ≤ lightest (ways m bounds op)

equal_or_not : (a b : ℕ) → (a ≡ b) ⊎ (a ≢ b)
equal_or_not a b = elim (lt_or_le a b) [ inl h ↦ inr (λ e. omega (arith, h, e)) | inr h ↦ elim (lt_or_le b a) [ inl k ↦ inr (λ e. omega (arith, k, e)) | inr k ↦ inl (omega (arith, h, k)) ] ]

same_where_low : (w old new : ℕ) → Falls w old new → old ≤ w → new ≡ old
same_where_low w old new f h = elim f.above [ inl k ↦ omega (arith, f.down, k) | inr k ↦ absurd (omega (arith, f.down, k, h)) ]

high_where_high : (w old new : ℕ) → Falls w old new → w ≤ old → w ≤ new
high_where_high w old new f h = elim f.above [ inl k ↦ omega (arith, k, h) | inr k ↦ omega (arith, k) ]

-- the lightest of those that are left is settled next
pub settle_next : (m : Means) (bounds : List ℕ) (level at : ℕ) → All IsCost m.rules → IsSettled m bounds level → at < length bounds → NO_PLAN ≤ slice_index bounds at → lightest (ways m bounds at) < NO_PLAN
    → ((op : ℕ) → op < length bounds → NO_PLAN ≤ slice_index bounds op → lightest (ways m bounds at) ≤ lightest (ways m bounds op))
    → IsSettled m (set bounds at (lightest (ways m bounds at))) (lightest (ways m bounds at))
settle_next m bounds level at costs is inside left some least =
    let w = lightest (ways m bounds at) in
    let fall : (op : ℕ) → Falls w (lightest (ways m bounds op)) (lightest (ways m (set bounds at w) op)) = λ op. ways_fall m w bounds at op inside (omega arith) costs in
    record {
      settled = λ op h small. elim (equal_or_not op at) [
        | inl e ↦ rw e (rw (get_or-set_same bounds at w 0 inside) (sym (same_where_low w w (lightest (ways m (set bounds at w) at)) (fall at) (omega arith)), omega arith))
        | inr d ↦ (let here : op < length bounds = omega (arith, h, length-set {A = ℕ}) in
            let same : get_or (set bounds at w) op 0 ≡ get_or bounds op 0 = get_or-set_other bounds at op w 0 d in
            let s : (slice_index bounds op ≡ lightest (ways m bounds op)) × (slice_index bounds op ≤ level) = is.settled op here (omega (arith, small, same)) in
            let low : slice_index bounds op ≤ w = omega (arith, s.1, is.others at inside left) in
            (same ∙ (s.0 ∙ sym (same_where_low w (lightest (ways m bounds op)) (lightest (ways m (set bounds at w) op)) (fall op) (omega (arith, s.0, low)))), omega (arith, same, low)))
      ];
      others = λ op h big. elim (equal_or_not op at) [
        | inl e ↦ absurd (omega (arith, big, rw e at big, some, get_or-set_same bounds at w 0 inside))
        | inr d ↦ high_where_high w (lightest (ways m bounds op)) (lightest (ways m (set bounds at w) op)) (fall op) (least op (omega (arith, h, length-set {A = ℕ})) (omega (arith, big, get_or-set_other bounds at op w 0 d)))
      ];
    }

-- where no way to the others is left, every line holds
pub settled_all : (m : Means) (bounds : List ℕ) (level : ℕ) → IsSettled m bounds level → All (λ b. b ≤ NO_PLAN) bounds
    → ((op : ℕ) → op < length bounds → NO_PLAN ≤ slice_index bounds op → NO_PLAN ≤ lightest (ways m bounds op)) → (op : ℕ) → op < length bounds → slice_index bounds op ≡ lightest (ways m bounds op)
settled_all m bounds level is capped none op inside = elim (lt_or_le (slice_index bounds op) NO_PLAN) [
  | inl h ↦ (is.settled op inside h).0
  | inr h ↦ omega (arith, none op inside h, capped op 0 inside, lightest-capped (ways m bounds op))
]
