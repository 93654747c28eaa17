-- What holds of a history stays as it grows by a legal entry.
use Rattle.std.proofs.Common.{◌≡◌, ℕ, zero, suc, ◌+◌, ◌-◌, ◌≤◌, Bool, true, false, List, [], ◌∷◌, ◌++◌, ◌⊎◌, Option, Some, None, length, sym, subst, ◌∙◌, ap, refl, arith, inl, inr, append_assoc}
use Rattle.std.specs.Prelude.{slice_set, if◌then◌else◌, ◌==◌, IsSome}
use Rattle.std.specs.List.{All, Contains, slice_index_or}
use Rattle.std.proofs.lemmas.List.Elements.{Contains-push, Contains-push_cases, All-contains, All-nil, All-set}
use Rattle.std.proofs.lemmas.List.FromFn.{get_or-map-range_with_len}
use Rattle.cap_names.specs.declared.identifiers.Handle.{Handle}
use Rattle.cap_names.specs.declared.identifiers.OpId.{OpId}
use Rattle.cap_ops.specs.declared.keys.Key.{Key}
use Rattle.cap_ops.specs.declared.keys.Value.{Value as Answer}
use Rattle.cap_ops.specs.declared.plans.Plan.{Plan}
use Rattle.cap_ops.specs.declared.plans.TheConstants.{MOST_WEIGHT}
use Rattle.cap_ops.specs.Derivations.{IsWeight, IsPlan, means}
use Rattle.cap_ops.specs.Ends.{IsOperation}
use Rattle.cap_ops.specs.Primitives.{OfferData}
use Rattle.cap_ops.specs.Told.{AreObjects, StaysTold, told_in}
use Rattle.cap_ops.proofs.Places.{none≢some, some_inner}
use Rattle.cap_terms.specs.declared.body.Rule.{Rule}
use Rattle.cap_run.specs.Plans.{costs_of, IsPlanOf}
use Rattle.cap_run.specs.Puts.{Good}
use Rattle.cap_run.proofs.Puts.{good-stays, put-good}
use Rattle.cap_history.specs.declared.entries.Event.{Event}
use Rattle.cap_history.specs.declared.entries.Event.TheVariants.{Register, Finalise, Declare, Ask, Put, PlanOf}
use Rattle.cap_history.specs.declared.entries.Reply.{Reply}
use Rattle.cap_history.specs.declared.entries.Reply.TheVariants.{Done, Final, Object, Hit, Kept, Found}
use Rattle.cap_history.specs.declared.entries.Entry.{Entry}
use Rattle.cap_history.specs.declared.reading.Keeping.{Keeping}
use Rattle.cap_history.specs.Reading.{weight_at, registered, weights, final_by, objects, keeping, kept, more_objects}
use Rattle.cap_history.specs.Replies.{IsFinal, IsKept, IsNewKey, Replies}
use Rattle.cap_history.proofs.OneMore.{final-stays}
use Rattle.cap_legal.specs.Legal.{setup_of, TrueEvent}
use Rattle.cap_legal.specs.Good.{TellsValue, ValueAt, IsGoodValue, IsPlannedBefore}
use Rattle.cap_legal.proofs.Values.{get-apart, get-single, objects-told}

-- the objects that are told are the category's
abbrev pub ToldObjects : {O M : Type 0} → OfferData O M → (Handle → Option O) → Type 0
ToldObjects {O} D told = (h : Handle) (o : O) → told h ≡ Some o → D.category.is_object o

-- what holds of a history: registered primitives are offered and their weights in range; the plan is that of the registrations before it; objects are the category's; kept values are good, one for a key; and each value that is told is kept
pub record Sound {O M : Type 0} (D : OfferData O M) (rules : List Rule) (entries : List (Entry O M)) : Type 0 where
  pub offered : (op n : ℕ) → slice_index_or (weights entries) op None ≡ Some n → IsSome (D.weight (op + 1))
  pub ranged : All IsWeight (weights entries)
  pub planned : (at : ℕ) (p : Plan) → IsFinal entries at p → IsPlannedBefore D rules entries at p × IsPlanOf D rules p
  pub objects : ToldObjects D (told_in (objects entries))
  pub kept : (key : Key M) (v : Answer M) → IsKept entries key v → IsGoodValue D rules entries key v
  pub once : (key : Key M) (v w : Answer M) → IsKept entries key v → IsKept entries key w → v ≡ w
  pub values : (place : ℕ) (key : Key M) (v : Answer M) → ValueAt entries place key v → IsKept entries key v

pub none-in : {A : Type 0} (x : A) → Contains [] x → ⊥
none-in x h = All-contains (λ _. ⊥) [] x (All-nil (λ _. ⊥)) h

-- the weight at a place of a list with one weight set
at-set : (ws : List (Option ℕ)) (i j : ℕ) (w : Option ℕ) (n : ℕ) → slice_index_or (slice_set ws i w) j None ≡ Some n → ((j ≡ i) × (w ≡ Some n)) ⊎ (slice_index_or ws j None ≡ Some n)
at-set [] i j w n e = inr e
at-set (x ∷ ws) zero zero w n e = inl (refl, e)
at-set (x ∷ ws) zero (suc j) w n e = inr e
at-set (x ∷ ws) (suc i) zero w n e = inr e
at-set (x ∷ ws) (suc i) (suc j) w n e = elim (at-set ws i j w n e) [ inl h ↦ inl (ap suc h.0, h.1) | inr h ↦ inr h ]

-- the setup offers what the category offers
offered-at : {O M : Type 0} (D : OfferData O M) (rules : List Rule) (op : OpId) → IsOperation op.0 → weight_at (setup_of D rules).offered.weights op ≡ D.weight op.0
offered-at D rules op is = get_or-map-range_with_len D.weight 1 44 (op.0 - 1) op.0 None (omega (arith, is.0, is.1)) (omega (arith, is.0))

module _ {O M : Type 0} (D : OfferData O M) (rules : List Rule) where
  -- registered primitives stay offered
  pub offered-next : (entries : List (Entry O M)) (event : Event O M) (reply : Reply O M) → Replies (setup_of D rules) entries event reply → TrueEvent D rules entries event
      → ((op n : ℕ) → slice_index_or (weights entries) op None ≡ Some n → IsSome (D.weight (op + 1)))
      → (op n : ℕ) → slice_index_or (registered (weights entries) event reply) op None ≡ Some n → IsSome (D.weight (op + 1))
  offered-next entries (Register op weight) Done r t old j n e = elim (at-set (weights entries) (op.0 - 1) j (Some weight) n e) [
    | inl h ↦ (let same : op.0 ≡ j + 1 = omega (arith, h.0, t.operation.0) in subst (λ k. IsSome (D.weight k)) same (subst IsSome (offered-at D rules op t.operation) r.1))
    | inr h ↦ old j n h
  ]
  offered-next entries _ _ r t old j n e = old j n e

  -- weights stay in range
  pub ranged-next : (entries : List (Entry O M)) (event : Event O M) (reply : Reply O M) → TrueEvent D rules entries event → All IsWeight (weights entries) → All IsWeight (registered (weights entries) event reply)
  ranged-next entries (Register op weight) Done t old = All-set IsWeight (weights entries) (op.0 - 1) (Some weight) (record { from = λ n e. subst (λ k. 1 ≤ k) (some_inner e) t.from; to = λ n e. subst (λ k. k ≤ MOST_WEIGHT) (some_inner e) t.to }) old
  ranged-next entries _ _ t old = old

  -- objects stay the category's
  chosen-told : (all : List O) (b : Bool) (object : O) → D.category.is_object object → ToldObjects D (told_in all) → ToldObjects D (told_in (all ++ (if b then object ∷ [] else [])))
  chosen-told all true object is old h o e = elim (get-apart all (object ∷ []) h.0 o e) [ inl f ↦ old h o f | inr f ↦ subst D.category.is_object (get-single object f.0 o f.2).1 is ]
  chosen-told all false object is old h o e = elim (get-apart all [] h.0 o e) [ inl f ↦ old h o f | inr f ↦ absurd (none≢some f.2) ]

  nothing-told : (all : List O) → ToldObjects D (told_in all) → ToldObjects D (told_in (all ++ []))
  nothing-told all old h o e = elim (get-apart all [] h.0 o e) [ inl f ↦ old h o f | inr f ↦ absurd (none≢some f.2) ]

  fresh-told : (all fresh : List O) → AreObjects D.category fresh → ToldObjects D (told_in all) → ToldObjects D (told_in (all ++ fresh))
  fresh-told all fresh are old h o e = elim (get-apart all fresh h.0 o e) [ inl f ↦ old h o f | inr f ↦ objects-told D.category fresh are f.0 o f.2 ]

  pub objects-next : (entries : List (Entry O M)) (event : Event O M) (reply : Reply O M) → TrueEvent D rules entries event → ToldObjects D (told_in (objects entries)) → ToldObjects D (told_in (more_objects (objects entries) event reply))
  objects-next entries (Declare name object) (Object h) t old = chosen-told (objects entries) (h.0 == length (objects entries)) object t old
  objects-next entries (Put key out) (Kept told) t old = fresh-told (objects entries) out.fresh t.is.fresh_objects old
  objects-next entries _ _ t old = nothing-told (objects entries) old

  -- what is kept stays good
  pub good-next : (entries more : List (Entry O M)) (key : Key M) (v : Answer M) → StaysTold (told_in (objects entries)) (told_in (objects (entries ++ more))) → IsGoodValue D rules entries key v → IsGoodValue D rules (entries ++ more) key v
  good-next entries more key v stays g = record {
    at = g.at;
    p = g.p;
    final = record { is = final-stays entries more (record { at = g.at; plan = g.p }) g.final.is };
    is_plan = g.is_plan;
    good = good-stays D rules g.p (told_in (objects entries)) (told_in (objects (entries ++ more))) key.op.0 key.args v stays g.good;
  }

  -- a key that an entry newly keeps was not kept before, and its value is good
  pub record IsNewly (entries : List (Entry O M)) (all : List O) (k : Keeping M) : Type 0 where
    pub at : ℕ
    pub p : Plan
    pub final : IsFinal entries at p
    pub good : Good D rules p (told_in all) k.key.op.0 k.key.args k.value
    pub new : IsNewKey entries k.key

  pub newly : (entries : List (Entry O M)) (event : Event O M) (reply : Reply O M) → Replies (setup_of D rules) entries event reply → TrueEvent D rules entries event
      → (k : Keeping M) → Contains (keeping event reply) k → IsNewly entries (more_objects (objects entries) event reply) k
  newly entries (Put key out) (Kept t) r true_event k h = elim (Contains-push_cases [] (record { key = key; value = t.value }) k h) [
    | inl none ↦ absurd (none-in k none)
    | inr same ↦ subst (IsNewly entries (objects entries ++ out.fresh)) same (record {
      at = true_event.at;
      p = true_event.p;
      final = true_event.final;
      good = subst (Good D rules true_event.p (told_in (objects entries ++ out.fresh)) key.op.0 key.args) (sym r.1) (put-good D rules true_event.p (objects entries) key.op.0 key.args out true_event.is);
      new = r.0;
    })
  ]
  newly entries _ _ r true_event k h = absurd (none-in k h)

  -- each value that an entry tells was kept before, or is kept by it
  pub tells-kept-value : (entries : List (Entry O M)) (event : Event O M) (reply : Reply O M) → Replies (setup_of D rules) entries event reply → (key : Key M) (v : Answer M) → TellsValue event reply key v
      → Contains (kept entries) (record { key = key; value = v }) ⊎ Contains (keeping event reply) (record { key = key; value = v })
  tells-kept-value entries (Ask k) (Hit t) r key v h = inl (subst (λ x. IsKept entries x v) h.0 (subst (IsKept entries k) h.1 r.1))
  tells-kept-value entries (Put k out) (Found t) r key v h = inl (subst (λ x. IsKept entries x v) h.0 (subst (IsKept entries k) h.1 r.0))
  tells-kept-value entries (Put k out) (Kept t) r key v h = inr (subst (λ x. Contains (record { key = k; value = t.value } ∷ []) x) (let same : record { key = k; value = t.value } ≡ record { key = key; value = v } = cc (h.0, h.1) in same) (Contains-push [] (record { key = k; value = t.value })))
  tells-kept-value entries _ _ r key v h = absurd h

  -- the plan that a first finalisation tells
  pub first-plan : (entries : List (Entry O M)) (event : Event O M) (reply : Reply O M) → Replies (setup_of D rules) entries event reply → (at : ℕ) (p : Plan) → final_by (length entries) reply None ≡ Some (record { at = at; plan = p })
      → (length entries ≡ at) × IsPlan (means (record { weights = weights entries }) (costs_of rules) D.kind) p
  first-plan entries Finalise (Final q) r at p e =
      let same : record { at = length entries; plan = q } ≡ record { at = at; plan = p } = some_inner e in
      (ap (λ f. f.at) same, subst (IsPlan (means (record { weights = weights entries }) (costs_of rules) D.kind)) (ap (λ f. f.plan) same) r.1)
  first-plan entries (Register op weight) (Final q) r at p e = absurd r
  first-plan entries (Declare name object) (Final q) r at p e = absurd r
  first-plan entries (Ask key) (Final q) r at p e = absurd r
  first-plan entries (Put key out) (Final q) r at p e = absurd r
  first-plan entries PlanOf (Final q) r at p e = absurd r
  first-plan entries _ _ r at p e = absurd (none≢some e)

  pub planned-longer : (entries more : List (Entry O M)) (at : ℕ) (p : Plan) → IsPlannedBefore D rules entries at p → IsPlannedBefore D rules (entries ++ more) at p
  planned-longer entries more at p b = record {
    before = b.before;
    entry = b.entry;
    after = b.after ++ more;
    splits = ap (λ es. es ++ more) b.splits ∙ append_assoc b.before (b.entry ∷ b.after) more;
    place = b.place;
    is_plan = b.is_plan;
    lower = b.lower;
  }
