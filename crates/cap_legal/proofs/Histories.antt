-- A legal history is good.
use Rattle.std.proofs.Common.{append_assoc, ◌≡◌, ℕ, zero, suc, ◌+◌, List, [], ◌∷◌, ◌++◌, ◌⊎◌, Option, Some, None, length, sym, subst, ◌∙◌, ap, refl, inl, inr}
use Rattle.std.specs.Prelude.{replicate, IsSome}
use Rattle.std.specs.List.{All, Contains, slice_index_or}
use Rattle.std.proofs.lemmas.List.{append-nil}
use Rattle.std.proofs.lemmas.List.Elements.{Contains-append_left, Contains-append_right, Contains-append_cases, Contains-push_cases, All-replicate}
use Rattle.cap_ops.specs.declared.keys.Key.{Key}
use Rattle.cap_ops.specs.declared.keys.Value.{Value as Answer}
use Rattle.cap_ops.specs.declared.plans.Plan.{Plan}
use Rattle.cap_ops.specs.Derivations.{IsWeight, IsPlan, means}
use Rattle.cap_ops.specs.Primitives.{OfferData}
use Rattle.cap_ops.proofs.DerivationsPlans.{plan_below}
use Rattle.cap_ops.proofs.Places.{none≢some, some_inner}
use Rattle.cap_terms.specs.declared.body.Rule.{Rule}
use Rattle.cap_run.specs.Plans.{costs_of, AreRules, IsPlanOf}
use Rattle.cap_run.specs.Puts.{Good}
use Rattle.cap_settle.proofs.Fitting.{told-more}
use Rattle.cap_ops.specs.Told.{StaysTold, told_in}
use Rattle.cap_history.specs.declared.entries.Event.{Event}
use Rattle.cap_history.specs.declared.entries.Event.TheVariants.{Put}
use Rattle.cap_history.specs.declared.entries.Reply.{Reply}
use Rattle.cap_history.specs.declared.entries.Reply.TheVariants.{Kept}
use Rattle.cap_history.specs.declared.entries.Entry.{Entry}
use Rattle.cap_history.specs.declared.reading.Finality.{Finality}
use Rattle.cap_history.specs.declared.reading.Keeping.{Keeping}
use Rattle.cap_history.specs.Reading.{registered, weights, finality, brought, more_objects, objects, keeping, kept}
use Rattle.cap_history.specs.Replies.{IsFinal, IsKept, Replies}
use Rattle.cap_history.proofs.OneMore.{read-more, final-stays, open-next}
use Rattle.cap_legal.specs.Legal.{Frame, setup_of, TrueEvent, LegalBehind, Legal}
use Rattle.cap_legal.specs.Good.{TellsValue, ValueAt, IsGoodValue, IsPlannedBefore, LegalIsGood}
use Rattle.cap_legal.proofs.Values.{get-apart, get-single}
use Rattle.cap_legal.proofs.Steps.{ToldObjects, Sound, offered-next, ranged-next, objects-next, good-next, newly, IsNewly, tells-kept-value, first-plan, planned-longer, none-in}

module _ {O M : Type 0} (D : OfferData O M) (rules : List Rule) (are : AreRules rules) where
  -- the plan of registrations of offered primitives
  plan-of : (entries : List (Entry O M)) (p : Plan) → ((op n : ℕ) → slice_index_or (weights entries) op None ≡ Some n → IsSome (D.weight (op + 1))) → IsPlan (means (record { weights = weights entries }) (costs_of rules) D.kind) p → IsPlanOf D rules p
  plan-of entries p offered is = record { regs = record { weights = weights entries }; is_plan = is; offered = offered }

  module _ (es : List (Entry O M)) (e : Entry O M) (S : Sound D rules es) (r : Replies (setup_of D rules) es e.event e.reply) (t : TrueEvent D rules es e.event) where
    weights-now : weights (es ++ e ∷ []) ≡ registered (weights es) e.event e.reply
    weights-now = read-more registered (replicate 44 None) es (e ∷ [])

    objects-now : objects (es ++ e ∷ []) ≡ more_objects (objects es) e.event e.reply
    objects-now = read-more more_objects [] es (e ∷ [])

    kept-now : kept (es ++ e ∷ []) ≡ kept es ++ keeping e.event e.reply
    kept-now = read-more (λ keepings event reply. keepings ++ keeping event reply) [] es (e ∷ [])

    stays : StaysTold (told_in (objects es)) (told_in (objects (es ++ e ∷ [])))
    stays = subst (λ all. StaysTold (told_in (objects es)) (told_in all)) (sym objects-now) (told-more (objects es) (brought (length (objects es)) e.event e.reply))

    offered-now : (op n : ℕ) → slice_index_or (weights (es ++ e ∷ [])) op None ≡ Some n → IsSome (D.weight (op + 1))
    offered-now = subst (λ ws. (op n : ℕ) → slice_index_or ws op None ≡ Some n → IsSome (D.weight (op + 1))) (sym weights-now) (offered-next D rules es e.event e.reply r t S.offered)

    planned-open : (at : ℕ) (p : Plan) → finality es ≡ None → IsFinal (es ++ e ∷ []) at p → IsPlannedBefore D rules (es ++ e ∷ []) at p × IsPlanOf D rules p
    planned-open at p o final =
        let first = first-plan D rules es e.event e.reply r at p (sym (open-next es e o) ∙ final.is) in (
          record {
            before = es;
            entry = e;
            after = [];
            splits = refl;
            place = first.0;
            is_plan = first.1;
            lower = plan_below (means (record { weights = weights es }) (costs_of rules) D.kind) p S.ranged are.costs first.1;
          },
          plan-of es p S.offered first.1,
        )

    planned-final : (at : ℕ) (p : Plan) (f : Finality) → finality es ≡ Some f → IsFinal (es ++ e ∷ []) at p → IsPlannedBefore D rules (es ++ e ∷ []) at p × IsPlanOf D rules p
    planned-final at p f known final =
        let same : f ≡ record { at = at; plan = p } = some_inner (sym (final-stays es (e ∷ []) f known) ∙ final.is) in
        let old = S.planned at p (record { is = known ∙ ap Some same }) in
        (planned-longer D rules es (e ∷ []) at p old.0, old.1)

    planned-by : (known : Option Finality) → finality es ≡ known → (at : ℕ) (p : Plan) → IsFinal (es ++ e ∷ []) at p → IsPlannedBefore D rules (es ++ e ∷ []) at p × IsPlanOf D rules p
    planned-by None k at p final = planned-open at p k final
    planned-by (Some f) k at p final = planned-final at p f k final

    kept-cases : (key : Key M) (v : Answer M) → IsKept (es ++ e ∷ []) key v → IsKept es key v ⊎ Contains (keeping e.event e.reply) (record { key = key; value = v })
    kept-cases key v h = Contains-append_cases (kept es) (keeping e.event e.reply) (record { key = key; value = v }) (subst (λ ks. Contains ks (record { key = key; value = v })) kept-now h)

    new-of : (key : Key M) (v : Answer M) → Contains (keeping e.event e.reply) (record { key = key; value = v }) → IsNewly D rules es (more_objects (objects es) e.event e.reply) (record { key = key; value = v })
    new-of key v h = newly D rules es e.event e.reply r t (record { key = key; value = v }) h

    kept-good : (key : Key M) (v : Answer M) → IsKept (es ++ e ∷ []) key v → IsGoodValue D rules (es ++ e ∷ []) key v
    kept-good key v h = elim (kept-cases key v h) [
      | inl old ↦ good-next D rules es (e ∷ []) key v stays (S.kept key v old)
      | inr new ↦ (let n = new-of key v new in record {
        at = n.at;
        p = n.p;
        final = record { is = final-stays es (e ∷ []) (record { at = n.at; plan = n.p }) n.final.is };
        is_plan = (S.planned n.at n.p n.final).1;
        good = subst (λ all. Good D rules n.p (told_in all) key.op.0 key.args v) (sym objects-now) n.good;
      })
    ]

    one-new : (k : List (Keeping M)) (key : Key M) (v w : Answer M) → (event : Event O M) (reply : Reply O M) → Contains (keeping event reply) (record { key = key; value = v }) → Contains (keeping event reply) (record { key = key; value = w }) → v ≡ w
    one-new k key v w (Put kk out) (Kept told) a b =
        let p = elim (Contains-push_cases [] (record { key = kk; value = told.value }) (record { key = key; value = v }) a) as (λ _. told.value ≡ v) [ inl none ↦ absurd (none-in (record { key = key; value = v }) none) | inr same ↦ ap (λ x. x.value) same ] in
        let q = elim (Contains-push_cases [] (record { key = kk; value = told.value }) (record { key = key; value = w }) b) as (λ _. told.value ≡ w) [ inl none ↦ absurd (none-in (record { key = key; value = w }) none) | inr same ↦ ap (λ x. x.value) same ] in
        sym p ∙ q
    one-new k key v w _ _ a b = absurd (none-in (record { key = key; value = v }) a)

    kept-once : (key : Key M) (v w : Answer M) → IsKept (es ++ e ∷ []) key v → IsKept (es ++ e ∷ []) key w → v ≡ w
    kept-once key v w hv hw = elim (kept-cases key v hv) [
      | inl a ↦ (elim (kept-cases key w hw) [
        | inl b ↦ S.once key v w a b
        | inr b ↦ absurd ((new-of key w b).new v a)
      ])
      | inr a ↦ (elim (kept-cases key w hw) [
        | inl b ↦ absurd ((new-of key v a).new w b)
        | inr b ↦ one-new [] key v w e.event e.reply a b
      ])
    ]

    values-kept : (place : ℕ) (key : Key M) (v : Answer M) → ValueAt (es ++ e ∷ []) place key v → IsKept (es ++ e ∷ []) key v
    values-kept place key v h = subst (λ ks. Contains ks (record { key = key; value = v })) (sym kept-now) (elim (get-apart es (e ∷ []) place h.entry h.is) [
      | inl f ↦ Contains-append_left (kept es) (keeping e.event e.reply) (record { key = key; value = v }) (S.values place key v (record { entry = h.entry; is = f; tells = h.tells }))
      | inr f ↦ (elim (tells-kept-value D rules es e.event e.reply r key v (subst (λ x. TellsValue x.event x.reply key v) (sym (get-single e f.0 h.entry f.2).1) h.tells)) [
        | inl old ↦ Contains-append_left (kept es) (keeping e.event e.reply) (record { key = key; value = v }) old
        | inr new ↦ Contains-append_right (kept es) (keeping e.event e.reply) (record { key = key; value = v }) new
      ])
    ])

    pub sound-next : Sound D rules (es ++ e ∷ [])
    sound-next = record {
      offered = offered-now;
      ranged = subst (All IsWeight) (sym weights-now) (ranged-next D rules es e.event e.reply t S.ranged);
      planned = planned-by (finality es) refl;
      objects = subst (λ all. ToldObjects D (told_in all)) (sym objects-now) (objects-next D rules es e.event e.reply t S.objects);
      kept = kept-good;
      once = kept-once;
      values = values-kept;
    }

  abbrev no-weights : ℕ → List (Option ℕ)
  no-weights k = replicate k None

  none-at : (k op : ℕ) → slice_index_or (no-weights k) op None ≡ None
  none-at zero op = refl
  none-at (suc k) zero = refl
  none-at (suc k) (suc op) = none-at k op

  no-weight : (op n : ℕ) → slice_index_or (replicate 44 None) op None ≡ Some n → ⊥
  no-weight op n e = none≢some (sym (none-at 44 op) ∙ e)

  sound-empty : Sound D rules []
  sound-empty = record {
    offered = λ op n e. absurd (no-weight op n e);
    ranged = All-replicate IsWeight 44 None (record { from = λ n e. absurd (none≢some e); to = λ n e. absurd (none≢some e) });
    planned = λ at p final. absurd (none≢some final.is);
    objects = λ h o e. absurd (none≢some e);
    kept = λ key v h. absurd (none-in (record { key = key; value = v }) h);
    once = λ key v w h k. absurd (none-in (record { key = key; value = v }) h);
    values = λ place key v h. absurd (none≢some h.is);
  }

module _ {O M : Type 0} (F : Frame O M) (are : AreRules F.rules) where
  sound-behind : (before es : List (Entry O M)) → Sound F.offer F.rules before → LegalBehind F before es → Sound F.offer F.rules (before ++ es)
  sound-behind before [] S l = subst (Sound F.offer F.rules) (sym (append-nil before)) S
  sound-behind before (e ∷ es) S l = subst (Sound F.offer F.rules) (append_assoc before (e ∷ []) es) (sound-behind (before ++ e ∷ []) es (sound-next F.offer F.rules are before e S l.0.replies l.0.is_true) l.1)

  pub legal-sound : (es : List (Entry O M)) → Legal F es → Sound F.offer F.rules es
  legal-sound es l = sound-behind [] es (sound-empty F.offer F.rules are) l

pub legal-good : {O M : Type 0} (D : OfferData O M) → LegalIsGood D
legal-good D rules object_cells morphism_cells are entries l =
    let S = legal-sound (record { offer = D; rules = rules; object_cells = object_cells; morphism_cells = morphism_cells }) are entries l in
    record {
      right = λ place key v h. S.kept key v (S.values place key v h);
      one = λ i j key v w h k. S.once key v w (S.values i key v h) (S.values j key w k);
      planned = λ at p final. (S.planned at p final).0;
    }
