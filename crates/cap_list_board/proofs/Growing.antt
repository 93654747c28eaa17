-- What holds of the lists stays as they grow.
use Rattle.std.proofs.Common.{◌≡◌, ℕ, zero, suc, ◌+◌, ◌^◌, ◌<◌, List, [], ◌∷◌, ◌++◌, Some, None, length, sym, subst, ◌∙◌, ap, refl, arith, length-append, inl, inr}
use Rattle.std.specs.Prelude.{slice_get}
use Rattle.cap_laws.specs.Linear.{CategoryData}
use Rattle.cap_ops.specs.declared.plans.Kind.{Kind}
use Rattle.cap_ops.specs.declared.plans.Plan.{Plan}
use Rattle.cap_ops.specs.declared.plans.Regs.{Regs}
use Rattle.cap_ops.specs.declared.plans.RuleCost.{RuleCost}
use Rattle.cap_ops.specs.Derivations.{IsPlan, means}
use Rattle.cap_ops.specs.Arrows.{Between}
use Rattle.cap_ops.specs.Told.{AreObjects, told_in}
use Rattle.cap_ops.specs.Primitives.{OfferData, AreOffered}
use Rattle.cap_ops.proofs.Places.{none≢some}
use Rattle.cap_settle.proofs.Fitting.{told-more}
use Rattle.cap_run.specs.Plans.{costs_of, IsPlanOf}
use Rattle.cap_run.proofs.Puts.{good-stays}
use Rattle.cap_list_board.specs.declared.entries.Entry.{Entry}
use Rattle.cap_list_board.specs.Lists.{Lists, IsNew}
use Rattle.cap_list_board.specs.Holds.{IsGoodEntry, Holds}
use Rattle.cap_list_board.proofs.InLists.{some-inj, get-apart, get-single}

-- the new objects of an answer are told by their place
objects-told : {O M : Type 0} (C : CategoryData O (Between O M)) (fresh : List O) → AreObjects C fresh → (k : ℕ) (o : O) → slice_get fresh k ≡ Some o → C.is_object o
objects-told C [] a k o e = absurd (none≢some e)
objects-told C (x ∷ fresh) a zero o e = subst C.is_object (some-inj x o e) a.0
objects-told C (x ∷ fresh) a (suc k) o e = objects-told C fresh a.1 k o e

module _ {X O M : Type 0} (D : OfferData O M) (s : Lists X O M) (H : Holds D s) where
  -- a plan of offered registrations becomes known
  pub final-holds : (regs : Regs) (costs : List RuleCost) (kind : Kind) (p : Plan) → s.plan ≡ None → costs ≡ costs_of s.rules → kind ≡ D.kind → AreOffered D regs.weights → IsPlan (means regs costs kind) p → Holds D (record s { plan = Some p })
  final-holds regs costs kind p no_plan same k offered is = record {
    planned = λ q e. subst (IsPlanOf D s.rules) (some-inj p q e) (record { regs = regs; is_plan = subst (λ x. IsPlan (means regs x D.kind) p) same (subst (λ x. IsPlan (means regs costs x) p) k is); offered = offered });
    handles = H.handles;
    objects = H.objects;
    entries = λ place e is. let G = H.entries place e is in absurd (none≢some (sym no_plan ∙ G.planned.is));
    few = H.few;
    once = H.once;
  }

  -- objects of the category are told
  pub more-holds : (fresh : List O) → length s.objects + length fresh < 2 ^ 32 → AreObjects D.category fresh → Holds D (record s { objects = s.objects ++ fresh })
  more-holds fresh room are = record {
    planned = H.planned;
    handles = omega (arith, room, length-append s.objects fresh);
    objects = λ h o e. elim (get-apart s.objects fresh h.0 o e) [ inl f ↦ H.objects h o f | inr r ↦ objects-told D.category fresh are r.0 o r.2 ];
    entries = λ place e is. let G = H.entries place e is in record { p = G.p; planned = G.planned; is = good-stays D s.rules G.p (told_in s.objects) (told_in (s.objects ++ fresh)) e.key.op.0 e.key.args e.value (told-more s.objects fresh) G.is };
    few = H.few;
    once = H.once;
  }

  -- a good entry with a new key is kept
  pub entry-holds : (entry : Entry M) → IsGoodEntry D s entry → IsNew s.entries entry.key → length s.entries < s.limit → Holds D (record s { entries = s.entries ++ entry ∷ [] })
  entry-holds entry good new room = record {
    planned = H.planned;
    handles = H.handles;
    objects = H.objects;
    entries = λ place e is. elim (get-apart s.entries (entry ∷ []) place e is) [
      | inl f ↦ (let G = H.entries place e f in record { p = G.p; planned = G.planned; is = G.is })
      | inr r ↦ (let G = subst (IsGoodEntry D s) (get-single entry r.0 e r.2).1 good in record { p = G.p; planned = G.planned; is = G.is })
    ];
    few = omega (arith, room, length-append s.entries (entry ∷ []));
    once = λ i j d e at_i at_j same. elim (get-apart s.entries (entry ∷ []) i d at_i) [
      | inl f ↦ (elim (get-apart s.entries (entry ∷ []) j e at_j) [
        | inl g ↦ H.once i j d e f g same
        | inr r ↦ absurd (new i d f (same ∙ sym (ap (λ x. x.key) (get-single entry r.0 e r.2).1)))
      ])
      | inr q ↦ (elim (get-apart s.entries (entry ∷ []) j e at_j) [
        | inl g ↦ absurd (new j e g (sym same ∙ sym (ap (λ x. x.key) (get-single entry q.0 d q.2).1)))
        | inr r ↦ (let a = (get-single entry q.0 d q.2).0 in let b = (get-single entry r.0 e r.2).0 in omega (arith, a, b, q.1, r.1))
      ])
    ];
  }
