-- What a call says of the board after the answer of its ask.
use Rattle.std.proofs.Common.{◌≡◌, ℕ, zero, suc, ◌+◌, ◌-◌, ◌*◌, ◌<◌, ◌≤◌, List, [], ◌∷◌, ◌++◌, Option, Some, Result, Ok, Err, length, sym, subst, ◌∙◌, ap, refl, arith, inr}
use Rattle.std.specs.Prelude.{slice_get, IsSome}
use Rattle.std.specs.Result.{IsErrAnd}
use Rattle.std.proofs.lemmas.Option.{slice_get_within}
use Rattle.cap_names.specs.declared.identifiers.Handle.{Handle}
use Rattle.cap_names.specs.declared.identifiers.OpId.{OpId}
use Rattle.cap_names.specs.declared.identifiers.RuleNo.{RuleNo}
use Rattle.cap_ops.specs.declared.keys.Arg.{Arg}
use Rattle.cap_ops.specs.declared.keys.Value.{Value as Answer}
use Rattle.cap_ops.specs.declared.plans.Choice.TheVariants.{Prim, Rule as ByRule, Missing}
use Rattle.cap_ops.specs.Values.{Fits}
use Rattle.cap_ops.specs.Arrows.{over, arguments}
use Rattle.cap_ops.specs.Primitives.{OfferData, prime_of}
use Rattle.cap_ops.proofs.Places.{none≢some}
use Rattle.cap_terms.specs.declared.body.Rule.{Rule}
use Rattle.cap_terms.specs.declared.body.Step.{Step}
use Rattle.cap_terms.specs.declared.body.Step.TheVariants.{Call, Src, Tgt, Part, MinusOne, Exists, Both, When, Tuple}
use Rattle.cap_terms.specs.declared.body.Var.{Var}
use Rattle.cap_terms.specs.Run.{nth_from_one}
use Rattle.cap_run.specs.Plans.{rule_at, AreRules, IsTruePlan}
use Rattle.cap_run.specs.Puts.{Good}
use Rattle.cap_run.proofs.TruePlans.{plans-are-true}
use Rattle.cap_steps.specs.declared.slots.Slot.{Slot}
use Rattle.cap_steps.specs.Slots.{slot_value, slots}
use Rattle.cap_board.specs.declared.answers.Asked.TheVariants.{Hit, Miss, NotFinal, Full}
use Rattle.cap_board.specs.declared.refusals.CallRefusal.{CallRefusal}
use Rattle.cap_board.specs.declared.refusals.CallRefusal.TheVariants.{NotFinal as NotFinalRefusal, Missing as MissingRefusal, Full as FullRefusal}
use Rattle.cap_board.specs.Board.{BoardState, asked, Asks}
use Rattle.cap_board.specs.Trace.{too_large}
use Rattle.cap_board.specs.Call.{depth, CallSays}
use Rattle.cap_board.proofs.StepsSay.{IsPlain}
use Rattle.cap_board.proofs.CallsSay.{the-rule, rule-falls}

pub err-is : {A : Type 0} (r : Result A CallRefusal) (e : CallRefusal) → IsErrAnd r (λ x. x ≡ e) → r ≡ Err e
err-is (Ok v) e h = absurd h
err-is (Err x) e h = ap Err h

-- the place of a number that starts from one
number-inside : {A : Type 0} (xs : List A) (n : ℕ) (x : A) → nth_from_one xs n ≡ Some x → (1 ≤ n) × (n ≤ length xs)
number-inside xs zero x e = absurd (none≢some e)
number-inside xs (suc n) x e = let l = slice_get_within xs n x e in (omega arith, omega (arith, l))

number-there : {A : Type 0} (xs : List A) (n : ℕ) (x : A) → 1 ≤ n → slice_get xs (n - 1) ≡ Some x → nth_from_one xs n ≡ Some x
number-there xs zero x low e = absurd (omega (arith, low))
number-there xs (suc n) x low e = let k : n ≡ suc n - 1 = omega arith in ap (slice_get xs) k ∙ e

module _ {X O M : Type 0} (D : OfferData O M) (s : BoardState X O M) (told : Handle → Option O) (op : ℕ) (args : List (Arg M)) (fits : Fits (over (prime_of D)) op (arguments args)) (s1 : BoardState X O M) (told1 : Handle → Option O) where
  pub hit-says : (v : Answer M) → Asks D s told op args (Hit v) s1 told1 → CallSays D s s1 told1 op args (Ok v)
  hit-says v asks = (
    record { added = asked op args (Hit v) ∷ []; events = asks.events; trace = inr (fits, Hit v, [], refl, (refl, refl)) },
    (asks.says.0, asks.says.1, subst (λ rs. Good D rs asks.says.0 told1 op args v) asks.grows.rules asks.says.2),
  )

  pub not-final-says : Asks D s told op args NotFinal s1 told1 → CallSays D s s1 told1 op args (Err NotFinalRefusal)
  not-final-says asks = record { added = asked op args NotFinal ∷ []; events = asks.events; trace = inr (fits, NotFinal, [], refl, (refl, refl)) }

  pub full-says : (entries cells : ℕ) → Asks D s told op args (Full entries cells) s1 told1 → CallSays D s s1 told1 op args (Err (FullRefusal entries cells))
  full-says entries cells asks = record { added = asked op args (Full entries cells) ∷ []; events = asks.events; trace = inr (fits, Full entries cells, [], refl, (refl, refl)) }

  module _ (are : AreRules s1.rules) where
    pub missing-says : (o : OpId) → o.0 ≡ op → Asks D s told op args (Miss Missing) s1 told1 → CallSays D s s1 told1 op args (Err (MissingRefusal o))
    missing-says o e asks =
        let t : IsTruePlan D s1.rules asks.says.0 = (plans-are-true D).law s1.rules asks.says.0 are asks.says.1.is_plan in
        let named : o ≡ record { 0 = op } = ap (λ n. record { 0 = n }) e in (
          record { added = asked op args (Miss Missing) ∷ []; events = asks.events; trace = inr (fits, Miss Missing, [], refl, (refl, ap (λ x. Err (MissingRefusal x)) named)) },
          named,
          record { p = asks.says.0; planned = asks.says.1; missing = t.missing op fits.operation asks.says.2 },
        )

    -- a primitive that is chosen is offered
    pub prim-offered : Asks D s told op args (Miss Prim) s1 told1 → IsSome (D.weight op)
    prim-offered asks = ((plans-are-true D).law s1.rules asks.says.0 are asks.says.1.is_plan).offered op fits.operation asks.says.2

    module _ (k : RuleNo) (asks : Asks D s told op args (Miss (ByRule k)) s1 told1) where
      rule-listed : (r : Rule) × (rule_at s1.rules k ≡ Some r)
      rule-listed = let t = the-rule D s told op args fits s1 told1 k asks are in (t.0, t.1.listed)

      -- the number of a chosen rule is a rule's
      pub rule-inside : (rules : List Rule) → s1.rules ≡ rules → (1 ≤ k.0) × (k.0 ≤ length rules)
      rule-inside rules e = let t = rule-listed in number-inside rules k.0 t.0 (ap (λ rs. rule_at rs k) (sym e) ∙ t.1)

      pub rule-found : (rules : List Rule) → s1.rules ≡ rules → (r : Rule) → slice_get rules (k.0 - 1) ≡ Some r → rule_at s1.rules k ≡ Some r
      rule-found rules e r is = ap (λ rs. rule_at rs k) e ∙ number-there rules k.0 r (rule-inside rules e).0 is

      pub rule-measure : (r : Rule) → rule_at s1.rules k ≡ Some r → 3 * depth s1.plan r.cost.head.0 + 1 < 3 * depth s.plan op + 2
      rule-measure r is = let a = rule-falls D s told op args fits s1 told1 k asks are r is in omega (arith, a)

pub slots-snoc : {M : Type 0} (env : List (Slot M)) (s : Slot M) → slots (env ++ s ∷ []) ≡ slots env ++ slot_value s ∷ []
slots-snoc [] s = refl
slots-snoc (x ∷ env) s = ap (λ vs. slot_value x ∷ vs) (slots-snoc env s)

-- a step that is no call calls nothing
pub plain-unless : (s : Step) → ((op : OpId) (xs : List Var) → s ≡ Call op xs → ⊥) → IsPlain s
plain-unless (Call op xs) f = absurd (f op xs refl)
plain-unless (Src x) f = tt
plain-unless (Tgt x) f = tt
plain-unless (Part x n) f = tt
plain-unless MinusOne f = tt
plain-unless (Exists x) f = tt
plain-unless (Both x y) f = tt
plain-unless (When x y) f = tt
plain-unless (Tuple xs) f = tt

pub same-size : (r q c d : ℕ) → r ≡ q → c ≡ d → too_large r c ≡ too_large q d
same-size r q c d e h = ap (λ n. too_large n c) e ∙ ap (λ n. too_large q n) h
