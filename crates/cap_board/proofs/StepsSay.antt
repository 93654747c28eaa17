-- What a step says of the board, from what its call says.
use Rattle.std.proofs.Common.{◌≡◌, ℕ, suc, ◌≤◌, Bool, true, false, List, [], ◌∷◌, ◌++◌, Option, Some, Ok, Err, sym, subst, ◌∙◌, ap, refl, arith}
use Rattle.std.specs.Prelude.{MatchBool}
use Rattle.cap_names.specs.declared.identifiers.Handle.{Handle}
use Rattle.cap_names.specs.declared.identifiers.OpId.{OpId}
use Rattle.cap_ops.specs.declared.keys.Arg.{Arg}
use Rattle.cap_ops.specs.declared.keys.Value.{Value as Answer}
use Rattle.cap_ops.specs.declared.plans.Plan.{Plan}
use Rattle.cap_ops.specs.declared.plans.TheConstants.{NO_PLAN}
use Rattle.cap_ops.specs.Ends.{IsOperation}
use Rattle.cap_ops.specs.Values.{Value, none, Setting, FitsWithAnswer}
use Rattle.cap_ops.specs.Arrows.{ValueOver, over, arguments, value_of}
use Rattle.cap_ops.specs.Told.{Tells, TellsAll, Known}
use Rattle.cap_ops.specs.Primitives.{OfferData, prime_of}
use Rattle.cap_ops.proofs.Telling.{all-kept, all-same}
use Rattle.cap_terms.specs.declared.body.Var.{Var}
use Rattle.cap_terms.specs.declared.body.Step.{Step}
use Rattle.cap_terms.specs.declared.body.Step.TheVariants.{Call, Src, Tgt, Part, MinusOne, Exists, Both, When, Tuple}
use Rattle.cap_terms.specs.Run.{done, Calls, all_at, has_none, StepGives}
use Rattle.cap_terms.specs.Ends.{EndsGive}
use Rattle.cap_run.specs.Plans.{bound, AreRules, IsTruePlan}
use Rattle.cap_run.specs.Runs.{Run, RunWithin}
use Rattle.cap_run.specs.Puts.{Good}
use Rattle.cap_run.proofs.TruePlans.{plans-are-true}
use Rattle.cap_run.proofs.RunLaws.{deeper}
use Rattle.cap_steps.specs.Slots.{plain}
use Rattle.cap_board.specs.declared.refusals.CallRefusal.TheVariants.{Mismatch, NotFinal, Missing, TooLarge, Full, NoMemory}
use Rattle.cap_board.specs.Board.{BoardState, Grows, Planned}
use Rattle.cap_board.specs.Trace.{CallEnd, StepEnd, EndsAs, Tracer, StepTrace, TraceWithin}
use Rattle.cap_board.specs.Call.{depth, Traced, IsMissing, CallSays, Chosen, StepTraced, StepGood, StepSays}
use Rattle.cap_board.proofs.Told.{tells-all-at, same-none, tells-plain, datum-plain}
use Rattle.cap_board.proofs.Traces.{trace-kept}

pub append-nil : {A : Type 0} (xs : List A) → xs ++ [] ≡ xs
append-nil [] = refl
append-nil (x ∷ xs) = ap (λ ys. x ∷ ys) (append-nil xs)

pub append-assoc : {A : Type 0} (xs ys zs : List A) → (xs ++ ys) ++ zs ≡ xs ++ (ys ++ zs)
append-assoc [] ys zs = refl
append-assoc (x ∷ xs) ys zs = ap (λ vs. x ∷ vs) (append-assoc xs ys zs)

-- the step calls nothing
abbrev pub IsPlain : Step → Type 0
IsPlain (Call op xs) = ⊥
IsPlain _ = Unit {0}

pub plain-traced : {O M : Type 0} (p : ℕ) (T : Tracer O M) (s : Step) → IsPlain s → (vs : List (ValueOver Handle M)) → StepTrace p T s vs [] (Ok (plain (over p) s vs))
plain-traced p T (Call op xs) is vs = absurd is
plain-traced p T (Src x) is vs = (refl, refl)
plain-traced p T (Tgt x) is vs = (refl, refl)
plain-traced p T (Part x n) is vs = (refl, refl)
plain-traced p T MinusOne is vs = (refl, refl)
plain-traced p T (Exists x) is vs = (refl, refl)
plain-traced p T (Both x y) is vs = (refl, refl)
plain-traced p T (When x y) is vs = (refl, refl)
plain-traced p T (Tuple xs) is vs = (refl, refl)

pub plain-gives : {Obj Mor : Type 0} (S : Setting Obj Mor) (R : Calls Obj Mor) (s : Step) → IsPlain s → (vs : List (Value Obj Mor)) → StepGives S R s vs (done (plain S s vs))
plain-gives S R (Call op xs) is vs = absurd is
plain-gives S R (Src x) is vs = refl
plain-gives S R (Tgt x) is vs = refl
plain-gives S R (Part x n) is vs = refl
plain-gives S R MinusOne is vs = refl
plain-gives S R (Exists x) is vs = refl
plain-gives S R (Both x y) is vs = refl
plain-gives S R (When x y) is vs = refl
plain-gives S R (Tuple xs) is vs = refl

if-true : (b : Bool) (P Q : Type 0) → b ≡ true → P → MatchBool b P Q
if-true true P Q e h = h
if-true false P Q e h = absurd (let k : false ≡ true = e in cc)

if-false : (b : Bool) (P Q : Type 0) → b ≡ false → Q → MatchBool b P Q
if-false true P Q e h = absurd (let k : true ≡ false = e in cc)
if-false false P Q e h = h

pub some-plan : (k : Option Plan) (p q : Plan) → k ≡ Some p → k ≡ Some q → p ≡ q
some-plan k p q h i = let e : Some p ≡ Some q = sym h ∙ i in cc

pub depth-known : (k : Option Plan) (p : Plan) (op : ℕ) → k ≡ Some p → depth k op ≡ bound p op
depth-known k p op e = ap (λ o. depth o op) e

module _ {X O M : Type 0} (D : OfferData O M) where
  pub plain-says : (s : BoardState X O M) (told : Handle → Option O) (head : ℕ) (step : Step) (env : List (ValueOver Handle M)) → IsPlain step → 1 ≤ prime_of D → Chosen D s head (step ∷ []) → Known D.category told env → StepSays D s s told head step env (Ok (plain (over (prime_of D)) step env))
  plain-says s told head step env is low chosen known = (
    record { added = []; events = sym (append-nil s.events); trace = plain-traced (prime_of D) (TraceWithin D s.rules told (depth s.plan head)) step is env },
    record {
      p = chosen.p;
      planned = chosen.planned;
      data_of = known.data_of;
      tells_values = known.tells;
      out = plain (over (prime_of D)) step known.data_of;
      tells = tells-plain told (prime_of D) step env known.data_of known.tells;
      is_datum = datum-plain D.category step known.data_of low known.are;
      runs = plain-gives (over (prime_of D)) (RunWithin D s.rules chosen.p (bound chosen.p head)) step is known.data_of;
      ends = plain-gives (over (prime_of D)) (EndsGive (over (prime_of D))) step is env;
    },
  )

  pub none-says : (s : BoardState X O M) (told : Handle → Option O) (head : ℕ) (op : OpId) (xs : List Var) (env : List (ValueOver Handle M)) → Chosen D s head (Call op xs ∷ []) → Known D.category told env → has_none (all_at env xs) ≡ true → StepSays D s s told head (Call op xs) env (Ok none)
  none-says s told head op xs env chosen known e = (
    record { added = []; events = sym (append-nil s.events); trace = if-true (has_none (all_at env xs)) _ _ e (refl, refl) },
    record {
      p = chosen.p;
      planned = chosen.planned;
      data_of = known.data_of;
      tells_values = known.tells;
      out = none;
      tells = tt;
      is_datum = tt;
      runs = if-true (has_none (all_at known.data_of xs)) _ _ (sym (same-none told (all_at env xs) (all_at known.data_of xs) (tells-all-at told env known.data_of xs known.tells)) ∙ e) refl;
      ends = if-true (has_none (all_at env xs)) _ _ e refl;
    },
  )

  module _ (s s' : BoardState X O M) (told told' : Handle → Option O) (head : ℕ) (op : OpId) (xs : List Var) (env : List (ValueOver Handle M)) (chosen : Chosen D s head (Call op xs ∷ [])) (known : Known D.category told env) (grows : Grows s told s' told') (some : has_none (all_at env xs) ≡ false) (args : List (Arg M)) (args_are : arguments args ≡ all_at env xs) where
    call-traced : (ce : CallEnd M) (se : StepEnd M) → EndsAs ce se → Traced D s s' told' op.0 args ce → StepTraced D s s' told' head (Call op xs) env se
    call-traced ce se ends t = record {
      added = t.added;
      events = t.events;
      trace = if-false (has_none (all_at env xs)) _ _ some (record {
        args = args;
        are = args_are;
        call_end = ce;
        ends = ends;
        trace = trace-kept D s.rules told' told' (λ h o e. e) (suc (depth s.plan op.0)) (depth s.plan head) (let e1 = depth-known s.plan chosen.p op.0 chosen.planned.is in let e2 = depth-known s.plan chosen.p head chosen.planned.is in let b = chosen.below.0 in omega (arith, e1, e2, b)) op.0 args t.added ce t.trace;
      });
    }

    call-good : (w : Answer M) (v : ValueOver Handle M) → value_of w ≡ Some v → (p : Plan) → Planned D s'.rules s'.plan p → Good D s.rules p told' op.0 args w → StepGood D s told' head (Call op xs) env v
    call-good w v is p planned good =
        let same = some-plan s'.plan p chosen.p planned.is (grows.plan chosen.p chosen.planned.is) in
        let same_value : good.value ≡ v = some-value (value_of w) good.value v good.is_value is in
        let tells = all-kept told told' grows.stays env known.data_of known.tells in
        let here : TellsAll told' (all_at env xs) good.data_of = subst (λ vs. TellsAll told' vs good.data_of) args_are good.tells_arguments in
        let ins = all-same told' (all_at env xs) good.data_of (all_at known.data_of xs) here (tells-all-at told' env known.data_of xs tells) in
        let runs = subst (λ q. Run D s.rules q op.0 (all_at known.data_of xs) (done good.out)) same (subst (λ ds. Run D s.rules p op.0 ds (done good.out)) ins good.runs) in
        record {
          p = chosen.p;
          planned = chosen.planned;
          data_of = known.data_of;
          tells_values = tells;
          out = good.out;
          tells = subst (λ u. Tells told' u good.out) same_value good.tells;
          is_datum = good.is_datum;
          runs = if-false (has_none (all_at known.data_of xs)) _ _ (sym (same-none told' (all_at env xs) (all_at known.data_of xs) (tells-all-at told' env known.data_of xs tells)) ∙ some) (deeper D s.rules chosen.p (suc (bound chosen.p op.0)) (bound chosen.p head) (let b = chosen.below.0 in omega (arith, b)) op.0 (all_at known.data_of xs) (done good.out) runs);
          ends = if-false (has_none (all_at env xs)) _ _ some (λ f. subst (λ vs. FitsWithAnswer (over (prime_of D)) op.0 vs v) args_are (subst (λ u. FitsWithAnswer (over (prime_of D)) op.0 (arguments args) u) same_value good.fits));
        }
      where
        some-value : (o : Option (ValueOver Handle M)) (a b : ValueOver Handle M) → o ≡ Some a → o ≡ Some b → a ≡ b
        some-value o a b h k = let e : Some a ≡ Some b = sym h ∙ k in cc

    -- a chosen body calls no missing operation
    never-missing : AreRules s.rules → IsOperation head → IsMissing D s'.rules s'.plan op.0 → ⊥
    never-missing are is m =
        let same = some-plan s'.plan m.p chosen.p m.planned.is (grows.plan chosen.p chosen.planned.is) in
        let e : bound chosen.p op.0 ≡ NO_PLAN = subst (λ q. bound q op.0 ≡ NO_PLAN) same m.missing in
        let t : IsTruePlan D s.rules chosen.p = (plans-are-true D).law s.rules chosen.p are chosen.planned.is_plan in
        let c = t.capped head is in
        let b = chosen.below.0 in
        omega (arith, e, c, b)

    pub call-says : AreRules s.rules → IsOperation head → (ce : CallEnd M) (se : StepEnd M) → EndsAs ce se → CallSays D s s' told' op.0 args ce → StepSays D s s' told' head (Call op xs) env se
    call-says are is (Ok w) (Ok v) e h = (call-traced (Ok w) (Ok v) e h.0, call-good w v e h.1.0 h.1.1 h.1.2)
    call-says are is (Ok w) (Err f) e h = absurd e
    call-says are is (Err f) (Ok v) e h = absurd e
    call-says are is (Err NoMemory) (Err f) e h = subst (λ x. StepSays D s s' told' head (Call op xs) env (Err x)) e tt
    call-says are is (Err (Missing o)) (Err f) e h = absurd (never-missing are is h.2)
    call-says are is (Err (Mismatch m)) (Err f) e h = subst (λ x. StepSays D s s' told' head (Call op xs) env (Err x)) e (call-traced (Err (Mismatch m)) (Err (Mismatch m)) refl h)
    call-says are is (Err NotFinal) (Err f) e h = subst (λ x. StepSays D s s' told' head (Call op xs) env (Err x)) e (call-traced (Err NotFinal) (Err NotFinal) refl h)
    call-says are is (Err (TooLarge t)) (Err f) e h = subst (λ x. StepSays D s s' told' head (Call op xs) env (Err x)) e (call-traced (Err (TooLarge t)) (Err (TooLarge t)) refl h)
    call-says are is (Err (Full n k)) (Err f) e h = subst (λ x. StepSays D s s' told' head (Call op xs) env (Err x)) e (call-traced (Err (Full n k)) (Err (Full n k)) refl h)
