-- The checker's fault is the first fault of the body, and there is none exactly where the body is typed.
use Rattle.std.proofs.Common.{◌≡◌, ℕ, ◌+◌, ◌<◌, ◌≤◌, Bool, true, false, List, [], ◌∷◌, ◌++◌, length, take, refl, sym, ap, ◌∙◌, subst, arith, ◌⊎◌, inl, inr, eqb, length-append, append_assoc, append-nil}
use Rattle.std.specs.Prelude.{Option, Some, None, is_some, slice_get, unwrap_or, if◌then◌else◌, option_map}
use Rattle.std.proofs.lemmas.Bool.{eqb-true, eq-eqb}
use Rattle.std.proofs.lemmas.List.{length-map}
use Rattle.std.proofs.Math.Seq.{take-append_seam, take-append-add}
use Rattle.std.proofs.lemmas.Option.{slice_get-map, slice_get_within}
use Rattle.cap_ops.specs.declared.ends.Shape.{Shape}
use Rattle.cap_ops.specs.declared.ends.Shape.TheVariants.{Scalar}
use Rattle.cap_ops.specs.Ends.{profile_of, renamed}
use Rattle.cap_ops.proofs.Letters.{both-true}
use Rattle.cap_terms.specs.declared.body.Step.{Step}
use Rattle.cap_terms.specs.declared.body.Body.{Body}
use Rattle.cap_terms.specs.declared.symbol.Symbol.{Symbol}
use Rattle.cap_terms.specs.declared.symbol.Symbol.TheVariants.{Given}
use Rattle.cap_terms.specs.Typing.{Assignment, StepTyped, StepsTypedBy, HasParameters, Typed, FirstFault, parameters, step, answer}
use Rattle.cap_terms.specs.Checker.{Bindings, step_shape, answer_bindings, fault_unless, steps_fault, has_parameters, given_shapes, body_fault, is_operation}
use Rattle.cap_ops.proofs.Places.{none≢some, some_inner, slice_get-left, slice_get-end, slice_get-push, slice_get-there, slice_get-take}
use Rattle.cap_terms.proofs.Calls.{Knows, is_operation-true, operation-is}
use Rattle.cap_terms.proofs.Steps.{step-sound, step-complete}
use Rattle.cap_terms.proofs.Heads.{answer-sound, answer-complete}

-- the shapes that the checker finds for the parameters and the first steps
pub data Chain (head : ℕ) : List Step → List (Shape Symbol) → Type 0 where
  start : Chain head [] (given_shapes head)
  more : (done : List Step) (known : List (Shape Symbol)) (s : Step) (t : Shape Symbol) → Chain head done known → step_shape known (length done) s ≡ Some t → Chain head (done ++ s ∷ []) (known ++ t ∷ [])

Knows-prefix : (known : List (Shape Symbol)) (t : Shape Symbol) (T : Assignment) → Knows (known ++ t ∷ []) T → Knows known T
Knows-prefix known t T k = record { is = λ i inside. sym (slice_get-left known (t ∷ []) i inside) ∙ k.is i (omega (arith, length-append known (t ∷ []))) }

Knows-last : (known : List (Shape Symbol)) (t : Shape Symbol) (T : Assignment) → Knows (known ++ t ∷ []) T → T (length known) ≡ t
Knows-last known t T k = some_inner (sym (k.is (length known) (omega (arith, length-append known (t ∷ [])))) ∙ slice_get-end known t)

Knows-push : (known : List (Shape Symbol)) (t : Shape Symbol) (T : Assignment) → Knows known T → T (length known) ≡ t → Knows (known ++ t ∷ []) T
Knows-push known t T k e = record {
  is = λ i inside. let there : (x : Shape Symbol) × (slice_get (known ++ t ∷ []) i ≡ Some x) = slice_get-there (known ++ t ∷ []) i inside in go i there.0 there.1 (slice_get-push known t there.0 i there.1);
}
  where
    go : (i : ℕ) (x : Shape Symbol) → slice_get (known ++ t ∷ []) i ≡ Some x → ((i < length known) × (slice_get known i ≡ Some x)) ⊎ ((i ≡ length known) × (t ≡ x)) → slice_get (known ++ t ∷ []) i ≡ Some (T i)
    go i x at (inl a) = let b : slice_get known i ≡ Some (T i) = k.is i a.0 in let c = a.1 in cc
    go i x at (inr b) = let c = b.0 in let d = b.1 in cc

-- an assignment that gives each variable what the list has
found : List (Shape Symbol) → Assignment
found known n = unwrap_or (slice_get known n) Scalar

found-knows : (known : List (Shape Symbol)) → Knows known (found known)
unfolding found
found-knows known = record { is = λ i inside. let there : (x : Shape Symbol) × (slice_get known i ≡ Some x) = slice_get-there known i inside in rw there.1 refl }

moved : (T : Assignment) (m n k j : ℕ) (s s' : Step) (t : Shape Symbol) → n ≡ m → k ≡ j → s ≡ s' → T n ≡ t → StepTyped T n j s t → StepTyped T m k s' (T m)
moved T m n k j s s' t nm kj ss at h = rw (← nm, kj, ← ss, at) h

module _ (head params : ℕ) (many : params ≡ length (profile_of head).arguments) where
  known_many : (done : List Step) (known : List (Shape Symbol)) → Chain head done known → length known ≡ params + length done
  known_many _ _ start = omega (arith, length-map (profile_of head).arguments (renamed Given), many)
  known_many _ _ (more done known s t c e) = omega (arith, length-append known (t ∷ []), length-append done (s ∷ []), known_many done known c)

  typed-prefix : (T : Assignment) (done : List Step) (s : Step) → StepsTypedBy T head params (done ++ s ∷ []) → StepsTypedBy T head params done
  typed-prefix T done s typed = record {
    parameters = typed.parameters;
    each = λ k s' at. typed.each k s' (slice_get-left done (s ∷ []) k (slice_get_within done k s' at) ∙ at);
  }

  -- each assignment that gives the variables these shapes types the steps
  chain-typed : (done : List Step) (known : List (Shape Symbol)) → Chain head done known → (T : Assignment) → Knows known T → StepsTypedBy T head params done
  chain-typed _ _ start T knows = record {
    parameters = λ i s at. some_inner (sym (knows.is i (let inside : i < length (profile_of head).arguments = slice_get_within (profile_of head).arguments i s at in omega (arith, length-map (profile_of head).arguments (renamed Given)))) ∙ slice_get-map (renamed Given) (profile_of head).arguments i ∙ ap (option_map (renamed Given)) at);
    each = λ k s at. absurd (none≢some at);
  }
  chain-typed _ _ (more done known s t c e) T knows =
      let before = chain-typed done known c T (Knows-prefix known t T knows) in
      record {
        parameters = before.parameters;
        each = λ k s' at. elim (slice_get-push done s s' k at) [
          | inl a ↦ before.each k s' a.1
          | inr b ↦ moved T (params + k) (length known) k (length done) s s' t (known_many done known c ∙ ap (λ n. params + n) (sym b.0)) b.0 b.1 (Knows-last known t T knows) (step-sound known T (Knows-prefix known t T knows) (length done) s t e)
        ];
      }

  -- and each assignment that types the steps gives the variables these shapes
  chain-only : (done : List Step) (known : List (Shape Symbol)) → Chain head done known → (T : Assignment) → StepsTypedBy T head params done → Knows known T
  chain-only _ _ start T typed = record {
    is = λ i inside.
        let short : i < length (profile_of head).arguments = omega (arith, length-map (profile_of head).arguments (renamed Given)) in
        let there = slice_get-there (profile_of head).arguments i short in
        slice_get-map (renamed Given) (profile_of head).arguments i ∙ ap (option_map (renamed Given)) there.1 ∙ ap Some (sym (typed.parameters i there.0 there.1));
  }
  chain-only _ _ (more done known s t c e) T typed =
      let knows : Knows known T = chain-only done known c T (typed-prefix T done s typed) in
      let last : StepTyped T (length known) (length done) s (T (length known)) = rw (known_many done known c) (typed.each (length done) s (slice_get-end done s)) in
      Knows-push known t T knows (some_inner (sym (step-complete known T knows (length done) s (T (length known)) last) ∙ e))

-- what the checker's fault tells
abbrev pub Tells : ℕ → Body → Option ℕ → Type 0
Tells head body None = Typed head body
Tells head body (Some n) = FirstFault head body n

module _ (head : ℕ) (body : Body) (has : HasParameters head body.params) where
  steps_typed : (done : List Step) (known : List (Shape Symbol)) → Chain head done known → (steps : List Step) → done ≡ steps → StepsTypedBy (found known) head body.params steps
  steps_typed done known c steps e = subst (λ ss. StepsTypedBy (found known) head body.params ss) e (chain-typed head body.params has.number done known c (found known) (found-knows known))

  whole_many : (done : List Step) (known : List (Shape Symbol)) → Chain head done known → done ≡ body.steps → length known ≡ body.params + length body.steps
  whole_many done known c e = known_many head body.params has.number done known c ∙ ap (λ ss. body.params + length ss) e

  few_known : (done : List Step) (known : List (Shape Symbol)) → Chain head done known → body.params ≤ length known
  few_known done known c = omega (arith, known_many head body.params has.number done known c)

  at_end : (done : List Step) (known : List (Shape Symbol)) → Chain head done known → done ≡ body.steps → (o : Option Bindings) → answer_bindings known head body.params body.answer ≡ o → Tells head body (if is_some o then None else Some (length done))
  at_end done known c e None at =
      subst (λ n. FirstFault head body n) (ap length (sym e))
      (answer has (found known, steps_typed done known c body.steps e) (λ typed.
      let steps : StepsTypedBy typed.types head body.params done = subst (λ ss. StepsTypedBy typed.types head body.params ss) (sym e) typed.steps in
      let knows = chain-only head body.params has.number done known c typed.types steps in
      let b = answer-complete known typed.types knows head body.params has.number (few_known done known c) typed.steps.parameters body.answer (rw (whole_many done known c e) typed.known) typed.answer in
      none≢some (sym at ∙ b.1)))
  at_end done known c e (Some b) at =
      let steps = steps_typed done known c body.steps e in
      let a = answer-sound known (found known) (found-knows known) head body.params has.number (few_known done known c) steps.parameters body.answer b at in
      record { parameters = has; types = found known; steps = steps; known = rw (← whole_many done known c e) a.0; answer = a.1 }

  refused : (s : Step) (ss done : List Step) (known : List (Shape Symbol)) → Chain head done known → done ++ s ∷ ss ≡ body.steps → step_shape known (length done) s ≡ None → FirstFault head body (length done)
  refused s ss done known c e at =
      let before : done ≡ take (length done) body.steps = sym (take-append_seam done (s ∷ ss)) ∙ ap (take (length done)) e in
      let after : done ++ s ∷ [] ≡ take (length done + 1) body.steps = sym (take-append-add done (s ∷ ss) 1) ∙ ap (take (length done + 1)) e in
      let inside : length done < length body.steps = omega (arith, ap length e, length-append done (s ∷ ss)) in
      step has inside (found known, steps_typed done known c (take (length done) body.steps) before) (λ typed.
      let T = typed.0 in
      let more : StepsTypedBy typed.0 head body.params (done ++ s ∷ []) = subst (λ ss. StepsTypedBy typed.0 head body.params ss) (sym after) typed.1 in
      let knows = chain-only head body.params has.number done known c typed.0 (typed-prefix head body.params has.number typed.0 done s more) in
      let last : StepTyped typed.0 (length known) (length done) s (typed.0 (length known)) = rw (known_many head body.params has.number done known c) (more.each (length done) s (slice_get-end done s)) in
      none≢some (sym at ∙ step-complete known typed.0 knows (length done) s (typed.0 (length known)) last))

  abbrev From : List Step → Type 0
  From ss = (done : List Step) (known : List (Shape Symbol)) → Chain head done known → done ++ ss ≡ body.steps → Tells head body (steps_fault known head body.params body.answer (length done) ss)

  after_step : (s : Step) (ss : List Step) → From ss → (done : List Step) (known : List (Shape Symbol)) → Chain head done known → done ++ s ∷ ss ≡ body.steps → (o : Option (Shape Symbol)) → step_shape known (length done) s ≡ o
      → Tells head body (fault_unless (length done) (λ t. steps_fault (known ++ t ∷ []) head body.params body.answer (length done + 1) ss) o)
  after_step s ss rest done known c e None at = refused s ss done known c e at
  after_step s ss rest done known c e (Some t) at =
      subst (λ n. Tells head body (steps_fault (known ++ t ∷ []) head body.params body.answer n ss)) (length-append done (s ∷ []))
      (rest (done ++ s ∷ []) (known ++ t ∷ []) (more done known s t c at) (append_assoc done (s ∷ []) ss ∙ e))

  from_step : (ss : List Step) → From ss
  from_step [] done known c e = at_end done known c (sym (append-nil done) ∙ e) (answer_bindings known head body.params body.answer) refl
  from_step (s ∷ ss) done known c e = after_step s ss (from_step ss) done known c e (step_shape known (length done) s) refl

has_parameters-true : (head params : ℕ) → has_parameters head params ≡ true → HasParameters head params
has_parameters-true head params h =
    let e = both-true (is_operation head) (eqb params (length (profile_of head).arguments)) h in
    record { operation = is_operation-true head e.0; number = eqb-true params (length (profile_of head).arguments) e.1 }

parameters-are : (head params : ℕ) → HasParameters head params → has_parameters head params ≡ true
parameters-are head params h = rw (operation-is head h.operation, eq-eqb params (length (profile_of head).arguments) h.number) refl

-- the fault that the checker finds is the first, and where it finds none the body is typed
pub body_fault-tells : (head : ℕ) (body : Body) → Tells head body (body_fault head body)
body_fault-tells head body = go (has_parameters head body.params) refl
  where
    go : (t : Bool) → has_parameters head body.params ≡ t → Tells head body (if t then steps_fault (given_shapes head) head body.params body.answer 0 body.steps else Some 0)
    go true at = from_step head body (has_parameters-true head body.params at) body.steps [] (given_shapes head) start refl
    go false at = parameters (λ has. let e = parameters-are head body.params has in absurd (cc))

-- a body with a first fault is not typed
pub not_typed : (head : ℕ) (body : Body) (n : ℕ) → FirstFault head body n → Typed head body → ⊥
not_typed head body _ (parameters wrong) typed = wrong typed.parameters
not_typed head body _ (step {n} has inside before refuses) typed = refuses (
  typed.types,
  record {
    parameters = typed.steps.parameters;
    each = λ k s at. typed.steps.each k s (slice_get-take (n + 1) body.steps k s at);
  },
)
not_typed head body _ (answer has steps wrong) typed = wrong typed
