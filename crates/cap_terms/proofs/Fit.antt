-- Typed bodies never meet a mismatch of ends.
use Rattle.std.proofs.Common.{◌≡◌, ℕ, zero, suc, ◌+◌, ◌<◌, List, [], ◌∷◌, length, refl, sym, ap, ◌∙◌, subst, arith, inl, inr, add-zero, zero-add}
use Rattle.std.specs.Prelude.{Option, Some, None, slice_get, unwrap_or}
use Rattle.cap_ops.specs.declared.ends.Shape.{Shape}
use Rattle.cap_ops.specs.Ends.{profile_of, places}
use Rattle.cap_ops.specs.Values.{Value, none, Setting, HasShape, HaveShapes, Fits, FitsWithAnswer}
use Rattle.cap_ops.proofs.Places.{none≢some, some_inner, slice_get-there}
use Rattle.cap_ops.proofs.Shapes.{HasShape-renamed, renamed-HasShape, HaveShapes-wider}
use Rattle.cap_terms.specs.declared.body.Step.{Step}
use Rattle.cap_terms.specs.declared.body.Body.{Body}
use Rattle.cap_terms.specs.declared.symbol.Symbol.{Symbol}
use Rattle.cap_terms.specs.declared.symbol.Symbol.TheVariants.{Given, Made}
use Rattle.cap_terms.specs.Run.{at}
use Rattle.cap_terms.specs.Typing.{Assignment, StepTyped, Typed}
use Rattle.cap_terms.specs.Ends.{NeverMismatches}
use Rattle.cap_terms.proofs.Calls.{Contains-among}
use Rattle.cap_terms.proofs.Runs.{Held, TypedFrom, Ended, comes-fit, ends-at}

same-lengths : {X Obj Mor : Type 0} (S : Setting Obj Mor) (f : X → Option Obj) (ss : List (Shape X)) (vs : List (Value Obj Mor)) → HaveShapes S f ss vs → length vs ≡ length ss
same-lengths S f [] [] h = refl
same-lengths S f (s ∷ ss) (v ∷ vs) h = ap suc (same-lengths S f ss vs h.1)
same-lengths S f [] (v ∷ vs) h = absurd h
same-lengths S f (s ∷ ss) [] h = absurd h

shape-at : {X Obj Mor : Type 0} (S : Setting Obj Mor) (f : X → Option Obj) (ss : List (Shape X)) (vs : List (Value Obj Mor)) → HaveShapes S f ss vs → (i : ℕ) (s : Shape X) → slice_get ss i ≡ Some s → HasShape S f s (unwrap_or (slice_get vs i) none)
shape-at S f [] vs h i s e = absurd (none≢some e)
shape-at S f (t ∷ ss) (v ∷ vs) h zero s e = subst (λ u. HasShape S f u v) (some_inner e) h.0
shape-at S f (t ∷ ss) (v ∷ vs) h (suc i) s e = shape-at S f ss vs h.1 i s e
shape-at S f (t ∷ ss) [] h i s e = absurd h

from_each : (T : Assignment) (ss : List Step) (n k : ℕ) → ((j : ℕ) (s : Step) → slice_get ss j ≡ Some s → StepTyped T (n + j) (k + j) s (T (n + j))) → TypedFrom T n k ss
from_each T [] n k each = tt
from_each T (s ∷ ss) n k each = (
  simp add-zero at (each 0 s refl),
  from_each T ss (suc n) (suc k) (λ j s' e.
      let p : n + suc j ≡ suc n + j = omega arith in
      let q : k + suc j ≡ suc k + j = omega arith in
      rw (← p, ← q) (each (suc j) s' e)),
)

module _ {Obj Mor : Type 0} (S : Setting Obj Mor) where
  -- at the start only the letters of the head's arguments stand for objects
  abbrev given_names : (ℕ → Option Obj) → Symbol → Option Obj
  given_names objects (Given x) = objects x
  given_names objects (Made k x) = None

  module _ (head : ℕ) (body : Body) (typed : Typed head body) (args : List (Value Obj Mor)) (fits : Fits S head args) where
    held_at_start : Held S typed.types body.params 0 args (given_names fits.objects)
    held_at_start = record {
      many = same-lengths S fits.objects (profile_of head).arguments args fits.arguments ∙ sym typed.parameters.number;
      unmade = λ j letter later. refl;
      shaped = λ x inside.
          let short : x.0 < length (profile_of head).arguments = omega (arith, typed.parameters.number) in
          let there : (s : Shape ℕ) × (slice_get (profile_of head).arguments x.0 ≡ Some s) = slice_get-there (profile_of head).arguments x.0 short in
          let h = shape-at S fits.objects (profile_of head).arguments args fits.arguments x.0 there.0 there.1 in
          inr (subst (λ s. HasShape S (given_names fits.objects) s (at args x)) (sym (typed.steps.parameters x.0 there.0 there.1)) (renamed-HasShape S (given_names fits.objects) Given there.0 (at args x) h));
    }

    typed_from_start : TypedFrom typed.types body.params 0 body.steps
    typed_from_start = from_each typed.types body.steps body.params 0 (λ j s e. rw zero-add (typed.steps.each j s e))

    objects_by : (Symbol → Option Obj) → ℕ → Option Obj
    objects_by names x = names (typed.answer.objects x)

    answer_fits_by : (v : Value Obj Mor) → Ended S typed.types body.answer (given_names fits.objects) v → FitsWithAnswer S head args v
    unfolding objects_by
    answer_fits_by v end = record {
      operation = fits.operation;
      objects = objects_by end.names;
      arguments = HaveShapes-wider S fits.objects (objects_by end.names) (profile_of head).arguments args
          (λ x m a e. ap end.names (typed.answer.given x (Contains-among (places (profile_of head).arguments) x m)) ∙ end.given x ∙ e) fits.arguments;
      answer = elim end.is [
        | inl e ↦ inl e
        | inr h ↦ inr (HasShape-renamed S end.names typed.answer.objects (profile_of head).answer v (subst (λ s. HasShape S end.names s v) typed.answer.answered h))
      ];
    }

  pub never_mismatches : (head : ℕ) (body : Body) → NeverMismatches S head body
  never_mismatches head body = record {
    calls_fit = λ typed args fits op called c.
        comes-fit S typed.types body.steps body.params 0 args (given_names fits.objects) (held_at_start head body typed args fits) (typed_from_start head body typed args fits) op called c;
    answer_fits = λ typed args fits v g.
        answer_fits_by head body typed args fits v
        (ends-at S typed.types body.steps body.params 0 args (given_names fits.objects) (held_at_start head body typed args fits) (typed_from_start head body typed args fits) body.answer typed.known v g);
  }
