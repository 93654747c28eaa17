-- A call is typed exactly where binding its letters succeeds, and its answer has the objects that were found.
use Rattle.std.proofs.Common.{◌≡◌, ℕ, zero, suc, ◌<◌, Bool, true, false, List, [], ◌∷◌, length, refl, sym, ap, ◌∙◌, subst, inl, inr, arith}
use Rattle.std.specs.Prelude.{Option, Some, None, option_and_then, option_map, slice_get, map, Contains, if◌then◌else◌, nat_le}
use Rattle.std.proofs.lemmas.List.Elements.{All-nil, All-cons, All-head, All-tail}
use Rattle.std.proofs.lemmas.Option.{slice_get_within}
use Rattle.std.proofs.lemmas.Bool.{leb-true, le-leb}
use Rattle.std.proofs.Math.Path.{fun_ext}
use Rattle.cap_ops.specs.declared.ends.Shape.{Shape}
use Rattle.cap_ops.specs.Ends.{profile_of, places, renamed, IsOperation}
use Rattle.cap_ops.proofs.Letters.{few_letters, both-true}
use Rattle.cap_terms.specs.declared.body.Var.{Var}
use Rattle.cap_terms.specs.declared.symbol.Symbol.{Symbol}
use Rattle.cap_terms.specs.declared.symbol.Symbol.TheVariants.{Made}
use Rattle.cap_terms.specs.Typing.{Assignment, AllBefore, shapes_at, CallTyped}
use Rattle.cap_terms.specs.Checker.{Bindings, no_bindings, bound_shape, bound_args, or_fresh, object_in, call_shape, is_operation}
use Rattle.cap_terms.proofs.Bindings.{Extends, Unbound, Bound, Found, Binds, join, reworded, nothing, refuses, shape_binds}
use Rattle.cap_ops.proofs.Places.{Among, none≢some, some_inner}

-- the list has the shapes of the first variables
pub record Knows (known : List (Shape Symbol)) (T : Assignment) : Type 0 where
  pub is : (i : ℕ) → i < length known → slice_get known i ≡ Some (T i)

module _ (known : List (Shape Symbol)) (T : Assignment) (knows : Knows known T) where
  pub shape_known : (x : ℕ) (t : Shape Symbol) → slice_get known x ≡ Some t → T x ≡ t
  shape_known x t at = some_inner (sym (knows.is x (slice_get_within known x t at)) ∙ at)

  -- the letters of the arguments ss are bound to the ends of the variables xs
  abbrev pub Fit : List (Shape ℕ) → List Var → (ℕ → Symbol) → Type 0
  Fit ss xs σ = AllBefore (length known) xs × (shapes_at T xs ≡ map (renamed σ) ss)

  args_next : (s : Shape ℕ) (ss : List (Shape ℕ)) (x : Var) (xs : List Var) → Binds (λ b. bound_args known b ss xs) (Fit ss xs) (places ss) → (o : Option (Shape Symbol)) → slice_get known x.0 ≡ o
      → Binds (λ b. option_and_then (λ t. option_and_then (λ c. bound_args known c ss xs) (bound_shape b s t)) o) (Fit (s ∷ ss) (x ∷ xs)) (places (s ∷ ss))
  args_next s ss x xs rest None at = refuses (λ σ h. none≢some (sym at ∙ knows.is x.0 (All-head (λ y. y.0 < length known) x xs h.0)))
  args_next s ss x xs rest (Some t) at =
      reworded
      (λ σ h. let same = shape_known x.0 t at in let e = h.0 in let r = h.1.1 in (All-cons (λ y. y.0 < length known) x xs (slice_get_within known x.0 t at) h.1.0, cc))
      (λ σ h. let same = shape_known x.0 t at in let e = h.1 in (cc, (All-tail (λ y. y.0 < length known) x xs h.0, cc)))
      (join (shape_binds s t) rest)

  pub args_bind : (ss : List (Shape ℕ)) (xs : List Var) → Binds (λ b. bound_args known b ss xs) (Fit ss xs) (places ss)
  args_bind [] [] = reworded (λ σ h. (All-nil (λ x. x.0 < length known), refl)) (λ σ h. tt) nothing
  args_bind [] (x ∷ xs) = refuses (λ σ h. let e = h.1 in cc)
  args_bind (s ∷ ss) [] = refuses (λ σ h. let e = h.1 in cc)
  args_bind (s ∷ ss) (x ∷ xs) = args_next s ss x xs (args_bind ss xs) (slice_get known x.0) refl

pub Among-contains : (xs : List ℕ) (y : ℕ) → Contains xs y → Among xs y
Among-contains [] y h = absurd (omega arith)
Among-contains (x ∷ xs) y (zero, inside, here) = inl here
Among-contains (x ∷ xs) y (suc k, inside, here) = inr (Among-contains xs y (k, omega arith, here))

pub Contains-among : (xs : List ℕ) (y : ℕ) → Among xs y → Contains xs y
Contains-among [] y m = absurd m
Contains-among (x ∷ xs) y m = elim m [ inl e ↦ (0, omega arith, e) | inr r ↦ let c : Contains xs y = Contains-among xs y r in (suc c.0, omega arith, c.2) ]

-- the objects that are found keep to the bindings, and are new where nothing is bound
pub object_in-extends : (fresh : ℕ → Symbol) (b : Bindings) → Extends (object_in fresh b) b
object_in-extends fresh b = record { keeps = λ y a at. rw at refl }

object_in-unbound : (fresh : ℕ → Symbol) (b : Bindings) (y : ℕ) → Unbound b y → object_in fresh b y ≡ fresh y
object_in-unbound fresh b y h = go (slice_get b y) refl
  where
    go : (o : Option (Option Symbol)) → slice_get b y ≡ o → or_fresh (fresh y) o ≡ fresh y
    go None at = refl
    go (Some None) at = refl
    go (Some (Some a)) at = absurd (h.is a at)

pub nothing-unbound : (y : ℕ) → Unbound no_bindings y
nothing-unbound zero = record { is = λ a e. cc }
nothing-unbound (suc zero) = record { is = λ a e. cc }
nothing-unbound (suc (suc zero)) = record { is = λ a e. cc }
nothing-unbound (suc (suc (suc zero))) = record { is = λ a e. cc }
nothing-unbound (suc (suc (suc (suc zero)))) = record { is = λ a e. cc }
nothing-unbound (suc (suc (suc (suc (suc y))))) = record { is = λ a e. cc }

pub nothing-extends : (σ : ℕ → Symbol) → Extends σ no_bindings
nothing-extends σ = record { keeps = λ y a at. absurd ((nothing-unbound y).is a at) }

-- a choice of objects that keeps to the bindings, and names new objects alike where nothing is bound, is the one that is found
object_in-is : (fresh σ : ℕ → Symbol) (b : Bindings) → Extends σ b → ((y : ℕ) → Unbound b y → σ y ≡ fresh y) → (y : ℕ) → object_in fresh b y ≡ σ y
object_in-is fresh σ b h new y = go (slice_get b y) refl
  where
    go : (o : Option (Option Symbol)) → slice_get b y ≡ o → or_fresh (fresh y) o ≡ σ y
    go None at = sym (new y (record { is = λ a e. none≢some (sym at ∙ e) }))
    go (Some None) at = sym (new y (record { is = λ a e. none≢some (some_inner (sym at ∙ e)) }))
    go (Some (Some a)) at = sym (h.keeps y a at)

pub is_operation-true : (op : ℕ) → is_operation op ≡ true → IsOperation op
is_operation-true op h = let e = both-true (nat_le 1 op) (nat_le op 44) h in (leb-true 1 op e.0, leb-true op 44 e.1)

pub operation-is : (op : ℕ) → IsOperation op → is_operation op ≡ true
operation-is op h = rw (le-leb 1 op h.0, le-leb op 44 h.1) refl

-- calls, where the shapes of the first variables are known
module _ (known : List (Shape Symbol)) (T : Assignment) (knows : Knows known T) (k op : ℕ) (xs : List Var) where
  abbrev answer_by : Bindings → Shape Symbol
  answer_by b = renamed (object_in (Made k) b) (profile_of op).answer

  binds : Binds (λ b. bound_args known b (profile_of op).arguments xs) (Fit known T knows (profile_of op).arguments xs) (places (profile_of op).arguments)
  binds = args_bind known T knows (profile_of op).arguments xs

  typed-by : (b : Bindings) → IsOperation op → Bound no_bindings b (Fit known T knows (profile_of op).arguments xs) (places (profile_of op).arguments) → AllBefore (length known) xs × CallTyped k op (shapes_at T xs) (answer_by b)
  typed-by b is bound =
      let fit : Fit known T knows (profile_of op).arguments xs (object_in (Made k) b) = bound.fits (object_in (Made k) b) (object_in-extends (Made k) b) in (
        fit.0,
        record {
          operation = is;
          objects = object_in (Made k) b;
          arguments = fit.1;
          new_objects = λ letter new. object_in-unbound (Made k) b letter (bound.fresh letter (nothing-unbound letter) (λ m. new (Contains-among (places (profile_of op).arguments) letter m)));
          answered = refl;
        },
      )

  sound-by : (answer : Shape Symbol) (t : Bool) (o : Option Bindings) → is_operation op ≡ t → bound_args known no_bindings (profile_of op).arguments xs ≡ o → (if t then option_map answer_by o else None) ≡ Some answer
      → AllBefore (length known) xs × CallTyped k op (shapes_at T xs) answer
  sound-by answer false o is at e = absurd (none≢some e)
  sound-by answer true None is at e = absurd (none≢some e)
  sound-by answer true (Some b) is at e =
      subst (λ s. AllBefore (length known) xs × CallTyped k op (shapes_at T xs) s) (some_inner e) (typed-by b (is_operation-true op is) (binds.sound no_bindings b at))

  pub call-sound : (answer : Shape Symbol) → call_shape known k op xs ≡ Some answer → AllBefore (length known) xs × CallTyped k op (shapes_at T xs) answer
  call-sound answer e = sound-by answer (is_operation op) (bound_args known no_bindings (profile_of op).arguments xs) refl refl e

  pub call-complete : (answer : Shape Symbol) → AllBefore (length known) xs → CallTyped k op (shapes_at T xs) answer → call_shape known k op xs ≡ Some answer
  call-complete answer before call =
      let found : Found (bound_args known no_bindings (profile_of op).arguments xs) no_bindings call.objects = binds.complete no_bindings call.objects (nothing-extends call.objects) (before, call.arguments) (few_letters op).0 in
      let bound : Bound no_bindings found.found (Fit known T knows (profile_of op).arguments xs) (places (profile_of op).arguments) = binds.sound no_bindings found.found found.is in
      let new : (y : ℕ) → Unbound found.found y → call.objects y ≡ Made k y = λ y h. call.new_objects y (λ m. bound.not_among y h (Among-contains (places (profile_of op).arguments) y m)) in
      let same : object_in (Made k) found.found ≡ call.objects = fun_ext (object_in-is (Made k) call.objects found.found found.extends new) in
      rw (operation-is op call.operation, found.is) (ap Some (ap (λ (σ : ℕ → Symbol). renamed σ (profile_of op).answer) same ∙ sym call.answered))
