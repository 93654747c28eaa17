-- The parameters of a body are the arguments of its head, and its answer is compared with the head's.
use Rattle.std.proofs.Common.{◌≡◌, ℕ, ◌<◌, ◌≤◌, List, [], ◌∷◌, ◌++◌, length, take, refl, sym, ◌∙◌, arith}
use Rattle.std.specs.Prelude.{Some, option_and_then, slice_get, map}
use Rattle.std.proofs.lemmas.List.Elements.{All-nil, All-cons}
use Rattle.cap_ops.specs.declared.ends.Shape.{Shape}
use Rattle.cap_ops.specs.Ends.{profile_of, places, ends_in, renamed}
use Rattle.cap_ops.proofs.Letters.{AllBelow, few_letters}
use Rattle.cap_terms.specs.declared.body.Var.{Var}
use Rattle.cap_terms.specs.declared.symbol.Symbol.{Symbol}
use Rattle.cap_terms.specs.declared.symbol.Symbol.TheVariants.{Given}
use Rattle.cap_terms.specs.Typing.{Assignment, AllBefore, shapes_at, AnswerTyped}
use Rattle.cap_terms.specs.Checker.{Bindings, no_bindings, bound_shape, bound_args, object_in, first_variables, answer_bindings}
use Rattle.cap_terms.proofs.Bindings.{Found, Binds, join, shape_binds}
use Rattle.cap_ops.proofs.Places.{same-at_letters, renamed-alike}
use Rattle.cap_terms.proofs.Calls.{Knows, Fit, args_bind, nothing-extends, object_in-extends, Contains-among, Among-contains}
use Rattle.cap_terms.proofs.Steps.{look-sound, look-complete}

-- T gives the first variables these shapes
abbrev pub Gives : Assignment → List (Shape ℕ) → Type 0
Gives T ss = (i : ℕ) (s : Shape ℕ) → slice_get ss i ≡ Some s → T i ≡ renamed Given s

variable_shapes : (T : Assignment) (ss : List (Shape ℕ)) → length ss ≤ 4 → Gives T ss → shapes_at T (take (length ss) first_variables) ≡ map (renamed Given) ss
variable_shapes T [] few given = refl
variable_shapes T (a ∷ []) few given = let p = given 0 a refl in cc
variable_shapes T (a ∷ b ∷ []) few given = let p = given 0 a refl in let q = given 1 b refl in cc
variable_shapes T (a ∷ b ∷ c ∷ []) few given = let p = given 0 a refl in let q = given 1 b refl in let r = given 2 c refl in cc
variable_shapes T (a ∷ b ∷ c ∷ d ∷ []) few given = let p = given 0 a refl in let q = given 1 b refl in let r = given 2 c refl in let s = given 3 d refl in cc
variable_shapes T (a ∷ b ∷ c ∷ d ∷ e ∷ ss) few given = absurd (omega arith)

abbrev v : ℕ → Var
v i = record { 0 = i }

variables_before : (n : ℕ) (ss : List (Shape ℕ)) → length ss ≤ 4 → length ss ≤ n → AllBefore n (take (length ss) first_variables)
variables_before n [] few inside = All-nil (λ x. x.0 < n)
variables_before n (a ∷ []) few inside = All-cons (λ x. x.0 < n) (v 0) ([]) (omega arith) (All-nil (λ x. x.0 < n))
variables_before n (a ∷ b ∷ []) few inside = All-cons (λ x. x.0 < n) (v 0) (v 1 ∷ []) (omega arith) (All-cons (λ x. x.0 < n) (v 1) ([]) (omega arith) (All-nil (λ x. x.0 < n)))
variables_before n (a ∷ b ∷ c ∷ []) few inside = All-cons (λ x. x.0 < n) (v 0) (v 1 ∷ v 2 ∷ []) (omega arith) (All-cons (λ x. x.0 < n) (v 1) (v 2 ∷ []) (omega arith) (All-cons (λ x. x.0 < n) (v 2) ([]) (omega arith) (All-nil (λ x. x.0 < n))))
variables_before n (a ∷ b ∷ c ∷ d ∷ []) few inside = All-cons (λ x. x.0 < n) (v 0) (v 1 ∷ v 2 ∷ v 3 ∷ []) (omega arith) (All-cons (λ x. x.0 < n) (v 1) (v 2 ∷ v 3 ∷ []) (omega arith) (All-cons (λ x. x.0 < n) (v 2) (v 3 ∷ []) (omega arith) (All-cons (λ x. x.0 < n) (v 3) ([]) (omega arith) (All-nil (λ x. x.0 < n)))))
variables_before n (a ∷ b ∷ c ∷ d ∷ e ∷ ss) few inside = absurd (omega arith)

AllBelow-append : (n : ℕ) (xs ys : List ℕ) → AllBelow n xs → AllBelow n ys → AllBelow n (xs ++ ys)
AllBelow-append n [] ys h k = k
AllBelow-append n (x ∷ xs) ys h k = (h.0, AllBelow-append n xs ys h.1 k)

module _ (known : List (Shape Symbol)) (T : Assignment) (knows : Knows known T) (head params : ℕ) (many : params ≡ length (profile_of head).arguments) (inside : params ≤ length known) (given : Gives T (profile_of head).arguments) where
  abbrev vars : List Var
  vars = take params first_variables

  given_shapes_are : shapes_at T vars ≡ map (renamed Given) (profile_of head).arguments
  given_shapes_are = rw many (variable_shapes T (profile_of head).arguments (few_letters head).2 given)

  vars_before : AllBefore (length known) vars
  vars_before = rw many (variables_before (length known) (profile_of head).arguments (few_letters head).2 (rw (← many) inside))

  compared : (s : Shape Symbol) → Binds (λ b. option_and_then (λ c. bound_shape c (profile_of head).answer s) (bound_args known b (profile_of head).arguments vars)) (λ σ. Fit known T knows (profile_of head).arguments vars σ × (s ≡ renamed σ (profile_of head).answer)) (places (profile_of head).arguments ++ ends_in (profile_of head).answer)
  compared s = join (args_bind known T knows (profile_of head).arguments vars) (shape_binds (profile_of head).answer s)

  pub answer-sound : (x : Var) (b : Bindings) → answer_bindings known head params x ≡ Some b → (x.0 < length known) × AnswerTyped head (T x.0)
  answer-sound x b e =
      let l = look-sound known T knows (λ s. option_and_then (λ c. bound_shape c (profile_of head).answer s) (bound_args known no_bindings (profile_of head).arguments vars)) x.0 b e in
      let bound = (compared (T x.0)).sound no_bindings b l.1 in
      let fit = bound.fits (object_in Given b) (object_in-extends Given b) in (
        l.0,
        record {
          objects = object_in Given b;
          given = λ letter m. same-at_letters (object_in Given b) Given (profile_of head).arguments letter (sym fit.0.1 ∙ given_shapes_are) (Among-contains (places (profile_of head).arguments) letter m);
          answered = fit.1;
        },
      )

  pub answer-complete : (x : Var) → x.0 < length known → AnswerTyped head (T x.0) → (b : Bindings) × (answer_bindings known head params x ≡ Some b)
  answer-complete x before typed =
      let alike : shapes_at T vars ≡ map (renamed typed.objects) (profile_of head).arguments =
      given_shapes_are ∙ renamed-alike Given typed.objects (profile_of head).arguments (λ y m. sym (typed.given y (Contains-among (places (profile_of head).arguments) y m))) in
      let found : Found (option_and_then (λ c. bound_shape c (profile_of head).answer (T x.0)) (bound_args known no_bindings (profile_of head).arguments vars)) no_bindings typed.objects =
      (compared (T x.0)).complete no_bindings typed.objects (nothing-extends typed.objects) ((vars_before, alike), typed.answered) (AllBelow-append 5 (places (profile_of head).arguments) (ends_in (profile_of head).answer) (few_letters head).0 (few_letters head).1) in
      (found.found, look-complete known T knows (λ s. option_and_then (λ c. bound_shape c (profile_of head).answer s) (bound_args known no_bindings (profile_of head).arguments vars)) x.0 found.found before found.is)
