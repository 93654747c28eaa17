-- How a plan's certificate is spelled: it keeps the limits, and spells the certificate.
use Rattle.std.proofs.Common.{◌≡◌, ℕ, suc, ◌+◌, ◌<◌, ◌≤◌, List, [], ◌∷◌, ◌++◌, length, map, replicate, true, Option, Some, None, refl, sym, ap, ◌∙◌, arith, append_assoc, lit<}
use Rattle.std.specs.Prelude.{codes, slice_index, slice_set}
use Rattle.std.specs.List.{All, slice_index_or}
use Rattle.std.proofs.Math.Seq.{set-append_seam}
use Rattle.std.specs.Char.{is_ascii_digit}
use Rattle.std.proofs.lemmas.List.Sums.{AllPass-from_list_all}
use Rattle.cap_names.specs.Words.{IsNumber}
use Rattle.std.proofs.lemmas.List.Elements.{All-nil, All-cons, All-head, All-tail}
use Rattle.cap_ops.specs.declared.plans.Choice.{Choice}
use Rattle.cap_ops.specs.declared.plans.Choice.TheVariants.{Prim, Rule, Missing}
use Rattle.cap_ops.specs.declared.plans.TheConstants.{OPERATIONS, NO_PLAN, MOST_WEIGHT}
use Rattle.cap_ops.specs.Derivations.{IsWeight}
use Rattle.cap_cert.specs.Texts.{regs_from, way_of, ways_of}
use Rattle.cap_cert.specs.Reading.{IsWay, AreRegs, IsSpelled, weights_with, choice_of, bound_of, cert_of}
use Rattle.cap_cert_laws.specs.Written.{Subject, spelling, cert_at, IsWritableWay, IsWritable}
use Rattle.cap_cert_laws.proofs.Numbers.{decimal_value, decimal_within}

-- Registrations.
regs_spelled : (low place : ℕ) (weights : List (Option ℕ)) → low ≤ place → place + length weights ≤ OPERATIONS → All IsWeight weights → AreRegs true low (regs_from place weights)
regs_spelled low place [] le few are = tt
regs_spelled low place (None ∷ weights) le few are = regs_spelled low (suc place) weights (omega (arith, le)) (omega (arith, few)) (All-tail IsWeight None weights are)
regs_spelled low place (Some n ∷ weights) le few are =
    let is : IsWeight (Some n) = All-head IsWeight (Some n) weights are in
    (le, omega (arith, few), decimal_within 1 MOST_WEIGHT n (lit< tt) (is.from n refl) (is.to n refl), regs_spelled (suc place) (suc place) weights (omega arith) (omega (arith, few)) (All-tail IsWeight (Some n) weights are))

length-more : {A : Type 0} (front : List A) (x : A) → length (front ++ x ∷ []) ≡ suc (length front)
length-more [] x = refl
length-more (y ∷ front) x = ap suc (length-more front x)

-- the weights behind a front, put one by one in the places of none
regs_again : (front weights : List (Option ℕ)) → All IsWeight weights → weights_with (front ++ replicate (length weights) None) (regs_from (length front) weights) ≡ front ++ weights
regs_again front [] are = refl
regs_again front (None ∷ weights) are =
    let more : List (Option ℕ) = front ++ None ∷ [] in
    let nones : List (Option ℕ) = replicate (length weights) None in
    ap (λ l. weights_with l (regs_from (suc (length front)) weights)) (sym (append_assoc front (None ∷ []) nones))
    ∙ ap (λ k. weights_with (more ++ nones) (regs_from k weights)) (sym (length-more front None))
    ∙ regs_again more weights (All-tail IsWeight None weights are)
    ∙ append_assoc front (None ∷ []) weights
regs_again front (Some n ∷ weights) are =
    let more : List (Option ℕ) = front ++ Some n ∷ [] in
    let nones : List (Option ℕ) = replicate (length weights) None in
    let most : n ≤ MOST_WEIGHT = (All-head IsWeight (Some n) weights are).to n refl in
    ap (λ w. weights_with (slice_set (front ++ None ∷ nones) (length front) (Some w)) (regs_from (suc (length front)) weights)) (decimal_value n (omega (arith, most)))
    ∙ ap (λ l. weights_with l (regs_from (suc (length front)) weights)) (set-append_seam front None nones (Some n) ∙ sym (append_assoc front (Some n ∷ []) nones))
    ∙ ap (λ k. weights_with (more ++ nones) (regs_from k weights)) (sym (length-more front (Some n)))
    ∙ regs_again more weights (All-tail IsWeight (Some n) weights are)
    ∙ append_assoc front (Some n ∷ []) weights

weights_again : (weights : List (Option ℕ)) → length weights ≡ OPERATIONS → All IsWeight weights → weights_with (replicate OPERATIONS None) (regs_from 0 weights) ≡ weights
weights_again weights long are = ap (λ n. weights_with (replicate n None) (regs_from 0 weights)) (sym long) ∙ regs_again [] weights are

-- Choices and bounds.
abbrev Writable : List Choice → List ℕ → Type 0
Writable choices bounds = (i : ℕ) → i < length choices → IsWritableWay (slice_index_or choices i Missing) (slice_index bounds i)

first_writable : (choice : Choice) (choices : List Choice) (bound : ℕ) (bounds : List ℕ) → Writable (choice ∷ choices) (bound ∷ bounds) → IsWritableWay choice bound
first_writable choice choices bound bounds h = h 0 (omega arith)

others_writable : (choice : Choice) (choices : List Choice) (bound : ℕ) (bounds : List ℕ) → Writable (choice ∷ choices) (bound ∷ bounds) → Writable choices bounds
others_writable choice choices bound bounds h = λ i lt. h (suc i) (omega (arith, lt))

way_spelled : (choice : Choice) (bound : ℕ) → IsWritableWay choice bound → IsWay true (way_of choice bound)
way_spelled Prim bound is = decimal_within 0 NO_PLAN bound (lit< tt) (omega arith) is.capped
way_spelled (Rule number) bound is = let range = is.rule number refl in (decimal_within 1 59 number.0 (lit< tt) range.0 range.1, decimal_within 0 NO_PLAN bound (lit< tt) (omega arith) is.capped)
way_spelled Missing bound is = tt

choice_again : (choice : Choice) (bound : ℕ) → IsWritableWay choice bound → choice_of (way_of choice bound) ≡ choice
choice_again Prim bound is = refl
choice_again (Rule number) bound is = let range = is.rule number refl in ap (λ n. Rule (record { 0 = n })) (decimal_value number.0 (omega (arith, range.1)))
choice_again Missing bound is = refl

bound_again : (choice : Choice) (bound : ℕ) → IsWritableWay choice bound → bound_of (way_of choice bound) ≡ bound
bound_again Prim bound is = decimal_value bound (omega (arith, is.capped))
bound_again (Rule number) bound is = decimal_value bound (omega (arith, is.capped))
bound_again Missing bound is = sym (is.missing refl)

ways_spelled : (choices : List Choice) (bounds : List ℕ) → length choices ≡ length bounds → Writable choices bounds → All (IsWay true) (ways_of choices bounds)
ways_spelled [] bounds e h = All-nil (IsWay true)
ways_spelled (choice ∷ choices) [] e h = All-nil (IsWay true)
ways_spelled (choice ∷ choices) (bound ∷ bounds) e h =
    All-cons (IsWay true) (way_of choice bound) (ways_of choices bounds) (way_spelled choice bound (first_writable choice choices bound bounds h)) (ways_spelled choices bounds (omega (arith, e)) (others_writable choice choices bound bounds h))

ways_count : (choices : List Choice) (bounds : List ℕ) → length choices ≡ length bounds → length (ways_of choices bounds) ≡ length choices
ways_count [] bounds e = refl
ways_count (choice ∷ choices) [] e = absurd (omega (arith, e))
ways_count (choice ∷ choices) (bound ∷ bounds) e = ap suc (ways_count choices bounds (omega (arith, e)))

choices_again : (choices : List Choice) (bounds : List ℕ) → length choices ≡ length bounds → Writable choices bounds → map choice_of (ways_of choices bounds) ≡ choices
choices_again [] bounds e h = refl
choices_again (choice ∷ choices) [] e h = absurd (omega (arith, e))
choices_again (choice ∷ choices) (bound ∷ bounds) e h =
    let one = choice_again choice bound (first_writable choice choices bound bounds h) in
    let rest = choices_again choices bounds (omega (arith, e)) (others_writable choice choices bound bounds h) in
    λ i. one i ∷ rest i

bounds_again : (choices : List Choice) (bounds : List ℕ) → length choices ≡ length bounds → Writable choices bounds → map bound_of (ways_of choices bounds) ≡ bounds
bounds_again [] [] e h = refl
bounds_again [] (bound ∷ bounds) e h = absurd (omega (arith, e))
bounds_again (choice ∷ choices) [] e h = absurd (omega (arith, e))
bounds_again (choice ∷ choices) (bound ∷ bounds) e h =
    let one = bound_again choice bound (first_writable choice choices bound bounds h) in
    let rest = bounds_again choices bounds (omega (arith, e)) (others_writable choice choices bound bounds h) in
    λ i. one i ∷ rest i

-- Certificates.
ways_within : (s : Subject) → IsWritable s → Writable s.plan.choices s.plan.bounds
ways_within s is = λ i lt. is.ways i (omega (arith, lt, is.all_choices))

as_many : (s : Subject) → IsWritable s → length s.plan.choices ≡ length s.plan.bounds
as_many s is = omega (arith, is.all_choices, is.all_bounds)

one : IsNumber (codes "1")
one = record { some = omega arith; within = omega arith; all = AllPass-from_list_all is_ascii_digit (codes "1") refl }

pub is_spelled : (s : Subject) → IsWritable s → IsSpelled true (spelling s)
is_spelled s is = record {
  version = one;
  first_version = refl;
  name = is.category.name;
  regs = regs_spelled 0 0 s.regs.weights (omega arith) (omega (arith, is.category.all_weights)) is.category.weights;
  all_ways = ways_count s.plan.choices s.plan.bounds (as_many s is) ∙ is.all_choices;
  ways = ways_spelled s.plan.choices s.plan.bounds (as_many s is) (ways_within s is);
}

pub spells_again : (line : ℕ) (s : Subject) → IsWritable s → cert_of line (spelling s) ≡ cert_at line s
spells_again line s is =
    let weights = weights_again s.regs.weights is.category.all_weights is.category.weights in
    let choices = choices_again s.plan.choices s.plan.bounds (as_many s is) (ways_within s is) in
    let bounds = bounds_again s.plan.choices s.plan.bounds (as_many s is) (ways_within s is) in
    λ i. record { name = s.name; kind = s.kind; regs = record { weights = weights i }; plan = record { choices = choices i; bounds = bounds i }; first_line = line }
