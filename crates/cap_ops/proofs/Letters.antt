-- The letters of the table are the numbers 0 to 4, in the order of first mention, and an operation has at most four arguments.
use Rattle.std.proofs.Common.{◌≡◌, ℕ, zero, suc, ◌<◌, ◌≤◌, ◌+◌, Bool, true, false, List, [], ◌∷◌, ◌++◌, length, refl, ltb, leb, arith}
use Rattle.cap_ops.specs.declared.ends.Shape.TheVariants.{Truth}
use Rattle.std.specs.Prelude.{if◌then◌else◌, Option, Some, None, slice_get, unwrap_or, ◌&&◌, ◌==◌, nat_lt, nat_le}
use Rattle.std.specs.List.{list_any, list_all}
use Rattle.std.proofs.lemmas.Bool.{ltb-true, leb-true}
use Rattle.cap_ops.specs.Ends.{Profile, profiles, profile_of, takes, places, ends_in}

abbrev pub AllBelow : ℕ → List ℕ → Type 0
AllBelow n [] = Unit {0}
AllBelow n (x ∷ xs) = (x < n) × AllBelow n xs

abbrev pub HasFewLetters : Profile → Type 0
HasFewLetters p = AllBelow 5 (places p.arguments) × AllBelow 5 (ends_in p.answer) × (length p.arguments ≤ 4)

all_below : List ℕ → Bool
all_below [] = true
all_below (x ∷ xs) = nat_lt x 5 && all_below xs

has_few_letters : Profile → Bool
has_few_letters p = all_below (places p.arguments) && (all_below (ends_in p.answer) && nat_le (length p.arguments) 4)

all_few : List Profile → Bool
all_few [] = true
all_few (p ∷ ps) = has_few_letters p && all_few ps

pub both-true : (a b : Bool) → (a && b) ≡ true → (a ≡ true) × (b ≡ true)
both-true true true h = (refl, refl)
both-true true false h = absurd (cc)
both-true false b h = absurd (cc)

all_below-true : (xs : List ℕ) → all_below xs ≡ true → AllBelow 5 xs
unfolding all_below
all_below-true [] h = tt
all_below-true (x ∷ xs) h = let e = both-true (nat_lt x 5) (all_below xs) h in (ltb-true x 5 e.0, all_below-true xs e.1)

has_few_letters-true : (p : Profile) → has_few_letters p ≡ true → HasFewLetters p
unfolding has_few_letters
has_few_letters-true p h = let e = both-true (all_below (places p.arguments)) (all_below (ends_in p.answer) && nat_le (length p.arguments) 4) h in let f = both-true (all_below (ends_in p.answer)) (nat_le (length p.arguments) 4) e.1 in (all_below-true (places p.arguments) e.0, all_below-true (ends_in p.answer) f.0, leb-true (length p.arguments) 4 f.1)

all_few-true : (ps : List Profile) → all_few ps ≡ true → (n : ℕ) → HasFewLetters (unwrap_or (slice_get ps n) (takes [] Truth))
unfolding all_few
all_few-true [] h n = (tt, tt, omega arith)
all_few-true (p ∷ ps) h zero = has_few_letters-true p (both-true (has_few_letters p) (all_few ps) h).0
all_few-true (p ∷ ps) h (suc n) = all_few-true ps (both-true (has_few_letters p) (all_few ps) h).1 n

profiles_are_few : all_few profiles ≡ true
unfolding all_few has_few_letters all_below
profiles_are_few = refl

pub few_letters : (op : ℕ) → HasFewLetters (profile_of op)
few_letters zero = (tt, tt, omega arith)
few_letters (suc n) = all_few-true profiles profiles_are_few n

-- the letters are the numbers 0, 1, .. in the order of first mention
first_mentions : ℕ → List ℕ → Bool
first_mentions next [] = true
first_mentions next (x ∷ xs) = if x == next then first_mentions (next + 1) xs else nat_lt x next && first_mentions next xs

in_order : Bool
in_order = list_all (λ (p : Profile). first_mentions 0 (places (p.arguments ++ p.answer ∷ []))) profiles

in_order_is : in_order ≡ true
unfolding in_order first_mentions
in_order_is = refl
