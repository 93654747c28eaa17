-- Sorts of arguments and answers, and what stays of a board that grows.
use Rattle.std.proofs.Common.{◌≡◌, ℕ, zero, suc, ◌+◌, ◌*◌, ◌<◌, Bool, true, false, List, [], ◌∷◌, Option, Err, sym, subst, ◌∙◌, ap, refl, arith, inl, inr}
use Rattle.std.specs.Prelude.{◌&&◌, slice_get, map, unwrap_or}
use Rattle.cap_names.specs.declared.identifiers.Handle.{Handle}
use Rattle.cap_names.specs.declared.identifiers.OpId.{OpId}
use Rattle.cap_ops.specs.declared.ends.Shape.{Shape}
use Rattle.cap_ops.specs.declared.ends.Shape.TheVariants.{Object, Morphism, Two, Four, Truth, Scalar}
use Rattle.cap_ops.specs.declared.fitting.Mismatch.{Mismatch}
use Rattle.cap_ops.specs.declared.keys.Arg.{Arg}
use Rattle.cap_ops.specs.declared.keys.Arg.TheVariants.{Obj, Mor, Num}
use Rattle.cap_ops.specs.declared.sorts.Sort.TheVariants.{Num as NumSort}
use Rattle.cap_ops.specs.Ends.{Profile, profiles, profile_of, takes, sort_of}
use Rattle.cap_ops.specs.Values.{object, morphism, two, four, truth, scalar, HasShape, HaveShapes, Fits, FitsWithAnswer}
use Rattle.cap_ops.specs.Arrows.{ValueOver, over, arguments}
use Rattle.cap_ops.specs.Mismatches.{HaveSorts, sort_of_argument, IsMismatch}
use Rattle.cap_ops.specs.Told.{Known}
use Rattle.cap_ops.specs.Primitives.{OfferData}
use Rattle.cap_ops.proofs.Telling.{all-kept}
use Rattle.cap_terms.specs.declared.body.Var.{Var}
use Rattle.cap_terms.specs.declared.body.Step.TheVariants.{Call}
use Rattle.cap_terms.specs.declared.body.Rule.{Rule}
use Rattle.cap_terms.specs.Run.{all_at}
use Rattle.cap_steps.specs.Slots.{IsArgument, AreArguments, IsAnswer}
use Rattle.cap_board.specs.declared.refusals.CallRefusal.TheVariants.{Mismatch as MismatchRefusal}
use Rattle.cap_board.specs.Board.{BoardState, Grows}
use Rattle.cap_board.specs.Call.{depth, Ready, Chosen, Traced}
use Rattle.cap_board.proofs.Told.{tells-all-at, data-at}
use Rattle.cap_board.proofs.LoopSays.{LoopSays}
use Rattle.cap_board.proofs.StepsSay.{append-nil, depth-known}

-- the table has objects, morphisms and scalars as arguments, and neither objects nor scalars as answers
is_taken : Shape ℕ → Bool
is_taken (Object x) = true
is_taken (Morphism e) = true
is_taken Scalar = true
is_taken _ = false

are_taken : List (Shape ℕ) → Bool
are_taken [] = true
are_taken (s ∷ ss) = is_taken s && are_taken ss

is_given : Shape ℕ → Bool
is_given (Object x) = false
is_given Scalar = false
is_given _ = true

all_right : List Profile → Bool
all_right [] = true
all_right (p ∷ ps) = are_taken p.arguments && (is_given p.answer && all_right ps)

both-true : (a b : Bool) → (a && b) ≡ true → (a ≡ true) × (b ≡ true)
both-true true true h = (refl, refl)
both-true true false h = absurd (cc)
both-true false b h = absurd (cc)

right-at : (ps : List Profile) → all_right ps ≡ true → (n : ℕ) → (are_taken (unwrap_or (slice_get ps n) (takes [] Truth)).arguments ≡ true) × (is_given (unwrap_or (slice_get ps n) (takes [] Truth)).answer ≡ true)
unfolding all_right are_taken is_given
right-at [] h n = (refl, refl)
right-at (p ∷ ps) h zero = let a = both-true (are_taken p.arguments) (is_given p.answer && all_right ps) h in (a.0, (both-true (is_given p.answer) (all_right ps) a.1).0)
right-at (p ∷ ps) h (suc n) = let a = both-true (are_taken p.arguments) (is_given p.answer && all_right ps) h in right-at ps (both-true (is_given p.answer) (all_right ps) a.1).1 n

table-right : all_right profiles ≡ true
unfolding all_right are_taken is_taken is_given
table-right = refl

op-right : (op : ℕ) → (are_taken (profile_of op).arguments ≡ true) × (is_given (profile_of op).answer ≡ true)
unfolding are_taken is_given
op-right zero = (refl, refl)
op-right (suc n) = right-at profiles table-right n

false≢true : false ≡ true → ⊥
false≢true e = cc

module _ {M : Type 0} (p : ℕ) (f : ℕ → Option Handle) where
  shape-argument : (s : Shape ℕ) (v : ValueOver Handle M) → is_taken s ≡ true → HasShape (over p) f s v → IsArgument v
  unfolding is_taken
  shape-argument (Object x) (object a) e h = tt
  shape-argument (Morphism d) (morphism m) e h = tt
  shape-argument Scalar (scalar n) e h = tt
  shape-argument (Object x) _ e h = absurd h
  shape-argument (Morphism d) _ e h = absurd h
  shape-argument Scalar _ e h = absurd h
  shape-argument (Two d g) v e h = absurd (false≢true e)
  shape-argument (Four a b c d) v e h = absurd (false≢true e)
  shape-argument Truth v e h = absurd (false≢true e)

  shapes-arguments : (ss : List (Shape ℕ)) (vs : List (ValueOver Handle M)) → are_taken ss ≡ true → HaveShapes (over p) f ss vs → AreArguments vs
  unfolding are_taken
  shapes-arguments [] [] e h = tt
  shapes-arguments (s ∷ ss) (v ∷ vs) e h = let b = both-true (is_taken s) (are_taken ss) e in (shape-argument s v b.0 h.0, shapes-arguments ss vs b.1 h.1)
  shapes-arguments [] (v ∷ vs) e h = absurd h
  shapes-arguments (s ∷ ss) [] e h = absurd h

  shape-answer : (s : Shape ℕ) (v : ValueOver Handle M) → is_given s ≡ true → HasShape (over p) f s v → IsAnswer v
  unfolding is_given
  shape-answer (Morphism d) (morphism m) e h = tt
  shape-answer (Two d g) (two m n) e h = tt
  shape-answer (Four a b c d) (four m n k l) e h = tt
  shape-answer Truth (truth b) e h = tt
  shape-answer (Object x) v e h = absurd (false≢true e)
  shape-answer Scalar v e h = absurd (false≢true e)
  shape-answer (Morphism d) _ e h = absurd h
  shape-answer (Two d g) _ e h = absurd h
  shape-answer (Four a b c d) _ e h = absurd h
  shape-answer Truth _ e h = absurd h

  have-sorts : (ss : List (Shape ℕ)) (args : List (Arg M)) → HaveShapes (over p) f ss (arguments args) → map sort_of_argument args ≡ map sort_of ss
  have-sorts [] [] h = refl
  have-sorts (Object x ∷ ss) (Obj a ∷ args) h = ap (λ xs. sort_of (Object x) ∷ xs) (have-sorts ss args h.1)
  have-sorts (Morphism e ∷ ss) (Mor a ∷ args) h = ap (λ xs. sort_of (Morphism e) ∷ xs) (have-sorts ss args h.1)
  have-sorts (Scalar ∷ ss) (Num n ∷ args) h = ap (λ xs. NumSort ∷ xs) (have-sorts ss args h.1)
  have-sorts [] (a ∷ args) h = absurd h
  have-sorts (s ∷ ss) [] h = absurd h
  have-sorts (Object x ∷ ss) (Mor a ∷ args) h = absurd h.0
  have-sorts (Object x ∷ ss) (Num n ∷ args) h = absurd h.0
  have-sorts (Morphism e ∷ ss) (Obj a ∷ args) h = absurd h.0
  have-sorts (Morphism e ∷ ss) (Num n ∷ args) h = absurd h.0
  have-sorts (Scalar ∷ ss) (Obj a ∷ args) h = absurd h.0
  have-sorts (Scalar ∷ ss) (Mor a ∷ args) h = absurd h.0
  have-sorts (Two c d ∷ ss) (Obj a ∷ args) h = absurd h.0
  have-sorts (Two c d ∷ ss) (Mor a ∷ args) h = absurd h.0
  have-sorts (Two c d ∷ ss) (Num a ∷ args) h = absurd h.0
  have-sorts (Four b c d g ∷ ss) (Obj a ∷ args) h = absurd h.0
  have-sorts (Four b c d g ∷ ss) (Mor a ∷ args) h = absurd h.0
  have-sorts (Four b c d g ∷ ss) (Num a ∷ args) h = absurd h.0
  have-sorts (Truth ∷ ss) (Obj a ∷ args) h = absurd h.0
  have-sorts (Truth ∷ ss) (Mor a ∷ args) h = absurd h.0
  have-sorts (Truth ∷ ss) (Num a ∷ args) h = absurd h.0

pub fits-arguments : {M : Type 0} (p op : ℕ) (vs : List (ValueOver Handle M)) → Fits (over p) op vs → AreArguments vs
fits-arguments p op vs h = shapes-arguments p h.objects (profile_of op).arguments vs (op-right op).0 h.arguments

pub fits-sorts : {M : Type 0} (p op : ℕ) (args : List (Arg M)) → Fits (over p) op (arguments args) → HaveSorts op args
fits-sorts p op args h = record { operation = h.operation; sorts = have-sorts p h.objects (profile_of op).arguments args h.arguments }

pub fits-answer : {M : Type 0} (p op : ℕ) (vs : List (ValueOver Handle M)) (v : ValueOver Handle M) → FitsWithAnswer (over p) op vs v → IsAnswer v
fits-answer p op vs v h = elim h.answer [ inl e ↦ subst IsAnswer (sym e) tt | inr s ↦ shape-answer p h.objects (profile_of op).answer v (op-right op).1 s ]

module _ {X O M : Type 0} where
  pub ready-more : (s : BoardState X O M) (told : Handle → Option O) (s' : BoardState X O M) (told' : Handle → Option O) (offer : X) (rules : List Rule) → Ready s offer rules → Grows s told s' told' → Ready s' offer rules
  ready-more s told s' told' offer rules r g = record { offers = g.offer ∙ r.offers; by_rules = g.rules ∙ r.by_rules; are = r.are }

  pub known-more : (D : OfferData O M) (s : BoardState X O M) (told : Handle → Option O) (s' : BoardState X O M) (told' : Handle → Option O) (vs : List (ValueOver Handle M)) → Grows s told s' told' → Known D.category told vs → Known D.category told' vs
  known-more D s told s' told' vs g k = record { data_of = k.data_of; tells = all-kept told told' g.stays vs k.data_of k.tells; are = k.are }

  pub step-falls : (D : OfferData O M) (s : BoardState X O M) (head : ℕ) (op : OpId) (xs : List Var) → Chosen D s head (Call op xs ∷ []) → 3 * depth s.plan op.0 + 2 < 3 * depth s.plan head
  step-falls D s head op xs chosen = let a = depth-known s.plan chosen.p op.0 chosen.planned.is in let b = depth-known s.plan chosen.p head chosen.planned.is in let l = chosen.below.0 in omega (arith, a, b, l)

  pub loop-falls : (D : OfferData O M) (r : Rule) (args : List (ValueOver Handle M)) (s0 : BoardState X O M) (told0 : Handle → Option O) (i : ℕ) (env : List (ValueOver Handle M)) (s : BoardState X O M) (told : Handle → Option O) → LoopSays D r args s0 told0 i env s told → 3 * depth s.plan r.cost.head.0 < 3 * depth s0.plan r.cost.head.0 + 1
  loop-falls D r args s0 told0 i env s told l = let a = depth-known s.plan l.p r.cost.head.0 (l.grows.plan l.p l.planned.is) in let b = depth-known s0.plan l.p r.cost.head.0 l.planned.is in omega (arith, a, b)

  pub mismatch-says : (D : OfferData O M) (s : BoardState X O M) (told : Handle → Option O) (op : ℕ) (args : List (Arg M)) (m : Mismatch) → IsMismatch op args m → Traced D s s told op args (Err (MismatchRefusal m))
  mismatch-says D s told op args m is = record { added = []; events = sym (append-nil s.events); trace = inl (m, is, refl, refl) }

pub known-at : {O M : Type 0} (D : OfferData O M) (told : Handle → Option O) (vs : List (ValueOver Handle M)) (xs : List Var) → Known D.category told vs → Known D.category told (all_at vs xs)
known-at D told vs xs k = record { data_of = all_at k.data_of xs; tells = tells-all-at told vs k.data_of xs k.tells; are = data-at D.category k.data_of xs k.are }
