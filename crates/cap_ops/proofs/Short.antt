-- Keys, values and results have few data, and name few objects.
use Rattle.std.proofs.Common.{◌≡◌, ℕ, ◌*◌, ◌+◌, ◌≤◌, Bool, true, false, List, [], ◌∷◌, length, refl, sym, ap, subst, arith}
use Rattle.std.specs.Prelude.{Option, Some, None, map, if◌then◌else◌}
use Rattle.std.proofs.lemmas.List.{length-map}
use Rattle.cap_ops.specs.declared.arrows.Arrow.{Arrow}
use Rattle.cap_ops.specs.declared.arrows.End.{End}
use Rattle.cap_names.specs.declared.identifiers.Handle.{Handle}
use Rattle.cap_ops.specs.declared.ends.Shape.{Shape}
use Rattle.cap_ops.specs.declared.keys.Arg.{Arg}
use Rattle.cap_ops.specs.declared.keys.Key.{Key}
use Rattle.cap_ops.specs.declared.keys.Out.{Out}
use Rattle.cap_ops.specs.declared.keys.Out.TheVariants.{One as OutOne, Many as OutMany, Truth as OutTruth, Nothing as OutNothing}
use Rattle.cap_ops.specs.declared.keys.Value.{Value as Answer}
use Rattle.cap_ops.specs.declared.keys.Value.TheVariants.{One, Many, Truth, Nothing}
use Rattle.cap_ops.specs.Ends.{profile_of}
use Rattle.cap_ops.specs.Values.{Value, Setting, HaveShapes, Fits}
use Rattle.cap_ops.specs.Arrows.{ValueOver, over, argument, arguments, value_of, out_value}
use Rattle.cap_ops.specs.Once.{is_among, once}
use Rattle.cap_ops.specs.Cells.{IsShortKey, IsShortAnswer, IsShortOut}
use Rattle.cap_ops.specs.Mentions.{number_of, mentions, mentioned}
use Rattle.cap_ops.proofs.Letters.{few_letters}
use Rattle.cap_ops.proofs.Places.{none≢some}

as-many : {Obj Mor : Type 0} (S : Setting Obj Mor) (object_of : ℕ → Option Obj) (ss : List (Shape ℕ)) (vs : List (Value Obj Mor)) → HaveShapes S object_of ss vs → length vs ≡ length ss
as-many S f [] [] h = refl
as-many S f (s ∷ ss) (v ∷ vs) h = let e = as-many S f ss vs h.1 in omega (arith, e)
as-many S f [] (v ∷ vs) h = absurd h
as-many S f (s ∷ ss) [] h = absurd h

-- a key whose arguments fit its operation has at most four
pub key-short : {M : Type 0} (p : ℕ) (key : Key M) → Fits (over p) key.op.0 (arguments key.args) → IsShortKey key
key-short p key fits =
    let few = (few_letters key.op.0).2 in
    let many = as-many (over p) fits.objects (profile_of key.op.0).arguments (arguments key.args) fits.arguments in
    let same = length-map key.args argument in
    omega (arith, few, many, same)

pub answer-short : {M : Type 0} (v : Answer M) (w : ValueOver Handle M) → value_of v ≡ Some w → IsShortAnswer v
answer-short (One f) w e = tt
answer-short (Many []) w e = omega arith
answer-short (Many (p ∷ [])) w e = omega arith
answer-short (Many (p ∷ q ∷ [])) w e = omega arith
answer-short (Many (p ∷ q ∷ r ∷ [])) w e = omega arith
answer-short (Many (p ∷ q ∷ r ∷ s ∷ [])) w e = omega arith
answer-short (Many (p ∷ q ∷ r ∷ s ∷ t ∷ more)) w e = absurd (none≢some e)
answer-short (Truth b) w e = tt
answer-short Nothing w e = tt

pub out-short : {M : Type 0} (out : Out M) (w : ValueOver End M) → out_value out ≡ Some w → IsShortOut out
out-short (OutOne f) w e = tt
out-short (OutMany []) w e = omega arith
out-short (OutMany (p ∷ [])) w e = omega arith
out-short (OutMany (p ∷ q ∷ [])) w e = omega arith
out-short (OutMany (p ∷ q ∷ r ∷ [])) w e = omega arith
out-short (OutMany (p ∷ q ∷ r ∷ s ∷ [])) w e = omega arith
out-short (OutMany (p ∷ q ∷ r ∷ s ∷ t ∷ more)) w e = absurd (none≢some e)
out-short (OutTruth b) w e = tt
out-short OutNothing w e = tt

-- what is taken once is no longer than the list
pub once-shorter : {A : Type 0} (number : A → ℕ) (seen xs : List A) → length (once number seen xs) ≤ length xs
once-shorter number seen [] = omega arith
once-shorter number seen (x ∷ xs) = go (is_among number seen x) (once-shorter number seen xs) (once-shorter number (x ∷ seen) xs)
  where
    go : (b : Bool) → length (once number seen xs) ≤ length xs → length (once number (x ∷ seen) xs) ≤ length xs → length (if b then once number seen xs else x ∷ once number (x ∷ seen) xs) ≤ length (x ∷ xs)
    go true h k = omega (arith, h)
    go false h k = omega (arith, k)

-- a value names at most eight ends
pub few-mentions : {M : Type 0} (v : Answer M) → IsShortAnswer v → length (mentions v) ≤ 8
few-mentions (One f) short = omega arith
few-mentions (Many []) short = omega arith
few-mentions (Many (p ∷ [])) short = omega arith
few-mentions (Many (p ∷ q ∷ [])) short = omega arith
few-mentions (Many (p ∷ q ∷ r ∷ [])) short = omega arith
few-mentions (Many (p ∷ q ∷ r ∷ s ∷ [])) short = omega arith
few-mentions (Many (p ∷ q ∷ r ∷ s ∷ t ∷ more)) short = absurd (omega (arith, short))
few-mentions (Truth b) short = omega arith
few-mentions Nothing short = omega arith

pub few-mentioned : {M : Type 0} (v : Answer M) → IsShortAnswer v → length (mentioned v) ≤ 8
few-mentioned v short = let a = few-mentions v short in let b = once-shorter number_of [] (mentions v) in omega (arith, a, b)
