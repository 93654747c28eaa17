-- Answers that fit, whose new letters are the new objects.
use Rattle.std.proofs.Common.{◌≡◌, ℕ, zero, suc, refl, sym, ap, subst, List, [], ◌∷◌, length, Some, None}
use Rattle.std.specs.Prelude.{slice_get}
use Rattle.cap_ops.specs.declared.arrows.End.{End}
use Rattle.cap_ops.specs.declared.arrows.End.TheVariants.{New}
use Rattle.cap_ops.specs.declared.keys.Arg.{Arg}
use Rattle.cap_ops.specs.Ends.{profile_of, new_letters}
use Rattle.cap_ops.specs.Values.{none, FitsWithAnswer}
use Rattle.cap_ops.specs.Arrows.{ValueOver, over, arguments, olds}
use Rattle.cap_ops.specs.Primitives.{AreUsed}

-- an answer that fits, and whose new letters are these new objects
pub record FitsUsed {O M : Type 0} (p op : ℕ) (args : List (Arg M)) (value : ValueOver End M) (fresh : List O) : Type 0 where
  pub fits : FitsWithAnswer (over p) op (olds (arguments args)) value
  pub used : AreUsed op fits.objects value fresh

-- a value that isn't `none`
abbrev pub IsSomething : {M : Type 0} → ValueOver End M → Type 0
IsSomething none = ⊥
IsSomething _ = Unit {0}

pub something : {M : Type 0} (v : ValueOver End M) → IsSomething v → v ≡ none → ⊥
something v s e = subst IsSomething e s

-- no letter is at a place of no letters, and one letter is at place 0
no-place : (P : Type 0) (ls : List ℕ) (k letter : ℕ) → ls ≡ [] → slice_get ls k ≡ Some letter → P
no-place P ls k letter e h = let f : slice_get {X = ℕ} [] k ≡ Some letter = subst (λ l. slice_get l k ≡ Some letter) e h in absurd (let g : None ≡ Some letter = f in cc)

one-place : (P : ℕ → ℕ → Type 0) (x k letter : ℕ) → P 0 x → slice_get (x ∷ []) k ≡ Some letter → P k letter
one-place P x zero letter h e = subst (λ y. P 0 y) (let g : Some x ≡ Some letter = e in let s : x ≡ letter = cc in s) h
one-place P x (suc k) letter h e = absurd (let g : None ≡ Some letter = e in cc)

module _ {O M : Type 0} (p op : ℕ) (args : List (Arg M)) (value : ValueOver End M) where
  -- an operation without new objects
  pub uses-none : new_letters (profile_of op) ≡ [] → FitsWithAnswer (over p) op (olds (arguments args)) value → FitsUsed {O = O} p op args value []
  uses-none e fits = record {
    fits = fits;
    used = record { in_order = λ k letter h. no-place (fits.objects letter ≡ Some (New k)) (new_letters (profile_of op)) k letter e h; all = λ _. ap length (sym e); at_none = λ _. refl };
  }

  -- an operation with one new object
  pub uses-one : (z : O) (letter : ℕ) → new_letters (profile_of op) ≡ letter ∷ [] → IsSomething value → (fits : FitsWithAnswer (over p) op (olds (arguments args)) value) → fits.objects letter ≡ Some (New 0) → FitsUsed p op args value (z ∷ [])
  uses-one z letter e s fits new = record {
    fits = fits;
    used = record {
      in_order = λ k l h. one-place (λ i n. fits.objects n ≡ Some (New i)) letter k l new (subst (λ ls. slice_get ls k ≡ Some l) e h);
      all = λ _. ap length (sym e);
      at_none = λ n. absurd (something value s n);
    };
  }
