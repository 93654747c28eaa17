-- Loops that read values one after the other.
use Rattle.std.proofs.Common.{◌≡◌, length, ◌<◌, List, [], ◌∷◌, ◌++◌, Bool, true, false, Result, Ok, Err, refl, sym, ap, ◌∙◌, append_assoc}
use Rattle.std.proofs.lemmas.List.{append-nil}
use Rattle.cap_reading.specs.declared.fault.ReadError.{ReadError}
use Rattle.cap_reading.specs.declared.fault.ReadError.TheVariants as errors
use Rattle.cap_reading.specs.Reading.{Fails}
use Rattle.cap_reading.specs.Steps.{Read, ◌>>=◌, many, with_front, begins}
use Rattle.cap_reading.proofs.Law.{Law, Leads, begins_starts, begins_stops}
use Rattle.cap_reading.proofs.Repetitions.{many_yes, many_no, shrinks}

-- A fault of a part is the fault of the whole.
pub fails_so : {S A B : Type 0} (e : ReadError S) (read : Result A (List S)) (total : Result B (List S)) → ((rest : List S) → read ≡ Err rest → total ≡ Err rest) → Fails e read → Fails e total
fails_so errors.Memory read total f h = tt
fails_so (errors.Syntax rest) read total f h = f rest.now h

pub front_none : {S A : Type 0} (o : Read S (List A)) → with_front [] o ≡ o
front_none (Ok x) = refl
front_none (Err e) = refl

regroup : {S A : Type 0} (front : List A) (a : A) (o : Read S (List A)) → with_front front (o >>= λ y. Ok (a ∷ y.0, y.1)) ≡ with_front (front ++ a ∷ []) o
regroup front a (Ok y) = ap (λ l. Ok (l, y.1)) (sym (append_assoc front (a ∷ []) y.0))
regroup front a (Err e) = refl

module _ {S A : Type 0} {r : List S → Read S A} {p : A → List S → Type 0} {goes : S → Bool} (is : S → Bool) (law : Law r p goes) (begin : Leads is p) where
  -- a value more
  pub loop_more : (front : List A) (ts : List S) (a : A) (after : List S) (total : Read S (List A)) → begins is ts ≡ true → r ts ≡ Ok (a, after) → with_front front (many is r ts) ≡ total → with_front (front ++ a ∷ []) (many is r after) ≡ total
  loop_more front ts a after total h e so_far =
      sym (regroup front a (many is r after))
      ∙ sym (ap (with_front front) (many_yes is law begin ts (begins_starts is ts h) ∙ ap (λ o. o >>= λ x. (many is r x.1 >>= λ y. Ok (x.0 ∷ y.0, y.1))) e))
      ∙ so_far

  -- a value that can't be read
  pub loop_fails : (front : List A) (ts rest : List S) (total : Read S (List A)) → begins is ts ≡ true → r ts ≡ Err rest → with_front front (many is r ts) ≡ total → total ≡ Err rest
  loop_fails front ts rest total h e so_far =
      sym so_far ∙ ap (with_front front) (many_yes is law begin ts (begins_starts is ts h) ∙ ap (λ o. o >>= λ x. (many is r x.1 >>= λ y. Ok (x.0 ∷ y.0, y.1))) e)

  -- no value more
  pub loop_done : (front : List A) (ts : List S) (total : Read S (List A)) → begins is ts ≡ false → with_front front (many is r ts) ≡ total → total ≡ Ok (front, ts)
  loop_done front ts total h so_far =
      sym so_far ∙ ap (with_front front) (many_no is law begin ts (begins_stops is ts h)) ∙ ap (λ l. Ok (l, ts)) (append-nil front)

  -- what is left is shorter
  pub loop_shrinks : (ts : List S) (a : A) (after : List S) → r ts ≡ Ok (a, after) → length after < length ts
  loop_shrinks ts a after e = shrinks is law begin ts (a, after) e
