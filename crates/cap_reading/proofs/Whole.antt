-- What is read of a whole list, and where it first fails.
use Rattle.std.proofs.Common.{◌≡◌, ℕ, suc, ◌+◌, ◌-◌, ◌<◌, ◌≤◌, List, [], ◌∷◌, ◌++◌, length, take, Bool, Ok, Err, refl, sym, ap, ◌∙◌, subst, ⊎_elim, arith, append_assoc, length-append}
use Rattle.std.proofs.lemmas.List.{append-nil, append_cancel_right}
use Rattle.std.proofs.Math.Seq.{take-append_seam, take-append-add}
use Rattle.cap_reading.specs.Steps.{Read, ends, whole}
use Rattle.cap_reading.specs.Faults.{GoesOn, IsFault}
use Rattle.cap_reading.proofs.Law.{Viable, Law, SameHead, bind_ok, bind_err, bind_to, bind_fails, ok_inj, err_inj}

ends_ok : {S A : Type 0} (a b : A) (ts : List S) → ends a ts ≡ Ok b → (a ≡ b) × (ts ≡ [])
ends_ok a b [] h = (ok_inj a b h, refl)
ends_ok a b (t ∷ ts) h = cc

ends_err : {S A : Type 0} (a : A) (ts rest : List S) → ends a ts ≡ Err rest → ts ≡ rest
ends_err a [] rest h = cc
ends_err {S} {A} a (t ∷ ts) rest h = err_inj {A = A} (t ∷ ts) rest h

one_more : (n : ℕ) → suc n ≡ n + 1
one_more n = omega arith

module _ {S A : Type 0} {r : List S → Read S A} {p : A → List S → Type 0} {goes : S → Bool} (law : Law r p goes) where
  -- A value that is answered has this list.
  pub found : (ts : List S) (a : A) → whole r ts ≡ Ok a → p a ts
  found ts a h =
      let b = bind_ok (r ts) (λ x. ends x.0 x.1) a h in
      let e = ends_ok b.0.0 a b.0.1 b.2 in
      let u = law.sound ts b.0 b.1 in
      let all : u.front ≡ ts = sym (u.split ∙ ap (λ l. u.front ++ l) e.1 ∙ append-nil u.front) in
      subst (λ l. p a l) all (subst (λ a. p a u.front) e.0 u.text)

  -- A value of this list is answered.
  pub only : (ts : List S) (a : A) → p a ts → whole r ts ≡ Ok a
  only ts a h =
      bind_to (r ts) (λ x. ends x.0 x.1) (a, []) (ap r (sym (append-nil ts)) ∙ law.complete a ts [] h tt)

  -- No list has two values.
  pub one_value : (ts : List S) (a b : A) → p a ts → p b ts → a ≡ b
  one_value ts a b h k = ok_inj {F = List S} a b (sym (only ts a h) ∙ only ts b k)

  pub whole_viable : (ts rest : List S) → whole r ts ≡ Err rest → Viable p ts rest
  whole_viable ts rest h =
      ⊎_elim
      (law.viable ts rest)
      (λ b.
      let u = law.sound ts b.0 b.1 in
      record { done = u.front; more = []; value = b.0.0; text = subst (λ l. p b.0.0 l) (sym (append-nil u.front)) u.text; split = u.split ∙ ap (λ l. u.front ++ l) (ends_err b.0.0 b.0.1 rest b.2) })
      (bind_err (r ts) (λ x. ends x.0 x.1) rest h)

  pub whole_local : (before after after' : List S) (t : S) → whole r (before ++ t ∷ after) ≡ Err (t ∷ after) → whole r (before ++ t ∷ after') ≡ Err (t ∷ after')
  whole_local before after after' t h =
      ⊎_elim
      (λ h1. bind_fails (r (before ++ t ∷ after')) (λ x. ends x.0 x.1) (t ∷ after') (law.local before after after' t h1))
      (λ b.
      let u = law.sound (before ++ t ∷ after) b.0 b.1 in
      let at : b.0.1 ≡ t ∷ after = ends_err b.0.0 b.0.1 (t ∷ after) b.2 in
      let front : before ≡ u.front = append_cancel_right before u.front (t ∷ after) (u.split ∙ ap (λ l. u.front ++ l) at) in
      ap (λ l. whole r (l ++ t ∷ after')) front
      ∙ bind_to (r (u.front ++ t ∷ after')) (λ x. ends x.0 x.1) (b.0.0, t ∷ after') (u.again (t ∷ after') (subst (λ l. SameHead l (t ∷ after')) (sym at) refl)))
      (bind_err (r (before ++ t ∷ after)) (λ x. ends x.0 x.1) (t ∷ after) h)

  -- What isn't read is no longer than the list.
  pub rest_within : (ts rest : List S) → whole r ts ≡ Err rest → length rest ≤ length ts
  rest_within ts rest h =
      let v = whole_viable ts rest h in
      let n : length ts ≡ length (v.done ++ rest) = ap length v.split in
      omega (arith, n, length-append v.done rest)

  -- Where reading fails no value has this list.
  pub no_value : (ts rest : List S) → whole r ts ≡ Err rest → (a : A) → p a ts → ⊥
  no_value ts rest h a text = let e = sym (only ts a text) ∙ h in cc

  -- Where reading fails at an item no list of the language begins so far.
  pub no_more : (before after : List S) (t : S) → whole r (before ++ t ∷ after) ≡ Err (t ∷ after) → GoesOn p (before ++ t ∷ []) → ⊥
  no_more before after t h on =
      let text = subst (λ l. p on.1 l) (append_assoc before (t ∷ []) on.0) on.2 in
      let e = sym (only (before ++ t ∷ on.0) on.1 text) ∙ whole_local before after on.0 t h in cc

  fault_after : (ts rest done : List S) → whole r ts ≡ Err rest → ts ≡ done ++ rest → length done < length ts → GoesOn p (take (suc (length done)) ts) → ⊥
  fault_after ts [] done h split lt on =
      let n : length ts ≡ length (done ++ []) = ap length split in
      absurd (omega (arith, n, length-append done []))
  fault_after ts (t ∷ q) done h split lt on =
      let one : take (suc (length done)) ts ≡ done ++ t ∷ [] = ap (take (suc (length done))) split ∙ ap (λ k. take k (done ++ t ∷ q)) (one_more (length done)) ∙ take-append-add done (t ∷ q) 1 in
      no_more done q t (ap (whole r) (sym split) ∙ h) (subst (GoesOn p) one on)

  fault_at : (ts rest done : List S) → whole r ts ≡ Err rest → ts ≡ done ++ rest → (more : List S) (a : A) → p a (done ++ more) → IsFault p ts (length done)
  fault_at ts rest done h split more a text =
      let n : length ts ≡ length (done ++ rest) = ap length split in
      record {
        within = omega (arith, n, length-append done rest);
        before = (more, a, subst (λ l. p a (l ++ more)) (sym (ap (take (length done)) split ∙ take-append_seam done rest)) text);
        after = fault_after ts rest done h split;
        none = no_value ts rest h;
      }

  -- The place of a fault.
  pub fault : (ts rest : List S) → whole r ts ≡ Err rest → IsFault p ts (length ts - length rest)
  fault ts rest h =
      let v = whole_viable ts rest h in
      let n : length ts ≡ length (v.done ++ rest) = ap length v.split in
      let k : length v.done ≡ length ts - length rest = omega (arith, n, length-append v.done rest) in
      subst (IsFault p ts) k (fault_at ts rest v.done h v.split v.more v.value v.text)
