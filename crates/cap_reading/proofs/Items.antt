-- Steps that read one item or none.
use Rattle.std.proofs.Common.{◌≡◌, length, arith, length-append, List, [], ◌∷◌, ◌++◌, Bool, true, Option, Some, None, Ok, Err, refl, sym, ap, ◌∙◌, subst, ⊎_elim}
use Rattle.std.specs.Prelude.{is_some}
use Rattle.cap_reading.specs.Languages.{valued, nothing, made, just}
use Rattle.cap_reading.specs.Steps.{Read, expect, took, take_one, mapped, gives}
use Rattle.cap_reading.proofs.Law.{Stops, Starts, Leads, Sound, Viable, Law, never, bind_ok, bind_err, bind_to, bind_fails, ok_inj, err_inj, chosen, cond_yes, cond_no}

pub expect_ok : {S : Type 0} (is : S → Bool) (ts rest : List S) → expect is ts ≡ Ok rest → (s : S) × (ts ≡ s ∷ rest) × (is s ≡ true)
expect_ok is [] rest h = cc
expect_ok is (t ∷ ts) rest h = ⊎_elim (λ p. (t, (λ i. t ∷ ok_inj ts rest p.1 i), p.0)) (λ p. let e = p.1 in cc) (chosen (is t) (Ok ts) (Err (t ∷ ts)) (Ok rest) h)

pub expect_err : {S : Type 0} (is : S → Bool) (ts rest : List S) → expect is ts ≡ Err rest → ts ≡ rest
expect_err is [] rest h = err_inj {A = List _} [] rest h
expect_err is (t ∷ ts) rest h = ⊎_elim (λ p. let e = p.1 in cc) (λ p. err_inj {A = List _} (t ∷ ts) rest p.1) (chosen (is t) (Ok ts) (Err (t ∷ ts)) (Err rest) h)

pub expect_this : {S : Type 0} (is : S → Bool) (s : S) (rest : List S) → is s ≡ true → expect is (s ∷ rest) ≡ Ok rest
expect_this is s rest h = cond_yes (is s) _ _ h

too_long : {S : Type 0} (s t : S) (p q : List S) → s ∷ p ++ t ∷ q ≡ t ∷ q → ⊥
too_long {S} s t p q e =
    let n : length (s ∷ p ++ t ∷ q) ≡ length (t ∷ q) = ap length e in
    omega (arith, n, length-append p (t ∷ q))

-- a list that is p and then an item isn't empty, so an error there is of that item
pub expect_local : {S : Type 0} (is : S → Bool) (p q q' : List S) (t : S) → expect is (p ++ t ∷ q) ≡ Err (t ∷ q) → expect is (p ++ t ∷ q') ≡ Err (t ∷ q')
expect_local is [] q q' t h = ⊎_elim (λ p. let e = p.1 in cc) (λ p. cond_no (is t) _ _ p.0) (chosen (is t) (Ok q) (Err (t ∷ q)) (Err (t ∷ q)) h)
expect_local {S} is (s ∷ p) q q' t h =
    absurd (too_long s t p q (expect_err is (s ∷ p ++ t ∷ q) (t ∷ q) h))

took_ok : {S A : Type 0} (o : Option A) (all rest : List S) (x : A × List S) → took o all rest ≡ Ok x → (o ≡ Some x.0) × (rest ≡ x.1)
took_ok (Some a) all rest x h = let e = ok_inj (a, rest) x h in (ap (λ y. Some y.0) e, ap (λ y. y.1) e)
took_ok None all rest x h = cc

took_err : {S A : Type 0} (o : Option A) (all rest back : List S) → took o all rest ≡ Err back → (o ≡ None) × (all ≡ back)
took_err (Some a) all rest back h = cc
took_err {S} {A} None all rest back h = (refl, err_inj {A = A × List S} all back h)

module _ {S A : Type 0} (f : S → Option A) where
  one_sound : (ts : List S) (x : A × List S) → take_one f ts ≡ Ok x → Sound (take_one f) (valued f) ts x
  one_sound [] x h = cc
  one_sound (t ∷ ts) x h =
      let p = took_ok (f t) (t ∷ ts) ts x h in
      record { front = t ∷ []; text = (t, refl, p.0); split = λ i. t ∷ p.1 i; again = λ rest head. ap (λ o. took o (t ∷ rest) rest) p.0 }

  one_err : (ts rest : List S) → take_one f ts ≡ Err rest → ts ≡ rest
  one_err [] rest h = err_inj {A = A × List S} [] rest h
  one_err (t ∷ ts) rest h = (took_err (f t) (t ∷ ts) ts rest h).1

  one_local : (p q q' : List S) (t : S) → take_one f (p ++ t ∷ q) ≡ Err (t ∷ q) → take_one f (p ++ t ∷ q') ≡ Err (t ∷ q')
  one_local [] q q' t h = let p = took_err (f t) (t ∷ q) q (t ∷ q) h in ap (λ o. took o (t ∷ q') q') p.0
  one_local (s ∷ p) q q' t h = absurd (too_long s t p q (one_err (s ∷ p ++ t ∷ q) (t ∷ q) h))

  -- One item; an example is wanted.
  pub law_one : (s : S) (a : A) → f s ≡ Some a → Law (take_one f) (valued f) never
  law_one s a e = record {
    sound = one_sound;
    complete = λ b front rest text st. ap (λ l. take_one f (l ++ rest)) text.1 ∙ ap (λ o. took o (text.0 ∷ rest) rest) text.2;
    viable = λ ts rest h. record { done = []; more = s ∷ []; value = a; text = (s, refl, e); split = one_err ts rest h };
    local = one_local;
    example = a;
    example_list = s ∷ [];
    example_text = (s, refl, e);
  }

module _ {S A B : Type 0} {r : List S → Read S A} {p : A → List S → Type 0} {goes : S → Bool} (f : A → B) (law : Law r p goes) where
  mapped_sound : (ts : List S) (x : B × List S) → mapped f r ts ≡ Ok x → Sound (mapped f r) (made f p) ts x
  mapped_sound ts x h =
      let b = bind_ok (r ts) (λ y. Ok (f y.0, y.1)) x h in
      let y = b.0 in
      let u = law.sound ts y b.1 in
      subst (Sound (mapped f r) (made f p) ts) (ok_inj (f y.0, y.1) x b.2)
      (record { front = u.front; text = (y.0, refl, u.text); split = u.split; again = λ rest head. bind_to (r (u.front ++ rest)) (λ y. Ok (f y.0, y.1)) (y.0, rest) (u.again rest head) })

  mapped_complete : (b : B) (front rest : List S) → made f p b front → Stops goes rest → mapped f r (front ++ rest) ≡ Ok (b, rest)
  mapped_complete b front rest text st = bind_to (r (front ++ rest)) (λ y. Ok (f y.0, y.1)) (text.0, rest) (law.complete text.0 front rest text.2 st) ∙ ap (λ c. Ok (c, rest)) text.1

  mapped_viable : (ts rest : List S) → mapped f r ts ≡ Err rest → Viable (made f p) ts rest
  mapped_viable ts rest h =
      ⊎_elim
      (λ h1. let u = law.viable ts rest h1 in record { done = u.done; more = u.more; value = f u.value; text = (u.value, refl, u.text); split = u.split })
      (λ b. let e = b.2 in cc)
      (bind_err (r ts) (λ y. Ok (f y.0, y.1)) rest h)

  mapped_local : (p q q' : List S) (t : S) → mapped f r (p ++ t ∷ q) ≡ Err (t ∷ q) → mapped f r (p ++ t ∷ q') ≡ Err (t ∷ q')
  mapped_local p q q' t h =
      ⊎_elim
      (λ h1. bind_fails (r (p ++ t ∷ q')) (λ y. Ok (f y.0, y.1)) (t ∷ q') (law.local p q q' t h1))
      (λ b. let e = b.2 in cc)
      (bind_err (r (p ++ t ∷ q)) (λ y. Ok (f y.0, y.1)) (t ∷ q) h)

  -- What is read, made into another value.
  pub law_mapped : Law (mapped f r) (made f p) goes
  law_mapped = record {
    sound = mapped_sound;
    complete = mapped_complete;
    viable = mapped_viable;
    local = mapped_local;
    example = f law.example;
    example_list = law.example_list;
    example_text = (law.example, refl, law.example_text);
  }

-- The value alone, from no item.
pub law_gives : {S A : Type 0} (a : A) → Law {S = S} (gives a) (just a nothing) never
law_gives {S} {A} a = record {
  sound = λ ts x h. subst (Sound (gives a) (just a nothing) ts) (ok_inj (a, ts) x h) (record { front = []; text = (refl, refl); split = refl; again = λ rest head. refl });
  complete = λ b front rest text st. λ i. Ok (sym text.0 i, text.1 i ++ rest);
  viable = λ ts rest h. cc;
  local = λ p q q' t h. cc;
  example = a;
  example_list = [];
  example_text = (refl, refl);
}

-- whether an item stands for a value
abbrev pub has : {S A : Type 0} → (S → Option A) → S → Bool
has f t = is_some (f t)

pub leads_valued : {S A : Type 0} (f : S → Option A) → Leads (has f) (valued f)
leads_valued f a l h = subst (Starts (has f)) (sym h.1) (ap is_some h.2)
