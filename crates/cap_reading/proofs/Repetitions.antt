-- Steps again and again.
use Rattle.std.proofs.Common.{◌≡◌, ℕ, zero, suc, ◌<◌, ◌≤◌, length, arith, length-append, List, [], ◌∷◌, ◌++◌, Bool, true, false, Ok, Err, refl, sym, ap, ◌∙◌, subst, inl, inr, ⊎_elim, append_assoc}
use Rattle.std.specs.Prelude.{◌⊎◌}
use Rattle.std.proofs.lemmas.List.{append-nil, append_cancel_right}
use Rattle.cap_reading.specs.Languages.{◌·◌, made, just, nothing, each, some_of, any_of, separated, one}
use Rattle.cap_reading.specs.Steps.{Read, ◌>>=◌, up_to, many, some, skip, with_front, either, gives}
use Rattle.cap_reading.proofs.Law.{Stops, Starts, Leads, Apart, Sound, Viable, Law, law_as, law_same, SameHead, one_of, bind_ok, bind_err, bind_to, bind_fails, bind_same, ok_inj, cond_yes, cond_no, starts_or, starts_more, starts_same, starts_apart, starts_nonempty, same_head, stops_head, stops_first, stops_second, empty_from_length}
use Rattle.cap_reading.proofs.Items.{law_mapped}
use Rattle.cap_reading.proofs.Choices.{law_or_gives}
use Rattle.cap_reading.proofs.Sequences.{joined, law_both, law_skip, leads_one}

pub up_yes : {S A : Type 0} (n : ℕ) (is : S → Bool) (r : List S → Read S A) (ts : List S) → Starts is ts → up_to (suc n) is r ts ≡ (r ts >>= λ x. (up_to n is r x.1 >>= λ y. Ok (x.0 ∷ y.0, y.1)))
up_yes n is r [] h = absurd h
up_yes n is r (t ∷ ts) h = cond_yes (is t) _ _ h

pub up_no : {S A : Type 0} (n : ℕ) (is : S → Bool) (r : List S → Read S A) (ts : List S) → Stops is ts → up_to n is r ts ≡ Ok ([], ts)
up_no zero is r ts h = refl
up_no (suc n) is r [] h = refl
up_no (suc n) is r (t ∷ ts) h = cond_no (is t) _ _ h

-- What was read with room for n values is read again with room enough.
record Again {S A : Type 0} (is : S → Bool) (r : List S → Read S A) (p : A → List S → Type 0) (ts : List S) (x : List A × List S) : Type 0 where
  front : List S
  text : each p x.0 front
  split : ts ≡ front ++ x.1
  again : (m : ℕ) (rest : List S) → SameHead x.1 rest → length (front ++ rest) ≤ m → up_to m is r (front ++ rest) ≡ Ok (x.0, rest)

module _ {S A : Type 0} {r : List S → Read S A} {p : A → List S → Type 0} {goes : S → Bool} (is : S → Bool) (law : Law r p goes) (begin : Leads is p) where
  -- what is left is shorter
  pub shrinks : (ts : List S) (x : A × List S) → r ts ≡ Ok x → length x.1 < length ts
  shrinks ts x h =
      let u = law.sound ts x h in
      let n : length ts ≡ length (u.front ++ x.1) = ap length u.split in
      omega (arith, n, length-append u.front x.1, starts_nonempty is u.front (begin x.0 u.front u.text))

  -- a value more
  up_more : (m : ℕ) (a : A) (front : List S) (xs : List A) (more rest : List S) → p a front → length (front ++ (more ++ rest)) ≤ m → r (front ++ (more ++ rest)) ≡ Ok (a, more ++ rest)
      → ((k : ℕ) → length (more ++ rest) ≤ k → up_to k is r (more ++ rest) ≡ Ok (xs, rest)) → up_to m is r (front ++ (more ++ rest)) ≡ Ok (a ∷ xs, rest)
  up_more zero a front xs more rest text le step next = absurd (omega (arith, length-append front (more ++ rest), starts_nonempty is front (begin a front text)))
  up_more (suc m) a front xs more rest text le step next =
      up_yes m is r (front ++ (more ++ rest)) (starts_more is front (more ++ rest) (begin a front text))
      ∙ bind_to (r (front ++ (more ++ rest))) (λ x. up_to m is r x.1 >>= λ y. Ok (x.0 ∷ y.0, y.1)) (a, more ++ rest) step
      ∙ bind_to (up_to m is r (more ++ rest)) (λ y. Ok (a ∷ y.0, y.1)) (xs, rest) (next m (omega (arith, length-append front (more ++ rest), starts_nonempty is front (begin a front text))))

  up_sound : (n : ℕ) (ts : List S) (x : List A × List S) → length ts ≤ n → up_to n is r ts ≡ Ok x → Again is r p ts x
  up_sound zero ts x le h =
      let none : Stops is ts = subst (Stops is) (sym (empty_from_length ts le)) tt in
      subst (Again is r p ts) (ok_inj ([], ts) x h) (record { front = []; text = refl; split = refl; again = λ m rest head le'. up_no m is r rest (stops_head is ts rest head none) })
  up_sound (suc n) ts x le h =
      ⊎_elim
      (λ y.
      let b = bind_ok (r ts) (λ x. up_to n is r x.1 >>= λ y. Ok (x.0 ∷ y.0, y.1)) x (sym (up_yes n is r ts y) ∙ h) in
      let c = bind_ok (up_to n is r b.0.1) (λ y. Ok (b.0.0 ∷ y.0, y.1)) x b.2 in
      let u = law.sound ts b.0 b.1 in
      let shorter = shrinks ts b.0 b.1 in
      let v = up_sound n b.0.1 c.0 (omega arith) c.1 in
      subst (Again is r p ts) (ok_inj (b.0.0 ∷ c.0.0, c.0.1) x c.2)
      (record {
        front = u.front ++ v.front;
        text = joined u.front v.front u.text v.text;
        split = u.split ∙ ap (λ l. u.front ++ l) v.split ∙ sym (append_assoc u.front v.front c.0.1);
        again = λ m rest head le'.
            let e = append_assoc u.front v.front rest in
            let lens : length (u.front ++ v.front ++ rest) ≡ length (u.front ++ (v.front ++ rest)) = ap length e in
            let head2 : SameHead b.0.1 (v.front ++ rest) = subst (λ l. SameHead l (v.front ++ rest)) (sym v.split) (same_head v.front c.0.1 rest head) in
            ap (up_to m is r) e ∙ up_more m b.0.0 u.front c.0.0 v.front rest u.text (omega (arith, lens)) (u.again (v.front ++ rest) head2) (λ k le2. v.again k rest head le2);
      }))
      (λ no. subst (Again is r p ts) (ok_inj ([], ts) x (sym (up_no (suc n) is r ts no) ∙ h)) (record { front = []; text = refl; split = refl; again = λ m rest head le'. up_no m is r rest (stops_head is ts rest head no) }))
      (starts_or is ts)

  up_viable : (n : ℕ) (ts rest : List S) → up_to n is r ts ≡ Err rest → Viable {A = List A} (each p) ts rest
  up_viable zero ts rest h = cc
  up_viable (suc n) ts rest h =
      ⊎_elim
      (λ y. ⊎_elim
      (λ h1.
      let u = law.viable ts rest h1 in
      record { done = u.done; more = u.more; value = u.value ∷ []; text = subst (λ l. each p (u.value ∷ []) l) (append-nil (u.done ++ u.more)) (joined (u.done ++ u.more) [] u.text refl); split = u.split })
      (λ b. ⊎_elim
      (λ h2.
      let u = law.sound ts b.0 b.1 in
      let v = up_viable n b.0.1 rest h2 in
      record {
        done = u.front ++ v.done;
        more = v.more;
        value = b.0.0 ∷ v.value;
        text = subst (λ l. each p (b.0.0 ∷ v.value) l) (sym (append_assoc u.front v.done v.more)) (joined u.front (v.done ++ v.more) u.text v.text);
        split = u.split ∙ ap (λ l. u.front ++ l) v.split ∙ sym (append_assoc u.front v.done rest);
      })
      (λ c. let e = c.2 in cc)
      (bind_err (up_to n is r b.0.1) (λ y. Ok (b.0.0 ∷ y.0, y.1)) rest b.2))
      (bind_err (r ts) (λ x. up_to n is r x.1 >>= λ y. Ok (x.0 ∷ y.0, y.1)) rest (sym (up_yes n is r ts y) ∙ h)))
      (λ no. let e = sym (up_no (suc n) is r ts no) ∙ h in cc)
      (starts_or is ts)

  up_local : (n m : ℕ) (p q q' : List S) (t : S) → length (p ++ t ∷ q') ≤ m → up_to n is r (p ++ t ∷ q) ≡ Err (t ∷ q) → up_to m is r (p ++ t ∷ q') ≡ Err (t ∷ q')
  up_local zero m p q q' t le h = cc
  up_local (suc n) zero p q q' t le h = absurd (omega (arith, length-append p (t ∷ q')))
  up_local (suc n) (suc m) p q q' t le h =
      ⊎_elim
      (λ y. let y' = starts_same is p q q' t y in
      ⊎_elim
      (λ h1. up_yes m is r (p ++ t ∷ q') y' ∙ bind_fails (r (p ++ t ∷ q')) (λ x. up_to m is r x.1 >>= λ y. Ok (x.0 ∷ y.0, y.1)) (t ∷ q') (law.local p q q' t h1))
      (λ b. ⊎_elim
      (λ h2.
      let u = law.sound (p ++ t ∷ q) b.0 b.1 in
      let v = up_viable n b.0.1 (t ∷ q) h2 in
      let whole : p ++ t ∷ q ≡ u.front ++ v.done ++ t ∷ q = u.split ∙ ap (λ l. u.front ++ l) v.split ∙ sym (append_assoc u.front v.done (t ∷ q)) in
      let front : p ≡ u.front ++ v.done = append_cancel_right p (u.front ++ v.done) (t ∷ q) whole in
      let same : p ++ t ∷ q' ≡ u.front ++ (v.done ++ t ∷ q') = ap (λ l. l ++ t ∷ q') front ∙ append_assoc u.front v.done (t ∷ q') in
      let lens : length (p ++ t ∷ q') ≡ length (u.front ++ (v.done ++ t ∷ q')) = ap length same in
      let short : length (v.done ++ t ∷ q') ≤ m = omega (arith, lens, length-append u.front (v.done ++ t ∷ q'), starts_nonempty is u.front (begin b.0.0 u.front u.text)) in
      let head : SameHead b.0.1 (v.done ++ t ∷ q') = subst (λ l. SameHead l (v.done ++ t ∷ q')) (sym v.split) (same_head v.done (t ∷ q) (t ∷ q') refl) in
      up_yes m is r (p ++ t ∷ q') y'
      ∙ ap (λ l. r l >>= λ x. (up_to m is r x.1 >>= λ y. Ok (x.0 ∷ y.0, y.1))) same
      ∙ bind_to (r (u.front ++ (v.done ++ t ∷ q'))) (λ x. up_to m is r x.1 >>= λ y. Ok (x.0 ∷ y.0, y.1)) (b.0.0, v.done ++ t ∷ q') (u.again (v.done ++ t ∷ q') head)
      ∙ bind_fails (up_to m is r (v.done ++ t ∷ q')) (λ y. Ok (b.0.0 ∷ y.0, y.1)) (t ∷ q') (up_local n m v.done q q' t short (ap (up_to n is r) (sym v.split) ∙ h2)))
      (λ c. let e = c.2 in cc)
      (bind_err (up_to n is r b.0.1) (λ y. Ok (b.0.0 ∷ y.0, y.1)) (t ∷ q) b.2))
      (bind_err (r (p ++ t ∷ q)) (λ x. up_to n is r x.1 >>= λ y. Ok (x.0 ∷ y.0, y.1)) (t ∷ q) (sym (up_yes n is r (p ++ t ∷ q) y) ∙ h)))
      (λ no. let e = sym (up_no (suc n) is r (p ++ t ∷ q) no) ∙ h in cc)
      (starts_or is (p ++ t ∷ q))

  -- more room for values changes nothing
  up_enough : (n m : ℕ) (ts : List S) → length ts ≤ n → length ts ≤ m → up_to n is r ts ≡ up_to m is r ts
  up_enough zero m ts le le' = sym (up_no m is r ts (subst (Stops is) (sym (empty_from_length ts le)) tt))
  up_enough (suc n) zero ts le le' = up_no (suc n) is r ts (subst (Stops is) (sym (empty_from_length ts le')) tt)
  up_enough (suc n) (suc m) ts le le' =
      ⊎_elim
      (λ y. up_yes n is r ts y
      ∙ bind_same (r ts) (λ x. up_to n is r x.1 >>= λ y. Ok (x.0 ∷ y.0, y.1)) (λ x. up_to m is r x.1 >>= λ y. Ok (x.0 ∷ y.0, y.1))
      (λ x e. let shorter = shrinks ts x e in ap (λ o. o >>= λ y. Ok (x.0 ∷ y.0, y.1)) (up_enough n m x.1 (omega arith) (omega arith)))
      ∙ sym (up_yes m is r ts y))
      (λ no. up_no (suc n) is r ts no ∙ sym (up_no (suc m) is r ts no))
      (starts_or is ts)

  -- the first value and the others
  pub many_yes : (ts : List S) → Starts is ts → many is r ts ≡ (r ts >>= λ x. (many is r x.1 >>= λ y. Ok (x.0 ∷ y.0, y.1)))
  unfolding many
  many_yes ts h =
      up_enough (length ts) (suc (length ts)) ts (omega arith) (omega arith)
      ∙ up_yes (length ts) is r ts h
      ∙ bind_same (r ts) (λ x. up_to (length ts) is r x.1 >>= λ y. Ok (x.0 ∷ y.0, y.1)) (λ x. up_to (length x.1) is r x.1 >>= λ y. Ok (x.0 ∷ y.0, y.1))
      (λ x e. let shorter = shrinks ts x e in ap (λ o. o >>= λ y. Ok (x.0 ∷ y.0, y.1)) (up_enough (length ts) (length x.1) x.1 (omega arith) (omega arith)))

  pub many_no : (ts : List S) → Stops is ts → many is r ts ≡ Ok ([], ts)
  unfolding many
  many_no ts h = up_no (length ts) is r ts h

  -- what is after the values doesn't lengthen the one before them
  pub each_stops : Apart is goes → (xs : List A) (l rest : List S) → each p xs l → Stops (one_of is goes) rest → Stops goes (l ++ rest)
  each_stops apart [] l rest text st = subst (λ l. Stops goes (l ++ rest)) (sym text) (stops_second is goes rest st)
  each_stops apart (a ∷ xs) l rest text st = starts_apart is goes apart (l ++ rest) (starts_more is l rest (subst (Starts is) (sym text.split) (starts_more is text.front text.rest (begin a text.front text.first))))

  up_complete : Apart is goes → (n : ℕ) (xs : List A) (l rest : List S) → length (l ++ rest) ≤ n → each p xs l → Stops (one_of is goes) rest → up_to n is r (l ++ rest) ≡ Ok (xs, rest)
  up_complete apart n [] l rest le text st = ap (λ l. up_to n is r (l ++ rest)) text ∙ up_no n is r rest (stops_first is goes rest st)
  up_complete apart n (a ∷ xs) l rest le text st =
      let same : l ++ rest ≡ text.front ++ (text.rest ++ rest) = ap (λ l. l ++ rest) text.split ∙ append_assoc text.front text.rest rest in
      let lens : length (l ++ rest) ≡ length (text.front ++ (text.rest ++ rest)) = ap length same in
      ap (up_to n is r) same
      ∙ up_more n a text.front xs text.rest rest text.first (omega (arith, lens)) (law.complete a text.front (text.rest ++ rest) text.first (each_stops apart xs text.rest rest text.second st))
      (λ k le2. up_complete apart k xs text.rest rest le2 text.second st)

  many_sound : (ts : List S) (x : List A × List S) → many is r ts ≡ Ok x → Sound (many is r) (each p) ts x
  unfolding many
  many_sound ts x h =
      let u = up_sound (length ts) ts x (omega arith) h in
      record { front = u.front; text = u.text; split = u.split; again = λ rest head. u.again (length (u.front ++ rest)) rest head (omega arith) }

  many_complete : Apart is goes → (xs : List A) (l rest : List S) → each p xs l → Stops (one_of is goes) rest → many is r (l ++ rest) ≡ Ok (xs, rest)
  unfolding many
  many_complete apart xs l rest text st = up_complete apart (length (l ++ rest)) xs l rest (omega arith) text st

  many_viable : (ts rest : List S) → many is r ts ≡ Err rest → Viable {A = List A} (each p) ts rest
  unfolding many
  many_viable ts rest h = up_viable (length ts) ts rest h

  many_local : (p q q' : List S) (t : S) → many is r (p ++ t ∷ q) ≡ Err (t ∷ q) → many is r (p ++ t ∷ q') ≡ Err (t ∷ q')
  unfolding many
  many_local p q q' t h = up_local (length (p ++ t ∷ q)) (length (p ++ t ∷ q')) p q q' t (omega arith) h

  -- Values one after the other, where none lengthens the one before it.
  pub law_many : Apart is goes → Law (many is r) (each p) (one_of is goes)
  law_many apart = record {
    sound = many_sound;
    complete = many_complete apart;
    viable = many_viable;
    local = many_local;
    example = [];
    example_list = [];
    example_text = refl;
  }

-- One value at least.
abbrev put : {A : Type 0} → A × List A → List A
put x = x.0 ∷ x.1

abbrev paired : {S A B : Type 0} → A → Read S B → Read S (A × B)
paired a o = o >>= λ y. Ok ((a, y.0), y.1)

abbrev putting : {S A : Type 0} → Read S (A × List A) → Read S (List A)
putting o = o >>= λ z. Ok (put z.0, z.1)

some_step : {S A : Type 0} (a : A) (o : Read S (List A)) → with_front (a ∷ []) o ≡ putting (paired a o)
some_step a (Ok y) = refl
some_step a (Err e) = refl

some_is : {S A : Type 0} (is : S → Bool) (s : List S → Read S A) (o : Read S A) → (o >>= λ x. with_front (x.0 ∷ []) (many is s x.1)) ≡ putting (o >>= λ x. paired x.0 (many is s x.1))
some_is is s (Err e) = refl
some_is is s (Ok x) = some_step x.0 (many is s x.1)

some_to : {S A : Type 0} (p q : A → List S → Type 0) (xs : List A) (l : List S) → made {A = A × List A} put (λ x. p x.0 · each q x.1) xs l → some_of p q xs l
some_to p q xs l h = subst (λ xs. some_of p q xs l) h.1 h.2

some_from : {S A : Type 0} (p q : A → List S → Type 0) (xs : List A) (l : List S) → some_of p q xs l → made {A = A × List A} put (λ x. p x.0 · each q x.1) xs l
some_from p q [] l h = absurd h
some_from p q (x ∷ xs) l h = ((x, xs), refl, h)

after_first : {S A : Type 0} (goes : S → Bool) (q : A → List S → Type 0) (goes2 is : S → Bool) → Leads is q → Apart is goes → ((t : S) → one_of is goes2 t ≡ false → goes t ≡ false) → (xs : List A) (l rest : List S) → each q xs l → Stops (one_of is goes2) rest → Stops goes (l ++ rest)
after_first goes q goes2 is begin apart fewer [] l [] text st = subst (λ l. Stops goes (l ++ [])) (sym text) tt
after_first goes q goes2 is begin apart fewer [] l (t ∷ rest) text st = subst (λ l. Stops goes (l ++ t ∷ rest)) (sym text) (fewer t st)
after_first goes q goes2 is begin apart fewer (a ∷ xs) l rest text st = starts_apart is goes apart (l ++ rest) (starts_more is l rest (subst (Starts is) (sym text.split) (starts_more is text.front text.rest (begin a text.front text.first))))

-- The first value by one step, and the others by another.
pub law_some : {S A : Type 0} {r : List S → Read S A} {p : A → List S → Type 0} {goes : S → Bool} {s : List S → Read S A} {q : A → List S → Type 0} {goes2 : S → Bool} (is : S → Bool) → Law r p goes → Law s q goes2 → Leads is q → Apart is goes → Apart is goes2 → ((t : S) → one_of is goes2 t ≡ false → goes t ≡ false) → Law (some r is s) (some_of p q) (one_of is goes2)
law_some {r = r} {p = p} {goes = goes} {s = s} {q = q} {goes2 = goes2} is law law2 begin apart apart2 fewer =
    law_same (some r is s) (λ ts. some_is is s (r ts))
    (law_as (some_of p q) (some_to p q) (some_from p q)
    (law_mapped put (law_both law (law_many is law2 begin apart2) (after_first goes q goes2 is begin apart fewer))))

-- What is kept away after the separator's value is kept away after the value.
pub after_separator : {S : Type 0} (is goes : S → Bool) (t : S) → one_of is goes t ≡ false → goes t ≡ false
after_separator is goes t h = stops_second is goes (t ∷ []) h

-- One value at least, with a separator between each two.
pub law_separated : {S A : Type 0} {r : List S → Read S A} {p : A → List S → Type 0} {goes : S → Bool} (is : S → Bool) (s : S) → is s ≡ true → Apart is goes → Law r p goes → Law (some r is (skip is r)) (separated p (one is)) (one_of is goes)
law_separated {p = p} {goes = goes} is s pass apart law = law_some is law (law_skip is s pass law) (leads_one is p) apart apart (after_separator is goes)

-- One value at least, one after the other.
pub law_some_of : {S A : Type 0} {r : List S → Read S A} {p : A → List S → Type 0} {goes : S → Bool} (is : S → Bool) → Leads is p → Apart is goes → Law r p goes → Law (some r is r) (some_of p p) (one_of is goes)
law_some_of {goes = goes} is begin apart law = law_some is law law begin apart apart (after_separator is goes)

pub leads_some : {S A : Type 0} (is : S → Bool) (p q : A → List S → Type 0) → Leads is p → Leads is (some_of p q)
leads_some is p q begin [] l h = absurd h
leads_some is p q begin (a ∷ xs) l h = subst (Starts is) (sym h.split) (starts_more is h.front h.rest (begin a h.front h.first))

-- Any number of values.
any_to : {S A : Type 0} (p q : A → List S → Type 0) (xs : List A) (l : List S) → some_of p q xs l ⊎ just [] nothing xs l → any_of p q xs l
any_to p q [] l h = ⊎_elim (λ f. absurd f) (λ f. f.1) h
any_to p q (x ∷ xs) l h = ⊎_elim (λ f. f) (λ f. let e = f.0 in cc) h

any_from : {S A : Type 0} (p q : A → List S → Type 0) (xs : List A) (l : List S) → any_of p q xs l → some_of p q xs l ⊎ just [] nothing xs l
any_from p q [] l h = inr (refl, h)
any_from p q (x ∷ xs) l h = inl h

pub law_any : {S A : Type 0} {r : List S → Read S (List A)} {p q : A → List S → Type 0} {goes : S → Bool} (is : S → Bool) → Leads is p → Law r (some_of p q) goes → Law (either is r (gives [])) (any_of p q) (one_of is goes)
law_any {p = p} {q = q} is begin law = law_as (any_of p q) (any_to p q) (any_from p q) (law_or_gives is [] law (leads_some is p q begin))
