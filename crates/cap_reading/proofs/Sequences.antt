-- Steps one after the other.
use Rattle.std.proofs.Common.{◌≡◌, List, [], ◌∷◌, ◌++◌, Bool, true, Ok, Err, refl, sym, ap, ◌∙◌, subst, ⊎_elim, append_assoc}
use Rattle.std.proofs.lemmas.List.{append-nil, append_cancel_right}
use Rattle.cap_reading.specs.Languages.{one, Joined, ◌·◌, just, nothing}
use Rattle.cap_reading.specs.Steps.{Read, ◌>>=◌, expect, skip, before, both, gives}
use Rattle.cap_reading.proofs.Law.{Stops, Starts, Leads, Apart, Sound, Viable, Law, law_as, SameHead, never, bind_ok, bind_err, bind_to, bind_fails, ok_inj, same_head, starts_more, starts_apart, never_stops}
use Rattle.cap_reading.proofs.Items.{law_gives, expect_ok, expect_err, expect_this, expect_local}

-- one list and then another
pub joined : {S : Type 0} {p q : List S → Type 0} (l m : List S) → p l → q m → Joined p q (l ++ m)
joined l m h k = record { front = l; rest = m; split = refl; first = h; second = k }

-- The first list begins, and the next list may follow.
pub one_begins : {S : Type 0} (is : S → Bool) (q : List S → Type 0) (l : List S) → Joined (one is) q l → Starts is l
one_begins is q l h = subst (Starts is) (sym (h.split ∙ ap (λ k. k ++ h.rest) h.first.1)) h.first.2

pub leads_one : {S A : Type 0} (is : S → Bool) (p : A → List S → Type 0) → Leads is (λ a. one is · p a)
leads_one is p a l h = one_begins is (p a) l h

pub leads_first : {S A B : Type 0} (is : S → Bool) (p : A → List S → Type 0) (q : B → List S → Type 0) → Leads is p → Leads {A = A × B} is (λ x. p x.0 · q x.1)
leads_first is p q begin x l h = subst (Starts is) (sym h.split) (starts_more is h.front h.rest (begin x.0 h.front h.first))

pub leads_before : {S A : Type 0} (is : S → Bool) (p : A → List S → Type 0) (q : List S → Type 0) → Leads is p → Leads is (λ a. p a · q)
leads_before is p q begin a l h = subst (Starts is) (sym h.split) (starts_more is h.front h.rest (begin a h.front h.first))

pub leads_apart : {S A : Type 0} (is goes : S → Bool) (p : A → List S → Type 0) → Apart is goes → Leads is p → (a : A) (l rest : List S) → p a l → Stops goes (l ++ rest)
leads_apart is goes p apart begin a l rest h = starts_apart is goes apart (l ++ rest) (starts_more is l rest (begin a l h))

module _ {S A : Type 0} {r : List S → Read S A} {p : A → List S → Type 0} {goes : S → Bool} (is : S → Bool) where
  skip_sound : Law r p goes → (ts : List S) (x : A × List S) → skip is r ts ≡ Ok x → Sound (skip is r) (λ a. one is · p a) ts x
  skip_sound law ts x h =
      let b = bind_ok (expect is ts) r x h in
      let e = expect_ok is ts b.0 b.1 in
      let u = law.sound b.0 x b.2 in
      record {
        front = e.0 ∷ u.front;
        text = joined (e.0 ∷ []) u.front (e.0, refl, e.2) u.text;
        split = e.1 ∙ ap (λ l. e.0 ∷ l) u.split;
        again = λ rest head. bind_to (expect is (e.0 ∷ (u.front ++ rest))) r (u.front ++ rest) (expect_this is e.0 (u.front ++ rest) e.2) ∙ u.again rest head;
      }

  skip_complete : Law r p goes → (a : A) (front rest : List S) → Joined (one is) (p a) front → Stops goes rest → skip is r (front ++ rest) ≡ Ok (a, rest)
  skip_complete law a front rest j st =
      ap (λ l. skip is r (l ++ rest)) (j.split ∙ ap (λ l. l ++ j.rest) j.first.1)
      ∙ bind_to (expect is (j.first.0 ∷ (j.rest ++ rest))) r (j.rest ++ rest) (expect_this is j.first.0 (j.rest ++ rest) j.first.2)
      ∙ law.complete a j.rest rest j.second st

  skip_viable : (s : S) → is s ≡ true → Law r p goes → (ts rest : List S) → skip is r ts ≡ Err rest → Viable (λ a. one is · p a) ts rest
  skip_viable s pass law ts rest h =
      ⊎_elim
      (λ h1. record { done = []; more = s ∷ law.example_list; value = law.example; text = joined (s ∷ []) law.example_list (s, refl, pass) law.example_text; split = expect_err is ts rest h1 })
      (λ b.
      let u = law.viable b.0 rest b.2 in
      let e = expect_ok is ts b.0 b.1 in
      record { done = e.0 ∷ u.done; more = u.more; value = u.value; text = joined (e.0 ∷ []) (u.done ++ u.more) (e.0, refl, e.2) u.text; split = e.1 ∙ ap (λ l. e.0 ∷ l) u.split })
      (bind_err (expect is ts) r rest h)

  skip_local : Law r p goes → (p q q' : List S) (t : S) → skip is r (p ++ t ∷ q) ≡ Err (t ∷ q) → skip is r (p ++ t ∷ q') ≡ Err (t ∷ q')
  skip_local law p q q' t h =
      ⊎_elim
      (λ h1. bind_fails (expect is (p ++ t ∷ q')) r (t ∷ q') (expect_local is p q q' t h1))
      (λ b.
      let u = law.viable b.0 (t ∷ q) b.2 in
      let e = expect_ok is (p ++ t ∷ q) b.0 b.1 in
      let front : p ≡ e.0 ∷ u.done = append_cancel_right p (e.0 ∷ u.done) (t ∷ q) (e.1 ∙ ap (λ l. e.0 ∷ l) u.split) in
      ap (λ l. skip is r (l ++ t ∷ q')) front
      ∙ bind_to (expect is (e.0 ∷ (u.done ++ t ∷ q'))) r (u.done ++ t ∷ q') (expect_this is e.0 (u.done ++ t ∷ q') e.2)
      ∙ law.local u.done q q' t (ap r (sym u.split) ∙ b.2))
      (bind_err (expect is (p ++ t ∷ q)) r (t ∷ q) h)

  -- Behind an item that passes the test; an example of one is wanted.
  pub law_skip : (s : S) → is s ≡ true → Law r p goes → Law (skip is r) (λ a. one is · p a) goes
  law_skip s pass law = record {
    sound = skip_sound law;
    complete = skip_complete law;
    viable = skip_viable s pass law;
    local = skip_local law;
    example = law.example;
    example_list = s ∷ law.example_list;
    example_text = joined (s ∷ []) law.example_list (s, refl, pass) law.example_text;
  }

  before_sound : Law r p goes → (ts : List S) (x : A × List S) → before r is ts ≡ Ok x → Sound (before r is) (λ a. p a · one is) ts x
  before_sound law ts x h =
      let b = bind_ok (r ts) (λ x. expect is x.1 >>= λ rest. Ok (x.0, rest)) x h in
      let y = b.0 in
      let c = bind_ok (expect is y.1) (λ rest. Ok (y.0, rest)) x b.2 in
      let u = law.sound ts y b.1 in
      let e = expect_ok is y.1 c.0 c.1 in
      subst (Sound (before r is) (λ a. p a · one is) ts) (ok_inj (y.0, c.0) x c.2)
      (record {
        front = u.front ++ e.0 ∷ [];
        text = joined u.front (e.0 ∷ []) u.text (e.0, refl, e.2);
        split = u.split ∙ ap (λ l. u.front ++ l) e.1 ∙ sym (append_assoc u.front (e.0 ∷ []) c.0);
        again = λ rest head.
            ap (before r is) (append_assoc u.front (e.0 ∷ []) rest)
            ∙ bind_to (r (u.front ++ e.0 ∷ rest)) (λ x. expect is x.1 >>= λ rest. Ok (x.0, rest)) (y.0, e.0 ∷ rest) (u.again (e.0 ∷ rest) (subst (λ l. SameHead l (e.0 ∷ rest)) (sym e.1) refl))
            ∙ bind_to (expect is (e.0 ∷ rest)) (λ rest. Ok (y.0, rest)) rest (expect_this is e.0 rest e.2);
      })

  before_complete : Apart is goes → Law r p goes → (a : A) (front rest : List S) → Joined (p a) (one is) front → before r is (front ++ rest) ≡ Ok (a, rest)
  before_complete apart law a front rest j =
      let s = j.second.0 in
      ap (λ l. before r is (l ++ rest)) (j.split ∙ ap (λ l. j.front ++ l) j.second.1)
      ∙ ap (before r is) (append_assoc j.front (s ∷ []) rest)
      ∙ bind_to (r (j.front ++ s ∷ rest)) (λ x. expect is x.1 >>= λ rest. Ok (x.0, rest)) (a, s ∷ rest) (law.complete a j.front (s ∷ rest) j.first (apart s j.second.2))
      ∙ bind_to (expect is (s ∷ rest)) (λ rest. Ok (a, rest)) rest (expect_this is s rest j.second.2)

  before_viable : (s : S) → is s ≡ true → Law r p goes → (ts rest : List S) → before r is ts ≡ Err rest → Viable (λ a. p a · one is) ts rest
  before_viable s pass law ts rest h =
      ⊎_elim
      (λ h1.
      let u = law.viable ts rest h1 in
      record { done = u.done; more = u.more ++ s ∷ []; value = u.value; text = subst (λ l. Joined (p u.value) (one is) l) (append_assoc u.done u.more (s ∷ [])) (joined (u.done ++ u.more) (s ∷ []) u.text (s, refl, pass)); split = u.split })
      (λ b. ⊎_elim
      (λ h2.
      let u = law.sound ts b.0 b.1 in
      record { done = u.front; more = s ∷ []; value = b.0.0; text = joined u.front (s ∷ []) u.text (s, refl, pass); split = u.split ∙ ap (λ l. u.front ++ l) (expect_err is b.0.1 rest h2) })
      (λ c. let e = c.2 in cc)
      (bind_err (expect is b.0.1) (λ rest. Ok (b.0.0, rest)) rest b.2))
      (bind_err (r ts) (λ x. expect is x.1 >>= λ rest. Ok (x.0, rest)) rest h)

  before_local : Law r p goes → (p q q' : List S) (t : S) → before r is (p ++ t ∷ q) ≡ Err (t ∷ q) → before r is (p ++ t ∷ q') ≡ Err (t ∷ q')
  before_local law p q q' t h =
      ⊎_elim
      (λ h1. bind_fails (r (p ++ t ∷ q')) (λ x. expect is x.1 >>= λ rest. Ok (x.0, rest)) (t ∷ q') (law.local p q q' t h1))
      (λ b. ⊎_elim
      (λ h2.
      let u = law.sound (p ++ t ∷ q) b.0 b.1 in
      let at : b.0.1 ≡ t ∷ q = expect_err is b.0.1 (t ∷ q) h2 in
      let front : p ≡ u.front = append_cancel_right p u.front (t ∷ q) (u.split ∙ ap (λ l. u.front ++ l) at) in
      ap (λ l. before r is (l ++ t ∷ q')) front
      ∙ bind_to (r (u.front ++ t ∷ q')) (λ x. expect is x.1 >>= λ rest. Ok (x.0, rest)) (b.0.0, t ∷ q') (u.again (t ∷ q') (subst (λ l. SameHead l (t ∷ q')) (sym at) refl))
      ∙ bind_fails (expect is (t ∷ q')) (λ rest. Ok (b.0.0, rest)) (t ∷ q') (expect_local is [] q q' t (ap (expect is) (sym at) ∙ h2)))
      (λ c. let e = c.2 in cc)
      (bind_err (expect is b.0.1) (λ rest. Ok (b.0.0, rest)) (t ∷ q) b.2))
      (bind_err (r (p ++ t ∷ q)) (λ x. expect is x.1 >>= λ rest. Ok (x.0, rest)) (t ∷ q) h)

  -- Before an item that passes the test, where no such item would lengthen what was read.
  pub law_before : (s : S) → is s ≡ true → Apart is goes → Law r p goes → Law (before r is) (λ a. p a · one is) never
  law_before s pass apart law = record {
    sound = before_sound law;
    complete = λ a front rest j st. before_complete apart law a front rest j;
    viable = before_viable s pass law;
    local = before_local law;
    example = law.example;
    example_list = law.example_list ++ s ∷ [];
    example_text = joined law.example_list (s ∷ []) law.example_text (s, refl, pass);
  }

module _ {S A B : Type 0} {r : List S → Read S A} {p : A → List S → Type 0} {goes : S → Bool} {s : List S → Read S B} {q : B → List S → Type 0} {goes2 : S → Bool} (law : Law r p goes) (law2 : Law s q goes2) where
  both_sound : (ts : List S) (x : (A × B) × List S) → both r s ts ≡ Ok x → Sound {A = A × B} (both r s) (λ x. p x.0 · q x.1) ts x
  both_sound ts x h =
      let b = bind_ok (r ts) (λ x. s x.1 >>= λ y. Ok ((x.0, y.0), y.1)) x h in
      let y = b.0 in
      let c = bind_ok (s y.1) (λ z. Ok ((y.0, z.0), z.1)) x b.2 in
      let z = c.0 in
      let u = law.sound ts y b.1 in
      let v = law2.sound y.1 z c.1 in
      subst (Sound {A = A × B} (both r s) (λ x. p x.0 · q x.1) ts) (ok_inj ((y.0, z.0), z.1) x c.2)
      (record {
        front = u.front ++ v.front;
        text = joined u.front v.front u.text v.text;
        split = u.split ∙ ap (λ l. u.front ++ l) v.split ∙ sym (append_assoc u.front v.front z.1);
        again = λ rest head.
            let head2 : SameHead y.1 (v.front ++ rest) = subst (λ l. SameHead l (v.front ++ rest)) (sym v.split) (same_head v.front z.1 rest head) in
            ap (both r s) (append_assoc u.front v.front rest)
            ∙ bind_to (r (u.front ++ (v.front ++ rest))) (λ x. s x.1 >>= λ y. Ok ((x.0, y.0), y.1)) (y.0, v.front ++ rest) (u.again (v.front ++ rest) head2)
            ∙ bind_to (s (v.front ++ rest)) (λ z. Ok ((y.0, z.0), z.1)) (z.0, rest) (v.again rest head);
      })

  both_complete : ((b : B) (l rest : List S) → q b l → Stops goes2 rest → Stops goes (l ++ rest)) → (x : A × B) (front rest : List S) → Joined (p x.0) (q x.1) front → Stops goes2 rest → both r s (front ++ rest) ≡ Ok (x, rest)
  both_complete apart x front rest j st =
      ap (λ l. both r s (l ++ rest)) j.split
      ∙ ap (both r s) (append_assoc j.front j.rest rest)
      ∙ bind_to (r (j.front ++ (j.rest ++ rest))) (λ x. s x.1 >>= λ y. Ok ((x.0, y.0), y.1)) (x.0, j.rest ++ rest) (law.complete x.0 j.front (j.rest ++ rest) j.first (apart x.1 j.rest rest j.second st))
      ∙ bind_to (s (j.rest ++ rest)) (λ y. Ok ((x.0, y.0), y.1)) (x.1, rest) (law2.complete x.1 j.rest rest j.second st)

  both_viable : (ts rest : List S) → both r s ts ≡ Err rest → Viable {A = A × B} (λ x. p x.0 · q x.1) ts rest
  both_viable ts rest h =
      ⊎_elim
      (λ h1.
      let u = law.viable ts rest h1 in
      record {
        done = u.done;
        more = u.more ++ law2.example_list;
        value = (u.value, law2.example);
        text = subst (λ l. Joined (p u.value) (q law2.example) l) (append_assoc u.done u.more law2.example_list) (joined (u.done ++ u.more) law2.example_list u.text law2.example_text);
        split = u.split;
      })
      (λ b. ⊎_elim
      (λ h2.
      let u = law.sound ts b.0 b.1 in
      let v = law2.viable b.0.1 rest h2 in
      record {
        done = u.front ++ v.done;
        more = v.more;
        value = (b.0.0, v.value);
        text = subst (λ l. Joined (p b.0.0) (q v.value) l) (sym (append_assoc u.front v.done v.more)) (joined u.front (v.done ++ v.more) u.text v.text);
        split = u.split ∙ ap (λ l. u.front ++ l) v.split ∙ sym (append_assoc u.front v.done rest);
      })
      (λ c. let e = c.2 in cc)
      (bind_err (s b.0.1) (λ y. Ok ((b.0.0, y.0), y.1)) rest b.2))
      (bind_err (r ts) (λ x. s x.1 >>= λ y. Ok ((x.0, y.0), y.1)) rest h)

  both_local : (p q q' : List S) (t : S) → both r s (p ++ t ∷ q) ≡ Err (t ∷ q) → both r s (p ++ t ∷ q') ≡ Err (t ∷ q')
  both_local p q q' t h =
      ⊎_elim
      (λ h1. bind_fails (r (p ++ t ∷ q')) (λ x. s x.1 >>= λ y. Ok ((x.0, y.0), y.1)) (t ∷ q') (law.local p q q' t h1))
      (λ b. ⊎_elim
      (λ h2.
      let u = law.sound (p ++ t ∷ q) b.0 b.1 in
      let v = law2.viable b.0.1 (t ∷ q) h2 in
      let whole : p ++ t ∷ q ≡ u.front ++ v.done ++ t ∷ q = u.split ∙ ap (λ l. u.front ++ l) v.split ∙ sym (append_assoc u.front v.done (t ∷ q)) in
      let front : p ≡ u.front ++ v.done = append_cancel_right p (u.front ++ v.done) (t ∷ q) whole in
      let head : SameHead b.0.1 (v.done ++ t ∷ q') = subst (λ l. SameHead l (v.done ++ t ∷ q')) (sym v.split) (same_head v.done (t ∷ q) (t ∷ q') refl) in
      ap (λ l. both r s (l ++ t ∷ q')) front
      ∙ ap (both r s) (append_assoc u.front v.done (t ∷ q'))
      ∙ bind_to (r (u.front ++ (v.done ++ t ∷ q'))) (λ x. s x.1 >>= λ y. Ok ((x.0, y.0), y.1)) (b.0.0, v.done ++ t ∷ q') (u.again (v.done ++ t ∷ q') head)
      ∙ bind_fails (s (v.done ++ t ∷ q')) (λ y. Ok ((b.0.0, y.0), y.1)) (t ∷ q') (law2.local v.done q q' t (ap s (sym v.split) ∙ h2)))
      (λ c. let e = c.2 in cc)
      (bind_err (s b.0.1) (λ y. Ok ((b.0.0, y.0), y.1)) (t ∷ q) b.2))
      (bind_err (r (p ++ t ∷ q)) (λ x. s x.1 >>= λ y. Ok ((x.0, y.0), y.1)) (t ∷ q) h)

  -- One after the other, where no list of the second one, nor what follows it, would lengthen the first.
  pub law_both : ((b : B) (l rest : List S) → q b l → Stops goes2 rest → Stops goes (l ++ rest)) → Law {A = A × B} (both r s) (λ x. p x.0 · q x.1) goes2
  law_both apart = record {
    sound = both_sound;
    complete = both_complete apart;
    viable = both_viable;
    local = both_local;
    example = (law.example, law2.example);
    example_list = law.example_list ++ law2.example_list;
    example_text = joined law.example_list law2.example_list law.example_text law2.example_text;
  }

-- One after the other, where nothing lengthens the first.
pub law_then : {S A B : Type 0} {r : List S → Read S A} {p : A → List S → Type 0} {s : List S → Read S B} {q : B → List S → Type 0} {goes2 : S → Bool} → Law r p never → Law s q goes2 → Law {A = A × B} (both r s) (λ x. p x.0 · q x.1) goes2
law_then law law2 = law_both law law2 (λ b l rest h st. never_stops (l ++ rest))

-- A value that an item stands for, and items before it.
mark_to : {S A : Type 0} (is : S → Bool) (a b : A) (l : List S) → Joined (one is) (just a nothing b) l → just a (one is) b l
mark_to is a b l h = (h.second.0, subst (one is) (sym (h.split ∙ ap (λ k. h.front ++ k) h.second.1 ∙ append-nil h.front)) h.first)

mark_from : {S A : Type 0} (is : S → Bool) (a b : A) (l : List S) → just a (one is) b l → Joined (one is) (just a nothing b) l
mark_from is a b l h = record { front = l; rest = []; split = sym (append-nil l); first = h.1; second = (h.0, refl) }

pub law_mark : {S A : Type 0} (is : S → Bool) (s : S) → is s ≡ true → (a : A) → Law (skip is (gives a)) (just a (one is)) never
law_mark is s pass a = law_as (just a (one is)) (mark_to is a) (mark_from is a) (law_skip is s pass (law_gives a))

just_to : {S A : Type 0} (p q : List S → Type 0) (a b : A) (l : List S) → Joined p (just a q b) l → just a (p · q) b l
just_to p q a b l h = (h.second.0, record { front = h.front; rest = h.rest; split = h.split; first = h.first; second = h.second.1 })

just_from : {S A : Type 0} (p q : List S → Type 0) (a b : A) (l : List S) → just a (p · q) b l → Joined p (just a q b) l
just_from p q a b l h = record { front = h.1.front; rest = h.1.rest; split = h.1.split; first = h.1.first; second = (h.0, h.1.second) }

pub law_skip_just : {S A : Type 0} {r : List S → Read S A} {p : List S → Type 0} {a : A} {goes : S → Bool} (is : S → Bool) (s : S) → is s ≡ true → Law r (just a p) goes → Law (skip is r) (just a (one is · p)) goes
law_skip_just {p = p} {a = a} is s pass law = law_as (just a (one is · p)) (just_to (one is) p a) (just_from (one is) p a) (law_skip is s pass law)
