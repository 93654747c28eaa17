-- Steps that the next item chooses.
use Rattle.std.proofs.Common.{◌≡◌, List, [], ◌∷◌, ◌++◌, Bool, true, false, Option, Some, None, Ok, Err, refl, sym, ap, ◌∙◌, subst, inl, inr, ⊎_elim, cond}
use Rattle.std.specs.Prelude.{◌⊎◌}
use Rattle.cap_reading.specs.Languages.{◌or◌, made, maybe, just, nothing}
use Rattle.cap_reading.specs.Steps.{Read, ◌>>=◌, mapped, either, gives, optional}
use Rattle.cap_reading.proofs.Law.{Stops, Starts, Leads, Apart, Sound, Viable, Law, SameHead, one_of, cond_yes, cond_no, starts_or, starts_more, starts_same, starts_apart, apart_sym, stops_same, stops_head, stops_first, stops_second, chosen}
use Rattle.cap_reading.proofs.Items.{law_mapped, law_gives}

pub either_yes : {S A : Type 0} (is : S → Bool) (r s : List S → Read S A) (ts : List S) → Starts is ts → either is r s ts ≡ r ts
either_yes is r s [] h = absurd h
either_yes is r s (t ∷ ts) h = cond_yes (is t) (r (t ∷ ts)) (s (t ∷ ts)) h

pub either_no : {S A : Type 0} (is : S → Bool) (r s : List S → Read S A) (ts : List S) → Stops is ts → either is r s ts ≡ s ts
either_no is r s [] h = refl
either_no is r s (t ∷ ts) h = cond_no (is t) (r (t ∷ ts)) (s (t ∷ ts)) h

-- what is read again begins as before
begins_again : {S : Type 0} (is : S → Bool) (front rest rest' : List S) → SameHead rest rest' → Starts is (front ++ rest) → Starts is (front ++ rest')
begins_again is (s ∷ front) rest rest' head h = h
begins_again is [] [] rest' head h = absurd h
begins_again is [] (t ∷ q) [] head h = absurd head
begins_again is [] (t ∷ q) (u ∷ r) head h = ap is (sym head) ∙ h

stops_again : {S : Type 0} (is : S → Bool) (front rest rest' : List S) → SameHead rest rest' → Stops is (front ++ rest) → Stops is (front ++ rest')
stops_again is (s ∷ front) rest rest' head h = h
stops_again is [] rest rest' head h = stops_head is rest rest' head h

module _ {S A : Type 0} {r s : List S → Read S A} {p q : A → List S → Type 0} {goes goes2 : S → Bool} (is : S → Bool) (law : Law r p goes) (law2 : Law s q goes2) where
  either_sound : (ts : List S) (x : A × List S) → either is r s ts ≡ Ok x → Sound (either is r s) (λ a. p a or q a) ts x
  either_sound ts x h =
      ⊎_elim
      (λ y.
      let u = law.sound ts x (sym (either_yes is r s ts y) ∙ h) in
      record { front = u.front; text = inl u.text; split = u.split; again = λ rest head. either_yes is r s (u.front ++ rest) (begins_again is u.front x.1 rest head (subst (Starts is) u.split y)) ∙ u.again rest head })
      (λ n.
      let u = law2.sound ts x (sym (either_no is r s ts n) ∙ h) in
      record { front = u.front; text = inr u.text; split = u.split; again = λ rest head. either_no is r s (u.front ++ rest) (stops_again is u.front x.1 rest head (subst (Stops is) u.split n)) ∙ u.again rest head })
      (starts_or is ts)

  either_viable : (ts rest : List S) → either is r s ts ≡ Err rest → Viable (λ a. p a or q a) ts rest
  either_viable ts rest h =
      ⊎_elim
      (λ y. let u = law.viable ts rest (sym (either_yes is r s ts y) ∙ h) in record { done = u.done; more = u.more; value = u.value; text = inl u.text; split = u.split })
      (λ n. let u = law2.viable ts rest (sym (either_no is r s ts n) ∙ h) in record { done = u.done; more = u.more; value = u.value; text = inr u.text; split = u.split })
      (starts_or is ts)

  either_local : (p q q' : List S) (t : S) → either is r s (p ++ t ∷ q) ≡ Err (t ∷ q) → either is r s (p ++ t ∷ q') ≡ Err (t ∷ q')
  either_local p q q' t h =
      ⊎_elim
      (λ y. either_yes is r s (p ++ t ∷ q') (starts_same is p q q' t y) ∙ law.local p q q' t (sym (either_yes is r s (p ++ t ∷ q) y) ∙ h))
      (λ n. either_no is r s (p ++ t ∷ q') (stops_same is p q q' t n) ∙ law2.local p q q' t (sym (either_no is r s (p ++ t ∷ q) n) ∙ h))
      (starts_or is (p ++ t ∷ q))

  -- The first lists begin with an item that passes the test, and the others, with what follows them, don't.
  pub law_either_by : Leads is p → ((a : A) (l rest : List S) → q a l → Stops (one_of goes goes2) rest → Stops is (l ++ rest)) → Law (either is r s) (λ a. p a or q a) (one_of goes goes2)
  law_either_by begin other = record {
    sound = either_sound;
    complete = λ a front rest text st. ⊎_elim
        (λ f. either_yes is r s (front ++ rest) (starts_more is front rest (begin a front f)) ∙ law.complete a front rest f (stops_first goes goes2 rest st))
        (λ f. either_no is r s (front ++ rest) (other a front rest f st) ∙ law2.complete a front rest f (stops_second goes goes2 rest st))
        text;
    viable = either_viable;
    local = either_local;
    example = law.example;
    example_list = law.example_list;
    example_text = inl law.example_text;
  }

  -- The lists of the two begin with items apart.
  pub law_either : (is2 : S → Bool) → Leads is p → Leads is2 q → Apart is2 is → Law (either is r s) (λ a. p a or q a) (one_of goes goes2)
  law_either is2 begin begin2 apart = law_either_by begin (λ a l rest h st. starts_apart is2 is apart (l ++ rest) (starts_more is2 l rest (begin2 a l h)))

-- What is read where the next item passes the test, and else one value from no item.
or_gives_complete : {S A : Type 0} {r : List S → Read S A} {p : A → List S → Type 0} {goes : S → Bool} (is : S → Bool) (a : A) → Law r p goes → Leads is p → (b : A) (front rest : List S) → (p b front) ⊎ (just a nothing b front) → Stops (one_of is goes) rest → either is r (gives a) (front ++ rest) ≡ Ok (b, rest)
or_gives_complete {r = r} {goes = goes} is a law begin b front rest text st =
    ⊎_elim
    (λ f. either_yes is r (gives a) (front ++ rest) (starts_more is front rest (begin b front f)) ∙ law.complete b front rest f (stops_second is goes rest st))
    (λ f. ap (λ l. either is r (gives a) (l ++ rest)) f.1 ∙ either_no is r (gives a) rest (stops_first is goes rest st) ∙ ap (λ c. Ok (c, rest)) (sym f.0))
    text

pub law_or_gives : {S A : Type 0} {r : List S → Read S A} {p : A → List S → Type 0} {goes : S → Bool} (is : S → Bool) (a : A) → Law r p goes → Leads is p → Law (either is r (gives a)) (λ b. p b or just a nothing b) (one_of is goes)
law_or_gives is a law begin = record {
  sound = either_sound is law (law_gives a);
  complete = or_gives_complete is a law begin;
  viable = either_viable is law (law_gives a);
  local = either_local is law (law_gives a);
  example = law.example;
  example_list = law.example_list;
  example_text = inl law.example_text;
}

-- Two values of one sum: the lists of what f makes, and of what g makes.
pub from_made : {S A B : Type 0} {f : A → B} {p : A → List S → Type 0} (q : B → List S → Type 0) → ((a : A) (l : List S) → p a l → q (f a) l) → (b : B) (l : List S) → made f p b l → q b l
from_made q h b l m = subst (λ c. q c l) m.1 (h m.0 l m.2)

pub from_or : {S A : Type 0} {p p2 : A → List S → Type 0} (q : A → List S → Type 0) → ((a : A) (l : List S) → p a l → q a l) → ((a : A) (l : List S) → p2 a l → q a l) → (a : A) (l : List S) → p a l ⊎ p2 a l → q a l
from_or q h k a l m = ⊎_elim (h a l) (k a l) m

pub from_just : {S A : Type 0} {a : A} {p : List S → Type 0} (q : A → List S → Type 0) → ((l : List S) → p l → q a l) → (b : A) (l : List S) → just a p b l → q b l
from_just q h b l m = subst (λ c. q c l) (sym m.0) (h l m.1)

pub leads_just : {S A : Type 0} (is : S → Bool) (a : A) (p : List S → Type 0) → ((l : List S) → p l → Starts is l) → Leads is (just a p)
leads_just is a p begin b l m = begin l m.1

pub leads_made : {S A B : Type 0} (is : S → Bool) (f : A → B) (p : A → List S → Type 0) → Leads is p → Leads is (made f p)
leads_made is f p begin b l m = begin m.0 l m.2

one_passes : {S : Type 0} (is is2 : S → Bool) (l : List S) → Starts is l → Starts (one_of is is2) l
one_passes is is2 [] h = absurd h
one_passes is is2 (t ∷ l) h = cond_yes (is t) true (is2 t) h

either_true : (b c : Bool) → c ≡ true → cond b true c ≡ true
either_true true c h = refl
either_true false c h = h

second_passes : {S : Type 0} (is is2 : S → Bool) (l : List S) → Starts is2 l → Starts (one_of is is2) l
second_passes is is2 [] h = absurd h
second_passes is is2 (t ∷ l) h = either_true (is t) (is2 t) h

pub leads_or : {S A : Type 0} (is is2 : S → Bool) (p q : A → List S → Type 0) → Leads is p → Leads is2 q → Leads (one_of is is2) (λ a. p a or q a)
leads_or is is2 p q begin begin2 a l h = ⊎_elim (λ f. one_passes is is2 l (begin a l f)) (λ g. second_passes is is2 l (begin2 a l g)) h

pub apart_or : {S : Type 0} (is is2 goes : S → Bool) → Apart is goes → Apart is2 goes → Apart (one_of is is2) goes
apart_or is is2 goes h k t e = ⊎_elim (λ p. h t p.0) (λ p. k t p.1) (chosen (is t) true (is2 t) true e)

module _ {S A : Type 0} {r : List S → Read S A} {p : A → List S → Type 0} {goes : S → Bool} (is : S → Bool) (law : Law r p goes) (begin : Leads is p) where
  to_maybe : (o : Option A) (l : List S) → made Some p o l ⊎ just None nothing o l → maybe p o l
  to_maybe o l h = ⊎_elim (λ m. subst (λ o. maybe p o l) m.1 m.2) (λ m. subst (λ o. maybe p o l) (sym m.0) m.1) h

  from_maybe : (o : Option A) (l : List S) → maybe p o l → made Some p o l ⊎ just None nothing o l
  from_maybe None l h = inr (refl, h)
  from_maybe (Some a) l h = inl (a, refl, h)

  optional_complete : (o : Option A) (front rest : List S) → maybe p o front → Stops (one_of is goes) rest → optional is r (front ++ rest) ≡ Ok (o, rest)
  optional_complete None front rest text st = ap (λ l. optional is r (l ++ rest)) text ∙ either_no is (mapped Some r) (gives None) rest (stops_first is goes rest st)
  optional_complete (Some a) front rest text st =
      either_yes is (mapped Some r) (gives None) (front ++ rest) (starts_more is front rest (begin a front text))
      ∙ ap (λ o. o >>= λ y. Ok (Some y.0, y.1)) (law.complete a front rest text (stops_second is goes rest st))

  optional_sound : (ts : List S) (x : Option A × List S) → optional is r ts ≡ Ok x → Sound (optional is r) (maybe p) ts x
  optional_sound ts x h =
      let u = either_sound is (law_mapped Some law) (law_gives None) ts x h in
      record { front = u.front; text = to_maybe x.0 u.front u.text; split = u.split; again = u.again }

  optional_viable : (ts rest : List S) → optional is r ts ≡ Err rest → Viable (maybe p) ts rest
  optional_viable ts rest h =
      let u = either_viable is (law_mapped Some law) (law_gives None) ts rest h in
      record { done = u.done; more = u.more; value = u.value; text = to_maybe u.value (u.done ++ u.more) u.text; split = u.split }

  -- A value where the next item passes the test.
  pub law_optional : Law (optional is r) (maybe p) (one_of is goes)
  law_optional = record {
    sound = optional_sound;
    complete = optional_complete;
    viable = optional_viable;
    local = either_local is (law_mapped Some law) (law_gives None);
    example = None;
    example_list = [];
    example_text = refl;
  }

-- One of several ways that begin differently: the law of a way, and how its lists begin.
pub record Way {S A : Type 0} (r : List S → Read S A) (p : A → List S → Type 0) (is goes : S → Bool) : Type 0 where
  pub law : Law r p goes
  pub begin : Leads is p

pub way_or : {S A : Type 0} {r s : List S → Read S A} {p q : A → List S → Type 0} {goes goes2 : S → Bool} (is is2 : S → Bool) → Apart is is2 → Way r p is goes → Way s q is2 goes2 → Way (either is r s) (λ a. p a or q a) (one_of is is2) (one_of goes goes2)
way_or {p = p} {q = q} is is2 apart w w2 = record { law = law_either is w.law w2.law is2 w.begin w2.begin (apart_sym apart); begin = leads_or is is2 p q w.begin w2.begin }

pub way_made : {S A B : Type 0} {r : List S → Read S A} {p : A → List S → Type 0} {is goes : S → Bool} (f : A → B) → Way r p is goes → Way (mapped f r) (made f p) is goes
way_made {p = p} {is = is} f w = record { law = law_mapped f w.law; begin = leads_made is f p w.begin }
