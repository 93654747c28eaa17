-- What a step of reading owes.
use Rattle.std.proofs.Common.{◌≡◌, ◌<◌, ◌≤◌, length, arith, List, [], ◌∷◌, ◌++◌, Bool, true, false, Result, Ok, Err, refl, sym, ap, ◌∙◌, inl, inr, ⊎_elim, cond}
use Rattle.std.specs.Prelude.{◌⊎◌}
use Rattle.std.proofs.lemmas.Bool.{false≢true, false_from_ne_true}
use Rattle.cap_reading.specs.Steps.{Read, ◌>>=◌, begins}

-- The next item, if there is one, fails the test.
abbrev pub Stops : {S : Type 0} → (S → Bool) → List S → Type 0
Stops goes [] = Unit {0}
Stops goes (t ∷ ts) = goes t ≡ false

-- The next item passes the test.
abbrev pub Starts : {S : Type 0} → (S → Bool) → List S → Type 0
Starts is [] = ⊥
Starts is (t ∷ ts) = is t ≡ true

-- Each list of each value begins with an item that passes the test.
abbrev pub Leads : {S A : Type 0} → (S → Bool) → (A → List S → Type 0) → Type 0
Leads {S} {A} is p = (a : A) (l : List S) → p a l → Starts is l

-- No item passes both tests.
abbrev pub Apart : {S : Type 0} → (S → Bool) → (S → Bool) → Type 0
Apart {S} is goes = (t : S) → is t ≡ true → goes t ≡ false

-- Both lists are empty, or begin with the same item.
abbrev pub SameHead : {S : Type 0} → List S → List S → Type 0
SameHead [] [] = Unit {0}
SameHead [] (u ∷ r) = ⊥
SameHead (t ∷ q) [] = ⊥
SameHead (t ∷ q) (u ∷ r) = t ≡ u

-- no item, and an item that passes either test
abbrev pub never : {S : Type 0} → S → Bool
never t = false

abbrev pub one_of : {S : Type 0} → (S → Bool) → (S → Bool) → S → Bool
one_of is goes t = cond (is t) true (goes t)

-- What was read is a front in the language, and is read again before each list with the same head.
pub record Sound {S A : Type 0} (r : List S → Read S A) (p : A → List S → Type 0) (ts : List S) (x : A × List S) : Type 0 where
  pub front : List S
  pub text : p x.0 front
  pub split : ts ≡ front ++ x.1
  pub again : (rest : List S) → SameHead x.1 rest → r (front ++ rest) ≡ Ok (x.0, rest)

-- What is before rest is a front of a list of the language.
pub record Viable {S A : Type 0} (p : A → List S → Type 0) (ts rest : List S) : Type 0 where
  pub done : List S
  pub more : List S
  pub value : A
  pub text : p value (done ++ more)
  pub split : ts ≡ done ++ rest

-- r reads the lists that p gives each value. An item that passes goes would lengthen what was read.
pub record Law {S A : Type 0} (r : List S → Read S A) (p : A → List S → Type 0) (goes : S → Bool) : Type 0 where
  pub sound : (ts : List S) (x : A × List S) → r ts ≡ Ok x → Sound r p ts x
  pub complete : (a : A) (front rest : List S) → p a front → Stops goes rest → r (front ++ rest) ≡ Ok (a, rest)
  pub viable : (ts rest : List S) → r ts ≡ Err rest → Viable p ts rest
  pub local : (before after after' : List S) (t : S) → r (before ++ t ∷ after) ≡ Err (t ∷ after) → r (before ++ t ∷ after') ≡ Err (t ∷ after')
  pub example : A
  pub example_list : List S
  pub example_text : p example example_list

-- The same law of a language that is written otherwise.
pub law_as : {S A : Type 0} {r : List S → Read S A} {p : A → List S → Type 0} {goes : S → Bool} (q : A → List S → Type 0) → ((a : A) (l : List S) → p a l → q a l) → ((a : A) (l : List S) → q a l → p a l) → Law r p goes → Law r q goes
law_as q to from law = record {
  sound = λ ts x h. let u = law.sound ts x h in record { front = u.front; text = to x.0 u.front u.text; split = u.split; again = u.again };
  complete = λ a front rest text st. law.complete a front rest (from a front text) st;
  viable = λ ts rest h. let u = law.viable ts rest h in record { done = u.done; more = u.more; value = u.value; text = to u.value (u.done ++ u.more) u.text; split = u.split };
  local = law.local;
  example = law.example;
  example_list = law.example_list;
  example_text = to law.example law.example_list law.example_text;
}

-- The same law of a step that answers the same.
pub law_same : {S A : Type 0} {r : List S → Read S A} {p : A → List S → Type 0} {goes : S → Bool} (s : List S → Read S A) → ((ts : List S) → s ts ≡ r ts) → Law r p goes → Law s p goes
law_same s same law = record {
  sound = λ ts x h. let u = law.sound ts x (sym (same ts) ∙ h) in record { front = u.front; text = u.text; split = u.split; again = λ rest head. same (u.front ++ rest) ∙ u.again rest head };
  complete = λ a front rest text st. same (front ++ rest) ∙ law.complete a front rest text st;
  viable = λ ts rest h. law.viable ts rest (sym (same ts) ∙ h);
  local = λ before after after' t h. same (before ++ t ∷ after') ∙ law.local before after after' t (sym (same (before ++ t ∷ after)) ∙ h);
  example = law.example;
  example_list = law.example_list;
  example_text = law.example_text;
}

-- The same law with more items that are kept away.
pub law_goes : {S A : Type 0} {r : List S → Read S A} {p : A → List S → Type 0} {goes : S → Bool} (goes2 : S → Bool) → ((t : S) → goes2 t ≡ false → goes t ≡ false) → Law r p goes → Law r p goes2
law_goes {S} {goes = goes} goes2 fewer law = record {
  sound = law.sound;
  complete = λ a front rest text st. law.complete a front rest text (weaker rest st);
  viable = law.viable;
  local = law.local;
  example = law.example;
  example_list = law.example_list;
  example_text = law.example_text;
} where
  weaker : (rest : List S) → Stops goes2 rest → Stops goes rest
  weaker [] st = tt
  weaker (t ∷ rest) st = fewer t st

-- Steps in a row.
pub bind_ok : {A B F : Type 0} (r : Result A F) (f : A → Result B F) (y : B) → (r >>= f) ≡ Ok y → (x : A) × (r ≡ Ok x) × (f x ≡ Ok y)
bind_ok (Ok x) f y h = (x, refl, h)
bind_ok (Err e) f y h = cc

pub bind_err : {A B F : Type 0} (r : Result A F) (f : A → Result B F) (e : F) → (r >>= f) ≡ Err e → (r ≡ Err e) ⊎ ((x : A) × (r ≡ Ok x) × (f x ≡ Err e))
bind_err (Ok x) f e h = inr (x, refl, h)
bind_err (Err d) f e h = inl cc

pub bind_to : {A B F : Type 0} (r : Result A F) (f : A → Result B F) (x : A) → r ≡ Ok x → (r >>= f) ≡ f x
bind_to r f x h = ap (λ o. o >>= f) h

pub bind_fails : {A B F : Type 0} (r : Result A F) (f : A → Result B F) (e : F) → r ≡ Err e → (r >>= f) ≡ Err e
bind_fails r f e h = ap (λ o. o >>= f) h

pub bind_same : {A B F : Type 0} (r : Result A F) (f g : A → Result B F) → ((x : A) → r ≡ Ok x → f x ≡ g x) → (r >>= f) ≡ (r >>= g)
bind_same (Ok x) f g h = h x refl
bind_same (Err e) f g h = refl

pub ok_inj : {A F : Type 0} (x y : A) → (let r : Result A F = Ok x in r ≡ Ok y) → x ≡ y
ok_inj x y h = cc

pub err_inj : {A F : Type 0} (x y : F) → (let r : Result A F = Err x in r ≡ Err y) → x ≡ y
err_inj x y h = cc

pub chosen : {A : Type 0} (b : Bool) (x y z : A) → cond b x y ≡ z → ((b ≡ true) × (x ≡ z)) ⊎ ((b ≡ false) × (y ≡ z))
chosen true x y z h = inl (refl, h)
chosen false x y z h = inr (refl, h)

pub cond_yes : {A : Type 0} (b : Bool) (x y : A) → b ≡ true → cond b x y ≡ x
cond_yes b x y h = ap (λ c. cond c x y) h

pub cond_no : {A : Type 0} (b : Bool) (x y : A) → b ≡ false → cond b x y ≡ y
cond_no b x y h = ap (λ c. cond c x y) h

-- The next item.
pub never_stops : {S : Type 0} (ts : List S) → Stops never ts
never_stops [] = tt
never_stops (t ∷ ts) = refl

pub starts_or : {S : Type 0} (is : S → Bool) (ts : List S) → Starts is ts ⊎ Stops is ts
starts_or is [] = inr tt
starts_or is (t ∷ ts) = elim (is t) as (λ b. (b ≡ true) ⊎ (b ≡ false)) [ true ↦ inl refl | false ↦ inr refl ]

pub starts_more : {S : Type 0} (is : S → Bool) (p q : List S) → Starts is p → Starts is (p ++ q)
starts_more is [] q h = absurd h
starts_more is (s ∷ p) q h = h

pub starts_same : {S : Type 0} (is : S → Bool) (p q q' : List S) (t : S) → Starts is (p ++ t ∷ q) → Starts is (p ++ t ∷ q')
starts_same is [] q q' t h = h
starts_same is (s ∷ p) q q' t h = h

pub stops_same : {S : Type 0} (goes : S → Bool) (p q q' : List S) (t : S) → Stops goes (p ++ t ∷ q) → Stops goes (p ++ t ∷ q')
stops_same goes [] q q' t h = h
stops_same goes (s ∷ p) q q' t h = h

pub starts_apart : {S : Type 0} (is goes : S → Bool) → Apart is goes → (ts : List S) → Starts is ts → Stops goes ts
starts_apart is goes apart [] h = absurd h
starts_apart is goes apart (t ∷ ts) h = apart t h

pub starts_nonempty : {S : Type 0} (is : S → Bool) (ts : List S) → Starts is ts → 0 < length ts
starts_nonempty is [] h = absurd h
starts_nonempty is (t ∷ ts) h = omega arith

pub same_head : {S : Type 0} (p q r : List S) → SameHead q r → SameHead (p ++ q) (p ++ r)
same_head [] q r h = h
same_head (s ∷ p) q r h = refl

pub stops_head : {S : Type 0} (is : S → Bool) (q r : List S) → SameHead q r → Stops is q → Stops is r
stops_head is [] [] h k = tt
stops_head is [] (u ∷ r) h k = absurd h
stops_head is (t ∷ q) [] h k = absurd h
stops_head is (t ∷ q) (u ∷ r) h k = ap is (sym h) ∙ k

pub stops_first : {S : Type 0} (is goes : S → Bool) (ts : List S) → Stops (one_of is goes) ts → Stops is ts
stops_first is goes [] h = tt
stops_first is goes (t ∷ ts) h = ⊎_elim (λ p. let e = p.1 in cc) (λ p. p.0) (chosen (is t) true (goes t) false h)

pub stops_second : {S : Type 0} (is goes : S → Bool) (ts : List S) → Stops (one_of is goes) ts → Stops goes ts
stops_second is goes [] h = tt
stops_second is goes (t ∷ ts) h = ⊎_elim (λ p. let e = p.1 in cc) (λ p. p.1) (chosen (is t) true (goes t) false h)

pub empty_from_length : {S : Type 0} (ts : List S) → length ts ≤ 0 → ts ≡ []
empty_from_length [] h = refl
empty_from_length (t ∷ ts) h = absurd (omega arith)

pub begins_starts : {S : Type 0} (is : S → Bool) (ts : List S) → begins is ts ≡ true → Starts is ts
begins_starts is [] h = cc
begins_starts is (t ∷ ts) h = h

pub begins_stops : {S : Type 0} (is : S → Bool) (ts : List S) → begins is ts ≡ false → Stops is ts
begins_stops is [] h = tt
begins_stops is (t ∷ ts) h = h

-- No item passes both tests.
pub apart_sym : {S : Type 0} {is goes : S → Bool} → Apart is goes → Apart goes is
apart_sym {is = is} {goes = goes} apart t h = false_from_ne_true (is t) (λ e. false≢true (sym (apart t e) ∙ h))

pub apart_only : {S : Type 0} {is : S → Bool} (goes : S → Bool) (s : S) → ((t : S) → is t ≡ true → t ≡ s) → goes s ≡ false → Apart is goes
apart_only goes s only h t e = ap goes (only t e) ∙ h

pub apart_never : {S : Type 0} (is : S → Bool) → Apart is never
apart_never is t h = refl
