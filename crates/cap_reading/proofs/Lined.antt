-- Languages of lines, and what is read of a text's lines, told of the text.
use Rattle.std.proofs.Common.{◌≡◌, ℕ, zero, suc, ◌+◌, ◌-◌, ◌≤◌, List, [], ◌∷◌, ◌++◌, length, get_or, take, Bool, true, false, Option, Some, None, Err, refl, sym, ap, ◌∙◌, subst, inl, inr, ⊎_elim, cond, arith, append_assoc, length-append}
use Rattle.std.specs.Prelude.{◌⊎◌, ◌&&◌, is_some}
use Rattle.std.proofs.lemmas.List.{append-nil, take-append-le}
use Rattle.std.proofs.Math.Seq.{take-append_seam, take-append-add, take-length}
use Rattle.cap_reading.specs.Languages.{one, valued, nothing, Joined, maybe, each, some_of, any_of}
use Rattle.cap_reading.specs.Faults.{IsFault}
use Rattle.cap_reading.specs.Lines.{without_empty_lines, places, lines, line_places, text_of}
use Rattle.cap_reading.specs.Steps.{Read, whole}
use Rattle.cap_reading.proofs.Law.{Law, Apart, cond_yes, cond_no}
use Rattle.cap_reading.proofs.Items.{has}
use Rattle.cap_reading.proofs.Whole.{only, whole_viable, whole_local, no_value}

cond_front : {A : Type 0} (c : Bool) (t : A) (x y : List A) → cond c (x ++ y) (t ∷ (x ++ y)) ≡ cond c x (t ∷ x) ++ y
cond_front true t x y = refl
cond_front false t x y = refl

bool_cases : (b : Bool) → (b ≡ true) ⊎ (b ≡ false)
bool_cases true = inl refl
bool_cases false = inr refl

plus_none : (i : ℕ) → i ≡ i + 0
plus_none i = omega arith

next_place : (i n : ℕ) → i + 1 + n ≡ i + suc n
next_place i n = omega arith

one_more : (n : ℕ) → suc n ≡ n + 1
one_more n = omega arith

length_step : {S : Type 0} (c : Bool) (i : ℕ) (t : S) (ns : List ℕ) (ts : List S) → length ns ≡ length ts → length (cond c ns (i ∷ ns)) ≡ length (cond c ts (t ∷ ts))
length_step true i t ns ts h = h
length_step false i t ns ts h = omega arith

get_or_past : (ns : List ℕ) (i d : ℕ) → length ns ≤ i → get_or ns i d ≡ d
get_or_past [] i d le = refl
get_or_past (n ∷ ns) zero d le = absurd (omega arith)
get_or_past (n ∷ ns) (suc i) d le = get_or_past ns i d (omega arith)

-- whether a line begins behind the list
abbrev pub after : {S : Type 0} → (S → Bool) → Bool → List S → Bool
after lf b [] = b
after lf b (t ∷ ts) = after lf (lf t) ts

module _ {S : Type 0} (lf : S → Bool) where
  pub kept_append : (b : Bool) (p q : List S) → without_empty_lines lf b (p ++ q) ≡ without_empty_lines lf b p ++ without_empty_lines lf (after lf b p) q
  kept_append b [] q = refl
  kept_append b (t ∷ p) q = ap (λ l. cond (b && lf t) l (t ∷ l)) (kept_append (lf t) p q) ∙ cond_front (b && lf t) t (without_empty_lines lf (lf t) p) (without_empty_lines lf (after lf (lf t) p) q)

  pub after_append : (b : Bool) (p q : List S) → after lf b (p ++ q) ≡ after lf (after lf b p) q
  after_append b [] q = refl
  after_append b (t ∷ p) q = after_append (lf t) p q

  after_step : (b c d : Bool) (t : S) (l : List S) → lf t ≡ c → after lf c l ≡ d → after lf b (cond (b && c) l (t ∷ l)) ≡ d
  after_step true true d t l e h = h
  after_step true false d t l e h = ap (λ x. after lf x l) e ∙ h
  after_step false c d t l e h = ap (λ x. after lf x l) e ∙ h

  after_kept : (b : Bool) (p : List S) → after lf b (without_empty_lines lf b p) ≡ after lf b p
  after_kept b [] = refl
  after_kept b (t ∷ p) = after_step b (lf t) (after lf (lf t) p) t (without_empty_lines lf (lf t) p) refl (after_kept (lf t) p)

  kept_step : (b c : Bool) (t : S) (l : List S) → lf t ≡ c → without_empty_lines lf c l ≡ l → without_empty_lines lf b (cond (b && c) l (t ∷ l)) ≡ cond (b && c) l (t ∷ l)
  kept_step true true t l e h = h
  kept_step true false t l e h = ap (λ x. cond (true && x) (without_empty_lines lf x l) (t ∷ without_empty_lines lf x l)) e ∙ ap (λ k. t ∷ k) h
  kept_step false c t l e h = ap (λ x. t ∷ without_empty_lines lf x l) e ∙ ap (λ k. t ∷ k) h

  kept_again : (b : Bool) (p : List S) → without_empty_lines lf b (without_empty_lines lf b p) ≡ without_empty_lines lf b p
  kept_again b [] = refl
  kept_again b (t ∷ p) = kept_step b (lf t) t (without_empty_lines lf (lf t) p) refl (kept_again (lf t) p)

-- Each list of the language has no empty line, read where a line begins or not as b says; behind it a line begins or not as c says.
abbrev pub Lined : {S : Type 0} → (S → Bool) → Bool → Bool → (List S → Type 0) → Type 0
Lined {S} lf b c p = (l : List S) → p l → (without_empty_lines lf b l ≡ l) × (after lf b l ≡ c)

one_kept : {S : Type 0} (lf : S → Bool) (b : Bool) (s : S) → lf s ≡ false → (without_empty_lines lf b (s ∷ []) ≡ s ∷ []) × (after lf b (s ∷ []) ≡ false)
one_kept lf true s h = (cond_no (lf s) [] (s ∷ []) h, h)
one_kept lf false s h = (refl, h)

-- an item within a line, of a test or with a value, and the end of a line
pub lined_word : {S : Type 0} {lf is : S → Bool} (b : Bool) → Apart is lf → Lined lf b false (one is)
lined_word {lf = lf} b apart l h = subst (λ l. (without_empty_lines lf b l ≡ l) × (after lf b l ≡ false)) (sym h.1) (one_kept lf b h.0 (apart h.0 h.2))

pub lined_valued : {S A : Type 0} {lf : S → Bool} (b : Bool) (f : S → Option A) → Apart (has f) lf → (a : A) → Lined lf b false (valued f a)
lined_valued {lf = lf} b f apart a l h = subst (λ l. (without_empty_lines lf b l ≡ l) × (after lf b l ≡ false)) (sym h.1) (one_kept lf b h.0 (apart h.0 (ap is_some h.2)))

pub lined_end : {S : Type 0} (lf : S → Bool) → Lined lf false true (one lf)
lined_end lf l h = subst (λ l. (without_empty_lines lf false l ≡ l) × (after lf false l ≡ true)) (sym h.1) (refl, h.2)

pub lined_nothing : {S : Type 0} (lf : S → Bool) (b : Bool) → Lined lf b b nothing
lined_nothing lf b l h = subst (λ l. (without_empty_lines lf b l ≡ l) × (after lf b l ≡ b)) (sym h) (refl, refl)

lined_append : {S : Type 0} (lf : S → Bool) (b c d : Bool) (p q : List S) → (without_empty_lines lf b p ≡ p) × (after lf b p ≡ c) → (without_empty_lines lf c q ≡ q) × (after lf c q ≡ d) → (without_empty_lines lf b (p ++ q) ≡ p ++ q) × (after lf b (p ++ q) ≡ d)
lined_append lf b c d p q h k = (
  kept_append lf b p q ∙ (λ i. h.0 i ++ without_empty_lines lf (h.1 i) q) ∙ ap (λ l. p ++ l) k.0,
  after_append lf b p q ∙ ap (λ x. after lf x q) h.1 ∙ k.1,
)

-- one after the other
pub lined_join : {S : Type 0} {lf : S → Bool} {b c d : Bool} {p q : List S → Type 0} → Lined lf b c p → Lined lf c d q → Lined lf b d (Joined p q)
lined_join {lf = lf} {b = b} {c = c} {d = d} h k l j = subst (λ l. (without_empty_lines lf b l ≡ l) × (after lf b l ≡ d)) (sym j.split) (lined_append lf b c d j.front j.rest (h j.front j.first) (k j.rest j.second))

-- a value or none, and values one after the other
pub lined_maybe : {S A : Type 0} {lf : S → Bool} {b : Bool} {p : A → List S → Type 0} → ((a : A) → Lined lf b b (p a)) → (o : Option A) → Lined lf b b (maybe p o)
lined_maybe {lf = lf} {b = b} h None = lined_nothing lf b
lined_maybe h (Some a) = h a

pub lined_each : {S A : Type 0} {lf : S → Bool} {b : Bool} {p : A → List S → Type 0} → ((a : A) → Lined lf b b (p a)) → (xs : List A) → Lined lf b b (each p xs)
lined_each {lf = lf} {b = b} h [] = lined_nothing lf b
lined_each h (x ∷ xs) = lined_join (h x) (lined_each h xs)

pub lined_some : {S A : Type 0} {lf : S → Bool} {b c : Bool} {p q : A → List S → Type 0} → ((a : A) → Lined lf b c (p a)) → ((a : A) → Lined lf c c (q a)) → (xs : List A) → Lined lf b c (some_of p q xs)
lined_some h k [] l text = absurd text
lined_some h k (x ∷ xs) l text = lined_join (h x) (lined_each k xs) l text

pub lined_any : {S A : Type 0} {lf : S → Bool} {b : Bool} {p q : A → List S → Type 0} → ((a : A) → Lined lf b b (p a)) → ((a : A) → Lined lf b b (q a)) → (xs : List A) → Lined lf b b (any_of p q xs)
lined_any {lf = lf} {b = b} h k [] = lined_nothing lf b
lined_any h k (x ∷ xs) = lined_join (h x) (lined_each k xs)

-- Where the kept items are done and then t, the text is front and then t.
record Cut {S : Type 0} (lf : S → Bool) (b : Bool) (i : ℕ) (ts done : List S) (t : S) (d : ℕ) : Type 0 where
  front : List S
  rest : List S
  split : ts ≡ front ++ t ∷ rest
  same : without_empty_lines lf b front ≡ done
  stays : (after lf b front && lf t) ≡ false
  place : get_or (places lf b i ts) (length done) d ≡ i + length front

module _ {S : Type 0} (lf : S → Bool) where
  cut_kept : (b : Bool) (i : ℕ) (s : S) (ts done : List S) (t : S) (q : List S) (d : ℕ) → (b && lf s) ≡ false → s ∷ without_empty_lines lf (lf s) ts ≡ done ++ t ∷ q
      → ((done' : List S) → without_empty_lines lf (lf s) ts ≡ done' ++ t ∷ q → Cut lf (lf s) (i + 1) ts done' t d) → Cut lf b i (s ∷ ts) done t d
  cut_kept b i s ts [] t q d stays h again =
      let e : s ≡ t = cc in
      record {
        front = [];
        rest = ts;
        split = ap (λ x. x ∷ ts) e;
        same = refl;
        stays = ap (λ x. b && lf x) (sym e) ∙ stays;
        place = ap (λ l. get_or l 0 d) (cond_no (b && lf s) (places lf (lf s) (i + 1) ts) (i ∷ places lf (lf s) (i + 1) ts) stays) ∙ plus_none i;
      }
  cut_kept b i s ts (u ∷ done) t q d stays h again =
      let e : s ≡ u = cc in
      let c = again done cc in
      record {
        front = s ∷ c.front;
        rest = c.rest;
        split = ap (λ l. s ∷ l) c.split;
        same = cond_no (b && lf s) (without_empty_lines lf (lf s) c.front) (s ∷ without_empty_lines lf (lf s) c.front) stays ∙ (λ i. e i ∷ c.same i);
        stays = c.stays;
        place = ap (λ l. get_or l (suc (length done)) d) (cond_no (b && lf s) (places lf (lf s) (i + 1) ts) (i ∷ places lf (lf s) (i + 1) ts) stays) ∙ c.place ∙ next_place i (length c.front);
      }

  cut : (b : Bool) (i : ℕ) (ts done : List S) (t : S) (q : List S) (d : ℕ) → without_empty_lines lf b ts ≡ done ++ t ∷ q → Cut lf b i ts done t d
  cut b i [] [] t q d h = cc
  cut b i [] (s ∷ done) t q d h = cc
  cut b i (s ∷ ts) done t q d h =
      ⊎_elim
      (λ empty.
      let c = cut (lf s) (i + 1) ts done t q d (sym (cond_yes (b && lf s) (without_empty_lines lf (lf s) ts) (s ∷ without_empty_lines lf (lf s) ts) empty) ∙ h) in
      record {
        front = s ∷ c.front;
        rest = c.rest;
        split = ap (λ l. s ∷ l) c.split;
        same = cond_yes (b && lf s) (without_empty_lines lf (lf s) c.front) (s ∷ without_empty_lines lf (lf s) c.front) empty ∙ c.same;
        stays = c.stays;
        place = ap (λ l. get_or l (length done) d) (cond_yes (b && lf s) (places lf (lf s) (i + 1) ts) (i ∷ places lf (lf s) (i + 1) ts) empty) ∙ c.place ∙ next_place i (length c.front);
      })
      (λ stays. cut_kept b i s ts done t q d stays (sym (cond_no (b && lf s) (without_empty_lines lf (lf s) ts) (s ∷ without_empty_lines lf (lf s) ts) stays) ∙ h) (λ done' h'. cut (lf s) (i + 1) ts done' t q d h'))
      (bool_cases (b && lf s))

  pub length_places : (b : Bool) (i : ℕ) (ts : List S) → length (places lf b i ts) ≡ length (without_empty_lines lf b ts)
  length_places b i [] = refl
  length_places b i (t ∷ ts) = length_step (b && lf t) i t (places lf (lf t) (i + 1) ts) (without_empty_lines lf (lf t) ts) (length_places (lf t) (i + 1) ts)

-- the place of a fault before which rest of the lines isn't read
abbrev pub fault_place : {S : Type 0} → (S → Bool) → S → List S → List S → ℕ
fault_place lf end ts rest = get_or (line_places lf end ts) (length (lines lf end ts) - length rest) (length ts)

regroup : {S : Type 0} (front : List S) (t end : S) (more : List S) → front ++ t ∷ [] ++ more ++ end ∷ [] ≡ front ++ t ∷ (more ++ end ∷ [])
regroup front t end more = append_assoc (front ++ t ∷ []) more (end ∷ []) ∙ append_assoc front (t ∷ []) (more ++ end ∷ [])

module _ {S A : Type 0} {r : List S → Read S A} {p : A → List S → Type 0} {goes : S → Bool} (law : Law r p goes) (lf : S → Bool) (end : S) (ends : lf end ≡ true) (lined : (a : A) → Lined lf true true (p a)) where
  -- where the kept front and more are in the language, so are the lines of the front and more
  continues : (front more : List S) (a : A) → p a (without_empty_lines lf true front ++ more) → text_of lf end p a (front ++ more)
  continues front more a text =
      let h = lined a (without_empty_lines lf true front ++ more) text in
      let k : without_empty_lines lf true (without_empty_lines lf true front ++ more) ≡ without_empty_lines lf true front ++ without_empty_lines lf (after lf true front) more =
      kept_append lf true (without_empty_lines lf true front) more ∙ (λ i. kept_again lf true front i ++ without_empty_lines lf (after_kept lf true front i) more) in
      let same : without_empty_lines lf true (front ++ more) ≡ without_empty_lines lf true front ++ more = kept_append lf true front more ∙ sym k ∙ h.0 in
      let last : after lf true (front ++ more) ≡ true = after_append lf true front more ∙ ap (λ b. after lf b more) (sym (after_kept lf true front)) ∙ sym (after_append lf true (without_empty_lines lf true front) more) ∙ h.1 in
      let all : lines lf end (front ++ more) ≡ without_empty_lines lf true front ++ more =
      kept_append lf true (front ++ more) (end ∷ [])
      ∙ ap (λ b. without_empty_lines lf true (front ++ more) ++ without_empty_lines lf b (end ∷ [])) last
      ∙ ap (λ l. without_empty_lines lf true (front ++ more) ++ l) (cond_yes (lf end) [] (end ∷ []) ends)
      ∙ append-nil (without_empty_lines lf true (front ++ more))
      ∙ same in
      subst (p a) (sym all) text

  at_end : (ts : List S) → whole r (lines lf end ts) ≡ Err [] → IsFault (text_of lf end p) ts (length ts)
  at_end ts h =
      let v = whole_viable law (lines lf end ts) [] h in
      let all : lines lf end ts ≡ v.done = v.split ∙ append-nil v.done in
      let on : text_of lf end p v.value (ts ++ end ∷ [] ++ v.more) = continues (ts ++ end ∷ []) v.more v.value (subst (λ l. p v.value (l ++ v.more)) (sym all) v.text) in
      record {
        within = omega arith;
        before = (end ∷ v.more, v.value, subst (text_of lf end p v.value) (append_assoc ts (end ∷ []) v.more ∙ ap (λ l. l ++ end ∷ v.more) (sym (take-length ts))) on);
        after = λ lt. absurd (omega arith);
        none = λ a text. no_value law (lines lf end ts) [] h a text;
      }

  at_item : (ts q : List S) (t : S) (front rest done : List S) → whole r (lines lf end ts) ≡ Err (t ∷ q) → lines lf end ts ≡ done ++ t ∷ q
      → ts ++ end ∷ [] ≡ front ++ t ∷ rest → without_empty_lines lf true front ≡ done → (after lf true front && lf t) ≡ false
      → (more : List S) (a : A) → p a (done ++ more) → IsFault (text_of lf end p) ts (length front)
  at_item ts q t front rest done h split cut same stays more a text =
      let n : length (ts ++ end ∷ []) ≡ length (front ++ t ∷ rest) = ap length cut in
      let m : length ts + 1 ≡ length front + suc (length rest) = omega (arith, n, length-append ts (end ∷ []), length-append front (t ∷ rest)) in
      let upto : take (length front) ts ≡ front = sym (take-append-le (length front) ts (end ∷ []) (omega arith)) ∙ ap (take (length front)) cut ∙ take-append_seam front (t ∷ rest) in
      record {
        within = omega arith;
        before = (more, a, subst (λ l. text_of lf end p a (l ++ more)) (sym upto) (continues front more a (subst (λ l. p a (l ++ more)) (sym same) text)));
        after = λ lt on.
            let with_t : take (suc (length front)) ts ≡ front ++ t ∷ [] =
            sym (take-append-le (suc (length front)) ts (end ∷ []) (omega arith)) ∙ ap (take (suc (length front))) cut ∙ ap (λ k. take k (front ++ t ∷ rest)) (one_more (length front)) ∙ take-append-add front (t ∷ rest) 1 in
            let so : take (suc (length front)) ts ++ on.0 ++ end ∷ [] ≡ front ++ t ∷ (on.0 ++ end ∷ []) = ap (λ l. l ++ on.0 ++ end ∷ []) with_t ∙ regroup front t end on.0 in
            let k : lines lf end (take (suc (length front)) ts ++ on.0) ≡ done ++ t ∷ without_empty_lines lf (lf t) (on.0 ++ end ∷ []) =
            ap (without_empty_lines lf true) so ∙ kept_append lf true front (t ∷ (on.0 ++ end ∷ [])) ∙ (λ i. same i ++ cond_no (after lf true front && lf t) (without_empty_lines lf (lf t) (on.0 ++ end ∷ [])) (t ∷ without_empty_lines lf (lf t) (on.0 ++ end ∷ [])) stays i) in
            let bad : whole r (done ++ t ∷ without_empty_lines lf (lf t) (on.0 ++ end ∷ [])) ≡ Err (t ∷ without_empty_lines lf (lf t) (on.0 ++ end ∷ [])) = whole_local law done q (without_empty_lines lf (lf t) (on.0 ++ end ∷ [])) t (ap (whole r) (sym split) ∙ h) in
            let e = sym (only law (lines lf end (take (suc (length front)) ts ++ on.0)) on.1 on.2) ∙ ap (whole r) k ∙ bad in cc;
        none = λ a text. no_value law (lines lf end ts) (t ∷ q) h a text;
      }

  -- A fault of the lines is the fault of the text.
  pub text_fault : (ts rest : List S) → whole r (lines lf end ts) ≡ Err rest → IsFault (text_of lf end p) ts (fault_place lf end ts rest)
  text_fault ts [] h =
      let n : length (line_places lf end ts) ≡ length (lines lf end ts) = length_places lf true 0 (ts ++ end ∷ []) in
      subst (IsFault (text_of lf end p) ts) (sym (get_or_past (line_places lf end ts) (length (lines lf end ts) - 0) (length ts) (omega arith))) (at_end ts h)
  text_fault ts (t ∷ q) h =
      let v = whole_viable law (lines lf end ts) (t ∷ q) h in
      let c = cut lf true 0 (ts ++ end ∷ []) v.done t q (length ts) v.split in
      let n : length (lines lf end ts) ≡ length (v.done ++ t ∷ q) = ap length v.split in
      let k : length (lines lf end ts) - length (t ∷ q) ≡ length v.done = omega (arith, n, length-append v.done (t ∷ q)) in
      let at : fault_place lf end ts (t ∷ q) ≡ length c.front = ap (λ i. get_or (line_places lf end ts) i (length ts)) k ∙ c.place ∙ omega arith in
      subst (IsFault (text_of lf end p) ts) (sym at) (at_item ts q t c.front c.rest v.done h v.split c.split c.same c.stays v.more v.value v.text)
