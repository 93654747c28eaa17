-- What binding letters to objects one after another comes to: the bindings that are found are those of every choice of objects that fits.
use Rattle.std.proofs.Common.{◌≡◌, ℕ, zero, suc, ◌<◌, Bool, true, false, List, [], ◌∷◌, ◌++◌, length, set, length-set, refl, sym, ap, ◌∙◌, subst, inl, inr, eqb, arith}
use Rattle.std.specs.Prelude.{Option, Some, None, option_and_then, slice_get, slice_set, ◌&&◌, if◌then◌else◌}
use Rattle.std.proofs.lemmas.Bool.{eqb-true, eq-eqb, eqb-false}
use Rattle.cap_ops.specs.declared.ends.Ends.{Ends}
use Rattle.cap_ops.specs.declared.ends.Shape.{Shape}
use Rattle.cap_ops.specs.declared.ends.Shape.TheVariants.{Object, Morphism, Two, Four, Truth, Scalar}
use Rattle.cap_ops.specs.Ends.{ends_in, renamed, renamed_ends}
use Rattle.cap_ops.proofs.Letters.{AllBelow}
use Rattle.cap_ops.proofs.Places.{Among, Among-left, Among-right, Among-either, none≢some, some_inner}
use Rattle.cap_terms.specs.declared.symbol.Symbol.{Symbol}
use Rattle.cap_terms.specs.declared.symbol.Symbol.TheVariants.{Given, Made}
use Rattle.cap_terms.specs.Checker.{Bindings, is_same, bound, bound_at, bound_ends, bound_shape}

-- the choice of objects keeps to the bindings
pub record Extends (σ : ℕ → Symbol) (b : Bindings) : Type 0 where
  pub keeps : (y : ℕ) (a : Symbol) → slice_get b y ≡ Some (Some a) → σ y ≡ a

-- the letter stands for nothing yet
pub record Unbound (b : Bindings) (y : ℕ) : Type 0 where
  pub is : (a : Symbol) → slice_get b y ≡ Some (Some a) → ⊥

-- c is b with some letters bound, so that a choice of objects keeps to c where it keeps to b and fits
pub record Bound (b c : Bindings) (Fits : (ℕ → Symbol) → Type 0) (letters : List ℕ) : Type 0 where
  pub before : (σ : ℕ → Symbol) → Extends σ c → Extends σ b
  pub fits : (σ : ℕ → Symbol) → Extends σ c → Fits σ
  pub unbound : (y : ℕ) → Unbound c y → Unbound b y
  pub not_among : (y : ℕ) → Unbound c y → Among letters y → ⊥
  pub fresh : (y : ℕ) → Unbound b y → (Among letters y → ⊥) → Unbound c y

pub record Found (F : Option Bindings) (b : Bindings) (σ : ℕ → Symbol) : Type 0 where
  pub found : Bindings
  pub is : F ≡ Some found
  pub extends : Extends σ found
  pub long : length found ≡ length b

pub record Binds (f : Bindings → Option Bindings) (Fits : (ℕ → Symbol) → Type 0) (letters : List ℕ) : Type 0 where
  pub sound : (b c : Bindings) → f b ≡ Some c → Bound b c Fits letters
  pub complete : (b : Bindings) (σ : ℕ → Symbol) → Extends σ b → Fits σ → AllBelow (length b) letters → Found (f b) b σ

is_same-true : (x y : Symbol) → is_same x y ≡ true → x ≡ y
is_same-true (Given a) (Given b) h = ap Given (eqb-true a b h)
is_same-true (Made k a) (Made j b) h = go (eqb k j) (eqb a b) refl refl h
  where
    go : (p q : Bool) → eqb k j ≡ p → eqb a b ≡ q → (p && q) ≡ true → Made k a ≡ Made j b
    go true true e f h = let e' = eqb-true k j e in let f' = eqb-true a b f in cc
    go _ _ e f h = absurd (cc)
is_same-true (Given a) (Made j b) h = absurd (cc)
is_same-true (Made k a) (Given b) h = absurd (cc)

is_same_itself : (x : Symbol) → is_same x x ≡ true
is_same_itself (Given a) = eq-eqb a a refl
is_same_itself (Made k a) = rw (eq-eqb k k refl, eq-eqb a a refl) refl

slice_get-set_same : {X : Type 0} → (xs : List X) (i : ℕ) (x y : X) → slice_get xs i ≡ Some y → slice_get (set xs i x) i ≡ Some x
slice_get-set_same [] i x y h = absurd (cc)
slice_get-set_same (z ∷ xs) zero x y h = refl
slice_get-set_same (z ∷ xs) (suc i) x y h = slice_get-set_same xs i x y h

slice_get-set_other : {X : Type 0} → (xs : List X) (i j : ℕ) (x : X) → (j ≡ i → ⊥) → slice_get (set xs i x) j ≡ slice_get xs j
slice_get-set_other [] i j x h = refl
slice_get-set_other (z ∷ xs) zero zero x h = absurd (h refl)
slice_get-set_other (z ∷ xs) zero (suc j) x h = refl
slice_get-set_other (z ∷ xs) (suc i) zero x h = refl
slice_get-set_other (z ∷ xs) (suc i) (suc j) x h = slice_get-set_other xs i j x (λ e. h (ap suc e))

slice_get_inside : {X : Type 0} → (xs : List X) (i : ℕ) → i < length xs → slice_get xs i ≡ None → ⊥
slice_get_inside [] i h e = absurd (omega arith)
slice_get_inside (z ∷ xs) zero h e = cc
slice_get_inside (z ∷ xs) (suc i) h e = slice_get_inside xs i (omega arith) e

-- binding one letter
module _ (x : ℕ) (a : Symbol) where
  single-new : (b c : Bindings) → slice_get b x ≡ Some None → slice_set b x (Some a) ≡ c → Bound b c (λ σ. a ≡ σ x) (x ∷ [])
  single-new b c free e = record {
    before = λ σ h. record { keeps = λ y s at. h.keeps y s (rw (← e) (slice_get-set_other b x y (Some a) (λ same. cc) ∙ at)) };
    fits = λ σ h. sym (h.keeps x a here);
    unbound = λ y h. record { is = λ s at. h.is s (rw (← e) (slice_get-set_other b x y (Some a) (λ same. cc) ∙ at)) };
    not_among = λ y h m. elim m [ inl same ↦ h.is a (rw (← same) here) | inr out ↦ out ];
    fresh = λ y h out. record { is = λ s at. h.is s (sym (slice_get-set_other b x y (Some a) (λ same. out (inl (sym same)))) ∙ rw e at) };
  }
    where
      here : slice_get c x ≡ Some (Some a)
      here = rw (← e) (slice_get-set_same b x (Some a) None free)

  single-old : (b : Bindings) (y : Symbol) → slice_get b x ≡ Some (Some y) → y ≡ a → Bound b b (λ σ. a ≡ σ x) (x ∷ [])
  single-old b y there same = record {
    before = λ σ h. h;
    fits = λ σ h. sym (h.keeps x y there ∙ same);
    unbound = λ z h. h;
    not_among = λ z h m. elim m [ inl here ↦ h.is y (rw (← here) there) | inr out ↦ out ];
    fresh = λ z h out. h;
  }

  single-sound : (b c : Bindings) (o : Option (Option Symbol)) → slice_get b x ≡ o → bound_at b x a o ≡ Some c → Bound b c (λ σ. a ≡ σ x) (x ∷ [])
  single-sound b c None at e = absurd (none≢some e)
  single-sound b c (Some None) at e = single-new b c at (some_inner e)
  single-sound b c (Some (Some y)) at e = go (is_same y a) refl e
    where
      go : (t : Bool) → is_same y a ≡ t → (if t then Some b else None) ≡ Some c → Bound b c (λ σ. a ≡ σ x) (x ∷ [])
      go true same f = subst (λ d. Bound b d (λ σ. a ≡ σ x) (x ∷ [])) (some_inner f) (single-old b y at (is_same-true y a same))
      go false same f = absurd (none≢some f)

  single-complete : (b : Bindings) (σ : ℕ → Symbol) → Extends σ b → a ≡ σ x → x < length b → (o : Option (Option Symbol)) → slice_get b x ≡ o → Found (bound_at b x a o) b σ
  single-complete b σ h fit inside None at = absurd (slice_get_inside b x inside at)
  single-complete b σ h fit inside (Some None) at = record {
    found = slice_set b x (Some a);
    is = refl;
    extends = record { keeps = λ y s e. go y s e (eqb y x) refl };
    long = length-set b x (Some a);
  }
    where
      go : (y : ℕ) (s : Symbol) → slice_get (slice_set b x (Some a)) y ≡ Some (Some s) → (t : Bool) → eqb y x ≡ t → σ y ≡ s
      go y s e true same =
          let same' : y ≡ x = eqb-true y x same in
          let here : slice_get (slice_set b x (Some a)) x ≡ Some (Some a) = slice_get-set_same b x (Some a) None at in
          cc
      go y s e false same = h.keeps y s (sym (slice_get-set_other b x y (Some a) (eqb-false y x same)) ∙ e)
  single-complete b σ h fit inside (Some (Some y)) at =
      let kept : σ x ≡ y = h.keeps x y at in
      let same : is_same y a ≡ true = rw (← kept, ← fit) (is_same_itself a) in
      rw same (record { found = b; is = refl; extends = h; long = refl })

  pub single : Binds (λ b. bound b x a) (λ σ. a ≡ σ x) (x ∷ [])
  single = record {
    sound = λ b c e. single-sound b c (slice_get b x) refl e;
    complete = λ b σ h fit inside. single-complete b σ h fit inside.0 (slice_get b x) refl;
  }

AllBelow-left : (n : ℕ) (xs ys : List ℕ) → AllBelow n (xs ++ ys) → AllBelow n xs
AllBelow-left n [] ys h = tt
AllBelow-left n (x ∷ xs) ys h = (h.0, AllBelow-left n xs ys h.1)

AllBelow-right : (n : ℕ) (xs ys : List ℕ) → AllBelow n (xs ++ ys) → AllBelow n ys
AllBelow-right n [] ys h = h
AllBelow-right n (x ∷ xs) ys h = AllBelow-right n xs ys h.1

Bound-join : {P Q : (ℕ → Symbol) → Type 0} {xs ys : List ℕ} {b c d : Bindings} → Bound b c P xs → Bound c d Q ys → Bound b d (λ σ. P σ × Q σ) (xs ++ ys)
Bound-join {xs} {ys} p q = record {
  before = λ σ h. p.before σ (q.before σ h);
  fits = λ σ h. (p.fits σ (q.before σ h), q.fits σ h);
  unbound = λ y h. p.unbound y (q.unbound y h);
  not_among = λ y h m. elim (Among-either xs ys y m) [ inl a ↦ p.not_among y (q.unbound y h) a | inr b ↦ q.not_among y h b ];
  fresh = λ y h out. q.fresh y (p.fresh y h (λ m. out (Among-left xs ys y m))) (λ m. out (Among-right xs ys y m));
}

-- binding some letters, and then others
module _ {f g : Bindings → Option Bindings} {P Q : (ℕ → Symbol) → Type 0} {xs ys : List ℕ} (first : Binds f P xs) (second : Binds g Q ys) where
  join-sound : (b d : Bindings) (o : Option Bindings) → f b ≡ o → option_and_then g o ≡ Some d → Bound b d (λ σ. P σ × Q σ) (xs ++ ys)
  join-sound b d None at e = absurd (none≢some e)
  join-sound b d (Some c) at e = Bound-join (first.sound b c at) (second.sound c d e)

  join-complete : (b : Bindings) (σ : ℕ → Symbol) → Extends σ b → P σ × Q σ → AllBelow (length b) (xs ++ ys) → Found (option_and_then g (f b)) b σ
  join-complete b σ h fit inside =
      let c : Found (f b) b σ = first.complete b σ h fit.0 (AllBelow-left (length b) xs ys inside) in
      let d : Found (g c.found) c.found σ = second.complete c.found σ c.extends fit.1 (rw c.long (AllBelow-right (length b) xs ys inside)) in
      record { found = d.found; is = rw c.is d.is; extends = d.extends; long = d.long ∙ c.long }

  pub join : Binds (λ b. option_and_then g (f b)) (λ σ. P σ × Q σ) (xs ++ ys)
  join = record {
    sound = λ b d e. join-sound b d (f b) refl e;
    complete = join-complete;
  }

-- the same facts in other words
pub reworded : {f : Bindings → Option Bindings} {P Q : (ℕ → Symbol) → Type 0} {xs : List ℕ} → ((σ : ℕ → Symbol) → P σ → Q σ) → ((σ : ℕ → Symbol) → Q σ → P σ) → Binds f P xs → Binds f Q xs
reworded to from k = record {
  sound = λ b c e. let s = k.sound b c e in record { before = s.before; fits = λ σ h. to σ (s.fits σ h); unbound = s.unbound; not_among = s.not_among; fresh = s.fresh };
  complete = λ b σ h fit inside. k.complete b σ h (from σ fit) inside;
}

same_ends : {X : Type 0} (e f : Ends X) → e.src ≡ f.src → e.tgt ≡ f.tgt → e ≡ f
same_ends {X} e f p q =
    let from : X → Ends X = λ s. record { src = s; tgt = e.tgt } in
    let to : X → Ends X = λ t. record { src = f.src; tgt = t } in
    ap from p ∙ ap to q

pub ends_bind : (e : Ends ℕ) (f : Ends Symbol) → Binds (λ b. bound_ends b e f) (λ σ. f ≡ renamed_ends σ e) (e.src ∷ e.tgt ∷ [])
ends_bind e f = reworded (λ σ h. same_ends f (renamed_ends σ e) h.0 h.1) (λ σ h. (ap (λ (d : Ends Symbol). d.src) h, ap (λ (d : Ends Symbol). d.tgt) h)) (join (single e.src f.src) (single e.tgt f.tgt))

pub nothing : Binds (λ b. Some b) (λ σ. Unit {0}) []
nothing = record {
  sound = λ b c e. let same : b ≡ c = some_inner e in subst (λ d. Bound b d (λ σ. Unit {0}) []) same (record { before = λ σ h. h; fits = λ σ h. tt; unbound = λ y h. h; not_among = λ y h m. m; fresh = λ y h out. h });
  complete = λ b σ h fit inside. record { found = b; is = refl; extends = h; long = refl };
}

pub refuses : {P : (ℕ → Symbol) → Type 0} {xs : List ℕ} → ((σ : ℕ → Symbol) → P σ → ⊥) → Binds (λ b. None) P xs
refuses never = record {
  sound = λ b c e. absurd (none≢some e);
  complete = λ b σ h fit inside. absurd (never σ fit);
}

pub shape_binds : (s : Shape ℕ) (t : Shape Symbol) → Binds (λ b. bound_shape b s t) (λ σ. t ≡ renamed σ s) (ends_in s)
shape_binds (Object x) (Object a) = reworded (λ σ h. ap Object h) (λ σ h. cc) (single x a)
shape_binds (Morphism e) (Morphism f) = reworded (λ σ h. ap Morphism h) (λ σ h. cc) (ends_bind e f)
shape_binds (Two d e) (Two f g) = reworded (λ σ h. let l = h.0 in let r = h.1 in cc) (λ σ h. (cc, cc)) (join (ends_bind d f) (ends_bind e g))
shape_binds (Four p q r s) (Four t u v w) =
    reworded (λ σ h. let a = h.0 in let b = h.1.0 in let c = h.1.1.0 in let d = h.1.1.1 in cc) (λ σ h. (cc, (cc, (cc, cc)))) (join (ends_bind p t) (join (ends_bind q u) (join (ends_bind r v) (ends_bind s w))))
shape_binds Truth Truth = reworded (λ σ h. refl) (λ σ h. tt) nothing
shape_binds Scalar Scalar = reworded (λ σ h. refl) (λ σ h. tt) nothing
shape_binds s t = refuses (λ σ h. cc)
