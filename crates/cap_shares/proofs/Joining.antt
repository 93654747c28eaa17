-- Lists side by side: the last of one is taken off, and joined into the other at its place.
use Rattle.std.proofs.Common.{◌≡◌, ◌≢◌, ℕ, zero, suc, ◌+◌, ◌<◌, ◌≤◌, List, [], ◌∷◌, ◌++◌, length, set, get_or, refl, ap, sym, ◌∙◌, subst, arith, Some, length-append, length-set}
use Rattle.std.specs.Prelude.{slice_get}
use Rattle.std.specs.List.{AllZip}
use Rattle.std.proofs.lemmas.Option.{slice_get_within}
use Rattle.std.proofs.lemmas.Slice.Zip.{AllZip-long}
use mathlib.Core.Logic.{dite}
use native.Mathlib.Decide.{ℕ_discrete}

module _ {A : Type 0} where
  get-before : (xs : List A) (x : A) (c : ℕ) → c < length xs → slice_get (xs ++ x ∷ []) c ≡ slice_get xs c
  get-before [] x c h = absurd (omega arith)
  get-before (y ∷ ys) x zero h = refl
  get-before (y ∷ ys) x (suc c) h = get-before ys x c (omega arith)

  get-last : (xs : List A) (x : A) → slice_get (xs ++ x ∷ []) (length xs) ≡ Some x
  get-last [] x = refl
  get-last (y ∷ ys) x = get-last ys x

  get-there : (xs : List A) (i : ℕ) (x : A) → i < length xs → x ≡ get_or xs i x → slice_get xs i ≡ Some x
  get-there [] i x h e = absurd (omega arith)
  get-there (y ∷ ys) zero x h e = ap Some (sym e)
  get-there (y ∷ ys) (suc i) x h e = get-there ys i x (omega arith) e

  get-set : (xs : List A) (i : ℕ) (x : A) → i < length xs → slice_get (set xs i x) i ≡ Some x
  get-set [] i x h = absurd (omega arith)
  get-set (y ∷ ys) zero x h = refl
  get-set (y ∷ ys) (suc i) x h = get-set ys i x (omega arith)

  get-others : (xs : List A) (i : ℕ) (x : A) (c : ℕ) → c ≢ i → slice_get (set xs i x) c ≡ slice_get xs c
  get-others [] i x c ne = refl
  get-others (y ∷ ys) zero x zero ne = absurd (ne refl)
  get-others (y ∷ ys) zero x (suc c) ne = refl
  get-others (y ∷ ys) (suc i) x zero ne = refl
  get-others (y ∷ ys) (suc i) x (suc c) ne = get-others ys i x c (λ e. ne (ap suc e))

  same-some : (x y : A) → Some x ≡ Some y → x ≡ y
  same-some x y e = cc

  -- one less at the end
  pub one-less : (row row' : List A) (s : A) → row ≡ row' ++ s ∷ [] → length row ≡ length row' + 1
  one-less row row' s e = ap length e ∙ length-append row' (s ∷ [])

module _ {A B : Type 0} (J : A → B → A → Type 0) (old : List A) (all : List B) where
  -- of all, these are left, and the others are joined in
  pub record Joining (now : List A) (row : List B) : Type 0 where
    pub long : length now ≡ length old
    pub few : length row ≤ length old
    pub rest : (c : ℕ) → c < length row → slice_get row c ≡ slice_get all c
    pub left : (c : ℕ) → c < length row → slice_get now c ≡ slice_get old c
    pub done : (c : ℕ) (k : A) (s : B) → length row ≤ c → slice_get old c ≡ Some k → slice_get all c ≡ Some s → (k' : A) × (slice_get now c ≡ Some k') × J k s k'

  pub joining-start : (R : A → B → Type 0) → AllZip R old all → Joining old all
  joining-start R zips = record {
    long = refl;
    few = omega (arith, AllZip-long R old all zips);
    rest = λ c h. refl;
    left = λ c h. refl;
    done = λ c k s h e f. absurd (omega (arith, h, slice_get_within all c s f));
  }

  -- what held of each place holds of the last
  pub at-last : (R : A → B → Type 0) → AllZip R old all → (now : List A) (row row' : List B) (s : B) (i : ℕ) (k : A) → row ≡ row' ++ s ∷ [] → i ≡ length row' → k ≡ get_or now i k → Joining now row → R (get_or now i k) s
  at-last R zips now row row' s i k e ei at j =
      let few : i < length row = omega (arith, one-less row row' s e, ei) in
      let here : slice_get old i ≡ Some k = sym (j.left i few) ∙ get-there now i k (omega (arith, few, j.few, j.long)) at in
      let mine : slice_get all i ≡ Some s = sym (j.rest i few) ∙ ap (λ (l : List B). slice_get l i) e ∙ ap (slice_get (row' ++ s ∷ [])) ei ∙ get-last row' s in
      subst (λ x. R x s) at (go old all i zips here mine) where
        go : (xs : List A) (ys : List B) (c : ℕ) → AllZip R xs ys → slice_get xs c ≡ Some k → slice_get ys c ≡ Some s → R k s
        go [] ys c z a b = absurd cc
        go (x ∷ xs) [] c z a b = absurd cc
        go (x ∷ xs) (y ∷ ys) zero z a b = subst (λ (p : A × B). R p.0 p.1) (λ t. (same-some x k a t, same-some y s b t)) z.0
        go (x ∷ xs) (y ∷ ys) (suc c) z a b = go xs ys c z.1 a b

  pub joining-more : (now : List A) (row row' : List B) (s : B) (i : ℕ) (k k' : A) → row ≡ row' ++ s ∷ [] → i ≡ length row' → k ≡ get_or now i k → J (get_or now i k) s k' → Joining now row → Joining (set now i k') row'
  joining-more now row row' s i k k' e ei at new j =
      let one = one-less row row' s e in
      let few : i < length row = omega (arith, one, ei) in
      let within : i < length now = omega (arith, few, j.few, j.long) in
      let here : slice_get old i ≡ Some k = sym (j.left i few) ∙ get-there now i k within at in
      let mine : slice_get all i ≡ Some s = sym (j.rest i few) ∙ ap (λ (l : List B). slice_get l i) e ∙ ap (slice_get (row' ++ s ∷ [])) ei ∙ get-last row' s in
      record {
        long = length-set now i k' ∙ j.long;
        few = omega (arith, one, j.few);
        rest = λ c h. sym (get-before row' s c h) ∙ ap (λ (l : List B). slice_get l c) (sym e) ∙ j.rest c (omega (arith, one, h));
        left = λ c h. get-others now i k' c (λ z. omega (arith, z, h, ei)) ∙ j.left c (omega (arith, one, h));
        done = λ c x y h f g. dite (ℕ_discrete c i)
            (λ z.
            let a : k ≡ x = same-some k x (sym here ∙ ap (slice_get old) (sym z) ∙ f) in
            let b : s ≡ y = same-some s y (sym mine ∙ ap (slice_get all) (sym z) ∙ g) in
            (k', ap (slice_get (set now i k')) z ∙ get-set now i k' within, subst (λ (p : A × B). J p.0 p.1 k') (λ t. (a t, b t)) (subst (λ u. J u s k') (sym at) new)))
            (λ ne. let o = j.done c x y (omega (arith, one, h, ne, ei)) f g in (o.0, get-others now i k' c ne ∙ o.1, o.2));
      }

  pub joining-end : (now : List A) (row : List B) → length row ≡ 0 → Joining now row → (c : ℕ) (k : A) (s : B) → slice_get old c ≡ Some k → slice_get all c ≡ Some s → (k' : A) × (slice_get now c ≡ Some k') × J k s k'
  joining-end now row none j c k s = j.done c k s (omega (arith, none))
