-- Places in lists of unknowns and of equations, and counts that are cut.
use Rattle.std.proofs.Common.{◌≡◌, ℕ, zero, suc, ◌+◌, ◌-◌, ◌*◌, ◌^◌, ◌<◌, ◌≤◌, min, true, false, List, [], ◌∷◌, ◌++◌, length, take, drop, get_or, refl, sym, ap, ◌∙◌, subst, arith, rules, ⊎_elim, append_assoc}
use Rattle.std.proofs.lemmas.Bool.{cases_eq, false≢true}
use Rattle.std.proofs.lemmas.List.{append-nil, drop-drop}
use Rattle.cap_matrix.specs.Grid.{fits_limits}
use Rattle.cap_laws.specs.Linear.{CategoryData}
use Rattle.cap_laws.specs.Systems.{Nth}
use Rattle.cap_laws.specs.Systems.Nth.{here, further}
use Rattle.cap_laws.proofs.Systems.{nth-exists, nth-get, nth-unique, nth-zero, nth-suc}
use Rattle.cap_laws.specs.declared.values.Equation.{Equation}
use Rattle.cap_homlaw.specs.Rows.{AreResidues}
use Rattle.cap_homlaw.specs.Hom.{HomData}
use Rattle.cap_homlaw.proofs.Lists.{take-residues, drop-residues}
use Rattle.cap_solve_laws.specs.Systems.{unknowns_width, values_width, values_row, morphisms_of}
use Rattle.cap_solve.specs.Parts.{AreEnds}

-- what stands at a place below the length
pub nth-at : {A : Type 0} (xs : List A) (i : ℕ) (d : A) → i < length xs → Nth xs i (get_or xs i d)
nth-at xs i d lt = let r = nth-exists xs i lt in subst (λ x. Nth xs i x) (sym (nth-get d r.1)) r.1

pub nth-here : {A : Type 0} (xs : List A) (i : ℕ) (x : A) → i < length xs → x ≡ get_or xs i x → Nth xs i x
nth-here xs i x lt is = subst (λ z. Nth xs i z) (sym is) (nth-at xs i x lt)

pub take_all : {A : Type 0} (xs : List A) → take (length xs) xs ≡ xs
take_all [] = refl
take_all (x ∷ xs) = ap (λ ys. x ∷ ys) (take_all xs)

pub nth-take : {A : Type 0} (xs : List A) (n k : ℕ) (x : A) → Nth (take n xs) k x → Nth xs k x
nth-take xs zero k x q = elim q [ ]
nth-take [] (suc n) k x q = elim q [ ]
nth-take (y ∷ ys) (suc n) zero x q = subst (λ z. Nth (y ∷ ys) zero z) (nth-zero q) here
nth-take (y ∷ ys) (suc n) (suc k) x q = further (nth-take ys n k x (nth-suc q))

-- the ends of the first unknowns
pub ends-taken : {Obj Mor : Type 0} {C : CategoryData Obj Mor} (us : List (Obj × Obj)) (n : ℕ) → AreEnds C us → AreEnds C (take n us)
ends-taken us n E = record { each = λ k e. E.each k (record { from = e.from; to = e.to; is = nth-take us n k (e.from, e.to) e.is }) }

-- what holds of each place so far
pub so_far_more : {A : Type 0} (xs : List A) (P : ℕ → A → Type 0) (i : ℕ) (x : A) → Nth xs i x → P i x → ((n : ℕ) (y : A) → Nth xs n y → n < i → P n y)
    → (n : ℕ) (y : A) → Nth xs n y → n < i + 1 → P n y
so_far_more xs P i x here_x p h n y q lt = ⊎_elim
    (λ e. subst (λ m. P m y) (sym e) (subst (λ z. P i z) (nth-unique here_x (subst (λ m. Nth xs m y) e q)) p))
    (λ ne. h n y q (omega arith))
    (cases_eq n i)

-- sums that are cut
pub cut_sum : (a b n c : ℕ) → n ≡ min a c → min (n + min b c) c ≡ min (a + b) c
cut_sum a b n c e = search rules

-- a count within the limits is not cut
pub uncut : (n c : ℕ) → n ≤ 2048 → c ≡ min n (2 ^ 32 - 1) → c ≡ n
uncut n c le e = search rules

pub uncut_small : (n c : ℕ) → c ≤ 2048 → c ≡ min n (2 ^ 32 - 1) → c ≡ n
uncut_small n c le e = search rules

pub fits_from : (n m : ℕ) → n ≤ 2048 → m ≤ 2048 → n * m ≤ 1048576 → fits_limits n m ≡ true
fits_from n m a b h = search rules

-- counts that are past the limits where they are cut are past them uncut
pub past_limits : (n m r c : ℕ) → r ≡ min n (2 ^ 32 - 1) → c ≡ min m (2 ^ 32 - 1) → fits_limits r c ≡ false → n ≤ 2048 → m ≤ 2048 → n * m ≤ 1048576 → ⊥
past_limits n m r c er ec past high wide area =
    false≢true (sym past ∙ ap (λ x. fits_limits x c) (uncut n r high er) ∙ ap (λ y. fits_limits n y) (uncut m c wide ec) ∙ fits_from n m high wide area)

module _ {Obj Mor : Type 0} (H : HomData Obj Mor) where
  -- the coefficients of the unknowns before one, of it, and of those after it
  pub unknowns-within : {us : List (Obj × Obj)} {u : ℕ} {a : Obj × Obj} → Nth us u a → unknowns_width H (take u us) + H.dim a.0 a.1 ≤ unknowns_width H us
  unknowns-within here = omega arith
  unknowns-within (further q) = omega (arith, unknowns-within q)

  unknowns-more : {us : List (Obj × Obj)} {u : ℕ} {a : Obj × Obj} → Nth us u a → unknowns_width H (take (suc u) us) ≡ unknowns_width H (take u us) + H.dim a.0 a.1
  unknowns-more here = omega arith
  unknowns-more (further q) = omega (arith, unknowns-more q)

  pub unknowns-next : {us : List (Obj × Obj)} {u : ℕ} {a : Obj × Obj} → Nth us u a → unknowns_width H (take (u + 1) us) ≡ unknowns_width H (take u us) + H.dim a.0 a.1
  unknowns-next {us} {u} q = ap (λ k. unknowns_width H (take k us)) (let e : u + 1 ≡ suc u = omega arith in e) ∙ unknowns-more q

  -- the coefficients of the values, one equation more
  values-more : {es : List (Equation Mor)} {i : ℕ} {e : Equation Mor} → Nth es i e → values_row H (take (suc i) es) ≡ values_row H (take i es) ++ H.nu e.value
  values-more {e = e} here = append-nil (H.nu e.value)
  values-more {es = x ∷ es} {e = e} (further {n = n} q) =
      ap (λ z. H.nu x.value ++ z) (values-more q) ∙ sym (append_assoc (H.nu x.value) (values_row H (take n es)) (H.nu e.value))

  pub values-next : {es : List (Equation Mor)} {i : ℕ} {e : Equation Mor} → Nth es i e → values_row H (take (i + 1) es) ≡ values_row H (take i es) ++ H.nu e.value
  values-next {es} {i} q = ap (λ k. values_row H (take k es)) (let o : i + 1 ≡ suc i = omega arith in o) ∙ values-more q

  -- and one morphism more
  morphisms-more : (row : List ℕ) {us : List (Obj × Obj)} {u : ℕ} {a b : Obj} → Nth us u (a, b)
      → morphisms_of H (take (suc u) us) row ≡ morphisms_of H (take u us) row ++ (H.back a b (take (H.dim a b) (drop (unknowns_width H (take u us)) row)) ∷ [])
  morphisms-more row here = refl
  morphisms-more row {us = w ∷ us} {a = a} {b = b} (further {n = m} q) =
      ap (λ xs. H.back w.0 w.1 (take (H.dim w.0 w.1) row) ∷ xs)
      (morphisms-more (drop (H.dim w.0 w.1) row) q
      ∙ ap (λ r. morphisms_of H (take m us) (drop (H.dim w.0 w.1) row) ++ (H.back a b (take (H.dim a b) r) ∷ [])) (drop-drop (unknowns_width H (take m us)) (H.dim w.0 w.1) row))

  pub morphisms-next : (row : List ℕ) {us : List (Obj × Obj)} {u : ℕ} {a b : Obj} → Nth us u (a, b)
      → morphisms_of H (take (u + 1) us) row ≡ morphisms_of H (take u us) row ++ (H.back a b (take (H.dim a b) (drop (unknowns_width H (take u us)) row)) ∷ [])
  morphisms-next row {us} {u} q = ap (λ k. morphisms_of H (take k us) row) (let o : u + 1 ≡ suc u = omega arith in o) ∙ morphisms-more row q

module _ {Obj Mor : Type 0} (C : CategoryData Obj Mor) (H : HomData Obj Mor) where
  pub width-within : {es : List (Equation Mor)} {i : ℕ} {e : Equation Mor} → Nth es i e → values_width C H (take i es) + H.dim (C.source e.value) (C.target e.value) ≤ values_width C H es
  width-within here = omega arith
  width-within (further q) = omega (arith, width-within q)

  width-more : {es : List (Equation Mor)} {i : ℕ} {e : Equation Mor} → Nth es i e → values_width C H (take (suc i) es) ≡ values_width C H (take i es) + H.dim (C.source e.value) (C.target e.value)
  width-more here = omega arith
  width-more (further q) = omega (arith, width-more q)

  pub width-next : {es : List (Equation Mor)} {i : ℕ} {e : Equation Mor} → Nth es i e → values_width C H (take (i + 1) es) ≡ values_width C H (take i es) + H.dim (C.source e.value) (C.target e.value)
  width-next {es} {i} q = ap (λ k. values_width C H (take k es)) (let o : i + 1 ≡ suc i = omega arith in o) ∙ width-more q

-- a stretch of a row of residues
pub part-residues : {p n : ℕ} {row : List ℕ} → AreResidues p n row → (start d : ℕ) → start + d ≤ n → AreResidues p d (take d (drop start row))
part-residues {p} {n} {row} R start d le =
    let whole : n ≡ start + (n - start) = omega arith in
    let rest : n - start ≡ d + (n - start - d) = omega arith in
    take-residues d (n - start - d) (subst (λ k. AreResidues p k (drop start row)) rest (drop-residues start (n - start) (subst (λ k. AreResidues p k row) whole R)))
