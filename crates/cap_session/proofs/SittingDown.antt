-- A session sits down at shared categories, one after another.
use Rattle.std.proofs.Common.{◌≡◌, ℕ, zero, suc, ◌<◌, ◌≤◌, List, [], ◌∷◌, ◌++◌, length, get_or, Some, refl, sym, ap, ◌∙◌, subst, arith, length-append}
use Rattle.std.specs.Prelude.{slice_get}
use Rattle.std.specs.List.{All}
use Rattle.cap_ops.proofs.Places.{some_inner}
use Rattle.cap_names.specs.declared.identifiers.SessionNo.{SessionNo}
use Rattle.cap_commands.specs.Seats.{AtSeat}
use Rattle.cap_shares.specs.Shares.{Shared, AtTurn}
use Rattle.cap_session.specs.Places.{Fits, AllFit, sitting, sat_down, HoldsThere}
use Rattle.cap_session.proofs.Ends.{all-front, all-last}

-- the last seat of a row, at its category
pub record FitsLast (session : SessionNo) (ks : List Shared) (row : List AtTurn) (s : AtTurn) : Type 0 where
  pub rest : AllFit ks row
  pub k : Shared
  pub at : slice_get ks (length row) ≡ Some k
  pub fits : Fits k s
  pub seats : sat_down session ks (row ++ s ∷ []) ≡ sat_down session ks row ++ sitting session k s ∷ []

pub fits-last : (session : SessionNo) (ks : List Shared) (row : List AtTurn) (s : AtTurn) → AllFit ks (row ++ s ∷ []) → FitsLast session ks row s
fits-last session [] [] s a = absurd a
fits-last session [] (t ∷ row) s a = absurd a
fits-last session (k ∷ ks) [] s a = record { rest = tt; k = k; at = refl; fits = a.0; seats = refl }
fits-last session (k ∷ ks) (t ∷ row) s a =
    let r = fits-last session ks row s a.1 in
    record { rest = (a.0, r.rest); k = r.k; at = r.at; fits = r.fits; seats = ap (λ l. sitting session k t ∷ l) r.seats }

module _ (session : SessionNo) (ks : List Shared) (row row' : List AtTurn) (s : AtTurn) (is : row' ≡ row ++ s ∷ []) (fits : AllFit ks row') where
  pub last : FitsLast session ks row s
  last = fits-last session ks row s (subst (AllFit ks) is fits)

  seats-are : sat_down session ks row' ≡ sat_down session ks row ++ sitting session last.k s ∷ []
  seats-are = ap (sat_down session ks) is ∙ last.seats

  module _ (holds : All HoldsThere (sat_down session ks row')) where
    both : All HoldsThere (sat_down session ks row ++ sitting session last.k s ∷ [])
    both = subst (All HoldsThere) seats-are holds

    pub rest-holds : All HoldsThere (sat_down session ks row)
    rest-holds = all-front HoldsThere (sat_down session ks row) (sitting session last.k s) both

    pub last-holds : HoldsThere (sitting session last.k s)
    last-holds = all-last HoldsThere (sat_down session ks row) (sitting session last.k s) both

-- as many categories at least as seats
pub fit-inside : (ks : List Shared) (row : List AtTurn) → AllFit ks row → length row ≤ length ks
fit-inside ks [] a = omega arith
fit-inside [] (s ∷ row) a = absurd a
fit-inside (k ∷ ks) (s ∷ row) a = omega (arith, fit-inside ks row a.1)

pub slice-at : {A : Type 0} (xs : List A) (i : ℕ) (x : A) → i < length xs → x ≡ get_or xs i x → slice_get xs i ≡ Some x
slice-at [] i x h e = absurd (omega (arith, h))
slice-at (y ∷ ys) zero x h e = ap Some (sym e)
slice-at (y ∷ ys) (suc i) x h e = slice-at ys i x (omega (arith, h)) e

module _ (session : SessionNo) (ks : List Shared) (row row' : List AtTurn) (s : AtTurn) (is : row' ≡ row ++ s ∷ []) (fits : AllFit ks row') (n : ℕ) (place : n ≡ length row) (x : Shared) (at : x ≡ get_or ks n x) where
  abbrev pub here : FitsLast session ks row s
  here = last session ks row row' s is fits

  within : n < length ks
  within = let inside = fit-inside ks row' fits in omega (arith, inside, ap length is, length-append row (s ∷ []), place)

  pub category-is : x ≡ here.k
  category-is = some_inner (sym (slice-at ks n x within at) ∙ ap (slice_get ks) place ∙ here.at)

  pub place-here : s.place ≡ x.place
  place-here = here.fits.place ∙ ap (λ (k : Shared). k.place) (sym category-is)

  pub label-here : s.label ≡ Some x.offer
  label-here = here.fits.label ∙ ap (λ (k : Shared). Some k.offer) (sym category-is)

  pub seat-is : sitting session here.k s ≡ sitting session x s
  seat-is = ap (λ (k : Shared). sitting session k s) (sym category-is)

  pub one-more-seat : sat_down session ks row' ≡ sat_down session ks row ++ sitting session x s ∷ []
  one-more-seat = ap (sat_down session ks) is ∙ here.seats ∙ ap (λ (a : AtSeat). sat_down session ks row ++ a ∷ []) seat-is

  pub holds-here : All HoldsThere (sat_down session ks row') → HoldsThere (sitting session x s)
  holds-here holds = subst HoldsThere seat-is (last-holds session ks row row' s is fits holds)
