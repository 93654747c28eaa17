-- What is told among all chunks, from one of them on.
use Rattle.std.proofs.Common.{◌≡◌, ℕ, zero, suc, ◌+◌, ◌<◌, List, [], ◌∷◌, ◌++◌, Some, None, length, drop, get_or, sym, subst, ap, ◌∙◌, arith}
use Rattle.std.specs.List.{flat_map}
use Rattle.cap_names.specs.declared.identifiers.Handle.{Handle}
use Rattle.cap_seat.specs.Seats.{told_among}
use Rattle.cap_seat.proofs.Among.{among-more, among-none}

drop-suc : {A : Type 0} (xs : List A) (i : ℕ) (x : A) → i < length xs → get_or xs i x ≡ x → drop i xs ≡ x ∷ drop (suc i) xs
drop-suc [] i x l e = absurd (omega (arith, l))
drop-suc (y ∷ xs) zero x l e = ap (λ z. z ∷ xs) e
drop-suc (y ∷ xs) (suc i) x l e = drop-suc xs i x (omega (arith, l)) e

drop-at : {A : Type 0} (xs : List A) (i : ℕ) (x : A) → i < length xs → x ≡ get_or xs i x → drop i xs ≡ x ∷ drop (i + 1) xs
drop-at xs i x l e = let one : suc i ≡ i + 1 = omega arith in subst (λ n. drop i xs ≡ x ∷ drop n xs) one (drop-suc xs i x l (sym e))

module _ {O : Type 0} (known : List (List (Handle × O))) (i : ℕ) (chunk : List (Handle × O)) (h : Handle) (l : i < length known) (is : chunk ≡ get_or known i chunk) (from : told_among (flat_map (λ told. told) known) h ≡ told_among (flat_map (λ told. told) (drop i known)) h) where
  here : told_among (flat_map (λ told. told) known) h ≡ told_among (chunk ++ flat_map (λ told. told) (drop (i + 1) known)) h
  here = from ∙ ap (λ chunks. told_among (flat_map (λ told. told) chunks) h) (drop-at known i chunk l is)

  pub found-here : (o : O) → Some o ≡ told_among chunk h → Some o ≡ told_among (flat_map (λ told. told) known) h
  found-here o e = sym (here ∙ among-more chunk (flat_map (λ told. told) (drop (i + 1) known)) h o (sym e))

  pub not-here : None ≡ told_among chunk h → told_among (flat_map (λ told. told) known) h ≡ told_among (flat_map (λ told. told) (drop (i + 1) known)) h
  not-here e = here ∙ among-none chunk (flat_map (λ told. told) (drop (i + 1) known)) h (sym e)
