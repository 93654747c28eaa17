-- What was told stays told as more is told, and is told by one of the lists that it was told in.
use Rattle.std.proofs.Common.{◌≡◌, ℕ, zero, suc, ◌<◌, Bool, true, false, List, [], ◌∷◌, ◌++◌, ◌⊎◌, Option, Some, None, length, sym, subst, ap, ◌∙◌, refl, inl, inr, arith}
use Rattle.std.specs.Prelude.{◌==◌, if◌then◌else◌, map}
use Rattle.std.specs.List.{All, Contains, slice_index_or}
use Rattle.std.proofs.lemmas.Bool.{eqb-true, eq-eqb}
use Rattle.std.proofs.lemmas.List.Elements.{All-head, All-tail, All-weaker, All-contains_itself}
use Rattle.cap_names.specs.declared.identifiers.Handle.{Handle}
use Rattle.cap_ops.specs.Mentions.{mentions}
use Rattle.cap_ops.specs.Told.{StaysTold}
use Rattle.cap_ops.proofs.Places.{none≢some}
use Rattle.cap_ops.proofs.NewObjects.{names-each-once}
use Rattle.cap_history.specs.declared.entries.Told.{Told}
use Rattle.cap_history.specs.Reading.{AreTold}
use Rattle.cap_seat.specs.Seats.{told_among}

-- the object of a handle is told
abbrev pub IsTold : {O : Type 0} → (Handle → Option O) → Handle → Type 0
IsTold {O} told h = (o : O) × (told h ≡ Some o)

-- handles with one number are one
same-handle : (h k : Handle) → (h.0 == k.0) ≡ true → h ≡ k
same-handle h k e = let n : h.0 ≡ k.0 = eqb-true h.0 k.0 e in ap (λ (m : ℕ). record { 0 = m }) n

handle-same : (h k : Handle) → h ≡ k → (h.0 == k.0) ≡ true
handle-same h k e = eq-eqb h.0 k.0 (ap (λ (x : Handle). x.0) e)

true-false : (b : Bool) → b ≡ true → b ≡ false → ⊥
true-false true e f = let g : true ≡ false = f in absurd cc
true-false false e f = let g : false ≡ true = e in absurd cc

module _ {O : Type 0} where
  chosen-stays : (b : Bool) (x o : O) (old new : Option O) → (if b then Some x else old) ≡ Some o → (old ≡ Some o → new ≡ Some o) → (if b then Some x else new) ≡ Some o
  chosen-stays true x o old new e h = e
  chosen-stays false x o old new e h = h e

  pub among-more : (known more : List (Handle × O)) → StaysTold (told_among known) (told_among (known ++ more))
  among-more [] more h o e = absurd (none≢some e)
  among-more (x ∷ known) more h o e = chosen-stays (x.0.0 == h.0) x.1 o (told_among known h) (told_among (known ++ more) h) e (among-more known more h o)

  chosen-cases : (b : Bool) (x o : O) (both first second : Option O) → (if b then Some x else both) ≡ Some o → (both ≡ Some o → (first ≡ Some o) ⊎ (second ≡ Some o)) → ((if b then Some x else first) ≡ Some o) ⊎ (second ≡ Some o)
  chosen-cases true x o both first second e k = inl e
  chosen-cases false x o both first second e k = k e

  -- what is told among two lists is told by one of them
  pub among-cases : (known more : List (Handle × O)) (h : Handle) (o : O) → told_among (known ++ more) h ≡ Some o → (told_among known h ≡ Some o) ⊎ (told_among more h ≡ Some o)
  among-cases [] more h o e = inr e
  among-cases (x ∷ known) more h o e = chosen-cases (x.0.0 == h.0) x.1 o (told_among (known ++ more) h) (told_among known h) (told_among more h) e (among-cases known more h o)

  chosen-tells : (look : Handle → Option O) (b : Bool) (x : Handle × O) (h : Handle) (o : O) (old : Option O) → (b ≡ true → x.0 ≡ h) → look x.0 ≡ Some x.1 → (old ≡ Some o → look h ≡ Some o) → (if b then Some x.1 else old) ≡ Some o → look h ≡ Some o
  chosen-tells look true x h o old same is k e = ap look (sym (same refl)) ∙ (is ∙ e)
  chosen-tells look false x h o old same is k e = k e

  -- objects that are all told elsewhere
  pub among-all : (look : Handle → Option O) (more : List (Handle × O)) → All (λ x. look x.0 ≡ Some x.1) more → (h : Handle) (o : O) → told_among more h ≡ Some o → look h ≡ Some o
  among-all look [] are h o e = absurd (none≢some e)
  among-all look (x ∷ more) are h o e = chosen-tells look (x.0.0 == h.0) x h o (told_among more h) (same-handle x.0 h) (All-head (λ y. look y.0 ≡ Some y.1) x more are) (among-all look more (All-tail (λ y. look y.0 ≡ Some y.1) x more are) h o) e

  chosen-told : (b : Bool) (x : O) (old : Option O) → (b ≡ false → (o : O) × (old ≡ Some o)) → (o : O) × ((if b then Some x else old) ≡ Some o)
  chosen-told true x old k = (x, refl)
  chosen-told false x old k = k refl

  -- a handle that is among those told is told
  told-place : (more : List (Handle × O)) (h : Handle) (k : ℕ) → k < length (map (λ x. x.0) more) → slice_index_or (map (λ x. x.0) more) k h ≡ h → IsTold (told_among more) h
  told-place [] h k l e = absurd (omega (arith, l))
  told-place (x ∷ more) h zero l e = chosen-told (x.0.0 == h.0) x.1 (told_among more h) (λ f. absurd (true-false (x.0.0 == h.0) (handle-same x.0 h e) f))
  told-place (x ∷ more) h (suc k) l e = chosen-told (x.0.0 == h.0) x.1 (told_among more h) (λ f. told-place more h k (omega (arith, l)) e)

  pub told-contained : (more : List (Handle × O)) (h : Handle) → Contains (map (λ x. x.0) more) h → IsTold (told_among more) h
  told-contained more h c = told-place more h c.0 c.1 c.2

  more-told : (known more : List (Handle × O)) (h : Handle) → IsTold (told_among more) h → IsTold (told_among (known ++ more)) h
  more-told [] more h t = t
  more-told (x ∷ known) more h t = chosen-told (x.0.0 == h.0) x.1 (told_among (known ++ more) h) (λ f. more-told known more h t)

  -- the ends of a value that comes with its objects are told
  pub ends-told : {M : Type 0} (known : List (Handle × O)) (all : List O) (t : Told O M) → AreTold all t → All (IsTold (told_among (known ++ t.objects))) (mentions t.value)
  ends-told known all t told = All-weaker
      (Contains (mentions t.value)) (IsTold (told_among (known ++ t.objects)))
      (λ h c. more-told known t.objects h (told-contained t.objects h (subst (λ hs. Contains hs h) (sym told.handles) (((names-each-once t.value).same h).1 c))))
      (mentions t.value) (All-contains_itself (mentions t.value))

  -- where the first list tells nothing, the second one tells
  chosen-none : (b : Bool) (x : O) (old both rest : Option O) → (if b then Some x else old) ≡ None → (old ≡ None → both ≡ rest) → (if b then Some x else both) ≡ rest
  chosen-none true x old both rest e k = absurd (none≢some (sym e))
  chosen-none false x old both rest e k = k e

  pub among-none : (known more : List (Handle × O)) (h : Handle) → told_among known h ≡ None → told_among (known ++ more) h ≡ told_among more h
  among-none [] more h e = refl
  among-none (x ∷ known) more h e = chosen-none (x.0.0 == h.0) x.1 (told_among known h) (told_among (known ++ more) h) (told_among more h) e (among-none known more h)
