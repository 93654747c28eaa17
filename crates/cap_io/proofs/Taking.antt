-- Lemmas on the bytes that a source gives.
use Rattle.std.proofs.Common.{◌≡◌, ℕ, ◌+◌, ◌-◌, ◌<◌, ◌≤◌, min, List, [], ◌++◌, take, drop, length, Option, arith, sym, ap, ◌∙◌, length-append, length-drop, take-append-drop}
use Rattle.std.proofs.lemmas.List.{take_all, drop_all, drop-drop, take-append-le, length-take-le}
use Rattle.std.specs.Io.KnownBytes.{Consumes}
use Rattle.std.proofs.KnownBytes.{Consumes-trans}
use Rattle.cap_io.specs.Reading.{ConsumesSome, IsPastLimit, piece_size}

-- some bytes were taken and then some more, together as P says
pub ConsumesSome-more : (a b c : Option (List ℕ)) (bs cs : List ℕ) (P : List ℕ → Type 0) → Consumes a b bs → Consumes b c cs → P (bs ++ cs) → ConsumesSome a c P
ConsumesSome-more a b c bs cs P p q h = record { bytes = bs ++ cs; taken = Consumes-trans a b c bs cs p q; are = h }

-- more than the limit, where the next bytes are more than is left of it, and at most one piece
pub past_limit : (limit have count : ℕ) (bytes next : List ℕ) → have ≡ length bytes → have ≤ limit → count ≡ length next → limit - have < count → count ≤ piece_size → IsPastLimit limit (bytes ++ next)
past_limit limit have count bytes next p q r s t = record {
  more = omega (arith, length-append bytes next);
  most = omega (arith, length-append bytes next);
}

-- at most the limit, where the next bytes are no more than is left of it
pub within_limit : (limit have count : ℕ) (bytes next : List ℕ) → have ≡ length bytes → have ≤ limit → count ≡ length next → count ≤ limit - have → length (bytes ++ next) ≤ limit
within_limit limit have count bytes next p q r s = omega (arith, length-append bytes next)

-- what a call gave of the items from a place on, into a buffer: the front of them, and none only at their end
abbrev GivesFrom : List ℕ → ℕ → ℕ → List ℕ → Type 0
GivesFrom items at n buf = (drop at items ≡ take n buf ++ drop (at + n) items) × (n ≡ 0 → 0 < length buf → drop (at + n) items ≡ [])

-- as many of the rest were copied to the front of a buffer as it has room for, up to the most
copied : (items front buf : List ℕ) (at n most : ℕ) → front ≡ take n (drop at items) → n ≡ min most (length (drop at items)) → (0 < length buf → 0 < most)
    → GivesFrom items at n (front ++ drop n buf)
copied items front buf at n most e count some =
    let within : n ≤ length (drop at items) = omega arith in
    let long : length front ≡ n = ap length e ∙ length-take-le n (drop at items) within in
    let head : take n (front ++ drop n buf) ≡ front =
    take-append-le n front (drop n buf) (omega arith) ∙ take_all n front (omega arith) in
    let parts : take n (drop at items) ++ drop (at + n) items ≡ drop at items =
    ap (λ l. take n (drop at items) ++ l) (sym (drop-drop n at items)) ∙ take-append-drop n (drop at items) in (
      sym (ap (λ l. l ++ drop (at + n) items) (head ∙ e) ∙ parts),
      λ none room. drop_all (at + n) items (omega (arith, length-append front (drop n buf), length-drop n buf, length-drop at items)),
    )

-- the same of a slice that shows the items
pub copied-slice : (items shown front buf : List ℕ) (at n most : ℕ) → shown ≡ items
    → front ≡ take n (take (length shown - at) (drop at shown)) → n ≡ min most (length (take (length shown - at) (drop at shown))) → (0 < length buf → 0 < most)
    → GivesFrom items at n (front ++ drop n buf)
copied-slice items shown front buf at n most same e count some =
    let short : length (drop at shown) ≤ length shown - at = omega (arith, length-drop at shown) in
    let whole : take (length shown - at) (drop at shown) ≡ drop at items = take_all (length shown - at) (drop at shown) short ∙ ap (drop at) same in
    copied items front buf at n most (rw whole at e) (rw whole at count) some
