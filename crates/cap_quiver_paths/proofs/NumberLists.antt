-- The lists of numbers of paths.
use Rattle.std.proofs.Common.{◌≡◌, ◌⊎◌, inl, inr, ℕ, ◌+◌, ◌*◌, ◌%◌, ◌<◌, ◌≤◌, Bool, true, false, cond, ltb, ◌&&◌, List, [], ◌++◌, length, get_or, refl, sym, ap, ◌∙◌, subst, arith, ⊎_elim}
use Rattle.std.specs.List.{Contains}
use Rattle.std.specs.Cmp.Derive.{both_true}
use Rattle.std.proofs.lemmas.List.{append_cancel_left, length-append}
use Rattle.std.proofs.lemmas.Bool.{cases_lt, cond-true, cond-false, lt-ltb, le-ltb}
use Rattle.std.proofs.lemmas.Nat.{div-mul-add, mod-mul-add, mul-add-lt}
use Rattle.cap_quiver_laws.specs.Paths.{QuiverData, IsQuiver, Path, IsWalk, path_of, IsPathList, IsJoinable, IsNumbering}
use Rattle.cap_quiver_laws.specs.Quotient.{PathNumbers}
use Rattle.cap_quiver_laws.proofs.Numbering.{path, walk-append}
use Rattle.cap_quiver_laws.proofs.OneTable.{path-place}
use Rattle.cap_quiver_paths.specs.Data.{quiver}
use Rattle.cap_quiver_paths.specs.Numbers.{numbers_of, IsNumberOf, joined_of, IsJoin, AreEndsSoFar, AreUnitNumbersSoFar, AreJoinsSoFar}
use Rattle.cap_quiver_paths.specs.TermNumbers.{HasShortTerms, IsArrowsNumber}
use Rattle.cap_quiver_paths.proofs.Goes.{term-first}

-- a path by its start and its arrows
pub joined-is : (P : Path) (x : ℕ) (xs ys : List ℕ) → P.start ≡ x → P.arrows ≡ xs ++ ys → P ≡ path x (xs ++ ys)
joined-is P x xs ys s e = ap (λ z. path z P.arrows) s ∙ ap (λ l. path x l) e

pub joined-rest : (P : Path) (x : ℕ) (xs ys zs : List ℕ) → P.arrows ≡ xs ++ zs → P ≡ path x (xs ++ ys) → zs ≡ ys
joined-rest P x xs ys zs a e = append_cancel_left xs zs ys (sym a ∙ ap (λ (R : Path). R.arrows) e)

-- a number that was looked up
pub number-known : (ps : List Path) (P : Path) (n : ℕ) → Contains ps P → IsNumberOf ps P n → (n < length ps) × (path_of ps n ≡ P)
number-known ps P n h found = ⊎_elim
    (λ f. f)
    (λ none. let k = path-place ps P h in absurd (none.1 k.0 k.1 k.2))
    found

pub join-found : (Q : QuiverData) (ps : List Path) (a b n : ℕ) (P : Path) → P ≡ joined_of ps a b → IsJoinable Q ps a b → Contains ps (joined_of ps a b) → IsNumberOf ps P n → IsJoin Q ps a b n
join-found Q ps a b n P e J h found =
    let f = number-known ps (joined_of ps a b) n h (subst (λ R. IsNumberOf ps R n) e found) in
    inl (J, f.0, f.1)

-- a term that was looked up
pub arrows-found : (Q : QuiverData) (ps : List Path) (xs : List ℕ) (n : ℕ) (P : Path) → P.arrows ≡ xs → Contains ps P → IsNumberOf ps P n → IsArrowsNumber Q ps xs n
arrows-found Q ps xs n P e h found =
    let f = number-known ps P n h found in
    inl (f.0, ap (λ (R : Path). R.arrows) f.1 ∙ e)

module _ (objects : ℕ) (arrows : List (ℕ × ℕ)) (bound : ℕ) (ps : List Path) (W : IsQuiver (quiver objects arrows bound)) (L : IsPathList (quiver objects arrows bound) ps) where
  abbrev Q : QuiverData
  Q = quiver objects arrows bound

  abbrev part : QuiverData
  part = quiver 0 arrows bound

  to-whole : (a b : ℕ) → IsJoinable (quiver 0 arrows bound) ps a b → IsJoinable (quiver objects arrows bound) ps a b
  to-whole a b J = record { first = J.first; second = J.second; meet = J.meet; short = J.short }

  to-part : (a b : ℕ) → IsJoinable (quiver objects arrows bound) ps a b → IsJoinable (quiver 0 arrows bound) ps a b
  to-part a b J = record { first = J.first; second = J.second; meet = J.meet; short = J.short }

  -- joined paths are in the list
  pub joins-inside : (a b : ℕ) → IsJoinable (quiver 0 arrows bound) ps a b → Contains ps (joined_of ps a b)
  joins-inside a b J =
      let A = L.paths a J.first in
      let B = L.paths b J.second in
      let xs = (path_of ps a).arrows in
      let ys = (path_of ps b).arrows in
      L.every (joined_of ps a b) (record {
        start = A.start;
        walk = walk-append Q (path_of ps a).start xs ys A.walk (subst (λ z. IsWalk Q z ys) (sym J.meet) B.walk);
        short = omega (arith, J.short, length-append xs ys);
      })

  -- and so are terms shorter than the bound
  pub terms-inside : HasShortTerms (quiver 0 arrows bound) ps
  terms-inside x y xs T short =
      let f = term-first part x y xs T in
      L.every (path x xs) (record { start = omega (arith, (W.ends (get_or xs 0 0) f.0).0, f.1); walk = T.walk; short = short })

  module _ (ends : List (ℕ × ℕ)) (units joins : List ℕ) (E : AreEndsSoFar (quiver 0 arrows 0) ps ends (length ps)) (U : AreUnitNumbersSoFar ps units objects) (J : AreJoinsSoFar (quiver 0 arrows bound) ps joins (length ps * length ps)) where
    abbrev A : PathNumbers
    A = numbers_of objects ends units joins

    abbrev chosen : ℕ → ℕ → ℕ → ℕ
    chosen a b k = cond (ltb a k && ltb b k) (get_or joins (a * k + b) 0) k

    outside : (a b : ℕ) → (ltb a (length ps) && ltb b (length ps)) ≡ false → chosen a b (length ps) ≡ length ps
    outside a b e = cond-false (ltb a (length ps) && ltb b (length ps)) (get_or joins (a * length ps + b) 0) (length ps) e

    past-second : (s t : ℕ) → length ps ≤ t → (ltb s (length ps) && ltb t (length ps)) ≡ false
    past-second s t le = ap (λ c. ltb s (length ps) && c) (le-ltb t (length ps) le) ∙ never (ltb s (length ps)) where
      never : (b : Bool) → (b && false) ≡ false
      never true = refl
      never false = refl

    join-is : (a b : ℕ) → (IsJoinable (quiver objects arrows bound) ps a b × (A.join a b < length ps) × (path_of ps (A.join a b) ≡ joined_of ps a b)) ⊎ (¬ IsJoinable (quiver objects arrows bound) ps a b × (A.join a b ≡ length ps))
    join-is a b =
        let m = length ps in
        let read : A.join a b ≡ chosen a b m = ap (λ k. chosen a b k) E.long in
        let none : (IsJoinable (quiver objects arrows bound) ps a b → ⊥) → (ltb a m && ltb b m) ≡ false → (IsJoinable (quiver objects arrows bound) ps a b × (A.join a b < m) × (path_of ps (A.join a b) ≡ joined_of ps a b)) ⊎ (¬ IsJoinable (quiver objects arrows bound) ps a b × (A.join a b ≡ m)) =
        λ h e. inr (h, read ∙ outside a b e) in
        ⊎_elim
        (λ (la : a < m). ⊎_elim
        (λ (lb : b < m).
        let i = a * m + b in
        let at : A.join a b ≡ get_or joins i 0 = read ∙ cond-true (ltb a m && ltb b m) (get_or joins i 0) m (both_true (lt-ltb a m la) (lt-ltb b m lb)) in
        let is : IsJoin (quiver 0 arrows bound) ps a b (A.join a b) = subst (λ n. IsJoin (quiver 0 arrows bound) ps a b n) (sym at)
        (subst (λ d. IsJoin (quiver 0 arrows bound) ps a d (get_or joins i 0)) (mod-mul-add a m b lb)
        (subst (λ c. IsJoin (quiver 0 arrows bound) ps c (i % m) (get_or joins i 0)) (div-mul-add a m b lb)
        (J.at i (mul-add-lt a m b m la lb)))) in
        ⊎_elim (λ f. inl (to-whole a b f.0, f.1, f.2)) (λ f. inr ((λ h. f.0 (to-part a b h)), f.1)) is)
        (λ (past : m ≤ b). none (λ h. omega (arith, h.second, past)) (past-second a b past))
        (cases_lt b m))
        (λ (past : m ≤ a). none (λ h. omega (arith, h.first, past)) (ap (λ c. c && ltb b m) (le-ltb a m past)))
        (cases_lt a m)

    pub lists-number : IsNumbering (quiver objects arrows bound) ps (numbers_of objects ends units joins)
    lists-number = record {
      count = E.long;
      objects = refl;
      start = λ a lt. ap (λ (e : ℕ × ℕ). e.0) (E.at a lt);
      finish = λ a lt. ap (λ (e : ℕ × ℕ). e.1) (E.at a lt);
      unit = λ x lt. number-known ps (path x []) (get_or units x 0) (L.every (path x []) (record { start = lt; walk = tt; short = omega (arith, W.bound) })) (U.at x lt);
      join = join-is;
    }
