-- The numbers of the paths shorter than a bound: joining is associative, and units are units.
use Rattle.std.proofs.Common.{◌≡◌, ◌⊎◌, inl, inr, ℕ, ◌+◌, ◌<◌, List, [], ◌∷◌, ◌++◌, length, get_or, append_assoc, refl, sym, ap, ◌∙◌, subst, arith, ⊎_elim}
use Rattle.std.proofs.lemmas.List.{length-append, append-nil}
use Rattle.std.proofs.lemmas.Bool.{cases_lt, cases_eq}
use Rattle.cap_quiver_laws.specs.Paths.{QuiverData, IsQuiver, Path, IsWalk, end_of, IsBefore, IsEarlier, path_of, IsPathList, IsNumbering}
use Rattle.cap_quiver_laws.specs.Quotient.{PathNumbers, IsPathAlgebra}

before-itself : (xs : List ℕ) → IsBefore xs xs → ⊥
before-itself [] h = h
before-itself (x ∷ xs) h = ⊎_elim (λ less. omega (arith, less)) (λ e. before-itself xs e.1) h

pub earlier-itself : (P : Path) → IsEarlier P P → ⊥
earlier-itself P h = ⊎_elim (λ less. omega (arith, less)) (λ e. ⊎_elim (λ b. before-itself P.arrows b) (λ s. omega (arith, s.1)) e.1) h

module _ (Q : QuiverData) where
  pub end-append : (x : ℕ) (xs ys : List ℕ) → end_of Q x (xs ++ ys) ≡ end_of Q (end_of Q x xs) ys
  end-append x [] ys = refl
  end-append x (a ∷ xs) ys = end-append (get_or Q.arrows a (0, 0)).1 xs ys

  pub end-inside : IsQuiver Q → (x : ℕ) (xs : List ℕ) → x < Q.objects → IsWalk Q x xs → end_of Q x xs < Q.objects
  end-inside W x [] lt h = lt
  end-inside W x (a ∷ xs) lt h = end-inside W (get_or Q.arrows a (0, 0)).1 xs (W.ends a h.0).1 h.2

  -- a list of arrows after another
  pub walk-append : (x : ℕ) (xs ys : List ℕ) → IsWalk Q x xs → IsWalk Q (end_of Q x xs) ys → IsWalk Q x (xs ++ ys)
  walk-append x [] ys h k = k
  walk-append x (a ∷ xs) ys h k = (h.0, h.1, walk-append (get_or Q.arrows a (0, 0)).1 xs ys h.2 k)

abbrev pub path : ℕ → List ℕ → Path
path x xs = record { start = x; arrows = xs }

module _ (Q : QuiverData) (ps : List Path) (A : PathNumbers) (W : IsQuiver Q) (L : IsPathList Q ps) (N : IsNumbering Q ps A) where
  abbrev at : ℕ → Path
  at a = path_of ps a

  abbrev end : ℕ → ℕ
  end a = end_of Q (at a).start (at a).arrows

  -- a path has one number
  pub one-number : (a b : ℕ) → a < length ps → b < length ps → at a ≡ at b → a ≡ b
  one-number a b la lb e = ⊎_elim
      (λ same. same)
      (λ apart. absurd (⊎_elim
      (λ less. earlier-itself (at b) (subst (λ P. IsEarlier P (at b)) e (L.rising a b less lb)))
      (λ ge. earlier-itself (at a) (subst (λ P. IsEarlier P (at a)) (sym e) (L.rising b a (omega (arith, ge, apart)) la)))
      (cases_lt a b)))
      (cases_eq a b)

  -- three paths one after the other, shorter than the bound
  record IsTriple (a b c : ℕ) : Type 0 where
    first : a < length ps
    second : b < length ps
    third : c < length ps
    left : end a ≡ (at b).start
    right : end b ≡ (at c).start
    short : length (at a).arrows + length (at b).arrows + length (at c).arrows < Q.bound

  Found : ℕ → ℕ → ℕ → ℕ → Type 0
  Found a b c n = (IsTriple a b c × (n < length ps) × (at n ≡ path (at a).start ((at a).arrows ++ ((at b).arrows ++ (at c).arrows)))) ⊎ (¬ IsTriple a b c × (n ≡ length ps))

  end-of-join : (x : ℕ) (xs ys : List ℕ) (y : ℕ) → end_of Q x xs ≡ y → end_of Q x (xs ++ ys) ≡ end_of Q y ys
  end-of-join x xs ys y e = end-append Q x xs ys ∙ ap (λ z. end_of Q z ys) e

  left-found : (a b c : ℕ) → Found a b c (A.join (A.join a b) c)
  unfolding Found
  left-found a b c = ⊎_elim
      (λ f.
      let j = A.join a b in
      let ends : end j ≡ end b = ap (λ (P : Path). end_of Q P.start P.arrows) f.2 ∙ end-of-join (at a).start (at a).arrows (at b).arrows (at b).start f.0.meet in
      let long : length (at j).arrows ≡ length (at a).arrows + length (at b).arrows = ap (λ (P : Path). length P.arrows) f.2 ∙ length-append (at a).arrows (at b).arrows in
      ⊎_elim
      (λ g. inl (
        record { first = f.0.first; second = f.0.second; third = g.0.second; left = f.0.meet; right = sym ends ∙ g.0.meet; short = omega (arith, long, g.0.short) },
        g.1,
        g.2 ∙ ap (λ (P : Path). path P.start (P.arrows ++ (at c).arrows)) f.2 ∙ ap (λ xs. path (at a).start xs) (append_assoc (at a).arrows (at b).arrows (at c).arrows),
      ))
      (λ g. inr ((λ t. g.0 (record { first = f.1; second = t.third; meet = ends ∙ t.right; short = omega (arith, long, t.short) })), g.1))
      (N.join j c))
      (λ f. ⊎_elim
      (λ g. absurd (omega (arith, g.0.first, f.1)))
      (λ g. inr ((λ t. f.0 (record { first = t.first; second = t.second; meet = t.left; short = omega (arith, t.short) })), g.1))
      (N.join (A.join a b) c))
      (N.join a b)

  right-found : (a b c : ℕ) → Found a b c (A.join a (A.join b c))
  unfolding Found
  right-found a b c = ⊎_elim
      (λ f.
      let j = A.join b c in
      let starts : (at j).start ≡ (at b).start = ap (λ (P : Path). P.start) f.2 in
      let long : length (at j).arrows ≡ length (at b).arrows + length (at c).arrows = ap (λ (P : Path). length P.arrows) f.2 ∙ length-append (at b).arrows (at c).arrows in
      ⊎_elim
      (λ g. inl (
        record { first = g.0.first; second = f.0.first; third = f.0.second; left = g.0.meet ∙ starts; right = f.0.meet; short = omega (arith, long, g.0.short) },
        g.1,
        g.2 ∙ ap (λ (P : Path). path (at a).start ((at a).arrows ++ P.arrows)) f.2,
      ))
      (λ g. inr ((λ t. g.0 (record { first = t.first; second = f.1; meet = t.left ∙ sym starts; short = omega (arith, long, t.short) })), g.1))
      (N.join a j))
      (λ f. ⊎_elim
      (λ g. absurd (omega (arith, g.0.second, f.1)))
      (λ g. inr ((λ t. f.0 (record { first = t.second; second = t.third; meet = t.right; short = omega (arith, t.short) })), g.1))
      (N.join a (A.join b c)))
      (N.join b c)

  same-found : (a b c n k : ℕ) → Found a b c n → Found a b c k → n ≡ k
  unfolding Found
  same-found a b c n k f g = ⊎_elim
      (λ x. ⊎_elim (λ y. one-number n k x.1 y.1 (x.2 ∙ sym y.2)) (λ y. absurd (y.0 x.0)) g)
      (λ x. ⊎_elim (λ y. absurd (x.0 y.0)) (λ y. x.1 ∙ sym y.1) g)
      f

  -- a join that is a path has its ends
  join-ends : (a b : ℕ) → A.join a b < A.count → (A.start (A.join a b) ≡ A.start a) × (A.finish (A.join a b) ≡ A.finish b)
  join-ends a b lt = ⊎_elim
      (λ f. (
        N.start (A.join a b) f.1 ∙ ap (λ (P : Path). P.start) f.2 ∙ sym (N.start a f.0.first),
        N.finish (A.join a b) f.1 ∙ ap (λ (P : Path). end_of Q P.start P.arrows) f.2 ∙ end-of-join (at a).start (at a).arrows (at b).arrows (at b).start f.0.meet ∙ sym (N.finish b f.0.second),
      ))
      (λ f. absurd (omega (arith, lt, N.count, f.1)))
      (N.join a b)

  pub path-algebra : IsPathAlgebra A
  path-algebra = record {
    ends = λ a lt.
        let la : a < length ps = omega (arith, lt, N.count) in
        let P = L.paths a la in (
          omega (arith, N.start a la, P.start, N.objects),
          omega (arith, N.finish a la, end-inside Q W (at a).start (at a).arrows P.start P.walk, N.objects),
        );
    unit_ends = λ x lt.
        let u = N.unit x (omega (arith, lt, N.objects)) in (
          omega (arith, u.0, N.count),
          N.start (A.unit x) u.0 ∙ ap (λ (P : Path). P.start) u.1,
          N.finish (A.unit x) u.0 ∙ ap (λ (P : Path). end_of Q P.start P.arrows) u.1,
        );
    join_ends = join-ends;
    assoc = λ a b c. same-found a b c (A.join (A.join a b) c) (A.join a (A.join b c)) (left-found a b c) (right-found a b c);
    none_left = λ a b le. ⊎_elim (λ f. absurd (omega (arith, f.0.first, le, N.count))) (λ f. omega (arith, f.1, N.count)) (N.join a b);
    none_right = λ a b le. ⊎_elim (λ f. absurd (omega (arith, f.0.second, le, N.count))) (λ f. omega (arith, f.1, N.count)) (N.join a b);
    unit_left = λ a lt.
        let la : a < length ps = omega (arith, lt, N.count) in
        let x = A.start a in
        let u = N.unit x (omega (arith, N.start a la, (L.paths a la).start)) in
        ⊎_elim
        (λ f. one-number (A.join (A.unit x) a) a f.1 la (f.2 ∙ ap (λ (P : Path). path P.start (P.arrows ++ (at a).arrows)) u.1 ∙ ap (λ z. path z (at a).arrows) (N.start a la)))
        (λ f. absurd (f.0 (record {
          first = u.0;
          second = la;
          meet = ap (λ (P : Path). end_of Q P.start P.arrows) u.1 ∙ N.start a la;
          short = omega (arith, ap (λ (P : Path). length P.arrows) u.1, (L.paths a la).short);
        })))
        (N.join (A.unit x) a);
    unit_right = λ a lt.
        let la : a < length ps = omega (arith, lt, N.count) in
        let x = A.finish a in
        let P = L.paths a la in
        let u = N.unit x (omega (arith, N.finish a la, end-inside Q W (at a).start (at a).arrows P.start P.walk)) in
        ⊎_elim
        (λ f. one-number (A.join a (A.unit x)) a f.1 la (f.2 ∙ ap (λ (P : Path). path (at a).start ((at a).arrows ++ P.arrows)) u.1 ∙ ap (λ xs. path (at a).start xs) (append-nil (at a).arrows)))
        (λ f. absurd (f.0 (record {
          first = la;
          second = u.0;
          meet = sym (N.finish a la) ∙ sym (ap (λ (P : Path). P.start) u.1);
          short = omega (arith, ap (λ (P : Path). length P.arrows) u.1, P.short);
        })))
        (N.join a (A.unit x));
  }
