-- The steps of a loop over the paths of a level and the arrows.
use Rattle.std.proofs.Common.{◌≡◌, ◌≢◌, ℕ, ◌+◌, ◌<◌, ◌≤◌, List, [], ◌∷◌, ◌++◌, length, get_or, sym, ap, ◌∙◌, subst}
use Rattle.std.proofs.lemmas.List.{get_or_default, length_push}
use Rattle.cap_quiver_laws.specs.Paths.{QuiverData, Path, IsWalk, end_of, path_of, IsLevel, after, Follows, IsExtendedSoFar}
use Rattle.cap_quiver_laws.proofs.Numbering.{path, walk-append}
use Rattle.cap_quiver_laws.proofs.Levels.{extend-push, extend-skip}
use Rattle.cap_quiver_paths.specs.Data.{HasMany}

module _ (Q : QuiverData) (n : ℕ) (level : List Path) (some : 1 ≤ n) (L : IsLevel Q n level) where
  read : (a : ℕ) (w : Path) → a < length level → w ≡ get_or level a w → w ≡ path_of level a
  read a w lt e = e ∙ get_or_default level a w (path 0 []) lt

  pub read-walk : (a : ℕ) (w : Path) → a < length level → w ≡ get_or level a w → IsWalk Q w.start w.arrows
  read-walk a w lt e = subst (λ (P : Path). IsWalk Q P.start P.arrows) (sym (read a w lt e)) (L.walk a lt)

  pub pushed : (next items : List Path) (a x e : ℕ) (w v f : Path) → a < length level → w ≡ get_or level a w → v ≡ get_or level a v → x < length Q.arrows
      → (get_or Q.arrows x (0, 0)).0 ≡ e → e ≡ end_of Q w.start w.arrows → f ≡ path v.start (v.arrows ++ x ∷ []) → items ≡ next ++ f ∷ []
      → IsExtendedSoFar Q level next a x → IsExtendedSoFar Q level items a (x + 1)
  pushed next items a x e w v f la iw iv lx meet is made grown E =
      let follows : Follows Q level a x = (lx, meet ∙ is ∙ ap (λ (P : Path). end_of Q P.start P.arrows) (read a w la iw)) in
      let same : f ≡ after level a x = made ∙ ap (λ (P : Path). path P.start (P.arrows ++ x ∷ [])) (read a v la iv) in
      subst (λ l. IsExtendedSoFar Q level l a (x + 1)) (sym (grown ∙ ap (λ P. next ++ P ∷ []) same)) (extend-push Q n level some L next a x la follows E)

  pub skipped : (next : List Path) (a x e : ℕ) (w : Path) → a < length level → w ≡ get_or level a w
      → (get_or Q.arrows x (0, 0)).0 ≢ e → e ≡ end_of Q w.start w.arrows → IsExtendedSoFar Q level next a x → IsExtendedSoFar Q level next a (x + 1)
  skipped next a x e w la iw apart is E =
      extend-skip Q n level some L next a x (λ f. apart (f.1 ∙ sym (is ∙ ap (λ (P : Path). end_of Q P.start P.arrows) (read a w la iw)))) E

  pub many-from : (next : List Path) (a x : ℕ) → 128 < length next → IsExtendedSoFar Q level next a x → HasMany Q (n + 1) 128
  many-from next a x lt E = record {
    paths = next;
    many = lt;
    start = λ k lk. let g = E.from k lk in subst (λ (P : Path). P.start < Q.objects) (sym g.5) (L.start g.0 g.2);
    walk = λ k lk. let g = E.from k lk in
        let P = path_of level g.0 in
        subst (λ (R : Path). IsWalk Q R.start R.arrows) (sym g.5) (walk-append Q P.start P.arrows (g.1 ∷ []) (L.walk g.0 g.2) (g.4.0, g.4.1, tt));
    long = λ k lk. let g = E.from k lk in
        let P = path_of level g.0 in
        ap (λ (R : Path). length R.arrows) g.5 ∙ length_push P.arrows g.1 ∙ ap (λ m. m + 1) (L.long g.0 g.2);
    rising = E.rising;
  }
