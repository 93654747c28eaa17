-- A list of all short paths is as long as any rising list of short paths.
use Rattle.std.proofs.Common.{◌≡◌, ℕ, zero, suc, ◌<◌, ◌≤◌, List, length, sym, subst, arith, ⊎_elim}
use Rattle.std.proofs.lemmas.Bool.{cases_lt, cases_eq}
use Rattle.cap_quiver_laws.specs.Paths.{QuiverData, Path, path_of, IsEarlier, IsPathList}
use Rattle.cap_quiver_laws.proofs.Numbering.{earlier-itself}
use Rattle.cap_quiver_laws.proofs.OneTable.{earlier-both, path-place}
use Rattle.cap_quiver_paths.specs.Data.{HasManyShort}

module _ (Q : QuiverData) (ps : List Path) (L : IsPathList Q ps) (k : ℕ) (H : HasManyShort Q k) where
  place : (a : ℕ) → a < length H.paths → (b : ℕ) × (b < length ps) × (path_of ps b ≡ path_of H.paths a)
  place a lt = path-place ps (path_of H.paths a) (L.every (path_of H.paths a) (H.short a lt))

  -- places rise as the paths do
  rises : (a b : ℕ) → a < b → (la : a < length H.paths) (lb : b < length H.paths) → (place a la).0 < (place b lb).0
  rises a b later la lb =
      let x = place a la in
      let y = place b lb in
      let e : IsEarlier (path_of ps x.0) (path_of ps y.0) =
      subst (λ P. IsEarlier P (path_of ps y.0)) (sym x.2) (subst (λ P. IsEarlier (path_of H.paths a) P) (sym y.2) (H.rising a b later lb)) in
      ⊎_elim
      (λ less. less)
      (λ ge. ⊎_elim
      (λ same. absurd (earlier-itself (path_of ps x.0) (subst (λ z. IsEarlier (path_of ps x.0) (path_of ps z)) (sym same) e)))
      (λ apart. absurd (earlier-both (path_of ps x.0) (path_of ps y.0) e (L.rising y.0 x.0 (omega (arith, ge, apart)) x.1)))
      (cases_eq x.0 y.0))
      (cases_lt x.0 y.0)

  high : (a : ℕ) (la : a < length H.paths) → a ≤ (place a la).0
  high zero la = omega arith
  high (suc a) la =
      let below : a < length H.paths = omega (arith, la) in
      omega (arith, high a below, rises a (suc a) (omega arith) below la)

  pub many-here : k < length ps
  many-here = let x = place k H.many in omega (arith, high k H.many, x.1)
