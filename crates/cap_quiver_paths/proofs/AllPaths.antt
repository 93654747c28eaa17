-- The steps of a loop over the lengths of paths.
use Rattle.std.proofs.Common.{ℕ, ◌+◌, ◌<◌, List, [], ◌++◌, length, arith}
use Rattle.std.proofs.lemmas.List.{length-append}
use Rattle.cap_quiver_laws.specs.Paths.{Path, IsPathList, IsLevel}
use Rattle.cap_quiver_laws.proofs.Levels.{paths-append}
use Rattle.cap_quiver_paths.specs.Data.{quiver, HasMany, HasManyShort}

module _ (objects : ℕ) (arrows : List (ℕ × ℕ)) where
  no-paths : IsPathList (quiver objects arrows 0) []
  no-paths = record {
    paths = λ a lt. absurd (omega (arith, lt));
    every = λ P S. absurd (omega (arith, S.short));
    rising = λ a b less lt. absurd (omega (arith, lt));
  }

  pub units-paths : (level : List Path) → IsLevel (quiver objects arrows 0) 0 level → IsPathList (quiver objects arrows 1) level
  units-paths level L = paths-append (quiver objects arrows 0) 0 [] level no-paths L

  pub more-paths : (n : ℕ) (ps level : List Path) → IsPathList (quiver objects arrows n) ps → IsLevel (quiver objects arrows 0) n level → IsPathList (quiver objects arrows (n + 1)) (ps ++ level)
  more-paths n ps level A L = paths-append (quiver objects arrows 0) n ps level A L

  pub too-many : (n bound : ℕ) (ps level : List Path) → n < bound → 128 < length ps + length level → IsPathList (quiver objects arrows n) ps → IsLevel (quiver objects arrows 0) n level → HasManyShort (quiver objects arrows bound) 128
  too-many n bound ps level lt many A L =
      let W = more-paths n ps level A L in
      record {
        paths = ps ++ level;
        many = omega (arith, many, length-append ps level);
        short = λ a la. let S = W.paths a la in record { start = S.start; walk = S.walk; short = omega (arith, S.short, lt) };
        rising = W.rising;
      }

  pub too-many_later : (n bound : ℕ) → n < bound → HasMany (quiver objects arrows 0) n 128 → HasManyShort (quiver objects arrows bound) 128
  too-many_later n bound lt H = record {
    paths = H.paths;
    many = H.many;
    short = λ a la. record { start = H.start a la; walk = H.walk a la; short = omega (arith, H.long a la, lt) };
    rising = H.rising;
  }
