-- The laws of categories that are alike: the lemmas on one direction, taken both ways and turned round.
use Rattle.std.specs.Prelude.{Option, Some, None}
use Rattle.cap_laws.specs.Linear.{CategoryData}
use Rattle.cap_laws.specs.Universal.{IsLift}
use Rattle.cap_alike.specs.Alike.{Pairing, flipped, turned_pairs, Alike}
use Rattle.cap_alike.specs.Laws.{AlikePair, StructureGoes, PairedOptions, InversesGo, KernelsGo, SquaresGo, ImagesGo, NotionsGo, MeaningsGo}
use Rattle.cap_alike.proofs.Alike.{flip, flip-one, turn-alike, across, recross, some}
use Rattle.cap_alike.proofs.Linear.{alike_linear}
use Rattle.cap_alike.proofs.Means.{alike_means, flip-value, flip-values}
use Rattle.cap_alike.proofs.Notions.{mono, section, split_epi, inverse, iso, weak_kernel, kernel, equalizer, product, pullback, direct_sum, zero_object, through, image, intersection, union, homology, exact, iso_over, iso_over_both, has_kernel, has_direct_sum, alike_additive, alike_abelian}

pub structure_goes : (A : AlikePair) → StructureGoes A
structure_goes A = record {
  linear = (alike_linear (flip A.alike), alike_linear A.alike);
  additive = (alike_additive A.alike, alike_additive (flip A.alike));
  abelian = (alike_abelian A.alike, alike_abelian (flip A.alike));
}

module _ {O N Obj Mor : Type 0} {D : CategoryData O N} {C : CategoryData Obj Mor} {R : Pairing O N Obj Mor} (A : Alike D C R) where
  -- a lift, or none where there is none
  lift-goes : {x a b : O} {w y z : Obj} {t f : N} {t' f' : Mor} (o : Option N) (q : Option Mor) → R.object x w → R.object a y → R.arrow x b w z t t' → R.arrow a b y z f f' → PairedOptions R x a w y o q → IsLift D x a b t f o → IsLift C w y z t' f' q
  lift-goes (Some u) (Some v) X Y T G U h = (A.right U, across A (A.compose U G) T h.1)
  lift-goes None None X Y T G U h = λ s. h (some (flip A) X Y (λ _ _ u e. recross A (A.compose u G) T e) s)
  lift-goes (Some u) None X Y T G U h = absurd U
  lift-goes None (Some v) X Y T G U h = absurd U

  paired-back : (a b : O) (x y : Obj) (o : Option N) (q : Option Mor) → PairedOptions R a b x y o q → PairedOptions (flipped R) x y a b q o
  paired-back a b x y (Some u) (Some v) U = U
  paired-back a b x y None None U = tt
  paired-back a b x y (Some u) None U = absurd U
  paired-back a b x y None (Some v) U = absurd U

  paired-turned : (a b : O) (x y : Obj) (o : Option N) (q : Option Mor) → PairedOptions R a b x y o q → PairedOptions (turned_pairs R) b a y x o q
  paired-turned a b x y (Some u) (Some v) U = U
  paired-turned a b x y None None U = tt
  paired-turned a b x y (Some u) None U = absurd U
  paired-turned a b x y None (Some v) U = absurd U

module _ {O N Obj Mor : Type 0} {D : CategoryData O N} {C : CategoryData Obj Mor} {R : Pairing O N Obj Mor} (A : Alike D C R) where
  back : Alike C D (flipped R)
  back = flip A

  inverses_go : InversesGo D C R
  inverses_go =
      let B = turn-alike A in
      let G = flip (turn-alike A) in
      record {
        mono = λ X Y f. (mono A X Y f, mono back X Y f);
        epi = λ X Y f. (mono B Y X f, mono G Y X f);
        iso = λ X Y f. (iso A X Y f, iso back X Y f);
        split_mono = λ X Y f. (split_epi B Y X f, split_epi G Y X f);
        split_epi = λ X Y f. (split_epi A X Y f, split_epi back X Y f);
        section = λ Y f s. (section A Y f s, section back Y f s);
        retraction = λ X f s. (section B X f s, section G X f s);
        inverse = λ X Y f s. (inverse A X Y f s, inverse back X Y f s);
      }

  kernels_go : KernelsGo D C R
  kernels_go =
      let B = turn-alike A in
      let G = flip (turn-alike A) in
      record {
        kernel = λ Z X Y f i. (kernel A Z X Y f i, kernel back Z X Y f i);
        weak_kernel = λ Z X Y f i. (weak_kernel A Z X Y f i, weak_kernel back Z X Y f i);
        cokernel = λ Z Y X f p. (kernel B Z Y X f p, kernel G Z Y X f p);
        weak_cokernel = λ Z Y X f p. (weak_kernel B Z Y X f p, weak_kernel G Z Y X f p);
        equalizer = λ Z X f g e. (equalizer A Z X f g e, equalizer back Z X f g e);
        coequalizer = λ Z Y f g q. (equalizer B Z Y f g q, equalizer G Z Y f g q);
        has_kernel = λ X Y f. (has_kernel A X Y f, has_kernel back X Y f);
      }

  squares_go : SquaresGo D C R
  squares_go =
      let B = turn-alike A in
      let G = flip (turn-alike A) in
      record {
        product = λ Z X Y p q. (product A Z X Y p q, product back Z X Y p q);
        coproduct = λ Z X Y i j. (product B Z X Y i j, product G Z X Y i j);
        direct_sum = λ Z X Y i j p q. (direct_sum A Z X Y i j p q, direct_sum back Z X Y i j p q);
        has_direct_sum = λ X Y. (has_direct_sum A X Y, has_direct_sum back X Y);
        zero_object = λ X. (zero_object A X, zero_object back X);
        pullback = λ Z X Y f g p q. (pullback A Z X Y f g p q, pullback back Z X Y f g p q);
        pushout = λ Z X Y f g i j. (pullback B Z X Y f g i j, pullback G Z X Y f g i j);
        lift = λ o q X Y t f u. (lift-goes A o q X Y t f u, lift-goes back q o X Y t f (paired-back A _ _ _ _ o q u));
        colift = λ o q X Y f t u. (lift-goes B o q X Y t f (paired-turned A _ _ _ _ o q u), lift-goes G q o X Y t f (paired-back B _ _ _ _ o q (paired-turned A _ _ _ _ o q u)));
      }

  images_go : ImagesGo D C R
  images_go =
      let B = turn-alike A in
      let G = flip (turn-alike A) in
      record {
        through = λ W Z h f. (through A W Z h f, through back W Z h f);
        image = λ X Z Y f e m. (image A X Z Y f e m, image back X Z Y f e m);
        coimage = λ X Z Y f e m. (image B Y Z X f m e, image G Y Z X f m e);
        intersection = λ Z X Y m n d. (intersection A Z X Y m n d, intersection back Z X Y m n d);
        union = λ Z X Y W m n j. (union A Z X Y W m n j, union back Z X Y W m n j);
        homology = λ Z V X Y W f g i p. (homology A Z V X Y W f g i p, homology back Z V X Y W f g i p);
        exact = λ X Y W f g. (exact A X Y W f g, exact back X Y W f g);
        iso_over = λ Z W i j. (iso_over A Z W i j, iso_over back Z W i j);
        iso_over_both = λ Z W p q r s. (iso_over_both A Z W p q r s, iso_over_both back Z W p q r s);
      }

pub notions_go : (A : AlikePair) → NotionsGo A
notions_go A = record { inverses = inverses_go A.alike; kernels = kernels_go A.alike; squares = squares_go A.alike; images = images_go A.alike }

pub meanings_go : (A : AlikePair) → MeaningsGo A
meanings_go A = λ one op args brgs v w ps p. (
  alike_means A.alike one op args brgs v w ps p,
  alike_means (flip A.alike) (flip-one one) op brgs args w v (flip-values ps) (flip-value p),
)
