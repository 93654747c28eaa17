-- Laws of images and unions. A law on coimages is the law on images in the opposite category.
use Rattle.cap_laws.specs.Linear.{CategoryData, Arrow, Same}
use Rattle.cap_laws.specs.Universal.{opposite, Both, IsKernel, IsCokernel, IsCoproduct, IsImage, IsCoimage, IsUnion}

-- a kernel of a cokernel of f is an image of f
pub record ImageFromKernel {Obj Mor : Type 0} (C : CategoryData Obj Mor) : Type 0 where
  pub law : {a b c k : Obj} {f p m e : Mor} → IsCokernel C a b c f p → IsKernel C k b c p m → Arrow C a k e → Same C a b (C.compose e m) f → IsImage C a k b f e m

-- an image is a coimage
pub record CoimageFromImage {Obj Mor : Type 0} (C : CategoryData Obj Mor) : Type 0 where
  pub law : {a b k : Obj} {f e m : Mor} → IsImage C a k b f e m → IsCoimage C a k b f e m

-- the second part of an image of the w that is m and n on a coproduct of their sources is a union of m and n
pub record UnionFromImage {Obj Mor : Type 0} (C : CategoryData Obj Mor) : Type 0 where
  pub law : {u s a b c : Obj} {i1 i2 m n w e j : Mor} → IsCoproduct C a b s i1 i2 → Arrow C s c w → Both (opposite C) c a b i1 i2 m n w → IsImage C s u c w e j → IsUnion C u a b c m n j
