-- Homomorphism structures: the morphisms between two objects as rows of residues, and generators of the objects.
use Rattle.std.specs.Prelude.{◌≡◌, ℕ, ◌<◌, List, slice_index}
use Rattle.cap_matrix.specs.Grid.{Grid, matrix_by, row_times}
use Rattle.cap_laws.specs.Linear.{CategoryData, Arrow, Same}
use Rattle.cap_laws.specs.Universal.{IsZeroObject, IsDirectSum}
use Rattle.cap_homlaw.specs.Rows.{AreResidues, row_sum, row_scaled, unit_row}

-- the number of coefficients of a morphism from a to b, the row of them, the morphism that a row stands for, and the generators; nothing is claimed yet
pub record HomData (Obj Mor : Type 0) : Type 0 where
  pub dim : Obj → Obj → ℕ
  pub nu : Mor → List ℕ
  pub back : Obj → Obj → List ℕ → Mor
  pub generators : ℕ
  pub generator : ℕ → Obj

-- x is a finite sum of objects with the property G: a zero object, or a direct sum of one of them and of such a sum
pub data IsSumOf {Obj Mor : Type 0} (C : CategoryData Obj Mor) (G : Obj → Type 0) : Obj → Type 0 where
  empty : {z : Obj} → IsZeroObject C z → IsSumOf C G z
  more : {s a b : Obj} {i1 i2 p1 p2 : Mor} → IsDirectSum C s a b i1 i2 p1 p2 → G a → IsSumOf C G b → IsSumOf C G s

-- x is one of the generators
pub record IsGenerator {Obj Mor : Type 0} (H : HomData Obj Mor) (x : Obj) : Type 0 where
  pub number : ℕ
  pub below : number < H.generators
  pub is : x ≡ H.generator number

-- a homomorphism structure of a linear category: coefficients are linear and fix a morphism up to congruence, each row of residues is the
-- coefficients of one, and each object is a finite sum of generators
pub record IsHom {Obj Mor : Type 0} (C : CategoryData Obj Mor) (H : HomData Obj Mor) : Type 0 where
  pub nu_row : {a b : Obj} {f : Mor} → Arrow C a b f → AreResidues C.prime (H.dim a b) (H.nu f)
  pub back_arrow : {a b : Obj} {row : List ℕ} → C.is_object a → C.is_object b → AreResidues C.prime (H.dim a b) row → Arrow C a b (H.back a b row)
  pub nu_back : {a b : Obj} {row : List ℕ} → C.is_object a → C.is_object b → AreResidues C.prime (H.dim a b) row → H.nu (H.back a b row) ≡ row
  pub nu_same : {a b : Obj} {f g : Mor} → Same C a b f g → H.nu f ≡ H.nu g
  pub same_nu : {a b : Obj} {f g : Mor} → Arrow C a b f → Arrow C a b g → H.nu f ≡ H.nu g → C.congruent f g
  pub nu_add : {a b : Obj} {f g : Mor} → Arrow C a b f → Arrow C a b g → H.nu (C.add f g) ≡ row_sum C.prime (H.dim a b) (H.nu f) (H.nu g)
  pub nu_scale : {a b : Obj} {f : Mor} (n : ℕ) → Arrow C a b f → H.nu (C.scale n f) ≡ row_scaled C.prime (H.dim a b) n (H.nu f)
  pub generator_object : (n : ℕ) → n < H.generators → C.is_object (H.generator n)
  pub generated : (a : Obj) → C.is_object a → IsSumOf C (IsGenerator H) a

-- F sends morphisms from a to b to morphisms from x to y, and is linear up to congruence
pub record IsLinearOn {Obj Mor : Type 0} (C : CategoryData Obj Mor) (a b x y : Obj) (F : Mor → Mor) : Type 0 where
  pub arrow : {g : Mor} → Arrow C a b g → Arrow C x y (F g)
  pub same : {g h : Mor} → Same C a b g h → Same C x y (F g) (F h)
  pub add : {g h : Mor} → Arrow C a b g → Arrow C a b h → Same C x y (F (C.add g h)) (C.add (F g) (F h))
  pub scale : {g : Mor} (n : ℕ) → Arrow C a b g → Same C x y (F (C.scale n g)) (C.scale n (F g))

-- the morphism of the k-th coefficient alone
abbrev pub basis_of : {Obj Mor : Type 0} → HomData Obj Mor → Obj → Obj → ℕ → Mor
basis_of H a b k = H.back a b (unit_row (H.dim a b) k)

-- the matrix of l: x→a and r: b→y, which sends the coefficients of g: a→b to those of l·g·r: row k has those of l·e·r for the morphism e of coefficient k
abbrev pub hom_matrix : {Obj Mor : Type 0} → CategoryData Obj Mor → HomData Obj Mor → Mor → Mor → Grid
hom_matrix C H l r =
    let a = C.target l in
    let b = C.source r in
    matrix_by C.prime (H.dim a b) (H.dim (C.source l) (C.target r)) (λ k c. slice_index (H.nu (C.compose (C.compose l (basis_of H a b k)) r)) c)

-- the same structure with all arrows turned round
abbrev pub opposite_hom : {Obj Mor : Type 0} → HomData Obj Mor → HomData Obj Mor
opposite_hom H = record {
  dim = λ a b. H.dim b a;
  nu = H.nu;
  back = λ a b row. H.back b a row;
  generators = H.generators;
  generator = H.generator;
}

-- nu(l·g·r) = nu(g)·h(l, r)
pub record TwoSidedProducts {Obj Mor : Type 0} (C : CategoryData Obj Mor) (H : HomData Obj Mor) : Type 0 where
  pub law : {x a b y : Obj} {l g r : Mor} → Arrow C x a l → Arrow C a b g → Arrow C b y r → H.nu (C.compose (C.compose l g) r) ≡ row_times (H.nu g) (hom_matrix C H l r)

-- the morphism of a row is linear in it, and each morphism is that of its own row
pub record BackIsLinear {Obj Mor : Type 0} (C : CategoryData Obj Mor) (H : HomData Obj Mor) : Type 0 where
  pub own : {a b : Obj} {f : Mor} → Arrow C a b f → Same C a b (H.back a b (H.nu f)) f
  pub add : {a b : Obj} {x y : List ℕ} → C.is_object a → C.is_object b → AreResidues C.prime (H.dim a b) x → AreResidues C.prime (H.dim a b) y
      → Same C a b (H.back a b (row_sum C.prime (H.dim a b) x y)) (C.add (H.back a b x) (H.back a b y))
  pub scale : {a b : Obj} {x : List ℕ} (n : ℕ) → C.is_object a → C.is_object b → AreResidues C.prime (H.dim a b) x
      → Same C a b (H.back a b (row_scaled C.prime (H.dim a b) n x)) (C.scale n (H.back a b x))
