use Rattle.std.proofs.Common.{◌≡◌, ℕ, suc, ◌+◌, ◌*◌, ◌<◌, List, [], length, get_or, sym, ap, ◌∙◌, subst, arith}
use Rattle.std.proofs.lemmas.Nat.{mul-le}
use Rattle.cap_laws.specs.Table.{TableData}
use Rattle.cap_add_laws.specs.Closure.{MorphismMatrix, AreObjects, IsMorphismMatrix, widths_of}
use Rattle.cap_add_laws.proofs.Joined.{rows-from}
use Rattle.cap_add_laws.proofs.Structure.{widths-many, rows-matrix}
use Rattle.cap_addclosure.specs.Shapes.{HasWidths, IsFirstWrong, IsShapeFault}
use Rattle.cap_addclosure.proofs.category.AddCat.morphism.Goals as goal

-- entries of the right widths are a matrix
is-matrix : (T : TableData) (a b : List ℕ) (entries : List (List ℕ)) → AreObjects T a → AreObjects T b → length entries ≡ length a * length b → HasWidths T a b entries (length entries)
    → ((k c : ℕ) → k < length entries → c < length (get_or entries k []) → get_or (get_or entries k []) c 0 < T.prime) → IsMorphismMatrix T (record { from = a; to = b; entries = entries })
is-matrix T a b entries A B many wide small =
    (rows-matrix A B (rows-from T.prime (widths_of T a b) entries (many ∙ sym (widths-many T a b))
    (λ k lt.
    let below : k < length entries = omega (arith, lt, many, widths-many T a b) in
    record { long = wide k below; residues = λ c h. small k c below (omega (arith, h, wide k below)) }))).is

-- the same facts of equal lists
fault-at : (T : TableData) (a b x y : List ℕ) (entries held : List (List ℕ)) (k : ℕ) → x ≡ a → y ≡ b → held ≡ entries → length held ≡ length x * length y → IsFirstWrong T x y held k → IsShapeFault T a b entries (k + 1)
fault-at T a b x y entries held k ex ey e many h =
    subst (λ (z : List ℕ). IsShapeFault T z b entries (k + 1)) ex (subst (λ (z : List ℕ). IsShapeFault T x z entries (k + 1)) ey (subst (λ (z : List (List ℕ)). IsShapeFault T x y z (k + 1)) e
    (subst (λ n. IsShapeFault T x y held n) (let d : suc k ≡ k + 1 = omega arith in d) (many, h))))

widths-at : (T : TableData) (a b x y : List ℕ) (entries held : List (List ℕ)) → x ≡ a → y ≡ b → held ≡ entries → HasWidths T x y held (length held) → HasWidths T a b entries (length entries)
widths-at T a b x y entries held ex ey e h =
    subst (λ (z : List ℕ). HasWidths T z b entries (length entries)) ex (subst (λ (z : List ℕ). HasWidths T x z entries (length entries)) ey (subst (λ (z : List (List ℕ)). HasWidths T x y z (length z)) e h))

many-at : (a b x y : List ℕ) (entries held : List (List ℕ)) → x ≡ a → y ≡ b → held ≡ entries → length held ≡ length x * length y → length entries ≡ length a * length b
many-at a b x y entries held ex ey e many = ap (λ (z : List (List ℕ)). length z) (sym e) ∙ many ∙ ap (λ (z : List ℕ). length z * length y) ex ∙ ap (λ (z : List ℕ). length a * length z) ey

pub first_wrong-requires : goal.first_wrong-requires
first_wrong-requires g c =
    let T = g.T.Table.table c.args.self.now.table in
    record {
      from = subst (λ (z : List ℕ). AreObjects T z) (sym c.parts-xs.ensures.value) c.requires.from;
      to = subst (λ (z : List ℕ). AreObjects T z) (sym c.parts-ys.ensures.value) c.requires.to;
      short = omega (arith, c.parts-xs.ensures.few, ap (λ (z : List ℕ). length z) c.parts-xs.ensures.value);
      narrow = omega (arith, c.parts-ys.ensures.few, ap (λ (z : List ℕ). length z) c.parts-ys.ensures.value);
      many = c.deref.ensures.len ∙ sym c.len.ensures ∙ c.if-len-xs.false;
    }

pub overflow_add-result : goal.overflow_add-result
overflow_add-result g c =
    let many = c.deref.ensures.len ∙ sym c.len.ensures ∙ c.if-len-xs.false in
    let ex = ap (λ (z : List ℕ). length z) c.parts-xs.ensures.value in
    let ey = ap (λ (z : List ℕ). length z) c.parts-ys.ensures.value in
    let area = mul-le (length c.parts-xs.result.now) (length c.parts-ys.result.now) 2048 2048 (omega (arith, c.parts-xs.ensures.few, ex)) (omega (arith, c.parts-ys.ensures.few, ey)) in
    let inside = c.in-Some.ensures.inside in
    omega (arith, many, area, inside)

pub new-requires : goal.new-requires
new-requires g c = record {
  many = many-at c.args.a c.args.b c.parts-xs.result.now c.parts-ys.result.now c.args.entries.items c.deref.result.now c.parts-xs.ensures.value c.parts-ys.ensures.value c.deref.ensures.value
      (c.deref.ensures.len ∙ sym c.len.ensures ∙ c.if-len-xs.false);
  few = c.requires.few;
}

pub returns-in-Some : goal.returns-in-Some
returns-in-Some g c =
    let T = g.T.Table.table c.args.self.now.table in
    record {
      value = tt;
      matrix = tt;
      fault = fault-at T c.args.a c.args.b c.parts-xs.result.now c.parts-ys.result.now c.args.entries.items c.deref.result.now c.in-Some.k c.parts-xs.ensures.value c.parts-ys.ensures.value c.deref.ensures.value
          (c.deref.ensures.len ∙ sym c.len.ensures ∙ c.if-len-xs.false) c.in-Some.ensures;
    }

pub returns : goal.returns
returns g c =
    let T = g.T.Table.table c.args.self.now.table in
    let a = c.args.a in
    let b = c.args.b in
    let es = c.args.entries.items in
    let xs = c.parts-xs.result.now in
    let ys = c.parts-ys.result.now in
    let held = c.deref.result.now in
    let ex = c.parts-xs.ensures.value in
    let ey = c.parts-ys.ensures.value in
    let many = many-at a b xs ys es held ex ey c.deref.ensures.value (c.deref.ensures.len ∙ sym c.len.ensures ∙ c.if-len-xs.false) in
    let wide = widths-at T a b xs ys es held ex ey c.deref.ensures.value c.in_default.ensures in
    record {
      value = c.new.ensures;
      matrix = subst (λ (f : MorphismMatrix). IsMorphismMatrix T f) (sym c.new.ensures) (is-matrix T a b es c.requires.from c.requires.to many wide c.requires.residues);
      fault = tt;
    }
