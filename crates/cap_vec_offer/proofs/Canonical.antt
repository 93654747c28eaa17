-- Each primitive's answer is the canonical one.
use Rattle.std.proofs.Common.{◌≡◌, ℕ, true, false, List, [], ◌∷◌, Option, Some, refl, sym, ap, ◌∙◌, subst}
use Rattle.std.specs.Prelude.{◌↔◌}
use Rattle.cap_field.specs.Residue.{is_tabled}
use Rattle.cap_matrix.specs.Grid.{Grid, IsMatrix, transposed_of}
use Rattle.cap_matrix.proofs.Transpose.{transposed-matrix}
use Rattle.cap_reduce.proofs.NullBasis.{matrix-ends}
use Rattle.cap_vec_laws.specs.Vec.{vec_data, stacked_difference}
use Rattle.cap_vec_laws.proofs.Members.{kernel_of-is, lift_of-rows}
use Rattle.cap_vec.specs.Members.{kernel_of, lift_of}
use Rattle.cap_ops.specs.Values.{Value, object, morphism, two, four, truth, scalar, none, Fits}
use Rattle.cap_ops.specs.Meaning.{Meets, a_truth}
use Rattle.cap_ops.specs.Arrows.{Between, ValueOver, over}
use Rattle.cap_ops.specs.Told.{IsDatum, AreData}
use Rattle.cap_data.specs.declared.data.ObjData.{ObjData}
use Rattle.cap_data.specs.declared.data.MorData.{MorData}
use Rattle.cap_data.specs.OfMatrices.{read_dimension, matrix_reading}
use Rattle.cap_data.proofs.Pullbacks.{difference_is}
use Rattle.cap_alike.specs.Along.{along, read_between, read_value, read_values}
use Rattle.cap_primitives.proofs.Offers.{answers-have}
use Rattle.cap_vec_offer.specs.Offer.{vec_primitives, vec_offer}
use Rattle.cap_vec_offer.specs.Canonical.{IsCanonical, identity, compose, zero, add, scale, congruent, zero_object, direct_sum, kernel, cokernel, lift, colift, pullback, pushout, AnswersAreCanonical}
use Rattle.cap_vec_offer.specs.Members.{of-number}

-- one morphism, or two with their targets, or their sources, in common
abbrev IsOne : List (Value ℕ Grid) → Grid → Type 0
IsOne args f = args ≡ morphism f ∷ []

abbrev AreTwo : List (Value ℕ Grid) → Grid → Grid → Type 0
AreTwo args f g = args ≡ morphism f ∷ morphism g ∷ []

-- what canonical answers need of arguments: matrices, which meet where the operation asks for it
record IsReady (p op : ℕ) (args : List (Value ℕ Grid)) : Type 0 where
  one : (f : Grid) → IsOne args f → IsMatrix p f
  two : (f g : Grid) → AreTwo args f g → IsMatrix p f × IsMatrix p g
  lift : op ≡ 22 → (f g : Grid) → AreTwo args f g → f.column_count ≡ g.column_count
  colift : op ≡ 23 → (f g : Grid) → AreTwo args f g → f.row_count ≡ g.row_count
  pullback : op ≡ 34 → (f g : Grid) → AreTwo args f g → f.column_count ≡ g.column_count
  pushout : op ≡ 35 → (f g : Grid) → AreTwo args f g → f.row_count ≡ g.row_count

-- data of matrices, read
module _ (p : ℕ) where
  abbrev Read : ValueOver ObjData MorData → Value ℕ Grid
  Read v = read_value (vec_data p) matrix_reading v

  abbrev Data : ValueOver ObjData MorData → Type 0
  Data v = IsDatum (along (vec_data p) matrix_reading) v

  datum-matrix : (v : ValueOver ObjData MorData) (g : Grid) → Data v → Read v ≡ morphism g → IsMatrix p g
  datum-matrix (morphism f) g h e = let s : read_between (vec_data p) matrix_reading f ≡ g = cc in subst (λ m. IsMatrix p m) s h.is.is.is
  datum-matrix (object a) g h e = absurd (cc)
  datum-matrix (two f f') g h e = absurd (cc)
  datum-matrix (four f f' f'' f''') g h e = absurd (cc)
  datum-matrix (truth b) g h e = absurd (cc)
  datum-matrix (scalar n) g h e = absurd (cc)
  datum-matrix none g h e = absurd (cc)

  -- two morphisms among data, with the facts that fitting gives of their ends
  module _ (P : (f g : Grid) → Type 0) where
    both : (v w : ValueOver ObjData MorData) (f g : Grid) → Read v ≡ morphism f → Read w ≡ morphism g
        → ((a b : Between ObjData MorData) → v ≡ morphism a → w ≡ morphism b → P (read_between (vec_data p) matrix_reading a) (read_between (vec_data p) matrix_reading b)) → P f g
    both (morphism a) (morphism b) f g d e h =
        let s : read_between (vec_data p) matrix_reading a ≡ f = cc in
        let r : read_between (vec_data p) matrix_reading b ≡ g = cc in
        subst (λ x. P x g) s (subst (λ y. P (read_between (vec_data p) matrix_reading a) y) r (h a b refl refl))
    both (object a) w f g d e h = absurd (cc)
    both (two a a') w f g d e h = absurd (cc)
    both (four a a' a'' a''') w f g d e h = absurd (cc)
    both (truth b) w f g d e h = absurd (cc)
    both (scalar n) w f g d e h = absurd (cc)
    both none w f g d e h = absurd (cc)
    both (morphism a) (object b) f g d e h = absurd (cc)
    both (morphism a) (two b b') f g d e h = absurd (cc)
    both (morphism a) (four b b' b'' b''') f g d e h = absurd (cc)
    both (morphism a) (truth b) f g d e h = absurd (cc)
    both (morphism a) (scalar n) f g d e h = absurd (cc)
    both (morphism a) none f g d e h = absurd (cc)

  -- lists of one and of two
  list-one : (args : List (ValueOver ObjData MorData)) (f : Grid) → AreData (along (vec_data p) matrix_reading) args → IsOne (read_values (vec_data p) matrix_reading args) f → IsMatrix p f
  list-one [] f h e = absurd (cc)
  list-one (v ∷ []) f h e = let s : Read v ≡ morphism f = cc in datum-matrix v f h.0 s
  list-one (v ∷ w ∷ vs) f h e = absurd (cc)

  list-two : (P : Grid → Grid → Type 0) (args : List (ValueOver ObjData MorData)) (f g : Grid) → AreTwo (read_values (vec_data p) matrix_reading args) f g
      → ((a b : Between ObjData MorData) → args ≡ morphism a ∷ morphism b ∷ [] → P (read_between (vec_data p) matrix_reading a) (read_between (vec_data p) matrix_reading b)) → P f g
  list-two P [] f g e h = absurd (cc)
  list-two P (v ∷ []) f g e h = absurd (cc)
  list-two P (v ∷ w ∷ []) f g e h =
      let s : Read v ≡ morphism f = cc in
      let r : Read w ≡ morphism g = cc in
      both P v w f g s r (λ a b d i. h a b (let k : v ∷ w ∷ [] ≡ morphism a ∷ morphism b ∷ [] = ap (λ x. x ∷ w ∷ []) d ∙ ap (λ y. morphism a ∷ y ∷ []) i in k))
  list-two P (v ∷ w ∷ x ∷ vs) f g e h = absurd (cc)

some-same : {X : Type 0} (w : Option X) (a b : X) → w ≡ Some a → w ≡ Some b → a ≡ b
some-same w a b h k = let s : Some a ≡ Some b = sym h ∙ k in cc

-- arguments that fit are ready
module _ (p : ℕ) where
  abbrev Reads : List (ValueOver ObjData MorData) → List (Value ℕ Grid)
  Reads args = read_values (vec_data p) matrix_reading args

  abbrev All : List (ValueOver ObjData MorData) → Type 0
  All args = AreData (along (vec_data p) matrix_reading) args

  -- two morphisms into one object, for an operation whose arguments are such
  joint-targets : (args : List (ValueOver ObjData MorData)) → All args → ((a b : Between ObjData MorData) → args ≡ morphism a ∷ morphism b ∷ [] → a.tgt ≡ b.tgt) → (f g : Grid) → AreTwo (Reads args) f g → f.column_count ≡ g.column_count
  joint-targets args h k f g e = list-two p (λ x y. x.column_count ≡ y.column_count) args f g e (λ a b d.
      let D : All (morphism a ∷ morphism b ∷ []) = subst All d h in
      D.0.is.is.to ∙ (ap read_dimension (k a b d) ∙ sym D.1.0.is.is.to))

  joint-sources : (args : List (ValueOver ObjData MorData)) → All args → ((a b : Between ObjData MorData) → args ≡ morphism a ∷ morphism b ∷ [] → a.src ≡ b.src) → (f g : Grid) → AreTwo (Reads args) f g → f.row_count ≡ g.row_count
  joint-sources args h k f g e = list-two p (λ x y. x.row_count ≡ y.row_count) args f g e (λ a b d.
      let D : All (morphism a ∷ morphism b ∷ []) = subst All d h in
      D.0.is.is.from ∙ (ap read_dimension (k a b d) ∙ sym D.1.0.is.is.from))

  matrices : (args : List (ValueOver ObjData MorData)) → All args → (f g : Grid) → AreTwo (Reads args) f g → IsMatrix p f × IsMatrix p g
  matrices args h f g e = list-two p (λ x y. IsMatrix p x × IsMatrix p y) args f g e (λ a b d. let D : All (morphism a ∷ morphism b ∷ []) = subst All d h in (D.0.is.is.is, D.1.0.is.is.is))

  -- fitting arguments at two morphisms
  refit : (op : ℕ) (args : List (ValueOver ObjData MorData)) (a b : Between ObjData MorData) → Fits (over p) op args → args ≡ morphism a ∷ morphism b ∷ [] → Fits (over p) op (morphism a ∷ morphism b ∷ [])
  refit op args a b F d = subst (Fits (over p) op) d F

  ready : (op : ℕ) (args : List (ValueOver ObjData MorData)) → Fits (over p) op args → All args → IsReady p op (Reads args)
  ready op args F h = record {
    one = λ f e. list-one p args f h e;
    two = λ f g e. matrices args h f g e;
    lift = λ n. joint-targets args h (λ a b d. let G : Fits (over p) 22 (morphism a ∷ morphism b ∷ []) = subst (λ k. Fits (over p) k (morphism a ∷ morphism b ∷ [])) n (refit op args a b F d) in some-same (G.objects 1) a.tgt b.tgt G.arguments.0.1 G.arguments.1.0.1);
    colift = λ n. joint-sources args h (λ a b d. let G : Fits (over p) 23 (morphism a ∷ morphism b ∷ []) = subst (λ k. Fits (over p) k (morphism a ∷ morphism b ∷ [])) n (refit op args a b F d) in some-same (G.objects 0) a.src b.src G.arguments.0.0 G.arguments.1.0.0);
    pullback = λ n. joint-targets args h (λ a b d. let G : Fits (over p) 34 (morphism a ∷ morphism b ∷ []) = subst (λ k. Fits (over p) k (morphism a ∷ morphism b ∷ [])) n (refit op args a b F d) in some-same (G.objects 1) a.tgt b.tgt G.arguments.0.1 G.arguments.1.0.1);
    pushout = λ n. joint-sources args h (λ a b d. let G : Fits (over p) 35 (morphism a ∷ morphism b ∷ []) = subst (λ k. Fits (over p) k (morphism a ∷ morphism b ∷ [])) n (refit op args a b F d) in some-same (G.objects 0) a.src b.src G.arguments.0.0 G.arguments.1.0.0);
  }

-- each primitive
module _ (p : ℕ) (t : is_tabled p ≡ true) where
  abbrev Right : ℕ → List (Value ℕ Grid) → Value ℕ Grid → Type 0
  Right op args v = IsReady p op args → IsCanonical p op args v

  at : (op : ℕ) (args brgs : List (Value ℕ Grid)) (v w : Value ℕ Grid) → args ≡ brgs → v ≡ w → IsCanonical p op brgs w → IsCanonical p op args v
  at op args brgs v w e d h = subst (λ l. IsCanonical p op l v) (sym e) (subst (λ u. IsCanonical p op brgs u) (sym d) h)

  told : (f g : Grid) (v : Value ℕ Grid) → Meets (a_truth (f ≡ g)) v → IsCanonical p 8 (morphism f ∷ morphism g ∷ []) v
  told f g (truth true) h = congruent f g true (λ _. h, λ _. refl)
  told f g (truth false) h = congruent f g false (λ e. absurd (cc), λ e. absurd (h e))
  told f g (object a) h = absurd h
  told f g (morphism k) h = absurd h
  told f g (two k l) h = absurd h
  told f g (four k l m n) h = absurd h
  told f g (scalar n) h = absurd h
  told f g none h = absurd h

  turned : (f : Grid) → IsMatrix p f → IsMatrix p (transposed_of f)
  turned f F = (transposed-matrix (matrix-ends F)).is

  pub canonical-in : (op : ℕ) (args : List (ValueOver ObjData MorData)) (v : ValueOver ObjData MorData) → Fits (over p) op args
      → (vec_offer p t).answer op args v → IsCanonical p op (Reads p args) (Read p v)
  canonical-in op args v F x = answers-have Right (vec_primitives p t) (
    (λ a v x r. at 1 a _ v _ x.1 x.2 (identity x.0)),
    (
      (λ a v x r. at 2 a _ v _ x.2 x.3 (compose x.0 x.1)),
      (
        (λ a v x r. at 3 a _ v _ x.2 x.3 (zero x.0 x.1)),
        (
          (λ a v x r. at 4 a _ v _ x.2 x.3 (add x.0 x.1)),
          (
            (λ a v x r. at 7 a _ v _ x.2 x.3 (scale x.0 x.1)),
            (
              (λ a v x r. at 8 a _ v v x.2 refl (told x.0 x.1 v x.3)),
              (
                (λ a v x r. at 10 a _ v _ x.0 x.1 zero_object),
                (
                  (λ a v x r. at 11 a _ v _ x.2 x.3 (direct_sum x.0 x.1)),
                  (
                    (λ a v x r. at 16 a _ v _ x.1 x.2 (kernel x.0 (kernel_of p t x.0) (kernel_of-is p t x.0 (r.one x.0 x.1)))),
                    (
                      (λ a v x r. at 18 a _ v _ x.1 x.2 (cokernel x.0 (kernel_of p t (transposed_of x.0)) (kernel_of-is p t (transposed_of x.0) (turned x.0 (r.one x.0 x.1))))),
                      (
                        (λ a v x r. at 22 a _ v _ x.2 x.3 (lift x.0 x.1 (lift_of p t x.0 x.1) (lift_of-rows p t x.0 x.1 (r.two x.0 x.1 x.2).0 (r.two x.0 x.1 x.2).1 (r.lift refl x.0 x.1 x.2)))),
                        (
                          (λ a v x r. at 23 a _ v _ x.2 x.3 (colift x.0 x.1 (lift_of p t (transposed_of x.1) (transposed_of x.0)) (lift_of-rows p t (transposed_of x.1) (transposed_of x.0) (turned x.1 (r.two x.0 x.1 x.2).1) (turned x.0 (r.two x.0 x.1 x.2).0) (sym (r.colift refl x.0 x.1 x.2))))),
                          (
                            (λ a v x r. at 34 a _ v _ x.2 x.3 (pullback x.0 x.1 (kernel_of p t (stacked_difference x.0 x.1)) (kernel_of-is p t (stacked_difference x.0 x.1) (difference_is p t x.0 x.1 (r.two x.0 x.1 x.2).0 (r.two x.0 x.1 x.2).1 (r.pullback refl x.0 x.1 x.2)).is))),
                            (
                              (λ a v x r. let f' = transposed_of x.0 in
                                  let g' = transposed_of x.1 in
                                  at 35 a _ v _ x.2 x.3 (pushout x.0 x.1 (kernel_of p t (stacked_difference f' g')) (kernel_of-is p t (stacked_difference f' g') (difference_is p t f' g' (turned x.0 (r.two x.0 x.1 x.2).0) (turned x.1 (r.two x.0 x.1 x.2).1) (r.pushout refl x.0 x.1 x.2)).is))),
                              tt,
                            ),
                          ),
                        ),
                      ),
                    ),
                  ),
                ),
              ),
            ),
          ),
        ),
      ),
    ),
  )
      op (Reads p args) (Read p v) x.answers (ready p op args F x.arguments)

pub canonical : AnswersAreCanonical
canonical = λ p t op args v F x. canonical-in p t op args v F (of-number (λ D. D.answer op args v) p t x)
