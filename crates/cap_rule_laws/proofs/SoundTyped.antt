-- The soundness of a body, unrolled: what is left to show is a statement on morphisms alone, which computes from the body.
use Rattle.std.proofs.Common.{◌≡◌, ℕ, ◌-◌, Bool, true, false, List, [], ◌∷◌, ◌++◌, sym, subst, ap}
use Rattle.std.specs.Prelude.{MatchBool}
use Rattle.cap_laws.specs.Linear.{CategoryData}
use Rattle.cap_ops.specs.Values.{Value, object, morphism, two, four, truth, scalar, none}
use Rattle.cap_ops.specs.Meaning.{Claim, a_morphism, two_morphisms, four_morphisms, a_truth, or_none, two_where, Meets, Line, takes_object, takes_morphism, takes_scalar, answers, MeansBy, lines, line_at, setting_of}
use Rattle.cap_terms.specs.Run.{Outcome, done, large, at, all_at, has_none, source_of, target_of, part_of, exists_of, both_of, when_of, tuple_of, After, StepsGive}
use Rattle.cap_terms.specs.declared.body.Var.{Var}
use Rattle.cap_terms.specs.declared.body.Step.{Step}
use Rattle.cap_terms.specs.declared.body.Step.TheVariants.{Call, Src, Tgt, Part, MinusOne, Exists, Both, When, Tuple}
use Rattle.cap_terms.specs.declared.body.Body.{Body}
use Rattle.cap_rule_laws.specs.Soundness.{Means, Computes}

module _ {Obj Mor : Type 0} where
  -- what follows from each answer that meets the claim
  abbrev pub Each : Claim Mor → (Value Obj Mor → Type 0) → Type 0
  Each (a_morphism P) K = (m : Mor) → P m → K (morphism m)
  Each (two_morphisms P) K = (p q : Mor) → P p q → K (two p q)
  Each (four_morphisms P) K = (p q r s : Mor) → P p q r s → K (four p q r s)
  Each (a_truth P) K = (P → K (truth true)) × ((P → ⊥) → K (truth false))
  Each (or_none P) K = ((m : Mor) → P m → K (morphism m)) × (((m : Mor) → P m → ⊥) → K none)
  Each (two_where P Q) K = ((p q : Mor) → P p q → K (two p q)) × ((Q → ⊥) → K none)

  pub each-gives : (c : Claim Mor) (K : Value Obj Mor → Type 0) → Each c K → (v : Value Obj Mor) → Meets c v → K v
  each-gives (a_morphism P) K k (morphism m) h = k m h
  each-gives (a_morphism P) K k _ h = absurd h
  each-gives (two_morphisms P) K k (two p q) h = k p q h
  each-gives (two_morphisms P) K k _ h = absurd h
  each-gives (four_morphisms P) K k (four p q r s) h = k p q r s h
  each-gives (four_morphisms P) K k _ h = absurd h
  each-gives (a_truth P) K k (truth true) h = k.0 h
  each-gives (a_truth P) K k (truth false) h = k.1 h
  each-gives (a_truth P) K k _ h = absurd h
  each-gives (or_none P) K k (morphism m) h = k.0 m h
  each-gives (or_none P) K k none h = k.1 h
  each-gives (or_none P) K k _ h = absurd h
  each-gives (two_where P Q) K k (two p q) h = k.0 p q h
  each-gives (two_where P Q) K k none h = k.1 h
  each-gives (two_where P Q) K k _ h = absurd h

  -- the arguments fit, with the ends that are to be given, and what follows from each right answer
  abbrev pub CallOn : Line Obj Mor → List (Value Obj Mor) → (Value Obj Mor → Type 0) → Type 0
  CallOn (takes_object l) (object a ∷ args) K = CallOn (l a) args K
  CallOn (takes_morphism l) (morphism f ∷ args) K = CallOn (l f) args K
  CallOn (takes_scalar l) (scalar n ∷ args) K = CallOn (l n) args K
  CallOn (answers E claim) [] K = (e : E) × Each (claim e) K
  CallOn _ _ K = ⊥

  call-gives : (l : Line Obj Mor) (args : List (Value Obj Mor)) (K : Value Obj Mor → Type 0) → CallOn l args K → (v : Value Obj Mor) → MeansBy l args v → K v
  call-gives (takes_object l) (object a ∷ args) K k v h = call-gives (l a) args K k v h
  call-gives (takes_object l) [] K k v h = absurd k
  call-gives (takes_object l) (_ ∷ args) K k v h = absurd k
  call-gives (takes_morphism l) (morphism f ∷ args) K k v h = call-gives (l f) args K k v h
  call-gives (takes_morphism l) [] K k v h = absurd k
  call-gives (takes_morphism l) (_ ∷ args) K k v h = absurd k
  call-gives (takes_scalar l) (scalar n ∷ args) K k v h = call-gives (l n) args K k v h
  call-gives (takes_scalar l) [] K k v h = absurd k
  call-gives (takes_scalar l) (_ ∷ args) K k v h = absurd k
  call-gives (answers E claim) [] K k v h = each-gives (claim k.0) K k.1 v (h k.0)
  call-gives (answers E claim) (_ ∷ args) K k v h = absurd k

  abbrev pub EachCall : Bool → Line Obj Mor → List (Value Obj Mor) → (Value Obj Mor → Type 0) → Type 0
  EachCall true l args K = K none
  EachCall false l args K = CallOn l args K

  -- what is left to show of the steps, for K of the answer
  abbrev pub Typed : CategoryData Obj Mor → List Step → List (Value Obj Mor) → Var → (Value Obj Mor → Type 0) → Type 0
  Typed C [] vs x K = K (at vs x)
  Typed C (Call op xs ∷ ss) vs x K = EachCall (has_none (all_at vs xs)) (line_at (lines C) op.0) (all_at vs xs) (λ w. Typed C ss (vs ++ w ∷ []) x K)
  Typed C (Src y ∷ ss) vs x K = Typed C ss (vs ++ source_of (setting_of C) (at vs y) ∷ []) x K
  Typed C (Tgt y ∷ ss) vs x K = Typed C ss (vs ++ target_of (setting_of C) (at vs y) ∷ []) x K
  Typed C (Part y n ∷ ss) vs x K = Typed C ss (vs ++ part_of (at vs y) n ∷ []) x K
  Typed C (MinusOne ∷ ss) vs x K = Typed C ss (vs ++ scalar (C.prime - 1) ∷ []) x K
  Typed C (Exists y ∷ ss) vs x K = Typed C ss (vs ++ exists_of (at vs y) ∷ []) x K
  Typed C (Both y z ∷ ss) vs x K = Typed C ss (vs ++ both_of (at vs y) (at vs z) ∷ []) x K
  Typed C (When y z ∷ ss) vs x K = Typed C ss (vs ++ when_of (at vs y) (at vs z) ∷ []) x K
  Typed C (Tuple ys ∷ ss) vs x K = Typed C ss (vs ++ tuple_of (all_at vs ys) ∷ []) x K

  abbrev value-in : Value Obj Mor → Outcome Obj Mor → Value Obj Mor
  value-in d (done v) = v
  value-in d (large r c) = d

  done-injective : {v w : Value Obj Mor} → done v ≡ done w → v ≡ w
  done-injective {v} {w} e = ap (value-in v) e

  -- what the steps after a step that calls nothing give, and after a call
  plain-step : (G : Value Obj Mor → Type 0) (v w : Value Obj Mor) (o : Outcome Obj Mor) → o ≡ done w → After o (done v) G → G w
  plain-step G v w o e h = subst (λ x. After x (done v) G) e h

  means-step : (C : CategoryData Obj Mor) (G : Value Obj Mor → Type 0) (v : Value Obj Mor) (op : ℕ) (args : List (Value Obj Mor)) (o : Outcome Obj Mor) → Means C op args o → After o (done v) G → (w : Value Obj Mor) × MeansBy (line_at (lines C) op) args w × G w
  means-step C G v op args (done w) m h = (w, m, h)
  means-step C G v op args (large r c) m h = absurd m

  call-step : (C : CategoryData Obj Mor) (b : Bool) (T G : Value Obj Mor → Type 0) (v : Value Obj Mor) (op : ℕ) (args : List (Value Obj Mor)) → EachCall b (line_at (lines C) op) args T → (o : Outcome Obj Mor) → MatchBool b (o ≡ done none) (Means C op args o) → After o (done v) G → (w : Value Obj Mor) × T w × G w
  call-step C true T G v op args t o h g = (none, t, plain-step G v none o h g)
  call-step C false T G v op args t o h g =
      let s = means-step C G v op args o h g in
      (s.0, call-gives (line_at (lines C) op) args T t s.0 s.1, s.2)

  -- what is left to show gives what is to be shown of each answer of the steps
  steps-give : (C : CategoryData Obj Mor) (ss : List Step) (vs : List (Value Obj Mor)) (x : Var) (K : Value Obj Mor → Type 0) → Typed C ss vs x K → (v : Value Obj Mor) → StepsGive (setting_of C) (Means C) ss vs x (done v) → K v
  steps-give C [] vs x K t v r = subst K (sym (done-injective r)) t
  steps-give C (Call op xs ∷ ss) vs x K t v r =
      let s = call-step C (has_none (all_at vs xs)) (λ w. Typed C ss (vs ++ w ∷ []) x K) (λ w. StepsGive (setting_of C) (Means C) ss (vs ++ w ∷ []) x (done v)) v op.0 (all_at vs xs) t r.0 r.1 r.2 in
      steps-give C ss (vs ++ s.0 ∷ []) x K s.1 v s.2
  steps-give C (Src y ∷ ss) vs x K t v r = steps-give C ss (vs ++ source_of (setting_of C) (at vs y) ∷ []) x K t v (plain-step (λ w. StepsGive (setting_of C) (Means C) ss (vs ++ w ∷ []) x (done v)) v (source_of (setting_of C) (at vs y)) r.0 r.1 r.2)
  steps-give C (Tgt y ∷ ss) vs x K t v r = steps-give C ss (vs ++ target_of (setting_of C) (at vs y) ∷ []) x K t v (plain-step (λ w. StepsGive (setting_of C) (Means C) ss (vs ++ w ∷ []) x (done v)) v (target_of (setting_of C) (at vs y)) r.0 r.1 r.2)
  steps-give C (Part y n ∷ ss) vs x K t v r = steps-give C ss (vs ++ part_of (at vs y) n ∷ []) x K t v (plain-step (λ w. StepsGive (setting_of C) (Means C) ss (vs ++ w ∷ []) x (done v)) v (part_of (at vs y) n) r.0 r.1 r.2)
  steps-give C (MinusOne ∷ ss) vs x K t v r = steps-give C ss (vs ++ scalar (C.prime - 1) ∷ []) x K t v (plain-step (λ w. StepsGive (setting_of C) (Means C) ss (vs ++ w ∷ []) x (done v)) v (scalar (C.prime - 1)) r.0 r.1 r.2)
  steps-give C (Exists y ∷ ss) vs x K t v r = steps-give C ss (vs ++ exists_of (at vs y) ∷ []) x K t v (plain-step (λ w. StepsGive (setting_of C) (Means C) ss (vs ++ w ∷ []) x (done v)) v (exists_of (at vs y)) r.0 r.1 r.2)
  steps-give C (Both y z ∷ ss) vs x K t v r = steps-give C ss (vs ++ both_of (at vs y) (at vs z) ∷ []) x K t v (plain-step (λ w. StepsGive (setting_of C) (Means C) ss (vs ++ w ∷ []) x (done v)) v (both_of (at vs y) (at vs z)) r.0 r.1 r.2)
  steps-give C (When y z ∷ ss) vs x K t v r = steps-give C ss (vs ++ when_of (at vs y) (at vs z) ∷ []) x K t v (plain-step (λ w. StepsGive (setting_of C) (Means C) ss (vs ++ w ∷ []) x (done v)) v (when_of (at vs y) (at vs z)) r.0 r.1 r.2)
  steps-give C (Tuple ys ∷ ss) vs x K t v r = steps-give C ss (vs ++ tuple_of (all_at vs ys) ∷ []) x K t v (plain-step (λ w. StepsGive (setting_of C) (Means C) ss (vs ++ w ∷ []) x (done v)) v (tuple_of (all_at vs ys)) r.0 r.1 r.2)

  -- the arguments that fit a line, their ends, and what is then to be shown of them
  abbrev pub OnArguments : Line Obj Mor → (List (Value Obj Mor) → (Value Obj Mor → Type 0) → Type 0) → Type 0
  OnArguments (takes_object l) T = (a : Obj) → OnArguments (l a) (λ args K. T (object a ∷ args) K)
  OnArguments (takes_morphism l) T = (f : Mor) → OnArguments (l f) (λ args K. T (morphism f ∷ args) K)
  OnArguments (takes_scalar l) T = (n : ℕ) → OnArguments (l n) (λ args K. T (scalar n ∷ args) K)
  OnArguments (answers E claim) T = (e : E) → T [] (λ v. Meets (claim e) v)

  arguments-give : (l : Line Obj Mor) (T : List (Value Obj Mor) → (Value Obj Mor → Type 0) → Type 0) → OnArguments l T → (args : List (Value Obj Mor)) (v : Value Obj Mor) → ((K : Value Obj Mor → Type 0) → T args K → K v) → MeansBy l args v
  arguments-give (takes_object l) T t (object a ∷ args) v g = arguments-give (l a) (λ args K. T (object a ∷ args) K) (t a) args v g
  arguments-give (takes_object l) T t [] v g = tt
  arguments-give (takes_object l) T t (_ ∷ args) v g = tt
  arguments-give (takes_morphism l) T t (morphism f ∷ args) v g = arguments-give (l f) (λ args K. T (morphism f ∷ args) K) (t f) args v g
  arguments-give (takes_morphism l) T t [] v g = tt
  arguments-give (takes_morphism l) T t (_ ∷ args) v g = tt
  arguments-give (takes_scalar l) T t (scalar n ∷ args) v g = arguments-give (l n) (λ args K. T (scalar n ∷ args) K) (t n) args v g
  arguments-give (takes_scalar l) T t [] v g = tt
  arguments-give (takes_scalar l) T t (_ ∷ args) v g = tt
  arguments-give (answers E claim) T t [] v g = λ e. g (λ w. Meets (claim e) w) (t e)
  arguments-give (answers E claim) T t (_ ∷ args) v g = tt

  -- what is left to show for the body to compute the operation
  abbrev pub Left-to-show : CategoryData Obj Mor → ℕ → Body → Type 0
  Left-to-show C op body = OnArguments (line_at (lines C) op) (λ args K. Typed C body.steps args body.answer K)

  pub computes-by : (C : CategoryData Obj Mor) (op : ℕ) (body : Body) → Left-to-show C op body → Computes C op body
  computes-by C op body t = record {
    sound = λ args v run. arguments-give (line_at (lines C) op) (λ args K. Typed C body.steps args body.answer K) t args v (λ K k. steps-give C body.steps args body.answer K k v run);
  }
