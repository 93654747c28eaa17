-- The reply to an event is determined by the history before it, where a name has one handle and a key one value there.
use Rattle.std.proofs.Common.{◌≡◌, ◌⊎◌, ℕ, true, false, List, [], ◌∷◌, ◌++◌, Option, Some, None, refl, sym, ap, subst, ◌∙◌, inl, inr}
use Rattle.std.specs.Prelude.{IsSome, map}
use Rattle.std.specs.List.{All, Contains}
use Rattle.std.proofs.lemmas.List.Elements.{All-head, All-tail, Contains-append_cases, Contains-push_cases}
use Rattle.cap_names.specs.declared.identifiers.Handle.{Handle}
use Rattle.cap_names.specs.declared.identifiers.OpId.{OpId}
use Rattle.cap_ops.specs.declared.keys.Key.{Key}
use Rattle.cap_ops.specs.declared.keys.PrimOut.{PrimOut}
use Rattle.cap_ops.specs.declared.keys.Value.{Value as Answer}
use Rattle.cap_ops.specs.declared.plans.Plan.{Plan}
use Rattle.cap_ops.specs.Derivations.{means, choice}
use Rattle.cap_ops.specs.Mentions.{mentioned}
use Rattle.cap_ops.specs.Told.{told_in}
use Rattle.cap_ops.proofs.DerivationsPlans.{same_plan}
use Rattle.cap_ops.proofs.Places.{none≢some, some_inner}
use Rattle.cap_history.specs.declared.entries.Event.{Event}
use Rattle.cap_history.specs.declared.entries.Event.TheVariants.{Register, Finalise, Declare, Ask, Put, PlanOf}
use Rattle.cap_history.specs.declared.entries.Reply.{Reply}
use Rattle.cap_history.specs.declared.entries.Reply.TheVariants.{Done, Final, Object, Hit, Miss, Kept, Found, PlanIs, AlreadyFinal, NotFinal, NotOffered, Twice, NameTaken}
use Rattle.cap_history.specs.declared.entries.Entry.{Entry}
use Rattle.cap_history.specs.declared.entries.Told.{Told}
use Rattle.cap_history.specs.declared.reading.Finality.{Finality}
use Rattle.cap_history.specs.declared.reading.Naming.{Naming}
use Rattle.cap_history.specs.Reading.{weights, objects, naming, names, AreTold}
use Rattle.cap_history.specs.Replies.{Setup, IsOpen, IsFinal, IsNamed, IsKept, RegisterReplies, FinaliseReplies, DeclareReplies, AskReplies, PutReplies, PlanReplies, Replies}
use Rattle.cap_history.proofs.OneMore.{read-more}
use Rattle.cap_legal.proofs.Steps.{none-in}

isnt-some : {A : Type 0} (o : Option A) → o ≡ None → IsSome o → ⊥
isnt-some None e s = let g : false ≡ true = s in cc
isnt-some (Some x) e s = none≢some (sym e)

-- pairs with the same first parts, whose second parts are what one function tells of the first
pairs-one : {A B : Type 0} (look : A → Option B) (xs ys : List (A × B)) → map (λ x. x.0) xs ≡ map (λ y. y.0) ys → All (λ x. look x.0 ≡ Some x.1) xs → All (λ y. look y.0 ≡ Some y.1) ys → xs ≡ ys
pairs-one look [] [] e f g = refl
pairs-one look [] (y ∷ ys) e f g = absurd (cc)
pairs-one look (x ∷ xs) [] e f g = absurd (cc)
pairs-one {A} {B} look (x ∷ xs) (y ∷ ys) e f g =
    let first : x.0 ≡ y.0 = cc in
    let more : map (λ (z : A × B). z.0) xs ≡ map (λ (z : A × B). z.0) ys = cc in
    let P : A × B → Type 0 = λ z. look z.0 ≡ Some z.1 in
    let second : x.1 ≡ y.1 = some_inner (sym (All-head P x xs f) ∙ ap look first ∙ All-head P y ys g) in
    let rest = pairs-one look xs ys more (All-tail P x xs f) (All-tail P y ys g) in
    let same : x ≡ y = pair x.0 y.0 x.1 y.1 first second in
    rw (same, rest) refl
  where
    pair : (a b : A) (c d : B) → a ≡ b → c ≡ d → ◌≡◌ {A = A × B} (a, c) (b, d)
    pair a b c d p q = rw (p, q) refl

abbrev told_of : {O M : Type 0} → Answer M → List (Handle × O) → Told O M
told_of v os = record { value = v; objects = os }

-- the objects that come with a value are determined by it
pub told-one : {O M : Type 0} (all : List O) (t u : Told O M) → AreTold all t → AreTold all u → t.value ≡ u.value → t ≡ u
told-one {O} {M} all t u f g e =
    let handles : map (λ (x : Handle × O). x.0) t.objects ≡ map (λ (x : Handle × O). x.0) u.objects = f.handles ∙ ap mentioned e ∙ sym g.handles in
    let os = pairs-one (told_in all) t.objects u.objects handles f.objects g.objects in
    ap (λ v. told_of v t.objects) e ∙ ap (told_of u.value) os

abbrev named : List ℕ → Handle → Naming
named name h = record { name = name; handle = h }

module _ {O M : Type 0} where
  -- a name has one handle, and a key one value
  abbrev pub NamesAreOne : List (Entry O M) → Type 0
  NamesAreOne entries = (name : List ℕ) (h k : Handle) → IsNamed entries name h → IsNamed entries name k → h ≡ k

  abbrev pub KeysAreOne : List (Entry O M) → Type 0
  KeysAreOne entries = (key : Key M) (v w : Answer M) → IsKept entries key v → IsKept entries key w → v ≡ w

  module _ (s : Setup) (entries : List (Entry O M)) where
    final-one : (at b : ℕ) (p q : Plan) → IsFinal entries at p → IsFinal entries b q → (at ≡ b) × (p ≡ q)
    final-one at b p q f g =
        let e : ◌≡◌ {A = Finality} (record { at = at; plan = p }) (record { at = b; plan = q }) = some_inner (sym f.is ∙ g.is) in
        (ap (λ (x : Finality). x.at) e, ap (λ (x : Finality). x.plan) e)

    closed : {X : Type 0} (at : ℕ) (p : Plan) → IsOpen entries → IsFinal entries at p → X
    closed at p o f = absurd (none≢some (sym o ∙ f.is))

    register-one : (op : OpId) (r r' : Reply O M) → RegisterReplies s entries op r → RegisterReplies s entries op r' → r ≡ r'
    register-one op (AlreadyFinal at) (AlreadyFinal b) f g = ap AlreadyFinal (final-one at b f.0 g.0 f.1 g.1).0
    register-one op (AlreadyFinal at) NotOffered f g = closed at f.0 g.0 f.1
    register-one op (AlreadyFinal at) (Twice w) f g = closed at f.0 g.0 f.1
    register-one op (AlreadyFinal at) Done f g = closed at f.0 g.0 f.1
    register-one op NotOffered (AlreadyFinal b) f g = closed b g.0 f.0 g.1
    register-one op NotOffered NotOffered f g = refl
    register-one op NotOffered (Twice w) f g = absurd (isnt-some _ f.1 g.1)
    register-one op NotOffered Done f g = absurd (isnt-some _ f.1 g.1)
    register-one op (Twice v) (AlreadyFinal b) f g = closed b g.0 f.0 g.1
    register-one op (Twice v) NotOffered f g = absurd (isnt-some _ g.1 f.1)
    register-one op (Twice v) (Twice w) f g = ap Twice (some_inner (sym f.2 ∙ g.2))
    register-one op (Twice v) Done f g = absurd (none≢some (sym g.2 ∙ f.2))
    register-one op Done (AlreadyFinal b) f g = closed b g.0 f.0 g.1
    register-one op Done NotOffered f g = absurd (isnt-some _ g.1 f.1)
    register-one op Done (Twice w) f g = absurd (none≢some (sym f.2 ∙ g.2))
    register-one op Done Done f g = refl
    register-one op (AlreadyFinal at) _ f g = absurd g
    register-one op NotOffered _ f g = absurd g
    register-one op (Twice v) _ f g = absurd g
    register-one op Done _ f g = absurd g
    register-one op _ _ f g = absurd f

    finalise-one : (r r' : Reply O M) → FinaliseReplies s entries r → FinaliseReplies s entries r' → r ≡ r'
    finalise-one (AlreadyFinal at) (AlreadyFinal b) f g = ap AlreadyFinal (final-one at b f.0 g.0 f.1 g.1).0
    finalise-one (AlreadyFinal at) (Final q) f g = closed at f.0 g.0 f.1
    finalise-one (Final p) (AlreadyFinal b) f g = closed b g.0 f.0 g.1
    finalise-one (Final p) (Final q) f g = ap Final (same_plan (means (record { weights = weights entries }) s.costs s.kind) p q f.1 g.1)
    finalise-one (AlreadyFinal at) _ f g = absurd g
    finalise-one (Final p) _ f g = absurd g
    finalise-one _ _ f g = absurd f

    module _ (one_name : NamesAreOne entries) (one_key : KeysAreOne entries) where
      handle-one : (name : List ℕ) (x : O) (h k : Handle) → DeclareReplies s entries name x (Object h) → DeclareReplies s entries name x (Object k) → h ≡ k
      handle-one name x h k (inl f) (inl g) = one_name name h k f.0 g.0
      handle-one name x h k (inl f) (inr g) = absurd (g.0 h f.0)
      handle-one name x h k (inr f) (inl g) = absurd (f.0 k g.0)
      handle-one name x h k (inr f) (inr g) = handle h.0 k.0 (f.1 ∙ sym g.1)
        where
          handle : (i j : ℕ) → i ≡ j → ◌≡◌ {A = Handle} (record { 0 = i }) (record { 0 = j })
          handle i j e = rw e refl

      not-taken : (name : List ℕ) (x y : O) (h k : Handle) → DeclareReplies s entries name x (Object h) → DeclareReplies s entries name x (NameTaken k y) → ⊥
      not-taken name x y h k (inl f) g = g.2 (some_inner (sym g.1 ∙ ap (told_in (objects entries)) (one_name name k h g.0 f.0) ∙ f.1))
      not-taken name x y h k (inr f) g = f.0 k g.0

      taken-one : (name : List ℕ) (x y z : O) (h k : Handle) → DeclareReplies s entries name x (NameTaken h y) → DeclareReplies s entries name x (NameTaken k z) → ◌≡◌ {A = Reply O M} (NameTaken h y) (NameTaken k z)
      taken-one name x y z h k f g =
          let e = one_name name h k f.0 g.0 in
          let d : y ≡ z = some_inner (sym f.1 ∙ ap (told_in (objects entries)) e ∙ g.1) in
          rw (e, d) refl

      declare-one : (name : List ℕ) (x : O) (r r' : Reply O M) → DeclareReplies s entries name x r → DeclareReplies s entries name x r' → r ≡ r'
      declare-one name x (Object h) (Object k) f g = ap Object (handle-one name x h k f g)
      declare-one name x (Object h) (NameTaken k y) f g = absurd (not-taken name x y h k f g)
      declare-one name x (NameTaken h y) (Object k) f g = absurd (not-taken name x y k h g f)
      declare-one name x (NameTaken h y) (NameTaken k z) f g = taken-one name x y z h k f g
      declare-one name x (Object h) _ f g = absurd g
      declare-one name x (NameTaken h y) _ f g = absurd g
      declare-one name x _ _ f g = absurd f

      ask-one : (key : Key M) (r r' : Reply O M) → AskReplies s entries key r → AskReplies s entries key r' → r ≡ r'
      ask-one key NotFinal NotFinal f g = refl
      ask-one key NotFinal (Hit u) f g = closed g.0.0 g.0.1 f g.0.2
      ask-one key NotFinal (Miss d) f g = closed g.0.0 g.0.1 f g.0.2
      ask-one key (Hit t) NotFinal f g = closed f.0.0 f.0.1 g f.0.2
      ask-one key (Hit t) (Hit u) f g = ap Hit (told-one (objects entries) t u f.2 g.2 (one_key key t.value u.value f.1 g.1))
      ask-one key (Hit t) (Miss d) f g = absurd (g.1 t.value f.1)
      ask-one key (Miss c) NotFinal f g = closed f.0.0 f.0.1 g f.0.2
      ask-one key (Miss c) (Hit u) f g = absurd (f.1 u.value g.1)
      ask-one key (Miss c) (Miss d) f g = ap Miss (sym f.0.3 ∙ ap (λ p. choice p key.op.0) (final-one f.0.0 g.0.0 f.0.1 g.0.1 f.0.2 g.0.2).1 ∙ g.0.3)
      ask-one key NotFinal _ f g = absurd g
      ask-one key (Hit t) _ f g = absurd g
      ask-one key (Miss c) _ f g = absurd g
      ask-one key _ _ f g = absurd f

      put-one : (key : Key M) (out : PrimOut O M) (r r' : Reply O M) → PutReplies s entries key out r → PutReplies s entries key out r' → r ≡ r'
      put-one key out (Found t) (Found u) f g = ap Found (told-one (objects entries) t u f.1 g.1 (one_key key t.value u.value f.0 g.0))
      put-one key out (Found t) (Kept u) f g = absurd (g.0 t.value f.0)
      put-one key out (Kept t) (Found u) f g = absurd (f.0 u.value g.0)
      put-one key out (Kept t) (Kept u) f g = ap Kept (told-one (objects entries ++ out.fresh) t u f.2 g.2 (f.1 ∙ sym g.1))
      put-one key out (Found t) _ f g = absurd g
      put-one key out (Kept t) _ f g = absurd g
      put-one key out _ _ f g = absurd f

      plan-one : (r r' : Reply O M) → PlanReplies s entries r → PlanReplies s entries r' → r ≡ r'
      plan-one NotFinal NotFinal f g = refl
      plan-one NotFinal (PlanIs q) f g = closed g.0 q f g.1
      plan-one (PlanIs p) NotFinal f g = closed f.0 p g f.1
      plan-one (PlanIs p) (PlanIs q) f g = ap PlanIs (final-one f.0 g.0 p q f.1 g.1).1
      plan-one NotFinal _ f g = absurd g
      plan-one (PlanIs p) _ f g = absurd g
      plan-one _ _ f g = absurd f

      pub reply-one : (event : Event O M) (r r' : Reply O M) → Replies s entries event r → Replies s entries event r' → r ≡ r'
      reply-one (Register op weight) r r' f g = register-one op r r' f g
      reply-one Finalise r r' f g = finalise-one r r' f g
      reply-one (Declare name x) r r' f g = declare-one name x r r' f g
      reply-one (Ask key) r r' f g = ask-one key r r' f g
      reply-one (Put key out) r r' f g = put-one key out r r' f g
      reply-one PlanOf r r' f g = plan-one r r' f g

  -- names stay so in a history with one more reply
  names-now : (es : List (Entry O M)) (e : Entry O M) → names (es ++ e ∷ []) ≡ names es ++ naming e.event e.reply
  names-now es e = read-more (λ namings event reply. namings ++ naming event reply) [] es (e ∷ [])

  named-cases : (es : List (Entry O M)) (e : Entry O M) (name : List ℕ) (h : Handle) → IsNamed (es ++ e ∷ []) name h → IsNamed es name h ⊎ Contains (naming e.event e.reply) (named name h)
  named-cases es e name h is = Contains-append_cases (names es) (naming e.event e.reply) (named name h) (subst (λ ns. Contains ns (named name h)) (names-now es e) is)

  -- the name of a declaration, and its handle
  naming-is : (event : Event O M) (reply : Reply O M) (name : List ℕ) (h : Handle) → Contains (naming event reply) (named name h) → (x : O) × (event ≡ Declare name x) × (reply ≡ Object h)
  naming-is (Declare name x) (Object k) other h c = elim (Contains-push_cases [] (named name k) (named other h) c) [
    | inl none ↦ absurd (none-in (named other h) none)
    | inr same ↦ (let e : name ≡ other = ap (λ (n : Naming). n.name) same in let f : k ≡ h = ap (λ (n : Naming). n.handle) same in (x, ap (λ n. Declare n x) e, ap Object f))
  ]
  naming-is _ _ other h c = absurd (none-in (named other h) c)

  module _ (s : Setup) (es : List (Entry O M)) (e : Entry O M) (r : Replies s es e.event e.reply) (old : NamesAreOne es) where
    new-name : (name : List ℕ) (h k : Handle) → IsNamed es name h → (x : O) × (e.event ≡ Declare name x) × (e.reply ≡ Object k) → h ≡ k
    new-name name h k is (x, a, b) = go (subst (λ ev. Replies s es ev (Object k)) a (subst (λ re. Replies s es e.event re) b r))
      where
        go : DeclareReplies s es name x (Object k) → h ≡ k
        go (inl f) = old name h k is f.0
        go (inr f) = absurd (f.0 h is)

    pub names-next : NamesAreOne (es ++ e ∷ [])
    names-next name h k a b = elim (named-cases es e name h a) [
      | inl f ↦ elim (named-cases es e name k b) [
        | inl g ↦ old name h k f g
        | inr g ↦ new-name name h k f (naming-is e.event e.reply name k g)
      ]
      | inr f ↦ elim (named-cases es e name k b) [
        | inl g ↦ sym (new-name name k h g (naming-is e.event e.reply name h f))
        | inr g ↦ (
            let x = naming-is e.event e.reply name h f in
            let y = naming-is e.event e.reply name k g in
            let same : ◌≡◌ {A = Reply O M} (Object h) (Object k) = sym x.2 ∙ y.2 in
            cc)
      ]
    ]

pub names-none : (O M : Type 0) → NamesAreOne {O = O} {M = M} []
names-none O M name h k a b = absurd (none-in (named name h) a)
