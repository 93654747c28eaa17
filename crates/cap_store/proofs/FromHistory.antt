-- What a state keeps says what its history does.
use Rattle.std.proofs.Common.{◌≡◌, ℕ, ◌+◌, ◌^◌, ◌<◌, List, [], ◌++◌, Option, Some, None, length, refl, sym, ap, ◌∙◌, subst, arith}
use Rattle.std.specs.Prelude.{slice_get}
use Rattle.std.specs.List.{All, Contains}
use Rattle.std.proofs.lemmas.List.{append-nil}
use Rattle.std.proofs.lemmas.List.Elements.{All-contains, All-weaker}
use Rattle.cap_names.specs.declared.identifiers.Handle.{Handle}
use Rattle.cap_ops.specs.declared.keys.Key.{Key}
use Rattle.cap_ops.specs.declared.keys.PrimOut.{PrimOut}
use Rattle.cap_ops.specs.declared.keys.Value.{Value as Answer}
use Rattle.cap_ops.specs.Cells.{IsShortAnswer}
use Rattle.cap_ops.specs.Mentions.{mentioned}
use Rattle.cap_ops.specs.Told.{told_in}
use Rattle.cap_settle.specs.Settled.{settled, OutFits}
use Rattle.cap_history.specs.declared.entries.Entry.{Entry}
use Rattle.cap_history.specs.declared.entries.Told.{Told}
use Rattle.cap_history.specs.declared.reading.Finality.{Finality}
use Rattle.cap_history.specs.declared.reading.Naming.{Naming}
use Rattle.cap_history.specs.May.{OutIsThere, MayPut}
use Rattle.cap_history.specs.Reading as reading
use Rattle.cap_history.specs.Replies.{Setup, IsFinal, IsOpen, IsNamed, IsNewName, IsKept, IsNewKey}
use Rattle.cap_store.specs.Inside.{Kept, IsSettled, IsState}
use Rattle.cap_store.specs.Lookups.{HasValue, HasNoValue, HasName, HasNoName}
use Rattle.cap_store.proofs.Next.{settled-there, settled-short, settled-fits}

pub none-of : {A : Type 0} (o : Option A) → ((x : A) → o ≡ Some x → ⊥) → o ≡ None
none-of None h = refl
none-of (Some x) h = absurd (h x refl)

module _ {O M : Type 0} (object_cells : O → ℕ) (morphism_cells : M → ℕ) (setup : Setup) (k : Kept O M) (S : IsState object_cells morphism_cells setup k) (now : List (Entry O M)) (same : k.entries ≡ now) where
  -- finality
  pub final-as : (f : Finality) → k.finality ≡ Some f → IsFinal now f.at f.plan
  final-as f e = record { is = ap reading.finality (sym same) ∙ (sym S.finality_is ∙ e) }

  pub open-as : k.finality ≡ None → IsOpen now
  open-as e = ap reading.finality (sym same) ∙ (sym S.finality_is ∙ e)

  -- objects, names and kept values
  pub weights-as : k.weights ≡ reading.weights now
  weights-as = S.weights_are ∙ ap reading.weights same

  pub objects-as : k.objects ≡ reading.objects now
  objects-as = S.objects_are ∙ ap reading.objects same

  names-as : k.names ≡ reading.names now
  names-as = S.names_are ∙ ap reading.names same

  kept-as : k.cache ≡ reading.kept now
  kept-as = S.cache_is ∙ ap reading.kept same

  pub named-as : (name : List ℕ) (h : Handle) → HasName k.names name h → IsNamed now name h
  named-as name h e = subst (λ ns. Contains ns (record { name = name; handle = h })) names-as e

  pub new-name-as : (name : List ℕ) → HasNoName k.names name → IsNewName now name
  new-name-as name none h e = none h (subst (λ ns. Contains ns (record { name = name; handle = h })) (sym names-as) e)

  pub key-kept-as : (key : Key M) (v : Answer M) → HasValue k.cache key v → IsKept now key v
  key-kept-as key v e = subst (λ ks. Contains ks (record { key = key; value = v })) kept-as e

  pub new-key-as : (key : Key M) → HasNoValue k.cache key → IsNewKey now key
  new-key-as key none v e = none v (subst (λ ks. Contains ks (record { key = key; value = v })) (sym kept-as) e)

  -- there are few objects, and named ones are there
  pub few-objects : length k.objects + 4 < 2 ^ 32
  few-objects = let a = S.few_objects in let b = S.few in omega (arith, a, b)

  pub handle-there : (name : List ℕ) (h : Handle) → HasName k.names name h → h.0 < length k.objects
  handle-there name h e = All-contains (λ (n : Naming). n.handle.0 < length k.objects) k.names (record { name = name; handle = h }) S.named e

  pub told-as : (h : Handle) (o : O) → slice_get k.objects h.0 ≡ Some o → told_in (reading.objects now) h ≡ Some o
  told-as h o e = ap (λ os. slice_get os h.0) (sym objects-as) ∙ e

  -- what is kept for a key is settled
  is-settled : (key : Key M) (v : Answer M) → HasValue k.cache key v → IsSettled (length k.objects) (record { key = key; value = v })
  is-settled key v e = All-contains (IsSettled (length k.objects)) k.cache (record { key = key; value = v }) S.settled e

  pub kept-there : (key : Key M) (v w : Answer M) → HasValue k.cache key v → w ≡ v → All (λ (h : Handle). h.0 < length k.objects + 0) (mentioned w)
  kept-there key v w e is = subst (λ x. All (λ (h : Handle). h.0 < length k.objects + 0) (mentioned x)) (sym is) (All-weaker (λ (h : Handle). h.0 < length k.objects) (λ (h : Handle). h.0 < length k.objects + 0) (λ h l. omega (arith, l)) (mentioned v) (is-settled key v e).there)

  pub kept-short : (key : Key M) (v w : Answer M) → HasValue k.cache key v → w ≡ v → IsShortAnswer w
  kept-short key v w e is = subst IsShortAnswer (sym is) (is-settled key v e).short

  pub told-kept-as : (t : Told O M) → reading.AreTold (k.objects ++ []) t → reading.AreTold (reading.objects now) t
  told-kept-as t a = subst (λ os. reading.AreTold os t) (append-nil k.objects ∙ objects-as) a

  -- what is put is settled
  put-there-here : (key : Key M) (out : PrimOut O M) → MayPut now key out → OutIsThere (length k.objects) (length out.fresh) out.out
  put-there-here key out may = subst (λ os. OutIsThere (length os) (length out.fresh) out.out) (sym objects-as) may.there

  pub put-fits : (key : Key M) (out : PrimOut O M) → MayPut now key out → OutFits (length k.objects) out.out
  put-fits key out may =
      let a = few-objects in
      let b = may.short.1 in
      settled-fits (length k.objects) (length out.fresh) out.out (omega (arith, a, b)) (put-there-here key out may)

  pub put-there : (key : Key M) (out : PrimOut O M) (v : Answer M) → MayPut now key out → v ≡ settled (length k.objects) out.out → All (λ (h : Handle). h.0 < length k.objects + length out.fresh) (mentioned v)
  put-there key out v may is = subst (λ x. All (λ (h : Handle). h.0 < length k.objects + length out.fresh) (mentioned x)) (sym is) (settled-there (length k.objects) (length out.fresh) out.out (put-there-here key out may))

  pub put-short : (key : Key M) (out : PrimOut O M) (v : Answer M) → MayPut now key out → v ≡ settled (length k.objects) out.out → IsShortAnswer v
  put-short key out v may is = subst IsShortAnswer (sym is) (settled-short (length k.objects) (length out.fresh) out.out may.short.0)

  pub put-value : (out : PrimOut O M) (v : Answer M) → v ≡ settled (length k.objects) out.out → v ≡ settled (length (reading.objects now)) out.out
  put-value out v is = is ∙ ap (λ os. settled (length os) out.out) objects-as

  pub told-put-as : (out : PrimOut O M) (t : Told O M) → reading.AreTold (k.objects ++ out.fresh) t → reading.AreTold (reading.objects now ++ out.fresh) t
  told-put-as out t a = subst (λ os. reading.AreTold (os ++ out.fresh) t) objects-as a
