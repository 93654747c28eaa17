-- What a state keeps is what its history says, with one more entry too.
use Rattle.std.proofs.Common.{◌≡◌, ℕ, ◌+◌, ◌-◌, ◌*◌, ◌^◌, ◌<◌, ◌≤◌, Bool, true, false, List, [], ◌∷◌, ◌++◌, Option, Some, length, sym, subst, ◌∙◌, ap, arith, inl, inr, length-append}
use Rattle.std.specs.Prelude.{if◌then◌else◌, ◌==◌, map, Result, Ok, Err, OnOk, OnErr}
use Rattle.std.specs.List.{All, flat_map}
use Rattle.std.proofs.lemmas.Bool.{eq-eqb}
use Rattle.std.proofs.lemmas.Option.{slice_get_within}
use Rattle.std.proofs.lemmas.List.{length-map, length-set}
use Rattle.std.proofs.lemmas.List.Elements.{All-nil, All-cons, All-head, All-tail, All-append, All-set, All-weaker}
use Rattle.cap_names.specs.declared.identifiers.Handle.{Handle}
use Rattle.cap_ops.specs.declared.arrows.End.{End}
use Rattle.cap_ops.specs.declared.arrows.End.TheVariants.{Old, New}
use Rattle.cap_ops.specs.declared.arrows.OutArrow.{OutArrow}
use Rattle.cap_ops.specs.declared.keys.Out.{Out}
use Rattle.cap_ops.specs.declared.keys.Out.TheVariants.{One as OutOne, Many as OutMany, Truth as OutTruth, Nothing as OutNothing}
use Rattle.cap_ops.specs.declared.plans.TheConstants.{MOST_WEIGHT}
use Rattle.cap_ops.specs.Cells.{IsShortAnswer, IsShortOut}
use Rattle.cap_ops.specs.Derivations.{IsWeight}
use Rattle.cap_ops.specs.Mentions.{number_of, ends_of, mentions, mentioned}
use Rattle.cap_ops.specs.Once.{is_among, once}
use Rattle.cap_ops.proofs.Places.{some_inner}
use Rattle.cap_settle.specs.Settled.{settled_end, settled_arrow, settled, EndFits, ArrowFits, OutFits}
use Rattle.cap_history.specs.declared.entries.Event.{Event}
use Rattle.cap_history.specs.declared.entries.Event.TheVariants.{Register, Declare, Put}
use Rattle.cap_history.specs.declared.entries.Reply.{Reply}
use Rattle.cap_history.specs.declared.entries.Reply.TheVariants.{Done, Object, Kept as KeptReply}
use Rattle.cap_history.specs.declared.entries.Entry.{Entry}
use Rattle.cap_history.specs.declared.reading.Keeping.{Keeping}
use Rattle.cap_history.specs.declared.reading.Naming.{Naming}
use Rattle.cap_history.specs.May.{EndIsThere, ArrowIsThere, OutIsThere, May}
use Rattle.cap_history.specs.Reading as reading
use Rattle.cap_history.specs.Replies.{Setup, Replies, HasRoom}
use Rattle.cap_history.proofs.OneMore.{one-more}
use Rattle.cap_store.specs.Inside.{Kept, Adding, with_entry, IsSettled, IsState, IsAdded}

-- what holds of each element holds of those that are taken once
pub all-once : {A : Type 0} (number : A → ℕ) (P : A → Type 0) (seen xs : List A) → All P xs → All P (once number seen xs)
all-once number P seen [] a = All-nil P
all-once number P seen (x ∷ xs) a = go (is_among number seen x) (all-once number P seen xs (All-tail P x xs a)) (all-once number P (x ∷ seen) xs (All-tail P x xs a))
  where
    go : (b : Bool) → All P (once number seen xs) → All P (once number (x ∷ seen) xs) → All P (if b then once number seen xs else x ∷ once number (x ∷ seen) xs)
    go true known new = known
    go false known new = All-cons P x (once number (x ∷ seen) xs) (All-head P x xs a) new

-- the handles of a settled value are there, behind its new objects
module _ (count fresh : ℕ) where
  abbrev IsThere : Handle → Type 0
  IsThere h = h.0 < count + fresh

  end-there : (e : End) → EndIsThere count fresh e → IsThere (settled_end count e)
  end-there (Old h) t = omega (arith, t)
  end-there (New k) t = omega (arith, t)

  -- with room for the handles they fit
  end-fits : (e : End) → count + fresh < 2 ^ 32 → EndIsThere count fresh e → EndFits count e
  end-fits (Old h) room t = tt
  end-fits (New k) room t = omega (arith, room, t)

  module _ {M : Type 0} where
    arrow-there : (f : OutArrow M) (hs : List Handle) → ArrowIsThere count fresh f → All IsThere hs → All IsThere (ends_of (settled_arrow count f) ++ hs)
    arrow-there f hs t a = All-cons IsThere (settled_end count f.src) (settled_end count f.tgt ∷ hs) (end-there f.src t.src) (All-cons IsThere (settled_end count f.tgt) hs (end-there f.tgt t.tgt) a)

    arrows-there : (fs : List (OutArrow M)) → All (ArrowIsThere count fresh) fs → All IsThere (flat_map ends_of (map (settled_arrow count) fs))
    arrows-there [] t = All-nil IsThere
    arrows-there (f ∷ fs) t = arrow-there f (flat_map ends_of (map (settled_arrow count) fs)) (All-head (ArrowIsThere count fresh) f fs t) (arrows-there fs (All-tail (ArrowIsThere count fresh) f fs t))

    mentions-there : (out : Out M) → OutIsThere count fresh out → All IsThere (mentions (settled count out))
    mentions-there (OutOne f) t = arrow-there f [] t (All-nil IsThere)
    mentions-there (OutMany fs) t = arrows-there fs t
    mentions-there (OutTruth b) t = All-nil IsThere
    mentions-there OutNothing t = All-nil IsThere

    pub settled-there : (out : Out M) → OutIsThere count fresh out → All IsThere (mentioned (settled count out))
    settled-there out t = all-once number_of IsThere [] (mentions (settled count out)) (mentions-there out t)

    pub settled-short : (out : Out M) → IsShortOut out → IsShortAnswer (settled count out)
    settled-short (OutOne f) s = tt
    settled-short (OutMany fs) s = let e = length-map fs (settled_arrow count) in omega (arith, s, e)
    settled-short (OutTruth b) s = tt
    settled-short OutNothing s = tt

    pub settled-fits : (out : Out M) → count + fresh < 2 ^ 32 → OutIsThere count fresh out → OutFits count out
    settled-fits (OutOne f) room t = record { src = end-fits f.src room t.src; tgt = end-fits f.tgt room t.tgt }
    settled-fits (OutMany fs) room t = All-weaker (ArrowIsThere count fresh) (ArrowFits count) (λ f u. record { src = end-fits f.src room u.src; tgt = end-fits f.tgt room u.tgt }) fs t
    settled-fits (OutTruth b) room t = tt
    settled-fits OutNothing room t = tt

-- an object that a declaration may bring
module _ {O : Type 0} where
  chosen-few : (b : Bool) (object : O) → length (if b then object ∷ [] else []) ≤ 4
  chosen-few true object = omega arith
  chosen-few false object = omega arith

  chosen-there : (b : Bool) (count n : ℕ) (object : O) → (b ≡ true) → n ≡ count → n < count + length (if b then object ∷ [] else [])
  chosen-there true count n object t e = omega (arith, e)
  chosen-there false count n object t e = let wrong : false ≡ true = t in absurd cc

settled-longer : {M : Type 0} (a b : ℕ) → a ≤ b → (cache : List (Keeping M)) → All (IsSettled a) cache → All (IsSettled b) cache
settled-longer a b le cache all = All-weaker (IsSettled a) (IsSettled b) (λ k s. record { there = All-weaker (λ (h : Handle). h.0 < a) (λ (h : Handle). h.0 < b) (λ h l. omega (arith, l, le)) (mentioned k.value) s.there; short = s.short }) cache all

named-longer : (a b : ℕ) → a ≤ b → (names : List Naming) → All (λ (n : Naming). n.handle.0 < a) names → All (λ (n : Naming). n.handle.0 < b) names
named-longer a b le names all = All-weaker (λ (n : Naming). n.handle.0 < a) (λ (n : Naming). n.handle.0 < b) (λ n l. omega (arith, l, le)) names all

module _ {O M : Type 0} where
  weights-fit : (entries : List (Entry O M)) (ws : List (Option ℕ)) (event : Event O M) (reply : Reply O M) → May entries event → All IsWeight ws → All IsWeight (reading.registered ws event reply)
  weights-fit entries ws (Register op weight) Done t old = All-set IsWeight ws (op.0 - 1) (Some weight) (record { from = λ n e. subst (λ k. 1 ≤ k) (some_inner e) t.from; to = λ n e. subst (λ k. k ≤ MOST_WEIGHT) (some_inner e) t.to }) old
  weights-fit entries ws _ _ t old = old

  weights-all : (ws : List (Option ℕ)) (event : Event O M) (reply : Reply O M) → length ws ≡ 44 → length (reading.registered ws event reply) ≡ 44
  weights-all ws (Register op weight) Done e = length-set ws (op.0 - 1) (Some weight) ∙ e
  weights-all ws _ _ e = e

  brought-few : (entries : List (Entry O M)) (count : ℕ) (event : Event O M) (reply : Reply O M) → May entries event → length (reading.brought count event reply) ≤ 4
  brought-few entries count (Declare name object) (Object h) t = chosen-few (h.0 == count) object
  brought-few entries count (Put key out) (KeptReply told) t = t.short.1
  brought-few entries count _ _ t = omega arith

  -- a value that is newly kept is settled
  keeping-settled : (setup : Setup) (entries : List (Entry O M)) (event : Event O M) (reply : Reply O M) → May entries event → Replies setup entries event reply
      → All (IsSettled (length (reading.objects entries) + length (reading.brought (length (reading.objects entries)) event reply))) (reading.keeping event reply)
  keeping-settled setup entries (Put key out) (KeptReply told) t r =
      let count = length (reading.objects entries) in
      let fresh = length out.fresh in
      All-cons (IsSettled (count + fresh)) (record { key = key; value = told.value }) [] (record {
        there = subst (λ v. All (λ (h : Handle). h.0 < count + fresh) (mentioned v)) (sym r.1) (settled-there count fresh out.out t.there);
        short = subst IsShortAnswer (sym r.1) (settled-short count fresh out.out t.short.0);
      }) (All-nil (IsSettled (count + fresh)))
  keeping-settled setup entries event reply t r = All-nil (IsSettled (length (reading.objects entries) + length (reading.brought (length (reading.objects entries)) event reply)))

  -- a name that is newly given is an object's
  naming-there : (setup : Setup) (entries : List (Entry O M)) (event : Event O M) (reply : Reply O M) → Replies setup entries event reply
      → All (λ (n : Naming). n.handle.0 < length (reading.objects entries) + length (reading.brought (length (reading.objects entries)) event reply)) (reading.naming event reply)
  naming-there setup entries (Declare name object) (Object h) r =
      let count = length (reading.objects entries) in
      let fresh = length (if h.0 == count then object ∷ [] else []) in
      All-cons (λ (n : Naming). n.handle.0 < count + fresh) (record { name = name; handle = h }) [] (elim r as (λ _. h.0 < count + fresh) [
        | inl old ↦ (let l = slice_get_within (reading.objects entries) h.0 object old.1 in omega (arith, l))
        | inr new ↦ chosen-there (h.0 == count) count h.0 object (eq-eqb h.0 count new.1) new.1
      ]) (All-nil (λ (n : Naming). n.handle.0 < count + fresh))
  naming-there setup entries event reply r = All-nil (λ (n : Naming). n.handle.0 < length (reading.objects entries) + length (reading.brought (length (reading.objects entries)) event reply))

module _ {O M : Type 0} (object_cells : O → ℕ) (morphism_cells : M → ℕ) (setup : Setup) (k : Kept O M) (S : IsState object_cells morphism_cells setup k) (e : Entry O M) where
  module _ (may : May k.entries e.event) (r : Replies setup k.entries e.event e.reply) (a : Adding O M) (A : IsAdded object_cells morphism_cells k e.event e.reply a) where
    now : reading.weights (k.entries ++ e ∷ []) ≡ reading.registered (reading.weights k.entries) e.event e.reply
    now = (one-more object_cells morphism_cells k.entries e).weights

    fresh-is : a.fresh ≡ reading.brought (length (reading.objects k.entries)) e.event e.reply
    fresh-is = A.fresh ∙ ap (λ os. reading.brought (length os) e.event e.reply) S.objects_are

    many : length (k.objects ++ a.fresh) ≡ length (reading.objects k.entries) + length (reading.brought (length (reading.objects k.entries)) e.event e.reply)
    many = length-append k.objects a.fresh ∙ (ap (λ os. length os + length a.fresh) S.objects_are ∙ ap (λ os. length (reading.objects k.entries) + length os) fresh-is)

    more : length k.objects ≤ length (k.objects ++ a.fresh)
    more = let l = length-append k.objects a.fresh in omega (arith, l)

    few-now : length (k.objects ++ a.fresh) ≤ 4 * length (k.entries ++ e ∷ [])
    few-now =
        let l = length-append k.objects a.fresh in
        let n = length-append k.entries (e ∷ []) in
        let old = S.few_objects in
        let new = subst (λ os. length os ≤ 4) (sym A.fresh) (brought-few k.entries (length k.objects) e.event e.reply may) in
        omega (arith, l, n, old, new)

    pub next-state : length k.entries < 200000 → k.cells < 16777216 → IsState object_cells morphism_cells setup (with_entry k e a)
    next-state few light = record {
      costs = S.costs;
      weights_are = A.weights ∙ (ap (λ ws. reading.registered ws e.event e.reply) S.weights_are ∙ sym now);
      weights_fit = subst (All IsWeight) (sym A.weights) (weights-fit k.entries k.weights e.event e.reply may S.weights_fit);
      weights_all = subst (λ ws. length ws ≡ 44) (sym A.weights) (weights-all k.weights e.event e.reply S.weights_all);
      finality_is = A.finality ∙ (ap (reading.later_final (length k.entries) e.reply) S.finality_is ∙ sym (one-more object_cells morphism_cells k.entries e).finality);
      objects_are = ap (λ os. k.objects ++ os) fresh-is ∙ (ap (λ os. os ++ reading.brought (length (reading.objects k.entries)) e.event e.reply) S.objects_are ∙ sym (one-more object_cells morphism_cells k.entries e).objects);
      names_are = ap (λ ns. k.names ++ ns) A.naming ∙ (ap (λ ns. ns ++ reading.naming e.event e.reply) S.names_are ∙ sym (one-more object_cells morphism_cells k.entries e).names);
      cache_is = ap (λ ks. k.cache ++ ks) A.keeping ∙ (ap (λ ks. ks ++ reading.keeping e.event e.reply) S.cache_is ∙ sym (one-more object_cells morphism_cells k.entries e).kept);
      cells_are = A.cells ∙ (ap (λ n. n + (reading.event_cells object_cells morphism_cells e.event + reading.reply_cells object_cells morphism_cells e.reply)) S.cells_are ∙ sym (one-more object_cells morphism_cells k.entries e).cells);
      few = (let n = length-append k.entries (e ∷ []) in omega (arith, n, few));
      light = (let l = A.light in omega (arith, l, light));
      few_objects = few-now;
      settled = All-append (IsSettled (length (k.objects ++ a.fresh))) k.cache a.keeping (settled-longer (length k.objects) (length (k.objects ++ a.fresh)) more k.cache S.settled)
          (subst (All (IsSettled (length (k.objects ++ a.fresh)))) (sym A.keeping) (subst (λ n. All (IsSettled n) (reading.keeping e.event e.reply)) (sym many) (keeping-settled setup k.entries e.event e.reply may r)));
      named = All-append (λ (n : Naming). n.handle.0 < length (k.objects ++ a.fresh)) k.names a.naming (named-longer (length k.objects) (length (k.objects ++ a.fresh)) more k.names S.named)
          (subst (All (λ (n : Naming). n.handle.0 < length (k.objects ++ a.fresh))) (sym A.naming) (subst (λ m. All (λ (n : Naming). n.handle.0 < m) (reading.naming e.event e.reply)) (sym many) (naming-there setup k.entries e.event e.reply r)));
    }

-- a result is one of the two
pub by-result : {A E : Type 0} (r : Result A E) (P Q Z : Type 0) → OnOk r P → OnErr r Q → (P → Z) → (Q → Z) → Z
by-result (Ok x) P Q Z p q f h = f p
by-result (Err e) P Q Z p q f h = h q

-- room for the history is room for what is kept
module _ {O M : Type 0} (object_cells : O → ℕ) (morphism_cells : M → ℕ) (setup : Setup) (k : Kept O M) (S : IsState object_cells morphism_cells setup k) (now : List (Entry O M)) (same : k.entries ≡ now) where
  pub room-here : HasRoom object_cells morphism_cells now → (length k.entries < 200000) × (k.cells < 16777216)
  room-here room = (
    subst (λ es. length es < 200000) (sym same) room.few,
    subst (λ n. n < 16777216) (sym (S.cells_are ∙ ap (reading.cells object_cells morphism_cells) same)) room.light,
  )
