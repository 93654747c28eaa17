-- What one more entry changes of what is read off a history.
use Rattle.std.specs.Prelude.{replicate}
use Rattle.std.proofs.lemmas.List.{append-nil}
use Rattle.std.proofs.Common.{◌≡◌, ℕ, suc, ◌+◌, List, [], ◌∷◌, ◌++◌, length, Option, Some, None, ap, refl, arith, ◌∙◌, sym}
use Rattle.cap_ops.proofs.Places.{none≢some}
use Rattle.cap_history.specs.declared.entries.Event.{Event}
use Rattle.cap_history.specs.declared.entries.Reply.{Reply}
use Rattle.cap_history.specs.declared.entries.Event.TheVariants.{Register, Declare, Put}
use Rattle.cap_history.specs.declared.entries.Reply.TheVariants.{Done, Final, Object, Kept}
use Rattle.cap_history.specs.declared.entries.Entry.{Entry}
use Rattle.cap_history.specs.declared.reading.Finality.{Finality}
use Rattle.cap_history.specs.Reading.{read, registered, weights, later_final, final_by, finality_from, finality, brought, more_objects, objects, naming, names, keeping, kept, event_cells, reply_cells}
use Rattle.cap_history.specs.Replies.{entry}
use Rattle.cap_history.specs.Laws.{OneMoreEntry, IsRefusal, RefusalsChangeNothing}

module _ {O M : Type 0} where
  pub read-more : {A : Type 0} (next : A → Event O M → Reply O M → A) (a : A) (es more : List (Entry O M)) → read next a (es ++ more) ≡ read next (read next a es) more
  read-more next a [] more = refl
  read-more next a (e ∷ es) more = read-more next (next a e.event e.reply) es more

  later-final : (place : ℕ) (r : Reply O M) (later later' : Option Finality) (f : Finality) → final_by place r later ≡ Some f → (later ≡ Some f → later' ≡ Some f) → final_by place r later' ≡ Some f
  later-final place (Final p) later later' f e h = e
  later-final place _ later later' f e h = h e

  final-from-stays : (place : ℕ) (es more : List (Entry O M)) (f : Finality) → finality_from place es ≡ Some f → finality_from place (es ++ more) ≡ Some f
  final-from-stays place [] more f e = absurd (none≢some e)
  final-from-stays place (x ∷ es) more f e = later-final place x.reply (finality_from (suc place) es) (finality_from (suc place) (es ++ more)) f e (final-from-stays (suc place) es more f)

  pub final-stays : (es more : List (Entry O M)) (f : Finality) → finality es ≡ Some f → finality (es ++ more) ≡ Some f
  final-stays es more f e = final-from-stays 0 es more f e

  none-later : (place : ℕ) (r : Reply O M) (later : Option Finality) → final_by place r later ≡ None → later ≡ None
  none-later place (Final p) later e = absurd (none≢some (sym e))
  none-later place _ later e = e

  none-first : (place : ℕ) (r : Reply O M) (later later' : Option Finality) → final_by place r later ≡ None → final_by place r later' ≡ later'
  none-first place (Final p) later later' e = absurd (none≢some (sym e))
  none-first place _ later later' e = refl

  open-from : (place : ℕ) (es : List (Entry O M)) (e : Entry O M) → finality_from place es ≡ None → finality_from place (es ++ e ∷ []) ≡ final_by (place + length es) e.reply None
  open-from place [] e o = ap (λ n. final_by n e.reply None) (let same : place ≡ place + 0 = omega arith in same)
  open-from place (x ∷ es) e o =
      let same : suc place + length es ≡ place + suc (length es) = omega arith in
      none-first place x.reply (finality_from (suc place) es) (finality_from (suc place) (es ++ e ∷ [])) o
      ∙ open-from (suc place) es e (none-later place x.reply (finality_from (suc place) es) o) ∙ ap (λ n. final_by n e.reply None) same

  -- what one more entry makes of a history that is open
  pub open-next : (es : List (Entry O M)) (e : Entry O M) → finality es ≡ None → finality (es ++ e ∷ []) ≡ final_by (length es) e.reply None
  open-next es e o = open-from 0 es e o ∙ ap (λ n. final_by n e.reply None) (let same : 0 + length es ≡ length es = omega arith in same)

  -- when it becomes final, where it was or was not before
  final-by-known : (es : List (Entry O M)) (e : Entry O M) (known : Option Finality) → finality es ≡ known → finality (es ++ e ∷ []) ≡ later_final (length es) e.reply known
  final-by-known es e None k = open-next es e k
  final-by-known es e (Some f) k = final-stays es (e ∷ []) f k

  pub one-more : OneMoreEntry O M
  one-more object_cells morphism_cells es e = record {
    weights = read-more registered (replicate 44 None) es (e ∷ []);
    finality = final-by-known es e (finality es) refl;
    objects = read-more more_objects [] es (e ∷ []);
    names = read-more (λ namings event reply. namings ++ naming event reply) [] es (e ∷ []);
    kept = read-more (λ keepings event reply. keepings ++ keeping event reply) [] es (e ∷ []);
    cells = read-more (λ n event reply. n + (event_cells object_cells morphism_cells event + reply_cells object_cells morphism_cells reply)) 0 es (e ∷ []);
  }

  -- a refusal brings nothing
  same-weights : (ws : List (Option ℕ)) (event : Event O M) (reply : Reply O M) → IsRefusal reply → registered ws event reply ≡ ws
  same-weights ws (Register op weight) Done r = absurd r
  same-weights ws _ _ r = refl

  same-finality : (place : ℕ) (reply : Reply O M) (known : Option Finality) → IsRefusal reply → later_final place reply known ≡ known
  same-finality place reply (Some f) r = refl
  same-finality place (Final p) None r = absurd r
  same-finality place _ None r = refl

  none-brought : (count : ℕ) (event : Event O M) (reply : Reply O M) → IsRefusal reply → brought count event reply ≡ []
  none-brought count (Declare name object) (Object h) r = absurd r
  none-brought count (Put key out) (Kept t) r = absurd r
  none-brought count _ _ r = refl

  none-named : (event : Event O M) (reply : Reply O M) → IsRefusal reply → naming event reply ≡ []
  none-named (Declare name object) (Object h) r = absurd r
  none-named _ _ r = refl

  none-kept : (event : Event O M) (reply : Reply O M) → IsRefusal reply → keeping event reply ≡ []
  none-kept (Put key out) (Kept t) r = absurd r
  none-kept _ _ r = refl

  pub refusals-same : RefusalsChangeNothing O M
  refusals-same es session event reply r =
      let G = one-more (λ _. 0) (λ _. 0) es (entry session event reply) in
      record {
        weights = G.weights ∙ same-weights (weights es) event reply r;
        finality = G.finality ∙ same-finality (length es) reply (finality es) r;
        objects = G.objects ∙ (ap (λ os. objects es ++ os) (none-brought (length (objects es)) event reply r) ∙ append-nil (objects es));
        names = G.names ∙ (ap (λ ns. names es ++ ns) (none-named event reply r) ∙ append-nil (names es));
        kept = G.kept ∙ (ap (λ ks. kept es ++ ks) (none-kept event reply r) ∙ append-nil (kept es));
      }
