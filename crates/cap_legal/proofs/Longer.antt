-- What a longer history keeps: objects, true events, and which fronts are legal.
use Rattle.std.proofs.Common.{◌≡◌, List, [], ◌∷◌, ◌++◌, Option, Some, length, sym, subst, refl, arith, inl, inr, append_assoc}
use Rattle.std.proofs.lemmas.List.{append-nil}
use Rattle.cap_names.specs.declared.identifiers.Handle.{Handle}
use Rattle.cap_ops.specs.declared.arrows.End.{End}
use Rattle.cap_ops.specs.declared.arrows.End.TheVariants.{Old, New}
use Rattle.cap_ops.specs.declared.keys.Key.{Key}
use Rattle.cap_ops.specs.declared.keys.PrimOut.{PrimOut}
use Rattle.cap_ops.specs.declared.plans.Plan.{Plan}
use Rattle.cap_ops.specs.Arrows.{arguments}
use Rattle.cap_ops.specs.Primitives.{OfferData}
use Rattle.cap_ops.specs.Told.{Known, StaysTold, told_in, end_object}
use Rattle.cap_terms.specs.declared.body.Rule.{Rule}
use Rattle.cap_run.specs.Puts.{PutTrue}
use Rattle.cap_settle.proofs.Fitting.{told-more}
use Rattle.cap_ops.proofs.Telling.{tells-kept, all-kept}
use Rattle.cap_history.specs.declared.entries.Event.{Event}
use Rattle.cap_history.specs.declared.entries.Event.TheVariants.{Register, Finalise, Declare, Ask, Put, PlanOf}
use Rattle.cap_history.specs.declared.entries.Entry.{Entry}
use Rattle.cap_history.specs.Reading.{read, brought, more_objects, objects}
use Rattle.cap_history.specs.Replies.{IsFull, HasRoom}
use Rattle.cap_history.proofs.OneMore.{read-more, final-stays}
use Rattle.cap_legal.specs.Legal.{Frame, TrueEvent, IsLegalNext, LegalBehind, Legal}

end-stays : {O : Type 0} (told told' : Handle → Option O) (fresh : List O) → StaysTold told told' → (e : End) (o : O) → end_object told fresh e ≡ Some o → end_object told' fresh e ≡ Some o
end-stays told told' fresh stays (Old h) o e = stays h o e
end-stays told told' fresh stays (New k) o e = e

module _ {O M : Type 0} where
  told-read : (all : List O) (more : List (Entry O M)) → StaysTold (told_in all) (told_in (read more_objects all more))
  told-read all [] h o e = e
  told-read all (x ∷ more) h o e = told-read (more_objects all x.event x.reply) more h o (told-more all (brought (length all) x.event x.reply) h o e)

  -- objects stay told in a longer history
  pub told-longer : (es more : List (Entry O M)) → StaysTold (told_in (objects es)) (told_in (objects (es ++ more)))
  told-longer es more = subst (λ all. StaysTold (told_in (objects es)) (told_in all)) (sym (read-more more_objects [] es more)) (told-read (objects es) more)

  module _ (D : OfferData O M) (rules : List Rule) where
    put-stays : (p : Plan) (told told' : Handle → Option O) (key : Key M) (out : PrimOut O M) → StaysTold told told' → PutTrue D rules p told key.op.0 key.args out → PutTrue D rules p told' key.op.0 key.args out
    put-stays p told told' key out stays T = record {
      data_of = T.data_of;
      tells_arguments = all-kept told told' stays (arguments key.args) T.data_of T.tells_arguments;
      are_data = T.are_data;
      value = T.value;
      is_value = T.is_value;
      out = T.out;
      tells = tells-kept (end_object told out.fresh) (end_object told' out.fresh) (end-stays told told' out.fresh stays) T.value T.out T.tells;
      is_datum = T.is_datum;
      fresh_is = T.fresh_is;
      fresh_objects = T.fresh_objects;
      runs = T.runs;
      fits = T.fits;
    }

    known-stays : (told told' : Handle → Option O) (key : Key M) → StaysTold told told' → Known D.category told (arguments key.args) → Known D.category told' (arguments key.args)
    known-stays told told' key stays k = record { data_of = k.data_of; tells = all-kept told told' stays (arguments key.args) k.data_of k.tells; are = k.are }

    -- a true event stays true in a longer history
    pub true-longer : (es more : List (Entry O M)) (event : Event O M) → TrueEvent D rules es event → TrueEvent D rules (es ++ more) event
    true-longer es more (Register op weight) t = t
    true-longer es more Finalise t = t
    true-longer es more (Declare name object) t = t
    true-longer es more (Ask key) t = record { fits = t.fits; known = known-stays (told_in (objects es)) (told_in (objects (es ++ more))) key (told-longer es more) t.known }
    true-longer es more (Put key out) t = record {
      fit = record { fits = t.fit.fits; known = known-stays (told_in (objects es)) (told_in (objects (es ++ more))) key (told-longer es more) t.fit.known };
      at = t.at;
      p = t.p;
      final = record { is = final-stays es more (record { at = t.at; plan = t.p }) t.final.is };
      is = put-stays t.p (told_in (objects es)) (told_in (objects (es ++ more))) key out (told-longer es more) t.is;
    }
    true-longer es more PlanOf t = t

module _ {O M : Type 0} (F : Frame O M) where
  -- a front of a legal history is legal
  front-behind : (before es more : List (Entry O M)) → LegalBehind F before (es ++ more) → LegalBehind F before es
  front-behind before [] more l = tt
  front-behind before (e ∷ es) more l = (l.0, front-behind (before ++ e ∷ []) es more l.1)

  pub legal-front : (es more : List (Entry O M)) → Legal F (es ++ more) → Legal F es
  legal-front es more l = front-behind [] es more l

  next-behind : (before es : List (Entry O M)) (e : Entry O M) → LegalBehind F before es → IsLegalNext F (before ++ es) e → LegalBehind F before (es ++ e ∷ [])
  next-behind before [] e l n = (subst (λ x. IsLegalNext F x e) (append-nil before) n, tt)
  next-behind before (x ∷ es) e l n = (l.0, next-behind (before ++ x ∷ []) es e l.1 (subst (λ y. IsLegalNext F y e) (sym (append_assoc before (x ∷ []) es)) n))

  -- a legal history with a legal next entry is legal
  pub legal-next : (es : List (Entry O M)) (e : Entry O M) → Legal F es → IsLegalNext F es e → Legal F (es ++ e ∷ [])
  legal-next es e l n = next-behind [] es e l n

  next-there : (before es : List (Entry O M)) (e : Entry O M) (more : List (Entry O M)) → LegalBehind F before (es ++ e ∷ more) → IsLegalNext F (before ++ es) e
  next-there before [] e more l = subst (λ x. IsLegalNext F x e) (sym (append-nil before)) l.0
  next-there before (x ∷ es) e more l = subst (λ y. IsLegalNext F y e) (append_assoc before (x ∷ []) es) (next-there (before ++ x ∷ []) es e more l.1)

  no-room : (es : List (Entry O M)) → IsFull F.object_cells F.morphism_cells es → HasRoom F.object_cells F.morphism_cells es → ⊥
  no-room es (inl many) room = omega (arith, many, room.few)
  no-room es (inr heavy) room = omega (arith, heavy, room.light)

  -- a full history is whole: no legal one is longer
  pub full-whole : (es more : List (Entry O M)) → Legal F (es ++ more) → IsFull F.object_cells F.morphism_cells es → more ≡ []
  full-whole es [] l full = refl
  full-whole es (e ∷ more) l full = absurd (no-room es full (next-there [] es e more l).room)
