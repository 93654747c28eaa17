-- Boards of tests are ready for calls, and what they are called with is known.
use Rattle.std.proofs.Common.{◌≡◌, ℕ, List, [], ◌∷◌, ◌++◌, sym, subst, ◌∙◌, ap, refl}
use Rattle.cap_ops.specs.declared.keys.Arg.{Arg}
use Rattle.cap_ops.specs.declared.keys.Arg.TheVariants.{Obj, Mor, Num}
use Rattle.cap_ops.specs.Arrows.{Between, ValueOver, argument, arguments}
use Rattle.cap_ops.specs.Values.{object, morphism, scalar}
use Rattle.cap_ops.specs.Told.{Tells, IsArrow, IsDatum, Known, told_in}
use Rattle.cap_ops.specs.Primitives.{OfferData, prime_of}
use Rattle.cap_ops.proofs.Telling.{tells-snoc, data-snoc}
use Rattle.cap_terms.specs.declared.body.Rule.{Rule}
use Rattle.cap_rules.specs.Table.{rule_table}
use Rattle.cap_run.specs.Plans.{AreRules}
use Rattle.cap_board.specs.Board.{ToldObjects}
use Rattle.cap_call_laws.proofs.Values.{rules_are}
use Rattle.cap_data.specs.declared.data.ObjData.{ObjData}
use Rattle.cap_data.specs.declared.data.MorData.{MorData}
use Rattle.cap_vec_offer.specs.Offer.{matrix_offer}
use Rattle.cap_vec_offer.specs.Laws.{IsMatrixBetween}
use Rattle.cap_vec_offer.specs.Members.{of-each}
use Rattle.cap_vec_offer.proofs.Data.{matrix-arrow}
use Rattle.cap_list_board.specs.Lists.{Lists, empty_lists}
use Rattle.cap_list_board.specs.Holds.{Holds}
use Rattle.cap_list_board.specs.Benches.{IsBench, IsArgumentOf}
use Rattle.cap_list_board.proofs.InLists.{map-snoc}

module _ {X O M : Type 0} (offered : X → OfferData O M) where
  pub new-bench : (s : Lists X O M) (first offer : X) (own rules : List Rule) (limit : ℕ) → s ≡ empty_lists first own limit → Holds (offered first) s → first ≡ offer → own ≡ rule_table → rules ≡ rule_table → IsBench offered s offer rules
  new-bench s first offer own rules limit is holds same own_table table = record {
    holds = subst (λ x. Holds (offered x) s) (sym (ap (λ t. t.offer) is)) holds;
    ready = record { offers = ap (λ t. t.offer) is ∙ same; by_rules = ap (λ t. t.rules) is ∙ (own_table ∙ sym table); are = subst AreRules (sym table) rules_are };
  }

  pub more-bench : (s s' : Lists X O M) (offer : X) (rules : List Rule) → IsBench offered s offer rules → Holds (offered s'.offer) s' → s'.offer ≡ s.offer → s'.rules ≡ s.rules → IsBench offered s' offer rules
  more-bench s s' offer rules b holds same_offer same_rules = record {
    holds = holds;
    ready = record { offers = same_offer ∙ b.ready.offers; by_rules = same_rules ∙ b.ready.by_rules; are = b.ready.are };
  }

-- matrices modulo the offer's prime are its morphisms
matrices-are : (p : ℕ) (f : Between ObjData MorData) → IsMatrixBetween (prime_of (matrix_offer p)) f → IsArrow (matrix_offer p).category f
matrices-are p f M = of-each (λ D. IsMatrixBetween (prime_of D) f → IsArrow D.category f) (λ q t N. matrix-arrow q t f N) p M

-- an argument is known
module _ (p : ℕ) (objects : List ObjData) (told : ToldObjects (matrix_offer p) (told_in objects)) where
  argument-known : (a : Arg MorData) → IsArgumentOf objects (prime_of (matrix_offer p)) a → (d : ValueOver ObjData MorData) × Tells (told_in objects) (argument a) d × IsDatum (matrix_offer p).category d
  argument-known (Obj h) k = (object k.0, k.1, told h k.0 k.1)
  argument-known (Mor f) k = (morphism (record { src = k.from; tgt = k.to; value = f.value }), record { src = k.src; tgt = k.tgt; value = refl }, matrices-are p (record { src = k.from; tgt = k.to; value = f.value }) k.is)
  argument-known (Num n) k = (scalar n, refl, k)

  pub one-more-known : (args : List (Arg MorData)) (a : Arg MorData) → Known (matrix_offer p).category (told_in objects) (arguments args) → IsArgumentOf objects (prime_of (matrix_offer p)) a → Known (matrix_offer p).category (told_in objects) (arguments (args ++ a ∷ []))
  one-more-known args a known k = subst (Known (matrix_offer p).category (told_in objects)) (sym (map-snoc argument args a)) (
      let one = argument-known a k in
      record {
        data_of = known.data_of ++ one.0 ∷ [];
        tells = tells-snoc (told_in objects) (arguments args) known.data_of (argument a) one.0 known.tells one.1;
        are = data-snoc (matrix_offer p).category known.data_of one.0 known.are one.2;
      }
      )
