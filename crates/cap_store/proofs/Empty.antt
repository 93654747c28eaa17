-- A state in which nothing has happened.
use Rattle.std.proofs.Common.{◌≡◌, ℕ, ◌<◌, List, [], None, sym, subst, refl, arith}
use Rattle.std.specs.Prelude.{replicate}
use Rattle.std.proofs.lemmas.List.Elements.{All-nil, All-replicate}
use Rattle.cap_ops.specs.Derivations.{IsWeight, AreCosts}
use Rattle.cap_ops.proofs.Places.{none≢some}
use Rattle.cap_history.specs.declared.entries.Entry.{Entry}
use Rattle.cap_history.specs.declared.reading.Keeping.{Keeping}
use Rattle.cap_history.specs.declared.reading.Naming.{Naming}
use Rattle.cap_history.specs.Replies.{Setup}
use Rattle.cap_store.specs.Inside.{IsSettled, IsState}

module _ {O M : Type 0} (object_cells : O → ℕ) (morphism_cells : M → ℕ) (setup : Setup) (costs : AreCosts setup.costs) where
  nothing : IsState object_cells morphism_cells setup (record { weights = replicate 44 None; finality = None; objects = []; names = []; cache = []; cells = 0; entries = [] })
  nothing = record {
    costs = costs;
    weights_are = refl;
    weights_fit = All-replicate IsWeight 44 None (record { from = λ n e. absurd (none≢some e); to = λ n e. absurd (none≢some e) });
    weights_all = refl;
    finality_is = refl;
    objects_are = refl;
    names_are = refl;
    cache_is = refl;
    cells_are = refl;
    few = omega arith;
    light = omega arith;
    few_objects = omega arith;
    settled = All-nil (IsSettled 0);
    named = All-nil (λ (n : Naming). n.handle.0 < 0);
  }

  pub empty-state : (objects : List O) (names : List Naming) (cache : List (Keeping M)) (entries : List (Entry O M)) → objects ≡ [] → names ≡ [] → cache ≡ [] → entries ≡ []
      → IsState object_cells morphism_cells setup (record { weights = replicate 44 None; finality = None; objects = objects; names = names; cache = cache; cells = 0; entries = entries })
  empty-state objects names cache entries p q r s =
      subst (λ o. IsState object_cells morphism_cells setup (record { weights = replicate 44 None; finality = None; objects = o; names = names; cache = cache; cells = 0; entries = entries })) (sym p)
      (subst (λ o. IsState object_cells morphism_cells setup (record { weights = replicate 44 None; finality = None; objects = []; names = o; cache = cache; cells = 0; entries = entries })) (sym q)
      (subst (λ o. IsState object_cells morphism_cells setup (record { weights = replicate 44 None; finality = None; objects = []; names = []; cache = o; cells = 0; entries = entries })) (sym r)
      (subst (λ o. IsState object_cells morphism_cells setup (record { weights = replicate 44 None; finality = None; objects = []; names = []; cache = []; cells = 0; entries = o })) (sym s) nothing)))
