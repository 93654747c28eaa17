-- Own entries among those of others, one step after another.
use Rattle.std.proofs.Common.{◌≡◌, List, [], ◌∷◌, ◌++◌, sym, subst, ap, ◌∙◌, refl, append_assoc}
use Rattle.std.proofs.lemmas.List.{append-nil}
use Rattle.cap_history.specs.declared.entries.Entry.{Entry}
use Rattle.cap_desk.specs.Woven.{IsNothing, IsWoven, AreOthers}

module _ {O M : Type 0} (others : List (Entry O M) → Type 0) (are : AreOthers others) where
  pub woven-start : (seen : List (Entry O M)) → IsWoven others seen [] seen
  woven-start seen = ([], are.nothing, sym (append-nil seen))

  -- one own entry more, behind what others have put
  pub woven-more : (start own seen between : List (Entry O M)) (e : Entry O M) → IsWoven others start own seen → others between → IsWoven others start (own ++ e ∷ []) (seen ++ between ++ e ∷ [])
  woven-more start [] seen between e w o = (
    w.0 ++ between,
    are.joined w.0 between w.1 o,
    ([], are.nothing, ap (λ x. x ++ between ++ e ∷ []) w.2 ∙ (ap (λ x. x ++ e ∷ []) (append_assoc start w.0 between) ∙ sym (append-nil (start ++ (w.0 ++ between) ++ e ∷ [])))),
  )
  woven-more start (x ∷ own) seen between e w o = (w.0, w.1, woven-more (start ++ w.0 ++ x ∷ []) own seen between e w.2 o)

  -- what others have put alone
  pub woven-others : (start own seen between : List (Entry O M)) → IsWoven others start own seen → others between → IsWoven others start own (seen ++ between)
  woven-others start [] seen between w o = (w.0 ++ between, are.joined w.0 between w.1 o, ap (λ x. x ++ between) w.2 ∙ append_assoc start w.0 between)
  woven-others start (x ∷ own) seen between w o = (w.0, w.1, woven-others (start ++ w.0 ++ x ∷ []) own seen between w.2 o)

  pub woven-on : (start own seen more last : List (Entry O M)) → IsWoven others start own seen → IsWoven others seen more last → IsWoven others start (own ++ more) last
  woven-on start own seen [] last w v = subst (IsWoven others start (own ++ [])) (sym v.2) (subst (λ o. IsWoven others start o (seen ++ v.0)) (sym (append-nil own)) (woven-others start own seen v.0 w v.1))
  woven-on start own seen (e ∷ more) last w v = subst (λ o. IsWoven others start o last) (append_assoc own (e ∷ []) more) (woven-on start (own ++ e ∷ []) (seen ++ v.0 ++ e ∷ []) more last (woven-more start own seen v.0 e w v.1) v.2)

-- what was seen grows
module _ {O M : Type 0} (others : List (Entry O M) → Type 0) where
  regroup : (a b : List (Entry O M)) (x : Entry O M) (c : List (Entry O M)) → (a ++ b ++ x ∷ []) ++ c ≡ a ++ (b ++ x ∷ [] ++ c)
  regroup a b x c = ap (λ y. y ++ c) (append_assoc a b (x ∷ [])) ∙ append_assoc a (b ++ x ∷ []) c

  pub woven-longer : (start own seen : List (Entry O M)) → IsWoven others start own seen → (more : List (Entry O M)) × (seen ≡ start ++ more)
  woven-longer start [] seen w = (w.0, w.2)
  woven-longer start (e ∷ own) seen w = let l = woven-longer (start ++ w.0 ++ e ∷ []) own seen w.2 in (w.0 ++ e ∷ [] ++ l.0, l.1 ∙ regroup start w.0 e l.0)

-- alone, what was seen is the start and the own entries behind it
pub woven-alone : {O M : Type 0} (start own seen : List (Entry O M)) → IsWoven IsNothing start own seen → seen ≡ start ++ own
woven-alone start [] seen w = w.2 ∙ ap (λ x. start ++ x) w.1
woven-alone start (e ∷ own) seen w = woven-alone (start ++ w.0 ++ e ∷ []) own seen w.2 ∙ (ap (λ x. (start ++ x ++ e ∷ []) ++ own) w.1 ∙ (ap (λ x. (x ++ e ∷ []) ++ own) (append-nil start) ∙ append_assoc start (e ∷ []) own))

pub nothing-others : (O M : Type 0) → AreOthers (IsNothing {O = O} {M = M})
nothing-others O M = record { nothing = refl; joined = λ a b p q. ap (λ x. x ++ b) p ∙ q }
