-- Meanings agree with the table of sorts and ends: an answer that has its operation's meaning has the operation's sort and ends.
use Rattle.std.specs.Prelude.{ℕ, List, [], ◌∷◌}
use Rattle.cap_laws.specs.Linear.{CategoryData}
use Rattle.cap_ops.specs.Values.{Value, object, morphism, Fits, FitsWithAnswer}
use Rattle.cap_ops.specs.Meaning.{Meaning, setting_of}

-- the objects and morphisms among the arguments are those of the category
abbrev pub AreData : {Obj Mor : Type 0} → CategoryData Obj Mor → List (Value Obj Mor) → Type 0
AreData C [] = Unit {0}
AreData C (object a ∷ args) = C.is_object a × AreData C args
AreData C (morphism f ∷ args) = C.is_morphism f × AreData C args
AreData C (_ ∷ args) = AreData C args

-- where the arguments fit, an answer with the meaning has the operation's sort and ends; so on such arguments the meaning is never empty talk
pub record MeaningFits {Obj Mor : Type 0} (C : CategoryData Obj Mor) : Type 0 where
  pub fits : (op : ℕ) (args : List (Value Obj Mor)) → Fits (setting_of C) op args → AreData C args → (v : Value Obj Mor) → Meaning C op args v → FitsWithAnswer (setting_of C) op args v
