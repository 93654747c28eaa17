-- How own entries stand among those of others.
use Rattle.std.specs.Prelude.{◌≡◌, List, [], ◌∷◌, ◌++◌}
use Rattle.cap_history.specs.declared.entries.Entry.{Entry}

-- nothing stands between two entries of one's own
abbrev pub IsNothing : {O M : Type 0} → List (Entry O M) → Type 0
IsNothing between = between ≡ []

module _ {O M : Type 0} (others : List (Entry O M) → Type 0) where
  -- behind the start, own entries stand in what was seen, each once and in their order, and between them what others may have put
  abbrev pub IsWoven : List (Entry O M) → List (Entry O M) → List (Entry O M) → Type 0
  IsWoven start [] seen = (between : List (Entry O M)) × others between × (seen ≡ start ++ between)
  IsWoven start (e ∷ own) seen = (between : List (Entry O M)) × others between × IsWoven (start ++ between ++ e ∷ []) own seen

  -- what others may put may be nothing, and may come in parts
  pub record AreOthers : Type 0 where
    pub nothing : others []
    pub joined : (a b : List (Entry O M)) → others a → others b → others (a ++ b)

-- Where nobody else puts entries, what was seen is the start and one's own entries behind it.
abbrev pub WovenAlone : Type 0 → Type 0 → Type 0
WovenAlone O M = (start own seen : List (Entry O M)) → IsWoven IsNothing start own seen → seen ≡ start ++ own
