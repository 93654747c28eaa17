-- Whether a list keeps a value for a key, or has a name.
use Rattle.std.specs.Prelude.{ℕ, List}
use Rattle.std.specs.List.{Contains}
use Rattle.cap_names.specs.declared.identifiers.Handle.{Handle}
use Rattle.cap_ops.specs.declared.keys.Key.{Key}
use Rattle.cap_ops.specs.declared.keys.Value.{Value as Answer}
use Rattle.cap_history.specs.declared.reading.Keeping.{Keeping}
use Rattle.cap_history.specs.declared.reading.Naming.{Naming}

abbrev pub HasValue : {M : Type 0} → List (Keeping M) → Key M → Answer M → Type 0
HasValue cache key v = Contains cache (record { key = key; value = v })

abbrev pub HasNoValue : {M : Type 0} → List (Keeping M) → Key M → Type 0
HasNoValue {M} cache key = (v : Answer M) → HasValue cache key v → ⊥

abbrev pub HasName : List Naming → List ℕ → Handle → Type 0
HasName names name h = Contains names (record { name = name; handle = h })

abbrev pub HasNoName : List Naming → List ℕ → Type 0
HasNoName names name = (h : Handle) → HasName names name h → ⊥
