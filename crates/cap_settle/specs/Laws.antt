-- What a value says once its new objects have handles: its data are the answer's, and it fits as the answer did.
use Rattle.std.specs.Prelude.{◌≡◌, ℕ, List, Option, Some, slice_get, option_map}
use Rattle.cap_names.specs.declared.identifiers.Handle.{Handle}
use Rattle.cap_ops.specs.declared.arrows.End.{End}
use Rattle.cap_ops.specs.declared.arrows.End.TheVariants.{New}
use Rattle.cap_ops.specs.declared.keys.Out.{Out}
use Rattle.cap_ops.specs.Values.{FitsWithAnswer}
use Rattle.cap_ops.specs.Arrows.{ValueOver, over, olds, named, value_of, out_value}
use Rattle.cap_ops.specs.Told.{Tells, end_object}
use Rattle.cap_settle.specs.Settled.{settled_end, settled}

-- what was told stays, and the handles after the first ones tell the new objects in order
pub record TellsNew {O : Type 0} (told : Handle → Option O) (fresh : List O) (count : ℕ) (told' : Handle → Option O) : Type 0 where
  pub stays : (h : Handle) (o : O) → told h ≡ Some o → told' h ≡ Some o
  pub news : (k : ℕ) (o : O) → slice_get fresh k ≡ Some o → told' (settled_end count (New k)) ≡ Some o

-- a value keeps its data
abbrev pub SettledTells : Type 0 → Type 0 → Type 0
SettledTells O M = (told : Handle → Option O) (fresh : List O) (count : ℕ) (told' : Handle → Option O) → TellsNew told fresh count told' → (v : ValueOver End M) (d : ValueOver O M)
    → Tells (end_object told fresh) v d → Tells told' (named (settled_end count) v) d

-- the value of an answer is the answer's with handles for its ends
abbrev pub SettledValue : Type 0 → Type 0
SettledValue M = (count : ℕ) (out : Out M) → value_of (settled count out) ≡ option_map (named (settled_end count)) (out_value out)

-- a value has the operation's sort and ends as its answer had
abbrev pub SettledFits : Type 0 → Type 0
SettledFits M = (count p op : ℕ) (args : List (ValueOver Handle M)) (v : ValueOver End M) → FitsWithAnswer (over p) op (olds args) v → FitsWithAnswer (over p) op args (named (settled_end count) v)
