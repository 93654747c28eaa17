-- How `ends_fit` finds the first wrong end: place by place, with the handles of the letters met so far. `proofs/` shows that this is the first wrong end.
use Rattle.std.specs.Prelude.{ℕ, ◌+◌, ◌==◌, if◌then◌else◌, List, [], ◌∷◌, Option, Some, None, slice_get, slice_set}
use Rattle.cap_names.specs.declared.identifiers.Handle.{Handle}
use Rattle.cap_ops.specs.declared.ends.Shape.{Shape}
use Rattle.cap_ops.specs.declared.fitting.Mismatch.{Mismatch}
use Rattle.cap_ops.specs.declared.keys.Arg.{Arg}
use Rattle.cap_ops.specs.Mismatches.{Place, argument_places}

abbrev pub no_handles : List (Option Handle)
no_handles = None ∷ None ∷ None ∷ None ∷ None ∷ []

-- what comes of a place whose letter was met with this handle, or not: the place is passed, or the letter gets its handle, or this is the mismatch
abbrev pub met : Place → ℕ → Option (Option Handle) → Option Mismatch → Option Mismatch → Option Mismatch
met p n None passed kept = passed
met p n (Some None) passed kept = kept
met p n (Some (Some h)) passed kept = if h.0 == p.handle.0 then passed else Some (record { place = n + 1; left = h; right = p.handle })

-- what the places from number n on give
abbrev pub scan : List Place → List (Option Handle) → ℕ → Option Mismatch
scan [] seen n = None
scan (p ∷ ps) seen n = met p n (slice_get seen p.letter) (scan ps seen (n + 1)) (scan ps (slice_set seen p.letter (Some p.handle)) (n + 1))

abbrev pub wanted_places : {M : Type 0} → Option (Shape ℕ) → Arg M → List Place
wanted_places None a = []
wanted_places (Some s) a = argument_places s a
