-- The printed numbers of objects: in each category they count from 1, by first appearance in the lines. They are no handles.
use Rattle.std.specs.Prelude.{ℕ, suc, ◌==◌, Bool, if◌then◌else◌, List, [], ◌∷◌, ◌++◌, filter}
use Rattle.std.specs.List.{list_any, position_or_len}
use Rattle.cap_names.specs.declared.identifiers.Handle.{Handle}

-- the objects that have appeared, in order, each with its category
abbrev pub Seen : Type 0
Seen = List (ℕ × Handle)

abbrev pub is_of : ℕ → ℕ × Handle → Bool
is_of c x = x.0 == c

abbrev pub is_object : Handle → ℕ × Handle → Bool
is_object h x = x.1.0 == h.0

-- those of a category
abbrev pub of_category : ℕ → Seen → Seen
of_category c seen = filter (is_of c) seen

abbrev pub has_seen : Seen → ℕ → Handle → Bool
has_seen seen c h = list_any (is_object h) (of_category c seen)

-- with an object that appears
abbrev pub with_seen : Seen → ℕ → Handle → Seen
with_seen seen c h = if has_seen seen c h then seen else seen ++ (c, h) ∷ []

-- how many of its category appeared before it, and one
abbrev pub number_of : Seen → ℕ → Handle → ℕ
number_of seen c h = suc (position_or_len (is_object h) (of_category c seen))
