-- One handle more among those that are taken once each.
use Rattle.std.proofs.Common.{◌≡◌, ℕ, ◌+◌, ◌<◌, ◌≤◌, Bool, true, false, List, [], ◌∷◌, ◌++◌, length, take, ap, sym, ◌∙◌, append-nil}
use Rattle.std.specs.Prelude.{if◌then◌else◌}
use Rattle.std.specs.List.{slice_index_or}
use Rattle.std.proofs.lemmas.List.{take_more}
use Rattle.cap_names.specs.declared.identifiers.Handle.{Handle}
use Rattle.cap_ops.specs.Once.{is_among}
use Rattle.cap_ops.specs.Mentions.{number_of, distinct}
use Rattle.cap_ops.proofs.Once.{once-snoc}

pub distinct-more : (hs : List Handle) (i : ℕ) (h : Handle) → i < length hs → distinct (take (i + 1) hs) ≡ distinct (take i hs) ++ (if is_among number_of (take i hs) (slice_index_or hs i h) then [] else slice_index_or hs i h ∷ [])
distinct-more hs i h lt = ap distinct (take_more hs i h lt) ∙ once-snoc number_of [] (take i hs) (slice_index_or hs i h)

module _ (hs : List Handle) (i : ℕ) (h : Handle) (lt : i < length hs) (b : Bool) (is : b ≡ is_among number_of (take i hs) (slice_index_or hs i h)) where
  pub first-mention : b ≡ false → distinct (take (i + 1) hs) ≡ distinct (take i hs) ++ slice_index_or hs i h ∷ []
  first-mention e = distinct-more hs i h lt ∙ ap (λ c. distinct (take i hs) ++ (if c then [] else slice_index_or hs i h ∷ [])) (sym is ∙ e)

  pub later-mention : b ≡ true → distinct (take (i + 1) hs) ≡ distinct (take i hs)
  later-mention e = distinct-more hs i h lt ∙ (ap (λ c. distinct (take i hs) ++ (if c then [] else slice_index_or hs i h ∷ [])) (sym is ∙ e) ∙ append-nil (distinct (take i hs)))
