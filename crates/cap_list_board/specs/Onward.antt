-- How a board that is a list goes on.
use Rattle.std.specs.Prelude.{◌≡◌, ℕ, List, Some, slice_get}
use Rattle.std.proofs.Common.{refl, ◌∙◌}
use Rattle.cap_list_board.specs.Lists.{Lists}

-- what stands at a place stays there
abbrev pub StaysAt : {A : Type 0} → List A → List A → Type 0
StaysAt {A} xs ys = (place : ℕ) (x : A) → slice_get xs place ≡ Some x → slice_get ys place ≡ Some x

-- the limit is the same, and no object that was told, no kept entry, and no ask or put that was seen goes or changes its place
pub record GoesOn {X O M : Type 0} (s t : Lists X O M) : Type 0 where
  pub limit : t.limit ≡ s.limit
  pub objects : StaysAt s.objects t.objects
  pub entries : StaysAt s.entries t.entries
  pub seen : StaysAt s.seen t.seen

pub goes-on-none : {X O M : Type 0} (s : Lists X O M) → GoesOn s s
goes-on-none s = record { limit = refl; objects = λ i x e. e; entries = λ i x e. e; seen = λ i x e. e }

pub goes-on-more : {X O M : Type 0} (s t u : Lists X O M) → GoesOn s t → GoesOn t u → GoesOn s u
goes-on-more s t u g h = record { limit = h.limit ∙ g.limit; objects = λ i x e. h.objects i x (g.objects i x e); entries = λ i x e. h.entries i x (g.entries i x e); seen = λ i x e. h.seen i x (g.seen i x e) }
