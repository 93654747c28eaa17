use Rattle.std.proofs.lemmas.List.Elements.{same_from_all_zip}
use Rattle.cap_addclosure.proofs.Built.{ok-map}
use Rattle.cap_addclosure.proofs.entries.copied_entries.Goals as goal

pub returns : goal.returns
returns c = ok-map _ _ c.to_vec.result (λ x h. h (λ y z k. same_from_all_zip _ y z k (λ m n e. e))) c.to_vec.ensures.items_if_clones_equal
