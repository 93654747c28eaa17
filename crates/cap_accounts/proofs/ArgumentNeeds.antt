-- The needs of arguments, argument by argument.
use Rattle.std.proofs.Common.{◌≡◌, ℕ, ◌+◌, ◌<◌, ◌≤◌, List, [], ◌∷◌, length, drop, refl, drop-cons, add-one, get_or}
use Rattle.std.proofs.lemmas.List.{drop_all}
use Rattle.cap_grammar.specs.declared.tree.ArgTok.{ArgTok}
use Rattle.cap_grammar.specs.declared.tree.ArgTok.TheVariants.{Ref, Int}
use Rattle.cap_grammar.specs.declared.tree.IntTok.{IntTok}
use Rattle.cap_grammar.specs.declared.tree.RefTok.{RefTok}
use Rattle.cap_report.specs.declared.situation.Situation.{Situation}
use Rattle.cap_accounts.specs.Commands.{argument_needs, ref_need}

pub needs_int : {X T M : Type 0} (S : Situation X T M) (args : List ArgTok) (i : ℕ) (d : ArgTok) (n : IntTok) → i < length args → get_or args i d ≡ Int n
    → argument_needs S (drop i args) ≡ argument_needs S (drop (i + 1) args)
needs_int S args i d n h e = rw (drop-cons args i d h, add-one, e) refl

pub needs_ref : {X T M : Type 0} (S : Situation X T M) (args : List ArgTok) (i : ℕ) (d : ArgTok) (r : RefTok) → i < length args → get_or args i d ≡ Ref r
    → argument_needs S (drop i args) ≡ ref_need S r ∷ argument_needs S (drop (i + 1) args)
needs_ref S args i d r h e = rw (drop-cons args i d h, add-one, e) refl

pub needs_end : {X T M : Type 0} (S : Situation X T M) (args : List ArgTok) (i : ℕ) → length args ≤ i → argument_needs S (drop i args) ≡ []
needs_end S args i h = rw (drop_all i args h) refl
