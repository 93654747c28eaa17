-- Arguments, one more at a time.
use Rattle.std.proofs.Common.{◌≡◌, ℕ, zero, suc, ◌+◌, ◌<◌, ◌≤◌, List, [], ◌∷◌, ◌++◌, length, take, get_or, subst, add-one}
use Rattle.std.proofs.Math.Seq.{take-suc}
use Rattle.std.proofs.lemmas.List.{take_all}
use Rattle.cap_grammar.specs.declared.tree.ArgTok.{ArgTok}
use Rattle.cap_ops.specs.declared.keys.Arg.{Arg}
use Rattle.cap_report.specs.declared.situation.Situation.{Situation}
use Rattle.cap_accounts.specs.Commands.{IsArgument, AreArguments}

are-more : {X T M : Type 0} (S : Situation X T M) (p : ℕ) (tokens : List ArgTok) (args : List (Arg M)) (t : ArgTok) (a : Arg M) → AreArguments S p tokens args → IsArgument S p t a → AreArguments S p (tokens ++ t ∷ []) (args ++ a ∷ [])
are-more S p [] [] t a h is = (is, tt)
are-more S p [] (x ∷ args) t a h is = absurd h
are-more S p (u ∷ tokens) [] t a h is = absurd h
are-more S p (u ∷ tokens) (x ∷ args) t a h is = (h.0, are-more S p tokens args t a h.1 is)

pub one_more : {X T M : Type 0} (S : Situation X T M) (p : ℕ) (tokens : List ArgTok) (args : List (Arg M)) (i : ℕ) (d : ArgTok) (a : Arg M) → i < length tokens → AreArguments S p (take i tokens) args → IsArgument S p (get_or tokens i d) a
    → AreArguments S p (take (i + 1) tokens) (args ++ a ∷ [])
one_more S p tokens args i d a h before is = rw (add-one i, take-suc tokens i d h) (are-more S p (take i tokens) args (get_or tokens i d) a before is)

pub all_given : {X T M : Type 0} (S : Situation X T M) (p : ℕ) (tokens : List ArgTok) (args : List (Arg M)) (i : ℕ) → length tokens ≤ i → AreArguments S p (take i tokens) args → AreArguments S p tokens args
all_given S p tokens args i h are = subst (λ ts. AreArguments S p ts args) (take_all i tokens h) are
