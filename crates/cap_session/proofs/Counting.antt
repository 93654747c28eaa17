-- Answers that count on, and chains that go on.
use Rattle.std.proofs.Common.{◌≡◌, ℕ, suc, ◌+◌, List, [], ◌∷◌, ◌++◌, length, Option, Some, None, refl, sym, ap, ◌∙◌, subst, append_assoc, arith}
use Rattle.std.proofs.lemmas.List.{append-nil}
use Rattle.cap_names.specs.declared.identifiers.CatNo.{CatNo}
use Rattle.cap_names.specs.declared.identifiers.SessionNo.{SessionNo}
use Rattle.cap_names.specs.declared.literals.MorLit.{MorLit}
use Rattle.cap_grammar.specs.declared.tree.Command.{Command}
use Rattle.cap_checked.specs.declared.tree.CheckedObj.{CheckedObj}
use Rattle.cap_data.specs.declared.data.MorData.{MorData}
use Rattle.cap_report.specs.declared.lines.LineAnswer.{LineAnswer}
use Rattle.cap_report.specs.declared.report.Done.{Done}
use Rattle.cap_report.specs.declared.situation.Bound.{Bound}
use Rattle.cap_report.specs.Named.{bound_name}
use Rattle.cap_accounts.specs.Accounts.{CountFrom, with_bound}
use Rattle.cap_commands.specs.Agreement.{Standing}
use Rattle.cap_commands.specs.Seats.{AtSeat, OfData, AreSeats, CommandRuns}
use Rattle.cap_traces.specs.Chains.{Chain}

pub counts-on : (n : ℕ) (ds : List (Done MorData)) (d : Done MorData) → CountFrom n ds → d.command ≡ n + length ds → CountFrom n (ds ++ d ∷ [])
counts-on n [] d c e = (omega (arith, e), tt)
counts-on n (x ∷ ds) d c e = (c.0, counts-on (suc n) ds d c.1 (omega (arith, e)))

-- behind a chain the same categories stand, and the same names are bound first
pub record StandsOn (S S' : Standing) : Type 0 where
  pub more : List (Bound MorData)
  pub is : S' ≡ record S { bound = S.bound ++ more }

bound-on : (S : Standing) (name : Option (List ℕ)) (a : LineAnswer MorData) → StandsOn S (with_bound S name a)
bound-on S None a = record { more = []; is = ap (λ b. record S { bound = b }) (sym (append-nil S.bound)) }
bound-on S (Some name) a = record { more = record { name = name; answer = a } ∷ []; is = refl }

stands-more : (S T U : Standing) → StandsOn S T → StandsOn T U → StandsOn S U
stands-more S T U s t = record {
  more = s.more ++ t.more;
  is = t.is ∙ ap (λ (V : Standing). record V { bound = V.bound ++ t.more }) s.is ∙ ap (λ b. record S { bound = b }) (append_assoc S.bound s.more t.more);
}

module _ (others : List OfData → Type 0) (session : SessionNo) where
  pub chain-on : (S between : Standing) (seats middle seats' : List AtSeat) (cs : List (Command CheckedObj MorLit)) (c : Command CheckedObj MorLit) (events own : List (CatNo × OfData))
      (answers : List (LineAnswer MorData)) (a : LineAnswer MorData) → Chain others session S seats cs events answers between middle → CommandRuns others session between middle c own a seats'
      → AreSeats session between seats' → Chain others session S seats (cs ++ c ∷ []) (events ++ own) (answers ++ a ∷ []) (with_bound between (bound_name c) a) seats'
  chain-on S between seats middle seats' [] c events own answers a C runs are = (
    own,
    [],
    a,
    [],
    seats',
    ap (λ es. es ++ own) C.0 ∙ sym (append-nil own),
    ap (λ answers. answers ++ a ∷ []) C.1,
    subst (λ ss. CommandRuns others session S ss c own a seats') C.3 (subst (λ T. CommandRuns others session T middle c own a seats') C.2 runs),
    subst (λ T. AreSeats session T seats') C.2 are,
    (refl, refl, ap (λ T. with_bound T (bound_name c) a) C.2, refl),
  )
  chain-on S between seats middle seats' (d ∷ cs) c events own answers a (first, later, b, rest, next, e, f, first_runs, first_are, chain) runs are = (
    first,
    later ++ own,
    b,
    rest ++ a ∷ [],
    next,
    ap (λ es. es ++ own) e ∙ append_assoc first later own,
    ap (λ answers. answers ++ a ∷ []) f,
    first_runs,
    first_are,
    chain-on (with_bound S (bound_name d) b) between next middle seats' cs c later own rest a chain runs are,
  )

  pub stands-on : (S S' : Standing) (seats seats' : List AtSeat) (cs : List (Command CheckedObj MorLit)) (events : List (CatNo × OfData)) (answers : List (LineAnswer MorData))
      → Chain others session S seats cs events answers S' seats' → StandsOn S S'
  stands-on S S' seats seats' [] events answers C = record { more = []; is = C.2 ∙ ap (λ b. record S { bound = b }) (sym (append-nil S.bound)) }
  stands-on S S' seats seats' (c ∷ cs) events answers (first, later, a, rest, between, e, f, runs, are, chain) =
      stands-more S (with_bound S (bound_name c) a) S' (bound-on S (bound_name c) a) (stands-on (with_bound S (bound_name c) a) S' between seats' cs later rest chain)
