use Rattle.std.proofs.Common.{rules, ◌≡◌, ◌++◌, ◌∷◌, [], List, length, sym, subst, ap, ◌∙◌, length-append}
use Rattle.std.specs.List.{All}
use Rattle.std.proofs.lemmas.List.{map-append}
use Rattle.cap_shares.specs.Shares.{AtTurn}
use Rattle.cap_session.specs.declared.jobs.Ended.{Ended}
use Rattle.cap_session.specs.Shares.{Returns, JoinAll, rows_of}
use Rattle.cap_session.proofs.Ends.{all-front, all-last}
use Rattle.cap_session.proofs.SharedOut.{row-belongs, all-more}
use Rattle.cap_session.proofs.shares.+join_all.Goals as goal

pub join_all-requires : goal.join_all-requires
join_all-requires t c =
    let rest = c.pop.new.self.items in
    let e : Ended = c.in-Some.field-0 in
    let rows : rows_of c.args.sessions.items ≡ rows_of rest ++ e.row.items ∷ [] = ap rows_of c.in-Some.ensures.items ∙ map-append (λ (x : Ended). x.row.items) rest (e ∷ []) in
    let all = all-front (Returns c.args.categories.now) (rows_of rest) e.row.items (subst (All (Returns c.args.categories.now)) rows c.requires) in
    let many = ap length c.in-Some.ensures.items ∙ length-append rest (e ∷ []) in
    search rules

pub join_row-requires : goal.join_row-requires
join_row-requires t c =
    let rest = c.pop.new.self.items in
    let e : Ended = c.in-Some.field-0 in
    let rows : rows_of c.args.sessions.items ≡ rows_of rest ++ e.row.items ∷ [] = ap rows_of c.in-Some.ensures.items ∙ map-append (λ (x : Ended). x.row.items) rest (e ∷ []) in
    let zip = all-last (Returns c.args.categories.now) (rows_of rest) e.row.items (subst (All (Returns c.args.categories.now)) rows c.requires) in
    row-belongs c.args.categories.now c.join_all.new.categories c.join_all.new.categories (rows_of rest) e.row.items c.in_ok-traces.ensures.joined zip

pub returns-clause-joined : goal.returns-clause-joined
returns-clause-joined t c =
    let rest = c.pop.new.self.items in
    let e : Ended = c.in-Some.field-0 in
    let rows : rows_of c.args.sessions.items ≡ rows_of rest ++ e.row.items ∷ [] = ap rows_of c.in-Some.ensures.items ∙ map-append (λ (x : Ended). x.row.items) rest (e ∷ []) in
    let zip = all-last (Returns c.args.categories.now) (rows_of rest) e.row.items (subst (All (Returns c.args.categories.now)) rows c.requires) in
    subst (λ (rs : List (List AtTurn)). JoinAll c.args.categories.now rs c.join_row.new.categories) (sym rows)
    (all-more c.args.categories.now c.join_all.new.categories c.join_row.new.categories (rows_of rest) e.row.items c.in_ok-traces.ensures.joined zip c.join_row.ensures)
