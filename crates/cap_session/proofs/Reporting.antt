-- Histories and plans, seat by seat.
use Rattle.std.proofs.Common.{◌≡◌, suc, List, [], ◌∷◌, ◌++◌, length, reverse, Option, Some, None, sym, ap, ◌∙◌, append_assoc, arith}
use Rattle.std.specs.Prelude.{option_map}
use Rattle.std.specs.List.{filter_map, cons_option}
use Rattle.std.proofs.lemmas.List.{append-nil, length-append, reverse-append, reverse-reverse}
use Rattle.cap_ops.specs.declared.plans.Plan.{Plan}
use Rattle.cap_data.specs.declared.data.ObjData.{ObjData}
use Rattle.cap_data.specs.declared.data.MorData.{MorData}
use Rattle.cap_history.specs.declared.reading.Finality.{Finality}
use Rattle.cap_history.specs.Reading.{finality}
use Rattle.cap_report.specs.declared.report.History.{History}
use Rattle.cap_commands.specs.Seats.{AtSeat}
use Rattle.cap_traces.specs.Runs.{histories_from}

abbrev pub OfHistories : Type 0
OfHistories = List (History ObjData MorData)

abbrev pub plan_of : AtSeat → Option Plan
plan_of s = option_map (λ (f : Finality). f.plan) (finality s.seen)

-- histories, and those of the seats that are left, the first of them last
abbrev pub with_histories : OfHistories → List AtSeat → OfHistories
with_histories hs left = hs ++ histories_from (length hs) (reverse left)

abbrev pub with_plans : List Plan → List AtSeat → List Plan
with_plans plans left = plans ++ filter_map plan_of (reverse left)

last-first : (left : List AtSeat) (s : AtSeat) → reverse (left ++ s ∷ []) ≡ s ∷ reverse left
last-first left s = reverse-append left (s ∷ [])

pub one_history : (hs : OfHistories) (left : List AtSeat) (s : AtSeat) → with_histories (hs ++ record { cat = record { 0 = length hs }; entries = s.seen } ∷ []) left ≡ with_histories hs (left ++ s ∷ [])
one_history hs left s =
    let h : History ObjData MorData = record { cat = record { 0 = length hs }; entries = s.seen } in
    let long : length (hs ++ h ∷ []) ≡ suc (length hs) = omega (arith, length-append hs (h ∷ [])) in
    ap (λ n. (hs ++ h ∷ []) ++ histories_from n (reverse left)) long ∙ append_assoc hs (h ∷ []) (histories_from (suc (length hs)) (reverse left))
    ∙ ap (λ ss. hs ++ histories_from (length hs) ss) (sym (last-first left s))

pub one_plan : (plans : List Plan) (left : List AtSeat) (s : AtSeat) (p : Plan) → plan_of s ≡ Some p → with_plans (plans ++ p ∷ []) left ≡ with_plans plans (left ++ s ∷ [])
one_plan plans left s p e =
    append_assoc plans (p ∷ []) (filter_map plan_of (reverse left)) ∙ ap (λ (o : Option Plan). plans ++ cons_option o (filter_map plan_of (reverse left))) (sym e) ∙ ap (λ ss. plans ++ filter_map plan_of ss) (sym (last-first left s))

pub no_plan : (plans : List Plan) (left : List AtSeat) (s : AtSeat) → plan_of s ≡ None → with_plans plans left ≡ with_plans plans (left ++ s ∷ [])
no_plan plans left s e =
    ap (λ (o : Option Plan). plans ++ cons_option o (filter_map plan_of (reverse left))) (sym e) ∙ ap (λ ss. plans ++ filter_map plan_of ss) (sym (last-first left s))

-- at first all are left, and at the end none is
pub all_left : (seats : List AtSeat) → with_histories [] (reverse seats) ≡ histories_from 0 seats
all_left seats = ap (histories_from 0) (reverse-reverse seats)

pub all_plans_left : (seats : List AtSeat) → with_plans [] (reverse seats) ≡ filter_map plan_of seats
all_plans_left seats = ap (filter_map plan_of) (reverse-reverse seats)

pub none_left : (hs : OfHistories) → with_histories hs [] ≡ hs
none_left hs = append-nil hs

pub no_plans_left : (plans : List Plan) → with_plans plans [] ≡ plans
no_plans_left plans = append-nil plans
