-- The first token that cannot come is the first fault.
use Rattle.std.proofs.Common.{◌≡◌, ℕ, zero, suc, ◌+◌, ◌-◌, ◌<◌, ◌≤◌, List, [], ◌∷◌, ◌++◌, length, take, drop, replicate, get_or, Bool, true, Option, Some, None, refl, sym, ap, ◌∙◌, subst, arith}
use Rattle.std.specs.List.{All}
use Rattle.std.proofs.lemmas.List.{append-nil, take_all, take_more, take-append-drop}
use Rattle.std.proofs.lemmas.List.Elements.{All-nil, All-cons, All-replicate}
use Rattle.cap_ops.specs.Offered.{word_of}
use Rattle.cap_ops.specs.declared.plans.Kind.TheVariants.{Mat}
use Rattle.cap_ops.specs.declared.plans.TheConstants.{OPERATIONS, NO_PLAN, MOST_WEIGHT}
use Rattle.std.specs.Prelude.{codes}
use Rattle.cap_cert.specs.declared.machine.Next.{Next}
use Rattle.cap_cert.specs.declared.machine.Next.TheVariants as next
use Rattle.cap_cert.specs.declared.machine.State.{State}
use Rattle.cap_cert.specs.Texts.{Way, ByNothing, Spelled, operation_word}
use Rattle.cap_cert.specs.Reading.{line_end, certs_tokens, IsNumberWithin, IsWay, IsSpelled, IsCertsText, GoesOn, IsFaultAt}
use Rattle.cap_cert.specs.Machine.{is_number, is_word_text, is_name, step, run, begun, may_end, state_of, next_by, read_behind, IsInside, IsInsideNext}
use Rattle.cap_cert.proofs.WordTests.{number_only, name_only}
use Rattle.cap_cert.proofs.OneToken.{at}
use Rattle.cap_cert.proofs.Complete.{certs_read, ops_tokens}
use Rattle.cap_cert.proofs.Sound.{AtStart, AtLastEnd, AtOpLine, AtOpEnd, AtBound, AtRule, AtWay, AtOpName, AtLine, AtRegEnd, AtWeight, AtRegName, AtHeadEnd, AtKind, AtName, AtVersion, Rests, RestsOf, arrives}

one_more : (n : ℕ) → suc n ≡ n + 1
one_more n = omega arith

pub run_append : (strict : Bool) (o : Option State) (xs ys : List (List ℕ)) → run strict o (xs ++ ys) ≡ run strict (run strict o xs) ys
run_append strict None [] ys = refl
run_append strict None (x ∷ xs) ys = refl
run_append strict (Some s) [] ys = refl
run_append strict (Some s) (x ∷ xs) ys = run_append strict (step strict s x) xs ys

run_none : (strict : Bool) (xs : List (List ℕ)) → run strict None xs ≡ None
run_none strict [] = refl
run_none strict (x ∷ xs) = refl

-- from the end of a front back to its beginning
pub record ComesFrom (strict : Bool) (s : State) (front : List (List ℕ)) (after : State) : Type 0 where
  pub inside : IsInside strict after
  pub back : (more : List (List ℕ)) → RestsOf strict after more → RestsOf strict s (front ++ more)

comes_on : (strict : Bool) (s : State) (t : List ℕ) (front : List (List ℕ)) (after : State) (o : Option State) → IsInside strict s → step strict s t ≡ o → ((mid : State) → o ≡ Some mid → IsInside strict mid → ComesFrom strict mid front after) → run strict o front ≡ Some after → ComesFrom strict s (t ∷ front) after
comes_on strict s t front after None inside e more h = absurd (cc (h, run_none strict front))
comes_on strict s t front after (Some mid) inside e more h =
    let one = arrives strict s.read s.next t mid inside e in
    let others = more mid refl one.inside in
    record { inside = others.inside; back = λ rest r. one.back (front ++ rest) (others.back rest r) }

pub comes_from : (strict : Bool) (s : State) (front : List (List ℕ)) (after : State) → IsInside strict s → run strict (Some s) front ≡ Some after → ComesFrom strict s front after
comes_from strict s [] after inside h = let e : s ≡ after = cc in subst (ComesFrom strict s []) e (record { inside = inside; back = λ more r. r })
comes_from strict s (t ∷ front) after inside h =
    comes_on strict s t front after (step strict s t) inside refl (λ mid e here. comes_from strict mid front after here (ap (λ o. run strict o front) (sym e) ∙ h)) h

-- a certificate that says nothing
abbrev pub one_text : List ℕ
one_text = codes "1"

abbrev pub name_text : List ℕ
name_text = codes "V"

abbrev pub all_missing : ℕ → List Way
all_missing n = replicate n ByNothing

missing_ways : (strict : Bool) (n : ℕ) → All (IsWay strict) (all_missing n)
missing_ways strict n = All-replicate (IsWay strict) n ByNothing tt

length-missing : (n : ℕ) → length (all_missing n) ≡ n
length-missing zero = refl
length-missing (suc n) = ap suc (length-missing n)

one_is : is_number one_text ≡ true
unfolding is_number
one_is = refl

name_is_free : is_name name_text ≡ true
unfolding is_name is_word_text
name_is_free = refl

one_within : (strict : Bool) (low high : ℕ) → low ≤ 1 → 1 ≤ high → IsNumberWithin strict low high one_text
one_within strict low high h k = record { number = number_only one_text one_is; from = λ e. h; to = λ e. k }

abbrev pub smallest : Spelled
smallest = record { version = one_text; name = name_text; kind = Mat; regs = []; ways = all_missing OPERATIONS }

smallest_is : (strict : Bool) → IsSpelled strict smallest
smallest_is strict = record { version = number_only one_text one_is; first_version = refl; name = name_only name_text name_is_free; regs = tt; all_ways = refl; ways = missing_ways strict OPERATIONS }

-- from each state something may come
abbrev pub Comes : (List (List ℕ) → Type 0) → Type 0
Comes P = (ts : List (List ℕ)) × P ts

behind : (t : List ℕ) (P : List (List ℕ) → Type 0) → Comes P → Comes (λ ts. (rest : List (List ℕ)) × (ts ≡ t ∷ rest) × P rest)
behind t P more = (t ∷ more.0, (more.0, refl, more.1))

start_comes : (strict : Bool) (n : ℕ) → (strict ≡ true → n ≤ 16) → Comes (AtStart strict n)
start_comes strict zero room =
    (certs_tokens (smallest ∷ []), record { certs = smallest ∷ []; each = All-cons (IsSpelled strict) smallest [] (smallest_is strict) (All-nil (IsSpelled strict)); few = λ s. omega arith; some = omega arith; tokens = refl })
start_comes strict (suc n) room = ([], record { certs = []; each = All-nil (IsSpelled strict); few = λ s. let m = room s in omega (arith, m); some = omega arith; tokens = refl })

last_comes : (strict : Bool) (n : ℕ) → (strict ≡ true → n < 16) → Comes (AtLastEnd strict n)
last_comes strict n room = behind line_end (AtStart strict (suc n)) (start_comes strict (suc n) (λ s. let m = room s in omega (arith, m)))

op_line_comes : (strict : Bool) (n i : ℕ) → (strict ≡ true → n < 16) → i ≤ OPERATIONS → Comes (AtOpLine strict n i)
op_line_comes strict n i room most =
    let last = last_comes strict n room in
    let ways : List Way = all_missing (OPERATIONS - i) in
    (ops_tokens i ways ++ codes "end" ∷ last.0, record { ways = ways; rest = last.0; count = omega (arith, most, length-missing (OPERATIONS - i)); each = missing_ways strict (OPERATIONS - i); tokens = refl; last = last.1 })

op_end_comes : (strict : Bool) (n i : ℕ) → (strict ≡ true → n < 16) → i < OPERATIONS → Comes (AtOpEnd strict n i)
op_end_comes strict n i room inside = behind line_end (AtOpLine strict n (suc i)) (op_line_comes strict n (suc i) room (omega (arith, inside)))

bound_comes : (strict : Bool) (n i : ℕ) → (strict ≡ true → n < 16) → i < OPERATIONS → Comes (AtBound strict n i)
bound_comes strict n i room inside =
    let more = behind one_text (AtOpEnd strict n i) (op_end_comes strict n i room inside) in
    (more.0, (one_text, one_within strict 0 NO_PLAN (omega arith) (omega arith), more.1))

rule_comes : (strict : Bool) (n i : ℕ) → (strict ≡ true → n < 16) → i < OPERATIONS → Comes (AtRule strict n i)
rule_comes strict n i room inside =
    let more = behind one_text (AtBound strict n i) (bound_comes strict n i room inside) in
    (more.0, (one_text, one_within strict 1 59 (omega arith) (omega arith), more.1))

way_comes : (strict : Bool) (n i : ℕ) → (strict ≡ true → n < 16) → i < OPERATIONS → Comes (AtWay strict n i)
way_comes strict n i room inside =
    let end = op_end_comes strict n i room inside in
    (codes "missing" ∷ end.0, record { way = ByNothing; rest = end.0; is = tt; tokens = refl; end = end.1 })

op_name_comes : (strict : Bool) (n i : ℕ) → (strict ≡ true → n < 16) → i < OPERATIONS → Comes (AtOpName strict n i)
op_name_comes strict n i room inside = behind (operation_word i) (AtWay strict n i) (way_comes strict n i room inside)

line_comes : (strict : Bool) (n k : ℕ) → (strict ≡ true → n < 16) → Comes (AtLine strict n k)
line_comes strict n k room =
    let ops = op_line_comes strict n 0 room (omega arith) in
    (ops.0, record { regs = []; rest = ops.0; are = tt; tokens = refl; ops = ops.1 })

reg_end_comes : (strict : Bool) (n p : ℕ) → (strict ≡ true → n < 16) → Comes (AtRegEnd strict n p)
reg_end_comes strict n p room = behind line_end (AtLine strict n (suc p)) (line_comes strict n (suc p) room)

weight_comes : (strict : Bool) (n p : ℕ) → (strict ≡ true → n < 16) → Comes (AtWeight strict n p)
weight_comes strict n p room =
    let more = behind one_text (AtRegEnd strict n p) (reg_end_comes strict n p room) in
    (more.0, (one_text, one_within strict 1 MOST_WEIGHT (omega arith) (omega arith), more.1))

reg_name_comes : (strict : Bool) (n k : ℕ) → (strict ≡ true → n < 16) → k < OPERATIONS → Comes (AtRegName strict n k)
reg_name_comes strict n k room inside =
    let more = behind (operation_word k) (AtWeight strict n k) (weight_comes strict n k room) in
    (more.0, (k, omega arith, inside, more.1))

head_end_comes : (strict : Bool) (n : ℕ) → (strict ≡ true → n < 16) → Comes (AtHeadEnd strict n)
head_end_comes strict n room = behind line_end (AtLine strict n 0) (line_comes strict n 0 room)

kind_comes : (strict : Bool) (n : ℕ) → (strict ≡ true → n < 16) → Comes (AtKind strict n)
kind_comes strict n room = let more = behind (word_of Mat) (AtHeadEnd strict n) (head_end_comes strict n room) in (more.0, (Mat, more.1))

name_comes : (strict : Bool) (n : ℕ) → (strict ≡ true → n < 16) → Comes (AtName strict n)
name_comes strict n room = let more = behind name_text (AtKind strict n) (kind_comes strict n room) in (more.0, (name_text, name_only name_text name_is_free, more.1))

version_comes : (strict : Bool) (n : ℕ) → (strict ≡ true → n < 16) → Comes (AtVersion strict n)
version_comes strict n room = let more = behind one_text (AtName strict n) (name_comes strict n room) in (more.0, (one_text, number_only one_text one_is, refl, more.1))

comes : (strict : Bool) (n : ℕ) (from : Next) → IsInsideNext strict n from → Comes (Rests strict n from)
comes strict n next.Start inside = start_comes strict n inside
comes strict n next.Version inside = version_comes strict n inside
comes strict n next.Name inside = name_comes strict n inside
comes strict n next.Kind inside = kind_comes strict n inside
comes strict n next.HeadEnd inside = head_end_comes strict n inside
comes strict n (next.Line k) inside = line_comes strict n k inside.0
comes strict n (next.RegName k) inside = reg_name_comes strict n k inside.0 inside.1
comes strict n (next.Weight p) inside = weight_comes strict n p inside.0
comes strict n (next.RegEnd p) inside = reg_end_comes strict n p inside.0
comes strict n (next.OpLine i) inside = op_line_comes strict n i inside.0 inside.1
comes strict n (next.OpName i) inside = op_name_comes strict n i inside.0 inside.1
comes strict n (next.Way i) inside = way_comes strict n i inside.0 inside.1
comes strict n (next.Rule i) inside = rule_comes strict n i inside.0 inside.1
comes strict n (next.Bound i) inside = bound_comes strict n i inside.0 inside.1
comes strict n (next.OpEnd i) inside = op_end_comes strict n i inside.0 inside.1
comes strict n next.LastEnd inside = last_comes strict n inside

pub begun_inside : (strict : Bool) → IsInside strict begun
begun_inside strict = λ s. omega arith

text_of_start : (strict : Bool) (ts : List (List ℕ)) → AtStart strict 0 ts → IsCertsText strict ts
text_of_start strict ts a = record { certs = a.certs; are = record { some = omega (arith, a.some); few = λ s. let m = a.few s in omega (arith, m); each = a.each }; tokens = a.tokens }

pub goes_on : (strict : Bool) (front : List (List ℕ)) (s : State) → run strict (Some begun) front ≡ Some s → GoesOn strict front
goes_on strict front s h =
    let from = comes_from strict begun front s (begun_inside strict) h in
    let more = comes strict s.read s.next from.inside in
    record { more = more.0; text = text_of_start strict (front ++ more.0) (from.back more.0 more.1) }

-- a text of certificates is read to its end
pub record IsReadTo (strict : Bool) (ts : List (List ℕ)) : Type 0 where
  pub read : ℕ
  pub some : 1 ≤ read
  pub runs : run strict (Some begun) ts ≡ Some (at read next.Start)

pub text_read : (strict : Bool) (ts : List (List ℕ)) → IsCertsText strict ts → IsReadTo strict ts
text_read strict ts text =
    let n : ℕ = 0 + length text.certs in
    let e : certs_tokens text.certs ++ [] ≡ ts = append-nil (certs_tokens text.certs) ∙ sym text.tokens in
    record {
      read = n;
      some = omega (arith, text.are.some);
      runs = ap (run strict (Some begun)) (sym e) ∙ certs_read strict 0 text.certs [] text.are.each (λ s. let m = text.are.few s in omega (arith, m));
    }

none_some : {A : Type 0} (x : A) → None ≡ Some x → ⊥
none_some x h = cc (h)

pub no_fault : (strict : Bool) (ts : List (List ℕ)) (s : State) → run strict (Some begun) ts ≡ Some s → may_end s → IsCertsText strict ts
no_fault strict ts s h end =
    let from = comes_from strict begun ts s (begun_inside strict) h in
    let some : 1 ≤ s.read = end.1 in
    let same : at s.read next.Start ≡ s = ap (at s.read) (sym end.0) in
    let room : IsInside strict (at s.read next.Start) = subst (IsInside strict) (sym same) from.inside in
    let here : AtStart strict s.read [] = record { certs = []; each = All-nil (IsSpelled strict); few = λ e. let m = room e in omega (arith, m); some = omega (arith, some); tokens = refl } in
    let there : RestsOf strict s [] = subst (λ x. RestsOf strict x []) same here in
    subst (IsCertsText strict) (append-nil ts) (text_of_start strict (ts ++ []) (from.back [] there))

pub fault_end : (strict : Bool) (ts : List (List ℕ)) (s : State) → run strict (Some begun) ts ≡ Some s → (may_end s → ⊥) → IsFaultAt strict ts (length ts)
fault_end strict ts s h ends =
    record {
      within = omega arith;
      before = goes_on strict (take (length ts) ts) s (ap (run strict (Some begun)) (take_all (length ts) ts (omega arith)) ∙ h);
      after = λ less. absurd (omega (arith, less));
      none = λ text.
          let r = text_read strict ts text in
          let e : at r.read next.Start ≡ s = let p : Some (at r.read next.Start) ≡ Some s = sym r.runs ∙ h in cc in
          ends (subst may_end e (refl, r.some));
    }

pub fault_inside : (strict : Bool) (ts : List (List ℕ)) (n : ℕ) (s : State) → n < length ts → run strict (Some begun) (take n ts) ≡ Some s → step strict s (get_or ts n []) ≡ None → IsFaultAt strict ts n
fault_inside strict ts n s less h stops =
    let e : take (suc n) ts ≡ take n ts ++ get_or ts n [] ∷ [] = ap (λ k. take k ts) (one_more n) ∙ take_more ts n [] less in
    let dead : (more : List (List ℕ)) → run strict (Some begun) (take (suc n) ts ++ more) ≡ None =
    λ more.
    run_append strict (Some begun) (take (suc n) ts) more
    ∙ ap (λ o. run strict o more) (ap (run strict (Some begun)) e ∙ run_append strict (Some begun) (take n ts) (get_or ts n [] ∷ []) ∙ ap (λ o. run strict o (get_or ts n [] ∷ [])) h ∙ ap (λ o. run strict o []) stops ∙ run_none strict [])
    ∙ run_none strict more
    in
    let after : GoesOn strict (take (suc n) ts) → ⊥ = λ g. let r = text_read strict (take (suc n) ts ++ g.more) g.text in none_some (at r.read next.Start) (sym (dead g.more) ∙ r.runs) in
    record {
      within = omega (arith, less);
      before = goes_on strict (take n ts) s h;
      after = λ _. after;
      none = λ text. after (record { more = drop (suc n) ts; text = subst (IsCertsText strict) (sym (take-append-drop (suc n) ts)) text });
    }

-- how many certificates are read
behind_little : (n : ℕ) (from : Next) → read_behind n from ≤ n + 1
behind_little n next.LastEnd = omega arith
behind_little n next.Start = omega arith
behind_little n next.Version = omega arith
behind_little n next.Name = omega arith
behind_little n next.Kind = omega arith
behind_little n next.HeadEnd = omega arith
behind_little n (next.Line place) = omega arith
behind_little n (next.RegName place) = omega arith
behind_little n (next.Weight place) = omega arith
behind_little n (next.RegEnd place) = omega arith
behind_little n (next.OpLine place) = omega arith
behind_little n (next.OpName place) = omega arith
behind_little n (next.Way place) = omega arith
behind_little n (next.Rule place) = omega arith
behind_little n (next.Bound place) = omega arith
behind_little n (next.OpEnd place) = omega arith

read_of : (n : ℕ) (o : Option Next) (after : State) → state_of n o ≡ Some after → after.read ≡ n
read_of n None after h = absurd (none_some after h)
read_of n (Some to) after h = let e : at n to ≡ after = cc in ap (λ s. s.read) (sym e)

pub read_little : (strict : Bool) (s after : State) (t : List ℕ) → step strict s t ≡ Some after → after.read ≤ s.read + 1
read_little strict s after t h = omega (arith, read_of (read_behind s.read s.next) (next_by strict s.read s.next t) after h, behind_little s.read s.next)

-- one token more is read
pub run_more : (strict : Bool) (ts : List (List ℕ)) (n : ℕ) (s after : State) → n < length ts → run strict (Some begun) (take n ts) ≡ Some s → step strict s (get_or ts n []) ≡ Some after → run strict (Some begun) (take (n + 1) ts) ≡ Some after
run_more strict ts n s after less h goes =
    let e : take (n + 1) ts ≡ take n ts ++ get_or ts n [] ∷ [] = take_more ts n [] less in
    ap (run strict (Some begun)) e ∙ run_append strict (Some begun) (take n ts) (get_or ts n [] ∷ []) ∙ ap (λ o. run strict o (get_or ts n [] ∷ [])) h ∙ ap (λ o. run strict o []) goes

pub inside_more : (strict : Bool) (s after : State) (t : List ℕ) → IsInside strict s → step strict s t ≡ Some after → IsInside strict after
inside_more strict s after t inside h = (arrives strict s.read s.next t after inside h).inside

pub runs_whole : (strict : Bool) (ts : List (List ℕ)) (n : ℕ) (s : State) → length ts ≤ n → run strict (Some begun) (take n ts) ≡ Some s → run strict (Some begun) ts ≡ Some s
runs_whole strict ts n s most h = ap (run strict (Some begun)) (sym (take_all n ts most)) ∙ h
