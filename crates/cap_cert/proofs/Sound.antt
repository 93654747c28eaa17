-- What is read is spelled by certificates: what may still come from each state.
use Rattle.std.proofs.Common.{◌≡◌, ℕ, suc, ◌+◌, ◌<◌, ◌≤◌, List, [], ◌∷◌, ◌++◌, length, Bool, true, false, not, ◌&&◌, Option, Some, None, refl, sym, ap, ◌∙◌, subst, arith}
use Rattle.std.specs.Prelude.{codes, nat_lt, ◌==◌}
use Rattle.std.specs.List.{All}
use Rattle.std.proofs.lemmas.Bool.{false≢true, and_parts}
use Rattle.std.proofs.lemmas.Bool.Decides.{nat_tests}
use Rattle.std.proofs.lemmas.List.Elements.{All-nil, All-cons}
use Rattle.cap_names.specs.Words.{IsNumber}
use Rattle.cap_ops.specs.Offered.{word_of}
use Rattle.cap_ops.specs.declared.plans.Kind.{Kind}
use Rattle.cap_ops.specs.declared.plans.TheConstants.{OPERATIONS, NO_PLAN, MOST_WEIGHT}
use Rattle.cap_cert.specs.declared.machine.Next.{Next}
use Rattle.cap_cert.specs.declared.machine.Next.TheVariants as next
use Rattle.cap_cert.specs.declared.machine.State.{State}
use Rattle.cap_cert.specs.Texts.{Way, ByPrimitive, ByRule, ByNothing, Spelled, operation_word, way_words}
use Rattle.cap_cert.specs.Reading.{value, line_end, cert_tokens, certs_tokens, IsNameText, IsWeightText, IsRuleText, IsBoundText, IsWay, AreRegs, IsSpelled}
use Rattle.cap_cert.specs.Machine.{is, is_number, is_name, is_within, may_begin, kind_named, kind_goes, place_of, reg_goes, line_goes, op_goes, way_goes, go, state_of, step, IsInside, IsInsideNext}
use Rattle.cap_cert.proofs.WordTests.{lt-only, ge-only, is_only, number_only, name_only, within_only, kind_only, place_only}
use Rattle.cap_cert.proofs.OneToken.{at}
use Rattle.cap_cert.proofs.Complete.{regs_tokens, ops_tokens, last_tokens, cert_form, op_form}

-- certificates, behind n others
pub record AtStart (strict : Bool) (n : ℕ) (ts : List (List ℕ)) : Type 0 where
  pub certs : List Spelled
  pub each : All (IsSpelled strict) certs
  pub few : strict ≡ true → n + length certs ≤ 16
  pub some : 1 ≤ n + length certs
  pub tokens : ts ≡ certs_tokens certs

-- this token, and then what the next may bring
abbrev pub Behind : List ℕ → (List (List ℕ) → Type 0) → List (List ℕ) → Type 0
Behind t P ts = (rest : List (List ℕ)) × (ts ≡ t ∷ rest) × P rest

abbrev pub AtLastEnd : Bool → ℕ → List (List ℕ) → Type 0
AtLastEnd strict n ts = Behind line_end (AtStart strict (suc n)) ts

pub record AtOpLine (strict : Bool) (n i : ℕ) (ts : List (List ℕ)) : Type 0 where
  pub ways : List Way
  pub rest : List (List ℕ)
  pub count : i + length ways ≡ OPERATIONS
  pub each : All (IsWay strict) ways
  pub tokens : ts ≡ ops_tokens i ways ++ codes "end" ∷ rest
  pub last : AtLastEnd strict n rest

abbrev pub AtOpEnd : Bool → ℕ → ℕ → List (List ℕ) → Type 0
AtOpEnd strict n i ts = Behind line_end (AtOpLine strict n (suc i)) ts

abbrev pub AtBound : Bool → ℕ → ℕ → List (List ℕ) → Type 0
AtBound strict n i ts = (b : List ℕ) × IsBoundText strict b × Behind b (AtOpEnd strict n i) ts

abbrev pub AtRule : Bool → ℕ → ℕ → List (List ℕ) → Type 0
AtRule strict n i ts = (r : List ℕ) × IsRuleText strict r × Behind r (AtBound strict n i) ts

pub record AtWay (strict : Bool) (n i : ℕ) (ts : List (List ℕ)) : Type 0 where
  pub way : Way
  pub rest : List (List ℕ)
  pub is : IsWay strict way
  pub tokens : ts ≡ way_words way ++ rest
  pub end : AtOpEnd strict n i rest

abbrev pub AtOpName : Bool → ℕ → ℕ → List (List ℕ) → Type 0
AtOpName strict n i ts = Behind (operation_word i) (AtWay strict n i) ts

pub record AtLine (strict : Bool) (n k : ℕ) (ts : List (List ℕ)) : Type 0 where
  pub regs : List (ℕ × List ℕ)
  pub rest : List (List ℕ)
  pub are : AreRegs strict k regs
  pub tokens : ts ≡ regs_tokens regs ++ rest
  pub ops : AtOpLine strict n 0 rest

abbrev pub AtRegEnd : Bool → ℕ → ℕ → List (List ℕ) → Type 0
AtRegEnd strict n p ts = Behind line_end (AtLine strict n (suc p)) ts

abbrev pub AtWeight : Bool → ℕ → ℕ → List (List ℕ) → Type 0
AtWeight strict n p ts = (w : List ℕ) × IsWeightText strict w × Behind w (AtRegEnd strict n p) ts

abbrev pub AtRegName : Bool → ℕ → ℕ → List (List ℕ) → Type 0
AtRegName strict n k ts = (p : ℕ) × (k ≤ p) × (p < OPERATIONS) × Behind (operation_word p) (AtWeight strict n p) ts

abbrev pub AtHeadEnd : Bool → ℕ → List (List ℕ) → Type 0
AtHeadEnd strict n ts = Behind line_end (AtLine strict n 0) ts

abbrev pub AtKind : Bool → ℕ → List (List ℕ) → Type 0
AtKind strict n ts = (kind : Kind) × Behind (word_of kind) (AtHeadEnd strict n) ts

abbrev pub AtName : Bool → ℕ → List (List ℕ) → Type 0
AtName strict n ts = (name : List ℕ) × IsNameText name × Behind name (AtKind strict n) ts

abbrev pub AtVersion : Bool → ℕ → List (List ℕ) → Type 0
AtVersion strict n ts = (v : List ℕ) × IsNumber v × (value v ≡ 1) × Behind v (AtName strict n) ts

-- what may come from a state
abbrev pub Rests : Bool → ℕ → Next → List (List ℕ) → Type 0
Rests strict n next.Start ts = AtStart strict n ts
Rests strict n next.Version ts = AtVersion strict n ts
Rests strict n next.Name ts = AtName strict n ts
Rests strict n next.Kind ts = AtKind strict n ts
Rests strict n next.HeadEnd ts = AtHeadEnd strict n ts
Rests strict n (next.Line place) ts = AtLine strict n place ts
Rests strict n (next.RegName place) ts = AtRegName strict n place ts
Rests strict n (next.Weight place) ts = AtWeight strict n place ts
Rests strict n (next.RegEnd place) ts = AtRegEnd strict n place ts
Rests strict n (next.OpLine place) ts = AtOpLine strict n place ts
Rests strict n (next.OpName place) ts = AtOpName strict n place ts
Rests strict n (next.Way place) ts = AtWay strict n place ts
Rests strict n (next.Rule place) ts = AtRule strict n place ts
Rests strict n (next.Bound place) ts = AtBound strict n place ts
Rests strict n (next.OpEnd place) ts = AtOpEnd strict n place ts
Rests strict n next.LastEnd ts = AtLastEnd strict n ts

abbrev pub RestsOf : Bool → State → List (List ℕ) → Type 0
RestsOf strict s ts = Rests strict s.read s.next ts

-- the token comes before what may come
put : (t x : List ℕ) (P : List (List ℕ) → Type 0) (ts : List (List ℕ)) → t ≡ x → P ts → Behind x P (t ∷ ts)
put t x P ts e h = (ts, ap (λ w. w ∷ ts) e, h)

-- where a test let through
went : (b : Bool) (n : ℕ) (to : Next) (after : State) → state_of n (go b to) ≡ Some after → (b ≡ true) × (at n to ≡ after)
went true n to after h = let e : at n to ≡ after = cc in (refl, e)
went false n to after h = absurd (cc (h))

-- from a state to the next one: what may come from there may come here behind the token, and the place stays inside
pub record Arrives (strict : Bool) (n : ℕ) (from : Next) (t : List ℕ) (after : State) : Type 0 where
  pub inside : IsInside strict after
  pub back : (ts : List (List ℕ)) → RestsOf strict after ts → Rests strict n from (t ∷ ts)

arrive : (strict : Bool) (n : ℕ) (from : Next) (t : List ℕ) (m : ℕ) (to : Next) (after : State) → at m to ≡ after → IsInsideNext strict m to → ((ts : List (List ℕ)) → Rests strict m to ts → Rests strict n from (t ∷ ts)) → Arrives strict n from t after
arrive strict n from t m to after e inside back = subst (Arrives strict n from t) e (record { inside = inside; back = back })

-- a certificate whole
whole : (strict : Bool) (n : ℕ) (ts : List (List ℕ)) → (strict ≡ true → n < 16) → AtVersion strict n ts → AtStart strict n (codes "certificate" ∷ ts)
whole strict n ts room v =
    let name : AtName strict n v.3.0 = v.3.2 in
    let kind : AtKind strict n name.2.0 = name.2.2 in
    let head : AtHeadEnd strict n kind.1.0 = kind.1.2 in
    let line : AtLine strict n 0 head.0 = head.2 in
    let ops : AtOpLine strict n 0 line.rest = line.ops in
    let end : AtLastEnd strict n ops.rest = ops.last in
    let start : AtStart strict (suc n) end.0 = end.2 in
    let c : Spelled = record { version = v.0; name = name.0; kind = kind.0; regs = line.regs; ways = ops.ways } in
    let rest : List (List ℕ) = certs_tokens start.certs in
    let e-last : ops.rest ≡ line_end ∷ rest = end.1 ∙ ap (λ l. line_end ∷ l) start.tokens in
    let e-ops : line.rest ≡ ops_tokens 0 ops.ways ++ last_tokens rest = ops.tokens ∙ ap (λ l. ops_tokens 0 ops.ways ++ codes "end" ∷ l) e-last in
    let e-line : head.0 ≡ regs_tokens line.regs ++ (ops_tokens 0 ops.ways ++ last_tokens rest) = line.tokens ∙ ap (λ l. regs_tokens line.regs ++ l) e-ops in
    let e-head : kind.1.0 ≡ line_end ∷ (regs_tokens line.regs ++ (ops_tokens 0 ops.ways ++ last_tokens rest)) = head.1 ∙ ap (λ l. line_end ∷ l) e-line in
    let e-kind : name.2.0 ≡ word_of kind.0 ∷ line_end ∷ (regs_tokens line.regs ++ (ops_tokens 0 ops.ways ++ last_tokens rest)) = kind.1.1 ∙ ap (λ l. word_of kind.0 ∷ l) e-head in
    let e-name : v.3.0 ≡ name.0 ∷ word_of kind.0 ∷ line_end ∷ (regs_tokens line.regs ++ (ops_tokens 0 ops.ways ++ last_tokens rest)) = name.2.1 ∙ ap (λ l. name.0 ∷ l) e-kind in
    let e-all : codes "certificate" ∷ ts ≡ cert_tokens c ++ rest = ap (λ l. codes "certificate" ∷ l) (v.3.1 ∙ ap (λ l. v.0 ∷ l) e-name) ∙ sym (cert_form c rest) in
    let is : IsSpelled strict c = record { version = v.1; first_version = v.2; name = name.1; regs = line.are; all_ways = omega (arith, ops.count); ways = ops.each } in
    record {
      certs = c ∷ start.certs;
      each = All-cons (IsSpelled strict) c start.certs is start.each;
      few = λ s. let m = start.few s in omega (arith, m);
      some = omega arith;
      tokens = e-all;
    }

-- an operation's line whole
whole_op : (strict : Bool) (n i : ℕ) (ts : List (List ℕ)) → AtOpName strict n i ts → AtOpLine strict n i (codes "op" ∷ ts)
whole_op strict n i ts name =
    let way : AtWay strict n i name.0 = name.2 in
    let end : AtOpEnd strict n i way.rest = way.end in
    let more : AtOpLine strict n (suc i) end.0 = end.2 in
    let tail : List (List ℕ) = codes "end" ∷ more.rest in
    let e-end : way.rest ≡ line_end ∷ (ops_tokens (suc i) more.ways ++ tail) = end.1 ∙ ap (λ l. line_end ∷ l) more.tokens in
    let e-way : name.0 ≡ way_words way.way ++ line_end ∷ (ops_tokens (suc i) more.ways ++ tail) = way.tokens ∙ ap (λ l. way_words way.way ++ l) e-end in
    record {
      ways = way.way ∷ more.ways;
      rest = more.rest;
      count = omega (arith, more.count);
      each = All-cons (IsWay strict) way.way more.ways way.is more.each;
      tokens = ap (λ l. codes "op" ∷ l) (name.1 ∙ ap (λ l. operation_word i ∷ l) e-way) ∙ sym (op_form i way.way more.ways tail);
      last = more.last;
    }

-- a registered operation's line whole
whole_reg : (strict : Bool) (n k : ℕ) (ts : List (List ℕ)) → AtRegName strict n k ts → AtLine strict n k (codes "reg" ∷ ts)
whole_reg strict n k ts name =
    let p : ℕ = name.0 in
    let weight : AtWeight strict n p name.3.0 = name.3.2 in
    let end : AtRegEnd strict n p weight.2.0 = weight.2.2 in
    let line : AtLine strict n (suc p) end.0 = end.2 in
    let e-end : weight.2.0 ≡ line_end ∷ (regs_tokens line.regs ++ line.rest) = end.1 ∙ ap (λ l. line_end ∷ l) line.tokens in
    let e-weight : name.3.0 ≡ weight.0 ∷ line_end ∷ (regs_tokens line.regs ++ line.rest) = weight.2.1 ∙ ap (λ l. weight.0 ∷ l) e-end in
    record {
      regs = (p, weight.0) ∷ line.regs;
      rest = line.rest;
      are = (name.1, name.2, weight.1, line.are);
      tokens = ap (λ l. codes "reg" ∷ l) (name.3.1 ∙ ap (λ l. operation_word p ∷ l) e-weight);
      ops = line.ops;
    }

one-only : (n : ℕ) → (n == 1) ≡ true → n ≡ 1
one-only n h = grind (arith, nat_tests, h)

begins_only : (strict : Bool) (n : ℕ) → may_begin strict n ≡ true → strict ≡ true → n < 16
unfolding may_begin
begins_only false n h e = absurd (false≢true e)
begins_only true n h e = lt-only n 16 h

kind_arrives : (strict : Bool) (n : ℕ) (t : List ℕ) (after : State) (o : Option Kind) → kind_named t ≡ o → state_of n (kind_goes o) ≡ Some after → (strict ≡ true → n < 16) → Arrives strict n next.Kind t after
kind_arrives strict n t after None named h inside = absurd (cc (h))
kind_arrives strict n t after (Some kind) named h inside =
    let e : at n next.HeadEnd ≡ after = cc in
    arrive strict n next.Kind t n next.HeadEnd after e inside (λ ts r. (kind, put t (word_of kind) (AtHeadEnd strict n) ts (kind_only t kind named) r))

reg_arrives : (strict : Bool) (n k : ℕ) (t : List ℕ) (after : State) (o : Option ℕ) → place_of t ≡ o → state_of n (reg_goes k o) ≡ Some after → (strict ≡ true → n < 16) → Arrives strict n (next.RegName k) t after
reg_arrives strict n k t after None named h room = absurd (cc (h))
reg_arrives strict n k t after (Some p) named h room =
    let w = went (not (nat_lt p k)) n (next.Weight p) after h in
    let found = place_only t p named in
    arrive strict n (next.RegName k) t n (next.Weight p) after w.1 (room, found.1) (λ ts r. (p, ge-only p k w.0, found.1, put t (operation_word p) (AtWeight strict n p) ts found.0 r))

line_arrives : (strict : Bool) (n k : ℕ) (t : List ℕ) (after : State) (a b : Bool) → is (codes "reg") t ≡ a → is (codes "op") t ≡ b → state_of n (line_goes k a b) ≡ Some after → (strict ≡ true → n < 16) → Arrives strict n (next.Line k) t after
line_arrives strict n k t after true b reg op h room =
    let w = went (nat_lt k OPERATIONS) n (next.RegName k) after h in
    arrive strict n (next.Line k) t n (next.RegName k) after w.1 (room, lt-only k OPERATIONS w.0) (λ ts r. subst (λ x. AtLine strict n k (x ∷ ts)) (sym (is_only (codes "reg") t reg)) (whole_reg strict n k ts r))
line_arrives strict n k t after false b reg op h room =
    let w = went b n (next.OpName 0) after h in
    let inside : 0 < OPERATIONS = omega arith in
    arrive strict n (next.Line k) t n (next.OpName 0) after w.1 (room, inside) (λ ts r. record { regs = []; rest = t ∷ ts; are = tt; tokens = refl; ops = subst (λ x. AtOpLine strict n 0 (x ∷ ts)) (sym (is_only (codes "op") t (op ∙ w.0))) (whole_op strict n 0 ts r) })

op_arrives : (strict : Bool) (n i : ℕ) (t : List ℕ) (after : State) (a : Bool) → nat_lt i OPERATIONS ≡ a → state_of n (op_goes i a (is (codes "op") t) (is (codes "end") t)) ≡ Some after → (strict ≡ true → n < 16) → i ≤ OPERATIONS → Arrives strict n (next.OpLine i) t after
op_arrives strict n i t after true less h room most =
    let w = went (is (codes "op") t) n (next.OpName i) after h in
    arrive strict n (next.OpLine i) t n (next.OpName i) after w.1 (room, lt-only i OPERATIONS less) (λ ts r. subst (λ x. AtOpLine strict n i (x ∷ ts)) (sym (is_only (codes "op") t w.0)) (whole_op strict n i ts r))
op_arrives strict n i t after false less h room most =
    let w = went (is (codes "end") t) n next.LastEnd after h in
    let all : OPERATIONS ≤ i = ge-only i OPERATIONS (ap not less) in
    arrive strict n (next.OpLine i) t n next.LastEnd after w.1 room (λ ts r. record { ways = []; rest = ts; count = omega (arith, all, most); each = All-nil (IsWay strict); tokens = ap (λ x. x ∷ ts) (is_only (codes "end") t w.0); last = r })

way_arrives : (strict : Bool) (n i : ℕ) (t : List ℕ) (after : State) (a b : Bool) → is (codes "prim") t ≡ a → is (codes "rule") t ≡ b → state_of n (way_goes i a b (is (codes "missing") t)) ≡ Some after → (strict ≡ true → n < 16) → i < OPERATIONS → Arrives strict n (next.Way i) t after
way_arrives strict n i t after true b prim rule h room inside =
    let e : at n (next.Bound i) ≡ after = cc in
    arrive strict n (next.Way i) t n (next.Bound i) after e (room, inside) (λ ts r. record { way = ByPrimitive r.0; rest = r.2.0; is = r.1; tokens = ap (λ x. x ∷ ts) (is_only (codes "prim") t prim) ∙ ap (λ l. codes "prim" ∷ l) r.2.1; end = r.2.2 })
way_arrives strict n i t after false true prim rule h room inside =
    let e : at n (next.Rule i) ≡ after = cc in
    arrive strict n (next.Way i) t n (next.Rule i) after e (room, inside) (λ ts r.
    let bound : AtBound strict n i r.2.0 = r.2.2 in
    record { way = ByRule r.0 bound.0; rest = bound.2.0; is = (r.1, bound.1); tokens = ap (λ x. x ∷ ts) (is_only (codes "rule") t rule) ∙ ap (λ l. codes "rule" ∷ l) (r.2.1 ∙ ap (λ l. r.0 ∷ l) bound.2.1); end = bound.2.2 })
way_arrives strict n i t after false false prim rule h room inside =
    let w = went (is (codes "missing") t) n (next.OpEnd i) after h in
    arrive strict n (next.Way i) t n (next.OpEnd i) after w.1 (room, inside) (λ ts r. record { way = ByNothing; rest = ts; is = tt; tokens = ap (λ x. x ∷ ts) (is_only (codes "missing") t w.0); end = r })

-- each token read
pub arrives : (strict : Bool) (n : ℕ) (from : Next) (t : List ℕ) (after : State) → IsInsideNext strict n from → step strict (at n from) t ≡ Some after → Arrives strict n from t after
arrives strict n next.Start t after inside h =
    let w = went (is (codes "certificate") t && may_begin strict n) n next.Version after h in
    let p = and_parts (is (codes "certificate") t) (may_begin strict n) w.0 in
    let room = begins_only strict n p.1 in
    arrive strict n next.Start t n next.Version after w.1 room (λ ts r. subst (λ x. AtStart strict n (x ∷ ts)) (sym (is_only (codes "certificate") t p.0)) (whole strict n ts room r))
arrives strict n next.Version t after inside h =
    let w = went (is_number t && value t == 1) n next.Name after h in
    let p = and_parts (is_number t) (value t == 1) w.0 in
    arrive strict n next.Version t n next.Name after w.1 inside (λ ts r. (t, number_only t p.0, one-only (value t) p.1, put t t (AtName strict n) ts refl r))
arrives strict n next.Name t after inside h =
    let w = went (is_name t) n next.Kind after h in
    arrive strict n next.Name t n next.Kind after w.1 inside (λ ts r. (t, name_only t w.0, put t t (AtKind strict n) ts refl r))
arrives strict n next.Kind t after inside h = kind_arrives strict n t after (kind_named t) refl h inside
arrives strict n next.HeadEnd t after inside h =
    let w = went (is line_end t) n (next.Line 0) after h in
    arrive strict n next.HeadEnd t n (next.Line 0) after w.1 (inside, omega arith) (λ ts r. put t line_end (AtLine strict n 0) ts (is_only line_end t w.0) r)
arrives strict n (next.Line k) t after inside h = line_arrives strict n k t after (is (codes "reg") t) (is (codes "op") t) refl refl h inside.0
arrives strict n (next.RegName k) t after inside h = reg_arrives strict n k t after (place_of t) refl h inside.0
arrives strict n (next.Weight p) t after inside h =
    let w = went (is_within strict 1 MOST_WEIGHT t) n (next.RegEnd p) after h in
    arrive strict n (next.Weight p) t n (next.RegEnd p) after w.1 inside (λ ts r. (t, within_only strict 1 MOST_WEIGHT t w.0, put t t (AtRegEnd strict n p) ts refl r))
arrives strict n (next.RegEnd p) t after inside h =
    let w = went (is line_end t) n (next.Line (suc p)) after h in
    let most : suc p ≤ OPERATIONS = omega (arith, inside.1) in
    arrive strict n (next.RegEnd p) t n (next.Line (suc p)) after w.1 (inside.0, most) (λ ts r. put t line_end (AtLine strict n (suc p)) ts (is_only line_end t w.0) r)
arrives strict n (next.OpLine i) t after inside h = op_arrives strict n i t after (nat_lt i OPERATIONS) refl h inside.0 inside.1
arrives strict n (next.OpName i) t after inside h =
    let w = went (is (operation_word i) t) n (next.Way i) after h in
    arrive strict n (next.OpName i) t n (next.Way i) after w.1 inside (λ ts r. put t (operation_word i) (AtWay strict n i) ts (is_only (operation_word i) t w.0) r)
arrives strict n (next.Way i) t after inside h = way_arrives strict n i t after (is (codes "prim") t) (is (codes "rule") t) refl refl h inside.0 inside.1
arrives strict n (next.Rule i) t after inside h =
    let w = went (is_within strict 1 59 t) n (next.Bound i) after h in
    arrive strict n (next.Rule i) t n (next.Bound i) after w.1 inside (λ ts r. (t, within_only strict 1 59 t w.0, put t t (AtBound strict n i) ts refl r))
arrives strict n (next.Bound i) t after inside h =
    let w = went (is_within strict 0 NO_PLAN t) n (next.OpEnd i) after h in
    arrive strict n (next.Bound i) t n (next.OpEnd i) after w.1 inside (λ ts r. (t, within_only strict 0 NO_PLAN t w.0, put t t (AtOpEnd strict n i) ts refl r))
arrives strict n (next.OpEnd i) t after inside h =
    let w = went (is line_end t) n (next.OpLine (suc i)) after h in
    let most : suc i ≤ OPERATIONS = omega (arith, inside.1) in
    arrive strict n (next.OpEnd i) t n (next.OpLine (suc i)) after w.1 (inside.0, most) (λ ts r. put t line_end (AtOpLine strict n (suc i)) ts (is_only line_end t w.0) r)
arrives strict n next.LastEnd t after inside h =
    let w = went (is line_end t) (suc n) next.Start after h in
    arrive strict n next.LastEnd t (suc n) next.Start after w.1 (λ s. let m = inside s in omega (arith, m)) (λ ts r. put t line_end (AtStart strict (suc n)) ts (is_only line_end t w.0) r)
