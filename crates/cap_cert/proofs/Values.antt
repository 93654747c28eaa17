-- The certificates that are put together are those that are spelled.
use Rattle.std.proofs.Common.{◌≡◌, ℕ, suc, ◌+◌, ◌<◌, ◌≤◌, List, [], ◌∷◌, ◌++◌, length, map, replicate, drop, drop-cons, add-one, get_or, true, Option, Some, None, refl, sym, ap, ◌∙◌, subst, ◌*◌, arith, append_assoc}
use Rattle.std.specs.Prelude.{codes, slice_set}
use Rattle.std.specs.List.{All}
use Rattle.std.proofs.Math.Seq.{set-append_seam}
use Rattle.std.proofs.lemmas.List.{append-nil, drop_all}
use Rattle.std.proofs.lemmas.List.Elements.{All-nil, All-cons, All-head, All-tail, All-set, All-replicate}
use Rattle.cap_ops.specs.Offered.{word_of}
use Rattle.cap_ops.specs.declared.plans.Kind.{Kind}
use Rattle.cap_ops.specs.declared.plans.Choice.{Choice}
use Rattle.cap_ops.specs.declared.plans.Choice.TheVariants.{Prim, Rule, Missing}
use Rattle.cap_ops.specs.declared.plans.TheConstants.{OPERATIONS, NO_PLAN, MOST_WEIGHT}
use Rattle.cap_cert.specs.declared.certs.Cert.{Cert}
use Rattle.cap_cert.specs.declared.machine.Next.{Next}
use Rattle.cap_cert.specs.declared.machine.Next.TheVariants as next
use Rattle.cap_cert.specs.declared.machine.State.{State}
use Rattle.cap_cert.specs.declared.drafts.Draft.{Draft}
use Rattle.cap_cert.specs.Texts.{Way, ByPrimitive, ByRule, ByNothing, Spelled, operation_word, way_words, reg_line, op_lines, end_line, lines_of}
use Rattle.cap_cert.specs.Reading.{value, line_end, cert_tokens, certs_tokens, IsWay, IsWeightText, AreRegs, IsSpelled, IsCertsText, weights_with, choice_of, bound_of, cert_of, certs_of}
use Rattle.cap_ops.specs.Derivations.{IsWeight}
use Rattle.cap_cert.specs.Lines.{IsRead}
use Rattle.cap_cert.specs.Machine.{is, step}
use Rattle.cap_cert.specs.Drafts.{draft, blank, rule_of, kind_or, bound_or, with_primitive, act, line_behind, made, gather}
use Rattle.cap_cert.proofs.WordTests.{is_yes, kind_yes, named_yes, number_in_yes}
use Rattle.cap_cert.proofs.OneToken.{at, Goes, prim_no_rule, prim_no_missing, s_start, s_version, s_name, s_kind, s_head_end, s_reg, s_first_op, s_reg_name, s_weight, s_reg_end, s_op, s_last, s_op_name, s_prim, s_rule, s_missing, s_rule_number, s_bound, s_op_end, s_last_end}
use Rattle.cap_cert.proofs.Complete.{regs_tokens, ops_tokens, last_tokens, cert_form, op_form, begins_yes}

-- one token taken in
take_in : {s after : State} {t : List ℕ} → Goes true s t after → (line : ℕ) (d : Draft) (ts : List (List ℕ)) → gather line (Some s) d (t ∷ ts) ≡ made s.next d ++ gather (line_behind line s.next) (Some after) (act line s.next t d) ts
take_in {s} {after} {t} g line d ts = ap (λ o. made s.next d ++ gather (line_behind line s.next) o (act line s.next t d) ts) g.is

-- the choices and bounds from a place on
abbrev pub choices_with : ℕ → Way → List Choice → List Choice
choices_with place (ByPrimitive bound) choices = slice_set choices place Prim
choices_with place (ByRule rule bound) choices = slice_set choices place (Rule (record { 0 = value rule }))
choices_with place ByNothing choices = choices

abbrev pub bounds_with : ℕ → Way → List ℕ → List ℕ
bounds_with place (ByPrimitive bound) bounds = slice_set bounds place (value bound)
bounds_with place (ByRule rule bound) bounds = slice_set bounds place (value bound)
bounds_with place ByNothing bounds = bounds

abbrev pub all_choices : ℕ → List Way → List Choice → List Choice
all_choices place [] choices = choices
all_choices place (way ∷ ways) choices = all_choices (suc place) ways (choices_with place way choices)

abbrev pub all_bounds : ℕ → List Way → List ℕ → List ℕ
all_bounds place [] bounds = bounds
all_bounds place (way ∷ ways) bounds = all_bounds (suc place) ways (bounds_with place way bounds)

choice_seam : (way : Way) (front rest : List Choice) → choices_with (length front) way (front ++ Missing ∷ rest) ≡ front ++ choice_of way ∷ rest
choice_seam (ByPrimitive bound) front rest = set-append_seam front Missing rest Prim
choice_seam (ByRule rule bound) front rest = set-append_seam front Missing rest (Rule (record { 0 = value rule }))
choice_seam ByNothing front rest = refl

bound_seam : (way : Way) (front rest : List ℕ) → bounds_with (length front) way (front ++ NO_PLAN ∷ rest) ≡ front ++ bound_of way ∷ rest
bound_seam (ByPrimitive bound) front rest = set-append_seam front NO_PLAN rest (value bound)
bound_seam (ByRule rule bound) front rest = set-append_seam front NO_PLAN rest (value bound)
bound_seam ByNothing front rest = refl

length-more : {A : Type 0} (front : List A) (x : A) → length (front ++ x ∷ []) ≡ suc (length front)
length-more [] x = refl
length-more (y ∷ front) x = ap suc (length-more front x)

choices_are : (front : List Choice) (ways : List Way) → all_choices (length front) ways (front ++ replicate (length ways) Missing) ≡ front ++ map choice_of ways
choices_are front [] = refl
choices_are front (way ∷ ways) =
    let more : List Choice = front ++ choice_of way ∷ [] in
    let missing : List Choice = replicate (length ways) Missing in
    ap (all_choices (suc (length front)) ways) (choice_seam way front missing ∙ sym (append_assoc front (choice_of way ∷ []) missing))
    ∙ ap (λ k. all_choices k ways (more ++ missing)) (sym (length-more front (choice_of way)))
    ∙ choices_are more ways
    ∙ append_assoc front (choice_of way ∷ []) (map choice_of ways)

bounds_are : (front : List ℕ) (ways : List Way) → all_bounds (length front) ways (front ++ replicate (length ways) NO_PLAN) ≡ front ++ map bound_of ways
bounds_are front [] = refl
bounds_are front (way ∷ ways) =
    let more : List ℕ = front ++ bound_of way ∷ [] in
    let missing : List ℕ = replicate (length ways) NO_PLAN in
    ap (all_bounds (suc (length front)) ways) (bound_seam way front missing ∙ sym (append_assoc front (bound_of way ∷ []) missing))
    ∙ ap (λ k. all_bounds k ways (more ++ missing)) (sym (length-more front (bound_of way)))
    ∙ bounds_are more ways
    ∙ append_assoc front (bound_of way ∷ []) (map bound_of ways)

-- the parts of a draft that is being read
abbrev pub part : List ℕ → Kind → ℕ → List (Option ℕ) → List Choice → List ℕ → Draft
part name kind first weights choices bounds = draft (Some name) kind weights choices bounds first

way_in : (n i line : ℕ) (way : Way) (rest : List (List ℕ)) (name : List ℕ) (kind : Kind) (first : ℕ) (weights : List (Option ℕ)) (choices : List Choice) (bounds : List ℕ) → IsWay true way
    → gather line (Some (at n (next.Way i))) (part name kind first weights choices bounds) (way_words way ++ line_end ∷ rest)
    ≡ gather (suc line) (Some (at n (next.OpLine (suc i)))) (part name kind first weights (choices_with i way choices) (bounds_with i way bounds)) rest
way_in n i line (ByPrimitive bound) rest name kind first weights choices bounds is =
    take_in (s_prim true n i) line (part name kind first weights choices bounds) (bound ∷ line_end ∷ rest)
    ∙ ap (λ b. gather line (Some (at n (next.Bound i))) (part name kind first weights (with_primitive b i choices) bounds) (bound ∷ line_end ∷ rest)) (is_yes (codes "prim"))
    ∙ take_in (s_bound true n i bound is) line (part name kind first weights (slice_set choices i Prim) bounds) (line_end ∷ rest)
    ∙ ap (λ o. gather line (Some (at n (next.OpEnd i))) (part name kind first weights (slice_set choices i Prim) (slice_set bounds i (bound_or o))) (line_end ∷ rest)) (number_in_yes 0 NO_PLAN bound is)
    ∙ take_in (s_op_end true n i) line (part name kind first weights (slice_set choices i Prim) (slice_set bounds i (value bound))) rest
way_in n i line (ByRule rule bound) rest name kind first weights choices bounds is =
    let chosen : List Choice = slice_set choices i (Rule (record { 0 = value rule })) in
    take_in (s_rule true n i) line (part name kind first weights choices bounds) (rule ∷ bound ∷ line_end ∷ rest)
    ∙ ap (λ b. gather line (Some (at n (next.Rule i))) (part name kind first weights (with_primitive b i choices) bounds) (rule ∷ bound ∷ line_end ∷ rest)) prim_no_rule
    ∙ take_in (s_rule_number true n i rule is.0) line (part name kind first weights choices bounds) (bound ∷ line_end ∷ rest)
    ∙ ap (λ o. gather line (Some (at n (next.Bound i))) (part name kind first weights (slice_set choices i (rule_of o)) bounds) (bound ∷ line_end ∷ rest)) (number_in_yes 1 59 rule is.0)
    ∙ take_in (s_bound true n i bound is.1) line (part name kind first weights chosen bounds) (line_end ∷ rest)
    ∙ ap (λ o. gather line (Some (at n (next.OpEnd i))) (part name kind first weights chosen (slice_set bounds i (bound_or o))) (line_end ∷ rest)) (number_in_yes 0 NO_PLAN bound is.1)
    ∙ take_in (s_op_end true n i) line (part name kind first weights chosen (slice_set bounds i (value bound))) rest
way_in n i line ByNothing rest name kind first weights choices bounds is =
    take_in (s_missing true n i) line (part name kind first weights choices bounds) (line_end ∷ rest)
    ∙ ap (λ b. gather line (Some (at n (next.OpEnd i))) (part name kind first weights (with_primitive b i choices) bounds) (line_end ∷ rest)) prim_no_missing
    ∙ take_in (s_op_end true n i) line (part name kind first weights choices bounds) rest

op_in : (n i line : ℕ) (way : Way) (rest : List (List ℕ)) (name : List ℕ) (kind : Kind) (first : ℕ) (weights : List (Option ℕ)) (choices : List Choice) (bounds : List ℕ) → IsWay true way
    → gather line (Some (at n (next.OpName i))) (part name kind first weights choices bounds) (operation_word i ∷ (way_words way ++ line_end ∷ rest))
    ≡ gather (suc line) (Some (at n (next.OpLine (suc i)))) (part name kind first weights (choices_with i way choices) (bounds_with i way bounds)) rest
op_in n i line way rest name kind first weights choices bounds is =
    take_in (s_op_name true n i) line (part name kind first weights choices bounds) (way_words way ++ line_end ∷ rest)
    ∙ way_in n i line way rest name kind first weights choices bounds is

ops_in : (n i line : ℕ) (ways : List Way) (rest : List (List ℕ)) (name : List ℕ) (kind : Kind) (first : ℕ) (weights : List (Option ℕ)) (choices : List Choice) (bounds : List ℕ) → i + length ways ≡ OPERATIONS → All (IsWay true) ways
    → gather line (Some (at n (next.OpLine i))) (part name kind first weights choices bounds) (ops_tokens i ways ++ codes "end" ∷ rest)
    ≡ gather (line + length ways) (Some (at n next.LastEnd)) (part name kind first weights (all_choices i ways choices) (all_bounds i ways bounds)) rest
ops_in n i line [] rest name kind first weights choices bounds count all =
    let e : i ≡ OPERATIONS = omega (arith, count) in
    let f : line ≡ line + 0 = omega arith in
    ap (λ k. gather line (Some (at n (next.OpLine k))) (part name kind first weights choices bounds) (codes "end" ∷ rest)) e
    ∙ take_in (s_last true n) line (part name kind first weights choices bounds) rest
    ∙ ap (λ k. gather k (Some (at n next.LastEnd)) (part name kind first weights choices bounds) rest) f
ops_in n i line (way ∷ ways) rest name kind first weights choices bounds count all =
    let tail : List (List ℕ) = codes "end" ∷ rest in
    let f : suc line + length ways ≡ line + length (way ∷ ways) = omega arith in
    ap (gather line (Some (at n (next.OpLine i))) (part name kind first weights choices bounds)) (op_form i way ways tail)
    ∙ take_in (s_op true n i (omega (arith, count))) line (part name kind first weights choices bounds) (operation_word i ∷ (way_words way ++ line_end ∷ (ops_tokens (suc i) ways ++ tail)))
    ∙ op_in n i line way (ops_tokens (suc i) ways ++ tail) name kind first weights choices bounds (All-head (IsWay true) way ways all)
    ∙ ops_in n (suc i) (suc line) ways rest name kind first weights (choices_with i way choices) (bounds_with i way bounds) (omega (arith, count)) (All-tail (IsWay true) way ways all)
    ∙ ap (λ k. gather k (Some (at n next.LastEnd)) (part name kind first weights (all_choices (suc i) ways (choices_with i way choices)) (all_bounds (suc i) ways (bounds_with i way bounds))) rest) f

regs_in : (n k line : ℕ) (regs : List (ℕ × List ℕ)) (rest : List (List ℕ)) (name : List ℕ) (kind : Kind) (first : ℕ) (weights : List (Option ℕ)) (choices : List Choice) (bounds : List ℕ) → AreRegs true k regs
    → gather line (Some (at n (next.Line k))) (part name kind first weights choices bounds) (regs_tokens regs ++ codes "op" ∷ rest)
    ≡ gather (line + length regs) (Some (at n (next.OpName 0))) (part name kind first (weights_with weights regs) choices bounds) rest
regs_in n k line [] rest name kind first weights choices bounds are =
    let f : line ≡ line + 0 = omega arith in
    take_in (s_first_op true n k) line (part name kind first weights choices bounds) rest
    ∙ ap (λ l. gather l (Some (at n (next.OpName 0))) (part name kind first weights choices bounds) rest) f
regs_in n k line (reg ∷ regs) rest name kind first weights choices bounds are =
    let tail : List (List ℕ) = regs_tokens regs ++ codes "op" ∷ rest in
    let d : Draft = part name kind first weights choices bounds in
    let set : List (Option ℕ) = slice_set weights reg.0 (Some (value reg.1)) in
    let f : suc line + length regs ≡ line + length (reg ∷ regs) = omega arith in
    take_in (s_reg true n k (omega (arith, are.0, are.1))) line d (operation_word reg.0 ∷ reg.1 ∷ line_end ∷ tail)
    ∙ take_in (s_reg_name true n k reg.0 are.0 are.1) line d (reg.1 ∷ line_end ∷ tail)
    ∙ take_in (s_weight true n reg.0 reg.1 are.2) line d (line_end ∷ tail)
    ∙ ap (λ o. gather line (Some (at n (next.RegEnd reg.0))) (part name kind first (slice_set weights reg.0 o) choices bounds) (line_end ∷ tail)) (number_in_yes 1 MOST_WEIGHT reg.1 are.2)
    ∙ take_in (s_reg_end true n reg.0) line (part name kind first set choices bounds) tail
    ∙ regs_in n (suc reg.0) (suc line) regs rest name kind first set choices bounds are.3
    ∙ ap (λ l. gather l (Some (at n (next.OpName 0))) (part name kind first (weights_with set regs) choices bounds) rest) f

-- the lines behind the first
body_in : (n line : ℕ) (regs : List (ℕ × List ℕ)) (ways : List Way) (rest : List (List ℕ)) (name : List ℕ) (kind : Kind) (first : ℕ) (weights : List (Option ℕ)) (choices : List Choice) (bounds : List ℕ) → AreRegs true 0 regs → length ways ≡ OPERATIONS → All (IsWay true) ways
    → gather line (Some (at n (next.Line 0))) (part name kind first weights choices bounds) (regs_tokens regs ++ (ops_tokens 0 ways ++ last_tokens rest))
    ≡ record { name = name; kind = kind; regs = record { weights = weights_with weights regs }; plan = record { choices = all_choices 0 ways choices; bounds = all_bounds 0 ways bounds }; first_line = first }
    ∷ gather (suc ((line + length regs) + length ways)) (Some (at (suc n) next.Start)) (part name kind first (weights_with weights regs) (all_choices 0 ways choices) (all_bounds 0 ways bounds)) rest
body_in n line regs [] rest name kind first weights choices bounds are count all = absurd (omega (arith, count))
body_in n line regs (way ∷ ways) rest name kind first weights choices bounds are count all =
    let tail : List (List ℕ) = last_tokens rest in
    let set : List (Option ℕ) = weights_with weights regs in
    let d : Draft = part name kind first set (all_choices 0 (way ∷ ways) choices) (all_bounds 0 (way ∷ ways) bounds) in
    let f : suc (line + length regs) + length ways ≡ (line + length regs) + length (way ∷ ways) = omega arith in
    ap (λ l. gather line (Some (at n (next.Line 0))) (part name kind first weights choices bounds) (regs_tokens regs ++ l)) (op_form 0 way ways tail)
    ∙ regs_in n 0 line regs (operation_word 0 ∷ (way_words way ++ line_end ∷ (ops_tokens 1 ways ++ tail))) name kind first weights choices bounds are
    ∙ op_in n 0 (line + length regs) way (ops_tokens 1 ways ++ tail) name kind first set choices bounds (All-head (IsWay true) way ways all)
    ∙ ops_in n 1 (suc (line + length regs)) ways (line_end ∷ rest) name kind first set (choices_with 0 way choices) (bounds_with 0 way bounds) (omega (arith, count)) (All-tail (IsWay true) way ways all)
    ∙ ap (λ k. gather k (Some (at n next.LastEnd)) d (line_end ∷ rest)) f
    ∙ take_in (s_last_end true n) ((line + length regs) + length (way ∷ ways)) d rest

length-lines : (place : ℕ) (ways : List Way) → length (op_lines place ways ++ end_line ∷ []) ≡ length ways + 1
length-lines place [] = refl
length-lines place (way ∷ ways) = omega (arith, length-lines (suc place) ways)

length-regs : (regs : List (ℕ × List ℕ)) (rest : List (List (List ℕ))) → length (map reg_line regs ++ rest) ≡ length regs + length rest
length-regs [] rest = omega arith
length-regs (reg ∷ regs) rest = omega (arith, length-regs regs rest)

lines_count : (c : Spelled) → length (lines_of c) ≡ suc (length c.regs + (length c.ways + 1))
lines_count c = omega (arith, length-regs c.regs (op_lines 0 c.ways ++ end_line ∷ []), length-lines 0 c.ways)

-- the draft behind a certificate, which the next one's first word drops
abbrev pub behind_cert : ℕ → Spelled → Draft
behind_cert line c = part c.name c.kind line (weights_with (replicate OPERATIONS None) c.regs) (map choice_of c.ways) (map bound_of c.ways)

table_choices : (ways : List Way) → length ways ≡ OPERATIONS → all_choices 0 ways (replicate OPERATIONS Missing) ≡ map choice_of ways
table_choices ways e = ap (λ n. all_choices 0 ways (replicate n Missing)) (sym e) ∙ choices_are [] ways

table_bounds : (ways : List Way) → length ways ≡ OPERATIONS → all_bounds 0 ways (replicate OPERATIONS NO_PLAN) ≡ map bound_of ways
table_bounds ways e = ap (λ n. all_bounds 0 ways (replicate n NO_PLAN)) (sym e) ∙ bounds_are [] ways

cert_in : (n line : ℕ) (d : Draft) (c : Spelled) (rest : List (List ℕ)) → IsSpelled true c → n < 16
    → gather line (Some (at n next.Start)) d (cert_tokens c ++ rest) ≡ cert_of line c ∷ gather (line + length (lines_of c)) (Some (at (suc n) next.Start)) (behind_cert line c) rest
cert_in n line d c rest is room =
    let tail : List (List ℕ) = regs_tokens c.regs ++ (ops_tokens 0 c.ways ++ last_tokens rest) in
    let nones : List (Option ℕ) = replicate OPERATIONS None in
    let missing : List Choice = replicate OPERATIONS Missing in
    let open_bounds : List ℕ = replicate OPERATIONS NO_PLAN in
    let last : ℕ = suc ((suc line + length c.regs) + length c.ways) in
    let made_of : List Choice → List ℕ → Cert = λ choices bounds. record { name = c.name; kind = c.kind; regs = record { weights = weights_with nones c.regs }; plan = record { choices = choices; bounds = bounds }; first_line = line } in
    let f : last ≡ line + length (lines_of c) = omega (arith, lines_count c) in
    ap (gather line (Some (at n next.Start)) d) (cert_form c rest)
    ∙ take_in (s_start true n (begins_yes true n (λ s. room))) line d (c.version ∷ c.name ∷ word_of c.kind ∷ line_end ∷ tail)
    ∙ take_in (s_version true n c.version is.version is.first_version) line (blank line) (c.name ∷ word_of c.kind ∷ line_end ∷ tail)
    ∙ take_in (s_name true n c.name is.name) line (blank line) (word_of c.kind ∷ line_end ∷ tail)
    ∙ ap (λ o. gather line (Some (at n next.Kind)) (draft o (blank line).kind nones missing open_bounds line) (word_of c.kind ∷ line_end ∷ tail)) (named_yes c.name is.name)
    ∙ take_in (s_kind true n c.kind) line (part c.name (blank line).kind line nones missing open_bounds) (line_end ∷ tail)
    ∙ ap (λ o. gather line (Some (at n next.HeadEnd)) (part c.name (kind_or o) line nones missing open_bounds) (line_end ∷ tail)) (kind_yes c.kind)
    ∙ take_in (s_head_end true n) line (part c.name c.kind line nones missing open_bounds) tail
    ∙ body_in n (suc line) c.regs c.ways rest c.name c.kind line nones missing open_bounds is.regs is.all_ways is.ways
    ∙ ap (λ cs. made_of cs (all_bounds 0 c.ways open_bounds) ∷ gather last (Some (at (suc n) next.Start)) (part c.name c.kind line (weights_with nones c.regs) cs (all_bounds 0 c.ways open_bounds)) rest) (table_choices c.ways is.all_ways)
    ∙ ap (λ bs. made_of (map choice_of c.ways) bs ∷ gather last (Some (at (suc n) next.Start)) (part c.name c.kind line (weights_with nones c.regs) (map choice_of c.ways) bs) rest) (table_bounds c.ways is.all_ways)
    ∙ ap (λ k. cert_of line c ∷ gather k (Some (at (suc n) next.Start)) (part c.name c.kind line (weights_with nones c.regs) (map choice_of c.ways) (map bound_of c.ways)) rest) f

pub certs_in : (n line : ℕ) (d : Draft) (cs : List Spelled) → All (IsSpelled true) cs → n + length cs ≤ 16 → gather line (Some (at n next.Start)) d (certs_tokens cs) ≡ certs_of line cs
certs_in n line d [] all few = refl
certs_in n line d (c ∷ cs) all few =
    cert_in n line d c (certs_tokens cs) (All-head (IsSpelled true) c cs all) (omega (arith, few))
    ∙ ap (λ l. cert_of line c ∷ l) (certs_in (suc n) (line + length (lines_of c)) (behind_cert line c) cs (All-tail (IsSpelled true) c cs all) (omega (arith, few)))

-- The limits that strict certificates keep.
none_weight : IsWeight None
none_weight = record { from = λ n h. absurd (cc (h)); to = λ n h. absurd (cc (h)) }

some_weight : (w : List ℕ) → IsWeightText true w → IsWeight (Some (value w))
some_weight w is = record {
  from = λ n h. let e : value w ≡ n = cc in let m = is.from refl in omega (arith, m, e);
  to = λ n h. let e : value w ≡ n = cc in let m = is.to refl in omega (arith, m, e);
}

weights_kept : (k : ℕ) (weights : List (Option ℕ)) (regs : List (ℕ × List ℕ)) → AreRegs true k regs → All IsWeight weights → All IsWeight (weights_with weights regs)
weights_kept k weights [] are all = all
weights_kept k weights (reg ∷ regs) are all = weights_kept (suc reg.0) (slice_set weights reg.0 (Some (value reg.1))) regs are.3 (All-set IsWeight weights reg.0 (Some (value reg.1)) (some_weight reg.1 are.2) all)

regs_few : (k : ℕ) (regs : List (ℕ × List ℕ)) → AreRegs true k regs → k ≤ OPERATIONS → k + length regs ≤ OPERATIONS
regs_few k [] are most = omega (arith, most)
regs_few k (reg ∷ regs) are most = let more = regs_few (suc reg.0) regs are.3 (omega (arith, are.1)) in omega (arith, more, are.0)

bound_kept : (way : Way) → IsWay true way → bound_of way ≤ NO_PLAN
bound_kept (ByPrimitive bound) is = is.to refl
bound_kept (ByRule rule bound) is = is.1.to refl
bound_kept ByNothing is = omega arith

bounds_kept : (ways : List Way) → All (IsWay true) ways → All (λ b. b ≤ NO_PLAN) (map bound_of ways)
bounds_kept [] all = All-nil (λ b. b ≤ NO_PLAN)
bounds_kept (way ∷ ways) all = All-cons (λ b. b ≤ NO_PLAN) (bound_of way) (map bound_of ways) (bound_kept way (All-head (IsWay true) way ways all)) (bounds_kept ways (All-tail (IsWay true) way ways all))

cert_kept : (line : ℕ) (c : Spelled) → IsSpelled true c → line ≤ 1000000 → IsRead (cert_of line c)
cert_kept line c is most = record { registered = weights_kept 0 (replicate OPERATIONS None) c.regs is.regs (All-replicate IsWeight OPERATIONS None none_weight); bounds = bounds_kept c.ways is.ways; first_line = most }

pub certs_kept : (line : ℕ) (cs : List Spelled) → All (IsSpelled true) cs → line + 90 * length cs ≤ 1000000 → All IsRead (certs_of line cs)
certs_kept line [] all most = All-nil IsRead
certs_kept line (c ∷ cs) all most =
    let is : IsSpelled true c = All-head (IsSpelled true) c cs all in
    let few = regs_few 0 c.regs is.regs (omega arith) in
    All-cons IsRead (cert_of line c) (certs_of (line + length (lines_of c)) cs) (cert_kept line c is (omega (arith, most)))
    (certs_kept (line + length (lines_of c)) cs (All-tail (IsSpelled true) c cs all) (omega (arith, most, few, lines_count c, is.all_ways)))

-- what is put together of a text of strict certificates
pub gathered : (texts : List (List ℕ)) (certs : List Cert) (text : IsCertsText true texts) → certs ≡ gather 1 (Some (at 0 next.Start)) (blank 1) texts → certs ≡ certs_of 1 text.certs
gathered texts certs text e = e ∙ ap (gather 1 (Some (at 0 next.Start)) (blank 1)) text.tokens ∙ certs_in 0 1 (blank 1) text.certs text.are.each (let m = text.are.few refl in omega (arith, m))

-- every text has one list of certificates
pub gathered_kept : (texts : List (List ℕ)) (certs : List Cert) (text : IsCertsText true texts) → certs ≡ gather 1 (Some (at 0 next.Start)) (blank 1) texts → All IsRead certs
gathered_kept texts certs text e = subst (All IsRead) (sym (gathered texts certs text e)) (certs_kept 1 text.certs text.are.each (let m = text.are.few refl in omega (arith, m)))

-- Token by token.
pub gather_more : (line i : ℕ) (s : State) (d : Draft) (texts : List (List ℕ)) → i < length texts → gather line (Some s) d (drop i texts) ≡ made s.next d ++ gather (line_behind line s.next) (step true s (get_or texts i [])) (act line s.next (get_or texts i []) d) (drop (i + 1) texts)
gather_more line i s d texts h = rw (drop-cons texts i [] h, add-one) refl

pub gather_end : (line i : ℕ) (s : State) (d : Draft) (texts : List (List ℕ)) → length texts ≤ i → gather line (Some s) d (drop i texts) ≡ []
gather_end line i s d texts h = rw (drop_all i texts h) refl

pub line_little : (line : ℕ) (to : Next) → line_behind line to ≤ line + 1
line_little line next.Start = omega arith
line_little line next.Version = omega arith
line_little line next.Name = omega arith
line_little line next.Kind = omega arith
line_little line next.HeadEnd = omega arith
line_little line (next.Line place) = omega arith
line_little line (next.RegName place) = omega arith
line_little line (next.Weight place) = omega arith
line_little line (next.RegEnd place) = omega arith
line_little line (next.OpLine place) = omega arith
line_little line (next.OpName place) = omega arith
line_little line (next.Way place) = omega arith
line_little line (next.Rule place) = omega arith
line_little line (next.Bound place) = omega arith
line_little line (next.OpEnd place) = omega arith
line_little line next.LastEnd = omega arith

-- the certificates so far, one token more
pub told_more : (line i : ℕ) (s : State) (d : Draft) (texts : List (List ℕ)) (certs new total : List Cert) → i < length texts → certs ++ gather line (Some s) d (drop i texts) ≡ total → new ≡ certs ++ made s.next d
    → new ++ gather (line_behind line s.next) (step true s (get_or texts i [])) (act line s.next (get_or texts i []) d) (drop (i + 1) texts) ≡ total
told_more line i s d texts certs new total h told grown =
    let rest : List Cert = gather (line_behind line s.next) (step true s (get_or texts i [])) (act line s.next (get_or texts i []) d) (drop (i + 1) texts) in
    ap (λ l. l ++ rest) grown ∙ append_assoc certs (made s.next d) rest ∙ ap (λ l. certs ++ l) (sym (gather_more line i s d texts h)) ∙ told

pub told_end : (line i : ℕ) (s : State) (d : Draft) (texts : List (List ℕ)) (certs total : List Cert) → length texts ≤ i → certs ++ gather line (Some s) d (drop i texts) ≡ total → certs ≡ total
told_end line i s d texts certs total h told = sym (append-nil certs) ∙ ap (λ l. certs ++ l) (sym (gather_end line i s d texts h)) ∙ told

pub gather_none : (line : ℕ) (d : Draft) (texts : List (List ℕ)) → gather line None d texts ≡ []
gather_none line d [] = refl
gather_none line d (text ∷ texts) = refl

pub told_with : (new total : List Cert) (rest : List (List ℕ)) (l m : ℕ) (o p : Option State) (d e : Draft) → m ≡ l → p ≡ o → e ≡ d → new ++ gather l o d rest ≡ total → new ++ gather m p e rest ≡ total
told_with new total rest l m o p d e lines states drafts told =
    ap (λ k. new ++ gather k p e rest) lines ∙ ap (λ q. new ++ gather l q e rest) states ∙ ap (λ f. new ++ gather l o f rest) drafts ∙ told
