-- What certificates spell is read.
use Rattle.std.proofs.Common.{◌≡◌, ℕ, suc, ◌+◌, ◌<◌, ◌≤◌, List, [], ◌∷◌, ◌++◌, length, map, Bool, true, false, Some, refl, ap, ◌∙◌, arith, append_assoc}
use Rattle.std.specs.Prelude.{codes}
use Rattle.std.specs.List.{All, flat_map}
use Rattle.std.proofs.lemmas.Grind.{flat_map-append}
use Rattle.std.proofs.lemmas.List.Elements.{All-head, All-tail}
use Rattle.cap_ops.specs.Offered.{word_of}
use Rattle.cap_ops.specs.declared.plans.TheConstants.{OPERATIONS}
use Rattle.cap_cert.specs.declared.machine.Next.TheVariants as next
use Rattle.cap_cert.specs.Texts.{Way, ByPrimitive, ByRule, ByNothing, Spelled, operation_word, reg_line, way_words, op_lines, end_line}
use Rattle.cap_cert.specs.Reading.{line_end, line_tokens, cert_tokens, certs_tokens, IsWay, AreRegs, IsSpelled}
use Rattle.cap_cert.specs.Machine.{run, may_begin}
use Rattle.cap_cert.proofs.WordTests.{lt-yes}
use Rattle.cap_cert.proofs.OneToken.{at, read_one, s_start, s_version, s_name, s_kind, s_head_end, s_reg, s_first_op, s_reg_name, s_weight, s_reg_end, s_op, s_last, s_op_name, s_prim, s_rule, s_missing, s_rule_number, s_bound, s_op_end, s_last_end}

abbrev pub regs_tokens : List (ℕ × List ℕ) → List (List ℕ)
regs_tokens regs = flat_map line_tokens (map reg_line regs)

abbrev pub ops_tokens : ℕ → List Way → List (List ℕ)
ops_tokens place ways = flat_map line_tokens (op_lines place ways)

-- behind the lines of the operations
abbrev pub last_tokens : List (List ℕ) → List (List ℕ)
last_tokens rest = codes "end" ∷ line_end ∷ rest

-- a certificate's tokens, part by part
pub cert_form : (c : Spelled) (rest : List (List ℕ)) → cert_tokens c ++ rest ≡ codes "certificate" ∷ c.version ∷ c.name ∷ word_of c.kind ∷ line_end ∷ (regs_tokens c.regs ++ (ops_tokens 0 c.ways ++ last_tokens rest))
cert_form c rest =
    let ends : List (List (List ℕ)) = end_line ∷ [] in
    let inner : flat_map line_tokens (map reg_line c.regs ++ (op_lines 0 c.ways ++ ends)) ≡ regs_tokens c.regs ++ (ops_tokens 0 c.ways ++ (codes "end" ∷ line_end ∷ [])) =
    flat_map-append line_tokens (map reg_line c.regs) (op_lines 0 c.ways ++ ends) ∙ ap (λ l. regs_tokens c.regs ++ l) (flat_map-append line_tokens (op_lines 0 c.ways) ends) in
    let outer : (regs_tokens c.regs ++ (ops_tokens 0 c.ways ++ (codes "end" ∷ line_end ∷ []))) ++ rest ≡ regs_tokens c.regs ++ (ops_tokens 0 c.ways ++ last_tokens rest) =
    append_assoc (regs_tokens c.regs) (ops_tokens 0 c.ways ++ (codes "end" ∷ line_end ∷ [])) rest ∙ ap (λ l. regs_tokens c.regs ++ l) (append_assoc (ops_tokens 0 c.ways) (codes "end" ∷ line_end ∷ []) rest) in
    ap (λ l. codes "certificate" ∷ c.version ∷ c.name ∷ word_of c.kind ∷ line_end ∷ l) (ap (λ l. l ++ rest) inner ∙ outer)

-- an operation's tokens behind its first
pub op_form : (place : ℕ) (way : Way) (ways : List Way) (rest : List (List ℕ)) → ops_tokens place (way ∷ ways) ++ rest ≡ codes "op" ∷ operation_word place ∷ (way_words way ++ line_end ∷ (ops_tokens (suc place) ways ++ rest))
op_form place (ByPrimitive bound) ways rest = refl
op_form place (ByRule rule bound) ways rest = refl
op_form place ByNothing ways rest = refl

way_read : (strict : Bool) (n i : ℕ) (way : Way) (rest : List (List ℕ)) → IsWay strict way → run strict (Some (at n (next.Way i))) (way_words way ++ line_end ∷ rest) ≡ run strict (Some (at n (next.OpLine (suc i)))) rest
way_read strict n i (ByPrimitive bound) rest is =
    read_one (s_prim strict n i) (bound ∷ line_end ∷ rest) ∙ read_one (s_bound strict n i bound is) (line_end ∷ rest) ∙ read_one (s_op_end strict n i) rest
way_read strict n i (ByRule rule bound) rest is =
    read_one (s_rule strict n i) (rule ∷ bound ∷ line_end ∷ rest) ∙ read_one (s_rule_number strict n i rule is.0) (bound ∷ line_end ∷ rest) ∙ read_one (s_bound strict n i bound is.1) (line_end ∷ rest) ∙ read_one (s_op_end strict n i) rest
way_read strict n i ByNothing rest is =
    read_one (s_missing strict n i) (line_end ∷ rest) ∙ read_one (s_op_end strict n i) rest

op_read : (strict : Bool) (n i : ℕ) (way : Way) (rest : List (List ℕ)) → IsWay strict way → run strict (Some (at n (next.OpName i))) (operation_word i ∷ (way_words way ++ line_end ∷ rest)) ≡ run strict (Some (at n (next.OpLine (suc i)))) rest
op_read strict n i way rest is = read_one (s_op_name strict n i) (way_words way ++ line_end ∷ rest) ∙ way_read strict n i way rest is

ops_read : (strict : Bool) (n i : ℕ) (ways : List Way) (rest : List (List ℕ)) → i + length ways ≡ OPERATIONS → All (IsWay strict) ways → run strict (Some (at n (next.OpLine i))) (ops_tokens i ways ++ codes "end" ∷ rest) ≡ run strict (Some (at n next.LastEnd)) rest
ops_read strict n i [] rest count all =
    let e : i ≡ OPERATIONS = omega (arith, count) in
    ap (λ k. run strict (Some (at n (next.OpLine k))) (codes "end" ∷ rest)) e ∙ read_one (s_last strict n) rest
ops_read strict n i (way ∷ ways) rest count all =
    let tail : List (List ℕ) = codes "end" ∷ rest in
    ap (run strict (Some (at n (next.OpLine i)))) (op_form i way ways tail)
    ∙ read_one (s_op strict n i (omega (arith, count))) (operation_word i ∷ (way_words way ++ line_end ∷ (ops_tokens (suc i) ways ++ tail)))
    ∙ op_read strict n i way (ops_tokens (suc i) ways ++ tail) (All-head (IsWay strict) way ways all)
    ∙ ops_read strict n (suc i) ways rest (omega (arith, count)) (All-tail (IsWay strict) way ways all)

regs_read : (strict : Bool) (n k : ℕ) (regs : List (ℕ × List ℕ)) (rest : List (List ℕ)) → AreRegs strict k regs → run strict (Some (at n (next.Line k))) (regs_tokens regs ++ codes "op" ∷ rest) ≡ run strict (Some (at n (next.OpName 0))) rest
regs_read strict n k [] rest are = read_one (s_first_op strict n k) rest
regs_read strict n k (reg ∷ regs) rest are =
    let tail : List (List ℕ) = regs_tokens regs ++ codes "op" ∷ rest in
    read_one (s_reg strict n k (omega (arith, are.0, are.1))) (operation_word reg.0 ∷ reg.1 ∷ line_end ∷ tail)
    ∙ read_one (s_reg_name strict n k reg.0 are.0 are.1) (reg.1 ∷ line_end ∷ tail)
    ∙ read_one (s_weight strict n reg.0 reg.1 are.2) (line_end ∷ tail)
    ∙ read_one (s_reg_end strict n reg.0) tail
    ∙ regs_read strict n (suc reg.0) regs rest are.3

body_read : (strict : Bool) (n : ℕ) (regs : List (ℕ × List ℕ)) (ways : List Way) (rest : List (List ℕ)) → AreRegs strict 0 regs → length ways ≡ OPERATIONS → All (IsWay strict) ways
    → run strict (Some (at n (next.Line 0))) (regs_tokens regs ++ (ops_tokens 0 ways ++ last_tokens rest)) ≡ run strict (Some (at (suc n) next.Start)) rest
body_read strict n regs [] rest are count all = absurd (omega (arith, count))
body_read strict n regs (way ∷ ways) rest are count all =
    let tail : List (List ℕ) = last_tokens rest in
    ap (λ l. run strict (Some (at n (next.Line 0))) (regs_tokens regs ++ l)) (op_form 0 way ways tail)
    ∙ regs_read strict n 0 regs (operation_word 0 ∷ (way_words way ++ line_end ∷ (ops_tokens 1 ways ++ tail))) are
    ∙ op_read strict n 0 way (ops_tokens 1 ways ++ tail) (All-head (IsWay strict) way ways all)
    ∙ ops_read strict n 1 ways (line_end ∷ rest) (omega (arith, count)) (All-tail (IsWay strict) way ways all)
    ∙ read_one (s_last_end strict n) rest

pub cert_read : (strict : Bool) (n : ℕ) (c : Spelled) (rest : List (List ℕ)) → IsSpelled strict c → may_begin strict n ≡ true → run strict (Some (at n next.Start)) (cert_tokens c ++ rest) ≡ run strict (Some (at (suc n) next.Start)) rest
cert_read strict n c rest is begins =
    let tail : List (List ℕ) = regs_tokens c.regs ++ (ops_tokens 0 c.ways ++ last_tokens rest) in
    ap (run strict (Some (at n next.Start))) (cert_form c rest)
    ∙ read_one (s_start strict n begins) (c.version ∷ c.name ∷ word_of c.kind ∷ line_end ∷ tail)
    ∙ read_one (s_version strict n c.version is.version is.first_version) (c.name ∷ word_of c.kind ∷ line_end ∷ tail)
    ∙ read_one (s_name strict n c.name is.name) (word_of c.kind ∷ line_end ∷ tail)
    ∙ read_one (s_kind strict n c.kind) (line_end ∷ tail)
    ∙ read_one (s_head_end strict n) tail
    ∙ body_read strict n c.regs c.ways rest is.regs is.all_ways is.ways

pub begins_yes : (strict : Bool) (n : ℕ) → (strict ≡ true → n < 16) → may_begin strict n ≡ true
unfolding may_begin
begins_yes false n h = refl
begins_yes true n h = lt-yes n 16 (h refl)

pub certs_read : (strict : Bool) (n : ℕ) (cs : List Spelled) (rest : List (List ℕ)) → All (IsSpelled strict) cs → (strict ≡ true → n + length cs ≤ 16) → run strict (Some (at n next.Start)) (certs_tokens cs ++ rest) ≡ run strict (Some (at (n + length cs) next.Start)) rest
certs_read strict n [] rest all few = let e : n ≡ n + 0 = omega arith in ap (λ k. run strict (Some (at k next.Start)) rest) e
certs_read strict n (c ∷ cs) rest all few =
    let e : suc n + length cs ≡ n + length (c ∷ cs) = omega arith in
    ap (run strict (Some (at n next.Start))) (append_assoc (cert_tokens c) (certs_tokens cs) rest)
    ∙ cert_read strict n c (certs_tokens cs ++ rest) (All-head (IsSpelled strict) c cs all) (begins_yes strict n (λ s. let m = few s in omega (arith, m)))
    ∙ certs_read strict (suc n) cs rest (All-tail (IsSpelled strict) c cs all) (λ s. let m = few s in omega (arith, m))
    ∙ ap (λ k. run strict (Some (at k next.Start)) rest) e
