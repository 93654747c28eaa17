-- Written certificates are short texts.
use Rattle.std.proofs.Common.{◌≡◌, ℕ, suc, ◌*◌, ◌≤◌, List, [], ◌∷◌, ◌++◌, length, map, true, Option, Some, None, refl, ap, arith, length-append, inl, inr}
use Rattle.std.specs.Prelude.{codes}
use Rattle.std.specs.List.{All, flat_map}
use Rattle.std.proofs.lemmas.List.{length-map}
use Rattle.std.proofs.lemmas.List.Elements.{All-head, All-tail}
use Rattle.cap_cert.specs.Texts.{Way, ByPrimitive, ByRule, ByNothing, Spelled, reg_line, way_words, op_lines, end_line, lines_of, line_text, regs_from}
use Rattle.cap_cert_laws.specs.Written.{Subject, spelling, written, all_written, IsWritable, AreFew}
use Rattle.cap_cert_laws.proofs.LinesWritten.{OneToken, OneByOne, AreLines, cert_lines}
use Rattle.cap_cert_laws.proofs.SpelledAgain.{is_spelled}

-- Lines of at most five words.
abbrev AreShort : List (List (List ℕ)) → Type 0
AreShort [] = Unit {0}
AreShort (l ∷ ls) = (length l ≤ 5) × AreShort ls

word_short : (w : List ℕ) → OneToken w → length w ≤ 32
word_short w (inl is) = is.within
word_short w (inr is) = omega (arith, is.within)

words_short : (ws : List (List ℕ)) → OneByOne ws → length (flat_map (λ y. codes " " ++ y) ws) ≤ 33 * length ws
words_short [] are = omega arith
words_short (w ∷ ws) are =
    let behind : List ℕ = flat_map (λ y. codes " " ++ y) ws in
    omega (arith, length-append (32 ∷ w) behind, word_short w are.0, words_short ws are.1)

line_short : (words : List (List ℕ)) → OneByOne words → length words ≤ 5 → length (line_text words) ≤ 166
line_short [] are few = omega arith
line_short (w ∷ ws) are few =
    let behind : List ℕ = flat_map (λ y. codes " " ++ y) ws in
    omega (arith, length-append (w ++ behind) (10 ∷ []), length-append w behind, word_short w are.0, words_short ws are.1, few)

lines_short : (ls : List (List (List ℕ))) → AreLines ls → AreShort ls → length (flat_map line_text ls) ≤ 166 * length ls
lines_short [] are short = omega arith
lines_short (l ∷ ls) are short = omega (arith, length-append (line_text l) (flat_map line_text ls), line_short l are.0 short.0, lines_short ls are.1 short.1)

way_short : (way : Way) → length (way_words way) ≤ 3
way_short (ByPrimitive bound) = omega arith
way_short (ByRule rule bound) = omega arith
way_short ByNothing = omega arith

ways_short : (place : ℕ) (ways : List Way) → AreShort (op_lines place ways ++ end_line ∷ [])
ways_short place [] = (omega arith, tt)
ways_short place (way ∷ ways) = (omega (arith, way_short way), ways_short (suc place) ways)

regs_short : (regs : List (ℕ × List ℕ)) (rest : List (List (List ℕ))) → AreShort rest → AreShort (map reg_line regs ++ rest)
regs_short [] rest short = short
regs_short (reg ∷ regs) rest short = (omega arith, regs_short regs rest short)

cert_short : (c : Spelled) → AreShort (lines_of c)
cert_short c = (omega arith, regs_short c.regs (op_lines 0 c.ways ++ end_line ∷ []) (ways_short 0 c.ways))

-- There are at most 90 lines.
regs_few : (place : ℕ) (weights : List (Option ℕ)) → length (regs_from place weights) ≤ length weights
regs_few place [] = omega arith
regs_few place (None ∷ weights) = omega (arith, regs_few (suc place) weights)
regs_few place (Some n ∷ weights) = omega (arith, regs_few (suc place) weights)

ops_count : (place : ℕ) (ways : List Way) → length (op_lines place ways) ≡ length ways
ops_count place [] = refl
ops_count place (way ∷ ways) = ap suc (ops_count (suc place) ways)

lines_few : (s : Subject) → IsWritable s → length (lines_of (spelling s)) ≤ 90
lines_few s is =
    let c : Spelled = spelling s in
    let regs = length-append (map reg_line c.regs) (op_lines 0 c.ways ++ end_line ∷ []) in
    let ops = length-append (op_lines 0 c.ways) (end_line ∷ []) in
    omega (arith, regs, ops, length-map c.regs reg_line, regs_few 0 s.regs.weights, is.category.all_weights, ops_count 0 c.ways, (is_spelled s is).all_ways)

written_short : (s : Subject) → IsWritable s → length (written s) ≤ 65536
written_short s is =
    let c : Spelled = spelling s in
    omega (arith, lines_short (lines_of c) (cert_lines true c (is_spelled s is)) (cert_short c), lines_few s is)

all_short : (ss : List Subject) → All IsWritable ss → length (all_written ss) ≤ 65536 * length ss
all_short [] are = omega arith
all_short (s ∷ ss) are = omega (arith, length-append (written s) (all_written ss), written_short s (All-head IsWritable s ss are), all_short ss (All-tail IsWritable s ss are))

pub certificates_short : (ss : List Subject) → AreFew ss → All IsWritable ss → length (all_written ss) ≤ 1048576
certificates_short ss few are = omega (arith, all_short ss are, few.few)
