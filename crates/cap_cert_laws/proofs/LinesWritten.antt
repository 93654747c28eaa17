-- The tokens of a certificate's text are those of its lines.
use Rattle.std.proofs.Common.{◌≡◌, ℕ, suc, ◌+◌, ◌-◌, ◌<◌, ◌≤◌, List, [], ◌∷◌, ◌++◌, length, map, Bool, true, false, refl, sym, ap, ◌∙◌, subst, arith, append_assoc, ◌⊎◌, inl, inr}
use Rattle.std.proofs.Math.Dec.{lit≤}
use Rattle.std.specs.Prelude.{codes, slice_get}
use Rattle.std.specs.List.{All, flat_map, list_all}
use Rattle.std.specs.Char.{is_ascii_digit, is_ascii_alphabetic}
use Rattle.std.proofs.lemmas.List.{append-nil}
use Rattle.std.proofs.lemmas.List.Elements.{All-head, All-tail}
use Rattle.std.proofs.lemmas.List.Sums.{AllPass-from_list_all}
use Rattle.std.proofs.lemmas.Option.{slice_get-get_or}
use Rattle.cap_names.specs.Words.{is_word_byte, IsWord, IsNumber}
use Rattle.cap_names.specs.Operations.{operation_names, IsNamed}
use Rattle.cap_names.proofs.OperationNames.{name_is_word}
use Rattle.cap_names.proofs.Written.{IsWritten, written_none, written_append, written_blank, written_newline, written_word, written_number}
use Rattle.cap_ops.specs.Offered.{word_of}
use Rattle.cap_ops.specs.declared.plans.Kind.{Kind}
use Rattle.cap_ops.specs.declared.plans.Kind.TheVariants.{Mat, Add, Freyd, Rep}
use Rattle.cap_ops.specs.declared.plans.TheConstants.{OPERATIONS}
use Rattle.cap_cert.specs.Texts.{Way, ByPrimitive, ByRule, ByNothing, Spelled, operation_word, reg_line, way_words, op_lines, end_line, lines_of, line_text, cert_text}
use Rattle.cap_cert.specs.Reading.{IsWay, AreRegs, IsSpelled, line_end, line_tokens, cert_tokens, certs_tokens}

-- a word or a number: one token
abbrev pub OneToken : List ℕ → Type 0
OneToken w = IsWord w ⊎ IsNumber w

-- each word of a line is one token
abbrev pub OneByOne : List (List ℕ) → Type 0
OneByOne [] = Unit {0}
OneByOne (w ∷ ws) = OneToken w × OneByOne ws

-- and so in each line
abbrev pub AreLines : List (List (List ℕ)) → Type 0
AreLines [] = Unit {0}
AreLines (l ∷ ls) = OneByOne l × AreLines ls

-- A word before a blank or an LF.
before : (w : List ℕ) (b : ℕ) (bs : List ℕ) (texts : List (List ℕ)) → OneToken w → is_word_byte b ≡ false → is_ascii_digit b ≡ false → IsWritten (b ∷ bs) texts → IsWritten (w ++ b ∷ bs) (w ∷ texts)
before w b bs texts (inl is) letter digit rest = written_word w b bs texts is letter rest
before w b bs texts (inr is) letter digit rest = written_number w b bs texts is digit rest

words_written : (w : List ℕ) (ws : List (List ℕ)) → OneToken w → OneByOne ws → IsWritten (line_text (w ∷ ws)) (line_tokens (w ∷ ws))
words_written w [] is more =
    let e : w ++ 10 ∷ [] ≡ (w ++ []) ++ 10 ∷ [] = ap (λ l. l ++ 10 ∷ []) (sym (append-nil w)) in
    subst (λ l. IsWritten l (w ∷ line_end ∷ [])) e (before w 10 [] (line_end ∷ []) is refl refl written_newline)
words_written w (x ∷ xs) is more =
    let behind : List ℕ = flat_map (λ y. codes " " ++ y) (x ∷ xs) in
    let rest : IsWritten (32 ∷ line_text (x ∷ xs)) (line_tokens (x ∷ xs)) = written_append (32 ∷ []) (line_text (x ∷ xs)) [] (line_tokens (x ∷ xs)) written_blank (words_written x xs more.0 more.1) in
    let e : w ++ (behind ++ 10 ∷ []) ≡ (w ++ behind) ++ 10 ∷ [] = sym (append_assoc w behind (10 ∷ [])) in
    subst (λ l. IsWritten l (line_tokens (w ∷ x ∷ xs))) e (before w 32 (line_text (x ∷ xs)) (line_tokens (x ∷ xs)) is refl refl rest)

line_written : (words : List (List ℕ)) → OneByOne words → IsWritten (line_text words) (line_tokens words)
line_written [] are = written_newline
line_written (w ∷ ws) are = words_written w ws are.0 are.1

lines_written : (ls : List (List (List ℕ))) → AreLines ls → IsWritten (flat_map line_text ls) (flat_map line_tokens ls)
lines_written [] are = written_none
lines_written (l ∷ ls) are = written_append (line_text l) (flat_map line_text ls) (line_tokens l) (flat_map line_tokens ls) (line_written l are.0) (lines_written ls are.1)

-- The words of the lines of a certificate.
word : (b : ℕ) (bs : List ℕ) → is_ascii_alphabetic b ≡ true → list_all is_word_byte (b ∷ bs) ≡ true → length (b ∷ bs) ≤ 32 → OneToken (b ∷ bs)
word b bs letter all within = inl (record { some = omega arith; within = within; letter = letter; all = AllPass-from_list_all is_word_byte (b ∷ bs) all })

certificate_word : OneToken (codes "certificate")
certificate_word = word 99 (codes "ertificate") refl refl (lit≤ tt)

reg_word : OneToken (codes "reg")
reg_word = word 114 (codes "eg") refl refl (lit≤ tt)

op_word : OneToken (codes "op")
op_word = word 111 (codes "p") refl refl (lit≤ tt)

prim_word : OneToken (codes "prim")
prim_word = word 112 (codes "rim") refl refl (lit≤ tt)

rule_word : OneToken (codes "rule")
rule_word = word 114 (codes "ule") refl refl (lit≤ tt)

missing_word : OneToken (codes "missing")
missing_word = word 109 (codes "issing") refl refl (lit≤ tt)

end_word : OneToken (codes "end")
end_word = word 101 (codes "nd") refl refl (lit≤ tt)

kind_word : (kind : Kind) → OneToken (word_of kind)
kind_word Mat = word 118 (codes "ec") refl refl (lit≤ tt)
kind_word Add = word 97 (codes "dd") refl refl (lit≤ tt)
kind_word Freyd = word 102 (codes "reyd") refl refl (lit≤ tt)
kind_word Rep = word 114 (codes "ep") refl refl (lit≤ tt)

operation_is_word : (place : ℕ) → place < OPERATIONS → OneToken (operation_word place)
unfolding operation_word
operation_is_word place lt =
    let back : place + 1 - 1 ≡ place = omega arith in
    let named : IsNamed (place + 1) (operation_word place) = record { first = omega arith; name = ap (slice_get operation_names) back ∙ slice_get-get_or operation_names place [] lt } in
    inl (name_is_word (place + 1) (operation_word place) named)

-- The lines of a certificate.
regs_are_lines : (strict : Bool) (low : ℕ) (regs : List (ℕ × List ℕ)) (rest : List (List (List ℕ))) → AreRegs strict low regs → AreLines rest → AreLines (map reg_line regs ++ rest)
regs_are_lines strict low [] rest are more = more
regs_are_lines strict low (reg ∷ regs) rest are more = ((reg_word, (operation_is_word reg.0 are.1, (inr are.2.number, tt))), regs_are_lines strict (suc reg.0) regs rest are.3 more)

way_is_line : (strict : Bool) (way : Way) → IsWay strict way → OneByOne (way_words way)
way_is_line strict (ByPrimitive bound) is = (prim_word, (inr is.number, tt))
way_is_line strict (ByRule rule bound) is = (rule_word, (inr is.0.number, (inr is.1.number, tt)))
way_is_line strict ByNothing is = (missing_word, tt)

ways_are_lines : (strict : Bool) (place : ℕ) (ways : List Way) → place + length ways ≤ OPERATIONS → All (IsWay strict) ways → AreLines (op_lines place ways ++ end_line ∷ [])
ways_are_lines strict place [] few are = ((end_word, tt), tt)
ways_are_lines strict place (way ∷ ways) few are = (
  (op_word, (operation_is_word place (omega (arith, few)), way_is_line strict way (All-head (IsWay strict) way ways are))),
  ways_are_lines strict (suc place) ways (omega (arith, few)) (All-tail (IsWay strict) way ways are),
)

pub cert_lines : (strict : Bool) (c : Spelled) → IsSpelled strict c → AreLines (lines_of c)
cert_lines strict c is = (
  (certificate_word, (inr is.version, (inl is.name.word, (kind_word c.kind, tt)))),
  regs_are_lines strict 0 c.regs (op_lines 0 c.ways ++ end_line ∷ []) is.regs (ways_are_lines strict 0 c.ways (omega (arith, is.all_ways)) is.ways),
)

-- what is written of a spelled certificate has its tokens
cert_written : (strict : Bool) (c : Spelled) → IsSpelled strict c → IsWritten (cert_text c) (cert_tokens c)
cert_written strict c is = lines_written (lines_of c) (cert_lines strict c is)

pub certs_written : (strict : Bool) (cs : List Spelled) → All (IsSpelled strict) cs → IsWritten (flat_map cert_text cs) (certs_tokens cs)
certs_written strict [] are = written_none
certs_written strict (c ∷ cs) are = written_append (cert_text c) (flat_map cert_text cs) (cert_tokens c) (certs_tokens cs) (cert_written strict c (All-head (IsSpelled strict) c cs are)) (certs_written strict cs (All-tail (IsSpelled strict) c cs are))
