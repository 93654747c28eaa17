-- What is written is read again.
use Rattle.std.proofs.Common.{◌≡◌, ℕ, ◌+◌, List, [], ◌∷◌, length, map, true, refl, subst, arith}
use Rattle.std.specs.List.{All}
use Rattle.std.proofs.lemmas.List.{append-nil, length-map}
use Rattle.std.proofs.lemmas.List.Folds.{flat_map-map}
use Rattle.std.proofs.lemmas.List.Elements.{All-nil, All-cons, All-head, All-tail}
use Rattle.cap_names.proofs.Written.{IsWritten, written_tokens}
use Rattle.cap_cert.specs.Texts.{Spelled, lines_of, cert_text}
use Rattle.cap_cert.specs.Reading.{IsSpelled, AreSpelled, certs_tokens, certs_of}
use Rattle.cap_cert.specs.Refusals.{AreCertsOf}
use Rattle.cap_cert_laws.specs.Written.{Subject, spelling, written, all_written, cert_at, certs_from, IsWritable, AreFew}
use Rattle.cap_cert_laws.proofs.LinesWritten.{certs_written}
use Rattle.cap_cert_laws.proofs.SpelledAgain.{is_spelled, spells_again}

-- a text that is written of spelled certificates
text_of_spelled : (bytes : List ℕ) (cs : List Spelled) → AreSpelled true cs → IsWritten bytes (certs_tokens cs) → AreCertsOf bytes (certs_of 1 cs)
text_of_spelled bytes cs are written =
    let found = written_tokens bytes (certs_tokens cs) written in
    record { tokens = found.0; are = found.1; text = record { certs = cs; are = are; tokens = found.2 }; certs_are = refl }

all_spelled : (ss : List Subject) → All IsWritable ss → All (IsSpelled true) (map spelling ss)
all_spelled [] are = All-nil (IsSpelled true)
all_spelled (s ∷ ss) are = All-cons (IsSpelled true) (spelling s) (map spelling ss) (is_spelled s (All-head IsWritable s ss are)) (all_spelled ss (All-tail IsWritable s ss are))

all_again : (line : ℕ) (ss : List Subject) → All IsWritable ss → certs_of line (map spelling ss) ≡ certs_from line ss
all_again line [] are = refl
all_again line (s ∷ ss) are =
    let one = spells_again line s (All-head IsWritable s ss are) in
    let rest = all_again (line + length (lines_of (spelling s))) ss (All-tail IsWritable s ss are) in
    λ i. one i ∷ rest i

pub certificates_read : (ss : List Subject) → AreFew ss → All IsWritable ss → AreCertsOf (all_written ss) (certs_from 1 ss)
certificates_read ss few are =
    let spelled : All (IsSpelled true) (map spelling ss) = all_spelled ss are in
    let count : length (map spelling ss) ≡ length ss = length-map ss spelling in
    let kept : AreSpelled true (map spelling ss) = record { some = omega (arith, count, few.some); few = λ e. omega (arith, count, few.few); each = spelled } in
    let text : IsWritten (all_written ss) (certs_tokens (map spelling ss)) = subst (λ l. IsWritten l (certs_tokens (map spelling ss))) (flat_map-map cert_text spelling ss) (certs_written true (map spelling ss) spelled) in
    subst (AreCertsOf (all_written ss)) (all_again 1 ss are) (text_of_spelled (all_written ss) (map spelling ss) kept text)

pub certificate_read : (s : Subject) → IsWritable s → AreCertsOf (written s) (cert_at 1 s ∷ [])
certificate_read s is =
    subst (λ l. AreCertsOf l (cert_at 1 s ∷ [])) (append-nil (written s))
    (certificates_read (s ∷ []) (record { some = omega arith; few = omega arith }) (All-cons IsWritable s [] is (All-nil IsWritable)))
