-- A worked example: nothing is registered, so each operation is missing.
use Rattle.std.proofs.Common.{◌≡◌, ℕ, ◌<◌, [], ◌∷◌, take, map, replicate, None, refl, sym, subst, arith}
use Rattle.std.specs.Prelude.{codes, slice_index}
use Rattle.std.specs.List.{slice_index_or}
use Rattle.std.proofs.lemmas.List.{get_or-replicate}
use Rattle.std.proofs.lemmas.List.Elements.{All-replicate}
use Rattle.cap_ops.specs.declared.plans.Kind.TheVariants.{Mat}
use Rattle.cap_ops.specs.declared.plans.Choice.TheVariants.{Missing}
use Rattle.cap_ops.specs.declared.plans.TheConstants.{OPERATIONS, NO_PLAN}
use Rattle.cap_ops.specs.Derivations.{IsWeight}
use Rattle.cap_cert.specs.Texts.{operation_word}
use Rattle.cap_cert.specs.Reading.{IsNameText}
use Rattle.cap_cert.specs.Machine.{is_name, is_word_text}
use Rattle.cap_cert.proofs.WordTests.{name_only}
use Rattle.cap_cert_laws.specs.Written.{Subject, written, certs_from, IsWritableWay, IsWritable}

nothing : Subject
nothing = record { name = codes "V"; kind = Mat; regs = record { weights = replicate OPERATIONS None }; plan = record { choices = replicate OPERATIONS Missing; bounds = replicate OPERATIONS NO_PLAN } }

v_is_name : IsNameText (codes "V")
unfolding is_name is_word_text
v_is_name = name_only (codes "V") refl

no_weight : IsWeight None
no_weight = record { from = λ n h. absurd (cc (h)); to = λ n h. absurd (cc (h)) }

missing_writable : IsWritableWay Missing NO_PLAN
missing_writable = record { capped = omega arith; rule = λ number e. absurd (cc (e)); missing = λ e. refl }

all_missing : (op : ℕ) → op < OPERATIONS → IsWritableWay (slice_index_or (replicate OPERATIONS Missing) op Missing) (slice_index (replicate OPERATIONS NO_PLAN) op)
all_missing op lt =
    subst (λ c. IsWritableWay c (slice_index (replicate OPERATIONS NO_PLAN) op)) (sym (get_or-replicate OPERATIONS op Missing Missing lt))
    (subst (IsWritableWay Missing) (sym (get_or-replicate OPERATIONS op NO_PLAN 0 lt)) missing_writable)

-- it can be written
nothing_writable : IsWritable nothing
unfolding nothing
nothing_writable = record {
  category = record { name = v_is_name; all_weights = refl; weights = All-replicate IsWeight OPERATIONS None no_weight };
  all_bounds = refl;
  all_choices = refl;
  ways = all_missing;
}

-- how it begins
beginning : take 59 (written nothing) ≡ codes "certificate 1 V vec\nop Identity missing\nop Compose missing\n"
unfolding nothing operation_word
beginning = refl

-- it has 46 lines, so a second one begins at line 47
numbers : map (λ c. c.first_line) (certs_from 1 (nothing ∷ nothing ∷ [])) ≡ 1 ∷ 47 ∷ []
unfolding nothing
numbers = refl
