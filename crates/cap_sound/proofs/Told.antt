-- Each mark of a script that stands in some text is told.
use Rattle.std.proofs.Common.{◌≡◌, refl, ℕ, suc, ◌-◌, ◌≤◌, List, [], ◌∷◌, ◌++◌, length, map, take, ap, sym, ◌∙◌, arith, Some, None}
use Rattle.std.specs.Prelude.{nat_le}
use Rattle.std.specs.List.{All}
use Rattle.std.proofs.lemmas.List.{map-append}
use Rattle.std.proofs.lemmas.List.Elements.{filter_map-append, All-nil, All-cons}
use Rattle.cap_names.specs.declared.reasons.Reason.{Reason}
use Rattle.cap_names.specs.declared.reasons.BadScript.{BadScript}
use Rattle.cap_reading.specs.Languages.{◌·◌, each}
use Rattle.cap_grammar.specs.declared.tree.Place.{Place}
use Rattle.cap_grammar.specs.declared.symbol.Fixed.TheVariants as word
use Rattle.cap_grammar.specs.Grammar.{fixed, name, command, part}
use Rattle.cap_grammar.specs.Scripts.{symbols, placed, IsSession}
use Rattle.cap_grammar.specs.Scripts as grammar
use Rattle.cap_block_faults.specs.Marks.{Mark, faults, each_from}
use Rattle.cap_block_faults.specs.Names.{Part}
use Rattle.cap_faults.specs.declared.values.Value.{Value}
use Rattle.cap_faults.specs.Commands.{scope}
use Rattle.cap_faults.specs.Scripts.{values_behind, bound_by_part, bound_by_command, SessionCommand, Session, session_marks, commands_left, part_faults, command_faults, commands_faults, session_faults, script_faults, prelude_faults, sessions_faults}
use Rattle.cap_sound.specs.Marked.{marks_of_part, marks_of_command, marks_of_session, script_marks, told_reasons}
use Rattle.cap_sound.specs.Laws.{PartsHavePlaces, CommandsHavePlaces, SessionsHavePlaces, EveryMarkIsTold, SoundWhereFree}
use Rattle.cap_sound.proofs.Lengths.{length_append, length_mapped, kept}
use Rattle.cap_sound.proofs.Fits.{Fits, item_one, none, ◌then◌}
use Rattle.cap_sound.proofs.Commands.{item_fits, command_fits}

pub parts_have_places : PartsHavePlaces
parts_have_places p text t full before values =
    let a = (item_fits full before values p.node).holds (symbols text) t.0 in
    let b = kept part p text t in
    omega (arith, a, b)

pub commands_have_places : CommandsHavePlaces
commands_have_places c text t s =
    let a = (command_fits s c.node).holds (symbols text) t.0 in
    let b = kept command c text t in
    omega (arith, a, b)

pub sessions_have_places : SessionsHavePlaces
sessions_have_places s text t earlier i =
    let begins : Fits (session_marks earlier i s.node.name) (fixed word.Session · name s.node.name · fixed word.Newline) = item_one then item_one then none in
    let a = begins.holds (symbols t.first) t.begins in
    let b = length_mapped (λ m. m.symbol) t.first in
    let c = length_mapped (λ m. m.place) (t.first ++ t.last) in
    let d = ap length t.kept in
    let e = length_append t.first t.last in
    omega (arith, a, b, c, d, e)

-- the reasons of faults
abbrev pub reasons : List BadScript → List Reason
reasons found = map (λ fault. fault.reason) found

faults_told : (ps : List Place) (ms : List Mark) → length ms ≤ length ps → reasons (faults ps ms) ≡ told_reasons ms
faults_told [] [] h = refl
faults_told (p ∷ ps) [] h = refl
faults_told [] (m ∷ ms) h = absurd (omega arith)
faults_told (p ∷ ps) (None ∷ ms) h = faults_told ps ms (omega arith)
faults_told (p ∷ ps) (Some r ∷ ms) h = ap (λ l. r ∷ l) (faults_told ps ms (omega arith))

-- item by item
both_told : (f g : List BadScript) (a b : List Mark) → reasons f ≡ told_reasons a → reasons g ≡ told_reasons b → reasons (f ++ g) ≡ told_reasons (a ++ b)
both_told f g a b e k =
    map-append (λ fault. fault.reason) f g ∙ ap (λ l. l ++ reasons g) e ∙ ap (λ l. told_reasons a ++ l) k ∙ sym (filter_map-append (λ m. m) a b)

parts_told : (all : List Part) (i : ℕ) (xs : List Part) (text : List grammar.Mark) → each (placed part) xs text → reasons (each_from (part_faults all) i xs) ≡ told_reasons (each_from (marks_of_part all) i xs)
parts_told all i [] text t = refl
parts_told all i (x ∷ xs) text t =
    both_told (part_faults all i x) (each_from (part_faults all) (suc i) xs) (marks_of_part all i x) (each_from (marks_of_part all) (suc i) xs)
    (faults_told x.places (marks_of_part all i x) (parts_have_places x t.front t.first (nat_le 4096 i) (take i all) (values_behind bound_by_part [] (take i all))))
    (parts_told all (suc i) xs t.rest t.second)

commands_told : (left : ℕ) (parts : List Part) (outer : List Value) (all : List SessionCommand) (i : ℕ) (xs : List SessionCommand) (text : List grammar.Mark) → each (placed command) xs text → reasons (each_from (command_faults left parts outer all) i xs) ≡ told_reasons (each_from (marks_of_command left parts outer all) i xs)
commands_told left parts outer all i [] text t = refl
commands_told left parts outer all i (x ∷ xs) text t =
    both_told (command_faults left parts outer all i x) (each_from (command_faults left parts outer all) (suc i) xs) (marks_of_command left parts outer all i x) (each_from (marks_of_command left parts outer all) (suc i) xs)
    (faults_told x.places (marks_of_command left parts outer all i x)
    (commands_have_places x t.front t.first (scope (nat_le left i) parts (length (values_behind bound_by_command outer (take i all)) - length outer) (values_behind bound_by_command outer (take i all)))))
    (commands_told left parts outer all (suc i) xs t.rest t.second)

sessions_told : (parts : List Part) (outer : List Value) (all : List Session) (i : ℕ) (xs : List Session) (text : List grammar.Mark) → each IsSession xs text → reasons (each_from (session_faults parts outer all) i xs) ≡ told_reasons (each_from (marks_of_session parts outer all) i xs)
sessions_told parts outer all i [] text t = refl
sessions_told parts outer all i (x ∷ xs) text t =
    let left = commands_left parts (take i all) in
    both_told (session_faults parts outer all i x) (each_from (session_faults parts outer all) (suc i) xs) (marks_of_session parts outer all i x) (each_from (marks_of_session parts outer all) (suc i) xs)
    (both_told (faults x.places (session_marks (take i all) i x.node.name)) (commands_faults left parts outer x.node.commands) (session_marks (take i all) i x.node.name) (each_from (marks_of_command left parts outer x.node.commands) 0 x.node.commands)
    (faults_told x.places (session_marks (take i all) i x.node.name) (sessions_have_places x t.front t.first (take i all) i))
    (commands_told left parts outer x.node.commands 0 x.node.commands t.first.inner t.first.commands))
    (sessions_told parts outer all (suc i) xs t.rest t.second)

pub every_mark_is_told : EveryMarkIsTold
every_mark_is_told s given =
    let script = given.1.text in
    let outer = values_behind bound_by_part [] s.prelude in
    both_told (prelude_faults s.prelude) (sessions_faults s.prelude outer s.sessions) (each_from (marks_of_part s.prelude) 0 s.prelude) (each_from (marks_of_session s.prelude outer s.sessions) 0 s.sessions)
    (parts_told s.prelude 0 s.prelude script.front script.first) (sessions_told s.prelude outer s.sessions 0 s.sessions script.rest script.second)

-- no reason is told where all marks are free, and the other way round
free_none : (ms : List Mark) → All (λ m. m ≡ None) ms → told_reasons ms ≡ []
free_none [] h = refl
free_none (None ∷ ms) h = free_none ms (λ k d b. h (suc k) d (omega (arith, b)))
free_none (Some r ∷ ms) h = absurd (let e : Some r ≡ None = h 0 None (omega arith) in cc)

none_free : (ms : List Mark) → told_reasons ms ≡ [] → All (λ m. m ≡ None) ms
none_free [] e = All-nil (λ m. m ≡ None)
none_free (None ∷ ms) e = All-cons (λ m. m ≡ None) None ms refl (none_free ms e)
none_free (Some r ∷ ms) e = absurd (let n = ap length e in omega (arith, n))

no_reasons : (found : List BadScript) → reasons found ≡ [] → found ≡ []
no_reasons [] e = refl
no_reasons (f ∷ found) e = absurd (let n = ap length e in omega (arith, n))

pub sound_where_free : SoundWhereFree
sound_where_free s given = (
  λ sound. none_free (script_marks s) (sym (every_mark_is_told s given) ∙ ap reasons sound),
  λ free. no_reasons (script_faults s) (every_mark_is_told s given ∙ free_none (script_marks s) free),
)
