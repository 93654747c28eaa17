use Rattle.std.proofs.Common.{ℕ, ◌<◌, ◌≡◌, get_or, [], false}
use Rattle.cap_cert.specs.Reading.{script_words}
use Rattle.cap_cert.specs.Machine.{is}
use Rattle.cap_cert.proofs.words.is_script_word.Given as goal

abbrev pub invariant-words : goal.invariant-words
invariant-words l = (k : ℕ) → k < l.place → is (get_or script_words k []) l.text ≡ false
