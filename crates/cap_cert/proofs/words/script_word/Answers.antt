use Rattle.cap_cert.proofs.WordTests.{word_in}
use Rattle.cap_cert.proofs.words.script_word.Goals as goal

pub returns : goal.returns
returns c = word_in _ _ c.args.place c.script_words.ensures c.requires
