-- What is kept beside the histories while the text is written.
use Rattle.std.specs.Prelude.{◌≡◌, map}
use Rattle.cap_history.specs.Reading.{objects}
use Rattle.cap_top_text.specs.declared.lines.Histories.{Histories}

-- the objects of each history, in order of handle
abbrev pub AreObjects : Histories → Type 0
AreObjects h = map (λ list. map (λ x. x.now) list.items) h.objects.now ≡ map (λ history. objects history.entries) h.all.now
