-- The parts of a state by their lists.
use Rattle.cap_history.specs.Reading.{one_or_none}
use Rattle.cap_store.specs.declared.parts.Parts.{Parts}
use Rattle.cap_store.specs.declared.parts.Added.{Added}
use Rattle.cap_store.specs.Inside.{Kept, Adding}

abbrev pub kept_of : {O M : Type 0} → Parts O M → Kept O M
kept_of p = record { weights = p.regs.weights; finality = p.finality; objects = p.objects.items; names = p.names.items; cache = p.cache.items; cells = p.cells; entries = p.entries.items }

abbrev pub adding_of : {O M : Type 0} → Added O M → Adding O M
adding_of a = record { weights = a.regs.weights; finality = a.finality; fresh = a.fresh.items; naming = one_or_none a.naming; keeping = one_or_none a.keeping; cells = a.cells }
