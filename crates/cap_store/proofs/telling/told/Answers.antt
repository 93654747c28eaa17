use Rattle.cap_store.proofs.Finding.{short-told}
use Rattle.cap_store.proofs.telling.told.Goals as goal

pub returns-clause-short : goal.returns-clause-short
returns-clause-short g c = record { value = c.requires.short; objects = short-told c.args.value c.requires.short c.new.result c.in_ok-told.told.items c.deref.result.now c.in_ok-handles.handles.items c.new.ensures c.in_ok-told.ensures.handles c.deref.ensures.value c.in_ok-handles.ensures }
