use Rattle.std.proofs.Common.{◌≡◌, ◌++◌, take}
use Rattle.cap_session.proofs.answers.push_categories.Given as goal

abbrev pub invariant-categories : goal.invariant-categories
invariant-categories l = l.copies ≡ l.fn.copies ++ take l.made-index l.categories
