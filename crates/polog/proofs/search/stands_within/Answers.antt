use Rattle.std.proofs.Common.{sym, ap, ◌∙◌}
use Rattle.std.specs.Ordering.{is_le}
use Rattle.polog.proofs.Places.{same-tied}
use Rattle.polog.proofs.search.stands_within.Goals as goal

pub returns-then-is_same : goal.returns-then-is_same
returns-then-is_same c = sym (ap is_le (same-tied c.args.entry.now.update.object c.args.object.now (sym c.is_same.ensures ∙ c.if-is_same.true)))
