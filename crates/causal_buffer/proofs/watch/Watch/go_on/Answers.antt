use Rattle.std.proofs.Common.{sym, ◌∙◌}
use Rattle.std.proofs.lemmas.Bool.{not-false}
use Rattle.causal_buffer.proofs.Watched.{tags_alike}
use Rattle.causal_buffer.proofs.watch.Watch.go_on.Goals as goal

pub returns-else-ne-clause-counts : goal.returns-else-ne-clause-counts
returns-else-ne-clause-counts c = tags_alike c.args.self.now.counts c.args.counts.now (not-false _ (sym c.ne.ensures ∙ c.if-ne.false))
