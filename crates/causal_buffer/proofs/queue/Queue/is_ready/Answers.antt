use Rattle.std.proofs.Common.{not, length, sym, ap, ◌∙◌}
use Rattle.causal_buffer.proofs.Watched.{told_by_test}
use Rattle.causal_buffer.proofs.Waits.{waits_is_unready}
use Rattle.causal_buffer.proofs.queue.Queue.is_ready.Goals as goal

pub returns-else-not-waits-clause-ready : goal.returns-else-not-waits-clause-ready
returns-else-not-waits-clause-ready c =
    ap not c.if-not-waits.false
    ∙ sym (waits_is_unready (length c.args.counts.now) c.args.counts.now c.args.id c.args.self.now c.requires.queue c.requires.wait (sym c.waits.ensures ∙ c.if-not-waits.false))

pub returns-else-not-waits-clause-told : goal.returns-else-not-waits-clause-told
returns-else-not-waits-clause-told c _ =
    told_by_test c.args.id.seq c.args.counts.now c.args.self.now c.requires.queue.counted (sym c.waits.ensures ∙ c.if-not-waits.false)
