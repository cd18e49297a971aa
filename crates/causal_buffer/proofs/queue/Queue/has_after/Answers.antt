use Rattle.std.proofs.Common.{◌∙◌, sym, arith}
use Rattle.causal_buffer.proofs.Kept.{none_from, some_copied}
use Rattle.causal_buffer.proofs.Watched.{none_numbered}
use Rattle.causal_buffer.proofs.queue.Queue.has_after.Goals as goal

pub returns : goal.returns
returns c none k d l own numbered =
    none_numbered (record { origin = c.args.id.origin; seq = c.in-Some.seq }) c.args.self.now c.requires (sym (sym c.get.ensures ∙ none_from _ (sym (some_copied c.get.result) ∙ sym c.is_some.ensures ∙ none))) k d l (omega (arith, numbered, c.in-Some.ensures))
