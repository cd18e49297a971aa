use Rattle.std.proofs.Common.{◌<◌, length, sym, ap, ◌∙◌, arith}
use Rattle.std.specs.List.{find, list_any}
use Rattle.std.specs.Option.{is_some}
use Rattle.causal_model.specs.Early.{has_id}
use Rattle.causal_buffer.specs.Buffer.{Buffer}
use Rattle.causal_buffer.specs.Queue.{messages}
use Rattle.causal_buffer.proofs.Kept.{any_in_queue, some_copied}
use Rattle.causal_buffer.proofs.buffer.CausalBuffer.holds.Goals as goal

pub returns : goal.returns
returns c =
    let qs = c.self.inside.queues.items in
    let q = c.index.result.now in
    let inside : c.args.id.origin < length qs = omega (arith, ap (λ (b : Buffer). b.n) c.self.view_is, c.self.invariant.count, c.requires) in
    c.is_some.ensures ∙ some_copied c.get.result ∙ ap is_some c.get.ensures ∙ ap (λ z. is_some (find (has_id c.args.id) (messages z))) c.index.ensures
    ∙ sym (any_in_queue c.self.inside.n c.self.inside.w qs q c.self.invariant.kept c.args.id inside)
    ∙ ap (λ (b : Buffer). list_any (has_id c.args.id) b.early) c.self.view_is
