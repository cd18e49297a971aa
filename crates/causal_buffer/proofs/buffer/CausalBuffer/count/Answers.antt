use Rattle.std.proofs.Common.{◌≡◌, ◌≢◌, ◌+◌, ◌<◌, false, length, ap, arith}
use Rattle.std.specs.List.{flat_map}
use Rattle.op_base.specs.Message.{number}
use Rattle.causal_buffer.specs.Buffer.{Buffer}
use Rattle.causal_buffer.specs.Queue.{messages}
use Rattle.causal_buffer.proofs.Watched.{of_member}
use Rattle.causal_buffer.proofs.buffer.CausalBuffer.count.Goals as goal

pub invariant_of-self : goal.invariant_of-self
invariant_of-self c =
    let n = c.self.inside.n in
    let w = c.self.inside.w in
    let qs = c.self.inside.queues.items in
    let is = c.self.invariant in
    let x = c.args.id.origin in
    let inside : x < length qs = omega (arith, ap (λ (b : Buffer). b.n) c.self.view_is, is.count, c.requires) in
    let after = λ (none : c.has_after-follows.result ≡ false). of_member n w qs is.kept x (λ m. m.origin ≡ x → number m ≢ c.args.id.seq + 1) c.index.result.now c.index.ensures (c.has_after-follows.ensures none) in
    record {
      some = is.some;
      few = is.few;
      narrow = is.narrow;
      count = is.count;
      kept = is.kept;
      counted = is.counted;
      watched = c.count.ensures n (flat_map messages qs) is.watched (λ none k d l own. after none k d l own own);
    }
