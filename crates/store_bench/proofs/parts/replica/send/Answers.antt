use Rattle.std.proofs.Common.{IsTrue, All, subst, arith}
use Rattle.op_base.specs.Message.{fits}
use Rattle.causal_model.specs.Counts.{is_carried}
use Rattle.causal_model.specs.Sending.{local_messages}
use Rattle.store_bench.proofs.parts.replica.send.Goals as goal

pub invariant_of-result : goal.invariant_of-result
invariant_of-result c =
    let r = c.args.replica.now in
    let m = c.in-Sent.message in
    record {
      fits = subst (λ answer. All (λ m. IsTrue (fits r.n m)) (local_messages answer)) c.in-Sent.is c.local.ensures.fits 0 m (omega arith);
      carried = subst (λ answer. All (λ m. IsTrue (is_carried r.limit m)) (local_messages answer)) c.in-Sent.is c.local.ensures.carried 0 m (omega arith);
    }
