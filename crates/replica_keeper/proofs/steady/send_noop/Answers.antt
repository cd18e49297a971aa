use Rattle.std.proofs.Common.{All, IsTrue, [], sym, ap, subst}
use Rattle.std.proofs.lemmas.List.Elements.{All-head}
use Rattle.op_base.specs.Message.{fits}
use Rattle.causal_model.specs.Sending.{beat_messages}
use Rattle.world_model.specs.Records.{Settings}
use Rattle.replica_keeper.proofs.steady.send_noop.Goals as goal

pub put_frame-requires : goal.put_frame-requires
put_frame-requires c =
    let m = c.in-Done-Sent.message in
    subst (λ n. IsTrue (fits n m)) (sym (ap (λ (s : Settings). s.n) c.beat.ensures.settings)) (All-head (λ x. IsTrue (fits c.args.replica.now.n x)) m [] (subst (λ a. All (λ x. IsTrue (fits c.args.replica.now.n x)) (beat_messages a)) c.in-Done-Sent.field-0-is c.in-Done-Sent.ensures.fits))
