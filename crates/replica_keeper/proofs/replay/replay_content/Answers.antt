use Rattle.std.proofs.Common.{◌-◌, length, take, drop, lit<, subst, IfOk}
use Rattle.frame_codec.proofs.Read.{frames_are_read}
use Rattle.replica_keeper.proofs.Opened.{are_small}
use Rattle.world_model.proofs.Commands.{frame_is_carried}
use Rattle.replica_keeper.specs.Replaying.{Replays}
use Rattle.replica_keeper.proofs.Replays.{untold_content, whole_content}
use Rattle.replica_keeper.proofs.replay.replay_content.Goals as goal

pub replay_sent-requires : goal.replay_sent-requires
replay_sent-requires c =
    let r = c.args.node.now.inner in
    record { read = frames_are_read r.n 0 r.limit (lit< tt) (are_small r.me r.n r.w r.limit r.numbers).small (take (length c.args.content.now - 1) (drop 1 c.args.content.now)) c.in-Ok.message c.in-Ok.ensures.found }

pub replay_accepted-requires-clause-read : goal.replay_accepted-requires-clause-read
replay_accepted-requires-clause-read c =
    let r = c.args.node.now.inner in
    frames_are_read r.n 0 r.limit (lit< tt) (are_small r.me r.n r.w r.limit r.numbers).small (take (length c.args.content.now - 1) (drop 1 c.args.content.now)) c.in-Ok.message c.in-Ok.ensures.found

pub replay_accepted-requires-clause-carried : goal.replay_accepted-requires-clause-carried
replay_accepted-requires-clause-carried c = let r = c.args.node.now.inner in (frame_is_carried r.n 0 r.limit (take (length c.args.content.now - 1) (drop 1 c.args.content.now)) c.in-Ok.message c.in-Ok.ensures.found).1

pub returns-then-way-eq-SENT-clause-replays : goal.returns-then-way-eq-SENT-clause-replays
returns-then-way-eq-SENT-clause-replays c =
    subst (λ content. IfOk c.replay_sent.result (λ told. Replays c.args.node.now c.replay_sent.new.node content told)) (whole_content c.args.content.now 1 c.requires c.if-way-eq-SENT.true) c.replay_sent.ensures.replays

pub returns-then-way-eq-ACCEPTED-clause-replays : goal.returns-then-way-eq-ACCEPTED-clause-replays
returns-then-way-eq-ACCEPTED-clause-replays c =
    subst (λ content. IfOk c.replay_accepted.result (λ told. Replays c.args.node.now c.replay_accepted.new.node content told)) (whole_content c.args.content.now 2 c.requires c.if-way-eq-ACCEPTED.true) c.replay_accepted.ensures.replays

pub returns-else-way-eq-ACCEPTED-clause-replays : goal.returns-else-way-eq-ACCEPTED-clause-replays
returns-else-way-eq-ACCEPTED-clause-replays c =
    let r = c.args.node.now.inner in
    untold_content c.args.node.now c.args.content.now c.in-Ok.message c.requires
    (frames_are_read r.n 0 r.limit (lit< tt) (are_small r.me r.n r.w r.limit r.numbers).small (take (length c.args.content.now - 1) (drop 1 c.args.content.now)) c.in-Ok.message c.in-Ok.ensures.found)
    c.if-way-eq-SENT.false c.if-way-eq-ACCEPTED.false
