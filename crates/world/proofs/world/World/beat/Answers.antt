use Rattle.std.proofs.Common.{rules, ◌≢◌, ◌<◌, length, refl}
use Rattle.std.proofs.Props.{props}
use Rattle.std.proofs.Math.Logic.{∥∥₁_elim, ∥∥₁_map}
use Rattle.causal_model.specs.Sending.{is_beat}
use Rattle.causal_model.specs.declared.outcome.Beat.TheVariants as beat
use Rattle.world_model.specs.Commands as world_command
use Rattle.world_model.specs.Honest.{IsHonest}
use Rattle.world_model.specs.World.{beat_at}
use Rattle.honest_worlds.proofs.Beats.{no_beat_is_held}
use Rattle.honest_worlds.proofs.Commands.{commands_keep_honest}
use Rattle.world.specs.Answers.{ShowsPlain}
use Rattle.world.specs.Growing.{settings_of}
use Rattle.world.proofs.Changes.{rows_within}
use Rattle.world.proofs.Follow.{some_is_left, follows_keeps, follows_answers}
use Rattle.world.proofs.Nodes.{StandsAt, member_shown}
use Rattle.world.proofs.Replies.{replies_beat}
use Rattle.world.proofs.Growing.{beating_grows, node_keeps, same_settings}
use Rattle.world.proofs.Asking.{recorders_stay, asked_once}
use Rattle.world.proofs.world.World.beat.Goals as goal

pub index_mut-frames-requires : goal.index_mut-frames-requires
index_mut-frames-requires c =
    let low : c.args.r < length c.args.self.now.sent.items = ∥∥₁_elim c.args.self.now.shows (search props) (λ x. rows_within (λ row. row.items) c.args.self.now.nodes.items c.args.self.now.sent.items x.0 x.1 c.args.r c.requires) in
    search rules

pub invariant_of-self : goal.invariant_of-self
invariant_of-self c = record {
  shows = ∥∥₁_map c.args.self.now.shows (λ x. some_is_left beat.NoMemory is_beat (beat_at c.args.r x.0) x.0 c.send_noop.result _
      (replies_beat (λ row. row.items) c.args.self.now.nodes.items c.args.self.now.sent.items x.0 x.1 c.args.r c.index_mut-node.result.now c.send_noop.new.node c.index_mut-frames.result.now c.send_noop.new.frames
      (record { low = c.requires; at = c.index_mut-node.ensures.value }) c.send_noop.ensures.same c.index_mut-frames.ensures.value c.send_noop.result c.send_noop.ensures.frames c.send_noop.ensures.answer));
}

pub returns-clause-answer : goal.returns-clause-answer
returns-clause-answer c plain shows =
    replies_beat (λ row. row.items) c.args.self.now.nodes.items c.args.self.now.sent.items plain shows c.args.r c.index_mut-node.result.now c.send_noop.new.node c.index_mut-frames.result.now c.send_noop.new.frames
    (record { low = c.requires; at = c.index_mut-node.ensures.value }) c.send_noop.ensures.same c.index_mut-frames.ensures.value c.send_noop.result c.send_noop.ensures.frames c.send_noop.ensures.answer

pub returns-clause-honest : goal.returns-clause-honest
returns-clause-honest c =
    follows_keeps beat.NoMemory (beat_at c.args.r) IsHonest (ShowsPlain c.args.self.now) _ c.send_noop.result is_beat
    (λ plain shows honest. (commands_keep_honest plain (world_command.beats_at c.args.r) honest (member_shown c.args.self.now.nodes.items _ plain shows c.args.r c.requires) refl).0)
    (returns-clause-answer c)

pub returns-clause-free : goal.returns-clause-free
returns-clause-free c =
    follows_answers beat.NoMemory (beat_at c.args.r) IsHonest (ShowsPlain c.args.self.now) _ c.send_noop.result is_beat (λ answer. answer ≢ beat.Held) (λ e. cc)
    (λ plain shows honest. no_beat_is_held plain c.args.r honest (member_shown c.args.self.now.nodes.items _ plain shows c.args.r c.requires))
    (returns-clause-answer c)

pub returns-clause-grown : goal.returns-clause-grown
returns-clause-grown c =
    let nodes = c.args.self.now.nodes.items in
    let node = c.index_mut-node.result.now in
    let left = c.send_noop.new.node in
    let same = c.send_noop.ensures.same in
    let stands : StandsAt nodes c.args.r node = record { low = c.requires; at = c.index_mut-node.ensures.value } in
    record {
      journals = beating_grows nodes c.args.r node stands left c.send_noop.result c.send_noop.ensures.answer;
      firsts = node_keeps (λ x. x.first) (λ a b e. e.first) nodes c.args.r node left stands same;
      settings = node_keeps settings_of same_settings nodes c.args.r node left stands same;
    }

pub returns-clause-untouched : goal.returns-clause-untouched
returns-clause-untouched c unsent other =
    recorders_stay c.args.self.now.nodes.items c.args.r c.index_mut-node.result.now c.send_noop.new.node (record { low = c.requires; at = c.index_mut-node.ensures.value }) (c.send_noop.ensures.untouched unsent other)

pub returns-clause-once : goal.returns-clause-once
returns-clause-once c =
    asked_once c.args.self.now.nodes.items c.args.r c.index_mut-node.result.now c.send_noop.new.node (record { low = c.requires; at = c.index_mut-node.ensures.value }) c.send_noop.ensures.once
