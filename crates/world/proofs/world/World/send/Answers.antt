use Rattle.std.proofs.Common.{rules, ◌<◌, length, refl, sym, ap, ◌∙◌}
use Rattle.std.proofs.Props.{props}
use Rattle.std.proofs.Math.Logic.{∥∥₁_elim, ∥∥₁_map}
use Rattle.causal_model.specs.Sending.{is_sent}
use Rattle.causal_model.specs.declared.outcome.Local.TheVariants as local
use Rattle.world_model.specs.Commands as world_command
use Rattle.world_model.specs.Honest.{IsHonest}
use Rattle.world_model.specs.World.{local_at}
use Rattle.honest_worlds.proofs.Commands.{commands_keep_honest}
use Rattle.world.specs.Answers.{ShowsPlain}
use Rattle.world.specs.Brief.{brief, is_sent_briefly}
use Rattle.world.proofs.Changes.{rows_within}
use Rattle.world.proofs.Follow.{some_is_left, follows_keeps}
use Rattle.world.proofs.Nodes.{member_shown}
use Rattle.world.proofs.Replies.{replies_local}
use Rattle.world.proofs.Sends.{sent_briefly}
use Rattle.world.proofs.Asking.{recorders_stay, asked_once}
use Rattle.world.proofs.world.World.send.Goals as goal

pub index_mut-frames-requires : goal.index_mut-frames-requires
index_mut-frames-requires c =
    let low : c.args.r < length c.args.self.now.sent.items = ∥∥₁_elim c.args.self.now.shows (search props) (λ x. rows_within (λ row. row.items) c.args.self.now.nodes.items c.args.self.now.sent.items x.0 x.1 c.args.r c.requires) in
    search rules

pub invariant_of-self : goal.invariant_of-self
invariant_of-self c = let sends = c.send_briefly.ensures.sends in record {
  shows = ∥∥₁_map c.args.self.now.shows (λ x. some_is_left local.NoMemory is_sent (local_at c.args.r c.args.update x.0) x.0 sends.0 _
      (replies_local (λ row. row.items) c.args.self.now.nodes.items c.args.self.now.sent.items x.0 x.1 c.args.r c.index_mut-node.result.now c.send_briefly.new.node c.index_mut-frames.result.now c.send_briefly.new.frames
      (record { low = c.requires; at = c.index_mut-node.ensures.value }) c.send_briefly.ensures.same c.index_mut-frames.ensures.value c.args.update sends.0 c.updates_are_valid.ensures sends.2.framed sends.2.answers));
}

pub returns-clause-answer : goal.returns-clause-answer
returns-clause-answer c =
    let sends = c.send_briefly.ensures.sends in (
      sends.0,
      sends.1,
      λ plain shows. replies_local (λ row. row.items) c.args.self.now.nodes.items c.args.self.now.sent.items plain shows c.args.r c.index_mut-node.result.now c.send_briefly.new.node c.index_mut-frames.result.now c.send_briefly.new.frames
          (record { low = c.requires; at = c.index_mut-node.ensures.value }) c.send_briefly.ensures.same c.index_mut-frames.ensures.value c.args.update sends.0 c.updates_are_valid.ensures sends.2.framed sends.2.answers,
    )

pub returns-clause-honest : goal.returns-clause-honest
returns-clause-honest c =
    let made = returns-clause-answer c in
    follows_keeps local.NoMemory (local_at c.args.r c.args.update) IsHonest (ShowsPlain c.args.self.now) _ made.0 is_sent
    (λ plain shows honest. (commands_keep_honest plain (world_command.sends_at c.args.r c.args.update) honest (member_shown c.args.self.now.nodes.items _ plain shows c.args.r c.requires, c.updates_are_valid.ensures) refl).0)
    made.2

pub returns-clause-untouched : goal.returns-clause-untouched
returns-clause-untouched c unsent other =
    let sends = c.send_briefly.ensures.sends in
    recorders_stay c.args.self.now.nodes.items c.args.r c.index_mut-node.result.now c.send_briefly.new.node (record { low = c.requires; at = c.index_mut-node.ensures.value })
    (sends.2.untouched (sym (sent_briefly sends.0) ∙ (sym (ap is_sent_briefly sends.1) ∙ unsent)) (λ e. other (sends.1 ∙ ap brief e)))

pub returns-clause-once : goal.returns-clause-once
returns-clause-once c =
    asked_once c.args.self.now.nodes.items c.args.r c.index_mut-node.result.now c.send_briefly.new.node (record { low = c.requires; at = c.index_mut-node.ensures.value }) c.send_briefly.ensures.once
