use Rattle.std.proofs.Common.{inl, inr, rules, map, length, ◌<◌, refl, sym, ◌∙◌}
use Rattle.std.proofs.Props.{props}
use Rattle.std.proofs.Math.Logic.{∥∥₁_elim, ∥∥₁_map}
use Rattle.world_model.specs.Stops.{keep_beat_at}
use Rattle.world_model.specs.World.{replica_of}
use Rattle.replica_keeper.proofs.Calling.{beaten_wants_none, not_ended}
use Rattle.replica_keeper.proofs.KeepCalls.{beat_keep}
use Rattle.replica_keeper.proofs.Showing.{is_open, row_within}
use Rattle.replica_keeper.proofs.keep_world.KeepWorld.beat.Goals as goal

pub index_mut-frames-requires : goal.index_mut-frames-requires
index_mut-frames-requires c =
    let low : c.args.r < length c.args.self.now.sent.items = ∥∥₁_elim (c.args.self.now.shows c.requires.goes_on) (search props) (λ x. row_within c.args.self.now.replicas.items (map (λ row. row.items) c.args.self.now.sent.items) x.0 x.1 c.args.r c.requires.to (λ row. row.items) c.args.self.now.sent.items refl) in
    search rules

pub send_noop-answer-requires : goal.send_noop-answer-requires
send_noop-answer-requires c = ∥∥₁_elim (c.args.self.now.shows c.requires.goes_on) (search props) (λ x. is_open c.args.self.now.replicas.items (map (λ row. row.items) c.args.self.now.sent.items) x.0 x.1 c.args.r c.requires.to c.index_mut-replica.result.now c.index_mut-replica.ensures.value)

pub invariant_of-self : goal.invariant_of-self
invariant_of-self c = record {
  shows = λ e. ∥∥₁_map (c.args.self.now.shows c.requires.goes_on) (λ x.
      elim (beat_keep (λ row. row.items) c.args.self.now.replicas.items c.args.self.now.sent.items x.0 x.1 c.args.r c.requires.to c.index_mut-replica.result.now c.index_mut-replica.ensures.value c.send_noop-answer.new.replica
      c.index_mut-frames.result.now c.send_noop-answer.new.frames c.index_mut-frames.ensures.value c.send_noop-answer.result c.send_noop-answer.ensures) [
        | inl made ↦ ((keep_beat_at c.args.r x.0).1, made.1)
        | inr lost ↦ absurd (c.no_beat-self.ensures.other e lost.0)
      ]);
}

pub returns-clause-answer : goal.returns-clause-answer
returns-clause-answer c keep shown =
    elim (beat_keep (λ row. row.items) c.args.self.now.replicas.items c.args.self.now.sent.items keep shown.shows c.args.r c.requires.to c.index_mut-replica.result.now c.index_mut-replica.ensures.value c.send_noop-answer.new.replica
    c.index_mut-frames.result.now c.send_noop-answer.new.frames c.index_mut-frames.ensures.value c.send_noop-answer.result c.send_noop-answer.ensures) [
      | inl made ↦ inl (made.0, record { goes_on = not_ended c.no_beat-self.result (λ ended. beaten_wants_none keep.world.w keep.world.limit (replica_of keep.world c.args.r) (sym made.0 ∙ c.no_beat-self.ensures.is ended)); shows = made.1 })
      | inr lost ↦ inr lost
    ]
