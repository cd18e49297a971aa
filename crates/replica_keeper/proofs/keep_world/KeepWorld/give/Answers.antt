use Rattle.std.proofs.Common.{rules, inl, inr, ◌<◌, ◌≤◌, length, map, refl, sym, ap, ◌∙◌, arith}
use Rattle.std.proofs.Props.{props}
use Rattle.std.proofs.Math.Logic.{∥∥₁_elim, ∥∥₁_map}
use Rattle.world_model.specs.Stops.{keep_give_at}
use Rattle.world_model.specs.World.{sent_message}
use Rattle.world_model.specs.declared.outcome.Given.TheVariants as given
use Rattle.world.proofs.Givings.{none_at_0, none_is_past}
use Rattle.replica_keeper.specs.Worlds.{Shown}
use Rattle.replica_keeper.proofs.Calling.{not_ended}
use Rattle.replica_keeper.proofs.KeepCalls.{got_back, given_there, give_keep, none_keep, given_wants_none}
use Rattle.replica_keeper.proofs.Showing.{is_open, n_there, row_within}
use Rattle.replica_keeper.proofs.keep_world.KeepWorld.give.Goals as goal

pub returns-then-seq-eq0-clause-answer : goal.returns-then-seq-eq0-clause-answer
returns-then-seq-eq0-clause-answer c keep shown =
    let shows = shown.shows in
    none_keep keep c.args.r c.args.k c.args.seq (Shown c.args.self.now) (none_at_0 shows.nodes (map (λ row. row.items) c.args.self.now.sent.items) keep.world shows.shows c.args.k (omega (arith, c.requires.of, shows.count)) c.args.seq c.if-seq-eq0.true) shown

pub index-frames-requires : goal.index-frames-requires
index-frames-requires c =
    let low : c.args.k < length c.args.self.now.sent.items = ∥∥₁_elim (c.args.self.now.shows c.requires.goes_on) (search props) (λ x. row_within c.args.self.now.replicas.items (map (λ row. row.items) c.args.self.now.sent.items) x.0 x.1 c.args.k c.requires.of (λ row. row.items) c.args.self.now.sent.items refl) in
    search rules

pub returns-then-seq-len-clause-answer : goal.returns-then-seq-len-clause-answer
returns-then-seq-len-clause-answer c keep shown =
    let shows = shown.shows in
    let past : length c.index-frames.result.now.items < c.args.seq = search rules in
    none_keep keep c.args.r c.args.k c.args.seq (Shown _)
    (none_is_past (λ row. row.items) shows.nodes c.args.self.now.sent.items keep.world shows.shows c.args.k c.index-frames.result.now (omega (arith, c.requires.of, shows.count)) c.index-frames.ensures c.args.seq past)
    (record { goes_on = shown.goes_on; shows = shown.shows })

pub offer_frame-answer-requires-clause-open : goal.offer_frame-answer-requires-clause-open
offer_frame-answer-requires-clause-open c = ∥∥₁_elim (c.args.self.now.shows c.requires.goes_on) (search props) (λ x. is_open c.args.self.now.replicas.items (map (λ row. row.items) c.args.self.now.sent.items) x.0 x.1 c.args.r c.requires.to c.index_mut-replica.result.now c.index_mut-replica.ensures.value)

pub offer_frame-answer-requires-clause-of : goal.offer_frame-answer-requires-clause-of
offer_frame-answer-requires-clause-of c = ∥∥₁_elim (c.args.self.now.shows c.requires.goes_on) (search props) (λ x.
    omega (arith, c.requires.of, x.1.count, n_there c.args.self.now.replicas.items (map (λ row. row.items) c.args.self.now.sent.items) x.0 x.1 c.args.r c.requires.to c.index_mut-replica.result.now c.index_mut-replica.ensures.value))

pub offer_frame-answer-requires-clause-frame : goal.offer_frame-answer-requires-clause-frame
offer_frame-answer-requires-clause-frame c =
    let row = c.index-frames.result.now in
    let most : c.args.seq ≤ length row.items = search rules in
    let frame = c.at-frame.result.now in
    let is = c.at-frame.ensures frame in
    ∥∥₁_map (c.args.self.now.shows c.requires.goes_on) (λ x. let one = given_there (λ row. row.items) c.args.self.now.replicas.items c.args.self.now.sent.items x.0 x.1 c.args.r c.requires.to c.index_mut-replica.result.now c.index_mut-replica.ensures.value c.index_mut-replica.result.now c.args.k c.requires.of row c.index-frames.ensures c.args.seq c.if-seq-eq0.false most frame is in (one.0, one.1.is))

pub invariant_of-self-2 : goal.invariant_of-self-2
invariant_of-self-2 c =
    let row = c.index-frames.result.now in
    let most : c.args.seq ≤ length row.items = search rules in
    let frame = c.at-frame.result.now in
    let is = c.at-frame.ensures frame in
    record {
      shows = λ e. ∥∥₁_map (c.args.self.now.shows c.requires.goes_on) (λ x.
          let one = given_there (λ row. row.items) c.args.self.now.replicas.items c.args.self.now.sent.items x.0 x.1 c.args.r c.requires.to c.index_mut-replica.result.now c.index_mut-replica.ensures.value c.offer_frame-answer.new.replica c.args.k c.requires.of row c.index-frames.ensures c.args.seq c.if-seq-eq0.false most frame is in
          elim (give_keep (λ row. row.items) c.args.self.now.replicas.items c.args.self.now.sent.items x.0 x.1 c.args.r c.requires.to c.index_mut-replica.result.now c.index_mut-replica.ensures.value c.offer_frame-answer.new.replica c.args.k c.requires.of row c.index-frames.ensures c.args.seq c.if-seq-eq0.false most frame is c.offer_frame-answer.result (c.offer_frame-answer.ensures one.0 one.1.is)) [
            | inl made ↦ ((keep_give_at c.args.r c.args.k c.args.seq x.0).1, made.1)
            | inr lost ↦ absurd (c.no_receive-self.ensures.other e (got_back lost.0))
          ]);
    }

pub returns-clause-answer : goal.returns-clause-answer
returns-clause-answer c keep shown =
    let row = c.index-frames.result.now in
    let most : c.args.seq ≤ length row.items = search rules in
    let frame = c.at-frame.result.now in
    let is = c.at-frame.ensures frame in
    let one = given_there (λ row. row.items) c.args.self.now.replicas.items c.args.self.now.sent.items keep shown.shows c.args.r c.requires.to c.index_mut-replica.result.now c.index_mut-replica.ensures.value c.offer_frame-answer.new.replica c.args.k c.requires.of row c.index-frames.ensures c.args.seq c.if-seq-eq0.false most frame is in
    elim (give_keep (λ row. row.items) c.args.self.now.replicas.items c.args.self.now.sent.items keep shown.shows c.args.r c.requires.to c.index_mut-replica.result.now c.index_mut-replica.ensures.value c.offer_frame-answer.new.replica c.args.k c.requires.of row c.index-frames.ensures c.args.seq c.if-seq-eq0.false most frame is c.offer_frame-answer.result (c.offer_frame-answer.ensures one.0 one.1.is)) [
      | inl made ↦ inl (made.0, record { goes_on = not_ended c.no_receive-self.result (λ ended. given_wants_none keep c.args.r (sent_message keep.world c.args.k c.args.seq) (sym made.0 ∙ ap (λ a. given.Got a) (c.no_receive-self.ensures.is ended))); shows = made.1 })
      | inr lost ↦ inr lost
    ]
