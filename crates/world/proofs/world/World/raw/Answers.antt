use Rattle.std.proofs.Common.{map}
use Rattle.std.proofs.Math.Logic.{∥∥₁_map}
use Rattle.world_model.specs.Raw.{is_frame, raw_at}
use Rattle.world_model.specs.declared.outcome.RawGot.TheVariants as raw
use Rattle.world.proofs.Bytes.{replies_raw}
use Rattle.world.proofs.Follow.{some_is_left}
use Rattle.world.proofs.Asking.{recorders_stay, asked_once}
use Rattle.world.proofs.world.World.raw.Goals as goal

pub invariant_of-self : goal.invariant_of-self
invariant_of-self c = record {
  shows = ∥∥₁_map c.args.self.now.shows (λ x. some_is_left raw.NoMemory is_frame (raw_at c.args.r c.args.bytes.now x.0) x.0 c.offer_bytes.result _
      (replies_raw c.args.self.now.nodes.items (map (λ row. row.items) c.args.self.now.sent.items) x.0 x.1 c.args.r c.index_mut.result.now
      (record { low = c.requires; at = c.index_mut.ensures.value }) c.offer_bytes.new.node c.offer_bytes.ensures.same c.args.bytes.now c.offer_bytes.result c.type_inv.bytes c.offer_bytes.ensures.answer));
}

pub returns-clause-answer : goal.returns-clause-answer
returns-clause-answer c plain shows =
    replies_raw c.args.self.now.nodes.items (map (λ row. row.items) c.args.self.now.sent.items) plain shows c.args.r c.index_mut.result.now
    (record { low = c.requires; at = c.index_mut.ensures.value }) c.offer_bytes.new.node c.offer_bytes.ensures.same c.args.bytes.now c.offer_bytes.result c.type_inv.bytes c.offer_bytes.ensures.answer

pub returns-clause-untouched : goal.returns-clause-untouched
returns-clause-untouched c untaken other =
    recorders_stay c.args.self.now.nodes.items c.args.r c.index_mut.result.now c.offer_bytes.new.node (record { low = c.requires; at = c.index_mut.ensures.value }) (c.offer_bytes.ensures.untouched untaken other)

pub returns-clause-once : goal.returns-clause-once
returns-clause-once c =
    asked_once c.args.self.now.nodes.items c.args.r c.index_mut.result.now c.offer_bytes.new.node (record { low = c.requires; at = c.index_mut.ensures.value }) c.offer_bytes.ensures.once
