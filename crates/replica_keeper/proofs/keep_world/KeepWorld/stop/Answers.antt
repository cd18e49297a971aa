use Rattle.std.proofs.Common.{map, length, refl, sym, ap, ◌∙◌}
use Rattle.std.proofs.Props.{props}
use Rattle.std.proofs.Math.Logic.{∥∥₁_elim, ∥∥₁_map}
use Rattle.world_model.specs.Stops.{keep_stop_at}
use Rattle.replica_keeper.specs.Keeping.{groups_of}
use Rattle.replica_keeper.specs.Open.{notes_in}
use Rattle.replica_keeper.proofs.KeepStops.{notes_are, stop_keep}
use Rattle.replica_keeper.proofs.Showing.{is_open, some_node}
use Rattle.replica_keeper.proofs.keep_world.KeepWorld.stop.Goals as goal

pub restart-requires : goal.restart-requires
restart-requires c = ∥∥₁_elim (c.args.self.now.shows c.requires.goes_on) (search props) (λ x. is_open c.args.self.now.replicas.items (map (λ row. row.items) c.args.self.now.sent.items) x.0 x.1 c.args.r c.requires.of c.index_mut-replica.result.now c.index_mut-replica.ensures.value)

pub invariant_of-self-2 : goal.invariant_of-self-2
invariant_of-self-2 c = record {
  shows = λ e. ∥∥₁_map (c.args.self.now.shows c.requires.goes_on) (λ x.
      let left = some_node c.restart.new.replica.node c.in_ok-count.ensures.open in
      let read = ap (λ o. groups_of (notes_in o)) (sym left.1) ∙ c.in_ok-count.ensures.groups in
      ((keep_stop_at c.args.r c.args.b x.0).1, stop_keep c.args.self.now.replicas.items (map (λ row. row.items) c.args.self.now.sent.items) x.0 x.1 c.args.r c.requires.of c.index_mut-replica.result.now c.index_mut-replica.ensures.value c.restart.new.replica c.args.b c.restart.ensures.settings left.0 left.1 read c.in_ok-count.ensures.synced));
}

pub returns-clause-count : goal.returns-clause-count
returns-clause-count c keep shown =
    let left = some_node c.restart.new.replica.node c.in_ok-count.ensures.open in
    let read = ap (λ o. groups_of (notes_in o)) (sym left.1) ∙ c.in_ok-count.ensures.groups in
    c.in_ok-count.ensures.count ∙ ap (λ o. length (notes_in o)) left.1
    ∙ ap length (notes_are c.args.self.now.replicas.items (map (λ row. row.items) c.args.self.now.sent.items) keep shown.shows c.args.r c.requires.of c.index_mut-replica.result.now c.index_mut-replica.ensures.value c.restart.new.replica c.args.b c.restart.ensures.settings left.0 left.1 read)

pub returns-clause-world : goal.returns-clause-world
returns-clause-world c keep shown =
    let left = some_node c.restart.new.replica.node c.in_ok-count.ensures.open in
    let read = ap (λ o. groups_of (notes_in o)) (sym left.1) ∙ c.in_ok-count.ensures.groups in
    record { goes_on = refl; shows = stop_keep c.args.self.now.replicas.items (map (λ row. row.items) c.args.self.now.sent.items) keep shown.shows c.args.r c.requires.of c.index_mut-replica.result.now c.index_mut-replica.ensures.value c.restart.new.replica c.args.b c.restart.ensures.settings left.0 left.1 read c.in_ok-count.ensures.synced }
