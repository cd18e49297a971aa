use Rattle.std.proofs.Common.{rules, ◌≡◌, ◌≤◌, length, take, drop, ◌∙◌, arith}
use Rattle.store_io.specs.Keeping.{Leaves}
use Rattle.replica_keeper.proofs.Moments.{goes_on}
use Rattle.replica_keeper.proofs.Starts.{read_more}
use Rattle.replica_keeper.proofs.start.read_all.Goals as goal

pub pieces-preserved : goal.pieces-preserved
pieces-preserved g c =
    let i = c.pieces.invariant in let k = c.args.keeper.now in let there = c.pieces.keeper in
    let at : c.len.result ≡ length c.pieces.bytes.items = search rules in
    let most : c.in_ok-count.count ≤ length (drop c.len.result (g.K.Keeper.held there)) = omega (arith, c.in_ok-count.ensures.count) in
    let more = read_more (g.K.Keeper.held k) (g.K.Keeper.held there) c.pieces.bytes.items (take c.in_ok-count.count c.read.new.buf) c.put.new.bytes.items c.in_ok-count.count c.len.result i.held at i.within i.read most c.in_ok-count.ensures.moved c.in_ok-put.ensures.put in
    let P = Leaves (g.K.Keeper.held k) (g.K.Keeper.synced k) in
    record {
      within = more.within;
      read = more.read;
      held = c.read.ensures.held ∙ i.held;
      synced = c.read.ensures.synced ∙ i.synced;
      steady = c.in_ok-count.ensures.steady ∙ i.steady;
      any_moment = goes_on g.K.Keeper.moment g.K.Keeper.left_since k there c.read.new.self P (Leaves (g.K.Keeper.held there) (g.K.Keeper.synced there)) i.any_moment c.read.ensures.time (λ left l. rw (i.held, i.synced) at l);
    }
