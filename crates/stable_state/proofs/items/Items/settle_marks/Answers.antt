use Rattle.std.proofs.Common.{◌≡◌, [], arith, sym}
use Rattle.std.proofs.lemmas.List.{nil_from_length}
use Rattle.stable_state.specs.Settling.{put_in_by}
use Rattle.stable_state.proofs.Marks.{none_is_settled, settled_further, all_are_settled}
use Rattle.stable_state.proofs.Moves.{settled_with}
use Rattle.stable_state.proofs.items.Items.settle_marks.Goals as goal

pub loop-left-init : goal.loop-left-init
loop-left-init c = record {
  count = sym c.touched_len-left.ensures;
  settled = none_is_settled (put_in_by c.args.entries.now) c.args.self.now.shelf;
  spare = omega arith;
  near = omega arith;
}

pub settle_last-near-requires : goal.settle_last-near-requires
settle_last-near-requires c = record { some = let count = c.loop-left.invariant.count in omega arith; near = c.loop-left.invariant.near }

pub loop-left-preserved : goal.loop-left-preserved
loop-left-preserved c =
    let before = c.loop-left.invariant in
    let after = c.settle_last-near.ensures in
    record {
      count = omega (arith, before.count, after.count);
      settled = settled_further (put_in_by c.args.entries.now) c.args.self.now.shelf c.loop-left.self.shelf c.settle_last-near.new.self.shelf before.settled after.settled;
      spare = omega (arith, before.spare, after.spare);
      near = after.near;
    }

nothing_is_left : (c : goal.After-loop-left) → c.loop-left.self.shelf.touched ≡ []
nothing_is_left c = nil_from_length c.loop-left.self.shelf.touched (omega (arith, c.loop-left.invariant.count, c.loop-left-test.false))

pub returns-clause-cells : goal.returns-clause-cells
returns-clause-cells c = all_are_settled (put_in_by c.args.entries.now) c.args.self.now.shelf c.loop-left.self.shelf c.loop-left.invariant.settled (nothing_is_left c)

pub returns-clause-of : goal.returns-clause-of
returns-clause-of c = λ w h m t same moved.
    settled_with h m w (put_in_by c.args.entries.now) c.args.self.now.shelf c.loop-left.self.shelf t same moved (returns-clause-cells c) c.loop-left.self.rise

pub returns-clause-touched : goal.returns-clause-touched
returns-clause-touched c = nothing_is_left c

pub returns-clause-spare : goal.returns-clause-spare
returns-clause-spare c = c.loop-left.invariant.spare
