use Rattle.std.proofs.Common.{subst}
use Rattle.stable_state.specs.Settling.{put_in_by, IsSettledAt}
use Rattle.stable_state.specs.Touched.{IsLast}
use Rattle.stable_state.proofs.Marks.{gone_is_settled, last_is_settled}
use Rattle.stable_state.proofs.items.Items.settle_last.Goals as goal

pub returns-in-Some-clause-settled : goal.returns-in-Some-clause-settled
returns-in-Some-clause-settled c =
    let old = c.args.self.now.shelf in
    let mid = c.take_touched.new.self in
    let new = c.settle_at.new.self.shelf in
    let place = c.in-Some.place in
    let pending = put_in_by c.args.entries.now in
    last_is_settled pending old mid new place c.in-Some.ensures.last
    (subst (λ items. IsSettledAt pending place items new.items) c.take_touched.ensures.items c.settle_at.ensures.cells) c.settle_at.ensures.touched

pub returns-in-None-clause-settled : goal.returns-in-None-clause-settled
returns-in-None-clause-settled c =
    let old = c.args.self.now.shelf in
    let new = c.take_touched.new.self in
    gone_is_settled (put_in_by c.args.entries.now) old new c.take_touched.ensures.items
    (subst (IsLast old new.touched) c.in-None.is c.take_touched.ensures.last)
