use Rattle.std.proofs.Common.{subst}
use Rattle.std.specs.Prelude.{None}
use Rattle.stable_state.specs.Places.{is_before, IsParted}
use Rattle.stable_state.proofs.Places.{span_is}
use Rattle.stable_state.proofs.shelf.Shelf.span.Goals as goal

pub returns : goal.returns
returns c =
    let items = c.args.self.now.items in
    let object = c.args.object.now in
    let sought = c.new.result in
    let from = c.spot-from.result.place in
    let parted : IsParted (is_before object None) items from =
    subst (λ o. IsParted (is_before o None) items from) c.new.ensures.object (subst (λ v. IsParted (is_before sought.object.now v) items from) c.new.ensures.value c.spot-from.ensures.place) in
    span_is object items c.end.ensures.rise from c.end.result c.spot-from.ensures.within c.end.ensures.within parted c.end.ensures.place
