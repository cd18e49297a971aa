use Rattle.std.proofs.Common.{ap}
use Rattle.std.specs.Prelude.{option_copied}
use Rattle.stable_state.specs.Places.{is_before}
use Rattle.stable_state.proofs.Places.{point_moves}
use Rattle.stable_state.proofs.shelf.Shelf.spot_afar.Goals as goal

pub returns : goal.returns
returns c =
    let s = c.self.inside in
    let point = point_moves (is_before c.args.sought.now.object.now (option_copied c.args.sought.now.value)) s.slots s.order.items c.args.self.now.items c.place_of.result.place (ap (λ shelved. shelved.items) c.self.view_is) c.place_of.ensures.within c.place_of.ensures.place in
    record { within = point.0; place = point.1 }
