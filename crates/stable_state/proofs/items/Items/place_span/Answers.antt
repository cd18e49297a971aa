use Rattle.std.specs.Option.{option_copied}
use Rattle.stable_state.proofs.Spans.{found_is_picked, none_is_picked}
use Rattle.stable_state.proofs.items.Items.place_span.Goals as goal

pub returns-in-Ok : goal.returns-in-Ok
returns-in-Ok c = found_is_picked c.args.object.now (option_copied c.args.value) c.args.self.now.shelf.items c.in-Ok.spot.place c.args.self.now.rise c.in-Ok.ensures.within c.in-Ok.ensures.found

pub returns-in-Err : goal.returns-in-Err
returns-in-Err c = none_is_picked c.args.object.now (option_copied c.args.value) c.args.self.now.shelf.items c.in-Err.gap.spot.place c.in-Err.ensures.absent
