use Rattle.stable_state.proofs.Spans.{span_is_picked}
use Rattle.stable_state.proofs.items.Items.object_span.Goals as goal

pub returns-clause-picked : goal.returns-clause-picked
returns-clause-picked c = span_is_picked c.args.object.now c.args.self.now.shelf.items c.span.result.0.place c.span.result.1 c.span.ensures
