use Rattle.std.proofs.Common.{◌∙◌, ap, sym}
use Rattle.std.specs.Option.{option_copied}
use Rattle.stable_state.proofs.Covers.{value_is_covered}
use Rattle.stable_state.proofs.items.Items.covered_span.Goals as goal

pub returns-in_default-Some : goal.returns-in_default-Some
returns-in_default-Some c =
    let value = c.in_default-Some.value.now in
    value_is_covered c.args.update.now value (sym c.value_of.ensures ∙ ap option_copied c.in_default-Some.is-1) (sym c.is_set.ensures ∙ c.if-is_set.true) c.args.self.now.shelf.items c.place_span.result.0.place c.place_span.result.1 c.place_span.ensures
