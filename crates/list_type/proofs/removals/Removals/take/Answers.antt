use Rattle.std.proofs.Common.{◌||◌, sym, ap, ◌∙◌}
use Rattle.std.specs.List.{list_any}
use Rattle.list_type.specs.Removals.{deletes_by}
use Rattle.list_type.proofs.TakenOut.{taken_parted}
use Rattle.list_type.proofs.removals.Removals.take.Goals as goal

pub returns-then-take : goal.returns-then-take
returns-then-take c =
    c.if-take.true
    ∙ sym (taken_parted c.args.epoch c.args.entries.now c.args.id.now ∙ ap (λ b. b || list_any (λ e. deletes_by c.args.epoch e c.args.id.now) c.args.entries.now) (sym c.take.ensures ∙ c.if-take.true))

pub returns-else-take : goal.returns-else-take
returns-else-take c =
    c.take-else-take.ensures
    ∙ sym (taken_parted c.args.epoch c.args.entries.now c.args.id.now ∙ ap (λ b. b || list_any (λ e. deletes_by c.args.epoch e c.args.id.now) c.args.entries.now) (sym c.take.ensures ∙ c.if-take.false))
