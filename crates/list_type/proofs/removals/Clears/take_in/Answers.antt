use Rattle.std.proofs.Common.{◌&&◌, ◌||◌, sym, ap, ◌∙◌}
use Rattle.causal_model.specs.ListSteps.{had_seen}
use Rattle.causal_model.specs.Log.{message_of}
use Rattle.list_type.specs.Heads.{head_of}
use Rattle.list_type.specs.Removals.{is_clear, is_cleared}
use Rattle.list_type.proofs.TakenOut.{join_takes, none_more}
use Rattle.list_type.proofs.removals.Clears.take_in.Goals as goal

pub returns-then-is_clear : goal.returns-then-is_clear
returns-then-is_clear c = λ id few.
    let cleared = is_cleared c.args.self.now c.args.epoch id in
    join_takes c.args.self.now c.join.new.self c.args.epoch (head_of c.of.result) id c.join.ensures.any (c.join.ensures.below id.origin few)
    ∙ ap (λ head. cleared || had_seen c.args.epoch (head_of head) id) c.of.ensures
    ∙ ap (λ b. cleared || (b && had_seen c.args.epoch (message_of c.args.entry.now) id)) (sym (ap is_clear (sym c.act.ensures) ∙ sym c.is_clear.ensures ∙ c.if-is_clear.true))

pub returns-else-is_clear : goal.returns-else-is_clear
returns-else-is_clear c = λ id few.
    none_more (is_cleared c.args.self.now c.args.epoch id) (is_clear c.args.entry.now.update.act) (had_seen c.args.epoch (message_of c.args.entry.now) id) (ap is_clear (sym c.act.ensures) ∙ sym c.is_clear.ensures ∙ c.if-is_clear.false)
