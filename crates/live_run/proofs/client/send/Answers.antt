use Rattle.std.proofs.Common.{rules, ◌∙◌}
use Rattle.script_lang.specs.declared.live.LiveCommand.TheVariants.{Do}
use Rattle.live_run.proofs.Making.{made_after, waited_on, made_in_the_end}
use Rattle.live_run.proofs.client.send.Goals as goal

pub returns-then-not-is_busy-clause-made : goal.returns-then-not-is_busy-clause-made
returns-then-not-is_busy-clause-made g c = λ number.
    made_after c.args.desk.now.done.pass c.loop.desk.done.pass c.send_once.new.desk.done.pass (Do number c.args.update.now) c.in_ok-told.told c.loop.invariant.0 (c.in_ok-told.ensures.made number)

pub loop-preserved : goal.loop-preserved
loop-preserved g c = (
  waited_on c.args.desk.now.done.pass c.loop.desk.done.pass c.send_once.new.desk.done.pass (Do 0 c.args.update.now) c.in_ok-told.told c.loop.invariant.0 (c.in_ok-told.ensures.made 0) (c.is_busy.ensures (search rules)),
  c.in_ok-told.ensures.lock,
  c.in_ok-told.ensures.told ∙ c.loop.invariant.2,
)

pub returns-clause-made : goal.returns-clause-made
returns-clause-made g c =
    made_in_the_end c.args.desk.now.done.pass c.loop.desk.done.pass c.send_once-2.new.desk.done.pass c.args.update.now c.loop.invariant.0 c.send_once-2.result c.send_once-2.ensures.made
