use Rattle.script_net.proofs.Told.{told_text, told_world}
use Rattle.replica_keeper.specs.Worlds.{Shown}
use Rattle.script_net.specs.Commands.{keep_command_at}
use Rattle.script_net.proofs.runner.run_keep_command.Goals as goal

pub returns-in-Ok-clause-text : goal.returns-in-Ok-clause-text
returns-in-Ok-clause-text c keep shown =
    told_text Shown (keep_command_at c.args.command.now keep) c.keep_reply_to-replied.result c.keep_reply_to-replied.new.world c.in-Ok.reply c.in-Ok.is (c.keep_reply_to-replied.ensures.told keep shown) c.put_reply.result c.args.out.now c.put_reply.new.out c.put_reply.ensures.ok

pub returns-in-Ok-clause-world : goal.returns-in-Ok-clause-world
returns-in-Ok-clause-world c keep shown =
    told_world Shown (keep_command_at c.args.command.now keep) c.keep_reply_to-replied.result c.keep_reply_to-replied.new.world c.in-Ok.reply c.in-Ok.is (c.keep_reply_to-replied.ensures.told keep shown) c.put_reply.result
