use Rattle.live_run.proofs.Clients.{have_numbers, reply_made}
use Rattle.live_run.proofs.client.send_once.Goals as goal

pub reply_of-requires : goal.reply_of-requires
reply_of-requires g c =
    have_numbers c.args.desk.now.done.pass c.local-turn.new.pass c.local-turn.result.place c.args.update.now c.args.node.now c.requires.lock c.requires.key
    c.local-turn.result.answer c.local-turn.ensures.call

pub returns-clause-made : goal.returns-clause-made
returns-clause-made g c = λ number.
    reply_made c.args.desk.now.done.pass c.local-turn.new.pass c.local-turn.result.place number c.args.update.now c.args.node.now c.requires.lock c.requires.key
    c.local-turn.result.answer c.in_ok-reply_of.field-0 c.local-turn.ensures.call c.in_ok-reply_of.ensures
