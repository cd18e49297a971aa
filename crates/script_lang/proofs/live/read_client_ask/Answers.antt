use Rattle.std.proofs.Common.{sym, rules}
use Rattle.script_lang.proofs.Counts.{client_ask-other}
use Rattle.script_lang.proofs.live.read_client_ask.Goals as goal

pub returns-in_default-clause-command : goal.returns-in_default-clause-command
returns-in_default-clause-command c = sym (client_ask-other (λ word. word.now) c.args.clients c.args.c.now c.args.words.now (λ e. search rules))
