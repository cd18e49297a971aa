use Rattle.std.proofs.Common.{sym, rules}
use Rattle.script_lang.proofs.Counts.{ask-other}
use Rattle.script_lang.proofs.command.read_ask.Goals as goal

pub returns-in_default-clause-command : goal.returns-in_default-clause-command
returns-in_default-clause-command c = sym (ask-other (λ word. word.now) c.args.n c.args.words.now (λ e. search rules))
