use Rattle.std.proofs.Common.{rules}
use Rattle.script_lang.proofs.Counts.{raw-other}
use Rattle.script_lang.proofs.command.read_raw.Goals as goal

pub returns-in_default-clause-command : goal.returns-in_default-clause-command
returns-in_default-clause-command c = λ _. raw-other (λ word. word.now) c.args.n c.args.words.now (λ e. search rules)
