use Rattle.std.proofs.Common.{sym, rules}
use Rattle.script_lang.proofs.Counts.{list-other}
use Rattle.script_lang.proofs.command.read_lone_list.Goals as goal

pub returns-in_default-clause-asked : goal.returns-in_default-clause-asked
returns-in_default-clause-asked c = sym (list-other (λ word. word.now) c.args.n c.args.words.now (λ e. search rules))
