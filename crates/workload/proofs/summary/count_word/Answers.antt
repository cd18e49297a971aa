use Rattle.std.proofs.Common.{rules}
use Rattle.workload.proofs.Kept.{others_stay}
use Rattle.workload.proofs.summary.count_word.Goals as goal

pub returns-clause-others : goal.returns-clause-others
returns-clause-others c = λ other apart. others_stay c.args.word other c.args.counts.now.entries _ (search rules) apart
