use Rattle.std.proofs.Common.{refl, sym}
use Rattle.replica_core.specs.Rules.{fields_of}
use Rattle.replica_core.proofs.Sends.{answered_by_tests, more_may_be_sent}
use Rattle.replica_core.proofs.replica.Replica.unsent.Goals as goal

pub returns-then-is_busy-clause-some : goal.returns-then-is_busy-clause-some
returns-then-is_busy-clause-some c = λ s u stands. answered_by_tests c.args.self.now s stands u _ _ (c.if-is_busy.ensures s stands) refl

pub returns-then-has_ended-clause-some : goal.returns-then-has_ended-clause-some
returns-then-has_ended-clause-some c = λ s u stands. answered_by_tests c.args.self.now s stands u _ _ (c.if-is_busy.ensures s stands) (c.if-has_ended.ensures s stands)

pub returns-else-has_ended-clause-none : goal.returns-else-has_ended-clause-none
returns-else-has_ended-clause-none c = λ s u stands. answered_by_tests c.args.self.now s stands u _ _ (c.if-is_busy.ensures s stands) (c.if-has_ended.ensures s stands)

pub returns-else-has_ended-clause-more : goal.returns-else-has_ended-clause-more
returns-else-has_ended-clause-more c = λ s stands. more_may_be_sent (fields_of c.args.self.now) s stands (sym (c.if-has_ended.ensures s stands))
