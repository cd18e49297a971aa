use Rattle.causal_model.proofs.Delivery.Lengths.{chapter_is_bounded}
use Rattle.causal_model.proofs.Delivery.Limits.{numbers_are_counted, counts_are_within}
use Rattle.causal_model.proofs.laws.delivery.a_chapter_is_bounded.Goals as goal

pub returns-clause-numbers : goal.returns-clause-numbers
returns-clause-numbers c = numbers_are_counted

pub returns-clause-counts : goal.returns-clause-counts
returns-clause-counts c = counts_are_within

pub returns-clause-length : goal.returns-clause-length
returns-clause-length c = chapter_is_bounded
