use Rattle.causal_model.proofs.Answers.Rules.{covers_one_object, covers_kept_alone, covers_transitively}
use Rattle.causal_model.proofs.laws.delivery.the_table_meets_the_laws_of_rules.Goals as goal

pub returns-clause-one_object : goal.returns-clause-one_object
returns-clause-one_object c = covers_one_object

pub returns-clause-kept_alone : goal.returns-clause-kept_alone
returns-clause-kept_alone c = covers_kept_alone

pub returns-clause-transitive : goal.returns-clause-transitive
returns-clause-transitive c = covers_transitively
