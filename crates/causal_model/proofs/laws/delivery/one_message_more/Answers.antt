use Rattle.causal_model.proofs.Delivery.Counts.{counts-push}
use Rattle.causal_model.proofs.Delivery.Logs.{is_uncovered-push, last_is_uncovered, outbox_of-push, kept_log-push}
use Rattle.causal_model.proofs.Delivery.Sends.{is_noop_due-push}
use Rattle.causal_model.proofs.Delivery.Stability.{last_tag-push, known_vector-push, stable_count-push}
use Rattle.causal_model.proofs.laws.delivery.one_message_more.Goals as goal

pub returns-clause-counts : goal.returns-clause-counts
returns-clause-counts c = counts-push

pub returns-clause-last : goal.returns-clause-last
returns-clause-last c = last_tag-push

pub returns-clause-known : goal.returns-clause-known
returns-clause-known c = known_vector-push

pub returns-clause-stable : goal.returns-clause-stable
returns-clause-stable c = stable_count-push

pub returns-clause-uncovered : goal.returns-clause-uncovered
returns-clause-uncovered c = λ covers n w me h m t. (is_uncovered-push covers h m, last_is_uncovered covers n w me h m t)

pub returns-clause-log : goal.returns-clause-log
returns-clause-log c = kept_log-push

pub returns-clause-outbox : goal.returns-clause-outbox
returns-clause-outbox c = outbox_of-push

pub returns-clause-due : goal.returns-clause-due
returns-clause-due c = is_noop_due-push
