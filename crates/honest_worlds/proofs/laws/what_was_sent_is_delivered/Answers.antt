use Rattle.honest_worlds.proofs.Commands.{steps_deliver, resent_steps_deliver}
use Rattle.honest_worlds.proofs.EventOrders.{deliverable_is_admissible}
use Rattle.honest_worlds.proofs.SentMessages.{sent_messages_are_near}
use Rattle.honest_worlds.proofs.laws.what_was_sent_is_delivered.Goals as goal

pub returns : goal.returns
returns c = record { near = sent_messages_are_near; admissible = deliverable_is_admissible; steps = steps_deliver; resent = resent_steps_deliver }
