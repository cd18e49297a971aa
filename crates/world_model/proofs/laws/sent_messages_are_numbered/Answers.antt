use Rattle.world_model.proofs.Sent.{sent_are_own, sent_is_numbered}
use Rattle.world_model.proofs.laws.sent_messages_are_numbered.Goals as goal

pub returns : goal.returns
returns c = record { own = sent_are_own; numbered = sent_is_numbered }
