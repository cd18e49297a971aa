use Rattle.mailboxes.proofs.Keeps.{begins}
use Rattle.mailboxes.proofs.mailbox.Mailbox.create.Goals as goal

pub ruled-requires-clause-rule : goal.ruled-requires-clause-rule
ruled-requires-clause-rule g c = begins
