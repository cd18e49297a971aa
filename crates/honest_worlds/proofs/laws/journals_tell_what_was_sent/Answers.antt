use Rattle.honest_worlds.proofs.ClosedJournals.{sent_notes_are_own, sent_are_numbered, others_were_kept, legal_keeps_rule}
use Rattle.honest_worlds.proofs.laws.journals_tell_what_was_sent.Goals as goal

pub returns : goal.returns
returns c = record { own = sent_notes_are_own; numbered = sent_are_numbered; others = others_were_kept; rule = legal_keeps_rule }
