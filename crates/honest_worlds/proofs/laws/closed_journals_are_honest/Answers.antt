use Rattle.honest_worlds.proofs.ClosedJournals.{journals_are_honest, journals_have_no_crook}
use Rattle.honest_worlds.proofs.laws.closed_journals_are_honest.Goals as goal

pub returns : goal.returns
returns c = record { honest = journals_are_honest; straight = journals_have_no_crook }
