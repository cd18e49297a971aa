use Rattle.crossbeam_queue.specs.Passes.{view}
use Rattle.mailboxes.specs.Rule.{Sound}
use Rattle.mailboxes.proofs.Keeps.{takes, counts, stays_sound_taking, takes_grow}
use Rattle.mailboxes.proofs.mailbox.Mailbox.take.Given.{Over}
use Rattle.mailboxes.proofs.mailbox.Mailbox.take.Goals as goal

pub pop_as-requires-clause-rule : goal.pop_as-requires-clause-rule
pop_as-requires-clause-rule g c = (takes _ _ c.args.pass.now.has_its_line, counts _ _)

after : (g : Over) (c : goal.After-pop_as g) → Sound (view c.pop_as.new.pass).seen
after g c = let before = c.args.pass.now in stays_sound_taking _ _ _ _ record {
  has_its_line = before.has_its_line;
  exact = before.exact;
  numbered = before.numbered;
  once = before.once;
  whole = before.whole;
} c.pop_as.ensures.rule

pub invariant_of-pass-clause-has_its_line : goal.invariant_of-pass-clause-has_its_line
invariant_of-pass-clause-has_its_line g c = (after g c).has_its_line

pub invariant_of-pass-clause-exact : goal.invariant_of-pass-clause-exact
invariant_of-pass-clause-exact g c = (after g c).exact

pub invariant_of-pass-clause-numbered : goal.invariant_of-pass-clause-numbered
invariant_of-pass-clause-numbered g c = (after g c).numbered

pub invariant_of-pass-clause-once : goal.invariant_of-pass-clause-once
invariant_of-pass-clause-once g c = (after g c).once

pub invariant_of-pass-clause-whole : goal.invariant_of-pass-clause-whole
invariant_of-pass-clause-whole g c = (after g c).whole

pub returns-clause-grows : goal.returns-clause-grows
returns-clause-grows g c = (takes_grow _ _ _ _ c.pop_as.ensures.rule).0

pub returns-clause-rises : goal.returns-clause-rises
returns-clause-rises g c = (takes_grow _ _ _ _ c.pop_as.ensures.rule).1
