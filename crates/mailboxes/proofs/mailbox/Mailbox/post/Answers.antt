use Rattle.crossbeam_queue.specs.Passes.{view}
use Rattle.mailboxes.specs.Rule.{Sound}
use Rattle.mailboxes.proofs.Keeps.{posts, counts, stays_sound, posts_grow}
use Rattle.mailboxes.proofs.mailbox.Mailbox.post.Given.{Over}
use Rattle.mailboxes.proofs.mailbox.Mailbox.post.Goals as goal

pub push_as-requires-clause-rule : goal.push_as-requires-clause-rule
push_as-requires-clause-rule g c = (posts _ _ _ _ c.args.pass.now.has_its_line, counts _ _)

after : (g : Over) (c : goal.After-push_as g) → Sound (view c.push_as.new.pass).seen
after g c = let before = c.args.pass.now in stays_sound _ _ _ _ _ record { has_its_line = before.has_its_line; exact = before.exact; numbered = before.numbered; once = before.once; whole = before.whole } c.push_as.ensures.rule

pub invariant_of-pass-clause-has_its_line : goal.invariant_of-pass-clause-has_its_line
invariant_of-pass-clause-has_its_line g c = (after g c).has_its_line

pub invariant_of-pass-clause-exact : goal.invariant_of-pass-clause-exact
invariant_of-pass-clause-exact g c = (after g c).exact

pub invariant_of-pass-clause-numbered : goal.invariant_of-pass-clause-numbered
invariant_of-pass-clause-numbered g c = (after g c).numbered

pub invariant_of-pass-clause-once : goal.invariant_of-pass-clause-once
invariant_of-pass-clause-once g c = (after g c).once

pub invariant_of-pass-clause-whole : goal.invariant_of-pass-clause-whole
invariant_of-pass-clause-whole g c = (after g c).whole

pub returns-clause-grows : goal.returns-clause-grows
returns-clause-grows g c = posts_grow _ _ _ _ _ c.push_as.ensures.rule
