use Rattle.std.proofs.Common.{◌+◌, refl, sym, ap, subst, ◌∙◌}
use Rattle.crossbeam_queue.specs.Passes.{view}
use Rattle.mailboxes.specs.Seen.{HasItsLine, IsExact, IsNumbered, TookOnce, TookAll}
use Rattle.mailboxes.specs.declared.seen.View.{View}
use Rattle.mailboxes.proofs.Keeps.{forks}
use Rattle.mailboxes.proofs.Rolls.{newcomer_is_exact, newcomer_is_numbered, newcomer_took_once, newcomer_took_all, forked_is_numbered, forked_took_all}
use Rattle.mailboxes.proofs.mailbox.Mailbox.fork.Goals as goal

pub another-fork-requires-clause-rule : goal.another-fork-requires-clause-rule
another-fork-requires-clause-rule g c = forks _ _ c.requires.first c.args.pass.now.has_its_line

pub invariant_of-result : goal.invariant_of-result
invariant_of-result g c =
    let V : Type 0 = View g.row.T.Denot in
    let is = sym c.another-fork.ensures.rule.1 in
    let before = c.args.pass.now in
    record {
      named = ap (λ n. n + 1) before.counted ∙ ap (λ (v : V). v.seen.number) is;
      counted = ap (λ (v : V). v.seen.forks) is;
      idle = c.another-fork.ensures.queue.1.1;
      has_its_line = subst (λ (v : V). HasItsLine v.seen) is refl;
      exact = subst (λ (v : V). IsExact v.seen) is (newcomer_is_exact (view before.pass).seen (before.numbered c.requires.first));
      numbered = subst (λ (v : V). IsNumbered v.seen) is (newcomer_is_numbered (view before.pass).seen);
      once = subst (λ (v : V). TookOnce v.seen) is (newcomer_took_once (view before.pass).seen);
      whole = subst (λ (v : V). TookAll v.seen) is (newcomer_took_all (view before.pass).seen);
    }

pub invariant_of-pass-clause-has_its_line : goal.invariant_of-pass-clause-has_its_line
invariant_of-pass-clause-has_its_line g c = subst (λ (v : View g.row.T.Denot). HasItsLine v.seen) (sym c.another-fork.ensures.rule.0) c.args.pass.now.has_its_line

pub invariant_of-pass-clause-exact : goal.invariant_of-pass-clause-exact
invariant_of-pass-clause-exact g c = subst (λ (v : View g.row.T.Denot). IsExact v.seen) (sym c.another-fork.ensures.rule.0) c.args.pass.now.exact

pub invariant_of-pass-clause-numbered : goal.invariant_of-pass-clause-numbered
invariant_of-pass-clause-numbered g c = subst (λ (v : View g.row.T.Denot). IsNumbered v.seen) (sym c.another-fork.ensures.rule.0) (forked_is_numbered (view c.args.pass.now.pass).seen c.args.pass.now.numbered)

pub invariant_of-pass-clause-once : goal.invariant_of-pass-clause-once
invariant_of-pass-clause-once g c = let before = c.args.pass.now.once in
    subst (λ (v : View g.row.T.Denot). TookOnce v.seen) (sym c.another-fork.ensures.rule.0) record { apart = before.apart; below = before.below }

pub invariant_of-pass-clause-whole : goal.invariant_of-pass-clause-whole
invariant_of-pass-clause-whole g c = subst (λ (v : View g.row.T.Denot). TookAll v.seen) (sym c.another-fork.ensures.rule.0) (forked_took_all (view c.args.pass.now.pass).seen c.args.pass.now.whole)
