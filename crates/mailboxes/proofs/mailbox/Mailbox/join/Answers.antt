use Rattle.std.proofs.Common.{◌≢◌, sym, ap, subst, ◌∙◌}
use Rattle.std.specs.Prelude.{AllPairs}
use Rattle.mailboxes.specs.Seen.{HasItsLine, IsExact, IsNumbered, TookOnce, TookAll}
use Rattle.mailboxes.specs.declared.seen.View.{View}
use Rattle.mailboxes.proofs.Keeps.{joins, tells}
use Rattle.mailboxes.proofs.Rolls.{first-append}
use Rattle.mailboxes.proofs.Taken.{apart_parts}
use Rattle.mailboxes.proofs.mailbox.Mailbox.join.Goals as goal

pub absorb-requires-clause-rule : goal.absorb-requires-clause-rule
absorb-requires-clause-rule g c = joins _ _ _ _ c.args.first.now.has_its_line

pub learn_as-requires-clause-rule : goal.learn_as-requires-clause-rule
learn_as-requires-clause-rule g c = tells _ _ (subst (λ (v : View g.row.T.Denot). HasItsLine v.seen) (sym c.absorb.ensures.rule) (first-append _ _ _ c.args.first.now.has_its_line))

pub invariant_of-first : goal.invariant_of-first
invariant_of-first g c =
    let V : Type 0 = View g.row.T.Denot in
    let same = sym c.learn_as.ensures.queue.1 in
    let told = c.learn_as.ensures.rule.1 in
    let before = c.args.first.now in
    record {
      named = before.named ∙ ap (λ (v : V). v.seen.number) (sym c.absorb.ensures.rule ∙ same);
      counted = before.counted ∙ ap (λ (v : V). v.seen.forks) (sym c.absorb.ensures.rule ∙ same);
      idle = c.learn_as.ensures.queue.0.2 ∙ (c.absorb.ensures.queue.2 ∙ before.idle);
      has_its_line = subst (λ (v : V). HasItsLine v.seen) same told.0.has_its_line;
      exact = subst (λ (v : V). IsExact v.seen) same told.0.exact;
      numbered = subst (λ (v : V). IsNumbered v.seen) same told.0.numbered;
      once = subst (λ (v : V). TookOnce v.seen) same told.0.once;
      whole = subst (λ (v : V). TookAll v.seen) same told.0.whole;
    }

pub returns-clause-apart : goal.returns-clause-apart
returns-clause-apart g c = apart_parts _ _ (subst (λ (v : View g.row.T.Denot). AllPairs (λ a b. a ≢ b) v.seen.places) c.absorb.ensures.rule c.learn_as.ensures.rule.1.0.once.apart)
