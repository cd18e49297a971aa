use Rattle.std.proofs.Common.{sym, ap, ◌∙◌, [], None}
use Rattle.std.proofs.lemmas.List.{get_or-set_same}
use Rattle.causal_model.specs.ListSteps.{had_seen}
use Rattle.list_type.specs.Chained.{row_at, last_slot}
use Rattle.list_type.specs.Heads.{head_of}
use Rattle.list_type.specs.Taking.{nodes_gone_where}
use Rattle.list_type.proofs.Leaving.{last_gone}
use Rattle.list_type.proofs.Settling.{row_changed, row_without}
use Rattle.list_type.proofs.lists.Lists.take_all.Goals as goal

pub prune-requires-clause-last : goal.prune-requires-clause-last
prune-requires-clause-last c =
    let s = c.args.self.now in
    let seen = had_seen c.args.head.now.epoch (head_of c.args.head.now) in
    let xs = row_at s.chains.rows c.in-Some.row in
    c.mark_seen-last.ensures.last
    ∙ sym (last_gone seen xs None)
    ∙ ap last_slot (sym (ap (λ rs. row_at rs c.in-Some.row) c.mark_seen-last.ensures.marked
    ∙ get_or-set_same s.chains.rows c.in-Some.row (nodes_gone_where seen xs) [] (s.listed.within c.args.object.now c.in-Some.row (sym c.row_of.ensures ∙ c.in-Some.is))))

pub returns-in-Some-clause-kept : goal.returns-in-Some-clause-kept
returns-in-Some-clause-kept c =
    let s = c.args.self.now in
    let seen = had_seen c.args.head.now.epoch (head_of c.args.head.now) in
    let xs = row_at s.chains.rows c.in-Some.row in
    row_changed s c.prune.new.self c.args.object.now c.in-Some.row c.mark_seen-last.new.self.chains.rows (nodes_gone_where seen xs) seen (sym c.row_of.ensures ∙ c.in-Some.is)
    (c.prune.ensures.rows ∙ c.mark_seen-last.ensures.rows) c.mark_seen-last.ensures.marked c.prune.ensures.kept (row_without seen xs)
