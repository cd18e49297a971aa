use Rattle.std.proofs.Common.{◌≡◌, ℕ, false, sym, ap, subst, ◌∙◌, ◌++◌, ◌∷◌}
use Rattle.std.specs.List.{AllPairs}
use Rattle.causal_model.specs.Elements.{same_element}
use Rattle.list_type.specs.Chained.{row_at}
use Rattle.list_type.specs.Heads.{head_of}
use Rattle.list_type.specs.ListFields.{elements_in}
use Rattle.list_type.specs.Nodes.{nodes_kept, gone_node}
use Rattle.list_type.specs.Shown.{shown}
use Rattle.list_type.specs.Taking.{kept_without_those}
use Rattle.list_type.specs.declared.lists.Content.{Content}
use Rattle.list_type.specs.declared.tree.Node.{Node}
use Rattle.list_type.proofs.Leaving.{keys, listed_where_same, keys_with_gone}
use Rattle.list_type.proofs.Settling.{nothing_leaves, unseen_fails, absent_fails, is_taken, one_marked, row_whole, row_changed}
use Rattle.list_type.proofs.lists.Lists.take_one.Goals as goal

pub returns-then-not-had_seen-clause-kept : goal.returns-then-not-had_seen-clause-kept
returns-then-not-had_seen-clause-kept c =
    let head = c.args.head.now in
    let s = c.args.self.now in
    nothing_leaves s c.args.object.now (is_taken head.epoch (head_of head) c.args.id) c.requires.pruned
    (unseen_fails head.epoch (head_of head) c.args.id (sym c.had_seen.ensures ∙ c.if-not-had_seen.true) ((shown s).kept c.args.object.now))

pub invariant_of-self : goal.invariant_of-self
invariant_of-self c =
    let s = c.args.self.now in
    let at = c.in-Some.ensures.some in
    record {
      listed =
          listed_where_same s.rows s.slots s.chains c.mark_gone.new.chains s.listed at.row (at.before ++ (c.in-Some.slot, gone_node at.node) ∷ at.after) at.stands.within
          (c.mark_gone.ensures.rows at.row at.before at.node at.after at.stands)
          (keys_with_gone at.before c.in-Some.slot at.node at.after ∙ ap keys (sym at.stands.here));
    }

pub trim_from-requires : goal.trim_from-requires
trim_from-requires c =
    let at = c.in-Some.ensures.some in (
      at.row,
      nodes_kept (row_at c.mark_gone.new.chains.rows at.row),
      c.mark_gone.ensures.trimmed at.row at.before at.node at.after at.stands (row_whole c.args.self.now c.args.object.now at.row at.of_object c.requires.pruned),
    )

pub returns-in-Some-clause-kept : goal.returns-in-Some-clause-kept
returns-in-Some-clause-kept c =
    let s = c.args.self.now in
    let head = c.args.head.now in
    let at = c.in-Some.ensures.some in
    let taken = is_taken head.epoch (head_of head) c.args.id in
    let marked = c.mark_gone.new.chains.rows in
    let trimmed = c.mark_gone.ensures.trimmed at.row at.before at.node at.after at.stands (row_whole s c.args.object.now at.row at.of_object c.requires.pruned) in
    row_changed s c.trim_from.new.self c.args.object.now at.row marked (at.before ++ (c.in-Some.slot, gone_node at.node) ∷ at.after) taken at.of_object c.trim_from.ensures.rows
    (c.mark_gone.ensures.rows at.row at.before at.node at.after at.stands)
    (c.trim_from.ensures.trimmed at.row (nodes_kept (row_at marked at.row)) trimmed)
    (one_marked head.epoch (head_of head) c.args.id (sym c.had_seen.ensures ∙ c.if-not-had_seen.false) at.before c.in-Some.slot at.node at.after at.of_id
    (subst (AllPairs (λ (a b : ℕ × Node Content). same_element a.1.value.id b.1.value.id ≡ false)) at.stands.here (s.listed.once at.row))
    ∙ ap (λ xs. kept_without_those taken (elements_in xs)) (sym at.stands.here))

pub returns-in_default-clause-kept : goal.returns-in_default-clause-kept
returns-in_default-clause-kept c =
    let head = c.args.head.now in
    let s = c.args.self.now in
    nothing_leaves s c.args.object.now (is_taken head.epoch (head_of head) c.args.id) c.requires.pruned
    (absent_fails head.epoch (head_of head) c.args.id ((shown s).kept c.args.object.now) c.in_default.ensures.none)
