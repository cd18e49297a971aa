use Rattle.std.proofs.Common.{◌∙◌}
use denote.Struct.Props.{props}
use Rattle.std.proofs.Math.Logic.{∥∥₁_elim}
use Rattle.stable_state.specs.Shown.{shown}
use Rattle.replica_core.proofs.SettledWaits.{has_next, none_is_left, moving_begins, next_has_range, next_is_pruned, moving_has_spare, fewer_are_left, moving_goes_on, all_are_absorbed, all_lists_are_moved, log_is_settled, none_is_stripped, moved_spare}
use Rattle.replica_core.proofs.Settles.{range_is_prop}
use Rattle.replica_core.proofs.settling.absorb_stripped.Goals as goal

pub loop-entry-init : goal.loop-entry-init
loop-entry-init c = moving_begins _ _ _ _

pub absorb-requires-clause-spare : goal.absorb-requires-clause-spare
absorb-requires-clause-spare c =
    moving_has_spare _ _ _ _ _ _ _ c.loop-entry.invariant c.in-Some.entry _ (has_next c.loop-entry.log _ c.next_stripped.result c.next_stripped.ensures.none c.next_stripped.ensures.first c.in-Some.entry c.in-Some.is) c.requires.spare

pub absorb-requires-clause-range : goal.absorb-requires-clause-range
absorb-requires-clause-range c =
    ∥∥₁_elim c.requires.waiting (range_is_prop (shown c.loop-entry.items) c.in-Some.entry.update)
    (λ x. next_has_range (c.loop-entry.invariant.waits x.0 x.1 x.2 x.3 x.4).1 c.next_stripped.result _ c.next_stripped.ensures.of c.in-Some.entry c.in-Some.is)

pub absorb-requires-clause-pruned : goal.absorb-requires-clause-pruned
absorb-requires-clause-pruned c = λ is_list.
    ∥∥₁_elim c.requires.waiting (hlevel props)
    (λ x. next_is_pruned (c.loop-entry.invariant.waits x.0 x.1 x.2 x.3 x.4).1 c.next_stripped.result _ c.next_stripped.ensures.of c.in-Some.entry c.in-Some.is c.in-Some.entry.update.object is_list)

pub loop-entry-smaller : goal.loop-entry-smaller
loop-entry-smaller c =
    fewer_are_left _ _ _ _ _ _ _ c.loop-entry.invariant c.in-Some.entry _ (has_next c.loop-entry.log _ c.next_stripped.result c.next_stripped.ensures.none c.next_stripped.ensures.first c.in-Some.entry c.in-Some.is)

pub loop-entry-preserved : goal.loop-entry-preserved
loop-entry-preserved c =
    let next = has_next c.loop-entry.log _ c.next_stripped.result c.next_stripped.ensures.none c.next_stripped.ensures.first c.in-Some.entry c.in-Some.is in
    moving_goes_on _ _ _ _ _ _ _ c.loop-entry.invariant c.in-Some.entry _ next c.next_stripped.result c.in-Some.is c.next_stripped.ensures.of _ _ c.absorb.ensures.spare c.absorb.ensures.lists_spare c.absorb.ensures.deep c.absorb.ensures.items c.absorb.ensures.lists

pub returns-clause-absorbed : goal.returns-clause-absorbed
returns-clause-absorbed c = λ w limit h m begin.
    let none = none_is_left c.loop-entry.log _ c.next_stripped.result c.next_stripped.ensures.none c.next_stripped.ensures.first c.in_default.not-Some in
    all_are_absorbed (c.loop-entry.invariant.waits w limit h m begin).1 c.next_stripped.result _ c.next_stripped.ensures.of none.1

pub returns-clause-moved : goal.returns-clause-moved
returns-clause-moved c = λ w limit h m begin.
    let none = none_is_left c.loop-entry.log _ c.next_stripped.result c.next_stripped.ensures.none c.next_stripped.ensures.first c.in_default.not-Some in
    all_lists_are_moved (c.loop-entry.invariant.waits w limit h m begin).1 c.next_stripped.result _ c.next_stripped.ensures.of none.1

pub returns-clause-log : goal.returns-clause-log
returns-clause-log c = λ w limit h m begin.
    let none = none_is_left c.loop-entry.log _ c.next_stripped.result c.next_stripped.ensures.none c.next_stripped.ensures.first c.in_default.not-Some in
    log_is_settled (c.loop-entry.invariant.waits w limit h m begin).1 c.next_stripped.result _ c.next_stripped.ensures.of none.1

pub returns-clause-others : goal.returns-clause-others
returns-clause-others c =
    let none = none_is_left c.loop-entry.log _ c.next_stripped.result c.next_stripped.ensures.none c.next_stripped.ensures.first c.in_default.not-Some in
    none.2 ∙ none_is_stripped _ _ _ _ _ _ _ c.loop-entry.invariant none.0

pub returns-clause-spare : goal.returns-clause-spare
returns-clause-spare c =
    let none = none_is_left c.loop-entry.log _ c.next_stripped.result c.next_stripped.ensures.none c.next_stripped.ensures.first c.in_default.not-Some in
    moved_spare _ _ _ _ _ _ _ c.loop-entry.invariant none.0

pub returns-clause-lists_spare : goal.returns-clause-lists_spare
returns-clause-lists_spare c = c.loop-entry.invariant.lists_spare

pub returns-clause-deep : goal.returns-clause-deep
returns-clause-deep c = c.loop-entry.invariant.deep
