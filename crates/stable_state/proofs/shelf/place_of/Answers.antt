use Rattle.std.proofs.Common.{rules}
use Rattle.std.specs.Prelude.{option_copied}
use Rattle.std.proofs.lemmas.List.Sorted.{IsPartitionPoint-from_clause}
use Rattle.stable_state.specs.Places.{is_before}
use Rattle.stable_state.specs.Slots.{items_in}
use Rattle.stable_state.proofs.Places.{before_parts, slot_passes, slots_parted, items_parted}
use Rattle.stable_state.proofs.shelf.place_of.Goals as goal

pub returns-clause-place : goal.returns-clause-place
returns-clause-place c =
    let slots = c.args.slots.now in
    let order = c.args.order.now.items in
    let p = is_before c.args.sought.now.object.now (option_copied c.args.sought.now.value) in
    let parted = slots_parted p slots order c.requires.held (before_parts (items_in slots order) c.requires.rise c.args.sought.now.object.now (option_copied c.args.sought.now.value)) in
    let point = IsPartitionPoint-from_clause (slot_passes p slots order c.requires.held) _ _ c.partition_point.ensures.partitioned parted (λ a r q k. search rules) in
    items_parted p slots order c.requires.held c.partition_point.result.place c.partition_point.ensures.bound point
