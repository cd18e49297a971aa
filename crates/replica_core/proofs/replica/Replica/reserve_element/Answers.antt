use Rattle.std.proofs.Common.{◌≡◌, ◌+◌, ◌≤◌, true, false, if◌then◌else◌, length, refl, sym, ap, ◌∙◌, arith}
use Rattle.list_type.specs.Shown.{shown as lists_shown}
use Rattle.stable_state.specs.Shown.{shown}
use Rattle.replica_core.specs.Insertions.{is_insertion, element_room}
use Rattle.replica_core.specs.Rules.{fields_of}
use Rattle.replica_core.proofs.Bounds.{few_early}
use Rattle.replica_core.proofs.Insertions.{insertions_are_few}
use Rattle.replica_core.proofs.Stands.{lists_room_in, with_room_in}
use Rattle.replica_core.proofs.replica.Replica.reserve_element.Goals as goal

pub overflow_add-len : goal.overflow_add-len
overflow_add-len c = omega (arith, few_early c.args.self.now, c.len.ensures)

pub invariant_of-self : goal.invariant_of-self
invariant_of-self c =
    let r = c.args.self.now in
    record { numbers = r.numbers; stands = with_room_in (fields_of r) r.stands (shown r.items) (lists_shown c.reserve.new.self) refl (omega arith) c.reserve.ensures.kept c.reserve.ensures.spare }

pub returns-in_ok-reserve-clause-room : goal.returns-in_ok-reserve-clause-room
returns-in_ok-reserve-clause-room c =
    let r = c.args.self.now in
    let one : element_room c.args.message.now.op ≤ 1 = elim (is_insertion c.args.message.now.op) as (λ b. (if b then 1 else 0) ≤ 1) [ true ↦ omega arith | false ↦ omega arith ] in
    let room : length r.buffer.early + 1 ≤ (lists_shown c.reserve.new.self).spare = omega (arith, c.in_ok-reserve.ensures.room, c.len.ensures) in
    omega (arith, one, room, insertions_are_few r.buffer.early)

pub returns-else-is_insertion-clause-room : goal.returns-else-is_insertion-clause-room
returns-else-is_insertion-clause-room c =
    let r = c.args.self.now in
    let none : element_room c.args.message.now.op ≡ 0 = ap (λ b. if b then 1 else 0) (sym c.is_insertion.ensures ∙ c.if-is_insertion.false) in
    omega (arith, none, lists_room_in (fields_of r) r.stands)
