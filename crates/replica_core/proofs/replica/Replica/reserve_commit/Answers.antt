use Rattle.std.proofs.Common.{length, ap, refl, sym, ◌∙◌, arith}
use Rattle.std.proofs.Math.Logic.{∥∥₁_map}
use Rattle.causal_buffer.specs.Buffer.{Buffer}
use Rattle.list_type.specs.Shown.{shown as lists_shown}
use Rattle.polog.specs.Value.{Log}
use Rattle.stable_state.specs.Shown.{shown}
use Rattle.replica_core.specs.Rules.{fields_of, Unchanged}
use Rattle.replica_core.proofs.Bounds.{few_logged, few_early}
use Rattle.replica_core.proofs.Own.{draft_is_own, draft_is_state_of}
use Rattle.replica_core.proofs.Stands.{with_room_in, unchanged_stands, unchanged_after}
use Rattle.replica_core.proofs.replica.Replica.reserve_commit.Goals as goal
use Rattle.replica_core.proofs.replica.Replica.reserve_commit.Goals.{In_ok-reserve_element}

pub overflow_add-len : goal.overflow_add-len
overflow_add-len c = omega (arith, few_logged c.args.self.now, few_early c.args.self.now, c.len.ensures, c.len-2.ensures)

pub overflow_add-len-2 : goal.overflow_add-len-2
overflow_add-len-2 c = omega (arith, few_logged c.args.self.now, few_early c.args.self.now, c.len.ensures, c.len-2.ensures)

pub invariant_of-self : goal.invariant_of-self
invariant_of-self c =
    let r = c.args.self.now in
    record { numbers = r.numbers; stands = with_room_in (fields_of r) r.stands (shown c.reserve.new.self) (lists_shown r.lists) c.reserve.ensures.items c.reserve.ensures.spare refl (omega arith) }

-- once there is room for items and elements, nothing else changed
room_taken : (c : In_ok-reserve_element) → Unchanged c.args.self.now c.reserve_element.new.self
room_taken c = unchanged_after _ _ _ (record {
  settings = record { me = refl; n = refl; w = refl; limit = refl; epoch = refl };
  counts = refl;
  matrix = refl;
  window = refl;
  buffer = refl;
  log = refl;
  items = c.reserve.ensures.items;
  spare = c.reserve.ensures.spare;
  lists = refl;
  lists_spare = omega arith;
  outbox = refl;
  due = refl;
}) c.reserve_element.ensures.unchanged

pub returns-clause-ready : goal.returns-clause-ready
returns-clause-ready c =
    let r = c.args.self.now in
    let m = c.args.message.now in
    let new = c.reserve_element.new.self in
    let taken = room_taken (goal.at.returns-clause-ready c).In_ok-reserve_element in
    let same = c.reserve_element.ensures.unchanged in
    record {
      next = ∥∥₁_map r.stands (λ x. (x.0, unchanged_stands r new x.0 taken x.1, draft_is_state_of r m c.requires.draft new taken.settings x.0 x.1));
      own = draft_is_own r m c.requires.draft ∙ sym taken.settings.me;
      copy = c.in_ok-room.ensures.room;
      room = record {
        items = omega (arith, c.in_ok-reserve.ensures.room, c.len.ensures, c.len-2.ensures, c.reserve_element.ensures.items, ap (λ (b : Buffer). length b.early) same.buffer, ap (λ (l : Log). length l.entries) same.log);
        lists = c.in_ok-reserve_element.ensures.room;
      };
    }

pub returns-clause-unchanged : goal.returns-clause-unchanged
returns-clause-unchanged c = room_taken (goal.at.returns-clause-unchanged c).In_ok-reserve_element
