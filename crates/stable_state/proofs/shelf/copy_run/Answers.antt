use Rattle.std.proofs.Common.{◌++◌, Some, ◌∷◌, [], length, take, get_or, ap, sym, subst, ◌∙◌, arith, append_assoc, length-append}
use Rattle.std.proofs.lemmas.List.{take_all, take_more}
use Rattle.stable_state.specs.Slots.{AreCopied}
use Rattle.stable_state.proofs.Ordered.{one_more_copied}
use Rattle.stable_state.proofs.shelf.copy_run.Goals as goal

pub loop-slot-preserved : goal.loop-slot-preserved
loop-slot-preserved c =
    let from = c.args.from.now in
    let into = c.insert_reserved.new.self in
    let run = c.args.run.now in
    let i = c.loop-slot.slot-index in
    let slot = get_or run i 0 in
    let slots = c.loop-slot.slots.items in
    let key = c.insert_reserved.result in
    let item = c.in_ok-item.item in
    let at = c.index.ensures ∙ ap Some (sym c.in_ok-item.ensures) in
    record {
      copied = λ order copied are.
          let old = append_assoc order (take i run) (slot ∷ []) ∙ ap (λ xs. order ++ xs) (sym (take_more run i 0 c.loop-slot-test.true)) in
          let new = append_assoc copied slots (key ∷ []) ∙ ap (λ xs. copied ++ xs) (sym c.push_reserved.ensures.items) in
          subst (λ xs. AreCopied from xs into (copied ++ c.push_reserved.new.self.items)) old (subst (λ xs. AreCopied from ((order ++ take i run) ++ slot ∷ []) into xs) new
          (one_more_copied from c.loop-slot.into into (order ++ take i run) (copied ++ slots) slot key item at c.insert_reserved.ensures.was_vacant c.insert_reserved.ensures.updates c.insert_reserved.ensures.len
          (c.loop-slot.invariant.copied order copied are)));
      len = omega (arith, c.loop-slot.invariant.len, ap length c.push_reserved.ensures.items, length-append slots (key ∷ []));
      counted = omega (arith, c.loop-slot.invariant.counted, c.insert_reserved.ensures.len);
      capacity = c.insert_reserved.ensures.capacity ∙ c.loop-slot.invariant.capacity;
      room = omega (arith, c.loop-slot.invariant.room, c.push_reserved.ensures.capacity);
    }

pub returns-clause-copied : goal.returns-clause-copied
returns-clause-copied c order copied are =
    let run = c.args.run.now in
    let all = take_all c.loop-slot.slot-index run (omega arith) in
    subst (λ xs. AreCopied c.args.from.now (order ++ xs) c.loop-slot.into (copied ++ c.loop-slot.slots.items)) all (c.loop-slot.invariant.copied order copied are)
