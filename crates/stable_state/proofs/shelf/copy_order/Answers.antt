use Rattle.std.proofs.Common.{◌+◌, ◌++◌, All, length, take, ap, sym, subst, ◌∙◌, arith, length-append}
use Rattle.std.proofs.lemmas.List.{get_or-append-add}
use Rattle.std.proofs.lemmas.List.Elements.{All-take}
use Rattle.slab.specs.Slab.{ContainsKey}
use Rattle.stable_state.specs.Slots.{AreCopied}
use Rattle.stable_state.proofs.shelf.copy_order.Goals as goal

pub copy_run-requires-clause-held : goal.copy_run-requires-clause-held
copy_run-requires-clause-held c k d l =
    let from = c.args.from.now in
    let order = c.args.order.now.items in
    let place = c.loop-place.place in
    let run = c.run-run.result.now in
    let up_to = subst (All (ContainsKey from)) c.run-run.ensures.run (All-take (ContainsKey from) (place + length run) order c.requires.held) in
    subst (ContainsKey from) (get_or-append-add (take place order) run k d) (up_to (length (take place order) + k) d (omega (arith, l, length-append (take place order) run)))

pub loop-place-preserved : goal.loop-place-preserved
loop-place-preserved c =
    let from = c.args.from.now in
    let order = c.args.order.now.items in
    let into = c.copy_run.new.into in
    let place = c.loop-place.place in
    let run = c.run-run.result.now in
    let before = c.loop-place.copied.items in
    let slots = c.in_ok-slots.slots.items in
    let all = sym (c.append.ensures ∙ ap (λ xs. xs ++ c.deref.result.now) c.in_ok-reserve.ensures.items ∙ ap (λ xs. before ++ xs) c.deref.ensures.value) in
    record {
      copied = subst (λ xs. AreCopied from xs into c.append.new.self.items) (sym c.run-run.ensures.run)
          (subst (λ xs. AreCopied from (take place order ++ run) into xs) all (c.in_ok-slots.ensures.copied (take place order) before c.loop-place.invariant.copied));
      within = c.run-run.ensures.within;
      capacity = c.copy_run.ensures.capacity ∙ c.loop-place.invariant.capacity;
    }
