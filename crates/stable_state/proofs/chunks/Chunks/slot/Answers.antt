use Rattle.std.proofs.Common.{◌≡◌, ◌+◌, ◌-◌, ◌<◌, [], length, take, get_or, ap, sym, ◌∙◌, arith}
use Rattle.std.specs.List.{concat}
use Rattle.stable_state.proofs.Parting.{slot_at}
use Rattle.stable_state.proofs.Ends.{part_is, slots_few, in_lists}
use Rattle.stable_state.proofs.chunks.Chunks.slot.Goals as goal

pub overflow_add-place : goal.overflow_add-place
overflow_add-place c =
    let s = c.self.inside in
    omega (arith, c.requires, slots_few s.lists.items c.self.invariant.lists, c.self.invariant.few, ap (λ v. length (concat v.parts)) c.self.view_is)

pub returns : goal.returns
returns c =
    let s = c.self.inside in
    let lists = s.lists.items in
    let parts = c.args.self.now.parts in
    let k = c.chunk_to-chunk.result in
    let list = c.index.result.now in
    let start = length (concat (take k parts)) in
    let l = in_lists s c.args.self.now k c.self.view_is c.chunk_to-chunk.ensures.within in
    let old : list.items ≡ get_or parts k [] = part_is lists k list l c.index.ensures ∙ ap (λ v. get_or v.parts k []) c.self.view_is in
    let j = c.args.place - start in
    let begins : start < c.args.place + 1 = c.chunk_to-chunk.ensures.begins_before (omega arith) in
    let inside : j < length (get_or parts k []) = omega (arith, begins, c.chunk_to-chunk.ensures.ends) in
    let sum : start + j ≡ c.args.place = omega (arith, begins) in
    let at : c.args.place - c.start.result ≡ j = omega (arith, c.start.ensures) in
    c.index-2.ensures ∙ ap (λ n. get_or list.items n c.index-2.result.now) at ∙ ap (λ xs. get_or xs j c.index-2.result.now) old
    ∙ sym (slot_at parts k j c.index-2.result.now c.chunk_to-chunk.ensures.within inside) ∙ ap (λ n. get_or (concat parts) n c.index-2.result.now) sum
