use Rattle.std.specs.Prelude.{Some}
use Rattle.std.proofs.Common.{◌≡◌, ℕ, ◌+◌, ◌^◌, ◌<◌, ◌≤◌, [], ◌∷◌, ◌++◌, All, length, ap, sym, subst, ◌∙◌, arith, length-append}
use Rattle.std.specs.List.{concat}
use Rattle.std.proofs.lemmas.List.{length-map, map-append}
use Rattle.std.proofs.lemmas.List.Elements.{All-push, All-pop}
use Rattle.stable_state.specs.Chunks.{Chunked, ends_from}
use Rattle.stable_state.specs.ChunkFields.{parts_of, chunked, IsChunk, IsFree, IsChunked}
use Rattle.stable_state.specs.declared.chunks.Chunks.TheInside.{Inside}
use Rattle.stable_state.proofs.Ends.{length_ends, ends_append, slots_few}
use Rattle.stable_state.proofs.chunks.Chunks.append.Goals as goal

-- with a chunk more, the last still ends at a place of 32 bits
fits : (s : Inside) (v : Chunked) (len more : ℕ) → IsChunked s → chunked s ≡ v → len ≡ length (concat v.parts) → more ≤ 256 → len + more < 2 ^ 32
fits s v len more held is all short = omega (arith, all, short, slots_few s.lists.items held.lists, held.few, ap (λ v. length (concat v.parts)) is)

pub overflow_add-end : goal.overflow_add-end
overflow_add-end c = omega (arith, fits c.self.inside c.args.self.now c.len.result (length c.args.slots.now) c.self.invariant c.self.view_is c.len.ensures c.requires.short)

pub overflow_cast-end : goal.overflow_cast-end
overflow_cast-end c = omega (arith, fits c.self.inside c.args.self.now c.len.result (length c.args.slots.now) c.self.invariant c.self.view_is c.len.ensures c.requires.short)

pub fill-requires : goal.fill-requires
fill-requires c =
    let free = (All-pop IsFree c.self.inside.free.items c.take_last-list.new.self.items (Some c.take_last-list.result) c.take_last-list.ensures.items c.self.invariant.free).1 in
    record { empty = free.empty; room = omega (arith, free.room, c.requires.short) }

pub push_reserved-requires-2 : goal.push_reserved-requires-2
push_reserved-requires-2 c =
    let s = c.self.inside in
    omega (arith, c.requires.free, ap (λ v. v.free) c.self.view_is, c.self.invariant.ends_room, ap length c.self.invariant.ends, length_ends 0 (parts_of s.lists.items), length-map s.lists.items (λ v. v.items), s.ends.ok.0)

pub invariant_of-self : goal.invariant_of-self
invariant_of-self c =
    let s = c.self.inside in
    let held = c.self.invariant in
    let slots = c.args.slots.now in
    let list = c.fill.new.list in
    let free = All-pop IsFree s.free.items c.take_last-list.new.self.items (Some c.take_last-list.result) c.take_last-list.ensures.items held.free in
    let lists = c.push_reserved.ensures.items in
    let fewer : length c.take_last-list.new.self.items + 1 ≡ length s.free.items = omega (arith, ap length c.take_last-list.ensures.items, length-append c.take_last-list.new.self.items (c.take_last-list.result ∷ [])) in
    let one : length c.push_reserved.new.self.items ≡ length s.lists.items + 1 = omega (arith, ap length lists, length-append s.lists.items (list ∷ [])) in
    let end : 0 + length (concat (parts_of s.lists.items)) + length slots ≡ c.len.result + length slots = omega (arith, c.len.ensures, ap (λ v. length (concat v.parts)) c.self.view_is) in
    record {
      lists = subst (All IsChunk) (sym lists) (All-push IsChunk s.lists.items list held.lists (record { room = omega (arith, free.1.room, c.fill.ensures.capacity); short = omega (arith, ap length c.fill.ensures.items, c.requires.short) }));
      free = free.0;
      ends = c.push_reserved-2.ensures.items ∙ ap (λ xs. xs ++ (c.len.result + length slots) ∷ []) held.ends ∙ ap (λ n. ends_from 0 (parts_of s.lists.items) ++ n ∷ []) (sym end)
          ∙ sym (ends_append 0 (parts_of s.lists.items) (slots ∷ [])) ∙ ap (λ xs. ends_from 0 (parts_of s.lists.items ++ xs ∷ [])) (sym c.fill.ensures.items)
          ∙ ap (ends_from 0) (sym (map-append (λ v. v.items) s.lists.items (list ∷ []))) ∙ ap (λ ls. ends_from 0 (parts_of ls)) (sym lists);
      few = omega (arith, held.few, fewer, one);
      lists_room = omega (arith, held.lists_room, fewer, one, c.push_reserved.ensures.capacity);
      ends_room = omega (arith, held.ends_room, fewer, one, c.push_reserved-2.ensures.capacity);
      free_room = omega (arith, held.free_room, fewer, one, c.take_last-list.ensures.capacity);
    }

pub returns-clause-parts : goal.returns-clause-parts
returns-clause-parts c =
    let s = c.self.inside in
    ap parts_of c.push_reserved.ensures.items ∙ map-append (λ v. v.items) s.lists.items (c.fill.new.list ∷ []) ∙ ap (λ xs. parts_of s.lists.items ++ xs ∷ []) c.fill.ensures.items ∙ ap (λ v. v.parts ++ c.args.slots.now ∷ []) c.self.view_is
