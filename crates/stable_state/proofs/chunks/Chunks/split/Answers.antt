use Rattle.std.specs.Prelude.{Some}
use Rattle.std.proofs.Common.{◌≡◌, ◌+◌, ◌-◌, ◌<◌, ◌≤◌, [], ◌∷◌, ◌++◌, All, length, take, drop, set, get_or, ap, sym, subst, ◌∙◌, arith, length-append, length-set, length-drop, length-take-le}
use Rattle.std.specs.List.{concat, insert}
use Rattle.std.proofs.lemmas.List.{length-map}
use Rattle.std.proofs.lemmas.List.Elements.{All-append, All-cons, All-take, All-drop, All-pop}
use Rattle.std.proofs.lemmas.List.Edits.{length-insert}
use Rattle.stable_state.specs.Chunks.{ends_from}
use Rattle.stable_state.specs.ChunkFields.{parts_of, IsChunk, IsFree}
use Rattle.stable_state.proofs.Ends.{length_ends, end_at, ends_split, two_for_one, part_is, in_lists, in_ends, parts_split}
use Rattle.stable_state.proofs.chunks.Chunks.split.Goals as goal

pub index-end-requires : goal.index-end-requires
index-end-requires c =
    let s = c.self.inside in
    omega (arith, in_ends s c.args.chunk c.self.invariant (in_lists s c.args.self.now c.args.chunk c.self.view_is c.requires.chunk), s.ends.ok.0)

pub halve-moved-requires-clause-empty : goal.halve-moved-requires-clause-empty
halve-moved-requires-clause-empty c =
    let upper = c.take_last-upper.result in
    let free = All-pop IsFree c.self.inside.free.items c.take_last-upper.new.self.items (Some upper) c.take_last-upper.ensures.items c.self.invariant.free in
    let first : IsFree upper = free.1 in
    omega (arith, ap length first.empty, upper.ok.0)

pub halve-moved-requires-clause-room : goal.halve-moved-requires-clause-room
halve-moved-requires-clause-room c =
    let s = c.self.inside in
    let upper = c.take_last-upper.result in
    let list = c.index_mut.result.now in
    let l = in_lists s c.args.self.now c.args.chunk c.self.view_is c.requires.chunk in
    let free = All-pop IsFree s.free.items c.take_last-upper.new.self.items (Some upper) c.take_last-upper.ensures.items c.self.invariant.free in
    let first : IsFree upper = free.1 in
    let was : IsChunk list = subst IsChunk (sym c.index_mut.ensures.value) (c.self.invariant.lists c.args.chunk list l) in
    omega (arith, first.room, was.short, list.ok.0)

pub overflow_sub-end : goal.overflow_sub-end
overflow_sub-end c =
    let s = c.self.inside in
    let lists = s.lists.items in
    let k = c.args.chunk in
    let list = c.index_mut.result.now in
    let l = in_lists s c.args.self.now k c.self.view_is c.requires.chunk in
    let old : list.items ≡ get_or (parts_of lists) k [] = part_is lists k list l c.index_mut.ensures.value in
    omega (arith, c.index-end.ensures, ap (λ ends. get_or ends k c.index-end.result.now) c.self.invariant.ends, end_at (parts_of lists) 0 k c.index-end.result.now (omega (arith, l, length-map lists (λ v. v.items))), ap length old, c.halve-moved.ensures.moved, list.ok.0)

pub put_in-requires-clause-within : goal.put_in-requires-clause-within
put_in-requires-clause-within c =
    let s = c.self.inside in
    omega (arith, in_ends s c.args.chunk c.self.invariant (in_lists s c.args.self.now c.args.chunk c.self.view_is c.requires.chunk), s.ends.ok.0)

pub put_in-requires-clause-room : goal.put_in-requires-clause-room
put_in-requires-clause-room c =
    let s = c.self.inside in
    omega (arith, s.ends.ok.0, c.self.invariant.ends_room, ap length c.self.invariant.ends, length_ends 0 (parts_of s.lists.items), length-map s.lists.items (λ v. v.items), c.requires.free, ap (λ v. v.free) c.self.view_is)

pub invariant_of-self : goal.invariant_of-self
invariant_of-self c =
    let s = c.self.inside in
    let held = c.self.invariant in
    let lists = s.lists.items in
    let k = c.args.chunk in
    let upper = c.take_last-upper.result in
    let list = c.index_mut.result.now in
    let lo = c.halve-moved.new.list in
    let up = c.halve-moved.new.upper in
    let l = in_lists s c.args.self.now k c.self.view_is c.requires.chunk in
    let within : k < length (parts_of lists) = omega (arith, l, length-map lists (λ v. v.items)) in
    let free = All-pop IsFree s.free.items c.take_last-upper.new.self.items (Some upper) c.take_last-upper.ensures.items held.free in
    let first : IsFree upper = free.1 in
    let was : IsChunk list = subst IsChunk (sym c.index_mut.ensures.value) (held.lists k list l) in
    let old : list.items ≡ get_or (parts_of lists) k [] = part_is lists k list l c.index_mut.ensures.value in
    let long : 128 ≤ length list.items = omega (arith, c.requires.long, ap length old, ap (λ v. length (get_or v.parts k [])) c.self.view_is) in
    let lo_long : length lo.items ≡ 128 = ap length c.halve-moved.ensures.lower ∙ length-take-le 128 list.items long in
    let up_long : length up.items ≡ length list.items - 128 = ap length c.halve-moved.ensures.upper ∙ length-drop 128 list.items in
    let lists_are : c.put_in-2.new.list.items ≡ take k lists ++ lo ∷ up ∷ drop (k + 1) lists = c.put_in-2.ensures.items ∙ two_for_one lists k lo up l in
    let more : length c.put_in-2.new.list.items ≡ length lists + 1 = omega (arith, ap length c.put_in-2.ensures.items, length-insert (set lists k lo) (k + 1) up (omega (arith, l, length-set lists k lo)), length-set lists k lo) in
    let fewer : length c.take_last-upper.new.self.items + 1 ≡ length s.free.items = omega (arith, ap length c.take_last-upper.ensures.items, length-append c.take_last-upper.new.self.items (upper ∷ [])) in
    let at : c.index-end.result.now - c.halve-moved.result ≡ length (concat (take k (parts_of lists))) + length lo.items =
    omega (arith, c.index-end.ensures, ap (λ ends. get_or ends k c.index-end.result.now) held.ends, end_at (parts_of lists) 0 k c.index-end.result.now within, lo_long, ap length old, c.halve-moved.ensures.moved, list.ok.0) in
    record {
      lists = subst (All IsChunk) (sym lists_are)
          (All-append IsChunk (take k lists) (lo ∷ up ∷ drop (k + 1) lists) (All-take IsChunk k lists held.lists)
          (All-cons IsChunk lo (up ∷ drop (k + 1) lists) (record { room = omega (arith, was.room, c.halve-moved.ensures.capacity); short = omega (arith, lo_long) })
          (All-cons IsChunk up (drop (k + 1) lists) (record { room = omega (arith, first.room, c.halve-moved.ensures.upper_capacity); short = omega (arith, up_long, was.short) }) (All-drop IsChunk (k + 1) lists held.lists))));
      free = free.0;
      ends = c.put_in.ensures.items ∙ ap (λ ends. insert ends k (c.index-end.result.now - c.halve-moved.result)) held.ends
          ∙ ends_split (parts_of lists) k within lo.items up.items (c.index-end.result.now - c.halve-moved.result) (omega (arith, lo_long, up_long, long, ap length old)) at
          ∙ ap (ends_from 0) (sym (parts_split lists k lo up)) ∙ ap (λ ls. ends_from 0 (parts_of ls)) (sym lists_are);
      few = omega (arith, held.few, more, fewer);
      lists_room = omega (arith, held.lists_room, more, fewer, c.put_in-2.ensures.capacity);
      ends_room = omega (arith, held.ends_room, more, fewer, c.put_in.ensures.capacity);
      free_room = omega (arith, held.free_room, more, fewer, c.take_last-upper.ensures.capacity);
    }

pub returns-clause-parts : goal.returns-clause-parts
returns-clause-parts c =
    let s = c.self.inside in
    let lists = s.lists.items in
    let k = c.args.chunk in
    let list = c.index_mut.result.now in
    let lo = c.halve-moved.new.list in
    let up = c.halve-moved.new.upper in
    let l = in_lists s c.args.self.now k c.self.view_is c.requires.chunk in
    let old : list.items ≡ get_or (parts_of lists) k [] = part_is lists k list l c.index_mut.ensures.value in
    ap parts_of (c.put_in-2.ensures.items ∙ two_for_one lists k lo up l) ∙ parts_split lists k lo up
    ∙ ap (λ xs. take k (parts_of lists) ++ xs ∷ up.items ∷ drop (k + 1) (parts_of lists)) (c.halve-moved.ensures.lower ∙ ap (take 128) old)
    ∙ ap (λ xs. take k (parts_of lists) ++ take 128 (get_or (parts_of lists) k []) ∷ xs ∷ drop (k + 1) (parts_of lists)) (c.halve-moved.ensures.upper ∙ ap (drop 128) old)
    ∙ ap (λ v. take k v.parts ++ take 128 (get_or v.parts k []) ∷ drop 128 (get_or v.parts k []) ∷ drop (k + 1) v.parts) c.self.view_is
