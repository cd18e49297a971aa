use Rattle.std.proofs.Common.{◌≡◌, ℕ, ◌+◌, ◌-◌, ◌<◌, ◌≤◌, List, [], ◌++◌, All, length, map, take, drop, set, get_or, ap, sym, subst, ◌∙◌, arith, length-append, length-set, length-drop, length-take-le}
use Rattle.std.specs.List.{remove_range}
use Rattle.std.proofs.lemmas.List.{length-map, map-set}
use Rattle.std.proofs.lemmas.List.Elements.{All-set}
use Rattle.stable_state.specs.Chunks.{Chunked, ends_from}
use Rattle.stable_state.specs.ChunkFields.{parts_of, IsChunk}
use Rattle.stable_state.proofs.Ends.{ends_cut, part_is, in_lists, in_ends, ends_above}
use Rattle.stable_state.proofs.chunks.Chunks.cut.Goals as goal

pub lower_from-requires-clause-within : goal.lower_from-requires-clause-within
lower_from-requires-clause-within c =
    let s = c.self.inside in
    omega (arith, in_ends s c.args.chunk c.self.invariant (in_lists s c.args.self.now c.args.chunk c.self.view_is c.requires.chunk), s.ends.ok.0)

pub lower_from-requires-clause-above : goal.lower_from-requires-clause-above
lower_from-requires-clause-above c =
    let s = c.self.inside in
    let k = c.args.chunk in
    let within : k < length (parts_of s.lists.items) = omega (arith, in_lists s c.args.self.now k c.self.view_is c.requires.chunk, length-map s.lists.items (λ v. v.items)) in
    subst (λ ends. All (λ end. c.args.to - c.args.from ≤ end) (drop k ends)) (sym c.self.invariant.ends)
    (ends_above (parts_of s.lists.items) k (c.args.to - c.args.from) within (omega (arith, c.requires.within, ap (λ v. length (get_or v.parts k [])) c.self.view_is)))

pub invariant_of-self : goal.invariant_of-self
invariant_of-self c =
    let s = c.self.inside in
    let held = c.self.invariant in
    let lists = s.lists.items in
    let k = c.args.chunk in
    let by = c.args.to - c.args.from in
    let list = c.index_mut.result.now in
    let new = c.cut_out.new.list in
    let l = in_lists s c.args.self.now k c.self.view_is c.requires.chunk in
    let old : list.items ≡ get_or (parts_of lists) k [] = part_is lists k list l c.index_mut.ensures.value in
    let seen : list.items ≡ get_or c.args.self.now.parts k [] = old ∙ ap (λ v. get_or v.parts k []) c.self.view_is in
    let was : IsChunk list = subst IsChunk (sym c.index_mut.ensures.value) (held.lists k list l) in
    let to : c.args.to ≤ length list.items = omega (arith, c.requires.within, ap length seen) in
    let long : length new.items + by ≡ length list.items =
    omega (arith, ap length c.cut_out.ensures.items, length-append (take c.args.from list.items) (drop c.args.to list.items), length-take-le c.args.from list.items (omega (arith, to, c.requires.ordered)), length-drop c.args.to list.items, to, c.requires.ordered) in
    let chunk : IsChunk new = record { room = omega (arith, was.room, c.cut_out.ensures.capacity); short = omega (arith, long, was.short) } in
    let within : k < length (parts_of lists) = omega (arith, l, length-map lists (λ v. v.items)) in
    record {
      lists = All-set IsChunk lists k new chunk held.lists;
      free = held.free;
      ends = c.lower_from.ensures.items ∙ ap (λ ends. take k ends ++ map (λ end. end - by) (drop k ends)) held.ends
          ∙ ends_cut (parts_of lists) k within new.items by (long ∙ ap length old) ∙ ap (ends_from 0) (sym (map-set (λ v. v.items) lists k new));
      few = omega (arith, held.few, length-set lists k new);
      lists_room = omega (arith, held.lists_room, length-set lists k new);
      ends_room = omega (arith, held.ends_room, length-set lists k new, c.lower_from.ensures.capacity);
      free_room = omega (arith, held.free_room, length-set lists k new);
    }

pub returns : goal.returns
returns c =
    let s = c.self.inside in
    let lists = s.lists.items in
    let k = c.args.chunk in
    let list = c.index_mut.result.now in
    let l = in_lists s c.args.self.now k c.self.view_is c.requires.chunk in
    let old : list.items ≡ get_or (parts_of lists) k [] = part_is lists k list l c.index_mut.ensures.value in
    let parts : parts_of (set lists k c.cut_out.new.list) ≡ set (parts_of lists) k (remove_range (get_or (parts_of lists) k []) c.args.from c.args.to) =
    map-set (λ v. v.items) lists k c.cut_out.new.list ∙ ap (set (parts_of lists) k) (c.cut_out.ensures.items ∙ ap (λ xs. remove_range xs c.args.from c.args.to) old) in
    let with : List (List ℕ) → Chunked = λ ps. record { parts = ps; free = length s.free.items } in
    ap with parts ∙ ap (λ (v : Chunked). record v { parts = set v.parts k (remove_range (get_or v.parts k []) c.args.from c.args.to) }) c.self.view_is
