use Rattle.std.proofs.Common.{◌≡◌, ℕ, ◌+◌, ◌^◌, ◌<◌, ◌≤◌, List, [], ◌++◌, All, length, map, take, drop, set, get_or, ap, sym, subst, ◌∙◌, arith, length-set}
use Rattle.std.specs.List.{insert}
use Rattle.std.proofs.lemmas.List.{length-map, map-set}
use Rattle.std.proofs.lemmas.List.Elements.{All-set}
use Rattle.std.proofs.lemmas.List.Edits.{length-insert}
use Rattle.stable_state.specs.Chunks.{Chunked, ends_from}
use Rattle.stable_state.specs.ChunkFields.{parts_of, IsChunk}
use Rattle.stable_state.proofs.Ends.{ends_put, part_is, ends_fit, in_lists, in_ends}
use Rattle.stable_state.proofs.chunks.Chunks.put.Goals as goal

pub raise_from-requires-clause-within : goal.raise_from-requires-clause-within
raise_from-requires-clause-within c =
    let s = c.self.inside in
    omega (arith, in_ends s c.args.chunk c.self.invariant (in_lists s c.args.self.now c.args.chunk c.self.view_is c.requires.chunk), s.ends.ok.0)

pub raise_from-requires-clause-fits : goal.raise_from-requires-clause-fits
raise_from-requires-clause-fits c =
    let s = c.self.inside in
    let few : length s.lists.items ≤ 2 ^ 23 = omega (arith, c.self.invariant.few) in
    subst (All (λ end. end + 1 < 2 ^ 32)) (sym c.self.invariant.ends) (ends_fit s.lists.items c.self.invariant.lists few)

pub invariant_of-self : goal.invariant_of-self
invariant_of-self c =
    let s = c.self.inside in
    let held = c.self.invariant in
    let lists = s.lists.items in
    let k = c.args.chunk in
    let list = c.index_mut.result.now in
    let new = c.put_in.new.list in
    let l = in_lists s c.args.self.now k c.self.view_is c.requires.chunk in
    let old : list.items ≡ get_or (parts_of lists) k [] = part_is lists k list l c.index_mut.ensures.value in
    let seen : list.items ≡ get_or c.args.self.now.parts k [] = old ∙ ap (λ v. get_or v.parts k []) c.self.view_is in
    let was : IsChunk list = subst IsChunk (sym c.index_mut.ensures.value) (held.lists k list l) in
    let long : length new.items ≡ length list.items + 1 = ap length c.put_in.ensures.items ∙ length-insert list.items c.args.at c.args.slot (omega (arith, c.requires.at, ap length seen)) in
    let chunk : IsChunk new = record { room = omega (arith, was.room, c.put_in.ensures.capacity); short = omega (arith, long, c.requires.room, ap length seen) } in
    let within : k < length (parts_of lists) = omega (arith, l, length-map lists (λ v. v.items)) in
    record {
      lists = All-set IsChunk lists k new chunk held.lists;
      free = held.free;
      ends = c.raise_from.ensures.items ∙ ap (λ ends. take k ends ++ map (λ end. end + 1) (drop k ends)) held.ends
          ∙ ends_put (parts_of lists) k within new.items (omega (arith, long, ap length old)) ∙ ap (ends_from 0) (sym (map-set (λ v. v.items) lists k new));
      few = omega (arith, held.few, length-set lists k new);
      lists_room = omega (arith, held.lists_room, length-set lists k new);
      ends_room = omega (arith, held.ends_room, length-set lists k new, c.raise_from.ensures.capacity);
      free_room = omega (arith, held.free_room, length-set lists k new);
    }

pub returns-clause-value : goal.returns-clause-value
returns-clause-value c =
    let s = c.self.inside in
    let lists = s.lists.items in
    let k = c.args.chunk in
    let list = c.index_mut.result.now in
    let l = in_lists s c.args.self.now k c.self.view_is c.requires.chunk in
    let old : list.items ≡ get_or (parts_of lists) k [] = part_is lists k list l c.index_mut.ensures.value in
    let parts : parts_of (set lists k c.put_in.new.list) ≡ set (parts_of lists) k (insert (get_or (parts_of lists) k []) c.args.at c.args.slot) =
    map-set (λ v. v.items) lists k c.put_in.new.list ∙ ap (set (parts_of lists) k) (c.put_in.ensures.items ∙ ap (λ xs. insert xs c.args.at c.args.slot) old) in
    let with : List (List ℕ) → Chunked = λ ps. record { parts = ps; free = length s.free.items } in
    ap with parts ∙ ap (λ (v : Chunked). record v { parts = set v.parts k (insert (get_or v.parts k []) c.args.at c.args.slot) }) c.self.view_is
