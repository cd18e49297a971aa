use Rattle.std.specs.Prelude.{Vec}
use Rattle.std.specs.declared.alloc.Global.{Global}
use Rattle.std.proofs.Common.{suc, ◌≡◌, ℕ, ◌+◌, ◌<◌, List, [], ◌∷◌, ◌++◌, All, length, take, drop, get_or, ap, sym, subst, ◌∙◌, arith, length-append}
use Rattle.std.specs.List.{remove}
use Rattle.std.proofs.lemmas.List.{length-map, map-append, take-map, drop-map}
use Rattle.std.proofs.lemmas.List.Elements.{All-append, All-take, All-drop, All-push}
use Rattle.std.proofs.lemmas.List.Edits.{length-remove}
use Rattle.stable_state.specs.Chunks.{ends_from}
use Rattle.stable_state.specs.ChunkFields.{parts_of, IsChunk, IsFree}
use Rattle.stable_state.proofs.Ends.{ends_remove, part_is, in_lists, in_ends}
use Rattle.stable_state.proofs.chunks.Chunks.close.Goals as goal

pub remove-requires : goal.remove-requires
remove-requires c =
    let s = c.self.inside in
    omega (arith, in_ends s c.args.chunk c.self.invariant (in_lists s c.args.self.now c.args.chunk c.self.view_is c.requires.chunk), s.ends.ok.0)

parts_are : (lists : List (Vec ℕ Global)) (k : ℕ) → parts_of (remove lists k) ≡ remove (parts_of lists) k
parts_are lists k =
    map-append (λ v. v.items) (take k lists) (drop (suc k) lists)
    ∙ ap (λ xs. xs ++ parts_of (drop (suc k) lists)) (sym (take-map (λ v. v.items) k lists))
    ∙ ap (λ xs. take k (parts_of lists) ++ xs) (sym (drop-map (λ v. v.items) (suc k) lists))

pub invariant_of-self : goal.invariant_of-self
invariant_of-self c =
    let s = c.self.inside in
    let held = c.self.invariant in
    let lists = s.lists.items in
    let k = c.args.chunk in
    let list = c.remove-2.result in
    let l = in_lists s c.args.self.now k c.self.view_is c.requires.chunk in
    let within : k < length (parts_of lists) = omega (arith, l, length-map lists (λ v. v.items)) in
    let none : get_or (parts_of lists) k [] ≡ [] = ap (λ v. get_or v.parts k []) c.self.view_is ∙ c.requires.empty in
    let empty : list.items ≡ [] = part_is lists k list l c.remove-2.ensures.value ∙ none in
    let was : IsChunk list = subst IsChunk (sym c.remove-2.ensures.value) (held.lists k list l) in
    let free : IsFree list = record { room = was.room; empty = empty } in
    let fewer : length c.remove-2.new.self.items + 1 ≡ length lists = omega (arith, ap length c.remove-2.ensures.items, length-remove lists k l) in
    let more : length c.push_reserved.new.self.items ≡ length s.free.items + 1 = omega (arith, ap length c.push_reserved.ensures.items, length-append s.free.items (list ∷ [])) in
    record {
      lists = subst (All IsChunk) (sym c.remove-2.ensures.items) (All-append IsChunk (take k lists) (drop (suc k) lists) (All-take IsChunk k lists held.lists) (All-drop IsChunk (suc k) lists held.lists));
      free = subst (All IsFree) (sym c.push_reserved.ensures.items) (All-push IsFree s.free.items list held.free free);
      ends = c.remove.ensures.items ∙ ap (λ ends. remove ends k) held.ends ∙ ends_remove (parts_of lists) k within none ∙ ap (ends_from 0) (sym (parts_are lists k)) ∙ ap (λ ls. ends_from 0 (parts_of ls)) (sym c.remove-2.ensures.items);
      few = omega (arith, held.few, fewer, more);
      lists_room = omega (arith, held.lists_room, fewer, more, c.remove-2.ensures.capacity);
      ends_room = omega (arith, held.ends_room, fewer, more, c.remove.ensures.capacity);
      free_room = omega (arith, held.free_room, fewer, more, c.push_reserved.ensures.capacity);
    }

pub returns-clause-parts : goal.returns-clause-parts
returns-clause-parts c =
    ap parts_of c.remove-2.ensures.items ∙ parts_are c.self.inside.lists.items c.args.chunk ∙ ap (λ v. remove v.parts c.args.chunk) c.self.view_is
