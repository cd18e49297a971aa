use Rattle.std.proofs.Common.{◌≡◌, ◌+◌, [], ◌∷◌, ◌++◌, All, length, ap, sym, subst, ◌∙◌, arith, length-append}
use Rattle.std.proofs.lemmas.List.{length-map}
use Rattle.std.proofs.lemmas.List.Elements.{All-push}
use Rattle.stable_state.specs.Chunks.{ends_from}
use Rattle.stable_state.specs.ChunkFields.{parts_of, IsChunk, IsFree}
use Rattle.stable_state.proofs.Ends.{length_ends}
use Rattle.stable_state.proofs.chunks.Chunks.add.Goals as goal

pub invariant_of-self-2 : goal.invariant_of-self-2
invariant_of-self-2 c =
    let s = c.self.inside in
    let held = c.self.invariant in
    let list = c.in_ok-with_capacity.field-0 in
    let lists = c.in_ok-reserve-2.ensures.items in
    let more : length c.push_reserved.new.self.items ≡ length s.free.items + 1 =
    omega (arith, ap length (c.push_reserved.ensures.items ∙ ap (λ xs. xs ++ list ∷ []) c.in_ok-reserve-3.ensures.items), length-append s.free.items (list ∷ [])) in
    let same : length c.reserve-2.new.self.items ≡ length s.lists.items = ap length lists in
    let free : IsFree list = record { room = omega (arith, c.in_ok-with_capacity.ensures.exact); empty = c.in_ok-with_capacity.ensures.items } in
    record {
      lists = subst (All IsChunk) (sym lists) held.lists;
      free = subst (All IsFree) (sym (c.push_reserved.ensures.items ∙ ap (λ xs. xs ++ list ∷ []) c.in_ok-reserve-3.ensures.items)) (All-push IsFree s.free.items list held.free free);
      ends = c.in_ok-reserve.ensures.items ∙ held.ends ∙ ap (λ ls. ends_from 0 (parts_of ls)) (sym lists);
      few = omega (arith, held.few, same, more, c.if-count-eq-MOST.false, c.len.ensures, c.len-2.ensures);
      lists_room = omega (arith, same, more, c.in_ok-reserve-2.ensures.ok, c.in_ok-reserve-2.ensures.len, c.len-more.ensures, s.lists.ok.0, s.free.ok.0);
      ends_room = omega (arith, same, more, c.in_ok-reserve.ensures.ok, c.in_ok-reserve.ensures.len, c.len-more.ensures, s.ends.ok.0, s.free.ok.0, ap length held.ends, length_ends 0 (parts_of s.lists.items), length-map s.lists.items (λ v. v.items));
      free_room = omega (arith, same, more, c.in_ok-reserve-3.ensures.ok, c.in_ok-reserve-3.ensures.len, c.len-3.ensures, c.push_reserved.ensures.capacity, s.free.ok.0, c.reserve-2.new.self.ok.0);
    }
