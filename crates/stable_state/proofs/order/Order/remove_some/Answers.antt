use Rattle.std.proofs.Common.{◌≡◌, ℕ, min, suc, ◌+◌, ◌-◌, ◌<◌, ◌≤◌, List, [], ◌++◌, All, length, take, drop, set, get_or, refl, ap, sym, subst, ◌∙◌, arith, length-append, length-set, length-drop, length-take-le}
use Rattle.std.specs.List.{concat, remove, remove_range}
use Rattle.std.proofs.lemmas.List.{get_or-set_same, nil_from_length}
use Rattle.std.proofs.lemmas.List.Elements.{All-set, All-append, All-take, All-drop}
use Rattle.std.proofs.lemmas.List.Edits.{length-remove}
use Rattle.stable_state.specs.Chunks.{IsHome}
use Rattle.stable_state.specs.OrderFields.{excess_of, IsOpen}
use Rattle.stable_state.proofs.Joined.{excess_set, slots_cut, slots_remove, excess_remove, remove_set}
use Rattle.stable_state.proofs.order.Order.remove_some.Goals as goal

-- the chunk that slots are taken out of, and how many
record IsTaken (parts : List (List ℕ)) (from k first removed : ℕ) : Type 0 where
  home : k < length parts
  at : length (concat (take k parts)) + first ≡ from
  some : 0 < removed
  within : first + removed ≤ length (get_or parts k [])

taken : (parts : List (List ℕ)) (from to k first removed start len : ℕ) → IsHome parts (from + 1) k → start ≡ length (concat (take k parts)) → first ≡ from - start → len ≡ length (get_or parts k [])
    → from < to → removed ≡ min (to - from) (len - first) → IsTaken parts from k first removed
taken parts from to k first removed start len home start_is first_is len_is ordered is = record {
  home = home.within;
  at = omega (arith, home.begins_before (omega arith), start_is, first_is);
  some = omega (arith, home.begins_before (omega arith), home.ends, start_is, first_is, len_is, ordered, is);
  within = omega (arith, home.begins_before (omega arith), home.ends, start_is, first_is, len_is, ordered, is);
}

-- what is left of it
record IsLeft (parts : List (List ℕ)) (k first removed : ℕ) (new : List (List ℕ)) : Type 0 where
  part : List ℕ
  is : new ≡ set parts k part
  long : length part + removed ≡ length (get_or parts k [])
  slots : concat new ≡ remove_range (concat parts) (length (concat (take k parts)) + first) (length (concat (take k parts)) + (first + removed))
  excess : excess_of new + (length (get_or parts k []) - 128) ≡ excess_of parts + (length part - 128)

left : (parts : List (List ℕ)) (from k first removed : ℕ) (new : List (List ℕ)) → IsTaken parts from k first removed
    → new ≡ set parts k (remove_range (get_or parts k []) first (first + removed)) → IsLeft parts k first removed new
left parts from k first removed new t is =
    let old = get_or parts k [] in
    let part = remove_range old first (first + removed) in
    record {
      part = part;
      is = is;
      long = omega (arith, length-append (take first old) (drop (first + removed) old), length-take-le first old (omega (arith, t.within)), length-drop (first + removed) old, t.within);
      slots = ap concat is ∙ slots_cut parts k t.home first (first + removed) (omega arith) t.within;
      excess = omega (arith, ap excess_of is, excess_set parts k t.home part);
    }

pub overflow_sub-self-2 : goal.overflow_sub-self-2
overflow_sub-self-2 c =
    let parts = c.self.inside.chunks.parts in
    let k = c.chunk_of-chunk.result in
    let first = c.args.from - c.start.result in
    let removed = c.min-removed.result in
    let t = taken parts c.args.from c.args.to k first removed c.start.result (length c.part-len.result.now) c.chunk_of-chunk.ensures c.start.ensures refl (ap length c.part-len.ensures) c.requires.ordered c.min-removed.ensures in
    let rest = left parts c.args.from k first removed c.cut.new.self.parts t (ap (λ v. v.parts) c.cut.ensures) in
    omega (arith, rest.excess, rest.long, c.self.invariant.excess, c.saturating_sub.ensures, c.saturating_sub-2.ensures, ap length c.part-len.ensures)

pub invariant_of-self : goal.invariant_of-self
invariant_of-self c =
    let parts = c.self.inside.chunks.parts in
    let k = c.chunk_of-chunk.result in
    let first = c.args.from - c.start.result in
    let removed = c.min-removed.result in
    let old = get_or parts k [] in
    let t = taken parts c.args.from c.args.to k first removed c.start.result (length c.part-len.result.now) c.chunk_of-chunk.ensures c.start.ensures refl (ap length c.part-len.ensures) c.requires.ordered c.min-removed.ensures in
    let rest = left parts c.args.from k first removed c.cut.new.self.parts t (ap (λ v. v.parts) c.cut.ensures) in
    let none : get_or c.cut.new.self.parts k [] ≡ [] = ap (λ ps. get_or ps k []) rest.is ∙ get_or-set_same parts k rest.part [] t.home ∙ nil_from_length rest.part (omega (arith, rest.long, c.if-removed-len.true, ap length c.part-len.ensures)) in
    let l : k < length c.cut.new.self.parts = omega (arith, t.home, ap length rest.is, length-set parts k rest.part) in
    let fewer : c.close.new.self.parts ≡ remove parts k = c.close.ensures.parts ∙ ap (λ ps. remove ps k) rest.is ∙ remove_set parts k t.home rest.part in
    record {
      open_parts = subst (All IsOpen) (sym fewer) (All-append IsOpen (take k parts) (drop (suc k) parts) (All-take IsOpen k parts c.self.invariant.open_parts) (All-drop IsOpen (suc k) parts c.self.invariant.open_parts));
      excess = omega (arith, rest.excess, rest.long, c.self.invariant.excess, c.saturating_sub.ensures, c.saturating_sub-2.ensures, ap length c.part-len.ensures, ap excess_of c.close.ensures.parts, excess_remove c.cut.new.self.parts k l none);
      paid = omega (arith, c.self.invariant.paid, c.close.ensures.free, ap (λ v. v.free) c.cut.ensures, ap length fewer, length-remove parts k t.home);
    }

pub invariant_of-self-else-removed-len : goal.invariant_of-self-else-removed-len
invariant_of-self-else-removed-len c =
    let parts = c.self.inside.chunks.parts in
    let k = c.chunk_of-chunk.result in
    let first = c.args.from - c.start.result in
    let removed = c.min-removed.result in
    let old = get_or parts k [] in
    let t = taken parts c.args.from c.args.to k first removed c.start.result (length c.part-len.result.now) c.chunk_of-chunk.ensures c.start.ensures refl (ap length c.part-len.ensures) c.requires.ordered c.min-removed.ensures in
    let rest = left parts c.args.from k first removed c.cut.new.self.parts t (ap (λ v. v.parts) c.cut.ensures) in
    let short = (c.self.invariant.open_parts k [] t.home).short in
    record {
      open_parts = subst (All IsOpen) (sym rest.is) (All-set IsOpen parts k rest.part (record { some = omega (arith, rest.long, t.within, c.if-removed-len.false, ap length c.part-len.ensures); short = omega (arith, rest.long, short) }) c.self.invariant.open_parts);
      excess = omega (arith, rest.excess, rest.long, c.self.invariant.excess, c.saturating_sub.ensures, c.saturating_sub-2.ensures, ap length c.part-len.ensures);
      paid = omega (arith, c.self.invariant.paid, ap (λ v. v.free) c.cut.ensures, ap length rest.is, length-set parts k rest.part);
    }

removed_is : (items : List ℕ) (start first from removed : ℕ) → start + first ≡ from → remove_range items (start + first) (start + (first + removed)) ≡ remove_range items from (from + removed)
removed_is items start first from removed at =
    let end : start + (first + removed) ≡ from + removed = omega (arith, at) in
    ap (λ n. take n items ++ drop (start + (first + removed)) items) at ∙ ap (λ n. take from items ++ drop n items) end

pub returns-then-removed-len-clause-items : goal.returns-then-removed-len-clause-items
returns-then-removed-len-clause-items c =
    let parts = c.self.inside.chunks.parts in
    let k = c.chunk_of-chunk.result in
    let first = c.args.from - c.start.result in
    let removed = c.min-removed.result in
    let old = get_or parts k [] in
    let t = taken parts c.args.from c.args.to k first removed c.start.result (length c.part-len.result.now) c.chunk_of-chunk.ensures c.start.ensures refl (ap length c.part-len.ensures) c.requires.ordered c.min-removed.ensures in
    let rest = left parts c.args.from k first removed c.cut.new.self.parts t (ap (λ v. v.parts) c.cut.ensures) in
    let none : get_or c.cut.new.self.parts k [] ≡ [] = ap (λ ps. get_or ps k []) rest.is ∙ get_or-set_same parts k rest.part [] t.home ∙ nil_from_length rest.part (omega (arith, rest.long, c.if-removed-len.true, ap length c.part-len.ensures)) in
    let l : k < length c.cut.new.self.parts = omega (arith, t.home, ap length rest.is, length-set parts k rest.part) in
    ap concat c.close.ensures.parts ∙ slots_remove c.cut.new.self.parts k l none ∙ rest.slots ∙ removed_is (concat parts) (length (concat (take k parts))) first c.args.from removed t.at
    ∙ ap (λ v. remove_range v.items c.args.from (c.args.from + removed)) c.self.view_is

pub returns-else-removed-len-clause-items : goal.returns-else-removed-len-clause-items
returns-else-removed-len-clause-items c =
    let parts = c.self.inside.chunks.parts in
    let k = c.chunk_of-chunk.result in
    let first = c.args.from - c.start.result in
    let removed = c.min-removed.result in
    let old = get_or parts k [] in
    let t = taken parts c.args.from c.args.to k first removed c.start.result (length c.part-len.result.now) c.chunk_of-chunk.ensures c.start.ensures refl (ap length c.part-len.ensures) c.requires.ordered c.min-removed.ensures in
    let rest = left parts c.args.from k first removed c.cut.new.self.parts t (ap (λ v. v.parts) c.cut.ensures) in
    rest.slots ∙ removed_is (concat parts) (length (concat (take k parts))) first c.args.from removed t.at
    ∙ ap (λ v. remove_range v.items c.args.from (c.args.from + removed)) c.self.view_is
