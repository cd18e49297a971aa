use Rattle.std.proofs.Common.{◌≡◌, ℕ, ◌+◌, ◌-◌, ◌<◌, List, [], ◌∷◌, ◌++◌, All, length, take, drop, set, get_or, ap, sym, subst, ◌∙◌, arith, length-append, length-set, length-drop, length-take-le}
use Rattle.std.specs.List.{concat, insert}
use Rattle.stable_state.specs.Chunks.{IsHome, opened}
use Rattle.stable_state.specs.OrderFields.{excess_of, IsOpen, IsListed}
use Rattle.stable_state.specs.declared.order.Order.TheInside.{Inside}
use Rattle.stable_state.proofs.Joined.{slots_split, put_open, split_open, WasPut, was_put, split_excess}
use Rattle.stable_state.proofs.order.Order.insert.Goals as goal

put_of : (s : Inside) (place slot k : ℕ) (p1 p2 : List (List ℕ)) → IsListed s → p1 ≡ opened s.chunks.parts → IsHome p1 place k
    → p2 ≡ set p1 k (insert (get_or p1 k []) (place - length (concat (take k p1))) slot) → WasPut s.chunks.parts place slot k p2
put_of s place slot k p1 p2 held first home is =
    was_put s.chunks.parts place slot k p2 (subst (λ ps. IsHome ps place k) first home) held.open_parts
    (is ∙ ap (λ ps. set ps k (insert (get_or ps k []) (place - length (concat (take k ps))) slot)) first)

pub overflow_sub-self-then-len-eq-CHUNK : goal.overflow_sub-self-then-len-eq-CHUNK
overflow_sub-self-then-len-eq-CHUNK c =
    let s = c.self.inside in
    let k = c.put-chunk.result in
    let new = c.put-chunk.new.chunks.parts in
    let part = get_or new k [] in
    let put = put_of s c.args.spot.place c.args.slot k c.open_first.new.chunks.parts new c.self.invariant c.open_first.ensures.parts c.put-chunk.ensures.home c.put-chunk.ensures.parts in
    let long : length part ≡ 256 = sym (ap length c.part-len.ensures) ∙ c.if-len-eq-CHUNK.true in
    omega (arith, split_excess s.chunks.parts c.args.spot.place c.args.slot k new put long, c.self.invariant.excess)

pub overflow_add-result : goal.overflow_add-result
overflow_add-result c =
    let old = c.open_first.new.chunks.parts in
    let k = c.put-chunk.result in
    let part = insert (get_or old k []) (c.args.spot.place - length (concat (take k old))) c.args.slot in
    omega (arith, c.put-chunk.ensures.few, c.put-chunk.ensures.home.within, ap length c.put-chunk.ensures.parts, length-set old k part)

pub invariant_of-self : goal.invariant_of-self
invariant_of-self c =
    let s = c.self.inside in
    let k = c.put-chunk.result in
    let new = c.put-chunk.new.chunks.parts in
    let part = get_or new k [] in
    let put = put_of s c.args.spot.place c.args.slot k c.open_first.new.chunks.parts new c.self.invariant c.open_first.ensures.parts c.put-chunk.ensures.home c.put-chunk.ensures.parts in
    let long : length part ≡ 256 = sym (ap length c.part-len.ensures) ∙ c.if-len-eq-CHUNK.true in
    let l : k < length new = omega (arith, put.within, ap length put.part, length-set (opened s.chunks.parts) k part) in
    let up : length (drop 128 part) ≡ 128 = omega (arith, long, length-drop 128 part) in
    let low : length (take 128 part) ≡ 128 = length-take-le 128 part (omega (arith, long)) in
    let two = split_open s.chunks.parts k part put.within c.self.invariant.open_parts (take 128 part) (drop 128 part) (record { some = omega (arith, low); short = omega (arith, low) }) (record { some = omega (arith, up); short = omega (arith, up) }) in
    record {
      open_parts = subst (All IsOpen) (sym c.split.ensures.parts) (subst (λ ps. All IsOpen (take k ps ++ take 128 part ∷ drop 128 part ∷ drop (k + 1) ps)) (sym put.part) two);
      excess = omega (arith, split_excess s.chunks.parts c.args.spot.place c.args.slot k new put long, c.self.invariant.excess, ap excess_of c.split.ensures.parts);
      paid = omega (arith, c.split.ensures.free, c.put-chunk.ensures.free, c.open_first.ensures.free, c.self.invariant.paid, c.requires.spare, ap (λ v. v.spare) c.self.view_is, ap length c.split.ensures.parts, length-append (take k new) (take 128 part ∷ drop 128 part ∷ drop (k + 1) new));
    }

pub returns-then-len-eq-CHUNK-clause-items : goal.returns-then-len-eq-CHUNK-clause-items
returns-then-len-eq-CHUNK-clause-items c =
    let s = c.self.inside in
    let k = c.put-chunk.result in
    let new = c.put-chunk.new.chunks.parts in
    let put = put_of s c.args.spot.place c.args.slot k c.open_first.new.chunks.parts new c.self.invariant c.open_first.ensures.parts c.put-chunk.ensures.home c.put-chunk.ensures.parts in
    let l : k < length new = omega (arith, put.within, ap length put.part, length-set (opened s.chunks.parts) k (get_or new k [])) in
    ap concat c.split.ensures.parts ∙ slots_split new k l 128 ∙ put.slots ∙ ap (λ v. insert v.items c.args.spot.place c.args.slot) c.self.view_is

pub returns-then-len-eq-CHUNK-clause-spare : goal.returns-then-len-eq-CHUNK-clause-spare
returns-then-len-eq-CHUNK-clause-spare c =
    let s = c.self.inside in
    let k = c.put-chunk.result in
    let new = c.put-chunk.new.chunks.parts in
    let part = get_or new k [] in
    let put = put_of s c.args.spot.place c.args.slot k c.open_first.new.chunks.parts new c.self.invariant c.open_first.ensures.parts c.put-chunk.ensures.home c.put-chunk.ensures.parts in
    let long : length part ≡ 256 = sym (ap length c.part-len.ensures) ∙ c.if-len-eq-CHUNK.true in
    omega (arith, split_excess s.chunks.parts c.args.spot.place c.args.slot k new put long, c.self.invariant.excess, c.split.ensures.free, c.put-chunk.ensures.free, c.open_first.ensures.free, c.self.invariant.paid, c.requires.spare, ap (λ v. v.spare) c.self.view_is, ap length c.split.ensures.parts, length-append (take k new) (take 128 part ∷ drop 128 part ∷ drop (k + 1) new))

pub overflow_add-self : goal.overflow_add-self
overflow_add-self c = omega (arith, c.self.invariant.paid, c.put-chunk.ensures.few, c.put-chunk.ensures.free, c.open_first.ensures.free)

pub invariant_of-self-then-len-gt-HALF : goal.invariant_of-self-then-len-gt-HALF
invariant_of-self-then-len-gt-HALF c =
    let s = c.self.inside in
    let k = c.put-chunk.result in
    let new = c.put-chunk.new.chunks.parts in
    let part = get_or new k [] in
    let put = put_of s c.args.spot.place c.args.slot k c.open_first.new.chunks.parts new c.self.invariant c.open_first.ensures.parts c.put-chunk.ensures.home c.put-chunk.ensures.parts in
    let long : length c.part-len.result.now ≡ length part = ap length c.part-len.ensures in
    let less : length part < 256 = omega (arith, put.short, long, c.if-len-eq-CHUNK.false) in
    record {
      open_parts = subst (All IsOpen) (sym put.part) (put_open s.chunks.parts k part put.within c.self.invariant.open_parts (record { some = put.some; short = less }));
      excess = omega (arith, put.excess, c.self.invariant.excess, long, c.if-len-gt-HALF.true);
      paid = omega (arith, put.count, c.put-chunk.ensures.free, c.open_first.ensures.free, c.self.invariant.paid, c.requires.spare, ap (λ v. v.spare) c.self.view_is);
    }

pub invariant_of-self-else-len-gt-HALF : goal.invariant_of-self-else-len-gt-HALF
invariant_of-self-else-len-gt-HALF c =
    let s = c.self.inside in
    let k = c.put-chunk.result in
    let new = c.put-chunk.new.chunks.parts in
    let part = get_or new k [] in
    let put = put_of s c.args.spot.place c.args.slot k c.open_first.new.chunks.parts new c.self.invariant c.open_first.ensures.parts c.put-chunk.ensures.home c.put-chunk.ensures.parts in
    let long : length c.part-len.result.now ≡ length part = ap length c.part-len.ensures in
    let less : length part < 256 = omega (arith, put.short, long, c.if-len-eq-CHUNK.false) in
    record {
      open_parts = subst (All IsOpen) (sym put.part) (put_open s.chunks.parts k part put.within c.self.invariant.open_parts (record { some = put.some; short = less }));
      excess = omega (arith, put.excess, c.self.invariant.excess, long, c.if-len-gt-HALF.false);
      paid = omega (arith, put.count, c.put-chunk.ensures.free, c.open_first.ensures.free, c.self.invariant.paid, c.requires.spare, ap (λ v. v.spare) c.self.view_is);
    }

pub returns-then-len-gt-HALF-clause-items : goal.returns-then-len-gt-HALF-clause-items
returns-then-len-gt-HALF-clause-items c =
    let s = c.self.inside in
    let k = c.put-chunk.result in
    let new = c.put-chunk.new.chunks.parts in
    let put = put_of s c.args.spot.place c.args.slot k c.open_first.new.chunks.parts new c.self.invariant c.open_first.ensures.parts c.put-chunk.ensures.home c.put-chunk.ensures.parts in
    put.slots ∙ ap (λ v. insert v.items c.args.spot.place c.args.slot) c.self.view_is

pub returns-else-len-gt-HALF-clause-items : goal.returns-else-len-gt-HALF-clause-items
returns-else-len-gt-HALF-clause-items c =
    let s = c.self.inside in
    let k = c.put-chunk.result in
    let new = c.put-chunk.new.chunks.parts in
    let put = put_of s c.args.spot.place c.args.slot k c.open_first.new.chunks.parts new c.self.invariant c.open_first.ensures.parts c.put-chunk.ensures.home c.put-chunk.ensures.parts in
    put.slots ∙ ap (λ v. insert v.items c.args.spot.place c.args.slot) c.self.view_is
