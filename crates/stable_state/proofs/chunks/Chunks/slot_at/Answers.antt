use Rattle.std.proofs.Common.{◌≡◌, ℕ, ◌+◌, ◌-◌, ◌<◌, [], length, take, get_or, ap, sym, ◌∙◌, arith}
use Rattle.std.specs.List.{concat}
use Rattle.std.proofs.lemmas.List.{get_or_default}
use Rattle.stable_state.proofs.Parting.{slot_at}
use Rattle.stable_state.proofs.chunks.Chunks.slot_at.Goals as goal

pub returns : goal.returns
returns c =
    let parts = c.args.self.now.parts in
    let k = c.args.spot.chunk in
    let place = c.args.spot.place in
    let list = get_or parts k [] in
    let start = length (concat (take k parts)) in
    let j = place - start in
    let slot : ℕ = get_or c.part-part.result.now (place - c.start-start.result) 0 in
    let within : k < length parts = omega (arith, c.if-spot-count.false, c.count.ensures.value) in
    let inside : j < length list = omega (arith, c.if-spot-start-2.false, c.start-start.ensures, ap length c.part-part.ensures) in
    let sum : start + j ≡ place = omega (arith, c.if-spot-start.false, c.start-start.ensures) in
    let is : slot ≡ get_or list j 0 = (λ i. get_or (c.part-part.ensures i) (place - c.start-start.ensures i) 0) in
    is ∙ get_or_default list j 0 slot inside ∙ sym (slot_at parts k j slot within inside) ∙ ap (λ n. get_or (concat parts) n slot) sum
