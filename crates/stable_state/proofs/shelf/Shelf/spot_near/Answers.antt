use Rattle.std.proofs.Common.{◌≡◌, ◌+◌, ◌-◌, true, subst, arith}
use Rattle.std.specs.List.{HoldsAt}
use Rattle.std.specs.Prelude.{option_copied}
use Rattle.stable_state.specs.Places.{is_before}
use Rattle.stable_state.proofs.Places.{parted_there}
use Rattle.stable_state.proofs.shelf.Shelf.spot_near.Goals as goal

pub returns-then-is_up_to-clause-place : goal.returns-then-is_up_to-clause-place
returns-then-is_up_to-clause-place c =
    let sought = c.args.sought.now in
    parted_there c.args.self.now.items c.args.near.place c.is_up_to.ensures.rise (omega (arith, c.if-near-len.false, c.len.ensures.length)) sought.object.now (option_copied sought.value)
    (c.is_behind.ensures c.if-not-is_behind.false) (c.is_up_to.ensures.up_to c.if-is_up_to.true)

pub returns-then-is_up_to-2-clause-place : goal.returns-then-is_up_to-2-clause-place
returns-then-is_up_to-2-clause-place c =
    let items = c.args.self.now.items in
    let sought = c.args.sought.now in
    let near = c.args.near.place in
    let next = c.next-next.result.place in
    let is : next ≡ near + 1 = c.next-next.ensures in
    let back : near ≡ next - 1 = omega (arith, is) in
    parted_there items next c.is_up_to.ensures.rise (omega (arith, is, c.is_up_to.ensures.within c.if-is_up_to.false)) sought.object.now (option_copied sought.value)
    (λ _. subst (λ k. HoldsAt (λ item. is_before sought.object.now (option_copied sought.value) item ≡ true) items k) back (c.is_up_to.ensures.before c.if-is_up_to.false)) (c.is_up_to-2.ensures.up_to c.if-is_up_to-2.true)
