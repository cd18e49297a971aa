use Rattle.std.proofs.Common.{◌≡◌, ◌+◌, ◌-◌, true, get_or, ap, subst, arith}
use Rattle.std.specs.List.{HoldsAt}
use Rattle.stable_state.specs.Places.{is_up_to}
use Rattle.stable_state.proofs.Places.{point_moves, up_to_there, before_is_up_to}
use Rattle.stable_state.proofs.shelf.Shelf.end.Goals as goal

pub returns-then-is_end-clause-place : goal.returns-then-is_end-clause-place
returns-then-is_end-clause-place c =
    let items = c.args.self.now.items in
    let from = c.args.from.place in
    up_to_there items from c.is_end.ensures.rise c.requires.within c.args.object.now
    (λ some d. before_is_up_to c.args.object.now (get_or items (from - 1) d) (c.requires.before.0 (from - 1) d (omega arith) (omega (arith, some)))) (c.is_end.ensures.end c.if-is_end.true)

pub returns-then-is_end-2-clause-place : goal.returns-then-is_end-2-clause-place
returns-then-is_end-2-clause-place c =
    let items = c.args.self.now.items in
    let from = c.args.from.place in
    let next = c.next-next.result.place in
    let is : next ≡ from + 1 = c.next-next.ensures in
    let back : from ≡ next - 1 = omega (arith, is) in
    up_to_there items next c.is_end.ensures.rise (omega (arith, is, c.is_end.ensures.within c.if-is_end.false)) c.args.object.now
    (λ _. subst (λ k. HoldsAt (λ item. is_up_to c.args.object.now item ≡ true) items k) back (c.is_end.ensures.inside c.if-is_end.false)) (c.is_end-2.ensures.end c.if-is_end-2.true)

pub returns : goal.returns
returns c =
    let s = c.self.inside in
    let point = point_moves (is_up_to c.args.object.now) s.slots s.order.items c.args.self.now.items c.place_behind.result (ap (λ shelved. shelved.items) c.self.view_is) c.place_behind.ensures.within c.place_behind.ensures.place in
    record { rise = c.is_end.ensures.rise; within = point.0; place = point.1 }
