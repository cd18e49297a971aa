use Rattle.std.proofs.Common.{◌≡◌, ◌+◌, ℕ, List, ◌∷◌, ◌++◌, set, Some, refl, subst, sym, ap, ◌∙◌, arith}
use Rattle.list_type.specs.Chained.{first_slot, IsParted}
use Rattle.list_type.specs.ChainFields.{AreLinked, head_of}
use Rattle.list_type.proofs.Rows.{are_rows, head_at, rows_are_met, met_are_linked, held_is}
use Rattle.list_type.proofs.Puts.{place_holds, rest_holds, vacant_differs, still_held, relinked_held, head_made, row_put}
use Rattle.list_type.proofs.chain.Chains.put_behind.Given.{Over}
use Rattle.list_type.proofs.chain.Chains.put_behind.Goals as goal

pub set_next-requires : goal.set_next-requires
set_next-requires g c =
    let s = c.self.inside in
    let rows = c.args.self.now.rows in
    let are = are_rows s c.args.self.now c.self.view_is c.self.invariant in
    let place = c.requires.place in
    let key = c.insert_reserved-slot.result in
    let put = c.insert_reserved-slot.ensures in
    let holds = place_holds s.slots s.rows.items rows are c.args.row place.0 place.1 c.args.ahead place.2 in
    still_held s.slots c.insert_reserved-slot.new.self c.args.row key c.args.ahead holds (vacant_differs s.slots c.args.row key c.args.ahead put.was_vacant holds) put.updates.others

pub set_previous-requires : goal.set_previous-requires
set_previous-requires g c = λ k is.
    let s = c.self.inside in
    let rows = c.args.self.now.rows in
    let are = are_rows s c.args.self.now c.self.view_is c.self.invariant in
    let place = c.requires.place in
    let key = c.insert_reserved-slot.result in
    let put = c.insert_reserved-slot.ensures in
    let behind = first_slot place.1 in
    let holds = rest_holds s.slots s.rows.items rows are c.args.row place.0 place.1 c.args.ahead place.2 in
    relinked_held (λ had. record had { next = Some key }) c.insert_reserved-slot.new.self c.set_next.new.slots c.args.ahead c.set_next.ensures k
    (still_held s.slots c.insert_reserved-slot.new.self c.args.row key behind holds (vacant_differs s.slots c.args.row key behind put.was_vacant holds) put.updates.others k (sym (c.behind-next.ensures place.0 place.1 place.2) ∙ is))

-- the rows with the value in its place
made : (g : Over) (c : goal.After-self-1 g) (before after : List (ℕ × g.row.T.Denot)) → IsParted c.args.self.now.rows c.args.row before c.args.ahead after
    → AreLinked c.set_previous.new.slots (set c.self.inside.rows.items c.args.row (record { first = c.first_behind.result; len = c.index-head.result.now.len + 1 })) (set c.args.self.now.rows c.args.row (before ++ (c.insert_reserved-slot.result, c.args.value) ∷ after))
made g c before after parted =
    let s = c.self.inside in
    let rows = c.args.self.now.rows in
    let are = are_rows s c.args.self.now c.self.view_is c.self.invariant in
    let key = c.insert_reserved-slot.result in
    let put = c.insert_reserved-slot.ensures in
    let list = before ++ (key, c.args.value) ∷ after in
    let first = c.first_behind.result in
    let len = c.index-head.result.now.len + 1 in
    let head = head_at s.slots s.rows.items rows are c.args.row c.args.row c.index-head.result.now (before ++ after) refl c.index-head.ensures parted.within parted.here in
    let head_new : head_of list ≡ record { first = first; len = len } = head_made before after ((key, c.args.value) ∷ after) c.args.ahead first len c.index-head.result.now (sym parted.ahead_is) head c.first_behind.ensures (omega arith) in
    subst (λ h. AreLinked c.set_previous.new.slots (set s.rows.items c.args.row h) (set rows c.args.row list)) head_new
    (row_put s.slots s.rows.items rows are c.insert_reserved-slot.new.self c.set_next.new.slots c.set_previous.new.slots c.args.row key c.args.value before after c.args.ahead c.behind-next.result
    parted (c.behind-next.ensures before after parted) put.was_vacant put.updates c.set_next.ensures c.set_previous.ensures
    put.len (omega (arith, c.requires.spare, ap (λ shown. shown.spare) c.self.view_is)) put.capacity)

pub invariant_of-self : goal.invariant_of-self
invariant_of-self g c =
    let place = c.requires.place in
    met_are_linked _ _ _ (made g c place.0 place.1 place.2)

pub returns-clause-rows : goal.returns-clause-rows
returns-clause-rows g c before after parted = rows_are_met _ _ _ (made g c before after parted)

pub returns-clause-fresh : goal.returns-clause-fresh
returns-clause-fresh g c held =
    let s = c.self.inside in
    let are = are_rows s c.args.self.now c.self.view_is c.self.invariant in
    let found = held_is s.slots s.rows.items c.args.self.now.rows are held.0 held.1 c.insert_reserved-slot.result held.2 held.3 held.4 in
    let two = sym c.insert_reserved-slot.ensures.was_vacant ∙ found in
    cc
