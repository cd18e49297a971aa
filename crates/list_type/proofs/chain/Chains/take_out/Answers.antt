use Rattle.std.proofs.Common.{◌≡◌, ◌-◌, ℕ, List, ◌∷◌, ◌++◌, set, subst, sym, ap, ◌∙◌, length-append, arith}
use Rattle.list_type.specs.Chained.{first_slot, last_slot, Stands}
use Rattle.list_type.specs.ChainFields.{AreLinked, head_of, first_behind}
use Rattle.list_type.proofs.Rows.{are_rows, as_many, head_at, rows_are_met, met_are_linked, held_is, slot_is, held_slot}
use Rattle.list_type.proofs.Puts.{previous_holds, next_holds, previous_differs, next_differs, still_held, relinked_held, head_made, row_take}
use Rattle.list_type.proofs.chain.Chains.take_out.Given.{Over}
use Rattle.list_type.proofs.chain.Chains.take_out.Goals as goal

pub remove-row-requires : goal.remove-row-requires
remove-row-requires g c = held_slot c.self.inside c.args.self.now c.self.view_is c.self.invariant c.args.slot c.requires

pub set_next-requires : goal.set_next-requires
set_next-requires g c = λ k is.
    let s = c.self.inside in
    let rows = c.args.self.now.rows in
    let are = are_rows s c.args.self.now c.self.view_is c.self.invariant in
    let held = c.requires in
    let gone = c.remove-row.ensures in
    let fields = slot_is s c.args.self.now c.self.view_is c.self.invariant held.0 held.1 c.args.slot held.2 held.3 c.remove-row.result gone.value held.4 in
    still_held s.slots c.remove-row.new.self held.0 c.args.slot (last_slot held.1)
    (previous_holds s.slots s.rows.items rows are held.0 c.args.slot held.2 held.1 held.3 held.4)
    (previous_differs s.slots s.rows.items rows are held.0 c.args.slot held.2 held.1 held.3 held.4)
    gone.updates.others k (sym (ap (λ slot. slot.previous) fields) ∙ is)

pub set_previous-requires : goal.set_previous-requires
set_previous-requires g c = λ k is.
    let s = c.self.inside in
    let rows = c.args.self.now.rows in
    let are = are_rows s c.args.self.now c.self.view_is c.self.invariant in
    let held = c.requires in
    let gone = c.remove-row.ensures in
    let fields = slot_is s c.args.self.now c.self.view_is c.self.invariant held.0 held.1 c.args.slot held.2 held.3 c.remove-row.result gone.value held.4 in
    relinked_held (λ had. record had { next = c.remove-row.result.next }) c.remove-row.new.self c.set_next.new.slots c.remove-row.result.previous c.set_next.ensures k
    (still_held s.slots c.remove-row.new.self held.0 c.args.slot (first_slot held.3)
    (next_holds s.slots s.rows.items rows are held.0 c.args.slot held.2 held.1 held.3 held.4)
    (next_differs s.slots s.rows.items rows are held.0 c.args.slot held.2 held.1 held.3 held.4)
    gone.updates.others k (sym (ap (λ slot. slot.next) fields) ∙ is))

pub index-head-requires : goal.index-head-requires
index-head-requires g c =
    let s = c.self.inside in
    let held = c.requires in
    let are = are_rows s c.args.self.now c.self.view_is c.self.invariant in
    let fields = slot_is s c.args.self.now c.self.view_is c.self.invariant held.0 held.1 c.args.slot held.2 held.3 c.remove-row.result c.remove-row.ensures.value held.4 in
    omega (arith, ap (λ slot. slot.row) fields, held.4.within, as_many s.slots s.rows.items c.args.self.now.rows are, s.rows.ok.0)

pub overflow_sub-head : goal.overflow_sub-head
overflow_sub-head g c =
    let s = c.self.inside in
    let held = c.requires in
    let are = are_rows s c.args.self.now c.self.view_is c.self.invariant in
    let fields = slot_is s c.args.self.now c.self.view_is c.self.invariant held.0 held.1 c.args.slot held.2 held.3 c.remove-row.result c.remove-row.ensures.value held.4 in
    let old = (c.args.slot, held.2) ∷ held.3 in
    let head = head_at s.slots s.rows.items c.args.self.now.rows are held.0 c.remove-row.result.row c.index-head.result.now (held.1 ++ old) (ap (λ slot. slot.row) fields) c.index-head.ensures held.4.within held.4.here in
    omega (arith, ap (λ h. h.len) head, length-append held.1 old)

pub index_mut-requires : goal.index_mut-requires
index_mut-requires g c =
    let s = c.self.inside in
    let held = c.requires in
    let are = are_rows s c.args.self.now c.self.view_is c.self.invariant in
    let fields = slot_is s c.args.self.now c.self.view_is c.self.invariant held.0 held.1 c.args.slot held.2 held.3 c.remove-row.result c.remove-row.ensures.value held.4 in
    omega (arith, ap (λ slot. slot.row) fields, held.4.within, as_many s.slots s.rows.items c.args.self.now.rows are, s.rows.ok.0)

-- the rows without the value
made : (g : Over) (c : goal.After-self-1 g) (row : ℕ) (before : List (ℕ × g.row.T.Denot)) (value : g.row.T.Denot) (after : List (ℕ × g.row.T.Denot)) → Stands c.args.self.now.rows row before c.args.slot value after
    → AreLinked c.set_previous.new.slots (set c.self.inside.rows.items c.remove-row.result.row (record { first = c.first_behind.result; len = c.index-head.result.now.len - 1 })) (set c.args.self.now.rows row (before ++ after))
made g c row before value after stands =
    let s = c.self.inside in
    let rows = c.args.self.now.rows in
    let are = are_rows s c.args.self.now c.self.view_is c.self.invariant in
    let gone = c.remove-row.ensures in
    let had = c.remove-row.result in
    let now = c.index-head.result.now in
    let old = (c.args.slot, value) ∷ after in
    let first = c.first_behind.result in
    let len = now.len - 1 in
    let fields = slot_is s c.args.self.now c.self.view_is c.self.invariant row before c.args.slot value after had gone.value stands in
    let row_is = ap (λ slot. slot.row) fields in
    let ahead_is = ap (λ slot. slot.previous) fields in
    let next_is = ap (λ slot. slot.next) fields in
    let head = head_at s.slots s.rows.items rows are row had.row now (before ++ old) row_is c.index-head.ensures stands.within stands.here in
    let head_new : head_of (before ++ after) ≡ record { first = first; len = len } =
    head_made before old after had.previous first len now ahead_is head (c.first_behind.ensures ∙ ap (λ o. first_behind had.previous o now.first) next_is)
    (omega (arith, ap (λ h. h.len) head, length-append before old)) in
    subst (λ r. AreLinked c.set_previous.new.slots (set s.rows.items r (record { first = first; len = len })) (set rows row (before ++ after))) (sym row_is)
    (subst (λ h. AreLinked c.set_previous.new.slots (set s.rows.items row h) (set rows row (before ++ after))) head_new
    (row_take s.slots s.rows.items rows are c.remove-row.new.self c.set_next.new.slots c.set_previous.new.slots row c.args.slot value before after had.previous had.next
    stands ahead_is next_is gone.updates c.set_next.ensures c.set_previous.ensures gone.len gone.capacity))

pub invariant_of-self : goal.invariant_of-self
invariant_of-self g c =
    let held = c.requires in
    met_are_linked _ _ _ (made g c held.0 held.1 held.2 held.3 held.4)

pub returns-clause-rows : goal.returns-clause-rows
returns-clause-rows g c row before value after stands = rows_are_met _ _ _ (made g c row before value after stands)

pub returns-clause-value : goal.returns-clause-value
returns-clause-value g c row before value after stands =
    ap (λ slot. slot.value) (slot_is c.self.inside c.args.self.now c.self.view_is c.self.invariant row before c.args.slot value after c.remove-row.result c.remove-row.ensures.value stands)

pub returns-clause-out : goal.returns-clause-out
returns-clause-out g c held =
    let s = c.self.inside in
    let rows = c.args.self.now.rows in
    let was = c.requires in
    let are = are_rows s c.args.self.now c.self.view_is c.self.invariant in
    let had = c.remove-row.result in
    let gone = c.remove-row.ensures in
    let fields = slot_is s c.args.self.now c.self.view_is c.self.invariant was.0 was.1 c.args.slot was.2 was.3 had gone.value was.4 in
    let found = held_is _ _ _ (met_are_linked _ _ _ (made g c was.0 was.1 was.2 was.3 was.4)) held.0 held.1 c.args.slot held.2 held.3 held.4 in
    let none =
    c.set_previous.ensures.others c.args.slot (λ same. next_differs s.slots s.rows.items rows are was.0 c.args.slot was.2 was.1 was.3 was.4 (sym (ap (λ slot. slot.next) fields) ∙ same))
    ∙ c.set_next.ensures.others c.args.slot (λ same. previous_differs s.slots s.rows.items rows are was.0 c.args.slot was.2 was.1 was.3 was.4 (sym (ap (λ slot. slot.previous) fields) ∙ same))
    ∙ gone.updates.changed in
    let two = sym none ∙ found in
    cc
