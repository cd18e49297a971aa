use Rattle.std.proofs.Common.{◌≡◌, ℕ, List, length, ap, ◌∙◌, arith}
use Rattle.std.specs.Prelude.{Vec}
use Rattle.std.specs.Vec.{with_items}
use Rattle.std.proofs.lemmas.List.{with_items_is}
use Rattle.op_base.specs.declared.message.Entry.{Entry}
use Rattle.polog.specs.Order.{rows}
use Rattle.polog.specs.Rows.{Table, with_rows, turned}
use Rattle.polog.proofs.Stamps.{as_long, marked-turned}
use Rattle.polog.proofs.Tables.{as_many, rows-turned}
use Rattle.polog.proofs.rows.Rows.turn.Goals as goal

pub turn-requires-clause-places : goal.turn-requires-clause-places
turn-requires-clause-places c =
    let inside = c.self.inside in
    let many = as_many inside.room inside.stamps.items inside.entries.items c.args.self.now c.self.invariant.0 c.self.view_is in
    omega (arith, many, c.requires.places, ap length c.deref_mut.ensures.value)

pub turn-requires-2-clause-places : goal.turn-requires-2-clause-places
turn-requires-2-clause-places c =
    let inside = c.self.inside in
    let many = as_many inside.room inside.stamps.items inside.entries.items c.args.self.now c.self.invariant.0 c.self.view_is in
    omega (arith, many, c.requires.places, c.self.invariant.0, ap length c.deref_mut-2.ensures.value)

-- what a list has in which the items were turned that were lent of it
turned-in : {X Z : Type 0} (v : Vec X Z) (to from end : ℕ) (lent new : List X) → lent ≡ v.items → length new ≡ length lent → new ≡ turned to from end lent → (with_items v new).items ≡ turned to from end v.items
turned-in v to from end lent new is same turns =
    let many = v.ok.0 in
    with_items_is v new (omega (arith, many, same, ap length is)) ∙ turns ∙ ap (turned to from end) is

pub invariant_of-self : goal.invariant_of-self
invariant_of-self c =
    let inside = c.self.inside in
    let to = c.args.to in
    let from = c.args.from in
    let end = c.args.end in
    let entries = turned-in inside.entries to from end c.deref_mut.result.now c.turn.new.items c.deref_mut.ensures.value c.turn.auto.items c.turn.ensures in
    let stamps = turned-in inside.stamps to from end c.deref_mut-2.result.now c.turn-2.new.items c.deref_mut-2.ensures.value c.turn-2.auto.items c.turn-2.ensures in
    let marked = marked-turned inside.stamps.items _ inside.entries.items _ c.self.invariant.3 to from end stamps entries in
    (as_long _ _ marked, c.self.invariant.1, c.self.invariant.2, marked)

pub returns : goal.returns
returns c =
    let inside = c.self.inside in
    let to = c.args.to in
    let from = c.args.from in
    let end = c.args.end in
    let entries = turned-in inside.entries to from end c.deref_mut.result.now c.turn.new.items c.deref_mut.ensures.value c.turn.auto.items c.turn.ensures in
    let stamps = turned-in inside.stamps to from end c.deref_mut-2.result.now c.turn-2.new.items c.deref_mut-2.ensures.value c.turn-2.auto.items c.turn-2.ensures in
    let made : List (ℕ × Entry) → Table = λ rs. record { room = inside.room; rows = rs } in
    ap made ((λ t. rows (stamps t) (entries t)) ∙ rows-turned to from end inside.stamps.items inside.entries.items c.self.invariant.0)
    ∙ ap (λ t. with_rows t (turned to from end t.rows)) c.self.view_is
