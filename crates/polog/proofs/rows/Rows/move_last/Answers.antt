use Rattle.std.proofs.Common.{◌≡◌, ℕ, ◌++◌, ◌∷◌, [], List, length, sym, ap, ◌∙◌, arith}
use Rattle.op_base.specs.declared.message.Entry.{Entry}
use Rattle.polog.specs.Order.{rows}
use Rattle.polog.specs.Rows.{Table, with_rows}
use Rattle.polog.proofs.Tables.{fewer, rows-join, rows-last, last-apart}
use Rattle.polog.proofs.rows.Rows.move_last.Goals as goal

pub push_reserved-requires : goal.push_reserved-requires
push_reserved-requires c =
    let inside = c.into.inside in
    let free = fewer inside.room inside.stamps.items inside.entries.items c.args.into.now c.into.invariant.0 c.into.view_is c.requires.room in
    omega (arith, free, c.into.invariant.1, inside.entries.ok.0)

pub push_reserved-requires-2 : goal.push_reserved-requires-2
push_reserved-requires-2 c =
    let inside = c.into.inside in
    let free = fewer inside.room inside.stamps.items inside.entries.items c.args.into.now c.into.invariant.0 c.into.view_is c.requires.room in
    omega (arith, free, c.into.invariant.2, c.into.invariant.0, inside.stamps.ok.0)

module _ (c : goal.After-push_reserved-2) where
  -- the last row
  both : (length c.take_last-2.new.self.items ≡ length c.take_last.new.self.items)
      × (rows (c.take_last-2.new.self.items ++ c.take_last-2.result ∷ []) (c.take_last.new.self.items ++ c.take_last.result ∷ [])
      ≡ rows c.take_last-2.new.self.items c.take_last.new.self.items ++ (c.take_last-2.result.number, c.take_last.result) ∷ [])
  both = rows-last c.take_last-2.new.self.items c.take_last.new.self.items c.take_last-2.result c.take_last.result
      (sym (ap length c.take_last-2.ensures.items) ∙ c.self.invariant.0 ∙ ap length c.take_last.ensures.items)

  whole : c.args.self.now.rows ≡ rows c.take_last-2.new.self.items c.take_last.new.self.items ++ (c.take_last-2.result.number, c.take_last.result) ∷ []
  whole = sym (ap (λ t. t.rows) c.self.view_is) ∙ (λ t. rows (c.take_last-2.ensures.items t) (c.take_last.ensures.items t)) ∙ both.1

pub returns-clause-left : goal.returns-clause-left
returns-clause-left c =
    let parts = last-apart c.args.self.now.rows (rows c.take_last-2.new.self.items c.take_last.new.self.items) (c.take_last-2.result.number, c.take_last.result) (whole c) in
    (λ t. record { room = (c.self.view_is t).room; rows = sym parts.0 t })

pub returns-clause-moved : goal.returns-clause-moved
returns-clause-moved c =
    let inside = c.into.inside in
    let row : ℕ × Entry = (c.take_last-2.result.number, c.take_last.result) in
    let parts = last-apart c.args.self.now.rows (rows c.take_last-2.new.self.items c.take_last.new.self.items) row (whole c) in
    let put = (λ t. rows (c.push_reserved-2.ensures.items t) (c.push_reserved.ensures.items t)) ∙ rows-join inside.stamps.items (c.take_last-2.result ∷ []) inside.entries.items (c.take_last.result ∷ []) c.into.invariant.0 in
    let made : List (ℕ × Entry) → Table = λ rs. record { room = inside.room; rows = rs } in
    ap made put ∙ (λ t. with_rows (c.into.view_is t) ((c.into.view_is t).rows ++ sym parts.1 t))
