use Rattle.std.proofs.Common.{◌≡◌, ◌-◌, ◌++◌, ◌∷◌, [], vec_len, subst, arith}
use Rattle.std.specs.Prelude.{IfSome}
use Rattle.op_base.specs.declared.message.Entry.{Entry}
use Rattle.polog.specs.Order.{rows, items_of}
use Rattle.polog.specs.Rows.{Table}
use Rattle.polog.proofs.Tables.{items-less}
use Rattle.polog.proofs.rows.Rows.pop.Goals as goal

pub returns-clause-last : goal.returns-clause-last
returns-clause-last c =
    let inside = c.self.inside in
    let last : Table → Type 0 = λ t. IfSome c.pop-2.result (λ (e : Entry). items_of t.rows ≡ items_of (rows c.pop.new.self.items c.pop-2.new.self.items) ++ e ∷ []) in
    subst last c.self.view_is
    (items-less inside.stamps.items c.pop.new.self.items inside.entries.items c.pop-2.new.self.items (vec_len inside.stamps - 1) (vec_len inside.entries - 1) c.pop-2.result
    c.self.invariant.0 (omega (arith, c.self.invariant.0, inside.stamps.ok.0, inside.entries.ok.0)) c.pop.ensures.rest c.pop-2.ensures.rest c.pop-2.ensures.items)
