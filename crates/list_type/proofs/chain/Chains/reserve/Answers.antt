use Rattle.std.proofs.Common.{ap, ◌∙◌, sym, subst}
use Rattle.list_type.specs.ChainFields.{rows_met, AreLinked}
use Rattle.list_type.proofs.Rows.{more_room, rows_stay}
use Rattle.list_type.proofs.chain.Chains.reserve.Goals as goal

pub invariant_of-self : goal.invariant_of-self
invariant_of-self g c = more_room c.self.inside.slots c.reserve.new.self c.self.inside.rows.items c.reserve.ensures.capacity c.reserve.ensures.rest_kept c.self.invariant

pub returns-in_err-reserve-clause-rows : goal.returns-in_err-reserve-clause-rows
returns-in_err-reserve-clause-rows g c = rows_stay c.self.inside.slots c.reserve.new.self c.self.inside.rows.items c.reserve.ensures.rest_kept ∙ ap (λ shown. shown.rows) c.self.view_is

pub invariant_of-self-in_err-reserve-2 : goal.invariant_of-self-in_err-reserve-2
invariant_of-self-in_err-reserve-2 g c =
    subst (λ heads. AreLinked c.reserve.new.self heads (rows_met c.reserve.new.self heads)) (sym c.reserve-2.ensures.items)
    (more_room c.self.inside.slots c.reserve.new.self c.self.inside.rows.items c.reserve.ensures.capacity c.reserve.ensures.rest_kept c.self.invariant)

pub returns-in_err-reserve-2-clause-rows : goal.returns-in_err-reserve-2-clause-rows
returns-in_err-reserve-2-clause-rows g c =
    ap (rows_met c.reserve.new.self) c.reserve-2.ensures.items
    ∙ rows_stay c.self.inside.slots c.reserve.new.self c.self.inside.rows.items c.reserve.ensures.rest_kept
    ∙ ap (λ shown. shown.rows) c.self.view_is

pub invariant_of-self-2 : goal.invariant_of-self-2
invariant_of-self-2 g c =
    subst (λ heads. AreLinked c.reserve.new.self heads (rows_met c.reserve.new.self heads)) (sym c.reserve-2.ensures.items)
    (more_room c.self.inside.slots c.reserve.new.self c.self.inside.rows.items c.reserve.ensures.capacity c.reserve.ensures.rest_kept c.self.invariant)

pub returns-clause-rows : goal.returns-clause-rows
returns-clause-rows g c =
    ap (rows_met c.reserve.new.self) c.reserve-2.ensures.items
    ∙ rows_stay c.self.inside.slots c.reserve.new.self c.self.inside.rows.items c.reserve.ensures.rest_kept
    ∙ ap (λ shown. shown.rows) c.self.view_is
