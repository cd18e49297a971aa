use Rattle.std.proofs.Common.{◌∙◌, arith}
use Rattle.list_type.specs.ChainFields.{AreLinked}
use Rattle.list_type.proofs.Rows.{are_rows, rows_are_met, met_are_linked, slots_copied, rows_copied}
use Rattle.list_type.proofs.chain.Chains.copy.Given.{Over}
use Rattle.list_type.proofs.chain.Chains.copy.Goals as goal

-- the copy has the same rows
made : (g : Over) (c : goal.In_ok-from_slice g) → AreLinked c.in_ok-slots.slots c.in_ok-from_slice.field-0.items c.args.self.now.rows
made g c =
    let s = c.self.inside in
    rows_copied s.slots c.in_ok-slots.slots s.rows.items c.in_ok-from_slice.field-0.items c.args.self.now.rows
    (are_rows s c.args.self.now c.self.view_is c.self.invariant)
    (slots_copied g.T.Clone.is_clone c.requires s.slots c.in_ok-slots.slots c.in_ok-slots.ensures.cases)
    (c.in_ok-from_slice.ensures.items ∙ c.deref.ensures.value)
    (omega (arith, c.capacity.ensures.holds_all, c.capacity.ensures.value))

pub invariant_of-result : goal.invariant_of-result
invariant_of-result g c = met_are_linked _ _ _ (made g c)

pub returns : goal.returns
returns g c = rows_are_met _ _ _ (made g c)
