use Rattle.std.proofs.Common.{◌-◌, refl, sym, ap, ◌∙◌}
use Rattle.list_type.proofs.Rows.{rows_are_met, met_are_linked, slot_is, held_slot}
use Rattle.list_type.proofs.Puts.{len-with_value, rows_written, written_linked}
use Rattle.list_type.proofs.chain.Chains.get_mut.Goals as goal

pub index_mut-requires : goal.index_mut-requires
index_mut-requires g c = held_slot c.self.inside c.args.self.now c.self.view_is c.self.invariant c.args.slot c.requires

pub invariant_of-self-lent : goal.invariant_of-self-lent
invariant_of-self-lent g c w =
    let held = c.requires in
    met_are_linked _ _ _ (written_linked c.self.inside c.args.self.now c.self.view_is c.self.invariant held.0 c.args.slot held.2 w held.1 held.3 held.4 c.index_mut.result.now c.index_mut.ensures.value w refl)

pub returns : goal.returns
returns g c =
    let s = c.self.inside in
    let v = c.args.self.now in
    let now = c.index_mut.result.now in
    let held = c.requires in (
      (
        refl,
        λ w.
            let linked = written_linked s v c.self.view_is c.self.invariant held.0 c.args.slot held.2 w held.1 held.3 held.4 now c.index_mut.ensures.value w refl in
            let rows = rows_are_met _ _ _ linked ∙ sym (rows_written s v c.self.view_is c.self.invariant held.0 c.args.slot held.2 w held.1 held.3 held.4) in
            let len = len-with_value s.slots c.args.slot now (record now { value = w }) c.index_mut.ensures.value in
            λ i. record {
              rows = rows i;
              spare = (ap (λ n. s.slots.capacity - n) len ∙ ap (λ shown. shown.spare) c.self.view_is) i;
              row_spare = ap (λ shown. shown.row_spare) c.self.view_is i;
            },
      ),
      record {
        lends = tt;
        value = λ row before value after stands. c.value_mut.ensures.value ∙ ap (λ slot. slot.value) (slot_is s v c.self.view_is c.self.invariant row before c.args.slot value after now c.index_mut.ensures.value stands);
        written = λ other row before value after stands. rows_written s v c.self.view_is c.self.invariant row c.args.slot value other before after stands;
      },
    )
