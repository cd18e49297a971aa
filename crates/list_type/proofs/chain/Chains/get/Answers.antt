use Rattle.std.proofs.Common.{ap}
use Rattle.list_type.proofs.Rows.{slot_is, held_slot}
use Rattle.list_type.proofs.chain.Chains.get.Goals as goal

pub index-requires : goal.index-requires
index-requires g c = held_slot c.self.inside c.args.self.now c.self.view_is c.self.invariant c.args.slot c.requires

pub returns : goal.returns
returns g c row before value after stands =
    ap (λ slot. slot.value) (slot_is c.self.inside c.args.self.now c.self.view_is c.self.invariant row before c.args.slot value after c.index.result.now c.index.ensures stands)
