use Rattle.std.proofs.Common.{ap, ◌∙◌}
use Rattle.std.specs.Prelude.{is_some}
use Rattle.list_type.proofs.Rows.{are_rows}
use Rattle.list_type.proofs.Puts.{place_holds, next_of, front_of}
use Rattle.list_type.proofs.chain.Chains.behind.Goals as goal

pub index-requires : goal.index-requires
index-requires g c =
    let s = c.self.inside in
    let place = c.requires in
    let are = are_rows s c.args.self.now c.self.view_is c.self.invariant in
    ap is_some (place_holds s.slots s.rows.items c.args.self.now.rows are c.args.row place.0 place.1 c.args.ahead place.2 c.in-Some.slot c.in-Some.is).1

pub returns-in-Some : goal.returns-in-Some
returns-in-Some g c before after parted =
    let s = c.self.inside in
    let are = are_rows s c.args.self.now c.self.view_is c.self.invariant in
    next_of s.slots s.rows.items c.args.self.now.rows are c.args.row before after c.args.ahead parted c.in-Some.slot c.index.result.now c.in-Some.is c.index.ensures

pub returns-in-None : goal.returns-in-None
returns-in-None g c before after parted =
    let s = c.self.inside in
    let are = are_rows s c.args.self.now c.self.view_is c.self.invariant in
    ap (λ head. head.first) c.index-in-None.ensures
    ∙ front_of s.slots s.rows.items c.args.self.now.rows are c.args.row before after c.args.ahead parted c.index-in-None.result.now c.in-None.is
