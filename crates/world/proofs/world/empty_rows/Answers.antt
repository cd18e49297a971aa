use Rattle.std.proofs.Common.{◌≡◌, map, ap, subst, arith}
use Rattle.world.specs.Steps.{are_empty}
use Rattle.world.proofs.Openings.{one_empty}
use Rattle.world.proofs.world.empty_rows.Goals as goal

pub loop-init : goal.loop-init
loop-init c = ap (map (λ row. row.items)) c.in_ok-rows.ensures.items

pub loop-preserved : goal.loop-preserved
loop-preserved c = one_empty (λ row. row.items) c.loop.rows.items c.push.new.self.items c.new.result c.loop.counter c.loop.invariant c.in_ok-push.ensures.items c.new.ensures

pub returns : goal.returns
returns c =
    let all : c.loop.counter ≡ c.args.n = omega arith in
    subst (λ count. map (λ row. row.items) c.loop.rows.items ≡ are_empty count) all c.loop.invariant
