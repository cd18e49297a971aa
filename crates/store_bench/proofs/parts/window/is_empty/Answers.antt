use Rattle.std.proofs.Common.{◌≡◌, true, false, arith}
use Rattle.tag_window.specs.Window.{held_of, held_count}
use Rattle.store_bench.proofs.Empty.{none_held}
use Rattle.store_bench.proofs.parts.window.is_empty.Goals as goal

pub returns-then-own_unstable-eq0 : goal.returns-then-own_unstable-eq0
returns-then-own_unstable-eq0 c = λ is_zero.
    let noops : held_count c.args.window.now c.args.origin true ≡ 0 = omega (arith, c.own_unstable.ensures.held, c.if-own_unstable-eq0.true) in
    let none : c.own_unstable-then-own_unstable-eq0.result ≡ 0 = grind arith in
    let operations : held_count c.args.window.now c.args.origin false ≡ 0 = omega (arith, c.own_unstable-then-own_unstable-eq0.ensures.held, none) in
    none_held (held_of c.args.window.now c.args.origin) noops operations
