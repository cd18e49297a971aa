use Rattle.std.proofs.Common.{◌≡◌, ℕ, ◌++◌, ◌<◌, ◌≤◌, List, length, take, arith, length-take, length-append}
use Rattle.std.proofs.lemmas.Bool.Decides.{nat_tests}
use Rattle.draw_program.proofs.Gives.{gave_both}
use Rattle.draw_program.proofs.run.read_all.Goals as goal

pub returns-then-len-eq-MOST_INPUT-clause-long : goal.returns-then-len-eq-MOST_INPUT-clause-long
returns-then-len-eq-MOST_INPUT-clause-long g c = λ _.
    let input : List ℕ = c.reading.input.items in
    let bytes : List ℕ = take c.in-Ok.taken c.read.new.buf in
    let some : 0 < length bytes = grind (arith, nat_tests, length-take c.in-Ok.taken c.read.new.buf, c.in-Ok.ensures.within, c.if-taken-eq0.false, c.read.auto.buf) in
    record {
      given = input ++ bytes;
      gave = gave_both _ _ _ input bytes c.reading.invariant.gave c.in-Ok.ensures.moved;
      long = omega (arith, c.if-len-eq-MOST_INPUT.true, some, length-append input bytes);
    }
