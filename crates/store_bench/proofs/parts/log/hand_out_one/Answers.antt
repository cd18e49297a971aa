use Rattle.std.proofs.Common.{◌≡◌, is_some, ◌∙◌, arith}
use Rattle.store_bench.proofs.Handed.{IsHandedOut, handed_out}
use Rattle.store_bench.proofs.parts.log.hand_out_one.Goals as goal

pub returns-clause-members : goal.returns-clause-members
returns-clause-members c = (handed_out c.args.log.now c.next_stripped.new.self c.next_stripped.result c.next_stripped.ensures.none c.next_stripped.ensures.first).members

pub returns-clause-none : goal.returns-clause-none
returns-clause-none c = λ empty.
    let handed : IsHandedOut c.args.log.now c.next_stripped.new.self c.next_stripped.result = handed_out c.args.log.now c.next_stripped.new.self c.next_stripped.result c.next_stripped.ensures.none c.next_stripped.ensures.first in
    let same : is_some c.next_stripped.result ≡ c.is_some.result = grind arith in
    handed.none (same ∙ empty)
