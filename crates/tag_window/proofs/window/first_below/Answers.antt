use Rattle.std.proofs.Common.{length, sym, ◌∙◌, arith, nat_lt}
use Rattle.std.proofs.lemmas.Bool.{lt-ltb, le-ltb}
use Rattle.op_base.specs.Timestamp.{entry}
use Rattle.op_base.proofs.Timestamps.{each_at_most}
use Rattle.tag_window.proofs.Lines.{least_found, none_found}
use Rattle.tag_window.proofs.window.first_below.Goals as goal

pub returns-then-at_most-clause-least : goal.returns-then-at_most-clause-least
returns-then-at_most-clause-least c = sym (none_found (λ x. nat_lt (entry c.args.got.now x) (entry c.args.had.now x)) (length c.args.had.now) (λ y l. le-ltb (entry c.args.got.now y) (entry c.args.had.now y) (each_at_most c.args.had.now c.args.got.now c.requires (sym c.at_most.ensures ∙ c.if-at_most.true) y)))

pub returns-then-at-clause-least : goal.returns-then-at-clause-least
returns-then-at-clause-least c = sym (least_found (λ x. nat_lt (entry c.args.got.now x) (entry c.args.had.now x)) (length c.args.had.now) c.loop-x.x (omega arith) c.loop-x.invariant (lt-ltb (entry c.args.got.now c.loop-x.x) (entry c.args.had.now c.loop-x.x) (omega arith)))

pub returns-clause-least : goal.returns-clause-least
returns-clause-least c = sym (none_found (λ x. nat_lt (entry c.args.got.now x) (entry c.args.had.now x)) (length c.args.had.now) (λ y l. c.loop-x.invariant y (omega (arith, l))))
