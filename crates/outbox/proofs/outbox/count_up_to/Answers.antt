use Rattle.std.proofs.Common.{rules, of_calls, ◌+◌, ◌-◌, ◌<◌, ◌≤◌, length, length-take-le, length-drop, sym, subst, arith}
use Rattle.std.specs.Prelude.{nat_le}
use Rattle.std.proofs.lemmas.Bool.{leb-true, leb-false}
use Rattle.std.proofs.lemmas.Fn.{always_returns_same}
use Rattle.std.proofs.lemmas.List.{get_or-take, get_or-drop}
use Rattle.std.proofs.lemmas.Option.{get_or_from_slice_get}
use Rattle.op_base.specs.Message.{number}
use Rattle.outbox.proofs.Risings.{newest_is_highest, up_to-first}
use Rattle.outbox.proofs.outbox.count_up_to.Goals as goal

pub returns-in-Some-clause-front : goal.returns-in-Some-clause-front
returns-in-Some-clause-front c = λ k d l.
    let ms = c.args.sent.now in
    let newest = c.in-Some.newest.now in
    let within : k < length ms = omega (arith, l, length-take-le (length ms) ms (omega arith)) in
    let last = sym (get_or_from_slice_get ms (length ms - 1) newest newest (sym c.in-Some.ensures.value)) in
    subst (λ m. number m ≤ c.args.seq) (sym (get_or-take (length ms) ms k d within)) (newest_is_highest ms c.args.seq newest c.requires.rise last (omega (arith, c.number.ensures, c.if-number-seq.true)) k d within)

pub returns-in_default-clause-front : goal.returns-in_default-clause-front
returns-in_default-clause-front c =
    let ms = c.args.sent.now in
    let count = c.partition_point.result in
    let point = c.partition_point.ensures.partitioned (λ m. nat_le (number m) c.args.seq) (always_returns_same _ _ _ (λ a r f k. search (rules, of_calls))) (up_to-first ms c.args.seq c.requires.rise) in
    λ k d l.
    let within : k < count = omega (arith, l, length-take-le count ms c.partition_point.ensures.bound) in
    subst (λ m. number m ≤ c.args.seq) (sym (get_or-take count ms k d within)) (leb-true _ c.args.seq (point.0 k d (omega arith) within))

pub returns-in_default-clause-rest : goal.returns-in_default-clause-rest
returns-in_default-clause-rest c =
    let ms = c.args.sent.now in
    let count = c.partition_point.result in
    let point = c.partition_point.ensures.partitioned (λ m. nat_le (number m) c.args.seq) (always_returns_same _ _ _ (λ a r f k. search (rules, of_calls))) (up_to-first ms c.args.seq c.requires.rise) in
    λ k d l.
    subst (λ m. c.args.seq < number m) (sym (get_or-drop count ms k d)) (leb-false _ c.args.seq (point.1 (count + k) d (omega arith) (omega (arith, l, length-drop count ms, c.partition_point.ensures.bound))))
