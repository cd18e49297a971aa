use Rattle.std.proofs.Common.{rules, of_calls, ◌≡◌, Bool, true, false, arith}
use Rattle.std.specs.Ordering.{is_le}
use Rattle.std.proofs.lemmas.Fn.{always_returns_same}
use Rattle.op_base.specs.Order.{object_cmp}
use Rattle.op_base.specs.declared.message.Entry.{Entry}
use Rattle.polog.proofs.Orders.{pairwise-weaker}
use Rattle.polog.proofs.Places.{each-take, each-drop, passes-first, through-from}
use Rattle.polog.proofs.search.count_through.Goals as goal

pub returns-clause-before : goal.returns-clause-before
returns-clause-before c =
    let p : Entry → Bool = λ e. is_le (object_cmp e.update.object c.args.object.now) in
    let point = c.partition_point.ensures.partitioned p (always_returns_same _ _ _ (λ a r f k. search (rules, of_calls)))
    (passes-first p c.args.entries.now (pairwise-weaker _ (λ a b. p b ≡ true → p a ≡ true) (λ a b le. through-from a.update.object b.update.object c.args.object.now le) c.args.entries.now c.requires)) in
    each-take (λ e. p e ≡ true) c.args.entries.now c.partition_point.result (λ k d l m. point.0 k d (omega arith) l)

pub returns-clause-after : goal.returns-clause-after
returns-clause-after c =
    let p : Entry → Bool = λ e. is_le (object_cmp e.update.object c.args.object.now) in
    let point = c.partition_point.ensures.partitioned p (always_returns_same _ _ _ (λ a r f k. search (rules, of_calls)))
    (passes-first p c.args.entries.now (pairwise-weaker _ (λ a b. p b ≡ true → p a ≡ true) (λ a b le. through-from a.update.object b.update.object c.args.object.now le) c.args.entries.now c.requires)) in
    each-drop (λ e. p e ≡ false) c.args.entries.now c.partition_point.result (λ k d l m. point.1 k d l m)
