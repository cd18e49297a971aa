use Rattle.std.proofs.Common.{◌≡◌, ◌≤◌, true, false, take, drop, length, sym, subst}
use Rattle.std.specs.Ordering.{is_le}
use Rattle.op_base.specs.Order.{object_cmp}
use Rattle.op_base.specs.declared.message.Entry.{Entry}
use Rattle.polog.specs.Order.{Each, Pairwise}
use Rattle.polog.proofs.Orders.{pairwise-parts}
use Rattle.polog.proofs.Laid.{joined}
use Rattle.polog.proofs.Spans.{rest-taken, span-counted}
use Rattle.polog.proofs.search.span_of.Goals as goal

pub count_through-requires : goal.count_through-requires
count_through-requires c =
    let R : Entry → Entry → Type 0 = λ a b. is_le (object_cmp a.update.object b.update.object) ≡ true in
    let es = c.args.entries.now in
    let i = c.count_before-from.result in
    subst (Pairwise R) (sym (rest-taken i es c.count_before-from.ensures.bound))
    (pairwise-parts R (take i es) (drop i es) (subst (Pairwise R) (sym (joined i es)) c.requires)).1

pub returns : goal.returns
returns c =
    let es = c.args.entries.now in
    let i = c.count_before-from.result in
    let k = c.count_through.result in
    let object = c.args.object.now in
    let rest = rest-taken i es c.count_before-from.ensures.bound in
    span-counted object es i k c.count_before-from.ensures.bound
    (subst (λ xs. k ≤ length xs) rest c.count_through.ensures.bound)
    c.count_before-from.ensures.before c.count_before-from.ensures.after
    (subst (λ xs. Each (λ (e : Entry). is_le (object_cmp e.update.object object) ≡ true) (take k xs)) rest c.count_through.ensures.before)
    (subst (λ xs. Each (λ (e : Entry). is_le (object_cmp e.update.object object) ≡ false) (drop k xs)) rest c.count_through.ensures.after)
