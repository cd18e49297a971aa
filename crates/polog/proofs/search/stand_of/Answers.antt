use Rattle.std.proofs.Common.{◌≡◌, ◌<◌, true, length, sym, ap, subst, ◌∙◌, arith}
use Rattle.std.specs.Ordering.{is_le}
use Rattle.op_base.specs.Order.{object_cmp}
use Rattle.op_base.specs.declared.message.Entry.{Entry}
use Rattle.polog.specs.Order.{Pairwise}
use Rattle.polog.specs.Rows.{IsSpan}
use Rattle.polog.proofs.Gaps.{pairwise-items, own-object}
use Rattle.polog.proofs.Laid.{length-items}
use Rattle.polog.proofs.Places.{pairwise-at}
use Rattle.polog.proofs.search.stand_of.Goals as goal

pub span_of-from-requires : goal.span_of-from-requires
span_of-from-requires c =
    let R : Entry → Entry → Type 0 = λ a b. is_le (object_cmp a.update.object b.update.object) ≡ true in
    subst (Pairwise R) (sym c.entries.ensures) (pairwise-items R c.args.rows.now.rows c.requires.ordered)

pub live_end-requires-clause-places : goal.live_end-requires-clause-places
live_end-requires-clause-places c = omega (arith, c.span_of-from.ensures.places, ap length c.entries.ensures, length-items c.args.rows.now.rows)

pub live_end-requires-clause-behind : goal.live_end-requires-clause-behind
live_end-requires-clause-behind c j k d l m n live =
    let rs = c.args.rows.now.rows in
    let object = c.args.object.now in
    let from = c.span_of-from.result.0 in
    let to = c.span_of-from.result.1 in
    let span = subst (λ es. IsSpan object es from to) c.entries.ensures c.span_of-from.ensures in
    let inside : k < length rs = omega (arith, n, c.span_of-from.ensures.places, ap length c.entries.ensures, length-items rs) in
    pairwise-at _ rs c.requires.behind j k d m inside
    (own-object object rs from to span j d l (omega (arith, m, n)) (omega (arith, m, inside)) ∙ sym (own-object object rs from to span k d (omega (arith, l, m)) n inside)) live

pub returns-clause-stand : goal.returns-clause-stand
returns-clause-stand c = record {
  span = subst (λ es. IsSpan c.args.object.now es c.span_of-from.result.0 c.span_of-from.result.1) c.entries.ensures c.span_of-from.ensures;
  least = c.live_end.ensures.least;
  most = c.live_end.ensures.most;
  live = c.live_end.ensures.live;
  free = c.live_end.ensures.free;
}

pub returns-clause-small : goal.returns-clause-small
returns-clause-small c = omega (arith, c.span_of-from.ensures.places, c.entries.type_inv.1)
