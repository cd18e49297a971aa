use Rattle.std.proofs.Common.{◌≡◌, ◌+◌, length, subst, sym, ap, ◌∙◌, arith}
use Rattle.std.specs.List.{insert}
use Rattle.polog.specs.Rows.{with_rows, turned, free_number, IsFreed}
use Rattle.polog.proofs.Freed.{opened-more, opened-at}
use Rattle.polog.proofs.rows.Rows.open.Goals as goal

pub loop-preserved : goal.loop-preserved
loop-preserved c =
    let made = c.entry.ensures in
    let old = c.args.self.now in
    let now = c.loop.self in
    let so_far = subst (λ k. IsFreed c.args.idle c.loop.counter k k old now) c.len-len.ensures c.loop.invariant.opened in
    record {
      opened = subst (λ k. IsFreed c.args.idle (c.loop.counter + 1) k k old c.insert.new.self) (sym c.len-len.ensures)
          (subst (IsFreed c.args.idle (c.loop.counter + 1) (length old.rows) (length old.rows) old)
          (sym (c.insert.ensures ∙ ap (λ k. with_rows now (insert now.rows k (free_number, c.entry.result))) c.len-end.ensures))
          (opened-more c.args.idle old c.entry.result made.origin made.tag made.object made.act c.loop.counter now so_far));
    }

pub returns : goal.returns
returns c =
    let old = c.args.self.now in
    let now = c.loop.self in
    let all : c.loop.counter ≡ c.args.many = omega (arith, c.loop.auto.counter-end, c.loop-test.false) in
    let so_far = subst (λ m. IsFreed c.args.idle m (length old.rows) (length old.rows) old now) all (subst (λ k. IsFreed c.args.idle c.loop.counter k k old now) c.len-len.ensures c.loop.invariant.opened) in
    opened-at c.args.idle c.args.many c.args.at old now c.turn.new.self c.requires.place so_far
    (c.turn.ensures ∙ (λ i. with_rows now (turned c.args.at (c.len-len.ensures i) (c.len.ensures i) now.rows)))
