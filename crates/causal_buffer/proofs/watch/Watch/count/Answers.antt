use Rattle.std.proofs.Common.{length, sym, ap, subst, arith}
use Rattle.std.proofs.lemmas.Bool.{false_from_ne_true}
use Rattle.causal_buffer.specs.Watch.{IsWatch}
use Rattle.causal_buffer.proofs.Watched.{counted_is_watched}
use Rattle.causal_buffer.proofs.watch.Watch.count.Goals as goal

pub returns : goal.returns
returns c n early is none =
    let told = c.wake.ensures in
    let counted = counted_is_watched n c.wake.new.self c.args.id early (told.kept n early is) (omega (arith, c.requires.member, is.counts)) (λ x l. told.unawaited x (omega (arith, l, ap length told.counts)))
    (λ closed. none (false_from_ne_true c.args.follows (λ follows. told.unknown follows closed))) in
    subst (λ counts. IsWatch n (record c.wake.new.self { counts = counts }) early) (sym c.set.ensures) counted
