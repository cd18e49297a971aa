use Rattle.std.proofs.Common.{[], ◌∷◌, length, sym, ap, subst, ◌∙◌, arith}
use Rattle.std.specs.List.{flat_map}
use Rattle.causal_buffer.specs.Queue.{messages}
use Rattle.std.proofs.lemmas.List.{length-append}
use Rattle.causal_buffer.specs.Queue.{AreKept}
use Rattle.causal_buffer.proofs.Parts.{none_more}
use Rattle.causal_buffer.proofs.Kept.{kept_empty, kept_push}
use Rattle.causal_buffer.proofs.buffer.CausalBuffer.create.Goals as goal

pub loop-preserved : goal.loop-preserved
loop-preserved c =
    let n = c.args.n in
    let w = c.args.w in
    let qs = c.loop.queues.items in
    let q = c.in_ok-create.field-0 in
    let items = c.in_ok-push.ensures.items in
    let made = c.in_ok-create.ensures in
    record {
      count = ap length items ∙ omega (arith, length-append qs (q ∷ []), c.loop.invariant.count);
      kept = subst (AreKept n w) (sym items) (kept_push n w qs q c.loop.invariant.kept (kept_empty n w (length qs) q (made.kept (length qs)) made.empty (omega (arith, made.room, c.most_unstable-room.ensures.value)) (omega (arith, made.wait, c.requires.some))));
      none = ap (flat_map messages) items ∙ none_more messages qs q c.loop.invariant.none made.empty;
    }

pub invariant_of-result : goal.invariant_of-result
invariant_of-result c = record {
  some = c.requires.some;
  few = c.requires.few;
  narrow = c.requires.narrow;
  count = omega (arith, c.loop.invariant.count);
  kept = c.loop.invariant.kept;
  counted = sym (ap length c.loop.invariant.none);
  watched = c.create-2.ensures (flat_map messages c.loop.queues.items);
}
