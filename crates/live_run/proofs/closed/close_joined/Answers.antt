use Rattle.std.proofs.Common.{rules, List, ◌≡◌, ◌<◌, ℕ, [], length, slice_index_or, subst, ap, ◌∙◌, take, drop, ◌++◌, arith}
use Rattle.std.proofs.Math.Seq.{take-append_seam}
use Rattle.replica_lock.specs.declared.pass.Settings.{Settings}
use Rattle.turn_lock.specs.Turns.{LockState}
use Rattle.live_run.specs.Joining.{AreOut, NodeOpener, taken_back}
use Rattle.live_run.proofs.Closing.{all_noted}
use Rattle.live_run.proofs.closed.close_joined.Goals as goal

pub returns : goal.returns
returns c =
    let of_all : c.deref.result.now ≡ c.args.nodes.items = search rules in
    let out = subst (λ (locks : List (LockState Settings)). AreOut locks c.join_all.new.openers []) of_all c.join_all.ensures.out in
    let from : c.deref_mut.result.now ≡ c.args.openers.items = search rules in
    let taken0 = subst (λ (openers : List NodeOpener). (r : ℕ) (e : NodeOpener) → r < length c.deref.result.now → slice_index_or c.join_all.new.openers r e ≡ taken_back r c.args.backs.items (slice_index_or openers r e)) from c.join_all.ensures.taken in
    let taken = subst (λ (locks : List (LockState Settings)). (r : ℕ) (e : NodeOpener) → r < length locks → slice_index_or c.join_all.new.openers r e ≡ taken_back r c.args.backs.items (slice_index_or c.args.openers.items r e)) of_all taken0 in
    let kept_len : c.args.openers.len ≡ length c.join_all.new.openers = grind (rules, arith, out.of_each, c.requires.out.of_each) in
    all_noted c.args.nodes.items c.args.openers.items c.join_all.new.openers _ c.args.backs.items c.close_all.result c.requires.fresh out taken c.close_all.ensures.of_each c.close_all.ensures.each (ap (λ k. take k (c.join_all.new.openers ++ drop (length c.join_all.new.openers) c.args.openers.items)) kept_len ∙ take-append_seam c.join_all.new.openers (drop (length c.join_all.new.openers) c.args.openers.items))
