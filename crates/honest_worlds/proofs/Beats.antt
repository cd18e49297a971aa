-- No beat of an honest world is held: before as many own no-ops are unstable as their window has, the first of them is stable.
use Rattle.std.proofs.Common.{◌≡◌, ◌≢◌, ℕ, ◌<◌, Bool, true, false, not, ◌==◌, List, refl, sym, subst, if◌then◌else◌, arith}
use Rattle.std.proofs.lemmas.Bool.{eqb-true, false≢true}
use Rattle.op_base.specs.declared.message.Message.{Message}
use Rattle.op_base.specs.declared.operation.Op.{Op}
use Rattle.causal_model.specs.Counts.{count_of}
use Rattle.causal_model.specs.Sending.{is_noop_due, beating, own_message, RuleGives}
use Rattle.causal_model.specs.Stability.{carries_operation, unstable_noops, noop_window}
use Rattle.causal_model.specs.declared.outcome.Beat.TheVariants as beat
use Rattle.world_model.specs.Honest.{IsHonest, delivered_by}
use Rattle.honest_worlds.specs.Laws.{NoBeatIsHeld, NoopsAreFew}
use Rattle.world_model.specs.World.{PlainWorld, size_of, replica_of, beat_at}
use Rattle.honest_worlds.proofs.Noops.{IsDueBefore, noops_are_few, few_is_below_window}
use Rattle.honest_worlds.proofs.SentMessages.{are_shared}
use Rattle.op_base.specs.declared.operation.Op.TheVariants as op

module _ (world : PlainWorld) (honest : IsHonest world) where
  beats_when_due : (u w limit me : ℕ) (ms : List Message) (m : Message) → beating u w limit me ms ≡ beat.Sent m → is_noop_due me ms ≡ true
  beats_when_due u w limit me ms m e = by (is_noop_due me ms) refl e where
    by : (due : Bool) → is_noop_due me ms ≡ due → (if not due then beat.Quiet else if unstable_noops u me ms me == noop_window u w then beat.Held else if count_of ms me == limit then beat.End else beat.Sent (own_message u me ms op.NoOp)) ≡ beat.Sent m → is_noop_due me ms ≡ true
    by true is f = is
    by false is f = cc

  noops_were_due : (r : ℕ) → r < size_of world → IsDueBefore r (delivered_by world r)
  noops_were_due r l before later m whole own none = by m.op none (honest.by_rule r l before later m whole own) where
    by : (o : Op) → carries_operation o ≡ false → RuleGives (size_of world) world.w world.limit r before m o → is_noop_due r before ≡ true
    by op.NoOp f gives = beats_when_due (size_of world) world.w world.limit r before m gives
    by (op.Update u) f gives = absurd (false≢true (sym f))

  held_when : (u w limit me : ℕ) (ms : List Message) → beating u w limit me ms ≡ beat.Held → (is_noop_due me ms ≡ true) × (unstable_noops u me ms me ≡ noop_window u w)
  held_when u w limit me ms e = by (is_noop_due me ms) (unstable_noops u me ms me == noop_window u w) (count_of ms me == limit) refl refl e where
    by : (due full end : Bool) → is_noop_due me ms ≡ due → (unstable_noops u me ms me == noop_window u w) ≡ full → (if not due then beat.Quiet else if full then beat.Held else if end then beat.End else beat.Sent (own_message u me ms op.NoOp)) ≡ beat.Held
        → (is_noop_due me ms ≡ true) × (unstable_noops u me ms me ≡ noop_window u w)
    by true true end is all f = (is, eqb-true (unstable_noops u me ms me) (noop_window u w) all)
    by true false true is all f = cc
    by true false false is all f = cc
    by false full end is all f = cc

  pub beat_is_not_held : (r : ℕ) → r < size_of world → (beat_at r world).0 ≢ beat.Held
  beat_is_not_held r l e =
      let replica = honest.is_world.replicas r l in
      let here : beating (size_of world) world.w world.limit r (delivered_by world r) ≡ beat.Held =
      subst (λ me. beating (size_of world) world.w world.limit me (delivered_by world r) ≡ beat.Held) replica.of_member (subst (λ u. beating u world.w world.limit (replica_of world r).history.present.me (delivered_by world r) ≡ beat.Held) replica.of_store e) in
      let when = held_when (size_of world) world.w world.limit r (delivered_by world r) here in
      let few = noops_are_few (size_of world) world.w r (delivered_by world) (are_shared world honest) l honest.is_world.wide (noops_were_due r l) in
      omega (arith, few, when.1, few_is_below_window (size_of world) world.w)

pub no_beat_is_held : NoBeatIsHeld
no_beat_is_held world r honest l = beat_is_not_held world honest r l

pub noops_are_few_in : NoopsAreFew
noops_are_few_in world r honest l =
    (noops_are_few (size_of world) world.w r (delivered_by world) (are_shared world honest) l honest.is_world.wide (noops_were_due world honest r l), few_is_below_window (size_of world) world.w)
