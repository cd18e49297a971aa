-- What a replica sends is its member's own message, as the rule of sending gives it.
use Rattle.std.proofs.Common.{◌≡◌, ℕ, Bool, true, false, not, ◌==◌, List, [], ◌∷◌, sym, ap, subst, ◌∙◌, if◌then◌else◌}
use Rattle.op_base.specs.declared.message.Message.{Message}
use Rattle.op_base.specs.declared.operation.Op.{Op}
use Rattle.op_base.specs.declared.operation.Op.TheVariants as op
use Rattle.op_base.specs.declared.operation.Update.{Update}
use Rattle.causal_model.specs.Counts.{count_of}
use Rattle.causal_model.specs.Journal.{IsGroup}
use Rattle.causal_model.specs.Sending.{own_message, sending, is_noop_due, beating, local_rule, beat_rule, RuleGives}
use Rattle.causal_model.specs.Stability.{unstable_operations, unstable_noops, noop_window}
use Rattle.causal_model.specs.State.{State, with_own}
use Rattle.causal_model.specs.declared.note.Note.TheVariants.{Sent}
use Rattle.causal_model.specs.declared.outcome.Beat.TheVariants as beat
use Rattle.causal_model.specs.declared.outcome.Local.TheVariants as local
use Rattle.causal_model.proofs.States.Journals.{group_keeps_state}
use Rattle.world_model.specs.Worlds.{IsReplica}

-- what is sent after messages is the own message of an update, or of a no-op
module _ (n w limit me : ℕ) (messages : List Message) (m : Message) where
  update_is_own : (update : Update) → sending n w limit me messages update ≡ local.Sent m → m ≡ own_message n me messages (op.Update update)
  update_is_own update e = by (unstable_operations n me messages me == w) (count_of messages me == limit) e where
    by : (a b : Bool) → (if a then local.Busy else if b then local.End else local.Sent (own_message n me messages (op.Update update))) ≡ local.Sent m → m ≡ own_message n me messages (op.Update update)
    by true b f = cc
    by false true f = cc
    by false false f = cc

  noop_is_own : beating n w limit me messages ≡ beat.Sent m → m ≡ own_message n me messages op.NoOp
  noop_is_own e = by (is_noop_due me messages) (unstable_noops n me messages me == noop_window n w) (count_of messages me == limit) e where
    by : (due a b : Bool) → (if not due then beat.Quiet else if a then beat.Held else if b then beat.End else beat.Sent (own_message n me messages op.NoOp)) ≡ beat.Sent m → m ≡ own_message n me messages op.NoOp
    by false a b f = cc
    by true true b f = cc
    by true false true f = cc
    by true false false f = cc

-- a message is one of member me that the rule gives after messages
pub record IsGiven (n w limit me : ℕ) (messages : List Message) (m : Message) : Type 0 where
  pub own : m.origin ≡ me
  pub by_rule : RuleGives n w limit me messages m m.op

module _ {epoch : ℕ} (n w limit me : ℕ) (s : State) (m : Message) (is : IsReplica n w limit epoch me s) where
  -- the rule at a replica's state is that of its member
  rule_gives : (o : Op) → RuleGives s.history.present.n w limit s.history.present.me s.history.present.messages m o → m ≡ own_message s.history.present.n s.history.present.me s.history.present.messages o
      → IsGiven n w limit me s.history.present.messages m
  rule_gives o gives own =
      let messages = s.history.present.messages in
      let here = subst (λ k. RuleGives k w limit me messages m o) is.of_store (subst (λ x. RuleGives s.history.present.n w limit x messages m o) is.of_member gives) in
      record {
        own = ap (λ y. y.origin) own ∙ is.of_member;
        by_rule = subst (RuleGives n w limit me messages m) (sym (ap (λ y. y.op) own)) here;
      }

  pub update_is_given : (update : Update) → (local_rule w limit update s).0 ≡ local.Sent m → IsGiven n w limit me s.history.present.messages m
  update_is_given update e = rule_gives (op.Update update) e (update_is_own s.history.present.n w limit s.history.present.me s.history.present.messages m update e)

  pub noop_is_given : (beat_rule w limit s).0 ≡ beat.Sent m → IsGiven n w limit me s.history.present.messages m
  noop_is_given e = rule_gives op.NoOp e (noop_is_own s.history.present.n w limit s.history.present.me s.history.present.messages m e)

  -- with the message that it sent it is a replica
  pub sent_is_replica : IsGroup w limit s (Sent m ∷ []) → IsReplica n w limit epoch me (with_own s m)
  sent_is_replica group =
      let kept = group_keeps_state w limit s (Sent m ∷ []) is.is_state is.none_is_next group in
      record { is_state = kept.0; of_store = is.of_store; of_member = is.of_member; in_epoch = is.in_epoch; none_is_next = kept.1 }
