-- What the rules of sending answer, told from the tests that a replica makes.
use Rattle.std.proofs.Common.{◌≡◌, ℕ, ◌<◌, ◌==◌, Bool, false, not, IsTrue, List, sym, ap, ap₂, subst, ◌∙◌, if◌then◌else◌, arith}
use Rattle.std.proofs.lemmas.Bool.{eqb-false}
use Rattle.op_base.specs.Valid.{is_valid}
use Rattle.op_base.specs.declared.message.Message.{Message}
use Rattle.op_base.specs.declared.operation.Op.{Op}
use Rattle.op_base.specs.declared.operation.Op.TheVariants as op
use Rattle.op_base.specs.declared.operation.Update.{Update}
use Rattle.causal_model.specs.Counts.{count_of}
use Rattle.causal_model.specs.State.{State}
use Rattle.causal_model.specs.Sending.{own_message, RuleGives, sending, beating, is_noop_due, local_rule, beat_rule}
use Rattle.causal_model.specs.Stability.{unstable_operations, unstable_noops, noop_window}
use Rattle.causal_model.specs.declared.outcome.Beat.TheVariants as beat
use Rattle.causal_model.specs.declared.outcome.Local.TheVariants as local
use Rattle.causal_model.proofs.Delivery.Limits.{counts_are_within}
use Rattle.replica_core.specs.Rules.{IsDraft, StandsFor, fields_of}
use Rattle.replica_core.specs.Standing.{Fields, Standing}
use Rattle.replica_core.specs.declared.replica.Replica.{Replica}
use Rattle.replica_core.proofs.Stands.{chapter_of, carried_of}

-- ---- the tests

module _ (f : Fields) (s : State) (stands : Standing f s) where
  -- a member that hasn't sent all that it may has sent fewer
  pub more_may_be_sent : (count_of s.history.present.messages f.me == f.limit) ≡ false → count_of s.history.present.messages f.me < f.limit
  more_may_be_sent more =
      let within = counts_are_within f.n f.w f.me f.limit f.me s.history.present.messages (chapter_of f s stands) (carried_of f s stands) in
      let other = eqb-false (count_of s.history.present.messages f.me) f.limit more in
      omega (arith, within, other)

  -- the rules' answers are those by the fields
  pub sends_in_state : (u : Update) → sending f.n f.w f.limit f.me s.history.present.messages u ≡ (local_rule f.w f.limit u s).0
  sends_in_state u = ap₂ (λ n me. sending n f.w f.limit me s.history.present.messages u) (sym stands.of_store) (sym stands.of_member)

  pub beats_in_state : beating f.n f.w f.limit f.me s.history.present.messages ≡ (beat_rule f.w f.limit s).0
  beats_in_state = ap₂ (λ n me. beating n f.w f.limit me s.history.present.messages) (sym stands.of_store) (sym stands.of_member)

-- and these are told by the tests in their order: whether the window is full, and whether all was sent
module _ (n w limit me : ℕ) (messages : List Message) (full all : Bool) (is_all : all ≡ (count_of messages me == limit)) where
  pub sends_by_tests : (u : Update) → full ≡ (unstable_operations n me messages me == w)
      → (if full then local.Busy else if all then local.End else local.Sent (own_message n me messages (op.Update u))) ≡ sending n w limit me messages u
  sends_by_tests u is_full = ap₂ (λ full all. if full then local.Busy else if all then local.End else local.Sent (own_message n me messages (op.Update u))) is_full is_all

  pub beats_by_tests : (due : Bool) → due ≡ is_noop_due me messages → full ≡ (unstable_noops n me messages me == noop_window n w)
      → (if not due then beat.Quiet else if full then beat.Held else if all then beat.End else beat.Sent (own_message n me messages op.NoOp)) ≡ beating n w limit me messages
  beats_by_tests due is_due is_full =
      ap (λ due. if not due then beat.Quiet else if full then beat.Held else if all then beat.End else beat.Sent (own_message n me messages op.NoOp)) is_due
      ∙ ap₂ (λ full all. if not (is_noop_due me messages) then beat.Quiet else if full then beat.Held else if all then beat.End else beat.Sent (own_message n me messages op.NoOp)) is_full is_all

-- so at a replica: what is answered where the window is full or all was sent, and that an update is sent where neither holds
pub answered_by_tests : (r : Replica) (s : State) → StandsFor r s → (u : Update) (full all : Bool)
    → full ≡ (unstable_operations r.n r.me s.history.present.messages r.me == r.w) → all ≡ (count_of s.history.present.messages r.me == r.limit)
    → (if full then local.Busy else if all then local.End else local.Sent (own_message r.n r.me s.history.present.messages (op.Update u))) ≡ (local_rule r.w r.limit u s).0
answered_by_tests r s stands u full all is_full is_all =
    sends_by_tests r.n r.w r.limit r.me s.history.present.messages full all is_all u is_full ∙ sends_in_state (fields_of r) s stands u

-- what the rule gives with a valid operation can be sent next
pub is_draft : (r : Replica) (s : State) (o : Op) (m : Message) → m.op ≡ o → RuleGives r.n r.w r.limit r.me s.history.present.messages m o → IsTrue (is_valid o) → IsDraft r m s
is_draft r s o m same gives valid = record {
  given = subst (RuleGives r.n r.w r.limit r.me s.history.present.messages m) (sym same) gives;
  valid = subst (λ (o : Op). IsTrue (is_valid o)) (sym same) valid;
}
