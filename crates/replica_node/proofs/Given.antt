-- A message that the rule of sending gives at a state: it is one of the store, it can be carried there, and its note is a
-- group.
use Rattle.std.proofs.Common.{ℕ, ◌&&◌, ◌==◌, ◌<◌, nat_lt, IsTrue, ◌∷◌, [], length, sym, subst, arith, eq-eqb, lt-ltb}
use Rattle.std.proofs.lemmas.Bool.{and_from}
use Rattle.op_base.specs.Message.{number, fits}
use Rattle.op_base.specs.Valid.{is_valid}
use Rattle.op_base.specs.declared.message.Message.{Message}
use Rattle.op_base.specs.declared.operation.Op.{Op}
use Rattle.op_base.specs.declared.operation.Op.TheVariants as op
use Rattle.causal_model.specs.Counts.{count_of, is_carried}
use Rattle.causal_model.specs.Journal.{IsGroup, sent, beaten}
use Rattle.causal_model.specs.Sending.{own_message, RuleGives}
use Rattle.causal_model.specs.State.{State}
use Rattle.causal_model.specs.States.{IsState}
use Rattle.causal_model.specs.declared.note.Note.TheVariants.{Sent}
use Rattle.causal_model.proofs.Delivery.Counts.{length-next_tag, number-own_message}
use Rattle.causal_model.proofs.Events.Histories.{IsHistory-from_test, IsLimited-from_test}
use Rattle.causal_model.proofs.States.Journals.{IsSent, given_is_sent}
use Rattle.causal_model.proofs.Delivery.Limits.{own_message_is_carried, counts_are_within}
use Rattle.replica_core.specs.Rules.{StandsFor, IsDraft}
use Rattle.replica_core.specs.declared.replica.Replica.{Replica}

module _ (w limit : ℕ) (s : State) (m : Message) (is : IsState w limit s) (given : RuleGives s.history.present.n w limit s.history.present.me s.history.present.messages m m.op) where
  -- it is the next own message
  is_own : IsSent s.history.present.n w limit s.history.present.me s.history.present.messages m.op m
  is_own =
      let h = s.history.present in
      let was = IsHistory-from_test w s.history is.is_history in
      given_is_sent h.n w limit h.me h.messages m m.op was.member was.chapter given

  given_fits : IsTrue (fits s.history.present.n m)
  given_fits =
      let h = s.history.present in
      let member = (IsHistory-from_test w s.history is.is_history).member in
      let own = own_message h.n h.me h.messages m.op in
      subst (λ m. IsTrue (fits h.n m)) (sym is_own.own)
      (and_from (length own.tag == h.n && nat_lt h.me h.n) (nat_lt 0 (number own))
      (and_from (length own.tag == h.n) (nat_lt h.me h.n) (eq-eqb (length own.tag) h.n (length-next_tag h.n h.me h.messages)) (lt-ltb h.me h.n member))
      (lt-ltb 0 (number own) (omega (arith, number-own_message h.n h.me h.messages m.op member))))

  given_is_carried : IsTrue (is_valid m.op) → IsTrue (is_carried limit m)
  given_is_carried valid =
      let h = s.history.present in
      let was = IsHistory-from_test w s.history is.is_history in
      let had = (IsLimited-from_test limit s.history is.is_limited).present in
      let below : count_of h.messages h.me < limit = omega (arith, is_own.below, counts_are_within h.n w h.me limit h.me h.messages was.chapter had) in
      subst (λ m. IsTrue (is_carried limit m)) (sym is_own.own) (own_message_is_carried h.n w h.me limit h.messages m.op was.member was.chapter had below valid)

  given_is_group : IsTrue (is_valid m.op) → IsGroup w limit s (Sent m ∷ [])
  given_is_group valid = by m.op given valid where
    by : (o : Op) → RuleGives s.history.present.n w limit s.history.present.me s.history.present.messages m o → IsTrue (is_valid o) → IsGroup w limit s (Sent m ∷ [])
    by op.NoOp given valid = beaten m given
    by (op.Update u) given valid = sent u m valid given

-- so it is of a message that was drafted at a replica which stands for the state
module _ (r : Replica) (s : State) (m : Message) (stands : StandsFor r s) (draft : IsDraft r m s) where
  given_there : RuleGives s.history.present.n r.w r.limit s.history.present.me s.history.present.messages m m.op
  given_there =
      subst (λ n. RuleGives n r.w r.limit s.history.present.me s.history.present.messages m m.op) (sym stands.of_store)
      (subst (λ me. RuleGives r.n r.w r.limit me s.history.present.messages m m.op) (sym stands.of_member) draft.given)

  pub draft_fits : IsTrue (fits r.n m)
  draft_fits = subst (λ n. IsTrue (fits n m)) stands.of_store (given_fits r.w r.limit s m stands.is_state given_there)

  pub draft_is_carried : IsTrue (is_carried r.limit m)
  draft_is_carried = given_is_carried r.w r.limit s m stands.is_state given_there draft.valid

  pub draft_is_group : IsGroup r.w r.limit s (Sent m ∷ [])
  draft_is_group = given_is_group r.w r.limit s m stands.is_state given_there draft.valid
