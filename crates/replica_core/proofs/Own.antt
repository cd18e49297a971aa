-- The next own message of fields that stand for a state.
use Rattle.std.proofs.Common.{◌≡◌, ◌<◌, IsTrue, length, sym, ap, ap₂, subst, ◌∙◌, arith, eq-eqb, lt-ltb}
use denote.Struct.Props.{props}
use Rattle.std.proofs.Math.Logic.{∥∥₁_elim}
use Rattle.std.proofs.lemmas.Bool.{and_from}
use Rattle.op_base.specs.Timestamp.{entry}
use Rattle.op_base.specs.Message.{fits}
use Rattle.op_base.specs.Valid.{is_valid}
use Rattle.op_base.specs.declared.message.Message.{Message}
use Rattle.op_base.specs.declared.operation.Op.{Op}
use Rattle.causal_model.specs.Counts.{count_of, next_tag, is_carried}
use Rattle.causal_model.specs.State.{with_own, State}
use Rattle.causal_model.specs.Sending.{HasRoom, own_message, RuleGives}
use Rattle.causal_model.specs.States.{IsState}
use Rattle.causal_model.proofs.Delivery.Counts.{length-next_tag, number-own_message}
use Rattle.causal_model.proofs.States.Journals.{IsSent, given_is_sent}
use Rattle.causal_model.proofs.Delivery.Limits.{counts_are_within, own_message_is_carried}
use Rattle.causal_model.proofs.States.States.{own_keeps_state}
use Rattle.replica_core.specs.Rules.{StandsFor, SameSettings, IsDraft, fields_of}
use Rattle.replica_core.specs.Standing.{Fields, Standing}
use Rattle.replica_core.specs.declared.replica.Replica.{Replica}
use Rattle.replica_core.proofs.Stands.{member_of, chapter_of, carried_of}

-- a message that the rule of sending gives
module _ (f : Fields) (s : State) (stands : Standing f s) (m : Message) (gives : RuleGives f.n f.w f.limit f.me s.history.present.messages m m.op) where
  given : IsSent f.n f.w f.limit f.me s.history.present.messages m.op m
  given = given_is_sent f.n f.w f.limit f.me s.history.present.messages m m.op (member_of f s stands) (chapter_of f s stands) gives

  more_of : count_of s.history.present.messages f.me < f.limit
  more_of = omega (arith, given.below, counts_are_within f.n f.w f.me f.limit f.me s.history.present.messages (chapter_of f s stands) (carried_of f s stands))

  module _ (valid : IsTrue (is_valid m.op)) where
    -- with it the state is one that a replica can be in
    is_state_with : IsState f.w f.limit (with_own s m)
    is_state_with =
        let messages = s.history.present.messages in
        let own : m ≡ own_message s.history.present.n s.history.present.me messages m.op
        = given.own ∙ ap₂ (λ n me. own_message n me messages m.op) (sym stands.of_store) (sym stands.of_member) in
        let has : HasRoom s.history.present.n f.w s.history.present.me messages m.op
        = subst (λ n. HasRoom n f.w s.history.present.me messages m.op) (sym stands.of_store) (subst (λ me. HasRoom f.n f.w me messages m.op) (sym stands.of_member) given.room) in
        subst (λ own. IsState f.w f.limit (with_own s own)) (sym own)
        (own_keeps_state f.w f.limit s m.op stands.is_state has valid (subst (λ me. count_of messages me < f.limit) (sym stands.of_member) more_of))

    -- and it can be carried
    is_carried_of : IsTrue (is_carried f.limit m)
    is_carried_of =
        subst (λ own. IsTrue (is_carried f.limit own)) (sym given.own)
        (own_message_is_carried f.n f.w f.me f.limit s.history.present.messages m.op (member_of f s stands) (chapter_of f s stands) (carried_of f s stands) more_of valid)

-- the next own message is one of the store
pub own_fits : (f : Fields) (s : State) (stands : Standing f s) (o : Op) → IsTrue (fits f.n (own_message f.n f.me s.history.present.messages o))
own_fits f s stands o =
    let messages = s.history.present.messages in
    let member = member_of f s stands in
    and_from _ _ (and_from _ _ (eq-eqb (length (next_tag f.n f.me messages)) f.n (length-next_tag f.n f.me messages)) (lt-ltb f.me f.n member))
    (lt-ltb 0 (entry (next_tag f.n f.me messages) f.me) (omega (arith, number-own_message f.n f.me messages o member)))

-- what can be sent next in every state of a replica
module _ (r : Replica) (m : Message) (draft : (s : State) → StandsFor r s → IsDraft r m s) where
  own_in : (s : State) → StandsFor r s → m ≡ own_message r.n r.me s.history.present.messages m.op
  own_in s stands = (given (fields_of r) s stands m (draft s stands).given).own

  pub draft_is_own : m.origin ≡ r.me
  draft_is_own = ∥∥₁_elim r.stands (search props) (λ x. ap (λ (m : Message). m.origin) (own_in x.0 x.1))

  pub draft_fits : IsTrue (fits r.n m)
  draft_fits = ∥∥₁_elim r.stands (search props) (λ x. subst (λ m. IsTrue (fits r.n m)) (sym (own_in x.0 x.1)) (own_fits (fields_of r) x.0 x.1 m.op))

  pub draft_is_carried : IsTrue (is_carried r.limit m)
  draft_is_carried = ∥∥₁_elim r.stands (search props) (λ x. is_carried_of (fields_of r) x.0 x.1 m (draft x.0 x.1).given (draft x.0 x.1).valid)

  pub draft_is_state : (s : State) → StandsFor r s → IsState r.w r.limit (with_own s m)
  draft_is_state s stands = is_state_with (fields_of r) s stands m (draft s stands).given (draft s stands).valid

  -- also where a replica of the same settings sends it
  pub draft_is_state_of : (new : Replica) → SameSettings r new → (s : State) → StandsFor r s → IsState new.w new.limit (with_own s m)
  draft_is_state_of new same s stands =
      subst (λ w. IsState w new.limit (with_own s m)) (sym same.w) (subst (λ limit. IsState r.w limit (with_own s m)) (sym same.limit) (draft_is_state s stands))
