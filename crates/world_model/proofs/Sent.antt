-- What a member of a world sent.
use Rattle.std.proofs.Common.{◌≡◌, ℕ, ◌<◌, ◌==◌, Bool, All, IsTrue, length, get_or, sym, ap, subst, ◌∙◌, Some}
use Rattle.std.specs.List.{filter}
use Rattle.std.proofs.lemmas.Bool.{eqb-true}
use Rattle.std.proofs.lemmas.List.Elements.{All-contains, All-filter, All-weaker, filter_passes}
use Rattle.std.proofs.lemmas.List.Sums.{length-filter, AllPass-from_list_all}
use Rattle.op_base.specs.Message.{fits}
use Rattle.op_base.specs.declared.message.Message.{Message}
use Rattle.causal_model.specs.Chapter.{is_chapter}
use Rattle.causal_model.specs.Counts.{is_carried, are_carried}
use Rattle.causal_model.specs.State.{State}
use Rattle.causal_model.specs.Early.{has_id}
use Rattle.causal_model.proofs.Theory.Finds.{found}
use Rattle.causal_model.proofs.Events.Histories.{IsHistory-from_test, IsLimited-from_test}
use Rattle.world_model.specs.Laws.{SentAreOwn, SentIsNumbered}
use Rattle.world_model.specs.World.{PlainWorld, size_of, replica_of, sent_by, sent_message}
use Rattle.world_model.specs.Worlds.{IsReplica, own_of, IsWorld}
use Rattle.world_model.proofs.Messages.{AreNumbered, chapter_fits, own_are_numbered, found_by_number}

-- what the messages of a replica are
module _ {epoch : ℕ} (n w limit r : ℕ) (s : State) (is : IsReplica n w limit epoch r s) where
  pub is_replicas_chapter : IsTrue (is_chapter n w r s.history.present.messages)
  is_replicas_chapter =
      let t = (IsHistory-from_test w s.history is.is_state.is_history).chapter in
      subst (λ me. IsTrue (is_chapter n w me s.history.present.messages)) is.of_member (subst (λ k. IsTrue (is_chapter k w s.history.present.me s.history.present.messages)) is.of_store t)

  pub messages_are_carried : IsTrue (are_carried limit s.history.present.messages)
  messages_are_carried = (IsLimited-from_test limit s.history is.is_state.is_limited).present

  pub messages_fit : All (λ m. IsTrue (fits n m)) s.history.present.messages
  messages_fit = chapter_fits n w r s.history.present.messages is_replicas_chapter

  pub messages_carried : All (λ m. IsTrue (is_carried limit m)) s.history.present.messages
  messages_carried = AllPass-from_list_all (is_carried limit) s.history.present.messages messages_are_carried

  -- its own ones are those of its member
  own_of_member : own_of s ≡ filter (λ m. m.origin == r) s.history.present.messages
  own_of_member = ap (λ me. filter (λ m. m.origin == me) s.history.present.messages) is.of_member

-- what a message of a member is that was sent
abbrev pub IsSent : ℕ → ℕ → ℕ → Message → Type 0
IsSent n limit k m = (m.origin ≡ k) × IsTrue (fits n m) × IsTrue (is_carried limit m)

module _ (world : PlainWorld) (k : ℕ) (is : IsWorld world) (l : k < size_of world) where
  sent_is_filtered : sent_by world k ≡ filter (λ m. m.origin == k) (replica_of world k).history.present.messages
  sent_is_filtered = is.sent k l ∙ own_of_member (size_of world) world.w world.limit k (replica_of world k) (is.replicas k l)

  are_sent : All (IsSent (size_of world) world.limit k) (sent_by world k)
  are_sent =
      let s = replica_of world k in
      let ms = s.history.present.messages in
      let own : Message → Bool = λ m. m.origin == k in
      let fit = All-filter own (λ m. IsTrue (fits (size_of world) m)) ms (messages_fit (size_of world) world.w world.limit k s (is.replicas k l)) in
      let carried = All-filter own (λ m. IsTrue (is_carried world.limit m)) ms (messages_carried (size_of world) world.w world.limit k s (is.replicas k l)) in
      let each : All (IsSent (size_of world) world.limit k) (filter own ms) = λ i d b. (eqb-true (get_or (filter own ms) i d).origin k (filter_passes own ms i d b), fit i d b, carried i d b) in
      subst (All (IsSent (size_of world) world.limit k)) (sym sent_is_filtered) each

pub sent_are_own : SentAreOwn
sent_are_own world k is l = (
  ap length (sent_is_filtered world k is l) ∙ length-filter (λ m. m.origin == k) (replica_of world k).history.present.messages,
  are_sent world k is l,
)

pub sent_is_numbered : SentIsNumbered
sent_is_numbered world k seq is l =
    let s = replica_of world k in
    let own = All-weaker (IsSent (size_of world) world.limit k) (λ m. m.origin ≡ k) (λ m parts. parts.0) (sent_by world k) (are_sent world k is l) in
    let numbered = own_are_numbered (size_of world) world.w k k s.history.present.messages (is_replicas_chapter (size_of world) world.w world.limit k s (is.replicas k l)) in
    found_by_number k seq (sent_by world k) own (subst (AreNumbered 1) (sym (sent_is_filtered world k is l)) numbered)

-- a sent message that is there is one of its member
pub sent_message_is_sent : (world : PlainWorld) (k seq : ℕ) (m : Message) → IsWorld world → k < size_of world → sent_message world k seq ≡ Some m → IsSent (size_of world) world.limit k m
sent_message_is_sent world k seq m is l e =
    All-contains (IsSent (size_of world) world.limit k) (sent_by world k) m (are_sent world k is l) (found (has_id (record { origin = k; seq = seq })) (sent_by world k) m e).0
