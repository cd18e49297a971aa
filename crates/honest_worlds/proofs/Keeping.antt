-- One replica of an honest world changes: it stays honest where the replica receives what was sent, or sends by the rule.
use Rattle.std.proofs.Common.{◌≡◌, ◌≢◌, ℕ, ◌<◌, All, true, Contains, List, [], ◌∷◌, ◌++◌, length, refl, sym, ap, subst, ◌∙◌, inl, inr, arith, length-set}
use Rattle.std.specs.List.{fold}
use Rattle.std.proofs.lemmas.Bool.{cases_eq}
use Rattle.std.proofs.lemmas.List.Elements.{All-head, All-tail, All-nil, All-push, All-weaker, All-append, Contains-append_left, Contains-push}
use Rattle.op_base.specs.declared.message.Message.{Message}
use Rattle.op_base.specs.declared.outcome.Step.{Step}
use Rattle.causal_model.specs.State.{with_own, State}
use Rattle.causal_model.specs.Receiving.{steps_of, receive_rule}
use Rattle.causal_model.specs.Sending.{KeepsRule}
use Rattle.causal_model.specs.declared.outcome.Beat.TheVariants as beat
use Rattle.world_model.specs.Honest.{IsSentMessage, IsHonest, KeepsHonest, history_of, delivered_by}
use Rattle.world_model.specs.Offering.{Offered, none_offered, offered_more, outbox_in, offered_between, resend_at}
use Rattle.world_model.specs.World.{PlainWorld, size_of, replica_of, sent_by, with_state, with_sent, beat_at, offer_at}
use Rattle.world_model.specs.Worlds.{KeepsWorld}
use Rattle.world_model.proofs.Commands.{outbox_is_offered, beat_is_sent}
use Rattle.world_model.proofs.Received.{receives}
use Rattle.world_model.proofs.Sends.{IsGiven, noop_is_given}
use Rattle.world_model.proofs.Worlds.{replica_here, replica_there, sent_here, sent_there, state_changes}
use Rattle.honest_worlds.proofs.Epochs.{HaveOnePast, pasts_stay}
use Rattle.honest_worlds.proofs.SentMessages.{sent_fits, outbox_was_sent}
use Rattle.honest_worlds.proofs.OnlySent.{keeps_rule-push, HasOnlySent, replica_has_only_sent, IsReceived, receives_sent}
use Rattle.world_model.specs.Settling.{is_delivery}

-- ---- one replica is changed

module _ (world : PlainWorld) (r : ℕ) (honest : IsHonest world) (l : r < size_of world) where
  -- where no epoch ends at the replica, one past stays
  one_past_stays : (s : State) → s.history.past ≡ (replica_of world r).history.past → HaveOnePast (with_state world r s)
  one_past_stays s same = pasts_stay world (with_state world r s) honest (length-set world.replicas r s) (λ q. elim (cases_eq q r) [
    | inl e ↦ subst (λ y. (history_of (with_state world r s) y).past ≡ (history_of world y).past) (sym e) (ap (λ g. g.history.past) (replica_here world r l s) ∙ same)
    | inr ne ↦ ap (λ g. g.history.past) (replica_there world r l s q ne)
  ])

  -- a replica comes to a state by messages that were sent
  pub sent_state_keeps_honest : (s : State) → HasOnlySent world r s → KeepsWorld world (with_state world r s) → KeepsHonest world (with_state world r s)
  sent_state_keeps_honest s fed kept =
      let after = with_state world r s in
      let here : replica_of after r ≡ s = replica_here world r l s in
      let there : (q : ℕ) → q ≢ r → replica_of after q ≡ replica_of world q = replica_there world r l s in
      let back : (q : ℕ) → q < size_of after → q < size_of world = λ q k. omega (arith, k, kept.size) in (
        record {
          is_world = kept.is_world;
          by_rule = λ q k. subst (λ u. KeepsRule u world.w world.limit q (replica_of after q).history.present.messages) (sym kept.size) (elim (cases_eq q r) [
            | inl e ↦ subst (λ y. KeepsRule (size_of world) world.w world.limit y (replica_of after y).history.present.messages) (sym e) (subst (λ g. KeepsRule (size_of world) world.w world.limit r g.history.present.messages) (sym here) fed.rule)
            | inr ne ↦ subst (λ g. KeepsRule (size_of world) world.w world.limit q g.history.present.messages) (sym (there q ne)) (honest.by_rule q (back q k))
          ]);
          delivered = λ q k. elim (cases_eq q r) [
            | inl e ↦ subst (λ y. All (IsSentMessage after) (replica_of after y).history.present.messages) (sym e) (subst (λ g. All (IsSentMessage after) g.history.present.messages) (sym here) fed.delivered)
            | inr ne ↦ subst (λ g. All (IsSentMessage after) g.history.present.messages) (sym (there q ne)) (honest.delivered q (back q k))
          ];
          early = λ q k. elim (cases_eq q r) [
            | inl e ↦ subst (λ y. All (IsSentMessage after) (replica_of after y).early) (sym e) (subst (λ g. All (IsSentMessage after) g.early) (sym here) fed.early)
            | inr ne ↦ subst (λ g. All (IsSentMessage after) g.early) (sym (there q ne)) (honest.early q (back q k))
          ];
          one_past = one_past_stays s fed.past;
        },
        kept,
      )

  -- a replica sends what the rule gives
  pub sent_keeps_honest : (m : Message) → IsGiven (size_of world) world.w world.limit r (delivered_by world r) m → KeepsWorld world (with_sent world r m) → KeepsHonest world (with_sent world r m)
  sent_keeps_honest m given kept =
      let after = with_sent world r m in
      let s = with_own (replica_of world r) m in
      let here : replica_of after r ≡ s = replica_here world r l s in
      let there : (q : ℕ) → q ≢ r → replica_of after q ≡ replica_of world q = replica_there world r l s in
      let back : (q : ℕ) → q < size_of after → q < size_of world = λ q k. omega (arith, k, kept.size) in
      let inside : r < length world.sent = omega (arith, l, honest.is_world.of_each) in
      let still : (e : Message) → IsSentMessage world e → IsSentMessage after e = λ e sent. elim (cases_eq e.origin r) [
        | inl o ↦ subst (λ k. Contains (sent_by after k) e) (sym o) (subst (λ ms. Contains ms e) (sym (sent_here world r l m inside)) (Contains-append_left (sent_by world r) (m ∷ []) e (subst (λ k. Contains (sent_by world k) e) o sent)))
        | inr ne ↦ subst (λ ms. Contains ms e) (sym (sent_there world r l m e.origin ne)) sent
      ] in
      let now : IsSentMessage after m = subst (λ k. Contains (sent_by after k) m) (sym given.own) (subst (λ ms. Contains ms m) (sym (sent_here world r l m inside)) (Contains-push (sent_by world r) m)) in
      let all : (ms : List Message) → All (IsSentMessage world) ms → All (IsSentMessage after) ms = λ ms each. All-weaker (IsSentMessage world) (IsSentMessage after) still ms each in (
        record {
          is_world = kept.is_world;
          by_rule = λ q k. subst (λ u. KeepsRule u world.w world.limit q (replica_of after q).history.present.messages) (sym kept.size) (elim (cases_eq q r) [
            | inl e ↦ subst (λ y. KeepsRule (size_of world) world.w world.limit y (replica_of after y).history.present.messages) (sym e) (subst (λ g. KeepsRule (size_of world) world.w world.limit r g.history.present.messages) (sym here) (keeps_rule-push (size_of world) world.w world.limit r (delivered_by world r) m (honest.by_rule r l) (λ _. given.by_rule)))
            | inr ne ↦ subst (λ g. KeepsRule (size_of world) world.w world.limit q g.history.present.messages) (sym (there q ne)) (honest.by_rule q (back q k))
          ]);
          delivered = λ q k. elim (cases_eq q r) [
            | inl e ↦ subst (λ y. All (IsSentMessage after) (replica_of after y).history.present.messages) (sym e) (subst (λ g. All (IsSentMessage after) g.history.present.messages) (sym here) (All-push (IsSentMessage after) (delivered_by world r) m (all (delivered_by world r) (honest.delivered r l)) now))
            | inr ne ↦ subst (λ g. All (IsSentMessage after) g.history.present.messages) (sym (there q ne)) (all (delivered_by world q) (honest.delivered q (back q k)))
          ];
          early = λ q k. elim (cases_eq q r) [
            | inl e ↦ subst (λ y. All (IsSentMessage after) (replica_of after y).early) (sym e) (subst (λ g. All (IsSentMessage after) g.early) (sym here) (all (replica_of world r).early (honest.early r l)))
            | inr ne ↦ subst (λ g. All (IsSentMessage after) g.early) (sym (there q ne)) (all (replica_of world q).early (honest.early q (back q k)))
          ];
          one_past = one_past_stays s refl;
        },
        kept,
      )

  -- ---- offers

  pub offering_sent_keeps_honest : (m : Message) → IsSentMessage world m → KeepsHonest world (offer_at r m world).1
  offering_sent_keeps_honest m sent =
      let s = replica_of world r in
      let replica = honest.is_world.replicas r l in
      let fit = sent_fits world m honest sent in
      let got = receives_sent world honest r l s m (replica_has_only_sent world r honest l) replica.none_is_next sent fit.0 fit.1 in
      let later = receives (size_of world) world.w world.limit r s replica m fit.0 fit.1 in
      sent_state_keeps_honest (receive_rule world.w m s).1 got.fed (state_changes world r _ honest.is_world l later.is_replica later.own)

  both_none : (xs ys : List Step) → xs ++ ys ≡ [] → (xs ≡ []) × (ys ≡ [])
  both_none [] ys e = (refl, e)
  both_none (x ∷ xs) ys e = absurd (omega (arith, ap length e))

  pub offers_are_received : (s : State) (o : Offered) (ms : List Message) → All (IsSentMessage world) ms → IsReceived world honest r l s o.steps o.state
      → IsReceived world honest r l s (fold (offered_more world.w) o ms).steps (fold (offered_more world.w) o ms).state
  offers_are_received s o [] sent is = is
  offers_are_received s o (m ∷ ms) sent is =
      let here = All-head (IsSentMessage world) m ms sent in
      let fit = sent_fits world m honest here in
      let got = receives_sent world honest r l o.state m is.fed is.none here fit.0 fit.1 in
      let made = steps_of (receive_rule world.w m o.state).0 in
      offers_are_received s (offered_more world.w o m) ms (All-tail (IsSentMessage world) m ms sent) (record {
        fed = got.fed;
        none = got.none;
        deliver = All-append (λ (step : Step). is_delivery step ≡ true) o.steps made is.deliver got.deliver;
        still = λ none. let both = both_none o.steps made none in got.still both.1 ∙ is.still both.0;
      })

  pub outbox_is_received : (k : ℕ) → IsReceived world honest r l (replica_of world r) (offered_between world r k).steps (offered_between world r k).state
  outbox_is_received k =
      offers_are_received (replica_of world r) (none_offered (replica_of world r)) (outbox_in (replica_of world k)) (outbox_was_sent world k honest)
      (record { fed = replica_has_only_sent world r honest l; none = (honest.is_world.replicas r l).none_is_next; deliver = All-nil (λ (step : Step). is_delivery step ≡ true); still = λ _. refl })

  pub resending_keeps_honest : (k : ℕ) → KeepsHonest world (resend_at r k world).1
  resending_keeps_honest k =
      let later = outbox_is_offered world r k honest.is_world l in
      sent_state_keeps_honest (offered_between world r k).state (outbox_is_received k).fed (state_changes world r _ honest.is_world l later.is_replica later.own)

  -- ---- sends

  pub beat_keeps_honest : (m : Message) → (beat_at r world).0 ≡ beat.Sent m → KeepsHonest world (with_sent world r m)
  beat_keeps_honest m e =
      sent_keeps_honest m (noop_is_given (size_of world) world.w world.limit r (replica_of world r) m (honest.is_world.replicas r l) e) (beat_is_sent world r m honest.is_world l e)
