-- A round of an honest world is honest in its midst; where a message is missing somewhere it moves.
use Rattle.std.proofs.Common.{◌≡◌, ℕ, ◌<◌, All, Bool, true, false, ◌||◌, ◌==◌, Contains, get_or, refl, sym, ap, subst, ◌∙◌, inl, inr, if◌then◌else◌, arith}
use Rattle.std.specs.List.{list_any}
use Rattle.std.proofs.lemmas.Bool.{cases_eq, cases_Bool, cond-false, ne_eqb, or_left, or_right, false≢true}
use Rattle.std.proofs.lemmas.List.Elements.{All-contains}
use Rattle.std.proofs.lemmas.List.FromFn.{length-range_with_len, get_or-range_with_len}
use Rattle.op_base.specs.declared.message.Message.{Message}
use Rattle.causal_model.specs.Counts.{members, count_of, counts}
use Rattle.causal_model.specs.declared.outcome.Beat.{Beat}
use Rattle.causal_model.specs.declared.outcome.Beat.TheVariants as beat
use Rattle.causal_model.proofs.States.Early.{IsDeliverable}
use Rattle.causal_model.proofs.Theory.Lists.{fold_has}
use Rattle.world_model.specs.Honest.{IsSentMessage, IsHonest, delivered_by}
use Rattle.world_model.specs.Offering.{offered_between}
use Rattle.world_model.specs.Settling.{Round, is_delivery, with_offered, after_offer, after_offers, with_beat, after_beat, offers_made, round_of}
use Rattle.world_model.specs.World.{PlainWorld, size_of, with_state, with_sent, beat_at}
use Rattle.world_model.specs.Worlds.{KeepsWorld}
use Rattle.world_model.proofs.Commands.{outbox_is_offered}
use Rattle.world_model.proofs.Worlds.{replica_here, replica_there, world_keeps_itself, kept_twice, state_changes}
use Rattle.honest_worlds.proofs.Lists.{fold_reaches, member_there}
use Rattle.honest_worlds.proofs.SentMessages.{sent_is_delivered, sender_is_member}
use Rattle.honest_worlds.proofs.Keeping.{sent_state_keeps_honest, outbox_is_received, beat_keeps_honest}
use Rattle.honest_worlds.proofs.Missing.{IsMissing, outbox_delivers, none_delivered}

-- ---- rounds

-- In the midst of a round the world is an honest one of the store; where nothing was moved, each replica has the messages
-- that it had.
pub record IsHonestRound (world : PlainWorld) (round : Round) : Type 0 where
  pub honest : IsHonest round.world
  pub kept : KeepsWorld world round.world
  pub same : round.moved ≡ false → (q : ℕ) → q < size_of world → delivered_by round.world q ≡ delivered_by world q

abbrev pub HasMoved : Round → Type 0
HasMoved round = round.moved ≡ true

left_false : (a b : Bool) → (a || b) ≡ false → (a ≡ false) × (b ≡ false)
left_false false b f = (refl, f)
left_false true b f = absurd (false≢true (sym f))

module _ (world : PlainWorld) where
  pub offer_keeps : (r k : ℕ) → r < size_of world → (round : Round) → IsHonestRound world round → IsHonestRound world (after_offer r round k)
  offer_keeps r k l round is = elim (r == k) as (λ own. IsHonestRound world (if own then round else with_offered round r (offered_between round.world r k))) [
    | true ↦ is
    | false ↦
        let here : r < size_of round.world = omega (arith, l, is.kept.size) in
        let o = offered_between round.world r k in
        let got = outbox_is_received round.world r is.honest here k in
        let later = outbox_is_offered round.world r k is.honest.is_world here in
        let kept = sent_state_keeps_honest round.world r is.honest here o.state got.fed (state_changes round.world r o.state is.honest.is_world here later.is_replica later.own) in
        record {
          honest = kept.0;
          kept = kept_twice world round.world (with_state round.world r o.state) is.kept kept.1;
          same = λ still q lq.
              let parts = left_false round.moved (list_any is_delivery o.steps) still in
              elim (cases_eq q r) [
                | inl e ↦ subst (λ y. delivered_by (with_state round.world r o.state) y ≡ delivered_by world y) (sym e) (ap (λ s. s.history.present.messages) (replica_here round.world r here o.state) ∙ got.still (none_delivered o.steps got.deliver parts.1) ∙ is.same parts.0 r l)
                | inr ne ↦ ap (λ s. s.history.present.messages) (replica_there round.world r here o.state q ne) ∙ is.same parts.0 q lq
              ];
        }
  ]

  offer_stays_moved : (r : ℕ) (round : Round) (k : ℕ) → HasMoved round → HasMoved (after_offer r round k)
  offer_stays_moved r round k moved = elim (r == k) as (λ own. HasMoved (if own then round else with_offered round r (offered_between round.world r k))) [ true ↦ moved | false ↦ or_left _ _ moved ]

  pub each_member : (P : Round → Type 0) (f : Round → ℕ → Round) (u : ℕ) → ((k : ℕ) → k < u → (round : Round) → P round → P (f round k)) → All (λ k. (round : Round) → P round → P (f round k)) (members u)
  each_member P f u each i d low round p = each (get_or (members u) i d) (omega (arith, low, length-range_with_len 0 u, get_or-range_with_len 0 u i d (omega (arith, low, length-range_with_len 0 u)))) round p

  pub offers_keep : (r : ℕ) → r < size_of world → (round : Round) → IsHonestRound world round → IsHonestRound world (after_offers round r)
  offers_keep r l round is =
      fold_has (IsHonestRound world) (after_offer r) round (members (size_of round.world)) is (each_member (IsHonestRound world) (after_offer r) (size_of round.world) (λ k low. offer_keeps r k l))

  offers_stay_moved : (round : Round) (r : ℕ) → HasMoved round → HasMoved (after_offers round r)
  offers_stay_moved round r moved = fold_has HasMoved (after_offer r) round (members (size_of round.world)) moved (λ i d low c h. offer_stays_moved r c (get_or (members (size_of round.world)) i d) h)

  pub beat_keeps : (r : ℕ) → r < size_of world → (round : Round) → IsHonestRound world round → IsHonestRound world (after_beat round r)
  beat_keeps r l round is = by (beat_at r round.world).0 refl where
    by : (answer : Beat) → (beat_at r round.world).0 ≡ answer → IsHonestRound world (with_beat round r answer)
    by beat.Quiet e = is
    by beat.Held e = is
    by beat.End e = is
    by beat.NoMemory e = is
    by (beat.Sent m) e =
        let kept = beat_keeps_honest round.world r is.honest (omega (arith, l, is.kept.size)) m e in
        record { honest = kept.0; kept = kept_twice world round.world (with_sent round.world r m) is.kept kept.1; same = λ still. absurd (false≢true (sym still)) }

  pub beat_stays_moved : (round : Round) (r : ℕ) → HasMoved round → HasMoved (after_beat round r)
  beat_stays_moved round r moved = by (beat_at r round.world).0 where
    by : (answer : Beat) → HasMoved (with_beat round r answer)
    by beat.Quiet = moved
    by beat.Held = moved
    by beat.End = moved
    by beat.NoMemory = moved
    by (beat.Sent m) = refl

  pub begin_is_round : IsHonest world → IsHonestRound world (record { world = world; moved = false })
  begin_is_round honest = record { honest = honest; kept = world_keeps_itself world honest.is_world; same = λ _ q _. refl }

  pub offers_are_round : IsHonest world → IsHonestRound world (offers_made world)
  offers_are_round honest = fold_has (IsHonestRound world) after_offers (record { world = world; moved = false }) (members (size_of world)) (begin_is_round honest) (each_member (IsHonestRound world) after_offers (size_of world) offers_keep)

  pub round_is_honest : IsHonest world → IsHonestRound world (round_of world)
  round_is_honest honest = fold_has (IsHonestRound world) after_beat (offers_made world) (members (size_of world)) (offers_are_round honest) (each_member (IsHonestRound world) after_beat (size_of world) beat_keeps)

  beats_stay_moved : HasMoved (offers_made world) → HasMoved (round_of world)
  beats_stay_moved moved = fold_has HasMoved after_beat (offers_made world) (members (size_of world)) moved (λ i d low c h. beat_stays_moved c (get_or (members (size_of world)) i d) h)

  -- ---- where a message is missing, a round moves

  -- it is missing still, where nothing was moved
  still_missing : (honest : IsHonest world) (round : Round) (is : IsHonestRound world round) (r : ℕ) (m : Message) → r < size_of world → round.moved ≡ false → IsMissing world honest r m → IsMissing round.world is.honest r m
  still_missing honest round is r m l still missing =
      let k = m.origin in
      let member = sender_is_member world honest m missing.sent in
      let has : Contains (delivered_by round.world k) m = subst (λ ms. Contains ms m) (sym (is.same still k member)) (sent_is_delivered world honest m member missing.sent) in
      record {
        sent = All-contains (IsSentMessage round.world) (delivered_by round.world k) m (is.honest.delivered k (omega (arith, member, is.kept.size))) has;
        other = missing.other;
        new = omega (arith, missing.new, ap (λ ms. count_of ms k) (is.same still r l));
        can = subst (λ u. IsDeliverable u (counts u (delivered_by round.world r)) m) (sym is.kept.size) (subst (λ ms. IsDeliverable (size_of world) (counts (size_of world) ms) m) (sym (is.same still r l)) missing.can);
      }

  pub missing_moves : (honest : IsHonest world) (r : ℕ) (m : Message) → r < size_of world → IsMissing world honest r m → HasMoved (round_of world)
  missing_moves honest r m l missing =
      let k = m.origin in
      let member = sender_is_member world honest m missing.sent in
      let one : (round : Round) → IsHonestRound world round → HasMoved (after_offer r round k) = λ round is. elim (cases_Bool round.moved) [
        | inl moved ↦ offer_stays_moved r round k moved
        | inr still ↦
            let delivered = outbox_delivers round.world is.honest r (omega (arith, l, is.kept.size)) m (still_missing honest round is r m l still missing) in
            ap (λ (x : Round). x.moved) (cond-false (r == k) round (with_offered round r (offered_between round.world r k)) (ne_eqb r k (λ e. missing.other (sym e)))) ∙ or_right _ _ delivered
      ] in
      let all : (round : Round) → IsHonestRound world round → HasMoved (after_offers round r) = λ round is.
      fold_reaches (IsHonestRound world) HasMoved (after_offer r) (members (size_of round.world)) k (member_there (size_of round.world) k (omega (arith, member, is.kept.size)))
      (each_member (IsHonestRound world) (after_offer r) (size_of round.world) (λ q low. offer_keeps r q l))
      (λ i d low c h. offer_stays_moved r c (get_or (members (size_of round.world)) i d) h) one round is in
      beats_stay_moved (fold_reaches (IsHonestRound world) HasMoved after_offers (members (size_of world)) r (member_there (size_of world) r l)
      (each_member (IsHonestRound world) after_offers (size_of world) offers_keep) (λ i d low c h. offers_stay_moved c (get_or (members (size_of world)) i d) h) all (record { world = world; moved = false }) (begin_is_round honest))
