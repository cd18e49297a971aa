-- What a world answers and leaves where it shows an honest plain world: by the laws of honest worlds.
use Rattle.std.proofs.Common.{◌≤◌, ◌≡◌, ◌≢◌, ℕ, zero, suc, ◌<◌, All, Bool, true, false, List, [], ◌∷◌, IsTrue, length, map, take, get_or, refl, sym, ap, subst, ◌∙◌, inl, inr, Some, None, Option, arith}
use Rattle.std.specs.List.{fold}
use Rattle.std.proofs.lemmas.List.Elements.{All-take, All-nil}
use Rattle.std.proofs.lemmas.List.FromFn.{length-range_with_len, get_or-range_with_len}
use Rattle.std.proofs.lemmas.List.Sums.{list_all-from_AllPass}
use Rattle.op_base.specs.declared.message.Message.{Message}
use Rattle.op_base.specs.declared.outcome.Step.{Step}
use Rattle.causal_model.specs.Counts.{members}
use Rattle.causal_model.specs.Receiving.{steps_of}
use Rattle.causal_model.specs.Stability.{unstable_noops}
use Rattle.causal_model.specs.declared.outcome.Receive.{Receive}
use Rattle.causal_model.specs.declared.outcome.Receive.TheVariants as receive
use Rattle.causal_model.proofs.Theory.Lists.{fold_has}
use Rattle.world_model.specs.Honest.{IsHonest, IsSentMessage}
use Rattle.world_model.specs.Offering.{none_offered, offered, outbox_in, offered_between, resent_of, resend_at}
use Rattle.world_model.specs.Settling.{Round, is_delivery, after_offer, after_offers, after_beat, offers_made, world_settled}
use Rattle.world_model.specs.Showing.{noops_at}
use Rattle.world_model.specs.World.{PlainWorld, size_of, replica_of, offer_at, sent_message, give_of, give_at}
use Rattle.world_model.proofs.Commands.{offers_keep as offers_keep_replica}
use Rattle.world_model.proofs.Received.{is_as_before}
use Rattle.world_model.proofs.Worlds.{state_changes}
use Rattle.honest_worlds.specs.Laws.{honest_noops}
use Rattle.honest_worlds.proofs.Beats.{noops_are_few_in}
use Rattle.honest_worlds.proofs.Commands.{sent_message_was_sent, steps_deliver, resent_steps_deliver}
use Rattle.honest_worlds.proofs.Keeping.{sent_state_keeps_honest, offers_are_received}
use Rattle.honest_worlds.proofs.OnlySent.{replica_has_only_sent}
use Rattle.honest_worlds.proofs.SentMessages.{outbox_was_sent, sent_fits, sent_messages_are_near}
use Rattle.honest_worlds.proofs.Settling.{settling_settles, settled_logs_are_empty, settled_is_honest}
use Rattle.honest_worlds.proofs.StillRounds.{IsHonestRound, begin_is_round, offers_are_round, round_is_honest, offers_keep, offer_keeps, beat_keeps}
use Rattle.world.specs.Honest.{is_fair, is_fair_given, is_fair_resent, IsQuiescent}
use Rattle.world.specs.Midst.{offered_first, offers_before, rounds_made, IsInSettling}

-- ---- in the midst

-- where the first messages of an outbox were offered
pub first_offers_keep_honest : (plain : PlainWorld) (r k j : ℕ) → IsHonest plain → r < size_of plain → IsHonest (offered_first j plain r k)
first_offers_keep_honest plain r k j honest l =
    let s = replica_of plain r in
    let replica = honest.is_world.replicas r l in
    let ms = take j (outbox_in (replica_of plain k)) in
    let sent = All-take (IsSentMessage plain) j (outbox_in (replica_of plain k)) (outbox_was_sent plain k honest) in
    let begin = none_offered s in
    let got = offers_are_received plain r honest l s begin ms sent (record { fed = replica_has_only_sent plain r honest l; none = replica.none_is_next; deliver = All-nil (λ step. is_delivery step ≡ true); still = λ _. refl }) in
    let fits = λ (i : ℕ) (d : Message) (low : i < length ms). sent_fits plain (get_or ms i d) honest (sent i d low) in
    let later = offers_keep_replica (size_of plain) plain.w plain.limit r s begin ms (λ i d low. (fits i d low).0) (λ i d low. (fits i d low).1) (is_as_before (size_of plain) plain.w plain.limit r s replica) in
    (sent_state_keeps_honest plain r honest l (offered plain.w s ms).state got.fed (state_changes plain r _ honest.is_world l later.is_replica later.own)).0

module _ (plain : PlainWorld) (honest : IsHonest plain) where
  below : (P : Round → Type 0) (f : Round → ℕ → Round) (u : ℕ) → ((k : ℕ) → k < u → (round : Round) → P round → P (f round k)) → (round : Round) → P round → P (fold f round (members u))
  below P f u each round is = fold_has P f round (members u) is (λ i d low c h. each (get_or (members u) i d) (omega (arith, low, length-range_with_len 0 u, get_or-range_with_len 0 u i d (omega (arith, low, length-range_with_len 0 u)))) c h)

  offers_before_are_honest : (r k : ℕ) → r < size_of plain → IsHonestRound plain (offers_before plain r k)
  offers_before_are_honest r k l =
      below (IsHonestRound plain) (after_offer r) k (λ q low round is. offer_keeps plain r q l round is) (fold after_offers (record { world = plain; moved = false }) (members r))
      (below (IsHonestRound plain) after_offers r (λ q low round is. offers_keep plain q (omega (arith, low, l)) round is) (record { world = plain; moved = false }) (begin_is_round plain honest))

  beats_before_are_honest : (r : ℕ) → r < size_of plain → IsHonestRound plain (fold after_beat (offers_made plain) (members r))
  beats_before_are_honest r l = below (IsHonestRound plain) after_beat r (λ q low round is. beat_keeps plain q (omega (arith, low, l)) round is) (offers_made plain) (offers_are_round plain honest)

rounds_made_are_honest : (k : ℕ) (plain : PlainWorld) → IsHonest plain → IsHonest (rounds_made k plain)
rounds_made_are_honest zero plain honest = honest
rounds_made_are_honest (suc k) plain honest = (round_is_honest (rounds_made k plain) (rounds_made_are_honest k plain honest)).honest

-- ---- no-ops

-- few own no-ops are unstable
pub noops_are_few_at : (plain : PlainWorld) (r : ℕ) → IsHonest plain → r < size_of plain → noops_at plain r ≤ honest_noops (size_of plain) plain.w
noops_are_few_at plain r honest l =
    let replica = honest.is_world.replicas r l in
    let ms = (replica_of plain r).history.present.messages in
    let same : noops_at plain r ≡ unstable_noops (size_of plain) r ms r = ap (λ u. unstable_noops u (replica_of plain r).history.present.me ms (replica_of plain r).history.present.me) replica.of_store ∙ ap (λ me. unstable_noops (size_of plain) me ms me) replica.of_member in
    omega (arith, same, (noops_are_few_in plain r honest l).0)

-- ---- receiving

-- an answer is fair that is not far, and whose steps deliver
fair_answer : (answer : Receive) → answer ≢ receive.Far → All (λ step. is_delivery step ≡ true) (steps_of answer) → is_fair answer ≡ true
fair_answer receive.Old near deliver = refl
fair_answer receive.Again near deliver = refl
fair_answer receive.Far near deliver = absurd (near refl)
fair_answer receive.Kept near deliver = refl
fair_answer (receive.Took steps) near deliver = list_all-from_AllPass is_delivery steps deliver
fair_answer receive.NoMemory near deliver = refl

-- so the answers of giving and of offering an outbox are
pub give_is_fair : (plain : PlainWorld) (r k seq : ℕ) → IsHonest plain → r < size_of plain → IsTrue (is_fair_given (give_at r k seq plain).0)
give_is_fair plain r k seq honest l = by (sent_message plain k seq) refl where
  by : (found : Option Message) → sent_message plain k seq ≡ found → IsTrue (is_fair_given (give_of r plain found).0)
  by None none = refl
  by (Some m) found =
      let sent = sent_message_was_sent plain k seq m honest found in
      fair_answer (offer_at r m plain).0 (sent_messages_are_near plain r m honest l sent) (steps_deliver plain r m honest l sent)

pub resend_is_fair : (plain : PlainWorld) (r k : ℕ) → IsHonest plain → r < size_of plain → IsTrue (is_fair_resent (resend_at r k plain).0)
resend_is_fair plain r k honest l = by (offered_between plain r k).steps (offered_between plain r k).kept (resent_steps_deliver plain r k honest l) where
  by : (steps : List Step) (kept : Bool) → All (λ step. IsTrue (is_delivery step)) steps → IsTrue (is_fair_resent (resent_of steps kept))
  by [] true deliver = refl
  by [] false deliver = refl
  by (step ∷ steps) kept deliver = list_all-from_AllPass is_delivery (step ∷ steps) deliver

-- ---- settling

-- a world that settling passes through is honest
pub passed_is_honest : (plain midst : PlainWorld) → IsHonest plain → IsInSettling plain midst → IsHonest midst
passed_is_honest plain midst honest passed =
    let world = rounds_made passed.rounds plain in
    let made = rounds_made_are_honest passed.rounds plain honest in
    elim passed.is [
      | inl offers ↦
          let round = offers_before_are_honest world made offers.r offers.k offers.below in
          subst IsHonest (sym offers.is) (first_offers_keep_honest (offers_before world offers.r offers.k).world offers.r offers.k offers.j round.honest (omega (arith, offers.below, round.kept.size)))
      | inr beats ↦ subst IsHonest (sym beats.is) (beats_before_are_honest world made beats.r beats.below).honest
    ]

-- one that has settled is quiescent
pub settled_is_quiescent : (plain : PlainWorld) → IsHonest plain → IsQuiescent (world_settled plain)
settled_is_quiescent plain honest = record {
  same = (settling_settles plain honest).0;
  logs = λ below r l. ap (map _) (settled_logs_are_empty plain r honest below (omega (arith, l, (settled_is_honest plain honest).1.size))).1;
}
