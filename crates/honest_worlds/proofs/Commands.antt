-- Every command but one of bytes keeps a world honest.
use Rattle.std.proofs.Common.{◌≡◌, ℕ, ◌<◌, All, ◌==◌, Contains, IsTrue, ◌∷◌, length, refl, sym, ap, subst, ◌∙◌, Option, Some, None, arith, length-append}
use Rattle.std.proofs.lemmas.Bool.{and_parts, eqb-true, false≢true}
use Rattle.std.proofs.lemmas.List.FromFn.{get_or-map-range_with_len}
use Rattle.std.proofs.lemmas.List.Elements.{All-nil}
use Rattle.op_base.specs.Message.{number}
use Rattle.op_base.specs.declared.message.Message.{Message}
use Rattle.op_base.specs.declared.operation.Update.{Update}
use Rattle.causal_model.specs.History.{epoch_of}
use Rattle.causal_model.specs.State.{start}
use Rattle.causal_model.specs.Early.{has_id}
use Rattle.causal_model.specs.Sending.{local_messages, beat_messages}
use Rattle.causal_model.specs.declared.outcome.Beat.{Beat}
use Rattle.causal_model.specs.declared.outcome.Beat.TheVariants as beat
use Rattle.causal_model.specs.declared.outcome.Local.{Local}
use Rattle.causal_model.specs.declared.outcome.Local.TheVariants as local
use Rattle.causal_model.proofs.Theory.Finds.{found}
use Rattle.world_model.specs.World.{PlainWorld, size_of, opening, replica_of, sent_by, with_all_sent, local_at, beat_at, sent_message, give_of, give_at}
use Rattle.world_model.specs.Worlds.{KeepsStore, KeepsWorld}
use Rattle.world_model.proofs.Commands.{sending_keeps_world}
use Rattle.world_model.proofs.Regrouping.{regrouping_keeps_store}
use Rattle.world_model.proofs.Sends.{update_is_given}
use Rattle.world_model.specs.Honest.{IsSentMessage, IsHonest, KeepsHonest}
use Rattle.world_model.proofs.Worlds.{world_keeps_itself, opening_is_world, opening_has_size}
use Rattle.honest_worlds.proofs.SentMessages.{sent_fits}
use Rattle.honest_worlds.proofs.OnlySent.{replica_has_only_sent, receives_sent}
use Rattle.honest_worlds.proofs.Keeping.{sent_keeps_honest, offering_sent_keeps_honest, outbox_is_received, resending_keeps_honest, beat_keeps_honest}
use Rattle.honest_worlds.proofs.Epochs.{no_past}
use Rattle.honest_worlds.proofs.Regrouping.{regrouping_keeps_honest}
use Rattle.honest_worlds.proofs.Settling.{settled_is_honest}
use Rattle.honest_worlds.specs.Laws.{OpeningIsHonest, CommandsKeepHonest, OfferingSentKeepsHonest, StepsDeliver, ResentStepsDeliver}
use Rattle.op_base.specs.Valid.{is_valid_update}
use Rattle.world_model.specs.Commands as world_command

-- ---- commands

pub opening_is_honest : OpeningIsHonest
opening_is_honest n w limit some few wide most =
    let world = opening n w limit in
    let is = opening_is_world n w limit some few wide most in
    let empty : (r : ℕ) → r < size_of world → replica_of world r ≡ start n r = λ r l. get_or-map-range_with_len (λ me. start n me) 0 n r r (start 0 0) (omega (arith, l, opening_has_size n w limit)) (omega arith) in
    record {
      is_world = is;
      by_rule = λ r l before later m e _. absurd (omega (arith, ap length (sym (ap (λ s. s.history.present.messages) (empty r l)) ∙ e), length-append before (m ∷ later)));
      delivered = λ r l. subst (λ s. All (IsSentMessage world) s.history.present.messages) (sym (empty r l)) (All-nil (IsSentMessage world));
      early = λ r l. subst (λ s. All (IsSentMessage world) s.early) (sym (empty r l)) (All-nil (IsSentMessage world));
      one_past = no_past world is (ap (λ s. epoch_of s.history) (empty 0 is.some));
    }

pub offering_keeps_honest : OfferingSentKeepsHonest
offering_keeps_honest world r m honest l sent = offering_sent_keeps_honest world r honest l m sent

pub sent_message_was_sent : (world : PlainWorld) (k seq : ℕ) (m : Message) → IsHonest world → sent_message world k seq ≡ Some m → IsSentMessage world m
sent_message_was_sent world k seq m honest e =
    let there = found (has_id (record { origin = k; seq = seq })) (sent_by world k) m e in
    let both = and_parts (k == m.origin) (seq == number m) there.1 in
    subst (λ x. Contains (sent_by world x) m) (eqb-true k m.origin both.0) there.0

sending_keeps_honest : (world : PlainWorld) (r : ℕ) (update : Update) → IsHonest world → r < size_of world → IsTrue (is_valid_update update) → KeepsHonest world (local_at r update world).1
sending_keeps_honest world r update honest l valid = by (local_at r update world).0 refl (sending_keeps_world world r update honest.is_world l valid) where
  by : (answer : Local) → (local_at r update world).0 ≡ answer → KeepsWorld world (with_all_sent r world (local_messages answer)) → KeepsHonest world (with_all_sent r world (local_messages answer))
  by (local.Sent m) e kept = sent_keeps_honest world r honest l m (update_is_given (size_of world) world.w world.limit r (replica_of world r) m (honest.is_world.replicas r l) update e) kept
  by local.Busy e kept = (honest, kept)
  by local.End e kept = (honest, kept)
  by local.NoMemory e kept = (honest, kept)

beating_keeps_honest : (world : PlainWorld) (r : ℕ) → IsHonest world → r < size_of world → KeepsHonest world (beat_at r world).1
beating_keeps_honest world r honest l = by (beat_at r world).0 refl where
  by : (answer : Beat) → (beat_at r world).0 ≡ answer → KeepsHonest world (with_all_sent r world (beat_messages answer))
  by (beat.Sent m) e = beat_keeps_honest world r honest l m e
  by beat.Quiet e = (honest, world_keeps_itself world honest.is_world)
  by beat.Held e = (honest, world_keeps_itself world honest.is_world)
  by beat.End e = (honest, world_keeps_itself world honest.is_world)
  by beat.NoMemory e = (honest, world_keeps_itself world honest.is_world)

giving_keeps_honest : (world : PlainWorld) (r k seq : ℕ) → IsHonest world → r < size_of world → KeepsHonest world (give_at r k seq world).1
giving_keeps_honest world r k seq honest l = by (sent_message world k seq) refl where
  by : (found : Option Message) → sent_message world k seq ≡ found → KeepsHonest world (give_of r world found).1
  by None e = (honest, world_keeps_itself world honest.is_world)
  by (Some m) e = offering_sent_keeps_honest world r honest l m (sent_message_was_sent world k seq m honest e)

in_store : (world after : PlainWorld) → KeepsHonest world after → IsHonest after × KeepsStore world after
in_store world after keeps = (keeps.0, record { is_world = keeps.1.is_world; w = keeps.1.w; limit = keeps.1.limit })

pub commands_keep_honest : CommandsKeepHonest
commands_keep_honest world (world_command.sends_at r update) honest can plain = in_store world _ (sending_keeps_honest world r update honest can.0 can.1)
commands_keep_honest world (world_command.beats_at r) honest can plain = in_store world _ (beating_keeps_honest world r honest can)
commands_keep_honest world (world_command.gives r k seq) honest can plain = in_store world _ (giving_keeps_honest world r k seq honest can)
commands_keep_honest world (world_command.resends r k) honest can plain = in_store world _ (resending_keeps_honest world r honest can k)
commands_keep_honest world (world_command.raws r bytes) honest can plain = absurd (false≢true (sym plain))
commands_keep_honest world world_command.settles honest can plain = in_store world _ (settled_is_honest world honest)
commands_keep_honest world (world_command.regroups n) honest can plain = (regrouping_keeps_honest world n honest can.0 can.1, regrouping_keeps_store world n honest.is_world can.0 can.1)

-- ---- steps

pub steps_deliver : StepsDeliver
steps_deliver world r m honest l sent =
    let fit = sent_fits world m honest sent in
    (receives_sent world honest r l (replica_of world r) m (replica_has_only_sent world r honest l) (honest.is_world.replicas r l).none_is_next sent fit.0 fit.1).deliver

pub resent_steps_deliver : ResentStepsDeliver
resent_steps_deliver world r k honest l = (outbox_is_received world r honest l k).deliver
