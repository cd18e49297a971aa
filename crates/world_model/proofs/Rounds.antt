-- Rounds of settling: each keeps a world, and one that moves has a message more in some history. Histories are bounded, so
-- settling ends.
use Rattle.std.proofs.Common.{◌≡◌, ℕ, zero, suc, ◌+◌, ◌*◌, ◌<◌, ◌≤◌, Bool, true, false, ◌==◌, cond, get_or, refl, ap, subst, if◌then◌else◌, arith}
use Rattle.std.specs.List.{list_any, fold, sum_by}
use Rattle.std.proofs.lemmas.List.{length_push}
use Rattle.std.proofs.lemmas.List.Elements.{All-from_get_or}
use Rattle.std.proofs.lemmas.List.FromFn.{length-range_with_len, get_or-range_with_len}
use Rattle.std.proofs.lemmas.List.Sums.{sum_by-set, sum_by-le}
use Rattle.causal_model.specs.Counts.{members}
use Rattle.causal_model.specs.State.{with_own, State, start}
use Rattle.causal_model.specs.declared.outcome.Beat.{Beat}
use Rattle.causal_model.specs.declared.outcome.Beat.TheVariants as beat
use Rattle.causal_model.proofs.Delivery.Lengths.{chapter_is_bounded}
use Rattle.causal_model.proofs.Theory.Lists.{fold_has}
use Rattle.world_model.specs.Laws.{SettlingKeepsWorld, SettlingEnds, MoreRoundsAreNone}
use Rattle.world_model.specs.Offering.{offered_between}
use Rattle.world_model.specs.Settling.{Round, is_delivery, with_offered, after_offer, after_offers, with_beat, after_beat, offers_made, round_of, rounds_within, most_rounds}
use Rattle.world_model.specs.World.{PlainWorld, size_of, replica_of, with_state, with_sent, beat_at}
use Rattle.world_model.specs.Worlds.{IsWorld, KeepsWorld}
use Rattle.world_model.proofs.Commands.{beat_is_sent, outbox_is_offered}
use Rattle.world_model.proofs.Received.{length_of, at_most_both}
use Rattle.world_model.proofs.Sent.{is_replicas_chapter, messages_are_carried}
use Rattle.world_model.proofs.Worlds.{world_keeps_itself, kept_twice, state_changes}

-- ---- how many messages were delivered

-- all messages that the replicas delivered
abbrev pub total : PlainWorld → ℕ
total world = sum_by length_of world.replicas

-- there are at most so many
abbrev pub most_delivered : PlainWorld → ℕ
most_delivered world = size_of world * (size_of world * world.limit)

pub total_is_bounded : (world : PlainWorld) → IsWorld world → total world ≤ most_delivered world
total_is_bounded world is =
    let n = size_of world in
    sum_by-le length_of (n * world.limit) world.replicas (All-from_get_or (λ s. length_of s ≤ n * world.limit) world.replicas (start 0 0) (λ r l.
    let replica = is.replicas r l in
    let s = replica_of world r in
    chapter_is_bounded n world.w r world.limit s.history.present.messages (is_replicas_chapter n world.w world.limit r s replica) (messages_are_carried n world.w world.limit r s replica)))

total_changes : (world : PlainWorld) (r : ℕ) (s : State) → r < size_of world → total (with_state world r s) + length_of (replica_of world r) ≡ total world + length_of s
total_changes world r s l = sum_by-set length_of world.replicas r s (start 0 0) l

-- ---- a round

-- in the midst of a round the world is one of the store, and has a message more where one was delivered or sent
pub record IsRound (world : PlainWorld) (round : Round) : Type 0 where
  pub kept : KeepsWorld world round.world
  pub more : total world + cond round.moved 1 0 ≤ total round.world

-- what each step of a walk over the members keeps holds of the whole walk
over_members : (P : Round → Type 0) (f : Round → ℕ → Round) (n : ℕ) → ((r : ℕ) → r < n → (round : Round) → P round → P (f round r)) → (round : Round) → P round → P (fold f round (members n))
over_members P f n each round here = fold_has P f round (members n) here (λ i d l c h.
    let k : i < n = omega (arith, l, length-range_with_len 0 n) in
    each (get_or (members n) i d) (omega (arith, get_or-range_with_len 0 n i d k)) c h)

module _ (world : PlainWorld) where
  offer_is_made : (r k : ℕ) → r < size_of world → (round : Round) → IsRound world round → IsRound world (after_offer r round k)
  offer_is_made r k l round is = elim (r == k) as (λ own. IsRound world (if own then round else with_offered round r (offered_between round.world r k))) [
    | true ↦ is
    | false ↦
        let here : r < size_of round.world = omega (arith, l, is.kept.size) in
        let o = offered_between round.world r k in
        let later = outbox_is_offered round.world r k is.kept.is_world here in
        record {
          kept = kept_twice world round.world (with_state round.world r o.state) is.kept (state_changes round.world r o.state is.kept.is_world here later.is_replica later.own);
          more = omega (arith, is.more, later.more, total_changes round.world r o.state here, at_most_both round.moved (list_any is_delivery o.steps));
        }
  ]

  offers_are_made : (r : ℕ) → r < size_of world → (round : Round) → IsRound world round → IsRound world (after_offers round r)
  offers_are_made r l round is = over_members (IsRound world) (after_offer r) (size_of round.world) (λ k _ c h. offer_is_made r k l c h) round is

  beat_is_made : (r : ℕ) → r < size_of world → (round : Round) → IsRound world round → IsRound world (after_beat round r)
  beat_is_made r l round is = by (beat_at r round.world).0 refl where
    by : (answer : Beat) → (beat_at r round.world).0 ≡ answer → IsRound world (with_beat round r answer)
    by beat.Quiet e = is
    by beat.Held e = is
    by beat.End e = is
    by beat.NoMemory e = is
    by (beat.Sent m) e =
        let here : r < size_of round.world = omega (arith, l, is.kept.size) in
        let s = replica_of round.world r in
        record {
          kept = kept_twice world round.world (with_sent round.world r m) is.kept (beat_is_sent round.world r m is.kept.is_world here e);
          more = omega (arith, is.more, total_changes round.world r (with_own s m) here, length_push s.history.present.messages m);
        }

  pub round_is_made : IsWorld world → IsRound world (round_of world)
  round_is_made is =
      let n = size_of world in
      let begin : Round = record { world = world; moved = false } in
      let offers = over_members (IsRound world) after_offers n offers_are_made begin (record { kept = world_keeps_itself world is; more = omega arith }) in
      over_members (IsRound world) after_beat n beat_is_made (offers_made world) offers

-- ---- rounds

-- a round that moves leaves less to deliver
module _ (world : PlainWorld) (is : IsWorld world) where
  pub less_is_left : (most : ℕ) → (round_of world).moved ≡ true → most_delivered world < total world + suc most → most_delivered (round_of world).world < total (round_of world).world + most
  less_is_left most moved enough =
      let round = round_is_made world is in
      let same : most_delivered (round_of world).world ≡ most_delivered world = λ i. round.kept.size i * (round.kept.size i * round.kept.limit i) in
      let one : cond (round_of world).moved 1 0 ≡ 1 = ap (λ (b : Bool). cond {A = ℕ} b 1 0) moved in
      omega (arith, same, one, round.more, enough)

-- rounds have ended where the last begins in a world of the store, and moves nothing
record HaveEnded (world after : PlainWorld) : Type 0 where
  before : PlainWorld
  kept : KeepsWorld world before
  still : (round_of before).moved ≡ false
  last : (round_of before).world ≡ after

rounds_end : (most : ℕ) (world : PlainWorld) → IsWorld world → most_delivered world < total world + most → HaveEnded world (rounds_within most world)
rounds_end zero world is enough = absurd (omega (arith, enough, total_is_bounded world is))
rounds_end (suc most) world is enough = by (rounds_end most (round_of world).world) (round_of world).moved refl where
  by : (IsWorld (round_of world).world → most_delivered (round_of world).world < total (round_of world).world + most → HaveEnded (round_of world).world (rounds_within most (round_of world).world))
      → (moved : Bool) → (round_of world).moved ≡ moved → HaveEnded world (if moved then rounds_within most (round_of world).world else (round_of world).world)
  by ends true e =
      let round = round_is_made world is in
      let later = ends round.kept.is_world (less_is_left world is most e enough) in
      record { before = later.before; kept = kept_twice world (round_of world).world later.before round.kept later.kept; still = later.still; last = later.last }
  by ends false e = record { before = world; kept = world_keeps_itself world is; still = e; last = refl }

-- as many rounds as there can be are enough
rounds_suffice : (most more : ℕ) (world : PlainWorld) → IsWorld world → most_delivered world < total world + most → most_delivered world < total world + more → rounds_within most world ≡ rounds_within more world
rounds_suffice zero more world is enough also = absurd (omega (arith, enough, total_is_bounded world is))
rounds_suffice (suc most) zero world is enough also = absurd (omega (arith, also, total_is_bounded world is))
rounds_suffice (suc most) (suc more) world is enough also = by (rounds_suffice most more (round_of world).world) (round_of world).moved refl where
  by : (IsWorld (round_of world).world → most_delivered (round_of world).world < total (round_of world).world + most → most_delivered (round_of world).world < total (round_of world).world + more
      → rounds_within most (round_of world).world ≡ rounds_within more (round_of world).world)
      → (moved : Bool) → (round_of world).moved ≡ moved
      → (if moved then rounds_within most (round_of world).world else (round_of world).world) ≡ (if moved then rounds_within more (round_of world).world else (round_of world).world)
  by suffice true e = suffice (round_is_made world is).kept.is_world (less_is_left world is most e enough) (less_is_left world is more e also)
  by suffice false e = refl

-- ---- settling

settled : (world : PlainWorld) → IsWorld world → HaveEnded world (rounds_within (most_rounds world) world)
settled world is = rounds_end (most_rounds world) world is (omega arith)

pub settling_ends : SettlingEnds
settling_ends world is = let e = settled world is in (e.before, e.kept, e.still, e.last)

pub more_rounds_are_none : MoreRoundsAreNone
more_rounds_are_none world more is = rounds_suffice (most_rounds world + more) (most_rounds world) world is (omega arith) (omega arith)

pub settling_keeps_world : SettlingKeepsWorld
settling_keeps_world world is =
    let e = settled world is in
    subst (KeepsWorld world) e.last (kept_twice world e.before (round_of e.before).world e.kept (round_is_made e.before e.kept.is_world).kept)
