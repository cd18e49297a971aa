-- Once a world has settled, one more round moves nothing.
use Rattle.std.proofs.Common.{◌≡◌, ℕ, ◌<◌, ◌≤◌, ◌==◌, ◌||◌, not, nat_le, Bool, true, false, List, [], ◌∷◌, ◌++◌, All, get_or, refl, sym, ap, subst, ◌∙◌, if◌then◌else◌, arith}
use Rattle.std.specs.List.{filter, fold}
use Rattle.std.proofs.lemmas.Bool.{le-leb, eqb-true, true≢false, or_right}
use Rattle.std.proofs.lemmas.List.{set-get_or}
use Rattle.std.proofs.lemmas.List.Elements.{All-nil, All-cons, All-head, All-tail, All-filter, All-from_get_or, filter_passes}
use Rattle.std.proofs.lemmas.List.FromFn.{length-range_with_len, get_or-range_with_len}
use Rattle.op_base.specs.Message.{number}
use Rattle.op_base.specs.Timestamp.{entry}
use Rattle.op_base.specs.declared.message.Message.{Message}
use Rattle.causal_model.specs.Counts.{members, count_of, counts}
use Rattle.causal_model.specs.Receiving.{is_old, steps_of, is_accepted, receive_rule}
use Rattle.causal_model.specs.Stability.{is_stable, stable_vector}
use Rattle.causal_model.specs.State.{State, start, counted}
use Rattle.causal_model.specs.declared.outcome.Beat.{Beat}
use Rattle.causal_model.specs.declared.outcome.Beat.TheVariants as beat
use Rattle.causal_model.specs.declared.outcome.Receive.TheVariants.{Old}
use Rattle.causal_model.proofs.Delivery.Counts.{entry-counts}
use Rattle.causal_model.proofs.Delivery.Limits.{numbers_are_counted}
use Rattle.world_model.specs.Laws.{SettledIsStill}
use Rattle.world_model.specs.Offering.{Offered, offered, offered_more, none_offered, offered_between, outbox_in}
use Rattle.world_model.specs.Settling.{Round, with_offered, after_offer, after_offers, with_beat, after_beat, offers_made, world_settled, is_quiescent}
use Rattle.world_model.specs.Showing.{seen_at}
use Rattle.world_model.specs.World.{PlainWorld, size_of, replica_of, beat_at}
use Rattle.world_model.specs.Worlds.{IsWorld}
use Rattle.world_model.proofs.Rounds.{settling_ends, settling_keeps_world}
use Rattle.world_model.proofs.Sent.{is_replicas_chapter}
use Rattle.world_model.proofs.Shown.{settled_is_equal_counts}

-- ---- beats

-- a beat that moves nothing leaves the round
beat_is_still : (r : ℕ) (round : Round) (answer : Beat) → (with_beat round r answer).moved ≡ false → with_beat round r answer ≡ round
beat_is_still r round (beat.Sent m) still = absurd (true≢false still)
beat_is_still r round beat.Quiet still = refl
beat_is_still r round beat.Held still = refl
beat_is_still r round beat.End still = refl
beat_is_still r round beat.NoMemory still = refl

-- and so do beats that move nothing
beats_are_still : (rs : List ℕ) (round : Round) → (fold after_beat round rs).moved ≡ false → (fold after_beat round rs ≡ round) × All (λ r. after_beat round r ≡ round) rs
beats_are_still [] round still = (refl, All-nil (λ r. after_beat round r ≡ round))
beats_are_still (r ∷ rs) round still =
    let later = beats_are_still rs (after_beat round r) still in
    let here = beat_is_still r round (beat_at r round.world).0 (sym (ap (λ (x : Round). x.moved) later.0) ∙ still) in (
      later.0 ∙ here,
      All-cons (λ r. after_beat round r ≡ round) r rs here (subst (λ x. All (λ r. after_beat x r ≡ x) rs) here later.1),
    )

-- a walk whose every step leaves the round
walk_is_still : (f : Round → ℕ → Round) (round : Round) (rs : List ℕ) → All (λ r. f round r ≡ round) rs → fold f round rs ≡ round
walk_is_still f round [] each = refl
walk_is_still f round (r ∷ rs) each = ap (λ x. fold f x rs) (All-head (λ r. f round r ≡ round) r rs each) ∙ walk_is_still f round rs (All-tail (λ r. f round r ≡ round) r rs each)

over_members : (P : ℕ → Type 0) (n : ℕ) → ((r : ℕ) → r < n → P r) → All P (members n)
over_members P n each = All-from_get_or P (members n) 0 (λ i l.
    let low : i < n = omega (arith, l, length-range_with_len 0 n) in
    each (get_or (members n) i 0) (omega (arith, get_or-range_with_len 0 n i 0 low)))

-- ---- offers

old_is_received : (w : ℕ) (s : State) (m : Message) → is_old s.history.present.me (counted s.history) m ≡ true → receive_rule w m s ≡ (Old, s)
old_is_received w s m is = rw is refl

none_accepted : (w : ℕ) (s : State) (ms : List Message) → All (λ m. is_old s.history.present.me (counted s.history) m ≡ true) ms → offered w s ms ≡ none_offered s
none_accepted w s [] each = refl
none_accepted w s (m ∷ ms) each =
    let first = ap (λ got. let o : Offered = record { state = got.1; steps = [] ++ steps_of got.0; kept = false || is_accepted got.0 } in o) (old_is_received w s m (All-head (λ y. is_old s.history.present.me (counted s.history) y ≡ true) m ms each)) in
    ap (λ o. fold (offered_more w) o ms) first ∙ none_accepted w s ms (All-tail (λ y. is_old s.history.present.me (counted s.history) y ≡ true) m ms each)

module _ (world : PlainWorld) (is : IsWorld world) (settled : is_quiescent world ≡ true) where
  -- what a member sent is old everywhere
  sent_is_old : (r k : ℕ) → r < size_of world → k < size_of world → All (λ m. is_old (replica_of world r).history.present.me (counted (replica_of world r).history) m ≡ true) (outbox_in (replica_of world k))
  sent_is_old r k l low =
      let s = replica_of world k in
      let h = s.history.present in
      let n = size_of world in
      let replica = is.replicas k low in
      let equal : seen_at world r ≡ seen_at world k = (settled_is_equal_counts world).0 settled r l ∙ sym ((settled_is_equal_counts world).0 settled k low) in
      let chapter = is_replicas_chapter n world.w world.limit k s replica in
      let lies : Message → Bool = λ m. not (is_stable (stable_vector h.n h.me h.messages) m) in
      let counted_all = All-filter (λ m. m.origin == h.me) (λ m. number m ≤ count_of h.messages m.origin) (filter lies h.messages) (All-filter lies (λ m. number m ≤ count_of h.messages m.origin) h.messages (numbers_are_counted n world.w k h.messages chapter)) in
      let own_all : All (λ m. (m.origin == h.me) ≡ true) (outbox_in s) = λ i d x. filter_passes (λ m. m.origin == h.me) (filter lies h.messages) i d x in
      λ i d x.
      let m = get_or (outbox_in s) i d in
      let own : m.origin ≡ k = eqb-true m.origin h.me (own_all i d x) ∙ replica.of_member in
      let here : entry (counts n h.messages) m.origin ≡ count_of h.messages m.origin = entry-counts n h.messages m.origin (omega (arith, own, low)) in
      let there : entry (counted (replica_of world r).history) m.origin ≡ entry (counts n h.messages) m.origin = ap (λ c. entry c m.origin) (equal ∙ ap (λ (n : ℕ). counts n h.messages) replica.of_store) in
      let low_number : nat_le (number m) (entry (counted (replica_of world r).history) m.origin) ≡ true = le-leb (number m) (entry (counted (replica_of world r).history) m.origin) (omega (arith, counted_all i d x, here, there)) in
      or_right (m.origin == (replica_of world r).history.present.me) (nat_le (number m) (entry (counted (replica_of world r).history) m.origin)) low_number

  abbrev still : Round
  still = record { world = world; moved = false }

  nothing_offered : (r k : ℕ) → r < size_of world → k < size_of world → with_offered still r (offered_between world r k) ≡ still
  nothing_offered r k l low =
      ap (with_offered still r) (none_accepted world.w (replica_of world r) (outbox_in (replica_of world k)) (sent_is_old r k l low))
      ∙ ap (λ rs. let x : Round = record { world = record { w = world.w; limit = world.limit; replicas = rs; sent = world.sent }; moved = false } in x) (set-get_or world.replicas r (start 0 0))

  offer_is_still : (r k : ℕ) → r < size_of world → k < size_of world → after_offer r still k ≡ still
  offer_is_still r k l low = elim (r == k) as (λ own. (if own then still else with_offered still r (offered_between world r k)) ≡ still) [
    | true ↦ refl
    | false ↦ nothing_offered r k l low
  ]

  offers_are_still : offers_made world ≡ still
  offers_are_still = walk_is_still after_offers still (members (size_of world)) (over_members (λ r. after_offers still r ≡ still) (size_of world) (λ r l.
      walk_is_still (after_offer r) still (members (size_of world)) (over_members (λ k. after_offer r still k ≡ still) (size_of world) (λ k low. offer_is_still r k l low))))

pub settled_is_still : SettledIsStill
settled_is_still world is settled =
    let e = settling_ends world is in
    let after = world_settled world in
    let kept = settling_keeps_world world is in
    let offers = offers_made e.0 in
    let beaten = beats_are_still (members (size_of e.0)) offers e.2 in
    let moved : offers.moved ≡ false = ap (λ (x : Round). x.moved) (sym beaten.0) ∙ e.2 in
    let there : offers.world ≡ after = ap (λ (x : Round). x.world) (sym beaten.0) ∙ e.3 in
    let quiet_round : Round = record { world = after; moved = false } in
    let same : offers ≡ quiet_round = λ i. record { world = there i; moved = moved i } in
    let sizes : size_of e.0 ≡ size_of after = e.1.size ∙ sym kept.size in
    let each : All (λ r. after_beat quiet_round r ≡ quiet_round) (members (size_of after)) = subst (λ (x : Round × ℕ). All (λ r. after_beat x.0 r ≡ x.0) (members x.1)) (λ i. (same i, sizes i)) beaten.1 in
    ap (λ (x : Round). (fold after_beat x (members (size_of after))).moved) (offers_are_still after kept.is_world settled)
    ∙ ap (λ (x : Round). x.moved) (walk_is_still after_beat quiet_round (members (size_of after)) each)
