-- Settling brings every message of an honest world everywhere.
use Rattle.std.proofs.Common.{◌≡◌, ℕ, zero, suc, ◌+◌, ◌<◌, ◌≤◌, Bool, true, false, not, Contains, get_or, refl, sym, ap, subst, ◌∙◌, if◌then◌else◌, arith}
use Rattle.std.specs.List.{filter}
use Rattle.std.proofs.lemmas.Bool.{and_from, both_ways, not-true, not_from_false, false_from_ne_true, false≢true}
use Rattle.std.proofs.lemmas.Grind.{same_number_lists}
use Rattle.std.proofs.lemmas.List.Elements.{All-from_get_or, All-contains, All-contains_itself, All-filter, filter_passes}
use Rattle.std.proofs.lemmas.List.Sums.{list_all-from_AllPass}
use Rattle.op_base.specs.Message.{number}
use Rattle.op_base.specs.declared.message.Message.{Message}
use Rattle.causal_model.specs.Counts.{count_of, counts}
use Rattle.causal_model.specs.History.{Event, events, is_all_stable}
use Rattle.causal_model.specs.State.{start, counted}
use Rattle.causal_model.specs.Stability.{stable_vector, is_stable, carries_operation}
use Rattle.causal_model.proofs.Delivery.Counts.{length-counts, entry-counts}
use Rattle.causal_model.proofs.Delivery.Limits.{numbers_are_counted}
use Rattle.causal_model.proofs.Events.Regrouping.{regroup_keeps_items}
use Rattle.world_model.specs.Regrouping.{is_at_rest}
use Rattle.world_model.specs.Settling.{round_of, rounds_within, most_rounds, world_settled, is_quiescent}
use Rattle.world_model.specs.World.{PlainWorld, size_of, replica_of}
use Rattle.world_model.specs.Worlds.{KeepsWorld}
use Rattle.world_model.specs.Honest.{delivered_by, history_of, IsHonest, KeepsHonest}
use Rattle.world_model.proofs.Regrouping.{changes_are_refused}
use Rattle.world_model.proofs.Rounds.{total, most_delivered, total_is_bounded, less_is_left}
use Rattle.world_model.proofs.Shown.{settled_is_equal_counts}
use Rattle.world_model.proofs.Worlds.{world_keeps_itself, kept_twice}
use Rattle.honest_worlds.proofs.Agreeing.{is_there_too}
use Rattle.honest_worlds.proofs.Shared.{fits_of, chapters_agree}
use Rattle.honest_worlds.proofs.SentMessages.{chapter_of, are_shared}
use Rattle.honest_worlds.proofs.Epochs.{events_there_too}
use Rattle.honest_worlds.proofs.StillRounds.{IsHonestRound, round_is_honest}
use Rattle.honest_worlds.proofs.Everywhere.{count_is_most, all_are_everywhere, operations_are_stable}
use Rattle.honest_worlds.specs.Laws.{HaveSameEvents, AreBelowLimit, StillRoundSettles, SettlingSettles, SettledLogsAreEmpty, EqualCountsAreEqualEvents, RegroupingIsPossible}
use Rattle.op_base.specs.Timestamp.{entry}

-- ---- after a still round

module _ (world : PlainWorld) (honest : IsHonest world) (still : (round_of world).moved ≡ false) where
  after : IsHonestRound world (round_of world)
  after = round_is_honest world honest

  as_before : (q : ℕ) → q < size_of world → delivered_by (round_of world).world q ≡ delivered_by world q
  as_before = after.same still

  everywhere : (r q : ℕ) → r < size_of world → q < size_of world → (m : Message) → Contains (delivered_by (round_of world).world q) m → Contains (delivered_by (round_of world).world r) m
  everywhere r q l k m has = subst (λ ms. Contains ms m) (sym (as_before r l)) (all_are_everywhere world honest still r q l k m (subst (λ ms. Contains ms m) (as_before q k) has))

  pub have_same_events : HaveSameEvents (round_of world).world
  have_same_events r q l k e =
      let lr : r < size_of world = omega (arith, l, after.kept.size) in
      let lq : q < size_of world = omega (arith, k, after.kept.size) in
      let round = (round_of world).world in
      (events_there_too round after.honest r q l k e (λ present. everywhere q r lq lr e.message present.there), events_there_too round after.honest q r k l e (λ present. everywhere r q lr lq e.message present.there))

  pub counts_are_equal : is_quiescent (round_of world).world ≡ true
  counts_are_equal = (settled_is_equal_counts (round_of world).world).1 (λ r l.
      let round = (round_of world).world in
      let u = size_of world in
      let lr : r < u = omega (arith, l, after.kept.size) in
      let l0 : 0 < u = omega (arith, l, after.kept.size) in
      let is = after.honest.is_world in
      let seen : (q : ℕ) → q < u → counted (history_of round q) ≡ counts u (delivered_by world q) = λ q low. ap (λ n. counts n (delivered_by round q)) ((is.replicas q (omega (arith, low, after.kept.size))).of_store ∙ after.kept.size) ∙ ap (counts u) (as_before q low) in
      seen r lr ∙ same_number_lists (counts u (delivered_by world r)) (counts u (delivered_by world 0)) (length-counts u (delivered_by world r) ∙ sym (length-counts u (delivered_by world 0))) (λ x low.
      let lx : x < u = omega (arith, low, length-counts u (delivered_by world r)) in
      omega (arith, entry-counts u (delivered_by world r) x lx, entry-counts u (delivered_by world 0) x lx, count_is_most world honest r lr still 0 x l0, count_is_most world honest 0 l0 still r x lr))
      ∙ sym (seen 0 l0))

  pub all_is_stable : AreBelowLimit (round_of world).world → (r : ℕ) → r < size_of world → is_all_stable (history_of (round_of world).world r).present ≡ true
  all_is_stable below r l =
      let round = (round_of world).world in
      let h = (history_of round r).present in
      let lr : r < size_of round = omega (arith, l, after.kept.size) in
      let replica = after.honest.is_world.replicas r lr in
      let here : AreBelowLimit world = λ q low e. below q (omega (arith, low, after.kept.size)) (ap (λ ms. count_of ms q) (as_before q low) ∙ e ∙ sym after.kept.limit) in
      let vector : stable_vector h.n h.me h.messages ≡ stable_vector (size_of world) r (delivered_by world r) = ap (λ u. stable_vector u h.me h.messages) (replica.of_store ∙ after.kept.size) ∙ ap (λ me. stable_vector (size_of world) me h.messages) replica.of_member ∙ ap (stable_vector (size_of world) r) (as_before r l) in
      let lies : Message → Bool = λ m. not (is_stable (stable_vector h.n h.me h.messages) m) in
      list_all-from_AllPass (λ m. not (carries_operation m.op)) (filter lies h.messages) (λ i d low.
      let m = get_or (filter lies h.messages) i d in
      let has = All-filter lies (Contains h.messages) h.messages (All-contains_itself h.messages) i d low in
      let unstable = not-true (is_stable (stable_vector h.n h.me h.messages) m) (filter_passes lies h.messages i d low) in
      not_from_false (carries_operation m.op) (false_from_ne_true (carries_operation m.op) (λ carries.
      both_ways (is_stable (stable_vector h.n h.me h.messages) m) unstable (subst (λ v. is_stable v m ≡ true) (sym vector) (operations_are_stable world honest still here r l m (subst (λ ms. Contains ms m) (as_before r l) has) carries)))))

pub still_round_settles : StillRoundSettles
still_round_settles world honest still = (have_same_events world honest still, counts_are_equal world honest still, all_is_stable world honest still)

-- ---- settling

-- settling ends in what a still round makes of an honest world
record HasSettled (world after : PlainWorld) : Type 0 where
  before : PlainWorld
  honest : IsHonest before
  kept : KeepsWorld world before
  still : (round_of before).moved ≡ false
  last : (round_of before).world ≡ after

rounds_settle : (most : ℕ) (world : PlainWorld) → IsHonest world → most_delivered world < total world + most → HasSettled world (rounds_within most world)
rounds_settle zero world honest enough = absurd (omega (arith, enough, total_is_bounded world honest.is_world))
rounds_settle (suc most) world honest enough = by (rounds_settle most (round_of world).world) (round_of world).moved refl where
  by : (IsHonest (round_of world).world → most_delivered (round_of world).world < total (round_of world).world + most → HasSettled (round_of world).world (rounds_within most (round_of world).world))
      → (moved : Bool) → (round_of world).moved ≡ moved → HasSettled world (if moved then rounds_within most (round_of world).world else (round_of world).world)
  by ends true e =
      let round = round_is_honest world honest in
      let later = ends round.honest (less_is_left world honest.is_world most e enough) in
      record { before = later.before; honest = later.honest; kept = kept_twice world (round_of world).world later.before round.kept later.kept; still = later.still; last = later.last }
  by ends false e = record { before = world; honest = honest; kept = world_keeps_itself world honest.is_world; still = e; last = refl }

settles : (world : PlainWorld) → IsHonest world → HasSettled world (world_settled world)
settles world honest = rounds_settle (most_rounds world) world honest (omega arith)

pub settling_settles : SettlingSettles
settling_settles world honest =
    let s = settles world honest in
    (subst HaveSameEvents s.last (have_same_events s.before s.honest s.still), subst (λ after. is_quiescent after ≡ true) s.last (counts_are_equal s.before s.honest s.still))

pub settled_is_stable : (world : PlainWorld) (r : ℕ) → IsHonest world → AreBelowLimit (world_settled world) → r < size_of world → is_all_stable (history_of (world_settled world) r).present ≡ true
settled_is_stable world r honest below l =
    let s = settles world honest in
    subst (λ after. is_all_stable (history_of after r).present ≡ true) s.last (all_is_stable s.before s.honest s.still (subst AreBelowLimit (sym s.last) below) r (omega (arith, l, s.kept.size)))

pub settled_logs_are_empty : SettledLogsAreEmpty
settled_logs_are_empty world r honest below l =
    let stable = settled_is_stable world r honest below l in
    (stable, (regroup_keeps_items 1 0 (replica_of (world_settled world) r) stable).0)

pub settled_is_honest : (world : PlainWorld) → IsHonest world → KeepsHonest world (world_settled world)
settled_is_honest world honest =
    let s = settles world honest in
    let round = round_is_honest s.before s.honest in
    (subst IsHonest s.last round.honest, subst (KeepsWorld world) s.last (kept_twice world s.before (round_of s.before).world s.kept round.kept))

-- ---- the end of an epoch

pub settled_is_at_rest : (world : PlainWorld) → IsHonest world → AreBelowLimit (world_settled world) → is_at_rest (world_settled world) ≡ true
settled_is_at_rest world honest below =
    let after = world_settled world in
    let s = settles world honest in
    let kept = settled_is_honest world honest in
    and_from (is_quiescent after) _ (settling_settles world honest).1 (list_all-from_AllPass (λ g. is_all_stable g.history.present) after.replicas (All-from_get_or (λ g. is_all_stable g.history.present ≡ true) after.replicas (start 0 0) (λ r l. settled_is_stable world r honest below (omega (arith, l, kept.1.size)))))

pub regrouping_is_possible : RegroupingIsPossible
regrouping_is_possible world n honest below unsettled =
    let refused = (changes_are_refused (world_settled world) n).1.0 unsettled in
    false≢true (sym refused.1 ∙ settled_is_at_rest world honest below)

-- ---- equal counts

pub equal_counts_are_equal_events : EqualCountsAreEqualEvents
equal_counts_are_equal_events world honest settled r q l k e = (one r q l k e, one q r k l e) where
  count_at : (x y : ℕ) → x < size_of world → y < size_of world → count_of (delivered_by world x) y ≡ count_of (delivered_by world 0) y
  count_at x y lx ly =
      let u = size_of world in
      let zero_low : 0 < u = omega (arith, ly) in
      let each = (settled_is_equal_counts world).0 settled x lx in
      let seen : (z : ℕ) → z < u → counted (history_of world z) ≡ counts u (delivered_by world z) = λ z lz. ap (λ n. counts n (delivered_by world z)) (honest.is_world.replicas z lz).of_store in
      let same : counts u (delivered_by world x) ≡ counts u (delivered_by world 0) = sym (seen x lx) ∙ each ∙ seen 0 zero_low in
      sym (entry-counts u (delivered_by world x) y ly) ∙ ap (λ tag. entry tag y) same ∙ entry-counts u (delivered_by world 0) y ly

  one : (x y : ℕ) → x < size_of world → y < size_of world → (f : Event) → Contains (events (history_of world x)) f → Contains (events (history_of world y)) f
  one x y lx ly f = events_there_too world honest x y lx ly f (λ present.
      let m = f.message in
      let has = present.there in
      let u = size_of world in
      let P = delivered_by world in
      let fit = fits_of u world.w P (are_shared world honest) x m lx has in
      is_there_too u world.w y (P x) (P y) (chapter_of world honest y ly) (chapters_agree u world.w P (are_shared world honest) x y lx ly) m has fit.1
      (omega (arith, All-contains (λ z. number z ≤ count_of (P x) z.origin) (P x) m (numbers_are_counted u world.w x (P x) (chapter_of world honest x lx)) has, count_at x m.origin lx fit.0, count_at y m.origin ly fit.0)))
