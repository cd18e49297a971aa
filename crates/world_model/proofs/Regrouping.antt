-- A change of members: it leaves the world as it is, or a world of the next epoch, in which each replica shows what it had.
use Rattle.std.proofs.Common.{◌≡◌, ◌≢◌, ◌↔◌, ℕ, ◌+◌, ◌<◌, ◌≤◌, Bool, true, false, not, ◌==◌, nat_lt, [], map, length, refl, sym, ap, subst, ◌∙◌, inl, inr, if◌then◌else◌, arith}
use Rattle.std.proofs.lemmas.Bool.{and_parts, cases_lt, cond-true, cond-false, lt-ltb, le-ltb, eqb-true, eqb-false, false≢true}
use Rattle.std.proofs.lemmas.List.{length_push}
use Rattle.std.proofs.lemmas.List.FromFn.{length-map-range_with_len, get_or-map-range_with_len}
use Rattle.std.proofs.lemmas.List.Sums.{AllPass-from_list_all}
use Rattle.op_base.specs.Message.{id_of}
use Rattle.op_base.specs.declared.name.ObjectId.{ObjectId}
use Rattle.causal_model.specs.History.{epoch_of, events, is_all_stable}
use Rattle.causal_model.specs.Log.{log_of}
use Rattle.causal_model.specs.Query.{answer}
use Rattle.causal_model.specs.Settled.{settled_items}
use Rattle.causal_model.specs.State.{State, start}
use Rattle.causal_model.proofs.Events.Histories.{IsLimited-from_test}
use Rattle.causal_model.proofs.Events.Regrouping.{regroup_keeps_events, regroup_keeps_items}
use Rattle.causal_model.proofs.States.States.{regroup_keeps_state}
use Rattle.world_model.specs.Laws.{RegroupingKeepsStore, NextEpochBegins, NextEpochShowsTheSame, RefusedChangesNothing, ChangesAreRefused}
use Rattle.world_model.specs.Regrouping.{last_epoch, is_at_rest, next_replica, next_world, regroup_at, is_regrouped}
use Rattle.world_model.specs.Settling.{is_quiescent}
use Rattle.world_model.specs.Showing.{answer_at, items_at, log_at}
use Rattle.world_model.specs.World.{PlainWorld, size_of, replica_of, sent_by, epoch_in}
use Rattle.world_model.specs.Worlds.{IsReplica, own_of, IsWorld, KeepsStore}
use Rattle.world_model.specs.declared.outcome.Regroup.{Regroup}
use Rattle.world_model.specs.declared.outcome.Regroup.TheVariants as regroup

-- a change of members leaves the world, or begins the next epoch where this one isn't the last and the world is at rest
pub stays_or_begins : (n : ℕ) (world : PlainWorld) (P : Regroup × PlainWorld → Type 0) → ((answer : Regroup) → is_regrouped answer ≡ false → P (answer, world))
    → (epoch_in world ≢ last_epoch → is_at_rest world ≡ true → P (regroup.Regrouped (epoch_in world + 1), next_world n world)) → P (regroup_at n world)
stays_or_begins n world P stays begins = by (epoch_in world == last_epoch) (is_at_rest world) refl refl where
  by : (last rests : Bool) → (epoch_in world == last_epoch) ≡ last → is_at_rest world ≡ rests
      → P (if last then (regroup.Last, world) else if not rests then (regroup.Unsettled, world) else (regroup.Regrouped (epoch_in world + 1), next_world n world))
  by true rests e f = stays regroup.Last refl
  by false true e f = begins (eqb-false (epoch_in world) last_epoch e) f
  by false false e f = stays regroup.Unsettled refl

-- ---- the next epoch

-- the replica of this epoch with whose history member q of the next one begins
abbrev pub comes_from : PlainWorld → ℕ → ℕ
comes_from world q = if nat_lt q (size_of world) then q else 0

module _ (n : ℕ) (world : PlainWorld) where
  pub next_size : size_of (next_world n world) ≡ n
  next_size = length-map-range_with_len (next_replica world n) 0 n

  pub next_at : (q : ℕ) → q < n → replica_of (next_world n world) q ≡ next_replica world n q
  next_at q l = get_or-map-range_with_len (next_replica world n) 0 n q q (start 0 0) l (omega arith)

  pub next_sent_nothing : (q : ℕ) → q < n → sent_by (next_world n world) q ≡ []
  next_sent_nothing q l = get_or-map-range_with_len (λ _. []) 0 n q q [] l (omega arith)

  module _ (is : IsWorld world) where
    pub comes_from_member : (q : ℕ) → comes_from world q < size_of world
    comes_from_member q = elim (cases_lt q (size_of world)) [
      | inl l ↦ omega (arith, l, cond-true (nat_lt q (size_of world)) q 0 (lt-ltb q (size_of world) l))
      | inr past ↦ omega (arith, is.some, cond-false (nat_lt q (size_of world)) q 0 (le-ltb q (size_of world) past))
    ]

    next_epoch_at : (q : ℕ) → epoch_of (next_replica world n q).history ≡ epoch_in world + 1
    next_epoch_at q =
        let s = replica_of world (comes_from world q) in
        omega (arith, length_push s.history.past s.history.present, (is.replicas (comes_from world q) (comes_from_member q)).in_epoch)

    pub next_epoch : 1 ≤ n → epoch_in (next_world n world) ≡ epoch_in world + 1
    next_epoch some = ap (λ s. epoch_of s.history) (next_at 0 some) ∙ next_epoch_at 0

    module _ (few : n ≤ 16) (more : epoch_in world ≢ last_epoch) (rests : is_at_rest world ≡ true) where
      all_stable_at : (r : ℕ) → r < size_of world → is_all_stable (replica_of world r).history.present ≡ true
      all_stable_at r l = AllPass-from_list_all (λ (s : State). is_all_stable s.history.present) world.replicas (and_parts (is_quiescent world) _ rests).1 r (start 0 0) l

      next_is_replica : (q : ℕ) → q < n → IsReplica n world.w world.limit (epoch_in world + 1) q (next_replica world n q)
      next_is_replica q l =
          let r = comes_from world q in
          let low = comes_from_member q in
          let s = replica_of world r in
          let replica = is.replicas r low in
          let within = (IsLimited-from_test world.limit s.history replica.is_state.is_limited).epochs in
          record {
            is_state = regroup_keeps_state world.w world.limit n q s replica.is_state few l (omega (arith, within, more, replica.in_epoch)) (all_stable_at r low);
            of_store = refl;
            of_member = refl;
            in_epoch = next_epoch_at q;
            none_is_next = refl;
          }

      pub next_is_world : 1 ≤ n → IsWorld (next_world n world)
      next_is_world some =
          let after = next_world n world in
          record {
            some = omega (arith, some, next_size);
            few = omega (arith, few, next_size);
            wide = is.wide;
            most = is.most;
            of_each = length-map-range_with_len (λ _. []) 0 n ∙ sym next_size;
            replicas = λ q k. let l : q < n = omega (arith, k, next_size) in
                subst (λ u. IsReplica u world.w world.limit (epoch_in after) q (replica_of after q)) (sym next_size)
                (subst (λ epoch. IsReplica n world.w world.limit epoch q (replica_of after q)) (sym (next_epoch some))
                (subst (IsReplica n world.w world.limit (epoch_in world + 1) q) (sym (next_at q l)) (next_is_replica q l)));
            sent = λ q k. let l : q < n = omega (arith, k, next_size) in next_sent_nothing q l ∙ sym (ap own_of (next_at q l));
          }

      -- what a replica of the next epoch shows
      pub next_shows : (q : ℕ) → q < n → (object : ObjectId)
          → (answer_at (next_world n world) q object ≡ answer_at world (comes_from world q) object) × (items_at (next_world n world) q ≡ items_at world (comes_from world q)) × (log_at (next_world n world) q ≡ [])
      next_shows q l object =
          let r = comes_from world q in
          let s = replica_of world r in
          let events_stay = regroup_keeps_events n q s in
          let items_stay = regroup_keeps_items n q s (all_stable_at r (comes_from_member q)) in (
            ap (λ g. answer object (events g.history)) (next_at q l) ∙ events_stay.1 object,
            ap (λ g. length (settled_items g.history)) (next_at q l) ∙ ap length items_stay.2,
            ap (λ g. map id_of (log_of g.history)) (next_at q l) ∙ ap (map id_of) events_stay.2,
          )

-- ---- the laws

pub regrouping_keeps_store : RegroupingKeepsStore
regrouping_keeps_store world n is some few = stays_or_begins n world (λ made. KeepsStore world made.1)
    (λ answer none. record { is_world = is; w = refl; limit = refl })
    (λ more rests. record { is_world = next_is_world n world is few more rests some; w = refl; limit = refl })

-- no epoch begins where the world stays
module _ (epoch : ℕ) (answer : Regroup) (none : is_regrouped answer ≡ false) where
  none_begins : answer ≢ regroup.Regrouped epoch
  none_begins e = false≢true (sym none ∙ ap is_regrouped e)

pub next_epoch_begins : NextEpochBegins
next_epoch_begins world n epoch is some few = stays_or_begins n world (λ made. made.0 ≡ regroup.Regrouped epoch → (epoch ≡ epoch_in world + 1) × (size_of made.1 ≡ n) × (epoch_in made.1 ≡ epoch))
    (λ answer none e. absurd (none_begins epoch answer none e))
    (λ more rests e. let same : epoch_in world + 1 ≡ epoch = cc in (sym same, next_size n world, next_epoch n world is some ∙ same))

pub next_epoch_shows_the_same : NextEpochShowsTheSame
next_epoch_shows_the_same world n epoch r object is some few l = stays_or_begins n world (λ made. made.0 ≡ regroup.Regrouped epoch
    → (answer_at made.1 r object ≡ answer_at world (comes_from world r) object) × (items_at made.1 r ≡ items_at world (comes_from world r)) × (log_at made.1 r ≡ []))
    (λ answer none e. absurd (none_begins epoch answer none e))
    (λ more rests e. next_shows n world is few more rests r l object)

pub refused_changes_nothing : RefusedChangesNothing
refused_changes_nothing world n = stays_or_begins n world (λ made. is_regrouped made.0 ≡ false → made.1 ≡ world) (λ answer none e. refl) (λ more rests e. absurd (false≢true (sym e)))

pub changes_are_refused : ChangesAreRefused
changes_are_refused world n = by (epoch_in world == last_epoch) (is_at_rest world) refl refl where
  Refused : Regroup × PlainWorld → Type 0
  Refused made = ((made.0 ≡ regroup.Last) ↔ (epoch_in world ≡ last_epoch)) × ((made.0 ≡ regroup.Unsettled) ↔ ((epoch_in world ≢ last_epoch) × (is_at_rest world ≡ false)))

  by : (last rests : Bool) → (epoch_in world == last_epoch) ≡ last → is_at_rest world ≡ rests
      → Refused (if last then (regroup.Last, world) else if not rests then (regroup.Unsettled, world) else (regroup.Regrouped (epoch_in world + 1), next_world n world))
  by true rests e f = let is = eqb-true (epoch_in world) last_epoch e in ((λ _. is, λ _. refl), (λ x. cc, λ both. absurd (both.0 is)))
  by false true e f = let isnt = eqb-false (epoch_in world) last_epoch e in ((λ x. cc, λ is. absurd (isnt is)), (λ x. cc, λ both. absurd (false≢true (sym both.1 ∙ f))))
  by false false e f = let isnt = eqb-false (epoch_in world) last_epoch e in ((λ x. cc, λ is. absurd (isnt is)), (λ _. (isnt, f), λ _. refl))
