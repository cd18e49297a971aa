-- The events of a world: of the epochs that are over, which all replicas of an honest one have, and of the present epoch.
use Rattle.std.proofs.Common.{◌≡◌, ℕ, ◌+◌, ◌<◌, ◌≤◌, ◌⊎◌, ◌↔◌, Contains, List, [], ◌++◌, length, map, sym, ap, subst, ◌∙◌, inl, inr, arith}
use Rattle.std.proofs.lemmas.List.{nil_from_length}
use Rattle.std.proofs.lemmas.List.Elements.{All-contains, Contains-append_left, Contains-append_right, Contains-append_cases}
use Rattle.causal_model.specs.History.{History, Event, epoch_of, events, events_from, events_in}
use Rattle.causal_model.proofs.Theory.Elements.{Contains-map}
use Rattle.causal_model.proofs.Events.Events.{event_of, epochs_are_between}
use Rattle.world_model.specs.Honest.{past_events, IsHonest, history_of, delivered_by}
use Rattle.world_model.specs.World.{PlainWorld, size_of, epoch_in}
use Rattle.world_model.specs.Worlds.{IsWorld}
use Rattle.honest_worlds.proofs.Lists.{from_map}

-- ---- the epochs that are over

-- all replicas have the same events of the epochs that are over
abbrev pub HaveOnePast : PlainWorld → Type 0
HaveOnePast world = (r q : ℕ) → r < size_of world → q < size_of world → (e : Event) → (Contains (past_events (history_of world r)) e ↔ Contains (past_events (history_of world q)) e)

-- in epoch 0 there are none
pub none_is_over : (h : History) → epoch_of h ≡ 0 → h.past ≡ []
none_is_over h first = nil_from_length h.past first

same_lists : {X : Type 0} (xs ys : List X) (x : X) → xs ≡ ys → (Contains xs x ↔ Contains ys x)
same_lists xs ys x same = (λ has. subst (λ zs. Contains zs x) same has, λ has. subst (λ zs. Contains zs x) (sym same) has)

pub no_past : (world : PlainWorld) → IsWorld world → epoch_in world ≡ 0 → HaveOnePast world
no_past world is first r q l k e =
    let none : (x : ℕ) → x < size_of world → past_events (history_of world x) ≡ [] = λ x m. ap (events_from 0) (none_is_over (history_of world x) ((is.replicas x m).in_epoch ∙ first)) in
    same_lists (past_events (history_of world r)) (past_events (history_of world q)) e (none r l ∙ sym (none q k))

-- they stay where the pasts do
pub pasts_stay : (world after : PlainWorld) → IsHonest world → size_of after ≡ size_of world → ((q : ℕ) → (history_of after q).past ≡ (history_of world q).past) → HaveOnePast after
pasts_stay world after honest size same r q l k e =
    let at_r = same_lists (past_events (history_of after r)) (past_events (history_of world r)) e (ap (events_from 0) (same r)) in
    let at_q = same_lists (past_events (history_of after q)) (past_events (history_of world q)) e (ap (events_from 0) (same q)) in
    let one = honest.one_past r q (omega (arith, l, size)) (omega (arith, k, size)) e in
    (λ has. at_q.1 (one.0 (at_r.0 has)), λ has. at_r.1 (one.1 (at_q.0 has)))

-- ---- events of a replica

-- an event is one of the present epoch: a message that replica r delivered in it
pub record IsPresent (world : PlainWorld) (r : ℕ) (e : Event) : Type 0 where
  pub there : Contains (delivered_by world r) e.message
  pub now : e ≡ event_of (epoch_in world) e.message

module _ (world : PlainWorld) (r : ℕ) (is : IsWorld world) (l : r < size_of world) where
  pub events_at : events (history_of world r) ≡ past_events (history_of world r) ++ map (event_of (epoch_in world)) (delivered_by world r)
  events_at = ap (λ epoch. past_events (history_of world r) ++ events_in epoch (delivered_by world r)) (is.replicas r l).in_epoch

  pub past_is_lower : (e : Event) → Contains (past_events (history_of world r)) e → e.epoch < epoch_in world
  past_is_lower e has =
      let h = history_of world r in
      let between = All-contains (λ (y : Event). (0 ≤ y.epoch) × (y.epoch < 0 + length h.past)) (events_from 0 h.past) e (epochs_are_between 0 h.past) has in
      omega (arith, between.1, (is.replicas r l).in_epoch)

  pub past_or_present : (e : Event) → Contains (events (history_of world r)) e → Contains (past_events (history_of world r)) e ⊎ IsPresent world r e
  past_or_present e has =
      let event = event_of (epoch_in world) in
      elim (Contains-append_cases (past_events (history_of world r)) (map event (delivered_by world r)) e (subst (λ es. Contains es e) events_at has)) [
        | inl over ↦ inl over
        | inr late ↦
            let m = from_map event (delivered_by world r) e late in
            inr (record { there = subst (Contains (delivered_by world r)) (ap (λ y. y.message) m.1.1) m.1.0; now = sym m.1.1 ∙ ap (λ y. event y.message) m.1.1 })
      ]

  pub past_is_there : (e : Event) → Contains (past_events (history_of world r)) e → Contains (events (history_of world r)) e
  past_is_there e has = Contains-append_left (past_events (history_of world r)) (events_in (epoch_of (history_of world r)) (delivered_by world r)) e has

  pub present_is_there : (e : Event) → IsPresent world r e → Contains (events (history_of world r)) e
  present_is_there e present =
      let event = event_of (epoch_in world) in
      subst (λ es. Contains es e) (sym events_at) (Contains-append_right (past_events (history_of world r)) (map event (delivered_by world r)) e
      (subst (Contains (map event (delivered_by world r))) (sym present.now) (Contains-map event (delivered_by world r) e.message present.there)))

-- an event of one replica is one of another where its message is, if it is of the present epoch
pub events_there_too : (world : PlainWorld) → IsHonest world → (r q : ℕ) → r < size_of world → q < size_of world → (e : Event) → (IsPresent world r e → Contains (delivered_by world q) e.message)
    → Contains (events (history_of world r)) e → Contains (events (history_of world q)) e
events_there_too world honest r q l k e same has = elim (past_or_present world r honest.is_world l e has) [
  | inl over ↦ past_is_there world q honest.is_world k e ((honest.one_past r q l k e).0 over)
  | inr present ↦ present_is_there world q honest.is_world k e (record { there = same present; now = present.now })
]
