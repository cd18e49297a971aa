-- The end of an epoch: events stay, and where every operation of the epoch is stable so do cells and settled items.
use Rattle.std.proofs.Common.{◌≡◌, ◌≢◌, ℕ, Bool, true, false, not, ◌&&◌, All, Contains, IsTrue, List, [], map, refl, sym, ap, subst, ◌∙◌, inl, inr, Option, Some, None, append-nil}
use Rattle.std.specs.List.{filter}
use Rattle.std.proofs.lemmas.Bool.{cases_Bool, and_left, and_right, both_ways, not-true, not_from_true, not_from_false}
use Rattle.std.proofs.lemmas.List.Elements.{All-append, All-map, All-weaker, All-contains, All-contains_itself}
use Rattle.std.proofs.lemmas.List.Sums.{AllPass-from_list_all}
use Rattle.op_base.specs.declared.message.Message.{Message}
use Rattle.op_base.specs.declared.name.ObjectId.{ObjectId}
use Rattle.op_base.specs.declared.name.Kind.TheVariants.{Counter}
use Rattle.op_base.specs.declared.operation.Op.{Op}
use Rattle.op_base.specs.declared.operation.Op.TheVariants as op
use Rattle.op_base.specs.declared.outcome.Cell.{Cell}
use Rattle.causal_model.specs.CellSteps.{is_counter, cell_settled, is_put_in}
use Rattle.causal_model.specs.Log.{log_of, is_kept, is_uncovered}
use Rattle.causal_model.specs.Covering.{store_keeps, store_covers}
use Rattle.causal_model.specs.History.{History, Event, events, events_in, events_from, epoch_of, chapters, is_all_stable}
use Rattle.causal_model.specs.Items.{is_filled}
use Rattle.causal_model.specs.Journal.{regrouped}
use Rattle.causal_model.specs.Query.{counter_sum, answer}
use Rattle.causal_model.specs.State.{State}
use Rattle.causal_model.specs.Settled.{is_stable_event, is_uncovered_event, is_settled, sum_cell, settled_cell, places_of, settled_items}
use Rattle.causal_model.specs.Stability.{stable_vector, is_stable, carries_operation}
use Rattle.causal_model.proofs.Cells.Cells.{restrict, gather, gather_agree}
use Rattle.causal_model.proofs.Events.Events.{event_of, events_of_chapters}
use Rattle.causal_model.proofs.Cells.KindCells.{kept_cell, nothing_when}
use Rattle.causal_model.proofs.Theory.Lists.{filter_none}
use Rattle.causal_model.proofs.Delivery.Logs.{is_operation}
use Rattle.causal_model.proofs.Theory.Members.{member_of_filter}
use Rattle.causal_model.proofs.Cells.MovedCells.{counter_kind, counter_cell, value_has_none}
use Rattle.causal_model.proofs.Cells.SettledCells.{past_is_stable, present_is_stable, settled_given, settled_is_given}

-- what an operation gives is the same by two tests, where it carries no operation or both hold
given_alike : (object : ObjectId) (value : Option (List ℕ)) (o : Op) (now was uncovered : Bool) → now ≡ true → (carries_operation o ≡ true → was ≡ true)
    → restrict (now && uncovered) (kept_cell object value o) ≡ restrict (was && uncovered) (kept_cell object value o)
given_alike object value op.NoOp now was uncovered is had = nothing_when (now && uncovered) ∙ sym (nothing_when (was && uncovered))
given_alike object value (op.Update u) now was uncovered is had = ap (λ b. restrict (b && uncovered) (kept_cell object value (op.Update u))) (is ∙ sym (had refl))

module _ (n me : ℕ) (s : State) where
  abbrev h : History
  h = s.history

  abbrev next : History
  next = (regrouped n me s).history

  events_stay : events next ≡ events h
  events_stay = append-nil (events_from 0 (chapters h)) ∙ sym (events_of_chapters h)

  pub regroup_keeps_events : (events (regrouped n me s).history ≡ events s.history) × ((object : ObjectId) → answer object (events (regrouped n me s).history) ≡ answer object (events s.history)) × (log_of (regrouped n me s).history ≡ [])
  regroup_keeps_events = (events_stay, λ object. ap (answer object) events_stay, refl)

  -- each event is of an epoch that then is over
  all_are_stable : All (λ e. is_stable_event next e ≡ true) (events h)
  all_are_stable = subst (All (λ e. is_stable_event next e ≡ true)) (sym (events_of_chapters h)) (past_is_stable next)

  module _ (stable : IsTrue (is_all_stable s.history.present)) where
    abbrev was_stable : Message → Bool
    was_stable m = is_stable (stable_vector h.present.n h.present.me h.present.messages) m

    operations_are_stable : All (λ m. carries_operation m.op ≡ true → was_stable m ≡ true) h.present.messages
    operations_are_stable =
        let unstable : Message → Bool = λ m. not (was_stable m) in
        let none = AllPass-from_list_all (λ m. not (carries_operation m.op)) (filter unstable h.present.messages) stable in
        All-weaker (Contains h.present.messages) (λ m. carries_operation m.op ≡ true → was_stable m ≡ true) (λ m there carries. elim (cases_Bool (was_stable m)) [
          | inl is ↦ is
          | inr other ↦
              let left = All-contains (λ e. not (carries_operation e.op) ≡ true) (filter unstable h.present.messages) m none (member_of_filter unstable h.present.messages m there (not_from_false (was_stable m) other)) in
              absurd (both_ways (carries_operation m.op) (not-true (carries_operation m.op) left) carries)
        ]) h.present.messages (All-contains_itself h.present.messages)

    log_is_empty : log_of h ≡ []
    log_is_empty =
        let kept : Message → Bool = λ m. is_kept store_keeps m.op && is_uncovered store_covers h.present.messages m && not (was_stable m) in
        filter_none kept h.present.messages (All-weaker (λ m. carries_operation m.op ≡ true → was_stable m ≡ true) (λ m. kept m ≡ false) (λ m had. elim (cases_Bool (is_kept store_keeps m.op)) [
          | inl keeps ↦ and_right _ _ (not_from_true (was_stable m) (had (is_operation store_keeps m.op keeps)))
          | inr other ↦ and_left _ _ (and_left _ _ other)
        ]) h.present.messages operations_are_stable)

    -- an event that carries an operation was stable
    abbrev Had : Event → Type 0
    Had e = carries_operation e.message.op ≡ true → is_stable_event h e ≡ true

    events_were_stable : All Had (events h)
    events_were_stable = All-append Had (events_from 0 h.past) (events_in (epoch_of h) h.present.messages)
        (All-weaker (λ e. is_stable_event h e ≡ true) Had (λ e is _. is) (events_from 0 h.past) (past_is_stable h))
        (All-map Had (event_of (epoch_of h)) h.present.messages (All-weaker (λ m. carries_operation m.op ≡ true → was_stable m ≡ true) (λ m. Had (event_of (epoch_of h) m)) (λ m had carries. present_is_stable h m ∙ had carries) h.present.messages operations_are_stable))

    given_stays : (object : ObjectId) (value : Option (List ℕ)) → settled_given next object value ≡ settled_given h object value
    given_stays object value =
        let now : Event → Cell = λ e. restrict (is_settled next e) (kept_cell object value e.message.op) in
        let was : Event → Cell = λ e. restrict (is_settled h e) (kept_cell object value e.message.op) in
        let Both : Event → Type 0 = λ e. (is_stable_event next e ≡ true) × Had e in
        ap (gather now) events_stay ∙ gather_agree now was (events h) (All-weaker Both (λ e. now e ≡ was e) (λ e both.
        ap (λ es. restrict (is_stable_event next e && is_uncovered_event es e) (kept_cell object value e.message.op)) events_stay
        ∙ given_alike object value e.message.op (is_stable_event next e) (is_stable_event h e) (is_uncovered_event (events h) e) both.0 both.1) (events h) (λ k d l. (all_are_stable k d l, events_were_stable k d l)))

    counter_stays : (object : ObjectId) (value : Option (List ℕ)) → object.kind ≡ Counter → settled_cell next object value ≡ settled_cell h object value
    counter_stays object None is = counter_cell object is next ∙ ap (λ es. sum_cell (counter_sum object es)) events_stay ∙ sym (counter_cell object is h)
    counter_stays object (Some v) is = value_has_none object is next v ∙ sym (value_has_none object is h v)

    cell_stays : (object : ObjectId) (value : Option (List ℕ)) → settled_cell next object value ≡ settled_cell h object value
    cell_stays object value = elim (cases_Bool (is_counter object.kind)) [
      | inl is ↦ counter_stays object value (counter_kind object.kind is)
      | inr not_one ↦
          let other : object.kind ≢ Counter = λ is. both_ways (is_counter object.kind) not_one (ap is_counter is) in
          settled_is_given next object value other
          ∙ (λ i. cell_settled object.kind (is_put_in (sym log_is_empty i) object value) (given_stays object value i))
          ∙ sym (settled_is_given h object value other)
    ]

    pub regroup_keeps_items : (log_of s.history ≡ []) × ((object : ObjectId) (value : Option (List ℕ)) → settled_cell (regrouped n me s).history object value ≡ settled_cell s.history object value)
        × (settled_items (regrouped n me s).history ≡ settled_items s.history)
    regroup_keeps_items = (log_is_empty, cell_stays, λ i. filter (λ item. is_filled item.cell) (map (λ p. record { object = p.0; value = p.1; cell = cell_stays p.0 p.1 i }) (places_of (events_stay i))))
