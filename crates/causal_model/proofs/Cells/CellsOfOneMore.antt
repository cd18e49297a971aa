-- What all settled operations give with one message more: what did before and the message doesn't cover, and what goes from
-- the log as settled.
use Rattle.std.proofs.Common.{◌≡◌, ℕ, ◌<◌, Bool, true, false, not, ◌&&◌, All, IsTrue, List, [], ◌∷◌, ◌++◌, refl, sym, ap, ◌∙◌, Option, if◌then◌else◌, arith}
use mathlib.Core.Bool.{and-true}
use Rattle.std.specs.List.{filter, slice_index_or}
use Rattle.std.specs.Ordering.{is_eq}
use Rattle.std.proofs.lemmas.Bool.{and_parts, false≢true}
use Rattle.std.proofs.lemmas.List.Elements.{All-weaker, All-map, All-append, filter-append}
use Rattle.op_base.specs.Object.{same_object}
use Rattle.op_base.specs.Order.{item_cmp}
use Rattle.op_base.specs.declared.message.Message.{Message}
use Rattle.op_base.specs.declared.name.ObjectId.{ObjectId}
use Rattle.op_base.specs.declared.name.Kind.{Kind}
use Rattle.op_base.specs.declared.name.Kind.TheVariants.{AwSet, RwSet, EwFlag, DwFlag, MvReg, Counter, RCounter}
use Rattle.op_base.specs.declared.name.Kind.TheVariants as kinds
use Rattle.op_base.specs.declared.operation.Act.{Act}
use Rattle.op_base.specs.declared.operation.Update.{Update}
use Rattle.op_base.specs.declared.operation.Op.{Op}
use Rattle.op_base.specs.declared.operation.Op.TheVariants as op
use Rattle.op_base.specs.declared.outcome.Cell.{Cell}
use Rattle.op_base.proofs.Orders.{items_tied}
use Rattle.causal_model.specs.Acts.{value_of}
use Rattle.causal_model.specs.CellSteps.{with_act, covers_value, covers_place}
use Rattle.causal_model.specs.Log.{log_of, stripped_of, is_kept, is_covered_by, is_uncovered}
use Rattle.causal_model.specs.Chapter.{is_chapter, is_next}
use Rattle.causal_model.specs.Covering.{covers_act, store_keeps, store_covers}
use Rattle.causal_model.specs.History.{History, Event, events, events_in, events_from, epoch_of, with_message, is_before, is_history}
use Rattle.causal_model.specs.Items.{zero_cell}
use Rattle.causal_model.specs.Laws.Events.{present_event}
use Rattle.causal_model.specs.Order.{happened_before}
use Rattle.causal_model.specs.Settled.{is_stable_event, is_uncovered_event, is_settled}
use Rattle.causal_model.specs.Stability.{stable_vector, is_stable}
use Rattle.causal_model.proofs.Cells.Cells.{join, restrict, gather, join_zero, zero_join, join_assoc, gather-append, gather-map, gather-filter, gather_agree, gather_same, gather_none, gather-join, gather-restrict, restrict_both, cell_of}
use Rattle.causal_model.proofs.Delivery.Chapters.{is_chapter-push}
use Rattle.causal_model.proofs.Events.Events.{event_of, before_within, earlier_is_before, epochs_are_between, events_of_one_more, present_is_covered_in_present, present_is_followed, uncovered_events_of_one_more}
use Rattle.causal_model.proofs.Cells.KindCells.{kept_cell, nothing_when}
use Rattle.causal_model.proofs.Cells.Places.{is_equal}
use Rattle.causal_model.proofs.Delivery.Settling.{last_is_next, origins_are_members, next_is_after_stable}
use Rattle.causal_model.proofs.Cells.SettledCells.{past_is_stable, present_is_stable, settled_given}
use Rattle.causal_model.proofs.Delivery.Stability.{stable_stays}

-- ---- what an operation covers at a place

covers_as_value : (kind : Kind) (later earlier : Act) → covers_act kind later earlier ≡ covers_value kind later (value_of earlier)
covers_as_value AwSet later earlier = refl
covers_as_value RwSet later earlier = refl
covers_as_value EwFlag later earlier = refl
covers_as_value DwFlag later earlier = refl
covers_as_value MvReg later earlier = refl
covers_as_value Counter later earlier = refl
covers_as_value RCounter later earlier = refl
covers_as_value kinds.List later earlier = refl

-- an operation covers a kept one where it covers the place that this names
covers_kept : (later : Op) (u : Update) → store_keeps u ≡ true → is_covered_by store_covers (op.Update u) later ≡ covers_place later u.object (value_of u.act)
covers_kept op.NoOp u kept = refl
covers_kept (op.Update l) u kept =
    (λ i. (same_object l.object u.object && kept i) && covers_as_value u.object.kind l.act u.act i)
    ∙ ap (λ b. b && covers_value u.object.kind l.act (value_of u.act)) (and-true (same_object l.object u.object))

restrict_swap : (a b : Bool) (cell : Cell) → restrict a (restrict b cell) ≡ restrict b (restrict a cell)
restrict_swap true b cell = refl
restrict_swap false b cell = sym (nothing_when b)

module _ (object : ObjectId) (value : Option (List ℕ)) where
  bare_is_place : (later o : Op) → restrict (not (is_covered_by store_covers o later)) (kept_cell object value o) ≡ restrict (not (covers_place later object value)) (kept_cell object value o)
  bare_is_place later op.NoOp = nothing_when (not (is_covered_by store_covers op.NoOp later)) ∙ sym (nothing_when (not (covers_place later object value)))
  bare_is_place later (op.Update u) = by (store_keeps u) (is_eq (item_cmp u.object (value_of u.act) object value)) refl refl where
    by : (kept here : Bool) → store_keeps u ≡ kept → is_eq (item_cmp u.object (value_of u.act) object value) ≡ here
        → restrict (not (is_covered_by store_covers (op.Update u) later)) (restrict kept (if here then with_act u.act zero_cell else zero_cell)) ≡ restrict (not (covers_place later object value)) (restrict kept (if here then with_act u.act zero_cell else zero_cell))
    by false here keeps at = nothing_when (not (is_covered_by store_covers (op.Update u) later)) ∙ sym (nothing_when (not (covers_place later object value)))
    by true false keeps at = nothing_when (not (is_covered_by store_covers (op.Update u) later)) ∙ sym (nothing_when (not (covers_place later object value)))
    by true true keeps at =
        let tied = items_tied u.object object (value_of u.act) value (is_equal (item_cmp u.object (value_of u.act) object value) at) in
        ap (λ b. restrict (not b) (with_act u.act zero_cell)) (covers_kept later u keeps ∙ (λ i. covers_place later (tied.0 i) (tied.1 i)))

-- ---- which events are settled with one message more

-- an event is settled after a message where it was and isn't covered by it, or where it was pending, isn't covered and is
-- stable now
splits : (old new unc cov bef : Bool) → (old ≡ true → (new ≡ true) × (bef ≡ true)) → (cell : Cell)
    → restrict (new && (unc && not (cov && bef))) cell ≡ join (restrict ((old && unc) && not cov) cell) (restrict (((unc && not old) && not (cov && bef)) && new) cell)
splits true true false cov bef h cell = refl
splits true true true true true h cell = refl
splits true true true false bef h cell = sym (join_zero cell)
splits true true true true false h cell = absurd (false≢true (h refl).1)
splits true false unc cov bef h cell = absurd (false≢true (h refl).0)
splits false true false cov bef h cell = refl
splits false false false cov bef h cell = refl
splits false false true true true h cell = refl
splits false false true true false h cell = refl
splits false false true false bef h cell = refl
splits false true true true true h cell = refl
splits false true true true false h cell = sym (zero_join cell)
splits false true true false bef h cell = sym (zero_join cell)

-- what was stable goes from no log
stable_goes_not : (old unc bare new : Bool) → old ≡ true → (cell : Cell) → restrict (((unc && not old) && bare) && new) cell ≡ zero_cell
stable_goes_not true true bare new t cell = refl
stable_goes_not true false bare new t cell = refl
stable_goes_not false unc bare new t cell = absurd (false≢true t)

logged_goes : (kept unc old bare new : Bool) (cell : Cell) → restrict (((unc && not old) && bare) && new) (restrict kept cell) ≡ restrict (kept && unc && not old) (restrict bare (restrict new cell))
logged_goes false unc old bare new cell = nothing_when (((unc && not old) && bare) && new)
logged_goes true false old bare new cell = refl
logged_goes true true true bare new cell = refl
logged_goes true true false false new cell = refl
logged_goes true true false true new cell = refl

module _ (w : ℕ) (h : History) (m : Message) (t : IsTrue (is_history w (with_message h m))) where
  abbrev ms : List Message
  ms = h.present.messages

  abbrev was_stable : Message → Bool
  was_stable e = is_stable (stable_vector h.present.n h.present.me ms) e

  abbrev now_stable : Message → Bool
  now_stable e = is_stable (stable_vector h.present.n h.present.me (ms ++ m ∷ [])) e

  abbrev covered : Event → Bool
  covered e = is_covered_by store_covers e.message.op m.op

  abbrev before : Event → Bool
  before e = is_before e (present_event h m)

  followed : IsTrue (is_chapter h.present.n w h.present.me (ms ++ m ∷ []))
  followed = present_is_followed w (with_message h m) t

  -- a message that was stable is stable, and happened before the new one
  stable_message_stays : All (λ e. was_stable e ≡ true → (now_stable e ≡ true) × (happened_before e m ≡ true)) ms
  stable_message_stays =
      let parts = last_is_next h.present.n w h.present.me ms m followed in
      let next = and_parts (is_chapter h.present.n w h.present.me ms) (is_next h.present.n w h.present.me ms m) (sym (is_chapter-push h.present.n w h.present.me ms m) ∙ followed) in
      All-weaker (λ e. e.origin < h.present.n) (λ e. was_stable e ≡ true → (now_stable e ≡ true) × (happened_before e m ≡ true)) (λ e member stable.
      (stable_stays h.present.n h.present.me ms m parts.1.straight.risen e member stable, next_is_after_stable h.present.n w h.present.me ms e m member parts.0 next.1 stable)) ms (origins_are_members h.present.n w h.present.me ms parts.0)

  -- so does an event
  abbrev Stays : Event → Type 0
  Stays e = is_stable_event h e ≡ true → (is_stable_event (with_message h m) e ≡ true) × (before e ≡ true)

  pub stable_event_stays : All Stays (events h)
  stable_event_stays = All-append Stays (events_from 0 h.past) (events_in (epoch_of h) ms)
      (λ k d l stable. (past_is_stable (with_message h m) k d l, (let between = epochs_are_between 0 h.past k d l in earlier_is_before (slice_index_or (events_from 0 h.past) k d) (present_event h m) (omega (arith, between.1)))))
      (All-map Stays (event_of (epoch_of h)) ms (All-weaker (λ e. was_stable e ≡ true → (now_stable e ≡ true) × (happened_before e m ≡ true)) (λ e. Stays (event_of (epoch_of h) e)) (λ e stays stable.
      let both = stays (sym (present_is_stable h e) ∙ stable) in
      (present_is_stable (with_message h m) e ∙ both.0, before_within (epoch_of h) e m ∙ both.1)) ms stable_message_stays))

  module _ (object : ObjectId) (value : Option (List ℕ)) where
    abbrev put : Event → Cell
    put e = kept_cell object value e.message.op

    abbrev goes : Event → Bool
    goes e = ((is_uncovered_event (events h) e && not (is_stable_event h e)) && not (covered e && before e)) && is_stable_event (with_message h m) e

    settled_splits : All (λ e. restrict (is_settled (with_message h m) e) (put e) ≡ join (restrict (not (covers_place m.op object value)) (restrict (is_settled h e) (put e))) (restrict (goes e) (put e))) (events h)
    settled_splits = All-weaker Stays (λ e. restrict (is_settled (with_message h m) e) (put e) ≡ join (restrict (not (covers_place m.op object value)) (restrict (is_settled h e) (put e))) (restrict (goes e) (put e))) (λ e stays.
        let settled : Bool = is_settled h e in
        let bare : restrict (settled && not (covered e)) (put e) ≡ restrict (not (covers_place m.op object value)) (restrict settled (put e)) =
        sym (restrict_both settled (not (covered e)) (put e)) ∙ ap (restrict settled) (bare_is_place object value m.op e.message.op) ∙ restrict_swap settled (not (covers_place m.op object value)) (put e) in
        ap (λ b. restrict (is_stable_event (with_message h m) e && b) (put e)) ((uncovered_events_of_one_more w h m t).0 e)
        ∙ splits (is_stable_event h e) (is_stable_event (with_message h m) e) (is_uncovered_event (events h) e) (covered e) (before e) stays (put e)
        ∙ ap (λ c. join c (restrict (goes e) (put e))) bare) (events h) stable_event_stays

    -- what goes from the log without the message
    abbrev bare : Message → Bool
    bare e = not (is_covered_by store_covers e.op m.op && happened_before e m)

    going_is_stripped : gather (λ e. restrict (goes e) (put e)) (events h) ≡ gather (λ e. cell_of object value e.op) (filter now_stable (filter bare (log_of h)))
    going_is_stripped =
        let goes_cell : Event → Cell = λ e. restrict (goes e) (put e) in
        let logs : Message → Bool = λ e. is_kept store_keeps e.op && is_uncovered store_covers ms e && not (was_stable e) in
        let cells : Message → Cell = λ e. cell_of object value e.op in
        let past = gather_none goes_cell (events_from 0 h.past) (All-weaker (λ e. is_stable_event h e ≡ true) (λ e. goes_cell e ≡ zero_cell) (λ e stable.
        stable_goes_not (is_stable_event h e) (is_uncovered_event (events h) e) (not (covered e && before e)) (is_stable_event (with_message h m) e) stable (put e)) (events_from 0 h.past) (past_is_stable h)) in
        gather-append goes_cell (events_from 0 h.past) (events_in (epoch_of h) ms)
        ∙ ap (λ c. join c (gather goes_cell (events_in (epoch_of h) ms))) past ∙ zero_join (gather goes_cell (events_in (epoch_of h) ms))
        ∙ gather-map goes_cell (event_of (epoch_of h)) ms
        ∙ gather_same (λ e. goes_cell (event_of (epoch_of h) e)) (λ e. restrict (logs e) (restrict (bare e) (restrict (now_stable e) (cells e)))) ms (λ e.
        (λ i. restrict (((present_is_covered_in_present h e i && not (present_is_stable h e i)) && not (is_covered_by store_covers e.op m.op && before_within (epoch_of h) e m i)) && present_is_stable (with_message h m) e i) (put (event_of (epoch_of h) e)))
        ∙ logged_goes (is_kept store_keeps e.op) (is_uncovered store_covers ms e) (was_stable e) (bare e) (now_stable e) (cells e))
        ∙ sym (gather-filter cells now_stable (filter bare (log_of h)) ∙ gather-filter (λ e. restrict (now_stable e) (cells e)) bare (log_of h) ∙ gather-filter (λ e. restrict (bare e) (restrict (now_stable e) (cells e))) logs ms)

    -- what the message gives, where it is stable at once
    message_is_stripped : gather (λ e. cell_of object value e.op) (filter now_stable (if is_kept store_keeps m.op then m ∷ [] else [])) ≡ restrict (now_stable m) (kept_cell object value m.op)
    message_is_stripped = by (is_kept store_keeps m.op) where
      by : (kept : Bool) → gather (λ e. cell_of object value e.op) (filter now_stable (if kept then m ∷ [] else [])) ≡ restrict (now_stable m) (restrict kept (cell_of object value m.op))
      by true = gather-filter (λ e. cell_of object value e.op) now_stable (m ∷ []) ∙ join_zero (restrict (now_stable m) (cell_of object value m.op))
      by false = sym (nothing_when (now_stable m))

    last_gives : restrict (is_settled (with_message h m) (present_event h m)) (kept_cell object value m.op) ≡ restrict (now_stable m) (kept_cell object value m.op)
    last_gives =
        (λ i. restrict (present_is_stable (with_message h m) m i && (uncovered_events_of_one_more w h m t).1 i) (kept_cell object value m.op))
        ∙ ap (λ b. restrict b (kept_cell object value m.op)) (and-true (now_stable m))

    -- what all settled operations give: what the message doesn't cover, and what goes from the log
    pub given_with_message : settled_given (with_message h m) object value ≡ join (restrict (not (covers_place m.op object value)) (settled_given h object value)) (gather (λ e. cell_of object value e.op) (stripped_of h m))
    given_with_message =
        let c : Bool = not (covers_place m.op object value) in
        let now : Event → Cell = λ e. restrict (is_settled (with_message h m) e) (put e) in
        let was : Event → Cell = λ e. restrict (is_settled h e) (put e) in
        let go : Event → Cell = λ e. restrict (goes e) (put e) in
        let cells : Message → Cell = λ e. cell_of object value e.op in
        let entries : List Message = filter bare (log_of h) in
        let own : List Message = if is_kept store_keeps m.op then m ∷ [] else [] in
        ap (gather now) (events_of_one_more h m) ∙ gather-append now (events h) (present_event h m ∷ [])
        ∙ ap (join (gather now (events h))) (join_zero (now (present_event h m)) ∙ last_gives ∙ sym message_is_stripped)
        ∙ ap (λ x. join x (gather cells (filter now_stable own))) (gather_agree now (λ e. join (restrict c (was e)) (go e)) (events h) settled_splits ∙ gather-join (λ e. restrict c (was e)) go (events h)
        ∙ (λ i. join (gather-restrict c was (events h) i) (going_is_stripped i)))
        ∙ join_assoc (restrict c (gather was (events h))) (gather cells (filter now_stable entries)) (gather cells (filter now_stable own))
        ∙ ap (join (restrict c (gather was (events h)))) (sym (ap (gather cells) (filter-append now_stable entries own) ∙ gather-append cells (filter now_stable entries) (filter now_stable own)))
