-- What is stable at a replica is causally stable there, whatever commands follow; and in an honest world it is everywhere.
use Rattle.std.proofs.Common.{◌≡◌, ℕ, ◌+◌, ◌<◌, ◌≤◌, ◌⊎◌, Bool, All, true, false, ◌==◌, nat_lt, Contains, IsTrue, List, [], ◌∷◌, ◌++◌, length, map, drop, get_or, if◌then◌else◌, refl, sym, ap, subst, ◌∙◌, inl, inr, append_assoc, arith}
use Rattle.std.proofs.Math.Seq.{drop-nil}
use Rattle.std.proofs.lemmas.Bool.{and_parts, cases_eq, cases_lt, cond-true, cond-false, or_cases, eq-eqb, ne_eqb, ltb-true, leb-true}
use Rattle.std.proofs.lemmas.List.{get_or_past}
use Rattle.std.proofs.lemmas.List.Elements.{All-contains, All-nil, All-push, All-append, All-map, All-weaker}
use Rattle.op_base.specs.Timestamp.{entry}
use Rattle.op_base.specs.Message.{number}
use Rattle.op_base.specs.declared.message.Message.{Message}
use Rattle.causal_model.specs.Chapter.{is_chapter, is_next}
use Rattle.causal_model.specs.Counts.{counts}
use Rattle.causal_model.specs.History.{Event, epoch_of, is_before}
use Rattle.causal_model.specs.Laws.Events.{present_event}
use Rattle.causal_model.specs.Order.{happened_before}
use Rattle.causal_model.specs.Settled.{is_stable_event}
use Rattle.causal_model.specs.Stability.{last_tag, stable_vector, is_stable}
use Rattle.causal_model.specs.State.{start}
use Rattle.causal_model.proofs.Delivery.Chapters.{is_chapter-push}
use Rattle.causal_model.proofs.Events.Events.{event_of, before_within, earlier_is_before}
use Rattle.causal_model.proofs.Theory.Lists.{induction_at_end}
use Rattle.causal_model.proofs.Delivery.Settling.{next_is_after_stable, stable_stays_stable, stable_count-le-known}
use Rattle.causal_model.proofs.Delivery.Stability.{entry-stable}
use Rattle.world_model.specs.Regrouping.{next_world}
use Rattle.world_model.specs.World.{PlainWorld, size_of, epoch_in, replica_of}
use Rattle.world_model.specs.Worlds.{IsWorld, KeepsWorld}
use Rattle.world_model.proofs.Commands.{sending_keeps_world, beating_keeps_world, giving_keeps_world, resending_keeps_world, rawing_keeps_world}
use Rattle.world_model.specs.Honest.{delivered_by, history_of}
use Rattle.world_model.proofs.Regrouping.{stays_or_begins, next_size, next_at, next_epoch, next_is_world}
use Rattle.world_model.proofs.Rounds.{settling_keeps_world}
use Rattle.world_model.proofs.Sent.{is_replicas_chapter}
use Rattle.world_model.proofs.Worlds.{world_keeps_itself}
use Rattle.honest_worlds.proofs.Epochs.{IsPresent, past_is_lower, past_or_present, events_there_too}
use Rattle.honest_worlds.proofs.Agreeing.{is_there_too}
use Rattle.honest_worlds.proofs.Shared.{fits_of, chapters_agree}
use Rattle.honest_worlds.proofs.SentMessages.{chapter_of, are_shared, known_at_origin}
use Rattle.honest_worlds.proofs.Growing.{GrowsAt, grows_not, sending_grows, beating_grows, giving_grows, resending_grows, rawing_grows, settling_grows}
use Rattle.world_model.specs.Commands.{WorldCommand, CanRun, after_command, CanRunAll}
use Rattle.world_model.specs.CausallyStable.{delivered_in, newly_delivered}
use Rattle.honest_worlds.specs.Laws.{StableIsCausallyStable, StableIsEverywhere}
use Rattle.causal_model.proofs.Delivery.Orders.{each_fits}
use Rattle.world_model.specs.Commands as world_command

-- ---- what a command makes of a world

-- what isn't a replica has delivered nothing
none_past : (world : PlainWorld) (r : ℕ) → size_of world ≤ r → delivered_by world r ≡ []
none_past world r past = ap (λ s. s.history.present.messages) (get_or_past world.replicas r (start 0 0) past)

-- the world goes on in its epoch, and what was delivered stays the front of what is
record GoesOn (world after : PlainWorld) : Type 0 where
  kept : KeepsWorld world after
  grown : (r : ℕ) → GrowsAt r world after

-- or the next epoch begins, in which nothing was delivered
record BeginsAnew (world after : PlainWorld) : Type 0 where
  is_world : IsWorld after
  epoch : epoch_in after ≡ epoch_in world + 1
  none : (r : ℕ) → delivered_by after r ≡ []

none_in_next : (n r : ℕ) (world : PlainWorld) → delivered_by (next_world n world) r ≡ []
none_in_next n r world = elim (cases_lt r n) [
  | inl l ↦ ap (λ s. s.history.present.messages) (next_at n world r l)
  | inr past ↦ none_past (next_world n world) r (omega (arith, past, next_size n world))
]

command_goes_on : (world : PlainWorld) (command : WorldCommand) → IsWorld world → CanRun world command → GoesOn world (after_command world command) ⊎ BeginsAnew world (after_command world command)
command_goes_on world (world_command.sends_at q update) is can = inl (record { kept = sending_keeps_world world q update is can.0 can.1; grown = λ r. sending_grows r world q update can.0 })
command_goes_on world (world_command.beats_at q) is can = inl (record { kept = beating_keeps_world world q is can; grown = λ r. beating_grows r world q can })
command_goes_on world (world_command.gives q k seq) is can = inl (record { kept = giving_keeps_world world q k seq is can; grown = λ r. giving_grows r world q k seq can })
command_goes_on world (world_command.resends q k) is can = inl (record { kept = resending_keeps_world world q k is can; grown = λ r. resending_grows r world q k can })
command_goes_on world (world_command.raws q bytes) is can = inl (record { kept = rawing_keeps_world world q bytes is can.0 can.1; grown = λ r. rawing_grows r world q bytes can.0 })
command_goes_on world world_command.settles is can = inl (record { kept = settling_keeps_world world is; grown = λ r. settling_grows r world })
command_goes_on world (world_command.regroups n) is can = stays_or_begins n world (λ made. GoesOn world made.1 ⊎ BeginsAnew world made.1)
    (λ answer none. inl (record { kept = world_keeps_itself world is; grown = λ r. grows_not (delivered_by world r) }))
    (λ more rests. inr (record { is_world = next_is_world n world is can.1 more rests can.0; epoch = next_epoch n world is can.0; none = λ r. none_in_next n r world }))

-- ---- what comes later happened after what is stable

later_is_after : (n w me : ℕ) (ms rest : List Message) (m : Message) → m.origin < n → IsTrue (is_chapter n w me (ms ++ rest)) → IsTrue (is_stable (stable_vector n me ms) m) → All (λ e. happened_before m e ≡ true) rest
later_is_after n w me ms rest m low t stable = induction_at_end (λ g. IsTrue (is_chapter n w me (ms ++ g)) → All (λ e. happened_before m e ≡ true) g) (λ _. All-nil (λ e. happened_before m e ≡ true)) (λ g e ih whole.
    let both = and_parts (is_chapter n w me (ms ++ g)) (is_next n w me (ms ++ g) e) (sym (is_chapter-push n w me (ms ++ g) e) ∙ subst (λ x. IsTrue (is_chapter n w me x)) (sym (append_assoc ms g (e ∷ []))) whole) in
    All-push (λ y. happened_before m y ≡ true) g e (ih both.0) (next_is_after_stable n w me (ms ++ g) m e low both.0 both.1 (stable_stays_stable n w me ms g m low both.0 stable))) rest t

drop_front : (ms rest : List Message) → drop (length ms) (ms ++ rest) ≡ rest
drop_front [] rest = refl
drop_front (m ∷ ms) rest = drop_front ms rest

-- nothing is new where nothing was delivered
none_is_new : (r : ℕ) (world after : PlainWorld) → delivered_by after r ≡ [] → newly_delivered r world after ≡ []
none_is_new r world after none = by (epoch_of (history_of after r) == epoch_of (history_of world r)) where
  new : Message → Event
  new = present_event (history_of after r)

  by : (same : Bool) → (if same then map new (drop (length (delivered_by world r)) (delivered_by after r)) else []) ≡ []
  by true = ap (λ ms. map new (drop (length (delivered_by world r)) ms)) none ∙ ap (map new) (drop-nil (length (delivered_by world r)))
  by false = refl

module _ (r : ℕ) (e : Event) where
  abbrev IsBefore : Event → Type 0
  IsBefore later = IsTrue (is_before e later)

  -- an event of an epoch that is over, or one of the present epoch whose message is stable at replica r
  record IsStableNow (world : PlainWorld) : Type 0 where
    replica : r < size_of world
    member : e.message.origin < size_of world
    now : e.epoch ≡ epoch_in world
    stable : IsTrue (is_stable (stable_vector (size_of world) r (delivered_by world r)) e.message)

  abbrev StableAt : PlainWorld → Type 0
  StableAt world = IsWorld world × ((e.epoch < epoch_in world) ⊎ IsStableNow world)

  -- where the world goes on, what replica r delivers is of the epoch that the world is in
  module _ (world after : PlainWorld) (is : IsWorld world) (goes : GoesOn world after) (l : r < size_of world) where
    new_ones : newly_delivered r world after ≡ map (event_of (epoch_in world)) (goes.grown r).0
    new_ones =
        let rest = (goes.grown r).0 in
        let epoch : epoch_of (history_of after r) ≡ epoch_in world = (goes.kept.is_world.replicas r (omega (arith, l, goes.kept.size))).in_epoch ∙ goes.kept.epoch in
        cond-true _ _ _ (eq-eqb (epoch_of (history_of after r)) (epoch_of (history_of world r)) (epoch ∙ sym (is.replicas r l).in_epoch))
        ∙ ap (λ ms. map (present_event (history_of after r)) (drop (length (delivered_by world r)) ms)) (goes.grown r).1
        ∙ ap (map (present_event (history_of after r))) (drop_front (delivered_by world r) rest)
        ∙ ap (λ k. map (event_of k) rest) epoch

    new_are_before : All (λ m. IsBefore (event_of (epoch_in world) m)) (goes.grown r).0 → All IsBefore (newly_delivered r world after)
    new_are_before each = subst (All IsBefore) (sym new_ones) (All-map IsBefore (event_of (epoch_in world)) (goes.grown r).0 each)

  -- an event of before
  over_goes_on : (world after : PlainWorld) → IsWorld world → GoesOn world after → e.epoch < epoch_in world → All IsBefore (newly_delivered r world after)
  over_goes_on world after is goes over = elim (cases_lt r (size_of world)) [
    | inl l ↦ new_are_before world after is goes l (λ i d low. earlier_is_before e (event_of (epoch_in world) (get_or (goes.grown r).0 i d)) over)
    | inr past ↦ subst (All IsBefore) (sym (none_is_new r world after (none_past after r (omega (arith, past, goes.kept.size))))) (All-nil IsBefore)
  ]

  -- an event of now
  module _ (world after : PlainWorld) (is : IsWorld world) (goes : GoesOn world after) (stable : IsStableNow world) where
    whole : IsTrue (is_chapter (size_of world) after.w r (delivered_by world r ++ (goes.grown r).0))
    whole =
        let replica = goes.kept.is_world.replicas r (omega (arith, stable.replica, goes.kept.size)) in
        subst (λ ms. IsTrue (is_chapter (size_of world) after.w r ms)) (goes.grown r).1
        (subst (λ u. IsTrue (is_chapter u after.w r (delivered_by after r))) goes.kept.size (is_replicas_chapter (size_of after) after.w after.limit r (replica_of after r) replica))

    now_goes_on : All IsBefore (newly_delivered r world after)
    now_goes_on =
        let rest = (goes.grown r).0 in
        new_are_before world after is goes stable.replica (All-weaker (λ m. happened_before e.message m ≡ true) (λ m. IsBefore (event_of (epoch_in world) m))
        (λ m t. subst (λ k. is_before (event_of k e.message) (event_of (epoch_in world) m) ≡ true) (sym stable.now) (before_within (epoch_in world) e.message m ∙ t)) rest
        (later_is_after (size_of world) after.w r (delivered_by world r) rest e.message stable.member whole stable.stable))

    stays_stable : IsStableNow after
    stays_stable =
        let still = stable_stays_stable (size_of world) after.w r (delivered_by world r) (goes.grown r).0 e.message stable.member whole stable.stable in
        record {
          replica = omega (arith, stable.replica, goes.kept.size);
          member = omega (arith, stable.member, goes.kept.size);
          now = stable.now ∙ sym goes.kept.epoch;
          stable = subst (λ u. IsTrue (is_stable (stable_vector u r (delivered_by after r)) e.message)) (sym goes.kept.size) (subst (λ ms. IsTrue (is_stable (stable_vector (size_of world) r ms) e.message)) (sym (goes.grown r).1) still);
        }

  -- one command
  one_command : (world : PlainWorld) (command : WorldCommand) → StableAt world → CanRun world command → StableAt (after_command world command) × All IsBefore (newly_delivered r world (after_command world command))
  one_command world command is can =
      let after = after_command world command in
      elim (command_goes_on world command is.0 can) [
        | inl goes ↦ elim is.1 [
          | inl over ↦ ((goes.kept.is_world, inl (omega (arith, over, goes.kept.epoch))), over_goes_on world after is.0 goes over)
          | inr now ↦ ((goes.kept.is_world, inr (stays_stable world after is.0 goes now)), now_goes_on world after is.0 goes now)
        ]
        | inr anew ↦ (
          (anew.is_world, inl (elim is.1 [ inl over ↦ omega (arith, over, anew.epoch) | inr now ↦ omega (arith, now.now, anew.epoch) ])),
          subst (All IsBefore) (sym (none_is_new r world after (anew.none r))) (All-nil IsBefore),
        )
      ]

  all_commands : (commands : List WorldCommand) (world : PlainWorld) → StableAt world → CanRunAll world commands → All IsBefore (delivered_in r world commands)
  all_commands [] world is can = All-nil IsBefore
  all_commands (command ∷ commands) world is can =
      let one = one_command world command is can.0 in
      All-append IsBefore (newly_delivered r world (after_command world command)) (delivered_in r (after_command world command) commands) one.1 (all_commands commands (after_command world command) one.0 can.1)

-- a stable event of the present epoch is one whose message is stable
stable_message : (world : PlainWorld) (r : ℕ) (e : Event) → IsWorld world → r < size_of world → IsPresent world r e → IsTrue (is_stable_event (history_of world r) e)
    → IsTrue (is_stable (stable_vector (size_of world) r (delivered_by world r)) e.message)
stable_message world r e is l present stable =
    let h = history_of world r in
    let replica = is.replicas r l in
    elim (or_cases (nat_lt e.epoch (epoch_of h)) (is_stable (stable_vector h.present.n h.present.me h.present.messages) e.message) stable) [
      | inl over ↦ absurd (omega (arith, ltb-true e.epoch (epoch_of h) over, replica.in_epoch, ap (λ (y : Event). y.epoch) present.now))
      | inr here ↦ subst (λ me. is_stable (stable_vector (size_of world) me h.present.messages) e.message ≡ true) replica.of_member (subst (λ u. is_stable (stable_vector u h.present.me h.present.messages) e.message ≡ true) replica.of_store here)
    ]

pub stable_is_causally_stable : StableIsCausallyStable
stable_is_causally_stable world r e is l has stable commands can = all_commands r e commands world (
  is,
  elim (past_or_present world r is l e has) [
    | inl over ↦ inl (past_is_lower world r is l e over)
    | inr present ↦
        let chapter = is_replicas_chapter (size_of world) world.w world.limit r (replica_of world r) (is.replicas r l) in
        let fit = All-contains (λ z. (z.origin < size_of world) × (0 < number z)) (delivered_by world r) e.message (each_fits (size_of world) world.w r (delivered_by world r) chapter) present.there in
        inr (record { replica = l; member = fit.0; now = ap (λ (y : Event). y.epoch) present.now; stable = stable_message world r e is l present stable })
  ],
) can

pub stable_is_everywhere : StableIsEverywhere
stable_is_everywhere world r q e honest l k has stable = events_there_too world honest r q l k e (λ present.
    let u = size_of world in
    let m = e.message in
    let P = delivered_by world in
    let fit = fits_of u world.w P (are_shared world honest) r m l present.there in
    elim (cases_eq q r) [
      | inl e ↦ subst (λ y. Contains (P y) m) (sym e) present.there
      | inr ne ↦
          let known = stable_count-le-known u r (P r) m.origin q k in
          let vector = cond-false (q == r) (counts u (P r)) (last_tag u (P r) q) (ne_eqb q r ne) in
          let here = stable_message world r e honest.is_world l present stable in
          is_there_too u world.w q (P r) (P q) (chapter_of world honest q k) (chapters_agree u world.w P (are_shared world honest) r q l k) m present.there fit.1
          (omega (arith, leb-true (number m) (entry (stable_vector u r (P r)) m.origin) here, entry-stable u r (P r) m.origin fit.0, known, ap (λ tag. entry tag m.origin) vector, known_at_origin world honest r q m.origin l k))
    ]) has
