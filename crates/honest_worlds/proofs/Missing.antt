-- A message that was sent and that a replica has not delivered: it stands in its sender's outbox, and to offer that delivers.
use Rattle.std.proofs.Common.{◌≡◌, ◌≢◌, ℕ, zero, suc, ◌<◌, All, true, false, not, ◌||◌, ◌==◌, Contains, List, [], ◌∷◌, get_or, refl, sym, ap, subst, ◌∙◌, inl, inr, ◌⊎◌, if◌then◌else◌, Option, Some, None, arith}
use Rattle.std.specs.List.{filter, list_any}
use Rattle.std.proofs.lemmas.Bool.{and_parts, cases_Bool, cond-false, eq-eqb, eqb-true, ne_eqb, leb-true, or_left, or_right, both_ways, not_from_false, false_from_ne_true}
use Rattle.std.proofs.lemmas.List.Elements.{All-contains, All-head}
use Rattle.std.proofs.lemmas.List.Folds.{list_any-append}
use Rattle.op_base.specs.Timestamp.{entry}
use Rattle.op_base.specs.Message.{number}
use Rattle.op_base.specs.declared.message.Message.{Message}
use Rattle.op_base.specs.declared.outcome.Step.{Step}
use Rattle.causal_model.specs.Counts.{count_of, counts, is_deliverable}
use Rattle.causal_model.specs.Receiving.{next_of, is_old, is_far, steps, with_early, step_of, refusal_of, steps_of, receive_by, receive_rule}
use Rattle.causal_model.specs.Order.{same_id}
use Rattle.causal_model.specs.State.{State, counted}
use Rattle.causal_model.specs.Early.{is_again, put_early, stands_before}
use Rattle.causal_model.specs.Stability.{last_tag, stable_vector, is_stable}
use Rattle.causal_model.specs.declared.outcome.Refusal.TheVariants as refusal
use Rattle.causal_model.proofs.Delivery.Counts.{entry-counts}
use Rattle.causal_model.proofs.States.Early.{IsDeliverable, test-from_IsDeliverable, test-from_IsNew}
use Rattle.causal_model.proofs.Theory.Elements.{item_from_list_any}
use Rattle.causal_model.proofs.Theory.Finds.{none_passes}
use Rattle.causal_model.proofs.States.Outcomes.{IsUnrefused, steps_of_accepted}
use Rattle.causal_model.proofs.Delivery.Settling.{stable_count-le-known}
use Rattle.causal_model.proofs.Delivery.Stability.{entry-stable}
use Rattle.causal_model.proofs.States.Steps.{steps_of_one_more}
use Rattle.world_model.specs.Honest.{IsSentMessage, IsHonest, delivered_by}
use Rattle.world_model.specs.Offering.{Offered, none_offered, offered_more, outbox_in, offered_between}
use Rattle.world_model.specs.Settling.{is_delivery}
use Rattle.world_model.specs.World.{PlainWorld, size_of, replica_of}
use Rattle.honest_worlds.proofs.Lists.{fold_reaches}
use Rattle.honest_worlds.proofs.Shared.{chapters_agree}
use Rattle.honest_worlds.proofs.SentMessages.{sent_is_delivered, sender_is_member, are_shared, sent_is_near, known_at_origin, sent_fits, outbox_was_sent}
use Rattle.honest_worlds.proofs.OnlySent.{HasOnlySent, replica_has_only_sent, taken, accept_has_only_sent, receives_sent}
use Rattle.causal_model.proofs.Theory.Members.{member_of_filter}

-- ---- an early message is there once it was put

put_is_there : (e : Message) (early : List Message) → Contains (put_early e early) e
put_is_there e [] = (zero, omega arith, refl)
put_is_there e (y ∷ early) =
    let rest = put_is_there e early in
    elim (stands_before e y) as (λ b. Contains (if b then e ∷ y ∷ early else y ∷ put_early e early) e) [ true ↦ (zero, omega arith, refl) | false ↦ (suc rest.0, omega (arith, rest.1), rest.2) ]

-- what is neither old nor early already nor far isn't refused
none-from_IsUnrefused : (w : ℕ) (s : State) (m : Message) → IsUnrefused w s m → refusal_of w s m ≡ None
none-from_IsUnrefused w s m is = λ i. if is.new i then Some refusal.Old else if is.apart i then Some refusal.Again else if is.near i then Some refusal.Far else None

-- ---- what was sent and is not everywhere is unstable at its sender

module _ (world : PlainWorld) (honest : IsHonest world) where
  -- a message that was sent, that replica r has not delivered, and that it can deliver
  pub record IsMissing (r : ℕ) (m : Message) : Type 0 where
    pub sent : IsSentMessage world m
    pub other : m.origin ≢ r
    pub new : count_of (delivered_by world r) m.origin < number m
    pub can : IsDeliverable (size_of world) (counts (size_of world) (delivered_by world r)) m

  missing_is_unstable : (r : ℕ) (m : Message) → r < size_of world → IsMissing r m → is_stable (stable_vector (size_of world) m.origin (delivered_by world m.origin)) m ≡ false
  missing_is_unstable r m l missing =
      let u = size_of world in
      let k = m.origin in
      let h = delivered_by world k in
      let member = sender_is_member world honest m missing.sent in
      let known = stable_count-le-known u k h k r l in
      let vector = cond-false (r == k) (counts u h) (last_tag u h r) (ne_eqb r k (λ e. missing.other (sym e))) in
      false_from_ne_true (is_stable (stable_vector u k h) m) (λ stable. omega (arith, leb-true (number m) (entry (stable_vector u k h) k) stable, entry-stable u k h k member, known, ap (λ tag. entry tag k) vector, known_at_origin world honest k r k member l, missing.new))

  missing_is_in_outbox : (r : ℕ) (m : Message) → r < size_of world → IsMissing r m → Contains (outbox_in (replica_of world m.origin)) m
  missing_is_in_outbox r m l missing =
      let k = m.origin in
      let member = sender_is_member world honest m missing.sent in
      let replica = honest.is_world.replicas k member in
      let h = (replica_of world k).history.present in
      let unstable = missing_is_unstable r m l missing in
      let here : is_stable (stable_vector h.n h.me h.messages) m ≡ false = subst (λ me. is_stable (stable_vector h.n me h.messages) m ≡ false) (sym replica.of_member) (subst (λ u. is_stable (stable_vector u k h.messages) m ≡ false) (sym replica.of_store) unstable) in
      member_of_filter (λ e. e.origin == h.me) (filter (λ e. not (is_stable (stable_vector h.n h.me h.messages) e)) h.messages) m
      (member_of_filter (λ e. not (is_stable (stable_vector h.n h.me h.messages) e)) h.messages m (sent_is_delivered world honest m member missing.sent) (not_from_false _ here))
      (eq-eqb k h.me (sym replica.of_member))

  -- ---- an offer of such a message delivers

  module _ (r : ℕ) (l : r < size_of world) where
    -- a state with the same messages, at which none is next
    record IsStill (s : State) : Type 0 where
      fed : HasOnlySent world r s
      none : next_of s ≡ None
      same : s.history.present.messages ≡ delivered_by world r

    delivers_at : (s : State) (m : Message) → IsStill s → IsMissing r m → list_any is_delivery (steps_of (receive_rule world.w m s).0) ≡ true
    delivers_at s m is missing =
        ap (λ o. list_any is_delivery (steps_of (receive_by world.w m s o).0)) (none-from_IsUnrefused world.w s m (record { new = new; apart = apart; near = near }))
        ∙ ap (list_any is_delivery) (steps_of_accepted made.0) ∙ some_is_next (next_of (with_early s m)) refl where
          counts_here : counted s.history ≡ counts (size_of world) (delivered_by world r)
          counts_here = ap (λ k. counts k s.history.present.messages) is.fed.of_store ∙ ap (counts (size_of world)) is.same

          can : is_deliverable s.history.present.n (counted s.history) m ≡ true
          can = subst (λ k. is_deliverable k (counted s.history) m ≡ true) (sym is.fed.of_store) (subst (λ c. is_deliverable (size_of world) c m ≡ true) (sym counts_here) (test-from_IsDeliverable (size_of world) (counts (size_of world) (delivered_by world r)) m missing.can))

          new : is_old s.history.present.me (counted s.history) m ≡ false
          new = test-from_IsNew s.history.present.me (counted s.history) m (record {
            other = λ e. missing.other (e ∙ is.fed.of_member);
            ahead = omega (arith, ap (λ c. entry c m.origin) counts_here, entry-counts (size_of world) (delivered_by world r) m.origin (sender_is_member world honest m missing.sent), missing.new);
          })

          -- it is not early, since then it could be delivered
          apart : is_again s.early m ≡ false
          apart = false_from_ne_true (is_again s.early m) (λ t.
              let e = item_from_list_any (same_id m) s.early t in
              let both = and_parts (m.origin == e.0.origin) (number m == number e.0) e.1.1 in
              let e_sent = All-contains (IsSentMessage world) s.early e.0 is.fed.early e.1.0 in
              let em = sender_is_member world honest e.0 e_sent in
              let mm = sender_is_member world honest m missing.sent in
              let one : m ≡ e.0 = chapters_agree (size_of world) world.w (delivered_by world) (are_shared world honest) m.origin e.0.origin mm em m e.0 (sent_is_delivered world honest m mm missing.sent) (sent_is_delivered world honest e.0 em e_sent) (eqb-true m.origin e.0.origin both.0) (eqb-true (number m) (number e.0) both.1) in
              let fails = All-contains (λ y. is_deliverable s.history.present.n (counted s.history) y ≡ false) s.early e.0 (none_passes (is_deliverable s.history.present.n (counted s.history)) s.early is.none) e.1.0 in
              both_ways (is_deliverable s.history.present.n (counted s.history) m) (subst (λ y. is_deliverable s.history.present.n (counted s.history) y ≡ false) (sym one) fails) can)

          near : is_far s.history.present.n world.w s.history.present.me (counted s.history) m ≡ false
          near = subst (λ k. is_far k world.w s.history.present.me (counted s.history) m ≡ false) (sym is.fed.of_store) (subst (λ me. is_far (size_of world) world.w me (counted s.history) m ≡ false) (sym is.fed.of_member) (subst (λ c. is_far (size_of world) world.w r c m ≡ false) (sym counts_here) (sent_is_near world honest r m l missing.sent)))

          made : List Step × State
          made = steps world.w (with_early s m)

          -- with it among the early ones some message is next
          some_is_next : (o : Option Message) → next_of (with_early s m) ≡ o → list_any is_delivery made.0 ≡ true
          some_is_next None none =
              let fails = none_passes (is_deliverable s.history.present.n (counted s.history)) (put_early m s.early) none in
              absurd (both_ways (is_deliverable s.history.present.n (counted s.history) m) (All-contains (λ y. is_deliverable s.history.present.n (counted s.history) y ≡ false) (put_early m s.early) m fails (put_is_there m s.early)) can)
          some_is_next (Some e) next =
              let fit = sent_fits world m honest missing.sent in
              let fed = accept_has_only_sent world honest r l s m is.fed missing.sent fit.0 fit.1 (record { new = new; apart = apart; near = near }) in
              let first = steps_of_one_more world.w (with_early s m) e next in
              let straight = (taken world honest r l (with_early s m) e fed next).straight in
              ap (λ made. list_any is_delivery made.0) first ∙ or_left _ _ (ap (λ o. is_delivery (step_of e o)) straight)

-- ---- an outbox with such a message delivers

pub none_delivered : (made : List Step) → All (λ step. is_delivery step ≡ true) made → list_any is_delivery made ≡ false → made ≡ []
none_delivered [] all none = refl
none_delivered (step ∷ made) all none = absurd (both_ways (is_delivery step || list_any is_delivery made) none (or_left _ _ (All-head (λ s. is_delivery s ≡ true) step made all)))

module _ (world : PlainWorld) (honest : IsHonest world) (r : ℕ) (l : r < size_of world) (m : Message) (missing : IsMissing world honest r m) where
  Goes : Offered → Type 0
  Goes o = list_any is_delivery o.steps ≡ true

  Waits : Offered → Type 0
  Waits o = (list_any is_delivery o.steps ≡ true) ⊎ IsStill world honest r l o.state

  goes_on : (o : Offered) (y : Message) → Goes o → Goes (offered_more world.w o y)
  unfolding Goes
  goes_on o y t = list_any-append is_delivery o.steps (steps_of (receive_rule world.w y o.state).0) ∙ or_left _ _ t

  more_goes : (o : Offered) (y : Message) → list_any is_delivery (steps_of (receive_rule world.w y o.state).0) ≡ true → Goes (offered_more world.w o y)
  unfolding Goes
  more_goes o y t = list_any-append is_delivery o.steps (steps_of (receive_rule world.w y o.state).0) ∙ or_right _ _ t

  waits_on : (o : Offered) (y : Message) → IsSentMessage world y → Waits o → Waits (offered_more world.w o y)
  unfolding Goes Waits
  waits_on o y sent (inl t) = inl (goes_on o y t)
  waits_on o y sent (inr still) =
      let made = steps_of (receive_rule world.w y o.state).0 in
      let fit = sent_fits world y honest sent in
      let got = receives_sent world honest r l o.state y still.fed still.none sent fit.0 fit.1 in
      elim (cases_Bool (list_any is_delivery made)) [
        | inl t ↦ inl (more_goes o y t)
        | inr f ↦ inr (record { fed = got.fed; none = got.none; same = got.still (none_delivered made got.deliver f) ∙ still.same })
      ]

  delivers_here : (o : Offered) → Waits o → Goes (offered_more world.w o m)
  unfolding Goes Waits
  delivers_here o (inl t) = goes_on o m t
  delivers_here o (inr still) = more_goes o m (delivers_at world honest r l o.state m still missing)

  pub outbox_delivers : list_any is_delivery (offered_between world r m.origin).steps ≡ true
  unfolding Goes Waits
  outbox_delivers =
      let k = m.origin in
      let member = sender_is_member world honest m missing.sent in
      let sent = outbox_was_sent world k honest in
      let s = replica_of world r in
      fold_reaches Waits Goes (offered_more world.w) (outbox_in (replica_of world k)) m (missing_is_in_outbox world honest r m l missing)
      (λ i d low b w. waits_on b (get_or (outbox_in (replica_of world k)) i d) (sent i d low) w)
      (λ i d low b t. goes_on b (get_or (outbox_in (replica_of world k)) i d) t)
      delivers_here (none_offered s)
      (inr (record { fed = replica_has_only_sent world r honest l; none = (honest.is_world.replicas r l).none_is_next; same = refl }))
