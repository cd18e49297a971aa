-- What the members of an honest world share: a message that was sent is its origin's, and is neither crooked nor far.
use Rattle.std.proofs.Common.{if◌then◌else◌, Some, None, ◌≡◌, ◌≢◌, ℕ, suc, ◌+◌, ◌-◌, ◌<◌, ◌≤◌, All, Bool, true, false, not, ◌==◌, cond, Contains, IsTrue, List, [], ◌∷◌, ◌++◌, length, get_or, refl, sym, ap, subst, ◌∙◌, inl, inr, append_assoc, arith}
use Rattle.std.specs.List.{filter}
use Rattle.std.proofs.lemmas.Bool.{both_ways, cases_eq, cases_lt, cond-false, ne_eqb}
use Rattle.std.proofs.lemmas.List.{get_or_past, length-map}
use Rattle.std.proofs.lemmas.List.FromFn.{length-range_with_len}
use Rattle.std.proofs.lemmas.List.Elements.{All-contains, All-contains_itself, All-filter, Contains-append_left, Contains-push, All-nil}
use Rattle.op_base.specs.Timestamp.{entry}
use Rattle.op_base.specs.Message.{number, fits}
use Rattle.op_base.specs.declared.message.Message.{Message}
use Rattle.causal_model.specs.Chapter.{is_chapter}
use Rattle.causal_model.specs.Counts.{count_of, counts, is_carried}
use Rattle.causal_model.specs.Receiving.{is_old, is_far, steps, with_early, accepted, is_accepted, receive_by, receive_rule}
use Rattle.causal_model.specs.State.{State, counted, start}
use Rattle.causal_model.specs.Early.{is_again}
use Rattle.causal_model.specs.Stability.{last_tag, stable_count, carries_operation, unstable_of, noop_window, stable_vector, is_stable}
use Rattle.causal_model.specs.declared.outcome.Receive.TheVariants as receive
use Rattle.causal_model.specs.declared.outcome.Refusal.TheVariants as refusal
use Rattle.causal_model.proofs.Delivery.Chapters.{IsNext}
use Rattle.causal_model.proofs.Delivery.Counts.{entry-counts}
use Rattle.causal_model.proofs.States.Early.{IsDeliverable, test-from_IsNear}
use Rattle.causal_model.proofs.Delivery.Limits.{numbers_are_counted}
use Rattle.causal_model.proofs.States.Outcomes.{accepted_is_accepted}
use Rattle.causal_model.proofs.Delivery.Settling.{stable_count-le-known}
use Rattle.causal_model.proofs.Delivery.Numbered.{unstable_are_numbered}
use Rattle.causal_model.proofs.Delivery.Timestamps.{tags_are_counted, entry-zero_tag}
use Rattle.causal_model.proofs.Delivery.Windows.{windows_hold}
use Rattle.world_model.specs.Honest.{history_of, IsSentMessage, IsHonest, delivered_by}
use Rattle.honest_worlds.specs.Laws.{SentIsNear}
use Rattle.world_model.specs.World.{replica_of, PlainWorld, size_of, replica_of, sent_by}
use Rattle.world_model.specs.Worlds.{own_of}
use Rattle.world_model.proofs.Sent.{is_replicas_chapter, sent_are_own}
use Rattle.world_model.specs.Offering.{outbox_in}
use Rattle.honest_worlds.proofs.Lists.{split_at}
use Rattle.honest_worlds.proofs.Agreeing.{message_numbered, last_tag_has_of, Agree, is_received_next}
use Rattle.honest_worlds.proofs.Shared.{front_is_chapter, AreShared, at_origin, chapters_agree}

module _ (world : PlainWorld) (honest : IsHonest world) where
  pub chapter_of : (r : ℕ) → r < size_of world → IsTrue (is_chapter (size_of world) world.w r (delivered_by world r))
  chapter_of r l = is_replicas_chapter (size_of world) world.w world.limit r (replica_of world r) (honest.is_world.replicas r l)

  -- a sent message is one that its origin delivered, and is of its origin
  pub sent_is_delivered : (m : Message) → m.origin < size_of world → IsSentMessage world m → Contains (delivered_by world m.origin) m
  sent_is_delivered m l sent =
      let s = replica_of world m.origin in
      let own : Message → Bool = λ e. e.origin == s.history.present.me in
      All-contains (Contains s.history.present.messages) (own_of s) m (All-filter own (Contains s.history.present.messages) s.history.present.messages (All-contains_itself s.history.present.messages)) (subst (λ ms. Contains ms m) (honest.is_world.sent m.origin l) sent)

  -- the sender is a member
  pub sender_is_member : (m : Message) → IsSentMessage world m → m.origin < size_of world
  sender_is_member m sent = elim (cases_lt m.origin (size_of world)) [
    | inl l ↦ l
    | inr past ↦
        let none : sent_by world m.origin ≡ [] = get_or_past world.sent m.origin [] (omega (arith, past, honest.is_world.of_each)) in
        let has = subst (λ ms. Contains ms m) none sent in absurd (omega (arith, has.1))
  ]

  pub are_shared : AreShared (size_of world) world.w (delivered_by world)
  are_shared = record {
    chapter = chapter_of;
    shared = λ r l i d k.
        let m = get_or (delivered_by world r) i d in
        let sent = honest.delivered r l i d k in
        sent_is_delivered m (sender_is_member m sent) sent;
  }

  -- ---- no message that was sent is crooked

  -- after messages that were sent, which are a chapter of r, one of another member that was sent and can be delivered is next
  pub sent_is_next : (r : ℕ) (h : List Message) (m : Message) → r < size_of world → IsTrue (is_chapter (size_of world) world.w r h) → All (IsSentMessage world) h
      → IsSentMessage world m → m.origin ≢ r → IsDeliverable (size_of world) (counts (size_of world) h) m → IsNext (size_of world) world.w r h m
  sent_is_next r h m l t all sent ne can =
      let k = m.origin in
      let member = sender_is_member m sent in
      let s = split_at (delivered_by world k) m (sent_is_delivered m member sent) in
      let whole : delivered_by world k ≡ (s.0 ++ m ∷ []) ++ s.1 = s.2 ∙ sym (append_assoc s.0 (m ∷ []) s.1) in
      let chapter = front_is_chapter (size_of world) world.w k (s.0 ++ m ∷ []) s.1 (subst (λ ms. IsTrue (is_chapter (size_of world) world.w k ms)) whole (chapter_of k member)) in
      let agree : Agree s.0 h = λ a b in_g in_h eo en.
      let a_there : Contains (delivered_by world k) a = subst (λ ms. Contains ms a) (sym s.2) (Contains-append_left s.0 (m ∷ s.1) a in_g) in
      let b_sent = All-contains (IsSentMessage world) h b all in_h in
      let b_member = sender_is_member b b_sent in
      chapters_agree (size_of world) world.w (delivered_by world) are_shared k b.origin member b_member a b a_there (sent_is_delivered b b_member b_sent) eo en in
      is_received_next (size_of world) world.w k r s.0 h m chapter t refl ne l agree can

  -- ---- no message that was sent is far

  -- no member has more messages of another than that sent
  pub most_at_origin : (y x : ℕ) → y < size_of world → x < size_of world → count_of (delivered_by world y) x ≤ count_of (delivered_by world x) x
  most_at_origin y x ly lx = elim (cases_eq (count_of (delivered_by world y) x) 0) [
    | inl none ↦ omega (arith, none)
    | inr some ↦
        let u = size_of world in
        let e = message_numbered u world.w y (delivered_by world y) (chapter_of y ly) x (count_of (delivered_by world y) x) (omega (arith, some)) (omega arith) in
        let there : Contains (delivered_by world x) e.0 = subst (λ z. Contains (delivered_by world z) e.0) e.1.1 (at_origin u world.w (delivered_by world) are_shared y e.0 ly e.1.0) in
        omega (arith, e.1.2, All-contains (λ z. number z ≤ count_of (delivered_by world x) z.origin) (delivered_by world x) e.0 (numbers_are_counted u world.w x (delivered_by world x) (chapter_of x lx)) there, ap (count_of (delivered_by world x)) e.1.1)
  ]

  both_parts : (p : Message → Bool) (ms : List Message) → length ms ≤ length (filter p ms) + length (filter (λ e. not (p e)) ms)
  both_parts p [] = omega arith
  both_parts p (m ∷ ms) = elim (p m) as (λ b. suc (length ms) ≤ length (cond b (m ∷ filter p ms) (filter p ms)) + length (cond (not b) (m ∷ filter (λ e. not (p e)) ms) (filter (λ e. not (p e)) ms))) [
    | true ↦ omega (arith, both_parts p ms)
    | false ↦ omega (arith, both_parts p ms)
  ]

  within_windows : (r : ℕ) (m : Message) → r < size_of world → IsSentMessage world m → number m ≤ count_of (delivered_by world r) m.origin + (world.w + noop_window (size_of world) world.w)
  within_windows r m l sent =
      let u = size_of world in
      let k = m.origin in
      let member = sender_is_member m sent in
      let s = split_at (delivered_by world k) m (sent_is_delivered m member sent) in
      let there = s.0 ++ m ∷ [] in
      let whole : delivered_by world k ≡ there ++ s.1 = s.2 ∙ sym (append_assoc s.0 (m ∷ []) s.1) in
      let chapter = front_is_chapter u world.w k there s.1 (subst (λ ms. IsTrue (is_chapter u world.w k ms)) whole (chapter_of k member)) in
      elim (cases_eq r k) [
        | inl e ↦ omega (arith, All-contains (λ z. number z ≤ count_of (delivered_by world k) z.origin) (delivered_by world k) m (numbers_are_counted u world.w k (delivered_by world k) (chapter_of k member)) (sent_is_delivered m member sent), ap (λ z. count_of (delivered_by world z) k) e)
        | inr ne ↦
            let counted : number m ≤ count_of there k = All-contains (λ z. number z ≤ count_of there z.origin) there m (numbers_are_counted u world.w k there chapter) (Contains-push s.0 m) in
            let last : entry (last_tag u there r) k ≤ count_of (delivered_by world r) k = last_tag_has_of (λ tag. entry tag k ≤ count_of (delivered_by world r) k) u there r (omega (arith, entry-zero_tag u k)) (λ e has o.
            let in_k : Contains (delivered_by world k) e = subst (λ ms. Contains ms e) (sym whole) (Contains-append_left there s.1 e has) in
            All-contains (λ z. (v : ℕ) → entry z.tag v ≤ count_of (delivered_by world r) v) (delivered_by world r) e (tags_are_counted u world.w r (delivered_by world r) (chapter_of r l)) (subst (λ z. Contains (delivered_by world z) e) o (at_origin u world.w (delivered_by world) are_shared k e member in_k)) k) in
            let known = stable_count-le-known u k there k r l in
            let vector = cond-false (r == k) (counts u there) (last_tag u there r) (ne_eqb r k ne) in
            let long = ap length (unstable_are_numbered u world.w k k there member chapter) in
            let ranged = length-range_with_len (stable_count u k there k + 1) (count_of there k - stable_count u k there k) in
            let windows = windows_hold u world.w k k there member chapter in
            let parts = both_parts (λ e. carries_operation e.op) (unstable_of u k there k) in
            omega (arith, counted, last, known, ap (λ tag. entry tag k) vector, long, ranged, length-map (unstable_of u k there k) number, windows.0, windows.1, parts)
      ]

  pub sent_is_near : (r : ℕ) (m : Message) → r < size_of world → IsSentMessage world m → is_far (size_of world) world.w r (counts (size_of world) (delivered_by world r)) m ≡ false
  sent_is_near r m l sent =
      let u = size_of world in
      let member = sender_is_member m sent in
      let own = sent_is_delivered m member sent in
      let k = m.origin in
      test-from_IsNear u world.w r (counts u (delivered_by world r)) m (record {
        within = omega (arith, within_windows r m l sent, entry-counts u (delivered_by world r) k member);
        sent = omega (arith, All-contains (λ z. (v : ℕ) → entry z.tag v ≤ count_of (delivered_by world k) v) (delivered_by world k) m (tags_are_counted u world.w k (delivered_by world k) (chapter_of k member)) own r, most_at_origin k r member l, entry-counts u (delivered_by world r) r l);
      })

  -- what one has of another's timestamps, that other has delivered
  pub known_at_origin : (k y x : ℕ) → k < size_of world → y < size_of world → entry (last_tag (size_of world) (delivered_by world k) y) x ≤ count_of (delivered_by world y) x
  known_at_origin k y x l ly =
      let u = size_of world in
      last_tag_has_of (λ tag. entry tag x ≤ count_of (delivered_by world y) x) u (delivered_by world k) y (omega (arith, entry-zero_tag u x)) (λ e has o.
      All-contains (λ z. (v : ℕ) → entry z.tag v ≤ count_of (delivered_by world y) v) (delivered_by world y) e (tags_are_counted u world.w y (delivered_by world y) (chapter_of y ly)) (subst (λ z. Contains (delivered_by world z) e) o (at_origin u world.w (delivered_by world) are_shared k e l has)) x)

-- what is refused as far is far
far_is_far : (w : ℕ) (s : State) (m : Message) → (receive_rule w m s).0 ≡ receive.Far → is_far s.history.present.n w s.history.present.me (counted s.history) m ≡ true
far_is_far w s m e = by (is_old s.history.present.me (counted s.history) m) (is_again s.early m) (is_far s.history.present.n w s.history.present.me (counted s.history) m) refl e where
  by : (a b c : Bool) → is_far s.history.present.n w s.history.present.me (counted s.history) m ≡ c
      → (receive_by w m s (if a then Some refusal.Old else if b then Some refusal.Again else if c then Some refusal.Far else None)).0 ≡ receive.Far → is_far s.history.present.n w s.history.present.me (counted s.history) m ≡ true
  by true b c is f = cc
  by false true c is f = cc
  by false false true is f = is
  by false false false is f = absurd (both_ways (is_accepted (accepted (steps w (with_early s m)).0)) (ap is_accepted f) (accepted_is_accepted (steps w (with_early s m)).0))

pub sent_messages_are_near : SentIsNear
sent_messages_are_near world r m honest l sent refused =
    let replica = honest.is_world.replicas r l in
    let h = (history_of world r).present in
    let near : is_far h.n world.w h.me (counts h.n h.messages) m ≡ false =
    subst (λ me. is_far h.n world.w me (counts h.n h.messages) m ≡ false) (sym replica.of_member) (subst (λ u. is_far u world.w r (counts u h.messages) m ≡ false) (sym replica.of_store) (sent_is_near world honest r m l sent)) in
    both_ways (is_far h.n world.w h.me (counts h.n h.messages) m) near (far_is_far world.w (replica_of world r) m refused)

-- ---- what was sent

-- it fits the store and can be carried there
pub sent_fits : (world : PlainWorld) (m : Message) → IsHonest world → IsSentMessage world m → IsTrue (fits (size_of world) m) × IsTrue (is_carried world.limit m)
sent_fits world m honest sent =
    let k = m.origin in
    let l = sender_is_member world honest m sent in
    let parts = All-contains (λ e. (e.origin ≡ k) × IsTrue (fits (size_of world) e) × IsTrue (is_carried world.limit e)) (sent_by world k) m (sent_are_own world k honest.is_world l).1 sent in
    (parts.1, parts.2)

pub outbox_was_sent : (world : PlainWorld) (k : ℕ) → IsHonest world → All (IsSentMessage world) (outbox_in (replica_of world k))
outbox_was_sent world k honest =
    elim (cases_lt k (size_of world)) [
      | inl l ↦
          let h = (replica_of world k).history.present in
          let lies : Message → Bool = λ m. not (is_stable (stable_vector h.n h.me h.messages) m) in
          All-filter (λ m. m.origin == h.me) (IsSentMessage world) (filter lies h.messages) (All-filter lies (IsSentMessage world) h.messages (honest.delivered k l))
      | inr past ↦ subst (All (IsSentMessage world)) (sym (ap outbox_in (get_or_past world.replicas k (start 0 0) past))) (All-nil (IsSentMessage world))
    ]
