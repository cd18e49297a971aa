-- After a round that moved nothing each replica has every message; where none has sent all that it may, every operation is
-- stable.
use Rattle.std.proofs.Common.{◌≡◌, ◌≢◌, ℕ, ◌<◌, ◌≤◌, All, Bool, true, false, not, ◌&&◌, ◌||◌, ◌==◌, Contains, IsTrue, List, [], ◌∷◌, get_or, refl, sym, ap, subst, ◌∙◌, inl, inr, ◌⊎◌, if◌then◌else◌, arith}
use Rattle.std.proofs.lemmas.Bool.{cases_eq, cases_lt, cases_Bool, cond-true, cond-false, eq-eqb, eqb-true, ne_eqb, le-leb, both_ways, false≢true, false_from_ne_true}
use Rattle.std.proofs.lemmas.List.Elements.{All-contains, All-nil, All-push, Contains-append_left, Contains-push, Contains-push_cases}
use Rattle.op_base.specs.Timestamp.{entry}
use Rattle.op_base.specs.Message.{number}
use Rattle.op_base.specs.declared.message.Message.{Message}
use Rattle.op_base.specs.declared.operation.Op.TheVariants as op
use Rattle.causal_model.specs.Chapter.{is_chapter}
use Rattle.causal_model.specs.Counts.{members, count_of, counts}
use Rattle.causal_model.specs.Sending.{is_noop_due, beating, own_message}
use Rattle.causal_model.specs.Stability.{last_tag, known_vector, stable_vector, is_stable, carries_operation, unstable_noops, noop_window}
use Rattle.causal_model.specs.declared.outcome.Beat.TheVariants as beat
use Rattle.causal_model.proofs.Delivery.Chapters.{chapter_induction}
use Rattle.causal_model.proofs.Delivery.Counts.{entry-counts}
use Rattle.causal_model.proofs.Delivery.Limits.{numbers_are_counted}
use Rattle.causal_model.proofs.Delivery.Orders.{last_tag_is_last}
use Rattle.causal_model.proofs.Delivery.Sends.{is_noop_due-push}
use Rattle.causal_model.proofs.Delivery.Stability.{entry-stable}
use Rattle.causal_model.proofs.Delivery.Timestamps.{next_tag_has_counts}
use Rattle.world_model.specs.Honest.{IsSentMessage, IsHonest, delivered_by}
use Rattle.honest_worlds.specs.Laws.{AreBelowLimit}
use Rattle.world_model.specs.Settling.{Round, with_beat, after_beat, offers_made, round_of}
use Rattle.world_model.specs.World.{PlainWorld, size_of, replica_of}
use Rattle.honest_worlds.proofs.Lists.{least_is_no_less, fold_reaches, member_there}
use Rattle.honest_worlds.proofs.Agreeing.{message_numbered, is_there_too}
use Rattle.honest_worlds.proofs.Shared.{fits_of, chapters_agree}
use Rattle.honest_worlds.proofs.SentMessages.{chapter_of, sent_is_delivered, sender_is_member, are_shared}
use Rattle.honest_worlds.proofs.Beats.{beat_is_not_held}
use Rattle.honest_worlds.proofs.Missing.{IsMissing}
use Rattle.honest_worlds.proofs.StillRounds.{IsHonestRound, HasMoved, beat_keeps, offers_are_round, missing_moves, each_member, beat_stays_moved}

-- ---- the first message that is missing

module _ (world : PlainWorld) (honest : IsHonest world) (r : ℕ) (l : r < size_of world) where
  -- what one has, the other has as many messages of its origin for
  abbrev HasAll : List Message → Type 0
  HasAll ms = All (λ m. number m ≤ count_of (delivered_by world r) m.origin) ms

  -- a chapter of which all is there has no more messages of a member
  has_as_many : (k : ℕ) (g : List Message) → IsTrue (is_chapter (size_of world) world.w k g) → HasAll g → (x : ℕ) → count_of g x ≤ count_of (delivered_by world r) x
  has_as_many k g t all x = elim (cases_eq (count_of g x) 0) [
    | inl none ↦ omega (arith, none)
    | inr some ↦
        let e = message_numbered (size_of world) world.w k g t x (count_of g x) (omega (arith, some)) (omega arith) in
        omega (arith, e.1.2, All-contains (λ m. number m ≤ count_of (delivered_by world r) m.origin) g e.0 all e.1.0, ap (count_of (delivered_by world r)) e.1.1)
  ]

  first_missing : (k : ℕ) → k < size_of world → ((m : Message) × IsMissing world honest r m) ⊎ HasAll (delivered_by world k)
  first_missing k member = chapter_induction u world.w k (λ g. ((e : Message) → Contains g e → Contains (delivered_by world k) e) → ((m : Message) × IsMissing world honest r m) ⊎ HasAll g) (λ _. inr (All-nil (λ m. number m ≤ count_of (delivered_by world r) m.origin))) (λ g m t next ih inside.
      elim (ih (λ e has. inside e (Contains-append_left g (m ∷ []) e has))) [
        | inl found ↦ inl found
        | inr all ↦
            let x = m.origin in
            let sent = All-contains (IsSentMessage world) (delivered_by world k) m (honest.delivered k member) (inside m (Contains-push g m)) in
            let lx = sender_is_member world honest m sent in
            elim (cases_lt (count_of (delivered_by world r) x) (number m)) [
              | inr low ↦ inr (All-push (λ e. number e ≤ count_of (delivered_by world r) e.origin) g m all low)
              | inl new ↦ inl (
                m,
                record {
                  sent = sent;
                  other = λ e. let own = subst (λ y. Contains (delivered_by world y) m) e (sent_is_delivered world honest m lx sent) in
                      omega (arith, new, All-contains (λ z. number z ≤ count_of (delivered_by world r) z.origin) (delivered_by world r) m (numbers_are_counted u world.w r (delivered_by world r) (chapter_of world honest r l)) own);
                  new = new;
                  can = record {
                    next = omega (arith, new, next.counted, has_as_many k g t all x, entry-counts u (delivered_by world r) x lx);
                    seen = λ y ly ne. omega (arith, next.seen y ly ne, has_as_many k g t all y, entry-counts u (delivered_by world r) y ly);
                  };
                },
              )
            ]
      ]) (delivered_by world k) (chapter_of world honest k member) (λ e has. has)
    where
      u : ℕ
      u = size_of world

  -- where a round moves nothing, none is missing
  pub none_is_missing : (round_of world).moved ≡ false → (k : ℕ) → k < size_of world → HasAll (delivered_by world k)
  none_is_missing still k member = elim (first_missing k member) [
    | inl found ↦ absurd (both_ways (round_of world).moved still (missing_moves world honest r found.0 l found.1))
    | inr all ↦ all
  ]

  pub count_is_most : (round_of world).moved ≡ false → (k x : ℕ) → k < size_of world → count_of (delivered_by world k) x ≤ count_of (delivered_by world r) x
  count_is_most still k x member = has_as_many k (delivered_by world k) (chapter_of world honest k member) (none_is_missing still k member) x

-- so all have the same messages
pub all_are_everywhere : (world : PlainWorld) (honest : IsHonest world) → (round_of world).moved ≡ false → (r q : ℕ) → r < size_of world → q < size_of world → (m : Message) → Contains (delivered_by world q) m → Contains (delivered_by world r) m
all_are_everywhere world honest still r q l k m has =
    let u = size_of world in
    let fit = fits_of u world.w (delivered_by world) (are_shared world honest) q m k has in
    is_there_too u world.w r (delivered_by world q) (delivered_by world r) (chapter_of world honest r l) (chapters_agree u world.w (delivered_by world) (are_shared world honest) q r k l) m has fit.1
    (All-contains (λ e. number e ≤ count_of (delivered_by world r) e.origin) (delivered_by world q) m (none_is_missing world honest r l still q k) has)

-- ---- no no-op is due

-- a beat that is due moves, where no member has sent all that it may
module _ (world : PlainWorld) (honest : IsHonest world) (below : AreBelowLimit world) (r : ℕ) (l : r < size_of world) where
  beats_if_due : (u w limit me : ℕ) (ms : List Message) → is_noop_due me ms ≡ true → beating u w limit me ms ≢ beat.Held → count_of ms me ≢ limit → (round : Round) → HasMoved (with_beat round r (beating u w limit me ms))
  beats_if_due u w limit me ms due free less round = by (is_noop_due me ms) (unstable_noops u me ms me == noop_window u w) (count_of ms me == limit) due refl free where
    by : (a b c : Bool) → a ≡ true → (count_of ms me == limit) ≡ c → (if not a then beat.Quiet else if b then beat.Held else if c then beat.End else beat.Sent (own_message u me ms op.NoOp)) ≢ beat.Held
        → HasMoved (with_beat round r (if not a then beat.Quiet else if b then beat.Held else if c then beat.End else beat.Sent (own_message u me ms op.NoOp)))
    by false b c is_due is_c free = absurd (false≢true is_due)
    by true true c is_due is_c free = absurd (free refl)
    by true false true is_due is_c free = absurd (less (eqb-true (count_of ms me) limit is_c))
    by true false false is_due is_c free = refl

  due_moves : is_noop_due r (delivered_by world r) ≡ true → HasMoved (round_of world)
  due_moves due =
      fold_reaches (IsHonestRound world) HasMoved after_beat (members (size_of world)) r (member_there (size_of world) r l)
      (each_member world (IsHonestRound world) after_beat (size_of world) (beat_keeps world)) (λ i d low c h. beat_stays_moved world c (get_or (members (size_of world)) i d) h)
      (λ round is. elim (cases_Bool round.moved) [
        | inl moved ↦ beat_stays_moved world round r moved
        | inr still ↦
            let here : r < size_of round.world = omega (arith, l, is.kept.size) in
            let s = (replica_of round.world r).history.present in
            let replica = is.honest.is_world.replicas r here in
            let same = is.same still r l in
            beats_if_due s.n round.world.w round.world.limit s.me s.messages
            (subst (λ me. is_noop_due me s.messages ≡ true) (sym replica.of_member) (subst (λ ms. is_noop_due r ms ≡ true) (sym same) due))
            (beat_is_not_held round.world is.honest r here)
            (λ e. below r l (ap (λ ms. count_of ms r) (sym same) ∙ ap (count_of s.messages) (sym replica.of_member) ∙ e ∙ is.kept.limit)) round
      ]) (offers_made world) (offers_are_round world honest)

  pub none_is_due : (round_of world).moved ≡ false → is_noop_due r (delivered_by world r) ≡ false
  none_is_due still = false_from_ne_true (is_noop_due r (delivered_by world r)) (λ due. both_ways (round_of world).moved still (due_moves due))

-- where none is due, each operation of another member was seen by an own message
seen_by_own : (n w me : ℕ) (h : List Message) → IsTrue (is_chapter n w me h) → is_noop_due me h ≡ false → (m : Message) → Contains h m → carries_operation m.op ≡ true → m.origin < n → m.origin ≢ me
    → (e : Message) × (Contains h e × (e.origin ≡ me) × (number m ≤ entry e.tag m.origin))
seen_by_own n w me = chapter_induction n w me (λ h. is_noop_due me h ≡ false → (m : Message) → Contains h m → carries_operation m.op ≡ true → m.origin < n → m.origin ≢ me → (e : Message) × (Contains h e × (e.origin ≡ me) × (number m ≤ entry e.tag m.origin)))
    (λ _ m has _ _ _. absurd (omega (arith, has.1))) (λ h x t next ih quiet_here m has carries low ne.
    let push = sym (is_noop_due-push me h x) ∙ quiet_here in
    elim (cases_eq x.origin me) [
      | inl own ↦ elim (Contains-push_cases h x m has) [
        | inr same ↦ absurd (ne (ap (λ y. y.origin) (sym same) ∙ own))
        | inl before ↦
            let me_low : me < n = subst (λ y. y < n) own next.member in
            (x, (Contains-push h x, own, omega (arith, All-contains (λ z. number z ≤ count_of h z.origin) h m (numbers_are_counted n w me h t) before, ap (λ tag. entry tag m.origin) (next.own own), next_tag_has_counts n me h m.origin me_low low)))
      ]
      | inr other ↦
          let both = either (x.origin == me) (is_noop_due me h) (carries_operation x.op) (ne_eqb x.origin me other) push in
          elim (Contains-push_cases h x m has) [
            | inr same ↦ absurd (both_ways (carries_operation x.op) both.1 (ap (λ y. carries_operation y.op) same ∙ carries))
            | inl before ↦ let e = ih both.0 m before carries low ne in (e.0, (Contains-append_left h (x ∷ []) e.0 e.1.0, e.1.1, e.1.2))
          ]
    ]) where
      either : (a b c : Bool) → a ≡ false → (not a && (b || c)) ≡ false → (b ≡ false) × (c ≡ false)
      either true b c f g = absurd (false≢true (sym f))
      either false false false f g = (refl, refl)
      either false false true f g = absurd (false≢true (sym g))
      either false true c f g = absurd (false≢true (sym g))

-- ---- then every operation is stable

pub operations_are_stable : (world : PlainWorld) (honest : IsHonest world) → (round_of world).moved ≡ false → AreBelowLimit world → (r : ℕ) → r < size_of world
    → (m : Message) → Contains (delivered_by world r) m → carries_operation m.op ≡ true → is_stable (stable_vector (size_of world) r (delivered_by world r)) m ≡ true
operations_are_stable world honest still below r l m has carries =
    let u = size_of world in
    let h = delivered_by world r in
    let x = m.origin in
    let chapter = chapter_of world honest r l in
    let lx = (fits_of u world.w (delivered_by world) (are_shared world honest) r m l has).0 in
    let last : (e : Message) → Contains h e → entry e.tag x ≤ entry (last_tag u h e.origin) x = λ e there. All-contains (λ b. (v : ℕ) → v < u → entry b.tag v ≤ entry (last_tag u h b.origin) v) h e (last_tag_is_last u world.w r h chapter) there x lx in
    let known : (y : ℕ) → y < u → number m ≤ entry (known_vector u r h y) x = λ y ly. elim (cases_eq y r) [
      | inl e ↦ subst (λ tag. number m ≤ entry tag x) (sym (cond-true (y == r) (counts u h) (last_tag u h y) (eq-eqb y r e))) (omega (arith, entry-counts u h x lx, All-contains (λ z. number z ≤ count_of h z.origin) h m (numbers_are_counted u world.w r h chapter) has))
      | inr not_r ↦ subst (λ tag. number m ≤ entry tag x) (sym (cond-false (y == r) (counts u h) (last_tag u h y) (ne_eqb y r not_r))) (elim (cases_eq x y) [
        | inl own ↦ subst (λ z. number m ≤ entry (last_tag u h z) x) own (last m has)
        | inr other ↦
            let there = all_are_everywhere world honest still y r ly l m has in
            let e = seen_by_own u world.w y (delivered_by world y) (chapter_of world honest y ly) (none_is_due world honest below y ly still) m there carries lx other in
            let here = all_are_everywhere world honest still r y l ly e.0 e.1.0 in
            subst (λ z. number m ≤ entry (last_tag u h z) x) e.1.1 (omega (arith, last e.0 here, e.1.2))
      ])
    ] in
    let least = least_is_no_less u (number m) (λ y. entry (known_vector u r h y) x) (omega (arith, l)) known in
    le-leb (number m) (entry (stable_vector u r h) x) (omega (arith, least, entry-stable u r h x lx))
