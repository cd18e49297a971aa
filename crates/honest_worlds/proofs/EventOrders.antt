-- The order of events in an honest world: by their timestamps it is the one of their places. And what can be delivered after
-- a front of a history is not crooked.
use Rattle.std.proofs.Common.{◌≡◌, ◌≢◌, ℕ, zero, ◌<◌, ◌≤◌, All, true, not, ◌==◌, nat_le, cond, Contains, IsTrue, List, [], ◌∷◌, ◌++◌, length, length-append, map, get_or, refl, sym, ap, subst, ◌∙◌, inl, inr, append_assoc, append-nil, arith}
use Rattle.std.specs.Prelude.{is_none}
use Rattle.std.proofs.lemmas.Bool.{and_parts, and_from, cases_eq, eq-eqb, eqb-true, le-leb, leb-true, both_ways, not-true, not_from_false, false_from_ne_true, cond-true}
use Rattle.std.proofs.Math.Seq.{get_or-append_seam}
use Rattle.std.proofs.lemmas.List.{get_or_append_left, map-append}
use Rattle.std.proofs.lemmas.List.Elements.{All-contains, Contains-append_left, Contains-append_right, Contains-append_cases}
use Rattle.std.proofs.lemmas.List.Sums.{sum_by-append, sum_by-cons}
use Rattle.op_base.specs.Timestamp.{entry}
use Rattle.op_base.specs.Message.{number}
use Rattle.op_base.specs.declared.message.Message.{Message}
use Rattle.causal_model.specs.Chapter.{is_chapter}
use Rattle.causal_model.specs.Counts.{count_of, counts, is_deliverable}
use Rattle.causal_model.specs.Crook.{crook_of}
use Rattle.causal_model.specs.History.{Event, events, is_before}
use Rattle.causal_model.specs.Order.{same_id, happened_before}
use Rattle.causal_model.proofs.Delivery.Counts.{entry-counts, entry-next_tag_other}
use Rattle.causal_model.proofs.Delivery.Crooks.{IsStraight, none-from_IsStraight}
use Rattle.causal_model.proofs.States.Early.{IsDeliverable, IsDeliverable-from_test}
use Rattle.causal_model.proofs.Theory.Elements.{Contains-map}
use Rattle.causal_model.proofs.Events.Events.{event_of, before_within, earlier_is_before}
use Rattle.causal_model.proofs.Delivery.Limits.{numbers_are_counted}
use Rattle.causal_model.proofs.Delivery.Orders.{Sees-from_happened, order_is_transitive, each_fits}
use Rattle.causal_model.proofs.Delivery.Settling.{last_is_next}
use Rattle.causal_model.proofs.Delivery.Timestamps.{tags_are_counted, next_tag_has_counts}
use Rattle.world_model.specs.Honest.{IsSentMessage, past_events, IsHonest, history_of, delivered_by}
use Rattle.world_model.specs.EventOrder.{IsSentEvent, IsEvent, StandsBefore, EventOrder, stands, through}
use Rattle.honest_worlds.specs.Laws.{HappenedBeforeIsEventOrder, DeliverableIsAdmissible}
use Rattle.world_model.specs.World.{PlainWorld, size_of, epoch_in}
use Rattle.honest_worlds.proofs.Lists.{split_at, prefixes, place_of, in_front_of, from_map}
use Rattle.honest_worlds.proofs.Epochs.{IsPresent, events_at, past_is_lower, past_or_present}
use Rattle.honest_worlds.proofs.Agreeing.{is_there_too}
use Rattle.honest_worlds.proofs.Shared.{front_is_chapter, fits_of, chapters_agree, parts_agree}
use Rattle.honest_worlds.proofs.SentMessages.{chapter_of, sent_is_delivered, sender_is_member, are_shared, sent_is_next}

module _ (world : PlainWorld) (honest : IsHonest world) where
  -- what a message that was sent stands behind, in the history of its origin
  pub record IsPlaced (m : Message) : Type 0 where
    pub before : List Message
    pub later : List Message
    pub whole : delivered_by world m.origin ≡ before ++ m ∷ later
    pub member : m.origin < size_of world
    pub chapter : IsTrue (is_chapter (size_of world) world.w m.origin (before ++ m ∷ []))

  pub placed : (m : Message) → IsSentMessage world m → IsPlaced m
  placed m sent =
      let k = m.origin in
      let member = sender_is_member world honest m sent in
      let s = split_at (delivered_by world k) m (sent_is_delivered world honest m member sent) in
      record {
        before = s.0;
        later = s.1;
        whole = s.2;
        member = member;
        chapter = front_is_chapter (size_of world) world.w k (s.0 ++ m ∷ []) s.1 (subst (λ ms. IsTrue (is_chapter (size_of world) world.w k ms)) (s.2 ∙ sym (append_assoc s.0 (m ∷ []) s.1)) (chapter_of world honest k member));
      }

  -- ---- what a sent message had seen stands before it

  seen_stands_before : (r : ℕ) (a b : Message) → r < size_of world → Contains (delivered_by world r) a → (sent : IsSentMessage world b) → IsTrue (happened_before a b) → Contains (placed b sent).before a
  seen_stands_before r a b l has sent ab =
      let u = size_of world in
      let p = placed b sent in
      let parts = last_is_next u world.w b.origin p.before b p.chapter in
      let both = and_parts (not (same_id a b)) (nat_le (number a) (entry b.tag a.origin)) ab in
      let seen = leb-true (number a) (entry b.tag a.origin) both.1 in
      let fit = fits_of u world.w (delivered_by world) (are_shared world honest) r a l has in
      let low : number a ≤ count_of p.before a.origin = elim (cases_eq a.origin b.origin) [
        | inl e ↦ elim (cases_eq (number a) (number b)) [
          | inl same ↦ absurd (both_ways (same_id a b) (not-true (same_id a b) both.0) (and_from (a.origin == b.origin) (number a == number b) (eq-eqb a.origin b.origin e) (eq-eqb (number a) (number b) same)))
          | inr ne ↦ omega (arith, seen, ap (entry b.tag) e, parts.1.counted, ap (count_of p.before) e, ne)
        ]
        | inr ne ↦ omega (arith, seen, parts.1.seen a.origin fit.0 ne)
      ] in
      let agree = parts_agree (delivered_by world r) (delivered_by world b.origin) (delivered_by world r) p.before (λ e there. there) (λ e there. subst (λ ms. Contains ms e) (sym p.whole) (Contains-append_left p.before (b ∷ p.later) e there))
      (chapters_agree u world.w (delivered_by world) (are_shared world honest) r b.origin l p.member) in
      is_there_too u world.w b.origin (delivered_by world r) p.before parts.0 agree a has fit.1 low

  -- ---- what can be delivered after a front

  own_is_straight : (r : ℕ) (before later : List Message) (m : Message) → r < size_of world → delivered_by world r ≡ before ++ later → (sent : IsSentMessage world m) → m.origin ≡ r
      → IsDeliverable (size_of world) (counts (size_of world) before) m → IsStraight (size_of world) world.w r before m
  own_is_straight r before later m l whole sent own can =
      let u = size_of world in
      let p = placed m sent in
      let at_g = last_is_next u world.w m.origin p.before m p.chapter in
      let here : p.before ≡ before → IsStraight u world.w r before m = λ e. subst (λ y. IsStraight u world.w y before m) own (subst (λ g. IsStraight u world.w m.origin g m) e at_g.1.straight) in
      let counted : count_of before m.origin ≡ count_of p.before m.origin = omega (arith, at_g.1.counted, can.next, entry-counts u before m.origin p.member) in
      elim (prefixes before later p.before (m ∷ p.later) (sym whole ∙ ap (delivered_by world) (sym own) ∙ p.whole)) [
        | inl d ↦ by_more d.0 here d.1 counted (λ x lx ne. omega (arith, can.seen x lx ne, entry-counts u before x lx, ap (λ tag. entry tag x) (at_g.1.own refl), entry-next_tag_other u m.origin p.before x lx ne)) p.before at_g.0 refl
        | inr d ↦ by_less d.0 here d.1 d.2
      ] where
        by_more : (d : List Message) → ((placed m sent).before ≡ before → IsStraight (size_of world) world.w r before m) → (placed m sent).before ≡ before ++ d → count_of before m.origin ≡ count_of (placed m sent).before m.origin
            → ((x : ℕ) → x < size_of world → x ≢ m.origin → count_of (placed m sent).before x ≤ count_of before x) → (g : List Message) → IsTrue (is_chapter (size_of world) world.w m.origin g) → g ≡ (placed m sent).before → IsStraight (size_of world) world.w r before m
        by_more [] here e same few g t is = here (e ∙ append-nil before)
        by_more (x ∷ d) here e same few g t is =
            let grown = ap (λ ms. count_of ms x.origin) e ∙ sum_by-append (λ y. cond (y.origin == x.origin) 1 0) before (x ∷ d) in
            let one = sum_by-cons (λ y. cond (y.origin == x.origin) 1 0) x d in
            let mine = cond-true {A = ℕ} (x.origin == x.origin) 1 0 (eq-eqb x.origin x.origin refl) in
            let low = (All-contains (λ z. (z.origin < size_of world) × (0 < number z)) g x (each_fits (size_of world) world.w m.origin g t) (subst (λ ms. Contains ms x) (sym (is ∙ e)) (Contains-append_right before (x ∷ d) x (zero, omega arith, refl)))).0 in
            elim (cases_eq x.origin m.origin) [
              | inl o ↦ absurd (omega (arith, grown, one, mine, same, ap (count_of before) o, ap (count_of (placed m sent).before) o))
              | inr ne ↦ absurd (omega (arith, grown, one, mine, few x.origin low ne))
            ]

        by_less : (d : List Message) → ((placed m sent).before ≡ before → IsStraight (size_of world) world.w r before m) → before ≡ (placed m sent).before ++ d → m ∷ (placed m sent).later ≡ d ++ later → IsStraight (size_of world) world.w r before m
        by_less [] here e f = here (sym (e ∙ append-nil (placed m sent).before))
        by_less (y ∷ d) here e f =
            let same : m ≡ y = cc in
            let t = front_is_chapter (size_of world) world.w r before later (subst (λ ms. IsTrue (is_chapter (size_of world) world.w r ms)) whole (chapter_of world honest r l)) in
            let has : Contains before m = subst (λ ms. Contains ms m) (sym e) (Contains-append_right (placed m sent).before (y ∷ d) m (zero, omega arith, sym same)) in
            absurd (omega (arith, All-contains (λ z. number z ≤ count_of before z.origin) before m (numbers_are_counted (size_of world) world.w r before t) has, can.next, entry-counts (size_of world) before m.origin (placed m sent).member))

pub deliverable_is_admissible : DeliverableIsAdmissible
deliverable_is_admissible world r before later m honest l whole sent can =
    let u = size_of world in
    let t = front_is_chapter u world.w r before later (subst (λ ms. IsTrue (is_chapter u world.w r ms)) whole (chapter_of world honest r l)) in
    let here = IsDeliverable-from_test u (counts u before) m can in
    let all : All (IsSentMessage world) before = λ i d low. subst (IsSentMessage world) (ap (λ ms. get_or ms i d) whole ∙ get_or_append_left before later d i low) (honest.delivered r l i d (omega (arith, low, ap length whole, length-append before later))) in
    let straight : IsStraight u world.w r before m = elim (cases_eq m.origin r) [
      | inl own ↦ own_is_straight world honest r before later m l whole sent own here
      | inr ne ↦ (sent_is_next world honest r before m l t all sent ne here).straight
    ] in
    and_from (is_deliverable u (counts u before) m) (is_none (crook_of u world.w r before m)) can (none-from_IsStraight u world.w r before m straight)

-- ---- the two orders

-- what is in a front stands before what comes behind it
stands_in_front : (front back : List Event) (a b : Event) → Contains front a → StandsBefore (front ++ b ∷ back) a b
stands_in_front front back a b has = (
  has.0,
  length front,
  has.1,
  place_of (front ++ b ∷ back) has.0 a (omega (arith, has.1, length-append front (b ∷ back))) (get_or_append_left front (b ∷ back) a has.0 has.1 ∙ has.2),
  place_of (front ++ b ∷ back) (length front) b (omega (arith, length-append front (b ∷ back))) (get_or-append_seam front b back b),
)

module _ (world : PlainWorld) (honest : IsHonest world) where
  -- an event of the present epoch, as its message tells it
  abbrev event : Message → Event
  event = event_of (epoch_in world)

  sent_event : (b : Event) → IsSentEvent world b → b ≡ event b.message
  sent_event b sent = sent.1 ∙ ap (λ epoch. event_of epoch b.message) (honest.is_world.replicas b.message.origin (sender_is_member world honest b.message sent.0)).in_epoch

  -- by timestamps in one epoch
  before_is_happened : (a b : Event) → a ≡ event a.message → b ≡ event b.message → is_before a b ≡ happened_before a.message b.message
  before_is_happened a b ea eb = ap (λ x. is_before x b) ea ∙ ap (λ y. is_before (event a.message) y) eb ∙ before_within (epoch_in world) a.message b.message

  -- what is over is before what was sent
  over_is_before : (r : ℕ) (a b : Event) → r < size_of world → Contains (past_events (history_of world r)) a → IsSentEvent world b → IsTrue (is_before a b)
  over_is_before r a b l over sent = earlier_is_before a b (omega (arith, past_is_lower world r honest.is_world l a over, ap (λ (e : Event). e.epoch) (sent_event b sent)))

  -- forth: what is before by timestamps stands before, in the past of the origin or among the messages of this epoch
  stands_where_before : (a b : Event) → IsEvent world a → IsSentEvent world b → IsTrue (is_before a b) → EventOrder world a b
  stands_where_before a b is sent before =
      let eb = sent_event b sent in
      let k = b.message.origin in
      let p = placed world honest b.message sent.0 in
      let past = past_events (history_of world k) in
      let whole : events (history_of world k) ≡ (past ++ map event p.before) ++ b ∷ map event p.later =
      events_at world k honest.is_world p.member ∙ ap (λ ms. past ++ map event ms) p.whole ∙ ap (λ es. past ++ es) (map-append event p.before (b.message ∷ p.later))
      ∙ ap (λ e. past ++ (map event p.before ++ e ∷ map event p.later)) (sym eb) ∙ sym (append_assoc past (map event p.before) (b ∷ map event p.later)) in
      let front : Contains (past ++ map event p.before) a = elim (past_or_present world is.0 honest.is_world is.1 a is.2) [
        | inl over ↦ Contains-append_left past (map event p.before) a ((honest.one_past is.0 k is.1 p.member a).0 over)
        | inr present ↦
            let has = seen_stands_before world honest is.0 a.message b.message is.1 present.there sent.0 (sym (before_is_happened a b present.now eb) ∙ before) in
            Contains-append_right past (map event p.before) a (subst (Contains (map event p.before)) (sym present.now) (Contains-map event p.before a.message has))
      ] in
      stands a b sent (subst (λ es. StandsBefore es a b) (sym whole) (stands_in_front (past ++ map event p.before) (map event p.later) a b front))

  -- back: what the order relates are an event and a message that was sent, and it is before by timestamps
  record IsRelated (a b : Event) : Type 0 where
    event : IsEvent world a
    sent : IsSentEvent world b
    before : IsTrue (is_before a b)

  messages_of : (ms : List Message) → map (λ (e : Event). e.message) (map event ms) ≡ ms
  messages_of [] = refl
  messages_of (m ∷ ms) = ap (λ ys. m ∷ ys) (messages_of ms)

  front_is_before : (a b : Message) (g l : List Message) → b.origin < size_of world → delivered_by world b.origin ≡ g ++ b ∷ l → Contains g a → happened_before a b ≡ true
  front_is_before a b g l member whole has =
      let u = size_of world in
      let chapter = front_is_chapter u world.w b.origin (g ++ b ∷ []) l (subst (λ ms. IsTrue (is_chapter u world.w b.origin ms)) (whole ∙ sym (append_assoc g (b ∷ []) l)) (chapter_of world honest b.origin member)) in
      let parts = last_is_next u world.w b.origin g b chapter in
      let low = All-contains (λ z. number z ≤ count_of g z.origin) g a (numbers_are_counted u world.w b.origin g parts.0) has in
      let fit = All-contains (λ z. (z.origin < u) × (0 < number z)) g a (each_fits u world.w b.origin g parts.0) has in
      let sees : count_of g a.origin ≤ entry b.tag a.origin = subst (λ tag. count_of g a.origin ≤ entry tag a.origin) (sym (parts.1.own refl)) (next_tag_has_counts u b.origin g a.origin member fit.0) in
      and_from _ _ (not_from_false (same_id a b) (false_from_ne_true (same_id a b) (λ same.
      let both = and_parts (a.origin == b.origin) (number a == number b) same in
      omega (arith, low, parts.1.counted, ap (count_of g) (eqb-true a.origin b.origin both.0), eqb-true (number a) (number b) both.1))))
      (le-leb (number a) (entry b.tag a.origin) (omega (arith, low, sees)))

  -- in the history of its origin what stands before a message that was sent is before it
  front_events_are_before : (a b : Event) (front later : List Event) → IsSentEvent world b → b.message.origin < size_of world → events (history_of world b.message.origin) ≡ front ++ b ∷ later → Contains front a → IsTrue (is_before a b)
  front_events_are_before a b front later sent member whole has =
      let k = b.message.origin in
      let past = past_events (history_of world k) in
      elim (prefixes past (map event (delivered_by world k)) front (b ∷ later) (sym (events_at world k honest.is_world member) ∙ whole)) [
        | inl more ↦ elim (Contains-append_cases past more.0 a (subst (λ es. Contains es a) more.1 has)) [
          | inl over ↦ over_is_before k a b member over sent
          | inr late ↦
              let message : Event → Message = λ e. e.message in
              let there = from_map event (delivered_by world k) a (subst (λ es. Contains es a) (sym more.2) (Contains-append_left more.0 (b ∷ later) a late)) in
              let now : a ≡ event a.message = sym there.1.1 ∙ ap (λ (e : Event). event e.message) there.1.1 in
              let messages : delivered_by world k ≡ map message more.0 ++ b.message ∷ map message later = sym (messages_of (delivered_by world k)) ∙ ap (map message) more.2 ∙ map-append message more.0 (b ∷ later) in
              before_is_happened a b now (sent_event b sent) ∙ front_is_before a.message b.message (map message more.0) (map message later) member messages (Contains-map message more.0 a late)
        ]
        | inr fewer ↦ over_is_before k a b member (subst (λ es. Contains es a) (sym fewer.1) (Contains-append_left front fewer.0 a has)) sent
      ]

  stands_is_related : (a b : Event) → IsSentEvent world b → StandsBefore (events (history_of world b.message.origin)) a b → IsRelated a b
  stands_is_related a b sent place =
      let k = b.message.origin in
      let member = sender_is_member world honest b.message sent.0 in
      let es = events (history_of world k) in
      let s = in_front_of es place.0 place.1 a b place.2 place.3 place.4 in
      record {
        event = (k, member, subst (λ xs. Contains xs a) (sym s.2) (Contains-append_left s.0 (b ∷ s.1) a s.3));
        sent = sent;
        before = front_events_are_before a b s.0 s.1 sent member s.2 s.3;
      }

  -- and it is transitive, since all three stand in the history of the last one's origin
  happened_through : (r : ℕ) (a b c : Event) → r < size_of world → IsPresent world r a → IsTrue (is_before a b) → IsSentEvent world b → IsSentEvent world c → IsTrue (is_before b c) → IsTrue (is_before a c)
  happened_through r a b c l present ab sent_b sent_c bc =
      let u = size_of world in
      let k = c.message.origin in
      let mc = sender_is_member world honest c.message sent_c.0 in
      let mb = sender_is_member world honest b.message sent_b.0 in
      let eb = sent_event b sent_b in
      let ec = sent_event c sent_c in
      let first = sym (before_is_happened a b present.now eb) ∙ ab in
      let second = sym (before_is_happened b c eb ec) ∙ bc in
      let pc = placed world honest c.message sent_c.0 in
      let inside : (m : Message) → Contains pc.before m → Contains (delivered_by world k) m = λ m has. subst (λ ms. Contains ms m) (sym pc.whole) (Contains-append_left pc.before (c.message ∷ pc.later) m has) in
      let b_there = inside b.message (seen_stands_before world honest b.message.origin b.message c.message mb (sent_is_delivered world honest b.message mb sent_b.0) sent_c.0 second) in
      let c_there = sent_is_delivered world honest c.message mc sent_c.0 in
      let chapter = chapter_of world honest k mc in
      let fit = fits_of u world.w (delivered_by world) (are_shared world honest) r a.message l present.there in
      let a_there = is_there_too u world.w k (delivered_by world r) (delivered_by world k) chapter (chapters_agree u world.w (delivered_by world) (are_shared world honest) r k l mc) a.message present.there fit.1
      (omega (arith, Sees-from_happened a.message b.message first, All-contains (λ m. (x : ℕ) → entry m.tag x ≤ count_of (delivered_by world k) x) (delivered_by world k) b.message (tags_are_counted u world.w k (delivered_by world k) chapter) b_there a.message.origin)) in
      before_is_happened a c present.now ec ∙ order_is_transitive u world.w k (delivered_by world k) a.message b.message c.message chapter a_there b_there c_there first second

  related_through : (a b c : Event) → IsRelated a b → IsRelated b c → IsRelated a c
  related_through a b c ab bc = record {
    event = ab.event;
    sent = bc.sent;
    before = elim (past_or_present world ab.event.0 honest.is_world ab.event.1 a ab.event.2) [
      | inl over ↦ over_is_before ab.event.0 a c ab.event.1 over bc.sent
      | inr present ↦ happened_through ab.event.0 a b c ab.event.1 present ab.before ab.sent bc.sent bc.before
    ];
  }

  related : (a b : Event) → EventOrder world a b → IsRelated a b
  related _ _ (stands a b sent place) = stands_is_related a b sent place
  related _ _ (through a b c ab bc) = related_through a b c (related a b ab) (related b c bc)

pub happened_before_is_event_order : HappenedBeforeIsEventOrder
happened_before_is_event_order world a b honest is sent = (stands_where_before world honest a b is sent, λ order. (related world honest a b order).before)
