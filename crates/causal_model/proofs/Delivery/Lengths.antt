-- How long chapters and histories are, where each message can be carried.
use Rattle.std.proofs.Common.{◌≡◌, ℕ, ◌+◌, ◌*◌, ◌<◌, ◌≤◌, Bool, true, ◌&&◌, ◌==◌, nat_lt, nat_le, cond, IsTrue, All, List, [], ◌∷◌, length, length-append, ◌∙◌, refl, sym, ap, ◌∙◌, mul-le-mul_right, arith}
use mathlib.Core.Bool.{and-true}
use Rattle.std.specs.List.{list_all, count_by, slice_index_or}
use Rattle.std.proofs.lemmas.Bool.{and_parts, lt-ltb, leb-true, cond-true}
use Rattle.std.proofs.lemmas.List.{length-map}
use Rattle.std.proofs.lemmas.List.Elements.{All-head, All-tail, All-nil, All-weaker, All-append, All-map}
use Rattle.std.proofs.lemmas.List.Folds.{list_all-append}
use Rattle.std.proofs.lemmas.List.Sums.{AllPass-from_list_all, sum_by-cons}
use Rattle.op_base.specs.declared.message.Message.{Message}
use Rattle.causal_model.specs.Counts.{count_of, is_carried, are_carried}
use Rattle.causal_model.specs.Chapter.{is_chapter}
use Rattle.causal_model.specs.History.{Chapter, History, Event, chapters, epoch_of, events, events_in, events_from, is_chapter_of, is_all_stable, is_history, is_limited}
use Rattle.causal_model.proofs.Delivery.Limits.{counts_are_within}
use Rattle.causal_model.proofs.Delivery.Logs.{count_by-le-product}
use Rattle.causal_model.proofs.Delivery.Settling.{origins_are_members}

-- ---- a chapter

count_by_all : {X : Type 0} (p : X → Bool) (xs : List X) → All (λ x. p x ≡ true) xs → count_by p xs ≡ length xs
count_by_all p [] each = refl
count_by_all p (x ∷ xs) each =
    omega (arith, sum_by-cons (λ y. cond (p y) 1 0) x xs, cond-true {A = ℕ} (p x) 1 0 (All-head (λ y. p y ≡ true) x xs each), count_by_all p xs (All-tail (λ y. p y ≡ true) x xs each))

-- each message is counted at its origin, a member
pub chapter_is_bounded : (n w me limit : ℕ) (ms : List Message) → IsTrue (is_chapter n w me ms) → IsTrue (are_carried limit ms) → length ms ≤ n * limit
chapter_is_bounded n w me limit ms t carried =
    let member : Message → Bool = λ m. nat_lt m.origin n && true in
    let all : count_by member ms ≡ length ms = count_by_all member ms (All-weaker (λ m. m.origin < n) (λ m. member m ≡ true) (λ m l. ap (λ b. b && true) (lt-ltb m.origin n l)) ms (origins_are_members n w me ms t)) in
    let same : (x : ℕ) → count_by (λ m. (m.origin == x) && true) ms ≡ count_of ms x = λ x i. count_by (λ m. and-true (m.origin == x) i) ms in
    let few : (x : ℕ) → count_by (λ m. (m.origin == x) && true) ms ≤ limit = λ x. omega (arith, same x, counts_are_within n w me limit x ms t carried) in
    omega (arith, all, count_by-le-product (λ m. m.origin) (λ m. true) limit ms few n)

-- ---- the events of chapters

-- what holds of the messages of chapters holds of the messages of their events
each_event : (P : Message → Type 0) (epoch : ℕ) (cs : List Chapter) → All (λ c. All P c.messages) cs → All (λ e. P e.message) (events_from epoch cs)
each_event P epoch [] each = All-nil (λ e. P e.message)
each_event P epoch (c ∷ cs) each =
    All-append (λ e. P e.message) (events_in epoch c.messages) (events_from (epoch + 1) cs) (All-map (λ e. P e.message) (λ m. record { epoch = epoch; message = m }) c.messages (All-head (λ d. All P d.messages) c cs each))
    (each_event P (epoch + 1) cs (All-tail (λ d. All P d.messages) c cs each))

few_events : (most epoch : ℕ) (cs : List Chapter) → All (λ c. length c.messages ≤ most) cs → length (events_from epoch cs) ≤ length cs * most
few_events most epoch [] each = omega arith
few_events most epoch (c ∷ cs) each =
    let event : Message → Event = λ m. record { epoch = epoch; message = m } in
    omega (arith, All-head (λ d. length d.messages ≤ most) c cs each, few_events most (epoch + 1) cs (All-tail (λ d. length d.messages ≤ most) c cs each), length-append (events_in epoch c.messages) (events_from (epoch + 1) cs), length-map c.messages event)

-- ---- a history

module _ (w limit : ℕ) (h : History) (t : IsTrue (is_history w h)) (limited : IsTrue (is_limited limit h)) where
  -- each message of the past, and of the present, can be carried
  past_is_carried : list_all (λ c. are_carried limit c.messages) h.past ≡ true
  past_is_carried =
      let all = (and_parts (nat_le (epoch_of h) 65535) (list_all (λ c. are_carried limit c.messages) (chapters h)) limited).1 in
      (and_parts _ _ (sym (list_all-append (λ c. are_carried limit c.messages) h.past (h.present ∷ [])) ∙ all)).0

  present_is_carried : are_carried limit h.present.messages ≡ true
  present_is_carried =
      let all = (and_parts (nat_le (epoch_of h) 65535) (list_all (λ c. are_carried limit c.messages) (chapters h)) limited).1 in
      (and_parts _ _ (and_parts _ _ (sym (list_all-append (λ c. are_carried limit c.messages) h.past (h.present ∷ [])) ∙ all)).1).0

  pub events_are_carried : All (λ e. is_carried limit e.message ≡ true) (events h)
  events_are_carried =
      let Carried : Message → Type 0 = λ m. is_carried limit m ≡ true in
      All-append (λ e. Carried e.message) (events_from 0 h.past) (events_in (epoch_of h) h.present.messages)
      (each_event Carried 0 h.past (All-weaker (λ c. are_carried limit c.messages ≡ true) (λ c. All Carried c.messages) (λ c. AllPass-from_list_all (is_carried limit) c.messages) h.past (AllPass-from_list_all (λ c. are_carried limit c.messages) h.past past_is_carried)))
      (All-map (λ e. Carried e.message) (λ m. record { epoch = epoch_of h; message = m }) h.present.messages (AllPass-from_list_all (is_carried limit) h.present.messages present_is_carried))

  short : (c : Chapter) → is_chapter_of w c ≡ true → are_carried limit c.messages ≡ true → length c.messages ≤ 16 * limit
  short c is carried =
      let both = and_parts (nat_le c.n 16 && nat_lt c.me c.n) (is_chapter c.n w c.me c.messages) is in
      let few : c.n ≤ 16 = leb-true c.n 16 (and_parts (nat_le c.n 16) (nat_lt c.me c.n) both.0).0 in
      let less : c.n * limit ≤ 16 * limit = mul-le-mul_right limit few in
      omega (arith, chapter_is_bounded c.n w c.me limit c.messages both.1 carried, less)

  pub history_is_bounded : length (events h) ≤ 65536 * (16 * limit)
  history_is_bounded =
      let both = and_parts (list_all (λ c. is_chapter_of w c && is_all_stable c) h.past) (is_chapter_of w h.present) t in
      let are : All (λ c. (is_chapter_of w c && is_all_stable c) ≡ true) h.past = AllPass-from_list_all (λ c. is_chapter_of w c && is_all_stable c) h.past both.0 in
      let carried : All (λ c. are_carried limit c.messages ≡ true) h.past = AllPass-from_list_all (λ c. are_carried limit c.messages) h.past past_is_carried in
      let each : All (λ c. length c.messages ≤ 16 * limit) h.past = λ k d l. short (slice_index_or h.past k d) (and_parts _ _ (are k d l)).0 (carried k d l) in
      let epochs : epoch_of h ≤ 65535 = leb-true (epoch_of h) 65535 (and_parts (nat_le (epoch_of h) 65535) (list_all (λ c. are_carried limit c.messages) (chapters h)) limited).0 in
      let less : epoch_of h * (16 * limit) ≤ 65535 * (16 * limit) = mul-le-mul_right (16 * limit) epochs in
      let event : Message → Event = λ m. record { epoch = epoch_of h; message = m } in
      omega (arith, length-append (events_from 0 h.past) (events_in (epoch_of h) h.present.messages), few_events (16 * limit) 0 h.past each, less, length-map h.present.messages event, short h.present both.1 present_is_carried)
