-- The queues that a buffer keeps, after an edit of one of them, and what is next.
use Rattle.std.proofs.Common.{◌≡◌, ◌≢◌, ℕ, ◌+◌, ◌-◌, ◌^◌, ◌<◌, ◌≤◌, Bool, true, false, not, cond, ◌&&◌, ◌==◌, ◌↔◌, nat_lt, IsTrue, All, List, [], ◌∷◌, ◌++◌, length, get_or, set, refl, sym, ap, subst, ◌∙◌, inl, inr, Option, Some, None, Bor, arith}
use Rattle.std.specs.List.{find, list_any, flat_map}
use Rattle.std.specs.Option.{is_some, is_none, option_map, option_copied, option_to_list, IfSome, IfNone}
use Rattle.std.specs.Bool.{then_some}
use Rattle.std.specs.Int.{from_bool}
use Rattle.std.proofs.lemmas.Bool.{and_left, and_right, and_parts, or_left, or_from, lt-ltb, le-ltb, cases_eq, cases_order, false≢true, false_from_ne_true, ne_eqb, eq-eqb, eqb-true, not-true}
use Rattle.std.proofs.lemmas.List.{get_or_default, get_or-set_same, get_or-set_other, length-set, length-append, get_or_append_left}
use Rattle.std.proofs.Math.Seq.{get_or-append_seam}
use Rattle.std.proofs.lemmas.List.Elements.{All-nil, All-cons, All-head, All-tail, All-filter, filter_passes}
use Rattle.op_base.specs.Timestamp.{entry}
use Rattle.op_base.specs.Message.{number, id_of, fits}
use Rattle.op_base.specs.declared.message.Message.{Message}
use Rattle.op_base.specs.declared.tag.MessageId.{MessageId}
use Rattle.causal_model.specs.Counts.{is_deliverable}
use Rattle.causal_model.specs.Stability.{noop_window}
use Rattle.causal_model.specs.Receiving.{is_far}
use Rattle.causal_model.specs.Early.{is_again, stands_before, put_early, has_id, without}
use Rattle.causal_model.proofs.States.Early.{All-put_early, IsNear-from_test, IsDeliverable-from_test}
use Rattle.causal_model.proofs.Theory.Finds.{found, none_found, none_passes}
use Rattle.causal_buffer.specs.Buffer.{AreAhead, AreNear, IsNextId}
use Rattle.causal_buffer.specs.declared.queue.Queue.{Queue}
use Rattle.causal_buffer.specs.declared.queue.Wait.{Wait}
use Rattle.causal_buffer.specs.declared.watch.Watch.{Watch}
use Rattle.causal_buffer.specs.Row.{Row}
use Rattle.causal_buffer.specs.Watch.{IsWatch}
use Rattle.causal_buffer.specs.Queue.{messages, standing, ArePlaces, WaitsFor, AreWaiting, IsQueue, AreWithin, IsKept, AreKept, AreQueues, is_ready, can_be_taken, AreUnready, IsLowest}
use Rattle.causal_buffer.proofs.Places.{has, all_at, standing_few, find_of_id, length-taken, without_at, places_set}
use Rattle.causal_buffer.proofs.Parts.{All-flat, All-part, any_is_found, IsPartFor, FailElsewhere, find_flat, without_flat, put_flat, first_flat, first_put, none_flat, length-flat, find-put_early}

pub some_copied : {X : Type 0} (r : Option (Bor X)) → is_some r ≡ is_some (option_copied r)
some_copied None = refl
some_copied (Some x) = refl

pub none_is_not_some : {X : Type 0} (o : Option X) → is_none o ≡ not (is_some o)
none_is_not_some None = refl
none_is_not_some (Some x) = refl

pub some_mapped : {X Y : Type 0} (f : X → Y) (o : Option X) (y : Y) → Some y ≡ option_map f o → is_some o ≡ true
some_mapped f None y e = cc
some_mapped f (Some x) y e = refl

pub length-option : {X : Type 0} (o : Option X) → from_bool (is_some o) ≡ length (option_to_list o)
length-option None = refl
length-option (Some x) = refl

pub none_from : {X : Type 0} (o : Option X) → is_some o ≡ false → o ≡ None
none_from None e = refl
none_from (Some x) e = cc

find_same : (p q : Message → Bool) (xs : List Message) → All (λ x. p x ≡ q x) xs → find p xs ≡ find q xs
find_same p q [] same = refl
find_same p q (x ∷ xs) same =
    ap (λ b. cond b (Some x) (find p xs)) (All-head (λ z. p z ≡ q z) x xs same) ∙ ap (λ o. cond (q x) (Some x) o) (find_same p q xs (All-tail (λ z. p z ≡ q z) x xs same))

-- ---- messages of several members

pub not_of_member : (id : MessageId) (m : Message) → m.origin ≢ id.origin → has_id id m ≡ false
not_of_member id m ne = and_left (id.origin == m.origin) (id.seq == number m) (ne_eqb id.origin m.origin (λ e. ne (sym e)))

stands_by_origin : (a b : Message) → a.origin < b.origin → stands_before a b ≡ true
stands_by_origin a b l = or_left (nat_lt a.origin b.origin) ((a.origin == b.origin) && nat_lt (number a) (number b)) (lt-ltb a.origin b.origin l)

higher_stands_after : (a b : Message) → b.origin < a.origin → stands_before a b ≡ false
higher_stands_after a b l = or_from (nat_lt a.origin b.origin) ((a.origin == b.origin) && nat_lt (number a) (number b)) (le-ltb a.origin b.origin (omega (arith, l))) (and_left (a.origin == b.origin) (nat_lt (number a) (number b)) (ne_eqb a.origin b.origin (λ e. omega (arith, e, l))))

pub has_parts : (id : MessageId) (m : Message) → has_id id m ≡ true → (m.origin ≡ id.origin) × (number m ≡ id.seq)
has_parts id m t =
    let parts = and_parts (id.origin == m.origin) (id.seq == number m) t in
    (sym (eqb-true id.origin m.origin parts.0), sym (eqb-true id.seq (number m) parts.1))

-- of a member's messages only the next can be delivered
pub not_ready : (n member : ℕ) (counted : List ℕ) (m : Message) → number m ≢ entry counted member + 1 → is_ready n counted member m ≡ false
not_ready n member counted m ne = elim (cases_eq m.origin member) [
  | inl own ↦ and_right (m.origin == member) (is_deliverable n counted m) (false_from_ne_true (is_deliverable n counted m) (λ t. ne ((IsDeliverable-from_test n counted m t).next ∙ ap (λ x. entry counted x + 1) own)))
  | inr other ↦ and_left (m.origin == member) (is_deliverable n counted m) (ne_eqb m.origin member other)
]

own_ready : (n member : ℕ) (counted : List ℕ) (m : Message) → m.origin ≡ member → is_ready n counted member m ≡ is_deliverable n counted m
own_ready n member counted m own = ap (λ b. b && is_deliverable n counted m) (eq-eqb m.origin member own)

-- what is found of the next message of a member
pub next_is_told : (n : ℕ) (counted : List ℕ) (id : MessageId) (m : Message) (can : Bool) → has_id id m ≡ true → can ≡ is_deliverable n counted m
    → then_some can id ≡ option_map id_of (find (is_ready n counted id.origin) (option_to_list (Some m)))
next_is_told n counted id m can t same =
    let parts = has_parts id m t in
    let of : id ≡ id_of m = λ j. record { origin = sym parts.0 j; seq = sym parts.1 j } in
    let own : can ≡ is_ready n counted id.origin m = same ∙ sym (own_ready n id.origin counted m parts.0) in
    elim can as (λ b. then_some b id ≡ option_map id_of (cond b (Some m) None)) [ true ↦ ap Some of | false ↦ refl ]
    ∙ ap (λ b. option_map id_of (cond b (Some m) None)) own

pub can_be_told : (n : ℕ) (counted : List ℕ) (id : MessageId) (early : List Message) (can : Bool) → can ≡ can_be_taken n counted (find (has_id id) early)
    → then_some can id ≡ option_map id_of (find (is_ready n counted id.origin) (option_to_list (find (has_id id) early)))
can_be_told n counted id early can = by (find (has_id id) early) refl where
  by : (o : Option Message) → find (has_id id) early ≡ o → can ≡ can_be_taken n counted o → then_some can id ≡ option_map id_of (find (is_ready n counted id.origin) (option_to_list o))
  by None e same = ap (λ b. then_some b id) same
  by (Some m) e same = next_is_told n counted id m can (found (has_id id) early m e).1 same

-- what passes of at most one is that one
found_is : (p : Message → Bool) (o : Option Message) → is_some (find p (option_to_list o)) ≡ true → find p (option_to_list o) ≡ o
found_is p None e = refl
found_is p (Some m) e = by (p m) e where
  by : (b : Bool) → is_some (cond b (Some m) None) ≡ true → cond b (Some m) None ≡ Some m
  by true f = refl
  by false f = absurd (false≢true f)

-- what is ready of the lowest member
pub is_lowest : (end n member : ℕ) (counted : List ℕ) (early : List Message) (id : MessageId) → member < end → IsNextId n counted id → Some id ≡ option_map id_of (find (is_ready n counted member) early) → AreUnready member n counted early
    → IsLowest end n counted early id
is_lowest end n member counted early id below next ready unready =
    let of : id.origin ≡ member = by (find (is_ready n counted member) early) refl ready in
    record { below = omega (arith, below, of); next = next; ready = subst (λ x. Some id ≡ option_map id_of (find (is_ready n counted x) early)) (sym of) ready; lowest = subst (λ x. AreUnready x n counted early) (sym of) unready } where
      by : (o : Option Message) → find (is_ready n counted member) early ≡ o → Some id ≡ option_map id_of o → id.origin ≡ member
      by None e is = cc
      by (Some m) e is =
          let same : id ≡ id_of m = cc in
          ap (λ (i : MessageId). i.origin) same ∙ eqb-true m.origin member (and_parts (m.origin == member) (is_deliverable n counted m) (found (is_ready n counted member) early m e).1).0

-- what is found of a member is of the lowest one, where none of a lower one is ready
pub found_is_lowest : (end n member : ℕ) (counted : List ℕ) (early : List Message) (o : Option MessageId) → member < end → IfSome o (IsNextId n counted) → o ≡ option_map id_of (find (is_ready n counted member) early)
    → AreUnready member n counted early → IfSome o (IsLowest end n counted early)
found_is_lowest end n member counted early None below next ready unready = tt
found_is_lowest end n member counted early (Some id) below next ready unready = is_lowest end n member counted early id below next ready unready

-- ---- a message that isn't early is next once it is put among the early ones, where none of a lower member can be delivered

module _ (n : ℕ) (counted : List ℕ) (m : Message) (early : List Message) (apart : is_again early m ≡ false) (can : is_deliverable n counted m ≡ true) (none : AreUnready m.origin n counted early) where
  before_is_unready : (e : Message) → has_id (id_of m) e ≡ false → (e.origin < m.origin → is_ready n counted e.origin e ≡ false) → stands_before m e ≡ false → is_deliverable n counted e ≡ false
  before_is_unready e other low not_before = false_from_ne_true (is_deliverable n counted e) (λ t. elim (cases_order e.origin m.origin) [
    | inl same ↦
        let numbers : number e ≡ number m = (IsDeliverable-from_test n counted e t).next ∙ ap (λ x. entry counted x + 1) same ∙ sym (IsDeliverable-from_test n counted m can).next in
        false≢true (sym other ∙ has (id_of m) e same numbers)
    | inr (inl below) ↦ false≢true (sym (low below) ∙ own_ready n e.origin counted e refl ∙ t)
    | inr (inr above) ↦ false≢true (sym not_before ∙ stands_by_origin m e above)
  ])

  pub put_is_next : find (is_deliverable n counted) (put_early m early) ≡ Some m
  put_is_next =
      let others = none_passes (has_id (id_of m)) early (none_from (find (has_id (id_of m)) early) (sym (any_is_found (has_id (id_of m)) early) ∙ apart)) in
      find-put_early (is_deliverable n counted) m early can (λ k d i.
      let e = get_or early k d in
      before_is_unready e (others k d i) (λ l. none_passes (is_ready n counted e.origin) early (none e.origin l) k d i))

-- ---- one queue

-- its messages are its member's
pub queue_own : (member : ℕ) (q : Queue) → IsQueue member q → All (λ m. m.origin ≡ member) (messages q)
queue_own member q is = All-flat option_to_list (λ m. m.origin ≡ member) q.places.items (λ k d l. all_at (λ m. m.origin ≡ member) (get_or q.places.items k d) (λ m e. is.are_places.own k m (get_or_default q.places.items k None d l ∙ e)))

-- the next of them, looked for by its id
pub queue_ready_by_id : (n : ℕ) (counted : List ℕ) (id : MessageId) (q : Queue) → IsQueue id.origin q → id.seq ≡ entry counted id.origin + 1
    → find (is_ready n counted id.origin) (messages q) ≡ find (is_ready n counted id.origin) (option_to_list (find (has_id id) (messages q)))
queue_ready_by_id n counted id q is e = find_of_id id.origin q.first q.places.items is.are_places id refl (is_ready n counted id.origin) (λ m ne. not_ready n id.origin counted m (λ same. ne (same ∙ sym e)))

pub queue_none_ready : (n : ℕ) (counted : List ℕ) (member : ℕ) (q : Queue) → IsQueue member q → 2 ^ 32 ≤ entry counted member + 1 → find (is_ready n counted member) (messages q) ≡ None
queue_none_ready n counted member q is high = none_found (is_ready n counted member) (messages q) (λ k d i. not_ready n member counted (get_or (messages q) k d) (λ same. omega (arith, same, high, is.small k d i)))

-- once the message at a place is taken out
module _ (id : MessageId) (q : Queue) (is : IsQueue id.origin q) (k : ℕ) (at : id.seq ≡ q.first + k) (row : Row) (left : row ≡ record q.places { items = set q.places.items k None }) where
  pub left_in_queue : standing row.items ≡ without id (messages q)
  left_in_queue = ap (λ (r : Row). standing r.items) left ∙ without_at id.origin q.first q.places.items is.are_places id refl k at

  module _ (m : Message) (there : get_or q.places.items k None ≡ Some m) where
    pub one_fewer : length (standing row.items) + 1 ≡ length (messages q)
    one_fewer = omega (arith, length-taken q.places.items k m there, ap (λ (r : Row). length (standing r.items)) left)

    pub taken_queue : IsQueue id.origin (record q { places = row; filled = q.filled - 1 })
    taken_queue = record {
      are_places = subst (λ (r : Row). ArePlaces id.origin q.first r.items) (sym left) (places_set id.origin q.first q.places.items is.are_places k None (λ m e. absurd (cc)));
      within = omega (arith, ap (λ (r : Row). length r.items) left, length-set q.places.items k None, ap (λ (r : Row). r.room) left, is.within);
      counted = omega (arith, one_fewer, is.counted);
      small = subst (All (λ m. number m < 2 ^ 32)) (sym left_in_queue) (All-filter (λ m. not (has_id id m)) (λ m. number m < 2 ^ 32) (messages q) is.small);
      waiting = subst (AreWaiting id.origin q.wait) (sym left_in_queue) (All-filter (λ m. not (has_id id m)) (WaitsFor id.origin q.wait) (messages q) is.waiting);
    }

-- some queue of queues
one_of : (qs : List Queue) (x : ℕ) → x < length qs → Queue
one_of [] x l = absurd (omega (arith, l))
one_of (q ∷ qs) x l = q

-- ---- all queues

module _ (n w : ℕ) where
  own : (qs : List Queue) → AreKept n w qs → (x : ℕ) (d : Queue) → x < length qs → All (λ m. m.origin ≡ x) (messages (get_or qs x d))
  own qs kept x d l = queue_own x (get_or qs x d) (kept x d l).is_queue

  pub kept_set : (qs : List Queue) (x : ℕ) (q : Queue) → AreKept n w qs → IsKept n w x q → AreKept n w (set qs x q)
  kept_set qs x q kept is member d l =
      let inside : member < length qs = omega (arith, l, length-set qs x q) in
      elim (cases_eq member x) [
        | inl e ↦ subst (λ y. IsKept n w y (get_or (set qs x q) y d)) (sym e) (subst (IsKept n w x) (sym (get_or-set_same qs x q d (omega (arith, inside, e)))) is)
        | inr ne ↦ subst (IsKept n w member) (sym (get_or-set_other qs x member q d ne)) (kept member d inside)
      ]

  -- a queue with a message put into it, and one without a message
  pub kept_put : (m : Message) (old new : Queue) → IsKept n w m.origin old → IsTrue (fits n m) → IsQueue m.origin new → messages new ≡ put_early m (messages old) → new.places.room ≡ old.places.room → new.wait.member ≤ old.wait.member → IsKept n w m.origin new
  kept_put m old new is fit queue e room waits = record {
    is_queue = queue;
    fit = subst (All (λ z. IsTrue (fits n z))) (sym e) (All-put_early (λ z. IsTrue (fits n z)) m (messages old) fit is.fit);
    room = room ∙ is.room;
    wait = omega (arith, waits, is.wait);
  }

  pub kept_without : (id : MessageId) (old new : Queue) → IsKept n w id.origin old → IsQueue id.origin new → messages new ≡ without id (messages old) → new.places.room ≡ old.places.room → new.wait ≡ old.wait → IsKept n w id.origin new
  kept_without id old new is queue e room same = record {
    is_queue = queue;
    fit = subst (All (λ z. IsTrue (fits n z))) (sym e) (All-filter (λ m. not (has_id id m)) (λ z. IsTrue (fits n z)) (messages old) is.fit);
    room = room ∙ is.room;
    wait = subst (λ (wait : Wait). wait.member < n) (sym same) is.wait;
  }

  pub kept_empty : (x : ℕ) (q : Queue) → IsQueue x q → messages q ≡ [] → q.places.room ≡ w + noop_window n w → q.wait.member < n → IsKept n w x q
  kept_empty x q queue e room wait = record {
    is_queue = queue;
    fit = subst (All (λ z. IsTrue (fits n z))) (sym e) (All-nil (λ z. IsTrue (fits n z)));
    room = room;
    wait = wait;
  }

  -- one of which only what is waited for is other
  pub kept_waiting : (x : ℕ) (old new : Queue) → IsKept n w x old → IsQueue x new → new ≡ record old { wait = new.wait } → new.wait.member < n → IsKept n w x new
  kept_waiting x old new is queue same wait = record {
    is_queue = queue;
    fit = subst (λ q. All (λ z. IsTrue (fits n z)) (messages q)) (sym same) is.fit;
    room = ap (λ (q : Queue). q.places.room) same ∙ is.room;
    wait = wait;
  }

  -- it has at most as many messages as it has room for
  pub few_kept : (x : ℕ) (q : Queue) → IsKept n w x q → q.filled ≤ w + noop_window n w
  few_kept x q is = omega (arith, is.is_queue.counted, standing_few q.places.items, is.is_queue.within, is.room)

  pub kept_push : (qs : List Queue) (q : Queue) → AreKept n w qs → IsKept n w (length qs) q → AreKept n w (qs ++ q ∷ [])
  kept_push qs q kept is x d l = elim (cases_eq x (length qs)) [
    | inl e ↦ subst (λ y. IsKept n w y (get_or (qs ++ q ∷ []) y d)) (sym e) (subst (IsKept n w (length qs)) (sym (get_or-append_seam qs q [] d)) is)
    | inr ne ↦
        let inside : x < length qs = omega (arith, l, ne, length-append qs (q ∷ [])) in
        subst (IsKept n w x) (sym (get_or_append_left qs (q ∷ []) d x inside)) (kept x d inside)
  ]

  -- ---- what is found by an id, and what an edit of the id's queue makes of the list

  module _ (qs : List Queue) (d : Queue) (kept : AreKept n w qs) where
    -- a test that only messages of one member pass
    fail_elsewhere : (p : Message → Bool) (member : ℕ) → ((m : Message) → m.origin ≢ member → p m ≡ false) → FailElsewhere messages p member qs
    fail_elsewhere p member off y c l ne k e i = off (get_or (messages (get_or qs y c)) k e) (λ same. ne (sym (own qs kept y c l k e i) ∙ same))

    pub find_in_queue : (id : MessageId) → id.origin < length qs → find (has_id id) (flat_map messages qs) ≡ find (has_id id) (messages (get_or qs id.origin d))
    find_in_queue id l = find_flat messages (has_id id) qs id.origin d l (fail_elsewhere (has_id id) id.origin (not_of_member id))

    pub any_in_queue : (id : MessageId) → id.origin < length qs → list_any (has_id id) (flat_map messages qs) ≡ is_some (find (has_id id) (messages (get_or qs id.origin d)))
    any_in_queue id l = any_is_found (has_id id) (flat_map messages qs) ∙ ap is_some (find_in_queue id l)

    pub without_in_queue : (id : MessageId) (q : Queue) → id.origin < length qs → messages q ≡ without id (messages (get_or qs id.origin d)) → flat_map messages (set qs id.origin q) ≡ without id (flat_map messages qs)
    without_in_queue id q l e = without_flat messages (has_id id) qs id.origin q d l (fail_elsewhere (has_id id) id.origin (not_of_member id)) e

    pub put_in_queue : (m : Message) (q : Queue) → m.origin < length qs → messages q ≡ put_early m (messages (get_or qs m.origin d)) → flat_map messages (set qs m.origin q) ≡ put_early m (flat_map messages qs)
    put_in_queue m q l e = put_flat messages m qs m.origin q d l part e where
      part : IsPartFor messages m m.origin qs
      part = record {
        lower = λ y c below k e i. higher_stands_after m (get_or (messages (get_or qs y c)) k e) (omega (arith, below, own qs kept y c (omega (arith, below, l)) k e i));
        higher = λ y c above i k e j. stands_by_origin m (get_or (messages (get_or qs y c)) k e) (omega (arith, above, own qs kept y c i k e j));
      }

    -- what can be delivered of one member's messages
    pub ready_in_queue : (counted : List ℕ) (member : ℕ) → member < length qs → find (is_ready n counted member) (flat_map messages qs) ≡ find (is_ready n counted member) (messages (get_or qs member d))
    ready_in_queue counted member l = find_flat messages (is_ready n counted member) qs member d l (fail_elsewhere (is_ready n counted member) member (λ m ne. and_left (m.origin == member) (is_deliverable n counted m) (ne_eqb m.origin member ne)))

  module _ (qs : List Queue) (kept : AreKept n w qs) where
    pub kept_at : (x : ℕ) (q : Queue) → x < length qs → q ≡ get_or qs x q → IsKept n w x q
    kept_at x q l at = subst (IsKept n w x) (sym at) (kept x q l)

    pub part_at : (P : Message → Type 0) (x : ℕ) (q : Queue) → x < length qs → q ≡ get_or qs x q → All P (flat_map messages qs) → All P (messages q)
    part_at P x q l at each = subst (λ z. All P (messages z)) (sym at) (All-part messages P qs x q l each)

    -- a member's next message, looked for by its id
    pub ready_by_id : (counted : List ℕ) (id : MessageId) (q : Queue) → id.origin < length qs → q ≡ get_or qs id.origin q → id.seq ≡ entry counted id.origin + 1
        → find (is_ready n counted id.origin) (flat_map messages qs) ≡ find (is_ready n counted id.origin) (option_to_list (find (has_id id) (messages q)))
    ready_by_id counted id q l at e =
        ready_in_queue qs q kept counted id.origin l ∙ ap (λ z. find (is_ready n counted id.origin) (messages z)) (sym at) ∙ queue_ready_by_id n counted id q (kept_at id.origin q l at).is_queue e

    -- there is none where its number would fit no number's type
    pub none_ready : (counted : List ℕ) (member : ℕ) (q : Queue) → member < length qs → q ≡ get_or qs member q → 2 ^ 32 ≤ entry counted member + 1 → find (is_ready n counted member) (flat_map messages qs) ≡ None
    none_ready counted member q l at high =
        ready_in_queue qs q kept counted member l ∙ ap (λ z. find (is_ready n counted member) (messages z)) (sym at) ∙ queue_none_ready n counted member q (kept_at member q l at).is_queue high

    -- of a member's messages what can be delivered is what is ready
    ready_is_deliverable : (counted : List ℕ) (member : ℕ) (d : Queue) → member < length qs → find (is_ready n counted member) (flat_map messages qs) ≡ find (is_deliverable n counted) (messages (get_or qs member d))
    ready_is_deliverable counted member d l =
        ready_in_queue qs d kept counted member l
        ∙ find_same (is_ready n counted member) (is_deliverable n counted) (messages (get_or qs member d)) (λ k e i. own_ready n member counted (get_or (messages (get_or qs member d)) k e) (own qs kept member d l k e i))

    -- what is next is of the lowest member of which a message can be delivered
    pub next_is_lowest : (counted : List ℕ) (member : ℕ) → member < length qs → ((k : ℕ) → k < member → find (is_ready n counted k) (flat_map messages qs) ≡ None)
        → is_some (find (is_ready n counted member) (flat_map messages qs)) ≡ true → find (is_deliverable n counted) (flat_map messages qs) ≡ find (is_ready n counted member) (flat_map messages qs)
    next_is_lowest counted member l none some =
        let d = one_of qs member l in
        first_flat messages (is_deliverable n counted) qs member d l (λ k c below. sym (ready_is_deliverable counted k c (omega (arith, below, l))) ∙ none k below) (ap is_some (sym (ready_is_deliverable counted member d l)) ∙ some)
        ∙ sym (ready_is_deliverable counted member d l)

    pub none_is_next : (counted : List ℕ) → ((k : ℕ) → k < length qs → find (is_ready n counted k) (flat_map messages qs) ≡ None) → find (is_deliverable n counted) (flat_map messages qs) ≡ None
    none_is_next counted none = none_flat messages (is_deliverable n counted) qs (λ k c l. sym (ready_is_deliverable counted k c l) ∙ none k l)

    -- the message of the lowest member is found by its id, and it is next
    pub lowest_is_next : (counted : List ℕ) (id : MessageId) → IsLowest n n counted (flat_map messages qs) id → length qs ≡ n
        → (find (has_id id) (flat_map messages qs) ≡ find (is_deliverable n counted) (flat_map messages qs)) × (is_some (find (has_id id) (flat_map messages qs)) ≡ true)
    lowest_is_next counted id is count =
        let early = flat_map messages qs in
        let l : id.origin < length qs = omega (arith, is.below, count) in
        let d = one_of qs id.origin l in
        let q = get_or qs id.origin d in
        let some = some_mapped id_of (find (is_ready n counted id.origin) early) id is.ready in
        let by_id = ready_by_id counted id q l (get_or_default qs id.origin d q l) is.next.numbered in
        let here : find (has_id id) early ≡ find (is_ready n counted id.origin) early
        = find_in_queue qs d kept id l ∙ sym (found_is (is_ready n counted id.origin) (find (has_id id) (messages q)) (ap is_some (sym by_id) ∙ some)) ∙ sym by_id in
        (here ∙ sym (next_is_lowest counted id.origin l is.lowest some), ap is_some here ∙ some)

    -- where it is of a lower member than another message, that one isn't next once it is put among them
    pub put_is_not_next : (counted : List ℕ) (m : Message) (id : MessageId) → m.origin < length qs → IsLowest m.origin n counted (flat_map messages qs) id
        → find (is_deliverable n counted) (put_early m (flat_map messages qs)) ≢ Some m
    put_is_not_next counted m id inside is e =
        let early = flat_map messages qs in
        let x = id.origin in
        let l : x < length qs = omega (arith, is.below, inside) in
        let d = one_of qs x l in
        let some = some_mapped id_of (find (is_ready n counted x) early) id is.ready in
        let same = ready_is_deliverable counted x d l in
        let first = first_put messages (is_deliverable n counted) m qs x d l
        (λ k c le j b i. higher_stands_after m (get_or (messages (get_or qs k c)) j b) (omega (arith, le, is.below, own qs kept k c (omega (arith, le, l)) j b i)))
        (λ k c below. sym (ready_is_deliverable counted k c (omega (arith, below, l))) ∙ is.lowest k below) (ap is_some (sym same) ∙ some) in
        let passes = (found (is_ready n counted x) early m (same ∙ sym first ∙ e)).1 in
        omega (arith, is.below, eqb-true m.origin x (and_parts (m.origin == x) (is_deliverable n counted m) passes).0)

    -- so whether one can be delivered of a lower member tells whether it is next
    pub next_by_lower : (counted : List ℕ) (m : Message) (o : Option MessageId) → m.origin < length qs → is_again (flat_map messages qs) m ≡ false → is_deliverable n counted m ≡ true
        → IfSome o (IsLowest m.origin n counted (flat_map messages qs)) → IfNone o (AreUnready m.origin n counted (flat_map messages qs))
        → IsTrue (is_none o) ↔ (find (is_deliverable n counted) (put_early m (flat_map messages qs)) ≡ Some m)
    next_by_lower counted m None inside apart can some none = ((λ _. put_is_next n counted m (flat_map messages qs) apart can none), (λ _. refl))
    next_by_lower counted m (Some id) inside apart can some none = ((λ t. absurd (false≢true t)), (λ e. absurd (put_is_not_next counted m id inside some e)))

    -- a new message that is neither old nor far can be put into its member's queue
    module _ (me : ℕ) (counted : List ℕ) (m : Message) (q : Queue) (l : m.origin < length qs) (at : q ≡ get_or qs m.origin q) where
      pub fresh_here : is_again (flat_map messages qs) m ≡ false → find (has_id (id_of m)) (messages q) ≡ None
      fresh_here fresh = none_from (find (has_id (id_of m)) (messages q)) (ap (λ z. is_some (find (has_id (id_of m)) (messages z))) at ∙ sym (any_in_queue qs q kept (id_of m) l) ∙ fresh)

      pub near_here : (count : ℕ) → count ≡ entry counted m.origin → entry counted m.origin < number m → is_far n w me counted m ≡ false
          → AreAhead counted (flat_map messages qs) → AreNear n w counted (flat_map messages qs) → AreWithin count q.places.room (m ∷ messages q)
      near_here count is ahead not_far held_ahead held_near =
          let kept_here = kept_at m.origin q l at in
          let near = IsNear-from_test n w me counted m not_far in
          let above = part_at (λ e. entry counted e.origin < number e) m.origin q l at held_ahead in
          let below = part_at (λ e. number e ≤ entry counted e.origin + (w + noop_window n w)) m.origin q l at held_near in
          All-cons (λ e. (count < number e) × (number e ≤ count + q.places.room)) m (messages q)
          (omega (arith, is, ahead), omega (arith, is, near.within, kept_here.room))
          (λ k d i.
          let own = ap (entry counted) (queue_own m.origin q kept_here.is_queue k d i) in
          (omega (arith, is, own, above k d i), omega (arith, is, own, below k d i, kept_here.room)))

-- all that can be early at once of one member
pub most_is_small : (n w : ℕ) → 1 ≤ n → n ≤ 16 → w ≤ 64 → w + noop_window n w ≤ 1985
most_is_small n w some few narrow = grind arith

-- and of all members
pub few_held : (n w held : ℕ) (qs : List Queue) (watch : Watch) → AreQueues n w held qs watch → held ≤ 31760
few_held n w held qs watch are =
    let each : (x : ℕ) (d : Queue) → x < length qs → length (messages (get_or qs x d)) ≤ 1985 = λ x d l.
    omega (arith, few_kept n w x (get_or qs x d) (are.kept x d l), (are.kept x d l).is_queue.counted, most_is_small n w are.some are.few are.narrow) in
    omega (arith, length-flat messages 1985 qs each, are.counted, are.count, are.few)

-- queues that have the same messages are those of the store, too
pub same_are_queues : (n w held : ℕ) (qs : List Queue) (watch : Watch) (members : ℕ) (new : List Queue) (told : Watch) → AreQueues n w held qs watch → n ≡ members → length new ≡ length qs → ((v : ℕ) → AreKept members v qs → AreKept members v new)
    → flat_map messages new ≡ flat_map messages qs → IsWatch members told (flat_map messages new) → AreQueues n w held new told
same_are_queues n w held qs watch members new told is count long kept same watched = record {
  some = is.some;
  few = is.few;
  narrow = is.narrow;
  count = long ∙ is.count;
  kept = subst (λ k. AreKept k w new) (sym count) (kept w (subst (λ k. AreKept k w qs) count is.kept));
  counted = is.counted ∙ sym (ap length same);
  watched = subst (λ k. IsWatch k told (flat_map messages new)) (sym count) watched;
}

-- ---- what is held of the counts once the next message of an origin is taken out and delivered

module _ (id : MessageId) (counted : List ℕ) (early : List Message) (next : IsNextId (length counted) counted id) where
  pub step_keeps_ahead : AreAhead counted early → AreAhead (set counted id.origin id.seq) (without id early)
  step_keeps_ahead ahead k d i =
      let m = get_or (without id early) k d in
      let above : entry counted m.origin < number m = All-filter (λ e. not (has_id id e)) (λ e. entry counted e.origin < number e) early ahead k d i in
      let other : has_id id m ≡ false = not-true (has_id id m) (filter_passes (λ e. not (has_id id e)) early k d i) in
      elim (cases_eq m.origin id.origin) [
        | inl same ↦
            let apart : number m ≢ id.seq = λ e. false≢true (sym other ∙ has id m same e) in
            omega (arith, apart, above, next.numbered, ap (entry counted) same, ap (entry (set counted id.origin id.seq)) same, get_or-set_same counted id.origin id.seq 0 next.of_member)
        | inr ne ↦ omega (arith, above, get_or-set_other counted id.origin m.origin id.seq 0 ne)
      ]

  pub step_keeps_near : (n w : ℕ) → AreNear n w counted early → AreNear n w (set counted id.origin id.seq) (without id early)
  step_keeps_near n w near k d i =
      let m = get_or (without id early) k d in
      let below : number m ≤ entry counted m.origin + (w + noop_window n w) = All-filter (λ e. not (has_id id e)) (λ e. number e ≤ entry counted e.origin + (w + noop_window n w)) early near k d i in
      elim (cases_eq m.origin id.origin) [
        | inl same ↦ omega (arith, below, next.numbered, ap (entry counted) same, ap (entry (set counted id.origin id.seq)) same, get_or-set_same counted id.origin id.seq 0 next.of_member)
        | inr ne ↦ omega (arith, below, get_or-set_other counted id.origin m.origin id.seq 0 ne)
      ]
