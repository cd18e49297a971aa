-- Members that enter the next epoch.
use Rattle.std.proofs.Common.{◌≡◌, ◌≢◌, ℕ, ◌+◌, ◌-◌, ◌<◌, ◌≤◌, ◌⊎◌, nat_lt, IsTrue, min, ◌++◌, ◌∷◌, [], All, List, length, take, slice_index_or, slice_set, inl, inr, sym, ap, subst, ◌∙◌, get_or-set_same, get_or-set_other, length-set, if◌then◌else◌, arith}
use Rattle.std.proofs.lemmas.Bool.{cases_eq, cases_lt, cond-true, cond-false, lt-ltb, le-ltb, ltb-true, false_from_ne_true}
use Rattle.std.proofs.lemmas.List.{get_or_default, get_or_push, get_or_append_left, get_or-take, length_push, length-take}
use Rattle.std.proofs.lemmas.List.Sums.{fold-append}
use Rattle.causal_model.specs.Journal.{state_noted, regrouped}
use Rattle.causal_model.specs.State.{start}
use Rattle.causal_model.specs.declared.note.Note.TheVariants.{Regroup}
use Rattle.replica_core.specs.Numbers.{are_numbers}
use Rattle.replica_core.specs.Rooms.{IsRoomFor}
use Rattle.replica_core.specs.declared.epochs.EpochRoom.{EpochRoom}
use Rattle.replica_core.specs.declared.replica.Replica.{Replica}
use Rattle.replica_node.specs.Nodes.{state_by}
use Rattle.world.specs.Shows.{NotedNode, state_of}
use Rattle.world.specs.Entrants.{IsReady, IsAsBefore, AreAsBefore, IsSettled, IsEarly, IsNextNode, CanTurn, CanGoOn, IsEntrant, AreEntrants, place_for, HaveEntered, AreNext, CanEnter, EntersAs, count_with}
use Rattle.world.specs.declared.regrouping.Entrant.{Entrant}
use Rattle.world.specs.declared.regrouping.Entrant.TheVariants as entrant

-- where there are some nodes, each member begins with that of one of them
pub place_is_within : (size q : ℕ) → 1 ≤ size → place_for size q < size
place_is_within size q some = elim (cases_lt q size) [
  | inl l ↦ omega (arith, cond-true (nat_lt q size) q 0 (lt-ltb q size l), l)
  | inr past ↦ omega (arith, cond-false (nat_lt q size) q 0 (le-ltb q size past), some)
]

-- a node that begins the next epoch and notes it is that epoch's
pub noted_is_next : (node next : NotedNode) (n me : ℕ) → next.inner.w ≡ node.inner.w → next.inner.limit ≡ node.inner.limit → next.first ≡ node.first → next.journal.notes ≡ node.journal.notes ++ Regroup (node.inner.epoch + 1) n me ∷ [] → IsNextNode n me node next
noted_is_next node next n me w limit first noted = record {
  state = ap (λ f. state_by f next.journal.notes) first ∙ ap (state_by node.first) noted
      ∙ fold-append state_noted (start node.first.1 node.first.0) node.journal.notes (Regroup (node.inner.epoch + 1) n me ∷ []);
  w = w;
  limit = limit;
  noted = noted;
}

-- it stands where the node stood
pub stands_there : (nodes : List NotedNode) (q n me : ℕ) (node next d e : NotedNode) → q < length nodes → node ≡ slice_index_or nodes q node → IsNextNode n me node next
    → IsNextNode n me (slice_index_or nodes q d) (slice_index_or (slice_set nodes q next) q e)
stands_there nodes q n me node next d e low at is =
    subst (λ x. IsNextNode n me x (slice_index_or (slice_set nodes q next) q e)) (at ∙ get_or_default nodes q node d low)
    (subst (IsNextNode n me node) (sym (get_or-set_same nodes q next e low)) is)

-- ---- room for a note at each node

-- so many nodes have room, and all are as before
pub record AreReadied (before now : List NotedNode) (count : ℕ) : Type 0 where
  pub same : AreAsBefore before now
  pub ready : (i : ℕ) (d : NotedNode) → i < count → IsReady (slice_index_or now i d)

module _ (before now : List NotedNode) (q : ℕ) (node next : NotedNode) (low : q < length now) (at : node ≡ slice_index_or now q node) (inner : next.inner ≡ node.inner) (first : next.first ≡ node.first) (notes : next.journal.notes ≡ node.journal.notes) where
  pub one_is_as_before : AreAsBefore before now → AreAsBefore before (slice_set now q next)
  one_is_as_before are = record {
    count = length-set now q next ∙ are.count;
    each = λ i d l. elim (cases_eq i q) [
      | inl e ↦
          let there : slice_index_or now i d ≡ node = ap (λ k. slice_index_or now k d) e ∙ sym (at ∙ get_or_default now q node d low) in
          let here : slice_index_or (slice_set now q next) i d ≡ next = ap (λ k. slice_index_or (slice_set now q next) k d) e ∙ get_or-set_same now q next d low in
          let was = are.each i d l in
          record {
            inner = ap (λ (x : NotedNode). x.inner) here ∙ inner ∙ sym (ap (λ (x : NotedNode). x.inner) there) ∙ was.inner;
            first = ap (λ (x : NotedNode). x.first) here ∙ first ∙ sym (ap (λ (x : NotedNode). x.first) there) ∙ was.first;
            notes = ap (λ (x : NotedNode). x.journal.notes) here ∙ notes ∙ sym (ap (λ (x : NotedNode). x.journal.notes) there) ∙ was.notes;
          }
      | inr ne ↦ subst (IsAsBefore (slice_index_or before i d)) (sym (get_or-set_other now q i next d ne)) (are.each i d l)
    ];
  }

  pub one_readied : AreReadied before now q → IsReady next → AreReadied before (slice_set now q next) (q + 1)
  one_readied are ready = record {
    same = one_is_as_before are.same;
    ready = λ i d l. elim (cases_eq i q) [
      | inl e ↦ subst IsReady (sym (ap (λ k. slice_index_or (slice_set now q next) k d) e ∙ get_or-set_same now q next d low)) ready
      | inr ne ↦ subst IsReady (sym (get_or-set_other now q i next d ne)) (are.ready i d (omega (arith, l, ne)))
    ];
  }

-- ---- entrants, the last first

-- a member goes on in a room that was made for it, where the epoch can end
pub can_go_on : (n q : ℕ) (nodes : List NotedNode) (node : NotedNode) (room : EpochRoom) → q < length nodes → node ≡ slice_index_or nodes q node → All IsSettled nodes → All IsEarly nodes → IsTrue (are_numbers q n node.inner.w node.inner.limit) → room.me ≡ q → room.n ≡ n
    → IsRoomFor node.inner.n q n node.inner.w room → CanGoOn n q nodes room
can_go_on n q nodes node room low at settled early numbers is_me is_n empty = record {
  low = low;
  me = is_me;
  n_is = is_n;
  turns = λ d.
      let here : node ≡ slice_index_or nodes q d = at ∙ get_or_default nodes q node d low in
      record {
        numbers = rw (is_me, is_n, sym here) numbers;
        settled = settled q d low;
        early = early q d low;
        empty = subst (λ me. IsRoomFor (slice_index_or nodes q d).inner.n me room.n (slice_index_or nodes q d).inner.w room) (sym is_me) (subst (λ k. IsRoomFor (slice_index_or nodes q d).inner.n q k (slice_index_or nodes q d).inner.w room) (sym is_n) (subst (λ (x : NotedNode). IsRoomFor x.inner.n q n x.inner.w room) here empty));
      };
}

pub one_entrant_more : (n : ℕ) (nodes : List NotedNode) (count : ℕ) (entrants after : List Entrant) (e : Entrant) → AreEntrants n nodes count entrants → after ≡ entrants ++ e ∷ [] → IsEntrant n nodes (n - 1 - count) e → AreEntrants n nodes (count + 1) after
one_entrant_more n nodes count entrants after e are is one = record {
  count_is = ap length is ∙ length_push entrants e ∙ ap (λ k. k + 1) are.count_is;
  each = λ i d l. subst (λ es. IsEntrant n nodes (n - 1 - i) (slice_index_or es i d)) (sym is) (elim (cases_eq i count) [
    | inl here ↦ subst (λ k. IsEntrant n nodes (n - 1 - k) (slice_index_or (entrants ++ e ∷ []) i d)) (sym here) (subst (IsEntrant n nodes (n - 1 - count)) (sym (get_or_push entrants e d i (are.count_is ∙ sym here))) one)
    | inr ne ↦ subst (IsEntrant n nodes (n - 1 - i)) (sym (get_or_append_left entrants (e ∷ []) d i (omega (arith, l, ne, are.count_is)))) (are.each i d (omega (arith, l, ne)))
  ]);
}

-- the last of them is the first that is left
pub last_enters : (n q : ℕ) (nodes : List NotedNode) (entrants rest : List Entrant) (e : Entrant) → q < n → AreEntrants n nodes (n - q) entrants → entrants ≡ rest ++ e ∷ [] → IsEntrant n nodes q e × AreEntrants n nodes (n - (q + 1)) rest
last_enters n q nodes entrants rest e low are is =
    let count : length rest ≡ n - (q + 1) = omega (arith, ap length is, length_push rest e, are.count_is, low) in
    let i = n - (q + 1) in
    let place : n - 1 - i ≡ q = omega (arith, low) in (
      subst (λ k. IsEntrant n nodes k e) place (subst (IsEntrant n nodes (n - 1 - i)) (ap (λ es. slice_index_or es i e) is ∙ get_or_push rest e e i count) (are.each i e (omega (arith, low)))),
      record {
        count_is = count;
        each = λ j d l. subst (IsEntrant n nodes (n - 1 - j)) (ap (λ es. slice_index_or es j d) is ∙ get_or_append_left rest (e ∷ []) d j (omega (arith, l, count))) (are.each j d (omega (arith, l, low)));
      },
    )

-- ---- members enter

-- the first q members of n have entered, where there were these nodes
pub record AreEntering (n : ℕ) (before : List NotedNode) (q : ℕ) (now : List NotedNode) : Type 0 where
  pub small : q ≤ length before → length now ≡ length before
  pub large : length before ≤ q → length now ≡ q
  pub reached : q ≤ length now
  pub entered : HaveEntered n before q now
  pub rest : (i : ℕ) (d : NotedNode) → q ≤ i → i < length before → slice_index_or now i d ≡ slice_index_or before i d

module _ (n : ℕ) (before : List NotedNode) (q : ℕ) (now : List NotedNode) (are : AreEntering n before q now) where
  -- the next one can enter
  pub can_enter : (e : Entrant) → All IsReady before → IsEntrant n before q e → CanEnter now q e
  can_enter (entrant.Stays room) ready is =
      let same : (d : NotedNode) → slice_index_or before q d ≡ slice_index_or now q d = λ d. sym (are.rest q d (omega arith) is.low) in (
        omega (arith, is.low, are.small (omega (arith, is.low))),
        λ d. (
          subst IsReady (same d) (ready q d is.low),
          subst (λ (x : NotedNode). CanTurn x.inner room) (same d) (is.turns d),
        ),
      )
  can_enter (entrant.Comes node) ready is = are.large is.0

  module _ (after : List NotedNode) (others : (i : ℕ) (d : NotedNode) → i ≢ q → i < length now → slice_index_or after i d ≡ slice_index_or now i d) where
    place_here : (size : ℕ) → q < size → place_for size q ≡ q
    place_here size l = cond-true (nat_lt q size) q 0 (lt-ltb q size l)

    place_new : (size : ℕ) → size ≤ q → place_for size q ≡ 0
    place_new size l = cond-false (nat_lt q size) q 0 (false_from_ne_true (nat_lt q size) (λ t. omega (arith, ltb-true q size t, l)))

    -- it has the next epoch's node then
    enters : (e : Entrant) → IsEntrant n before q e → ((d : NotedNode) → EntersAs now q e (slice_index_or after q d)) → (d f : NotedNode) → IsNextNode n q (slice_index_or before (place_for (length before) q) d) (slice_index_or after q f)
    enters (entrant.Stays room) is here d f =
        subst (λ k. IsNextNode n q (slice_index_or before k d) (slice_index_or after q f)) (sym (place_here (length before) is.low))
        (subst (λ x. IsNextNode n q x (slice_index_or after q f)) (are.rest q d (omega arith) is.low)
        (subst (λ k. IsNextNode k q (slice_index_or now q d) (slice_index_or after q f)) is.n_is (subst (λ k. IsNextNode room.n k (slice_index_or now q d) (slice_index_or after q f)) is.me (here f d))))
    enters (entrant.Comes node) is here d f =
        subst (λ k. IsNextNode n q (slice_index_or before k d) (slice_index_or after q f)) (sym (place_new (length before) is.0)) (subst (IsNextNode n q (slice_index_or before 0 d)) (sym (here f)) (is.1 d))

    counted : (e : Entrant) → IsEntrant n before q e → length after ≡ count_with (length now) e → (q + 1 ≤ length before → length after ≡ length before) × (length before ≤ q + 1 → length after ≡ q + 1) × (q + 1 ≤ length after)
    counted (entrant.Stays room) is count = let small = are.small (omega (arith, is.low)) in (λ l. count ∙ small, λ l. omega (arith, l, count, small, is.low), omega (arith, count, small, is.low))
    counted (entrant.Comes node) is count = let large = are.large is.0 in (λ l. absurd (omega (arith, l, is.0)), λ l. count ∙ ap (λ k. k + 1) large, omega (arith, count, large))

    pub one_enters : (e : Entrant) → IsEntrant n before q e → length after ≡ count_with (length now) e → ((d : NotedNode) → EntersAs now q e (slice_index_or after q d)) → AreEntering n before (q + 1) after
    one_enters e is count here = record {
      small = (counted e is count).0;
      large = (counted e is count).1;
      reached = (counted e is count).2;
      entered = λ i d f l. elim (cases_eq i q) [
        | inl at ↦ subst (λ k. IsNextNode n k (slice_index_or before (place_for (length before) k) d) (slice_index_or after k f)) (sym at) (enters e is here d f)
        | inr ne ↦ subst (IsNextNode n i (slice_index_or before (place_for (length before) i) d)) (sym (others i f ne (omega (arith, l, ne, are.reached)))) (are.entered i d f (omega (arith, l, ne)))
      ];
      rest = λ i d l k. others i d (λ e. omega (arith, e, l)) (omega (arith, k, l, are.small (omega (arith, k, l)))) ∙ are.rest i d (omega (arith, l)) k;
    }

-- ---- nodes that are as before

-- the state that a journal gives is as before, and so is what comes of it
pub same_state : (a b : NotedNode) → IsAsBefore a b → state_of b ≡ state_of a
same_state a b is = ap (λ f. state_by f b.journal.notes) is.first ∙ ap (state_by a.first) is.notes

next_as_before : (n q : ℕ) (a b next : NotedNode) → IsAsBefore a b → IsNextNode n q b next → IsNextNode n q a next
next_as_before n q a b next same is = record {
  state = is.state ∙ ap (regrouped n q) (same_state a b same);
  w = is.w ∙ ap (λ (r : Replica). r.w) same.inner;
  limit = is.limit ∙ ap (λ (r : Replica). r.limit) same.inner;
  noted = is.noted ∙ ap (λ notes. notes ++ Regroup (b.inner.epoch + 1) n q ∷ []) same.notes ∙ ap (λ (r : Replica). a.journal.notes ++ Regroup (r.epoch + 1) n q ∷ []) same.inner;
}

-- the first n nodes as they are after room was taken, with what there was before
module _ (n : ℕ) (before now : List NotedNode) (some : 1 ≤ length before) (same : AreAsBefore before now) where
  abbrev pub first_nodes : List NotedNode
  first_nodes = take n now

  first_count : length first_nodes ≡ min n (length before)
  first_count = length-take n now ∙ ap (min n) same.count

  first_same : (q : ℕ) (d : NotedNode) → q < n → q < length before → IsAsBefore (slice_index_or before q d) (slice_index_or first_nodes q d)
  first_same q d low here = subst (IsAsBefore (slice_index_or before q d)) (sym (get_or-take n now q d low)) (same.each q d here)

  same_place : (q : ℕ) → q < n → place_for (length first_nodes) q ≡ place_for (length before) q
  same_place q low = ap (λ b. if b then q else 0) (by (cases_lt q (length before))) where
    by : (q < length before) ⊎ (length before ≤ q) → nat_lt q (length first_nodes) ≡ nat_lt q (length before)
    by (inl l) = lt-ltb q (length first_nodes) (omega (arith, first_count, l, low)) ∙ sym (lt-ltb q (length before) l)
    by (inr l) = false_from_ne_true (nat_lt q (length first_nodes)) (λ t. omega (arith, ltb-true q (length first_nodes) t, first_count, l, low)) ∙ sym (false_from_ne_true (nat_lt q (length before)) (λ t. omega (arith, ltb-true q (length before) t, l)))

  place_is_low : (q : ℕ) → q < n → (place_for (length before) q < length before) × (place_for (length before) q < n)
  place_is_low q low = by (cases_lt q (length before)) where
    by : (q < length before) ⊎ (length before ≤ q) → (place_for (length before) q < length before) × (place_for (length before) q < n)
    by (inl l) = let here : place_for (length before) q ≡ q = cond-true (nat_lt q (length before)) q 0 (lt-ltb q (length before) l) in (omega (arith, here, l), omega (arith, here, low))
    by (inr l) = let here : place_for (length before) q ≡ 0 = cond-false (nat_lt q (length before)) q 0 (false_from_ne_true (nat_lt q (length before)) (λ t. omega (arith, ltb-true q (length before) t, l))) in (omega (arith, here, some), omega (arith, here, low))

  -- and what they have become is so of what there was before
  pub next_stays : (after : List NotedNode) → AreNext n first_nodes after → AreNext n before after
  next_stays after are = record {
    count = are.count;
    each = λ q d e l.
        let low = place_is_low q l in
        let k = place_for (length before) q in
        next_as_before n q (slice_index_or before k d) (slice_index_or first_nodes k d) (slice_index_or after q e) (first_same k d low.1 low.0)
        (subst (λ j. IsNextNode n q (slice_index_or first_nodes j d) (slice_index_or after q e)) (same_place q l) (are.each q d e l));
  }
