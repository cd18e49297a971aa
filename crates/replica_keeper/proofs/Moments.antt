-- How a run of calls on a keeper goes on.
use Rattle.std.proofs.Common.{◌≡◌, inl, inr, ⊎_elim, ℕ, ◌++◌, List, sym, ◌∙◌, arith, length-append}
use Rattle.std.proofs.lemmas.List.{take-append-le}
use Rattle.store_io.specs.Keeping.{Leaves, Elapses, LeavesOnly}

-- a stop that leaves a front leaves one of more bytes
pub leaves_more : (held piece : List ℕ) (synced : ℕ) (left : List ℕ) → Leaves held synced left → Leaves (held ++ piece) synced left
leaves_more held piece synced left l = record {
  count = l.count;
  durable = l.durable;
  within = omega (arith, l.within, length-append held piece);
  front = l.front ∙ sym (take-append-le l.count held piece l.within);
}

module _ {D : Type 0} (moment : D → ℕ) (left_since : D → ℕ → List ℕ → Type 0) where
  -- before the first call
  pub started : (old : D) (P : List ℕ → Type 0) → ((left : List ℕ) → left_since old (moment old) left → P left) → LeavesOnly moment left_since old old P
  started old P here = record { later = omega arith; each = here; before = λ t left le was. inl was }

  -- one call more, after which a stop leaves what has P
  pub goes_on : (old mid new : D) (P MayLeave : List ℕ → Type 0) → LeavesOnly moment left_since old mid P → Elapses (moment mid) (moment new) (left_since mid) (left_since new) MayLeave
      → ((left : List ℕ) → MayLeave left → P left) → LeavesOnly moment left_since old new P
  goes_on old mid new P MayLeave so_far time here = record {
    later = omega (arith, so_far.later, time.later);
    each = λ left since. ⊎_elim (so_far.each left) (here left) (time.nothing_else (moment old) left so_far.later since);
    before = λ t left le since. ⊎_elim (so_far.before t left le) (λ now. inr (here left now)) (time.nothing_else t left (omega (arith, le, so_far.later)) since);
  }

  -- several more, of which a stop leaves what has Q
  pub goes_far : (old mid new : D) (P Q : List ℕ → Type 0) → LeavesOnly moment left_since old mid P → LeavesOnly moment left_since mid new Q → ((left : List ℕ) → Q left → P left) → LeavesOnly moment left_since old new P
  goes_far old mid new P Q so_far then here = record {
    later = omega (arith, so_far.later, then.later);
    each = λ left since. ⊎_elim (so_far.each left) (here left) (then.before (moment old) left so_far.later since);
    before = λ t left le since. ⊎_elim (so_far.before t left le) (λ now. inr (here left now)) (then.before t left (omega (arith, le, so_far.later)) since);
  }

-- a stop leaves what has P, so what has Q
pub weaker : {D : Type 0} (moment : D → ℕ) (left_since : D → ℕ → List ℕ → Type 0) (old new : D) (P Q : List ℕ → Type 0) → LeavesOnly moment left_since old new P → ((left : List ℕ) → P left → Q left) → LeavesOnly moment left_since old new Q
weaker moment left_since old new P Q so then = record {
  later = so.later;
  each = λ left since. then left (so.each left since);
  before = λ t left le since. ⊎_elim (λ was. inl was) (λ now. inr (then left now)) (so.before t left le since);
}

-- a keeper's calls that end in an append of bytes
module _ {D : Type 0} (held : D → List ℕ) (synced : D → ℕ) (moment : D → ℕ) (left_since : D → ℕ → List ℕ → Type 0) (only_now : (k : D) (left : List ℕ) → left_since k (moment k) left → Leaves (held k) (synced k) left)
    (old : D) (piece : List ℕ) (P : List ℕ → Type 0) (here : (left : List ℕ) → Leaves (held old ++ piece) (synced old) left → P left) where
  pub begun : LeavesOnly moment left_since old old P
  begun = started moment left_since old P (λ left since. here left (leaves_more (held old) piece (synced old) left (only_now old left since)))

  pub roomy : (mid : D) → Elapses (moment old) (moment mid) (left_since old) (left_since mid) (Leaves (held old) (synced old)) → LeavesOnly moment left_since old mid P
  roomy mid time = goes_on moment left_since old old mid P (Leaves (held old) (synced old)) begun time (λ left l. here left (leaves_more (held old) piece (synced old) left l))

  moved : (mid : D) (bytes : List ℕ) → held mid ≡ held old → synced mid ≡ synced old → bytes ≡ piece → (left : List ℕ) → Leaves (held mid ++ bytes) (synced mid) left → P left
  moved mid bytes h s b left l = here left (rw (h, s, b) at l)

  pub grown : (mid new : D) (bytes : List ℕ) → Elapses (moment old) (moment mid) (left_since old) (left_since mid) (Leaves (held old) (synced old)) → held mid ≡ held old → synced mid ≡ synced old → bytes ≡ piece
      → LeavesOnly moment left_since mid new (Leaves (held mid ++ bytes) (synced mid)) → LeavesOnly moment left_since old new P
  grown mid new bytes time h s b then = goes_far moment left_since old mid new P (Leaves (held mid ++ bytes) (synced mid)) (roomy mid time) then (moved mid bytes h s b)

  pub longer : (mid new : D) (bytes : List ℕ) → Elapses (moment old) (moment mid) (left_since old) (left_since mid) (Leaves (held old) (synced old)) → held mid ≡ held old → synced mid ≡ synced old → bytes ≡ piece
      → Elapses (moment mid) (moment new) (left_since mid) (left_since new) (Leaves (held mid ++ bytes) (synced mid)) → LeavesOnly moment left_since old new P
  longer mid new bytes time h s b then = goes_on moment left_since old mid new P (Leaves (held mid ++ bytes) (synced mid)) (roomy mid time) then (moved mid bytes h s b)
