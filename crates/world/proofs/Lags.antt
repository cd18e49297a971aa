-- What delays a replica: its matrix has the known vectors, and its outbox the own messages that aren't stable.
use Rattle.std.proofs.Common.{◌≡◌, ℕ, ◌<◌, ◌==◌, ◌&&◌, Bool, not, nat_lt, All, IsTrue, List, [], ◌∷◌, length, map, get_or, refl, sym, ap, subst, ◌∙◌, Some, slice_get, arith}
use Rattle.std.specs.Prelude.{if◌then◌else◌}
use Rattle.std.specs.List.{find}
use Rattle.std.proofs.lemmas.Bool.{and_parts, eqb-true, ltb-true}
use Rattle.std.proofs.lemmas.List.Elements.{All-head, All-tail, All-filter}
use Rattle.std.proofs.lemmas.List.FromFn.{length-map-range_with_len, get_or-map-range_with_len, length-range_with_len, get_or-range_with_len}
use Rattle.op_base.specs.Message.{fits, number}
use Rattle.op_base.specs.Timestamp.{entry}
use Rattle.op_base.specs.declared.message.Message.{Message}
use Rattle.causal_model.specs.Counts.{members}
use Rattle.causal_model.specs.State.{State}
use Rattle.causal_model.specs.Sending.{outbox_of}
use Rattle.causal_model.specs.Stability.{known_vector, stable_vector, is_stable, unstable_noops}
use Rattle.causal_model.proofs.Events.Histories.{IsHistory-from_test}
use Rattle.stability_matrix.specs.Rows.{row_of}
use Rattle.world_model.specs.Offering.{outbox_in}
use Rattle.world_model.specs.Showing.{lagging}
use Rattle.world_model.proofs.Messages.{chapter_fits}
use Rattle.world.specs.Shows.{NotedNode, state_of}

-- what is found by two tests that agree on a list
find_alike : (p q : ℕ → Bool) (xs : List ℕ) → All (λ x. p x ≡ q x) xs → find p xs ≡ find q xs
find_alike p q [] alike = refl
find_alike p q (x ∷ xs) alike =
    let rest = find_alike p q xs (All-tail (λ y. p y ≡ q y) x xs alike) in
    ap (λ b. if b then Some x else find p xs) (All-head (λ y. p y ≡ q y) x xs alike) ∙ ap (λ o. if q x then Some x else o) rest

-- the least member that is behind the first of messages, by rows that are the known vectors
found_by_rows : (n me : ℕ) (ms : List Message) (rows : List (List ℕ)) (seq : ℕ) → rows ≡ map (known_vector n me ms) (members n)
    → find (λ q. nat_lt (entry (row_of rows q) me) seq) (members n) ≡ find (λ q. nat_lt (entry (known_vector n me ms q) me) seq) (members n)
found_by_rows n me ms rows seq e = find_alike (λ q. nat_lt (entry (row_of rows q) me) seq) (λ q. nat_lt (entry (known_vector n me ms q) me) seq) (members n) (λ k d l.
    let within : k < n = omega (arith, l, length-range_with_len 0 n) in
    let q = get_or (members n) k d in
    let row : row_of rows q ≡ known_vector n me ms q =
    ap (λ l. row_of l q) e ∙ get_or-map-range_with_len (known_vector n me ms) 0 n q q [] (omega (arith, within, get_or-range_with_len 0 n k d within)) (omega arith) in
    ap (λ row. nat_lt (entry row me) seq) row)

-- what lags behind messages of which the first is known
lagging_of_first : (n me : ℕ) (ms own : List Message) (oldest : Message) → Some oldest ≡ slice_get own 0
    → find (λ q. nat_lt (entry (known_vector n me ms q) me) (number oldest)) (members n) ≡ lagging n me ms own
lagging_of_first n me ms [] oldest e = cc
lagging_of_first n me ms (first ∷ others) oldest e = let same : oldest ≡ first = cc in ap (λ m. find (λ q. nat_lt (entry (known_vector n me ms q) me) (number m)) (members n)) same

first_passes : (P : Message → Type 0) (own : List Message) (oldest : Message) → All P own → Some oldest ≡ slice_get own 0 → P oldest
first_passes P [] oldest all e = cc
first_passes P (first ∷ others) oldest all e = let same : first ≡ oldest = cc in subst P same (All-head P first others all)

module _ (node : NotedNode) where
  abbrev s : State
  s = state_of node

  abbrev n : ℕ
  n = node.inner.n

  abbrev me : ℕ
  me = node.inner.me

  abbrev ms : List Message
  ms = s.history.present.messages

  pub length-rows_at : length node.inner.matrix.rows ≡ n
  length-rows_at = ap length node.stands.matrix.known ∙ length-map-range_with_len (known_vector n me ms) 0 n

  pub member_at : me < n
  member_at = omega (arith, (IsHistory-from_test node.inner.w s.history node.stands.is_state.is_history).member, node.stands.of_member, node.stands.of_store)

  outbox_at : node.inner.outbox.messages ≡ outbox_of n me ms
  outbox_at = ap (λ o. o.messages) node.stands.outbox

  -- each of the outbox's messages has a number of its origin
  pub first_has_number : (oldest : Message) → Some oldest ≡ slice_get node.inner.outbox.messages 0 → oldest.origin < length oldest.tag
  first_has_number oldest e =
      let h = s.history.present in
      let fit = chapter_fits h.n node.inner.w h.me ms (IsHistory-from_test node.inner.w s.history node.stands.is_state.is_history).chapter in
      let Fits : Message → Type 0 = λ m. IsTrue (fits h.n m) in
      let all = All-filter (λ m. m.origin == me) Fits _ (All-filter (λ m. not (is_stable (stable_vector n me ms) m)) Fits ms fit) in
      let first = first_passes Fits (outbox_of n me ms) oldest all (e ∙ ap (λ l. slice_get l 0) outbox_at) in
      let parts = and_parts (length oldest.tag == h.n) (nat_lt oldest.origin h.n) (and_parts ((length oldest.tag == h.n) && nat_lt oldest.origin h.n) (nat_lt 0 (number oldest)) first).0 in
      omega (arith, eqb-true (length oldest.tag) h.n parts.0, ltb-true oldest.origin h.n parts.1)

  -- what is found in the rows is the member that lags
  pub lagging_shown : (oldest : Message) → Some oldest ≡ slice_get node.inner.outbox.messages 0
      → find (λ q. nat_lt (entry (row_of node.inner.matrix.rows q) me) (number oldest)) (members n)
      ≡ lagging s.history.present.n s.history.present.me ms (outbox_in s)
  lagging_shown oldest e =
      found_by_rows n me ms node.inner.matrix.rows (number oldest) node.stands.matrix.known
      ∙ lagging_of_first n me ms (outbox_of n me ms) oldest (e ∙ ap (λ l. slice_get l 0) outbox_at)
      ∙ ap (λ k. lagging k me ms (outbox_of k me ms)) (sym node.stands.of_store) ∙ ap (λ k. lagging s.history.present.n k ms (outbox_of s.history.present.n k ms)) (sym node.stands.of_member)

  -- its own unstable no-ops
  pub noops_shown : unstable_noops n me ms me ≡ (let p = s.history.present in unstable_noops p.n p.me p.messages p.me)
  noops_shown = ap (λ k. unstable_noops k me ms me) (sym node.stands.of_store) ∙ ap (λ k. unstable_noops s.history.present.n k ms k) (sym node.stands.of_member)

  pub own_is_held : me < length node.inner.window.held
  own_is_held = omega (arith, member_at, node.stands.window.entries)
