-- Messages that are offered to a node, one after the other.
use Rattle.std.proofs.Common.{◌≡◌, ℕ, ◌<◌, ◌≤◌, ◌+◌, ◌-◌, List, [], ◌∷◌, ◌++◌, length, take, drop, take-append-drop, map, slice_index_or, slice_set, All, Bool, IsTrue, true, ◌||◌, append-nil, Option, Some, None, Result, Ok, Err, ◌==◌, ◌⊎◌, inl, inr, sym, ap, subst, ◌∙◌, arith}
use Rattle.std.specs.Prelude.{OnErr, IfOk, slice_get, is_some}
use Rattle.std.specs.List.{fold}
use Rattle.std.proofs.Math.Bool.{or-false, or-true}
use Rattle.std.proofs.Math.Seq.{take-add}
use Rattle.std.proofs.lemmas.Bool.{cond-true, le-leb, false≢true}
use Rattle.std.proofs.Math.Logic.{∥∥₁_elim}
use Rattle.std.proofs.Props.{props}
use Rattle.std.proofs.lemmas.List.{take_more, length-append, get_or_append_left, get_or-append_right}
use Rattle.std.proofs.lemmas.List.Elements.{All-head, All-tail, All-take}
use Rattle.std.proofs.lemmas.List.Sums.{fold-append}
use Rattle.std.proofs.lemmas.Option.{slice_get-get_or}
use Rattle.op_base.specs.Message.{fits, number}
use Rattle.op_base.specs.Timestamp.{entry}
use Rattle.op_base.specs.declared.memory.NoMemory.{NoMemory}
use Rattle.op_base.specs.declared.message.Message.{Message}
use Rattle.op_base.specs.declared.outcome.Step.{Step}
use Rattle.causal_model.specs.Counts.{is_carried}
use Rattle.causal_model.specs.Journal.{state_noted, state_after, step_note}
use Rattle.causal_model.specs.Receiving.{is_old, steps, with_early, refusal_of, refused, accepted, steps_of, is_accepted, receive_by}
use Rattle.causal_model.specs.State.{State, start, counted}
use Rattle.causal_model.specs.declared.note.Note.TheVariants.{Kept}
use Rattle.causal_model.specs.declared.outcome.Refusal.{Refusal}
use Rattle.causal_model.specs.declared.outcome.Refusal.TheVariants as refusal
use Rattle.causal_model.proofs.States.Journals.{accepting_replays}
use Rattle.causal_model.proofs.States.Outcomes.{steps_of_accepted, accepted_is_accepted, steps_of_refused, refused_is_not_accepted}
use Rattle.outbox.specs.Sent.{AreAbove}
use Rattle.replica_node.specs.Nodes.{state_by}
use Rattle.world_model.specs.Offering.{Offered, offered, offered_more, none_offered}
use Rattle.world.specs.Growing.{NotesOffers}
use Rattle.world.specs.Shows.{NotedNode, state_of}
use Rattle.world.specs.Steps.{SameNode, OffersSome, OffersTo, OffersBetween, CanBeOffered, offered_at}
use Rattle.world.specs.declared.offering.Offers.{Offers}

pub on_err : {T E : Type 0} (result : Result T E) (P : Type 0) → P → OnErr result P
on_err (Ok x) P p = tt
on_err (Err e) P p = p

pub on_err_with : {T E : Type 0} (result : Result T E) (P Q : Type 0) → (P → Q) → OnErr result P → OnErr result Q
on_err_with (Ok x) P Q f p = tt
on_err_with (Err e) P Q f p = f p

pub same_twice : (a b c : NotedNode) → SameNode a b → SameNode b c → SameNode a c
same_twice a b c one two = record { first = two.first ∙ one.first; n = two.n ∙ one.n; w = two.w ∙ one.w; limit = two.limit ∙ one.limit; epoch = two.epoch ∙ one.epoch }

-- ---- one message

-- the steps that were made stand behind the others
abbrev with_steps : State → List Step → List Step → Offered
with_steps s before made = record { state = s; steps = before ++ made; kept = true }

module _ (w : ℕ) (so : Offered) (m : Message) where
  more_by : (o : Option Refusal) → refusal_of w so.state m ≡ o
      → offered_more w so m ≡ (let got = receive_by w m so.state o in record { state = got.1; steps = so.steps ++ steps_of got.0; kept = so.kept || is_accepted got.0 })
  more_by o e = ap (λ x. let got = receive_by w m so.state x in let more : Offered = record { state = got.1; steps = so.steps ++ steps_of got.0; kept = so.kept || is_accepted got.0 } in more) e

  -- one that is refused changes nothing
  pub refused_offer : (why : Refusal) → refusal_of w so.state m ≡ Some why → so ≡ offered_more w so m
  refused_offer why e =
      sym (more_by (Some why) e ∙ ap (λ made. let more : Offered = record { state = so.state; steps = so.steps ++ made; kept = so.kept || is_accepted (refused why) } in more) (steps_of_refused why)
      ∙ ap (λ xs. let more : Offered = record { state = so.state; steps = xs; kept = so.kept || is_accepted (refused why) } in more) (append-nil so.steps)
      ∙ ap (λ b. let more : Offered = record { state = so.state; steps = so.steps; kept = so.kept || b } in more) (refused_is_not_accepted why)
      ∙ ap (λ b. let more : Offered = record { state = so.state; steps = so.steps; kept = b } in more) (or-false so.kept))

  pub some_refused : (o : Option Refusal) → is_some o ≡ true → refusal_of w so.state m ≡ o → so ≡ offered_more w so m
  some_refused None some e = absurd (false≢true some)
  some_refused (Some why) some e = refused_offer why e

  -- one that isn't makes the steps of the state with it
  accepted_offer : refusal_of w so.state m ≡ None → offered_more w so m ≡ (let made = steps w (with_early so.state m) in with_steps made.1 so.steps made.0)
  accepted_offer e =
      let made = steps w (with_early so.state m) in
      more_by None e ∙ ap (λ xs. let more : Offered = record { state = made.1; steps = so.steps ++ xs; kept = so.kept || is_accepted (accepted made.0) } in more) (steps_of_accepted made.0)
      ∙ ap (λ b. let more : Offered = record { state = made.1; steps = so.steps ++ made.0; kept = so.kept || b } in more) (accepted_is_accepted made.0)
      ∙ ap (λ b. let more : Offered = record { state = made.1; steps = so.steps ++ made.0; kept = b } in more) (or-true so.kept)

-- the state that a node comes to where it accepts a message, by what it notes
accepted_state : (node new : NotedNode) (m : Message) (made : List Step) → IsTrue (fits node.inner.n m) → IsTrue (is_carried node.inner.limit m) → refusal_of node.inner.w (state_of node) m ≡ None
    → made ≡ (steps node.inner.w (with_early (state_of node) m)).0 → new.first ≡ node.first → new.journal.notes ≡ node.journal.notes ++ Kept m ∷ map step_note made → state_of new ≡ (steps node.inner.w (with_early (state_of node) m)).1
accepted_state node new m made fit carried e is same noted =
    ap (λ first. state_by first new.journal.notes) same ∙ ap (state_by node.first) noted ∙ fold-append state_noted (start node.first.1 node.first.0) node.journal.notes (Kept m ∷ map step_note made)
    ∙ ap (λ xs. state_after (state_of node) (Kept m ∷ map step_note xs)) is
    ∙ accepting_replays node.inner.w node.inner.limit (state_of node) m node.stands.is_state (subst (λ n. IsTrue (fits n m)) (sym node.stands.of_store) fit) carried e

-- so what has come of offers has one more
pub one_is_accepted : (node new : NotedNode) (before : List Step) (kept : Bool) (m copy : Message) (made : List Step) → copy ≡ m → IsTrue (fits node.inner.n m) → IsTrue (is_carried node.inner.limit m)
    → refusal_of node.inner.w (state_of node) m ≡ None → made ≡ (steps node.inner.w (with_early (state_of node) copy)).0 → new.first ≡ node.first
    → new.journal.notes ≡ node.journal.notes ++ Kept copy ∷ map step_note made → with_steps (state_of new) before made ≡ offered_more node.inner.w (record { state = state_of node; steps = before; kept = kept }) m
one_is_accepted node new before kept m copy made same fit carried e is first noted =
    let w = node.inner.w in
    let s = state_of node in
    let is_so = is ∙ ap (λ x. (steps w (with_early s x)).0) same in
    let after = accepted_state node new m made fit carried e is_so first (noted ∙ ap (λ x. node.journal.notes ++ Kept x ∷ map step_note made) same) in
    ap (λ g. with_steps g before made) after ∙ ap (with_steps (steps w (with_early s m)).1 before) is_so ∙ sym (accepted_offer w (record { state = s; steps = before; kept = kept }) m e)

-- ---- messages

module _ (w v : ℕ) (s : State) (ms : List Message) (i : ℕ) (m : Message) (low : i < length ms) (at : m ≡ slice_index_or ms i m) (so : Offered) (before : so ≡ offered w s (take i ms)) (wide : v ≡ w) where
  -- with one more
  pub one_offered : offered_more v so m ≡ offered w s (take (i + 1) ms)
  one_offered =
      ap (λ x. offered_more x so m) wide ∙ ap (λ x. offered_more w x m) before ∙ sym (fold-append (offered_more w) (none_offered s) (take i ms) (m ∷ []))
      ∙ ap (λ x. offered w s (take i ms ++ x ∷ [])) at ∙ ap (offered w s) (sym (take_more ms i m low))

  -- where memory ends, it was offered or it wasn't
  pub some_offered : (new : NotedNode) → (state_of new ≡ so.state) ⊎ (state_of new ≡ (offered_more v so m).state) → OffersSome w s ms new
  some_offered new (inl is) = (i, is ∙ ap (λ (o : Offered). o.state) before)
  some_offered new (inr is) = (i + 1, is ∙ ap (λ (o : Offered). o.state) one_offered)

-- an old message is refused
pub old_is_refused : (w : ℕ) (s : State) (m : Message) → is_old s.history.present.me (counted s.history) m ≡ true → refusal_of w s m ≡ Some refusal.Old
old_is_refused w s m old = cond-true (is_old s.history.present.me (counted s.history) m) (Some refusal.Old) _ old

-- old messages in front change nothing: what comes of those behind them is what comes of all
module _ (w : ℕ) (s : State) where
  abbrev Refused : Message → Type 0
  Refused m = refusal_of w s m ≡ Some refusal.Old

  pub none_accepted : (ms : List Message) → All Refused ms → offered w s ms ≡ none_offered s
  none_accepted [] old = λ i. none_offered s
  none_accepted (m ∷ ms) old =
      ap (λ o. fold (offered_more w) o ms) (sym (refused_offer w (none_offered s) m refusal.Old (All-head Refused m ms old))) ∙ none_accepted ms (All-tail Refused m ms old)

  module _ (count : ℕ) (ms : List Message) (old : All Refused (take count ms)) where
    behind : (xs : List Message) → offered w s (take count ms ++ xs) ≡ offered w s xs
    behind xs = fold-append (offered_more w) (none_offered s) (take count ms) xs ∙ ap (λ o. fold (offered_more w) o xs) (none_accepted (take count ms) old)

    pub all_behind : offered w s (drop count ms) ≡ offered w s ms
    all_behind = sym (behind (drop count ms)) ∙ ap (offered w s) (take-append-drop count ms)

    pub some_behind : (j : ℕ) → offered w s (take j (drop count ms)) ≡ offered w s (take (count + j) ms)
    some_behind j = sym (behind (take j (drop count ms))) ∙ sym (ap (offered w s) (take-add count j ms))

module _ (node : NotedNode) (of : ℕ) (ms above : List Message) (delivered : ℕ) (delivered_is : delivered ≡ entry node.inner.counts of) (own : All (λ m. m.origin ≡ of) ms) (are : AreAbove delivered ms above) where
  -- what a node has delivered is old there
  delivered_is_old : (m : Message) → m.origin ≡ of → number m ≤ delivered → refusal_of node.inner.w (state_of node) m ≡ Some refusal.Old
  delivered_is_old m from upto =
      let h = (state_of node).history in
      let counted_is : delivered ≡ entry (counted h) m.origin = delivered_is ∙ ap (λ counts. entry counts of) node.stands.counts ∙ ap (entry (counted h)) (sym from) in
      old_is_refused node.inner.w (state_of node) m
      (ap (λ b. (m.origin == h.present.me) || b) (le-leb (number m) (entry (counted h) m.origin) (omega (arith, upto, counted_is))) ∙ or-true (m.origin == h.present.me))

  front_is_old : All (λ m. refusal_of node.inner.w (state_of node) m ≡ Some refusal.Old) (take are.others ms)
  front_is_old = λ k d l. delivered_is_old (slice_index_or (take are.others ms) k d) (All-take (λ m. m.origin ≡ of) are.others ms own k d l) (are.have_not k d l)

  -- so what comes of those that it lacks is what comes of all
  pub all_lacking : offered node.inner.w (state_of node) above ≡ offered node.inner.w (state_of node) ms
  all_lacking = ap (offered node.inner.w (state_of node)) are.are_behind ∙ all_behind node.inner.w (state_of node) are.others ms front_is_old

  pub some_lacking : (new : NotedNode) → OffersSome node.inner.w (state_of node) above new → OffersSome node.inner.w (state_of node) ms new
  some_lacking new some = (
    are.others + some.0,
    some.1 ∙ ap (λ xs. (offered node.inner.w (state_of node) (take some.0 xs)).state) are.are_behind ∙ ap (λ (o : Offered). o.state) (some_behind node.inner.w (state_of node) are.others ms front_is_old some.0),
  )

-- what comes of messages at a node, where all or some were offered
pub offers_to : (node new : NotedNode) (ms : List Message) (result : Result Offers NoMemory) → IfOk result (λ made. offered_at new made ≡ offered node.inner.w (state_of node) ms)
    → OnErr result (OffersSome node.inner.w (state_of node) ms new) → SameNode node new → OffersTo node ms result new
offers_to node new ms (Ok made) all some same = (same, all)
offers_to node new ms (Err e) all some same = (same, some)

-- two nodes that stand at two places
module _ (nodes : List NotedNode) (r k : ℕ) (to of : NotedNode) (to_is : slice_get nodes r ≡ Some to) (of_is : slice_get nodes k ≡ Some of) (ms : List Message) (same : ms ≡ of.inner.outbox.messages) where
  pub own_between : ∥ CanBeOffered nodes r k ∥₁ → All (λ m. m.origin ≡ k) ms
  own_between can = λ i d l. ∥∥₁_elim can (search props) (λ x.
      let there : x.other ≡ of = let e = x.is_other in cc in
      subst (λ l. All (λ m. m.origin ≡ k) l) (ap (λ o. o.inner.outbox.messages) there ∙ sym same) x.own i d l)

  pub of_store_between : ∥ CanBeOffered nodes r k ∥₁ → k < to.inner.n
  of_store_between can = ∥∥₁_elim can (search props) (λ x.
      let here : x.node ≡ to = let e = x.is_node in cc in
      subst (λ n. k < n) (ap (λ o. o.inner.n) here) x.of_store)

  pub fit_between : ∥ CanBeOffered nodes r k ∥₁ → All (λ m. IsTrue (fits to.inner.n m)) ms
  fit_between can = λ i d l. ∥∥₁_elim can (search props) (λ x.
      let here : x.node ≡ to = let e = x.is_node in cc in
      let there : x.other ≡ of = let e = x.is_other in cc in
      let all = subst (λ l. All (λ m. IsTrue (fits x.node.inner.n m)) l) (ap (λ o. o.inner.outbox.messages) there ∙ sym same) x.fit in
      subst (λ n. IsTrue (fits n (slice_index_or ms i d))) (ap (λ o. o.inner.n) here) (all i d l))

  pub carried_between : ∥ CanBeOffered nodes r k ∥₁ → All (λ m. IsTrue (is_carried to.inner.limit m)) ms
  carried_between can = λ i d l. ∥∥₁_elim can (search props) (λ x.
      let here : x.node ≡ to = let e = x.is_node in cc in
      let there : x.other ≡ of = let e = x.is_other in cc in
      let all = subst (λ l. All (λ m. IsTrue (is_carried x.node.inner.limit m)) l) (ap (λ o. o.inner.outbox.messages) there ∙ sym same) x.carried in
      subst (λ n. IsTrue (is_carried n (slice_index_or ms i d))) (ap (λ o. o.inner.limit) here) (all i d l))

  pub offers_between : (result : Result Offers NoMemory) (new : NotedNode) (left : List NotedNode) → OffersTo to ms result new → NotesOffers ms to.journal.notes new.journal.notes → left ≡ slice_set nodes r new → OffersBetween nodes r k result left
  offers_between result new left offers noted are = record {
    new = new;
    are = are;
    each = λ node other node_is other_is.
        let here : to ≡ node = cc in
        let there : of ≡ other = cc in
        subst (λ x. OffersTo x other.inner.outbox.messages result new) here (subst (λ l. OffersTo to l result new) (same ∙ ap (λ o. o.inner.outbox.messages) there) offers);
    notes = λ node other node_is other_is.
        let here : to ≡ node = cc in
        let there : of ≡ other = cc in
        subst (λ x. NotesOffers other.inner.outbox.messages x.journal.notes new.journal.notes) here (subst (λ l. NotesOffers l to.journal.notes new.journal.notes) (same ∙ ap (λ o. o.inner.outbox.messages) there) noted);
  }

-- a list in two parts: what stands in each
pub stands_left : (nodes low high : List NotedNode) → nodes ≡ low ++ high → (i : ℕ) (x : NotedNode) → i < length low → slice_get nodes i ≡ Some (slice_index_or low i x)
stands_left nodes low high split i x l =
    ap (λ xs. slice_get xs i) split ∙ slice_get-get_or (low ++ high) i x (omega (arith, length-append low high)) ∙ ap Some (get_or_append_left low high x i l)

pub stands_right : (nodes low high : List NotedNode) → nodes ≡ low ++ high → (i : ℕ) (x : NotedNode) → length low ≡ i → i < length nodes → slice_get nodes i ≡ Some (slice_index_or high 0 x)
stands_right nodes low high split i x counted l =
    let none : i - i ≡ 0 = omega arith in
    let within : i < length (low ++ high) = omega (arith, l, ap length split) in
    ap (λ xs. slice_get xs i) split ∙ slice_get-get_or (low ++ high) i x within ∙ ap Some (get_or-append_right low high i i x counted (omega arith) ∙ ap (λ j. slice_index_or high j x) none)
