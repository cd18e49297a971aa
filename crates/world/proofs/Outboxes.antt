-- What offering an outbox makes of a world.
use Rattle.std.proofs.Common.{◌≡◌, ℕ, ◌<◌, ◌==◌, not, Bool, true, IsTrue, List, [], ◌∷◌, length, take, All, inl, inr, slice_index_or, slice_set, Some, Result, Ok, Err, refl, sym, ap, subst, ◌∙◌, arith}
use Rattle.std.specs.Prelude.{OnErr, IfOk}
use Rattle.std.specs.List.{filter, fold}
use Rattle.std.proofs.lemmas.Bool.{eqb-true}
use Rattle.std.proofs.lemmas.List.{set-get_or, length-set, get_or-set_same}
use Rattle.std.proofs.lemmas.List.Elements.{All-filter, All-head, All-tail, All-take, filter_passes}
use Rattle.std.proofs.lemmas.Option.{slice_get_cases}
use Rattle.op_base.specs.Message.{fits}
use Rattle.op_base.specs.declared.memory.NoMemory.{NoMemory}
use Rattle.op_base.specs.declared.message.Message.{Message}
use Rattle.causal_model.specs.Counts.{is_carried}
use Rattle.causal_model.specs.Receiving.{refusal_of, receive_rule}
use Rattle.causal_model.specs.State.{State, start}
use Rattle.causal_model.specs.declared.outcome.Refusal.TheVariants as refusal
use Rattle.causal_model.specs.Stability.{stable_vector, is_stable}
use Rattle.world_model.specs.World.{PlainWorld, size_of, replica_of, with_state}
use Rattle.world_model.specs.Offering.{Offered, offered, offered_more, none_offered, offered_between, outbox_in, resend_at}
use Rattle.world_model.specs.Worlds.{IsWorld, KeepsWorld}
use Rattle.world_model.proofs.Commands.{offering_keeps_world, resending_keeps_world}
use Rattle.world_model.proofs.Worlds.{world_keeps_itself, kept_twice}
use Rattle.world_model.proofs.Sent.{messages_fit, messages_carried}
use Rattle.world.specs.Answers.{IsAfterSome}
use Rattle.world.specs.Midst.{offered_first}
use Rattle.world.specs.Shows.{NotedNode, state_of, Shows}
use Rattle.world.specs.Steps.{OffersTo, OffersBetween, CanBeOffered, HasOffered}
use Rattle.world.specs.declared.offering.Offers.{Offers as Made}
use Rattle.world.proofs.Nodes.{StandsAt, within, state_shown, w_shown, limit_shown, n_shown}
use Rattle.world.proofs.Changes.{set_twice, changed_shows}
use Rattle.world.proofs.Offers.{none_accepted}

module _ (nodes : List NotedNode) (rows : List (List (List ℕ))) (plain : PlainWorld) (shows : Shows nodes rows plain) where
  -- a node's outbox is that of the plain replica, and its messages are of the store
  outbox_shown : (k : ℕ) (of : NotedNode) → StandsAt nodes k of → of.inner.outbox.messages ≡ outbox_in (replica_of plain k)
  outbox_shown k of stands =
      let s = state_of of in
      ap (λ o. o.messages) of.stands.outbox
      ∙ ap (λ n. filter (λ m. m.origin == of.inner.me) (filter (λ m. not (is_stable (stable_vector n of.inner.me s.history.present.messages) m)) s.history.present.messages)) (sym of.stands.of_store)
      ∙ ap (λ me. filter (λ m. m.origin == me) (filter (λ m. not (is_stable (stable_vector s.history.present.n me s.history.present.messages) m)) s.history.present.messages)) (sym of.stands.of_member)
      ∙ ap outbox_in (sym (state_shown nodes rows plain shows k of stands))

  outbox_fits : (k : ℕ) → k < size_of plain → All (λ m. IsTrue (fits (size_of plain) m)) (outbox_in (replica_of plain k)) × All (λ m. IsTrue (is_carried plain.limit m)) (outbox_in (replica_of plain k))
  outbox_fits k low =
      let s = replica_of plain k in
      let h = s.history.present in
      let n = size_of plain in
      let lies : Message → Bool = λ m. not (is_stable (stable_vector h.n h.me h.messages) m) in
      let own : Message → Bool = λ m. m.origin == h.me in
      let replica = shows.is_world.replicas k low in (
        All-filter own (λ m. IsTrue (fits n m)) (filter lies h.messages) (All-filter lies (λ m. IsTrue (fits n m)) h.messages (messages_fit n plain.w plain.limit k s replica)),
        All-filter own (λ m. IsTrue (is_carried plain.limit m)) (filter lies h.messages) (All-filter lies (λ m. IsTrue (is_carried plain.limit m)) h.messages (messages_carried n plain.w plain.limit k s replica)),
      )

  outbox_is_own : (k : ℕ) → k < size_of plain → All (λ m. m.origin ≡ k) (outbox_in (replica_of plain k))
  outbox_is_own k low = λ i d l.
      let h = (replica_of plain k).history.present in
      let own : Message → Bool = λ m. m.origin == h.me in
      eqb-true _ h.me (filter_passes own (filter (λ m. not (is_stable (stable_vector h.n h.me h.messages) m)) h.messages) i d l) ∙ (shows.is_world.replicas k low).of_member

  pub can_be_offered : (r k : ℕ) → r < length nodes → k < length nodes → CanBeOffered nodes r k
  can_be_offered r k low under =
      elim (slice_get_cases nodes r).1 [
        | inl here ↦ elim (slice_get_cases nodes k).1 [
          | inl there ↦
              let to = here.0 in
              let of = there.0 in
              let to_stands : StandsAt nodes r to = record { low = low; at = sym here.3 } in
              let of_stands : StandsAt nodes k of = record { low = under; at = sym there.3 } in
              let parts = outbox_fits k (within nodes rows plain shows k of of_stands) in
              let same = outbox_shown k of of_stands in
              record {
                node = to;
                other = of;
                is_node = here.2;
                is_other = there.2;
                of_store = subst (λ n. k < n) (sym (n_shown nodes rows plain shows r to to_stands)) (within nodes rows plain shows k of of_stands);
                own = subst (λ ms. All (λ m. m.origin ≡ k) ms) (sym same) (outbox_is_own k (within nodes rows plain shows k of of_stands));
                fit = subst (λ n. All (λ m. IsTrue (fits n m)) of.inner.outbox.messages) (sym (n_shown nodes rows plain shows r to to_stands)) (subst (λ ms. All (λ m. IsTrue (fits (size_of plain) m)) ms) (sym same) parts.0);
                carried = subst (λ limit. All (λ m. IsTrue (is_carried limit m)) of.inner.outbox.messages) (sym (limit_shown nodes rows plain shows r to to_stands)) (subst (λ ms. All (λ m. IsTrue (is_carried plain.limit m)) ms) (sym same) parts.1);
              }
          | inr past ↦ absurd (omega (arith, past.0, under))
        ]
        | inr past ↦ absurd (omega (arith, past.0, low))
      ]

  -- the offers at two nodes are those at the plain replicas
  module _ (r k : ℕ) (to of : NotedNode) (to_stands : StandsAt nodes r to) (of_stands : StandsAt nodes k of) where
    pub alike_some : (j : ℕ) → offered to.inner.w (state_of to) (take j of.inner.outbox.messages) ≡ offered plain.w (replica_of plain r) (take j (outbox_in (replica_of plain k)))
    alike_some j =
        ap (λ w. offered w (state_of to) (take j of.inner.outbox.messages)) (w_shown nodes rows plain shows r to to_stands)
        ∙ ap (λ s. offered plain.w s (take j of.inner.outbox.messages)) (sym (state_shown nodes rows plain shows r to to_stands))
        ∙ ap (λ ms. offered plain.w (replica_of plain r) (take j ms)) (outbox_shown k of of_stands)

    pub alike_offers : offered to.inner.w (state_of to) of.inner.outbox.messages ≡ offered_between plain r k
    alike_offers =
        ap (λ w. offered w (state_of to) of.inner.outbox.messages) (w_shown nodes rows plain shows r to to_stands)
        ∙ ap (λ s. offered plain.w s of.inner.outbox.messages) (sym (state_shown nodes rows plain shows r to to_stands))
        ∙ ap (λ ms. offered plain.w (replica_of plain r) ms) (outbox_shown k of of_stands)

-- ---- own messages

own_is_old : (w : ℕ) (s : State) (m : Message) → (m.origin == s.history.present.me) ≡ true → refusal_of w s m ≡ Some refusal.Old
own_is_old w s m own = rw own refl

-- a replica accepts none of its own outbox
pub own_outbox : (plain : PlainWorld) (r k : ℕ) → r ≡ k → offered_between plain r k ≡ none_offered (replica_of plain r)
own_outbox plain r k same =
    let s = replica_of plain r in
    let h = s.history.present in
    let own : Message → Bool = λ m. m.origin == h.me in
    ap (λ i. offered plain.w s (outbox_in (replica_of plain i))) (sym same)
    ∙ none_accepted plain.w s (outbox_in s) (λ i d l. own_is_old plain.w s (slice_index_or (outbox_in s) i d) (filter_passes own (filter (λ m. not (is_stable (stable_vector h.n h.me h.messages) m)) h.messages) i d l))

pub own_resent : (plain : PlainWorld) (r k : ℕ) → r ≡ k → (resend_at r k plain).1 ≡ plain
own_resent plain r k same =
    ap (λ (o : Offered). with_state plain r o.state) (own_outbox plain r k same)
    ∙ ap (λ l. let world : PlainWorld = record { w = plain.w; limit = plain.limit; replicas = l; sent = plain.sent } in world) (set-get_or plain.replicas r (start 0 0))

-- ---- some messages of a store

some_keep : (plain : PlainWorld) (r : ℕ) → r < size_of plain → (o : Offered) (ms : List Message) → All (λ m. IsTrue (fits (size_of plain) m)) ms → All (λ m. IsTrue (is_carried plain.limit m)) ms
    → KeepsWorld plain (with_state plain r o.state) → KeepsWorld plain (with_state plain r (fold (offered_more plain.w) o ms).state)
some_keep plain r low o [] fit carried keeps = keeps
some_keep plain r low o (m ∷ ms) fit carried keeps =
    let before = with_state plain r o.state in
    let size : size_of before ≡ size_of plain = length-set plain.replicas r o.state in
    let next = (offering_keeps_world before r m keeps.is_world (omega (arith, low, size)) (subst (λ n. IsTrue (fits n m)) (sym size) (All-head (λ y. IsTrue (fits (size_of plain) y)) m ms fit)) (All-head (λ y. IsTrue (is_carried plain.limit y)) m ms carried)) in
    let here : replica_of before r ≡ o.state = get_or-set_same plain.replicas r o.state (start 0 0) low in
    let there = subst (λ s. KeepsWorld before (with_state before r (receive_rule plain.w m s).1)) here next in
    let after = (receive_rule plain.w m o.state).1 in
    let twice = subst (λ l. KeepsWorld before (record { w = plain.w; limit = plain.limit; replicas = l; sent = plain.sent })) (set_twice plain.replicas r o.state after) there in
    some_keep plain r low (offered_more plain.w o m) ms (All-tail (λ y. IsTrue (fits (size_of plain) y)) m ms fit) (All-tail (λ y. IsTrue (is_carried plain.limit y)) m ms carried) (kept_twice plain before (with_state plain r after) keeps twice)

-- a world with a replica as it was
as_it_was : (plain : PlainWorld) (r : ℕ) → IsWorld plain → KeepsWorld plain (with_state plain r (replica_of plain r))
as_it_was plain r is = subst (λ l. KeepsWorld plain (record { w = plain.w; limit = plain.limit; replicas = l; sent = plain.sent })) (sym (set-get_or plain.replicas r (start 0 0))) (world_keeps_itself plain is)

-- what comes of offering an outbox: all of it is, or memory ended after the first of its messages
abbrev pub Offers : PlainWorld → ℕ → ℕ → Result Made NoMemory → (PlainWorld → Type 0) → Type 0
Offers plain r k (Ok made) Leaves = HasOffered (offered_between plain r k) made × Leaves (resend_at r k plain).1
Offers plain r k (Err e) Leaves = (midst : PlainWorld) × IsAfterSome r k plain midst × Leaves midst

pub offers_made : (plain : PlainWorld) (r k : ℕ) (result : Result Made NoMemory) (Leaves : PlainWorld → Type 0) → Offers plain r k result Leaves → IfOk result (λ made. HasOffered (offered_between plain r k) made)
offers_made plain r k (Ok made) Leaves offers = offers.0
offers_made plain r k (Err e) Leaves offers = tt

pub offers_world : (plain : PlainWorld) (r k : ℕ) (result : Result Made NoMemory) (Leaves : PlainWorld → Type 0) → Offers plain r k result Leaves → IfOk result (λ made. Leaves (resend_at r k plain).1)
offers_world plain r k (Ok made) Leaves offers = offers.1
offers_world plain r k (Err e) Leaves offers = tt

pub offers_some : (plain : PlainWorld) (r k : ℕ) (result : Result Made NoMemory) (Leaves : PlainWorld → Type 0) → Offers plain r k result Leaves → OnErr result ((midst : PlainWorld) × IsAfterSome r k plain midst × Leaves midst)
offers_some plain r k (Ok made) Leaves offers = tt
offers_some plain r k (Err e) Leaves offers = offers

pub offers_leave : (plain : PlainWorld) (r k : ℕ) (result : Result Made NoMemory) (Leaves : PlainWorld → Type 0) → Offers plain r k result Leaves → (p : PlainWorld) × Leaves p
offers_leave plain r k (Ok made) Leaves offers = ((resend_at r k plain).1, offers.1)
offers_leave plain r k (Err e) Leaves offers = (offers.0, offers.2)

module _ (nodes : List NotedNode) (rows : List (List (List ℕ))) (plain : PlainWorld) (shows : Shows nodes rows plain) (r k : ℕ) (low : r < length nodes) (under : k < length nodes) (left : List NotedNode) where
  -- at two nodes
  offers_at : (to of new : NotedNode) → StandsAt nodes r to → StandsAt nodes k of → (result : Result Made NoMemory) → OffersTo to of.inner.outbox.messages result new → Offers plain r k result (Shows (slice_set nodes r new) rows)
  offers_at to of new to_stands of_stands (Ok made) is =
      let whole = is.1 ∙ alike_offers nodes rows plain shows r k to of to_stands of_stands in (
        record { steps = ap (λ (o : Offered). o.steps) whole; kept = ap (λ (o : Offered). o.kept) whole },
        changed_shows nodes rows plain shows r to to_stands new is.0 (offered_between plain r k).state (ap (λ (o : Offered). o.state) whole)
            (resending_keeps_world plain r k shows.is_world (within nodes rows plain shows r to to_stands)),
      )
  offers_at to of new to_stands of_stands (Err e) is =
      let j = is.1.0 in
      let ms = outbox_in (replica_of plain k) in
      let inside = within nodes rows plain shows r to to_stands in
      let parts = outbox_fits nodes rows plain shows k (within nodes rows plain shows k of of_stands) in
      let keeps = some_keep plain r inside (none_offered (replica_of plain r)) (take j ms) (All-take (λ m. IsTrue (fits (size_of plain) m)) j ms parts.0) (All-take (λ m. IsTrue (is_carried plain.limit m)) j ms parts.1) (as_it_was plain r shows.is_world) in (
        offered_first j plain r k,
        (j, refl),
        changed_shows nodes rows plain shows r to to_stands new is.0 (offered plain.w (replica_of plain r) (take j ms)).state
            (is.1.1 ∙ ap (λ (o : Offered). o.state) (alike_some nodes rows plain shows r k to of to_stands of_stands j)) keeps,
      )

  pub outbox_offers : (result : Result Made NoMemory) → OffersBetween nodes r k result left → Offers plain r k result (Shows left rows)
  outbox_offers result between =
      elim (slice_get_cases nodes r).1 [
        | inl here ↦ elim (slice_get_cases nodes k).1 [
          | inl there ↦
              subst (λ l. Offers plain r k result (Shows l rows)) (sym between.are)
              (offers_at here.0 there.0 between.new (record { low = low; at = sym here.3 }) (record { low = under; at = sym there.3 }) result (between.each here.0 there.0 here.2 there.2))
          | inr past ↦ absurd (omega (arith, past.0, under))
        ]
        | inr past ↦ absurd (omega (arith, past.0, low))
      ]
