-- Journals of a world's nodes grow by offers and no-ops.
use Rattle.std.proofs.Common.{◌≡◌, ◌≢◌, ℕ, zero, suc, take, drop, take-append-drop, ◌<◌, ◌==◌, All, Contains, Bool, true, false, not, if◌then◌else◌, List, [], ◌∷◌, ◌++◌, length, map, slice_index_or, slice_set, inl, inr, Result, Ok, Err, refl, sym, ap, subst, ◌∙◌, append_assoc, append-nil, arith}
use Rattle.std.specs.List.{filter}
use Rattle.std.proofs.Math.Logic.{∥∥₁_map}
use Rattle.std.proofs.Math.Seq.{map-set_same}
use Rattle.std.proofs.lemmas.Bool.{cases_eq, eqb-true}
use Rattle.std.proofs.lemmas.List.{length-map, length-set, get_or-map, map-set, get_or-set_same, get_or-set_other}
use Rattle.std.proofs.lemmas.List.Elements.{All-contains, All-nil, All-cons, All-filter, All-append, All-weaker, Contains-append_right, filter_passes}
use Rattle.std.proofs.lemmas.Option.{slice_get_cases}
use Rattle.op_base.specs.declared.memory.NoMemory.{NoMemory}
use Rattle.op_base.specs.declared.message.Message.{Message}
use Rattle.op_base.specs.declared.operation.Op.TheVariants as op
use Rattle.op_base.specs.declared.outcome.Step.{Step}
use Rattle.op_base.specs.declared.outcome.Step.TheVariants as step
use Rattle.causal_model.specs.Journal.{step_note, beat_notes}
use Rattle.causal_model.specs.Counts.{count_of}
use Rattle.causal_model.specs.Sending.{own_message, is_noop_due, beating, is_beat, beat_rule}
use Rattle.causal_model.specs.Stability.{stable_vector, is_stable, unstable_noops, noop_window}
use Rattle.causal_model.specs.declared.note.Note.{Note}
use Rattle.causal_model.specs.declared.outcome.Beat.{Beat}
use Rattle.causal_model.specs.declared.outcome.Beat.TheVariants as beat
use Rattle.causal_model.specs.declared.note.Note.TheVariants.{Sent, Kept, Took, Crook, Regroup}
use Rattle.world_model.specs.Journals.{journal_of, ends_epoch}
use Rattle.world_model.specs.Journals.{KeepsSent, sends_update, HasMore, HaveGrown}
use Rattle.world_model.proofs.Growing.{keeps_sent-longer, growing_goes_on}
use Rattle.world.specs.Growing.{journals_of, settings_of, IsOfOffer, NotesOffers}
use Rattle.world.specs.Answers.{HasGrown}
use Rattle.world.specs.Shows.{NotedNode, state_of}
use Rattle.world.specs.Steps.{OffersBetween, OffersTo, CanBeOffered, SameNode}
use Rattle.world.specs.declared.offering.Offers.{Offers}
use Rattle.world.specs.declared.world.World.{World}
use Rattle.world.proofs.Nodes.{StandsAt}
use Rattle.world.proofs.Offers.{own_between}
use Rattle.outbox.specs.Sent.{AreAbove}
use Rattle.replica_node.specs.Rules.{noting}
use Rattle.world.proofs.Replies.{Notes}
use Rattle.world.proofs.OwnMessages.{own_were_sent}

-- ---- notes of offers

pub no_offers : (ms : List Message) (notes : List Note) → NotesOffers ms notes notes
no_offers ms notes = record { more = []; grows = sym (append-nil notes); of_offers = All-nil (IsOfOffer ms) }

pub offers_twice : (ms : List Message) (a b c : List Note) → NotesOffers ms a b → NotesOffers ms b c → NotesOffers ms a c
offers_twice ms a b c first later = record {
  more = first.more ++ later.more;
  grows = later.grows ∙ ap (λ notes. notes ++ later.more) first.grows ∙ append_assoc a first.more later.more;
  of_offers = All-append (IsOfOffer ms) first.more later.more first.of_offers later.of_offers;
}

-- offers of messages are offers of more
pub offers_among : (ms all : List Message) (a b : List Note) → ((m : Message) → Contains ms m → Contains all m) → NotesOffers ms a b → NotesOffers all a b
offers_among ms all a b among noted = record { more = noted.more; grows = noted.grows; of_offers = All-weaker (IsOfOffer ms) (IsOfOffer all) weaker noted.more noted.of_offers } where
  weaker : (x : Note) → IsOfOffer ms x → IsOfOffer all x
  weaker (Kept m) has = among m has
  weaker (Took id) has = tt
  weaker (Crook id) has = tt
  weaker (Sent m) has = has
  weaker (Regroup epoch n me) has = has

steps_are_of_offers : (ms : List Message) (made : List Step) → All (IsOfOffer ms) (map step_note made)
steps_are_of_offers ms [] = All-nil (IsOfOffer ms)
steps_are_of_offers ms (step.Took id ∷ made) = All-cons (IsOfOffer ms) (Took id) (map step_note made) tt (steps_are_of_offers ms made)
steps_are_of_offers ms (step.Crook id cause ∷ made) = All-cons (IsOfOffer ms) (Crook id) (map step_note made) tt (steps_are_of_offers ms made)

-- a copy of one of messages was accepted
pub one_offer : (ms : List Message) (m copy : Message) (made : List Step) (before after : List Note) → Contains ms m → copy ≡ m → after ≡ before ++ Kept copy ∷ map step_note made → NotesOffers ms before after
one_offer ms m copy made before after has same noted =
    record { more = Kept copy ∷ map step_note made; grows = noted; of_offers = All-cons (IsOfOffer ms) (Kept copy) (map step_note made) (subst (Contains ms) (sym same) has) (steps_are_of_offers ms made) }

-- one of messages was offered more
pub offers_more : (ms : List Message) (i : ℕ) (m : Message) → i < length ms → m ≡ slice_index_or ms i m → (a b c : List Note) → NotesOffers ms a b → NotesOffers (m ∷ []) b c → NotesOffers ms a c
offers_more ms i m low at a b c first later = offers_twice ms a b c first (offers_among (m ∷ []) ms b c (λ y has. subst (Contains ms) (one y has) (i, low, sym at)) later) where
  one : (y : Message) → Contains (m ∷ []) y → m ≡ y
  one y (zero, l, e) = e
  one y (suc j, l, e) = absurd (omega (arith, l))

-- those above a number are among all
pub offers_above : (seq : ℕ) (ms above : List Message) → AreAbove seq ms above → (a b : List Note) → NotesOffers above a b → NotesOffers ms a b
offers_above seq ms above are a b noted = offers_among above ms a b (λ m has.
    subst (λ l. Contains l m) (take-append-drop are.others ms) (Contains-append_right (take are.others ms) (drop are.others ms) m (subst (λ l. Contains l m) are.are_behind has))) noted

-- ---- journals

-- a journal with no more
stays : (old new : List (List Note)) (r : ℕ) → journal_of new r ≡ journal_of old r → HasMore old new r
stays old new r same = record { more = []; grows = same ∙ sym (append-nil (journal_of old r)); sent = ∣ All-nil (KeepsSent new) ∣₁; one_epoch = All-nil _; noops = All-nil _ }

pub none_has_grown : (journals : List (List Note)) → HaveGrown journals journals
none_has_grown journals = record { of_each = refl; each = λ r. stays journals journals r refl }

-- one journal grows
one_has_grown : (old : List (List Note)) (r : ℕ) (more : List Note) → r < length old → ∥ All (KeepsSent old) more ∥₁ → All (λ note. ends_epoch note ≡ false) more → All (λ note. sends_update note ≡ false) more
    → HaveGrown old (slice_set old r (journal_of old r ++ more))
one_has_grown old r more low sent one noops = record {
  of_each = length-set old r now;
  each = λ q. elim (cases_eq q r) [
    | inl e ↦ subst (HasMore old new) (sym e) (record {
      more = more;
      grows = here;
      sent = ∥∥₁_map sent (λ all. All-weaker (KeepsSent old) (KeepsSent new) (keeps_sent-longer old new longer) more all);
      one_epoch = one;
      noops = noops;
    })
    | inr ne ↦ stays old new q (there q ne)
  ];
} where
  now : List Note
  now = journal_of old r ++ more

  new : List (List Note)
  new = slice_set old r now

  here : journal_of new r ≡ now
  here = get_or-set_same old r now [] low

  there : (q : ℕ) → q ≢ r → journal_of new q ≡ journal_of old q
  there q ne = get_or-set_other old r q now [] ne

  longer : (q : ℕ) → (x : List Note) × (journal_of new q ≡ journal_of old q ++ x)
  longer q = elim (cases_eq q r) [
    | inl e ↦ (more, subst (λ i. journal_of new i ≡ journal_of old i ++ more) (sym e) here)
    | inr ne ↦ ([], there q ne ∙ sym (append-nil (journal_of old q)))
  ]

module _ (nodes : List NotedNode) (r : ℕ) (node : NotedNode) (stands : StandsAt nodes r node) where
  pub journal_there : journal_of (journals_of nodes) r ≡ node.journal.notes
  journal_there = get_or-map (λ (x : NotedNode). x.journal.notes) nodes r node [] stands.low ∙ ap (λ (x : NotedNode). x.journal.notes) (sym stands.at)

  -- a node notes more
  node_has_grown : (left : NotedNode) (more : List Note) → left.journal.notes ≡ node.journal.notes ++ more → ∥ All (KeepsSent (journals_of nodes)) more ∥₁ → All (λ note. ends_epoch note ≡ false) more → All (λ note. sends_update note ≡ false) more
      → HaveGrown (journals_of nodes) (journals_of (slice_set nodes r left))
  node_has_grown left more grows sent one noops =
      let same : slice_set (journals_of nodes) r (journal_of (journals_of nodes) r ++ more) ≡ journals_of (slice_set nodes r left) =
      ap (slice_set (journals_of nodes) r) (ap (λ notes. notes ++ more) journal_there ∙ sym grows) ∙ sym (map-set (λ (x : NotedNode). x.journal.notes) nodes r left) in
      subst (HaveGrown (journals_of nodes)) same (one_has_grown (journals_of nodes) r more (omega (arith, stands.low, length-map nodes (λ (x : NotedNode). x.journal.notes))) sent one noops)

  -- a no-op is sent, or nothing is
  beat_has_grown : (left : NotedNode) (n w limit me : ℕ) (messages : List Message) → left.journal.notes ≡ node.journal.notes ++ beat_notes (beating n w limit me messages) → HaveGrown (journals_of nodes) (journals_of (slice_set nodes r left))
  beat_has_grown left n w limit me messages grows =
      let all = by (is_noop_due me messages) (unstable_noops n me messages me == noop_window n w) (count_of messages me == limit) in
      node_has_grown left (beat_notes (beating n w limit me messages)) grows ∣ all.0 ∣₁ all.1 all.2 where
        Are : List Note → Type 0
        Are notes = All (KeepsSent (journals_of nodes)) notes × All (λ note. ends_epoch note ≡ false) notes × All (λ note. sends_update note ≡ false) notes

        none : Are []
        none = (All-nil (KeepsSent (journals_of nodes)), All-nil (λ note. ends_epoch note ≡ false), All-nil (λ note. sends_update note ≡ false))

        by : (due a b : Bool) → Are (beat_notes (if not due then beat.Quiet else if a then beat.Held else if b then beat.End else beat.Sent (own_message n me messages op.NoOp)))
        by false a b = none
        by true true b = none
        by true false true = none
        by true false false = let m = own_message n me messages op.NoOp in (
          All-cons (KeepsSent (journals_of nodes)) (Sent m) [] tt (All-nil (KeepsSent (journals_of nodes))),
          All-cons (λ note. ends_epoch note ≡ false) (Sent m) [] refl (All-nil (λ note. ends_epoch note ≡ false)),
          All-cons (λ note. sends_update note ≡ false) (Sent m) [] refl (All-nil (λ note. sends_update note ≡ false)),
        )

  pub beating_grows : (left : NotedNode) (answer : Beat) → Notes beat.NoMemory is_beat (noting node.first beat_notes (beat_rule node.inner.w node.inner.limit)) node.journal.notes answer left.journal.notes
      → HaveGrown (journals_of nodes) (journals_of (slice_set nodes r left))
  beating_grows left answer follows =
      let p = (state_of node).history.present in
      elim (follows node.journal.notes refl) [
        | inl told ↦ beat_has_grown left p.n node.inner.w node.inner.limit p.me p.messages told.1
        | inr none ↦ node_has_grown left [] (none.2 ∙ sym (append-nil node.journal.notes)) ∣ All-nil _ ∣₁ (All-nil _) (All-nil _)
      ]

-- what a node's outbox has stands as sent in its journal
outbox_was_sent : (of : NotedNode) → ∥ All (λ m. Contains of.journal.notes (Sent m)) of.inner.outbox.messages ∥₁
outbox_was_sent of = ∥∥₁_map of.legal (λ legal.
    let p = (state_of of).history.present in
    let me = of.inner.me in
    let Was : Message → Type 0 = λ m. m.origin ≡ p.me → Contains of.journal.notes (Sent m) in
    let lies : Message → Bool = λ m. not (is_stable (stable_vector of.inner.n me p.messages) m) in
    let own : Message → Bool = λ m. m.origin == me in
    let were = own_were_sent of.first.1 of.inner.w of.inner.limit of.first.0 of.journal.notes legal in
    let kept = All-filter own Was (filter lies p.messages) (All-filter lies Was p.messages were) in
    subst (All (λ m. Contains of.journal.notes (Sent m))) (sym (ap (λ o. o.messages) of.stands.outbox))
    (λ i d l. kept i d l (eqb-true _ me (filter_passes own (filter lies p.messages) i d l) ∙ sym of.stands.of_member)))

-- so offering it leaves journals that have grown
pub outbox_grows : (nodes left : List NotedNode) (r k : ℕ) (result : Result Offers NoMemory) → r < length nodes → k < length nodes → ∥ CanBeOffered nodes r k ∥₁ → OffersBetween nodes r k result left
    → HaveGrown (journals_of nodes) (journals_of left)
outbox_grows nodes left r k result low under can between =
    elim (slice_get_cases nodes r).1 [
      | inl here ↦ elim (slice_get_cases nodes k).1 [
        | inl there ↦
            let to = here.0 in
            let of = there.0 in
            let to_stands : StandsAt nodes r to = record { low = low; at = sym here.3 } in
            let of_stands : StandsAt nodes k of = record { low = under; at = sym there.3 } in
            let noted = between.notes to of here.2 there.2 in
            let ms = of.inner.outbox.messages in
            let own = own_between nodes r k to of here.2 there.2 ms refl can in
            subst (λ l. HaveGrown (journals_of nodes) (journals_of l)) (sym between.are)
            (node_has_grown nodes r to to_stands between.new noted.more noted.grows
            (∥∥₁_map (outbox_was_sent of) (λ were. All-weaker (IsOfOffer ms) (KeepsSent (journals_of nodes)) (was_sent nodes k of of_stands ms own were) noted.more noted.of_offers))
            (All-weaker (IsOfOffer ms) (λ note. ends_epoch note ≡ false) (ends_none ms) noted.more noted.of_offers)
            (All-weaker (IsOfOffer ms) (λ note. sends_update note ≡ false) (sends_none ms) noted.more noted.of_offers))
        | inr past ↦ absurd (omega (arith, past.0, under))
      ]
      | inr past ↦ absurd (omega (arith, past.0, low))
    ] where
      was_sent : (nodes : List NotedNode) (k : ℕ) (of : NotedNode) → StandsAt nodes k of → (ms : List Message) → All (λ m. m.origin ≡ k) ms → All (λ m. Contains of.journal.notes (Sent m)) ms → (x : Note) → IsOfOffer ms x → KeepsSent (journals_of nodes) x
      was_sent nodes k of stands ms own were (Kept m) has =
          let origin = All-contains (λ y. y.origin ≡ k) ms m own has in
          subst (λ i. Contains (journal_of (journals_of nodes) i) (Sent m)) (sym origin) (subst (λ notes. Contains notes (Sent m)) (sym (journal_there nodes k of stands)) (All-contains (λ y. Contains of.journal.notes (Sent y)) ms m were has))
      was_sent nodes k of stands ms own were (Took id) has = tt
      was_sent nodes k of stands ms own were (Crook id) has = tt
      was_sent nodes k of stands ms own were (Sent m) has = absurd has
      was_sent nodes k of stands ms own were (Regroup epoch n me) has = absurd has

      ends_none : (ms : List Message) (x : Note) → IsOfOffer ms x → ends_epoch x ≡ false
      ends_none ms (Kept m) has = refl
      ends_none ms (Took id) has = refl
      ends_none ms (Crook id) has = refl
      ends_none ms (Sent m) has = refl
      ends_none ms (Regroup epoch n me) has = absurd has

      sends_none : (ms : List Message) (x : Note) → IsOfOffer ms x → sends_update x ≡ false
      sends_none ms (Kept m) has = refl
      sends_none ms (Took id) has = refl
      sends_none ms (Crook id) has = refl
      sends_none ms (Sent m) has = absurd has
      sends_none ms (Regroup epoch n me) has = refl

-- ---- nodes

pub same_settings : (node new : NotedNode) → SameNode node new → settings_of new ≡ settings_of node
same_settings node new same = λ i. (same.w i, same.limit i)

-- what one node has as the node before it, all have as before
module _ {X : Type 0} (f : NotedNode → X) (alike : (node new : NotedNode) → SameNode node new → f new ≡ f node) where
  pub node_keeps : (nodes : List NotedNode) (r : ℕ) (node left : NotedNode) → StandsAt nodes r node → SameNode node left → map f (slice_set nodes r left) ≡ map f nodes
  node_keeps nodes r node left stands same = map-set_same f nodes r left node (alike node left same ∙ ap f stands.at)

  pub outbox_keeps : (nodes left : List NotedNode) (r k : ℕ) (result : Result Offers NoMemory) → r < length nodes → k < length nodes → OffersBetween nodes r k result left → map f left ≡ map f nodes
  outbox_keeps nodes left r k result low under between =
      elim (slice_get_cases nodes r).1 [
        | inl here ↦ elim (slice_get_cases nodes k).1 [
          | inl there ↦ ap (map f) between.are ∙ node_keeps nodes r here.0 between.new (record { low = low; at = sym here.3 }) (same here.0 between.new there.0.inner.outbox.messages result (between.each here.0 there.0 here.2 there.2))
          | inr past ↦ absurd (omega (arith, past.0, under))
        ]
        | inr past ↦ absurd (omega (arith, past.0, low))
      ] where
        same : (node new : NotedNode) (ms : List Message) (result : Result Offers NoMemory) → OffersTo node ms result new → SameNode node new
        same node new ms (Ok made) offers = offers.0
        same node new ms (Err e) offers = offers.0

-- ---- worlds

pub has_grown_none : (world : World) → HasGrown world world
has_grown_none world = record { journals = none_has_grown (journals_of world.nodes.items); firsts = refl; settings = refl }

pub has_grown_twice : (a b c : World) → HasGrown a b → HasGrown b c → HasGrown a c
has_grown_twice a b c first later = record {
  journals = growing_goes_on (journals_of a.nodes.items) (journals_of b.nodes.items) (journals_of c.nodes.items) first.journals later.journals;
  firsts = later.firsts ∙ first.firsts;
  settings = later.settings ∙ first.settings;
}
