-- The world that journals of nodes apart give is shown by these nodes and their frames.
use Rattle.std.proofs.Common.{◌≡◌, ℕ, ◌<◌, ◌≤◌, ◌==◌, ◌&&◌, All, IsTrue, List, [], ◌∷◌, ◌++◌, zero, suc, ◌+◌, drop, drop-cons, append_assoc, append-nil, length, map, slice_index_or, nat_le, nat_lt, inl, inr, Some, refl, sym, ap, subst, ◌∙◌, arith}
use Rattle.std.specs.Prelude.{slice_get}
use Rattle.std.proofs.lemmas.Bool.{and_parts, leb-true}
use Rattle.std.proofs.lemmas.List.{drop_all, ext_get_or, get_or_default, length-map, get_or-map}
use Rattle.std.proofs.lemmas.List.Elements.{All-nil, All-cons, All-head, All-tail, All-filter, All-get_or}
use Rattle.std.proofs.lemmas.List.FromFn.{length-map-range_with_len, get_or-map-range_with_len}
use Rattle.std.proofs.lemmas.Option.{slice_get_cases}
use Rattle.std.proofs.lemmas.Simd.{map-map}
use Rattle.op_base.specs.Message.{fits}
use Rattle.op_base.specs.declared.message.Message.{Message}
use Rattle.causal_model.specs.Counts.{members}
use Rattle.causal_model.specs.History.{epoch_of}
use Rattle.causal_model.specs.Journal.{replay}
use Rattle.causal_model.specs.State.{start}
use Rattle.causal_model.specs.declared.note.Note.{Note}
use Rattle.causal_model.specs.declared.note.Note.TheVariants.{Sent, Kept, Took, Crook, Regroup}
use Rattle.frame_codec.specs.Grammar.{frame_of}
use Rattle.frame_codec.specs.declared.version.Version.TheVariants.{Two}
use Rattle.replica_core.specs.Numbers.{is_from_to}
use Rattle.replica_node.specs.Nodes.{state_by}
use Rattle.world_model.specs.Honest.{IsHonest}
use Rattle.world_model.specs.Journals.{journal_of, world_of_journals, sent_in}
use Rattle.world_model.specs.World.{PlainWorld, size_of, epoch_in, replica_of}
use Rattle.world_model.specs.Worlds.{own_of}
use Rattle.world_model.proofs.Sent.{messages_fit}
use Rattle.honest_worlds.proofs.ClosedJournals.{journals_are_honest, sent_notes_are_own}
use Rattle.world.specs.Apart.{AreApart, frames_by}
use Rattle.world.specs.Growing.{journals_of}
use Rattle.world.specs.Shows.{NotedNode, state_of, Shows}
use Rattle.world.proofs.Growing.{journal_there}

-- what is of each item by its place is so of the list
pub by_place : {X Y : Type 0} (d : Y) (f : X → Y) (g : ℕ → Y) (xs : List X) → ((r : ℕ) (x : X) → slice_get xs r ≡ Some x → r < length xs → slice_index_or xs r x ≡ x → f x ≡ g r) → map f xs ≡ map g (members (length xs))
by_place d f g xs each = ext_get_or d (map f xs) (map g (members (length xs))) (length-map xs f ∙ sym (length-map-range_with_len g 0 (length xs))) (λ i l.
    let low : i < length xs = omega (arith, l, length-map xs f) in
    elim (slice_get_cases xs i).1 [
      | inl here ↦ get_or-map f xs i here.0 d low ∙ ap f here.3 ∙ each i here.0 here.2 low here.3 ∙ sym (get_or-map-range_with_len g 0 (length xs) i i d low (omega arith))
      | inr past ↦ absurd (omega (arith, past.0, low))
    ])

module _ (w limit : ℕ) (nodes : List NotedNode) (are : AreApart w limit nodes) where
  abbrev n : ℕ
  n = length nodes

  abbrev journals : List (List Note)
  journals = journals_of nodes

  abbrev plain : PlainWorld
  plain = world_of_journals n w limit journals

  -- the numbers of the store are those of its first node
  numbers : (1 ≤ w) × (limit ≤ 1000000)
  numbers = elim (slice_get_cases nodes 0).1 [
    | inl here ↦
        let node = here.0 in
        let r = node.inner in
        let wide : r.w ≡ w = subst (λ x. x.inner.w ≡ w) here.3 (All-get_or (λ x. x.inner.w ≡ w) nodes 0 node are.some are.windows) in
        let most : r.limit ≡ limit = subst (λ x. x.inner.limit ≡ limit) here.3 (All-get_or (λ x. x.inner.limit ≡ limit) nodes 0 node are.some are.limits) in
        let parts = and_parts (is_from_to 1 16 r.n && is_from_to 1 64 r.w && is_from_to 1 1000000 r.limit) (nat_lt r.me r.n) r.numbers in
        let three = and_parts (is_from_to 1 16 r.n && is_from_to 1 64 r.w) (is_from_to 1 1000000 r.limit) parts.0 in
        let two = and_parts (is_from_to 1 16 r.n) (is_from_to 1 64 r.w) three.0 in (
          omega (arith, wide, leb-true 1 r.w (and_parts (nat_le 1 r.w) (nat_le r.w 64) two.1).0),
          omega (arith, most, leb-true r.limit 1000000 (and_parts (nat_le 1 r.limit) (nat_le r.limit 1000000) three.1).1),
        )
    | inr past ↦ absurd (omega (arith, past.0, are.some))
  ]

  honest : IsHonest plain
  honest = journals_are_honest n w limit journals are.some are.few numbers.0 numbers.1 are.journals

  size : size_of plain ≡ n
  size = length-map-range_with_len (λ r. replay n r (journal_of journals r)) 0 n

  module _ (r : ℕ) (node : NotedNode) (at : slice_get nodes r ≡ Some node) (low : r < length nodes) (here : slice_index_or nodes r node ≡ node) where
    noted : journal_of journals r ≡ node.journal.notes
    noted = journal_there nodes r node (record { low = low; at = sym here })

    state_is : state_of node ≡ replay n r (journal_of journals r)
    state_is = ap (λ first. state_by first node.journal.notes) (are.firsts r node at) ∙ ap (replay n r) (sym noted)

    replica_is : replica_of plain r ≡ state_of node
    replica_is = get_or-map-range_with_len (λ r. replay n r (journal_of journals r)) 0 n r r (start 0 0) low (omega arith) ∙ sym state_is

    n_is : node.inner.n ≡ n
    n_is = sym node.stands.of_store ∙ ap (λ s. s.history.present.n) (sym replica_is) ∙ (honest.is_world.replicas r (omega (arith, low, size))).of_store ∙ size

    sent_is : own_of (replay n r (journal_of journals r)) ≡ sent_in node.journal.notes
    sent_is = sent_notes_are_own n w limit r (journal_of journals r) are.few low (are.journals.legal r low) (are.journals.one_epoch r low) ∙ ap sent_in noted

    -- what it sent is of the store
    sent_fits : All (λ m. IsTrue (fits node.inner.n m)) (sent_in node.journal.notes)
    sent_fits =
        let s = replica_of plain r in
        let replica = honest.is_world.replicas r (omega (arith, low, size)) in
        let fit = All-filter (λ m. m.origin == s.history.present.me) (λ m. IsTrue (fits (size_of plain) m)) s.history.present.messages (messages_fit (size_of plain) w limit r s replica) in
        let there : own_of s ≡ sent_in node.journal.notes = ap own_of (replica_is ∙ state_is) ∙ sent_is in
        subst (λ k. All (λ m. IsTrue (fits k m)) (sent_in node.journal.notes)) (size ∙ sym n_is) (subst (All (λ m. IsTrue (fits (size_of plain) m))) there fit)

    epoch_is : node.inner.epoch ≡ epoch_in plain
    epoch_is = sym node.stands.in_epoch ∙ ap (λ s. epoch_of s.history) (sym replica_is) ∙ (honest.is_world.replicas r (omega (arith, low, size))).in_epoch

    frames_are : frames_by node ≡ map (frame_of Two (size_of plain) (epoch_in plain)) (own_of (replay n r (journal_of journals r)))
    frames_are =
        ap (map (frame_of Two node.inner.n node.inner.epoch)) (sym sent_is)
        ∙ ap (λ k. map (frame_of Two k node.inner.epoch) (own_of (replay n r (journal_of journals r)))) (n_is ∙ sym size)
        ∙ ap (λ epoch. map (frame_of Two (size_of plain) epoch) (own_of (replay n r (journal_of journals r)))) epoch_is

  pub all_fit : All (λ node. All (λ m. IsTrue (fits node.inner.n m)) (sent_in node.journal.notes)) nodes
  all_fit = λ r d low. elim (slice_get_cases nodes r).1 [
    | inl here ↦ subst (λ x. All (λ m. IsTrue (fits x.inner.n m)) (sent_in x.journal.notes)) (get_or_default nodes r here.0 d low) (subst (λ x. All (λ m. IsTrue (fits x.inner.n m)) (sent_in x.journal.notes)) (sym here.3) (sent_fits r here.0 here.2 low here.3))
    | inr past ↦ absurd (omega (arith, past.0, low))
  ]

  pub apart_shows : (rows : List (List (List ℕ))) → rows ≡ map frames_by nodes → Shows nodes rows plain
  apart_shows rows is = record {
    is_world = honest.is_world;
    states = by_place (start 0 0) state_of (λ r. replay n r (journal_of journals r)) nodes state_is;
    windows = are.windows;
    limits = are.limits;
    frames = is ∙ by_place [] frames_by (λ r. map (frame_of Two (size_of plain) (epoch_in plain)) (own_of (replay n r (journal_of journals r)))) nodes frames_are
        ∙ sym (map-map (map (frame_of Two (size_of plain) (epoch_in plain))) (λ r. own_of (replay n r (journal_of journals r))) (members n));
  }

-- ---- the frames of notes, one after the other

-- what holds of all that notes sent holds of what one did
module _ (P : Message → Type 0) where
  of_first : (x : Note) (notes : List Note) → All P (sent_in (x ∷ notes)) → All P (sent_in (x ∷ []))
  of_first (Sent m) notes all = All-cons P m [] (All-head P m (sent_in notes) all) (All-nil P)
  of_first (Kept m) notes all = All-nil P
  of_first (Took id) notes all = All-nil P
  of_first (Crook id) notes all = All-nil P
  of_first (Regroup epoch n me) notes all = All-nil P

  of_others : (x : Note) (notes : List Note) → All P (sent_in (x ∷ notes)) → All P (sent_in notes)
  of_others (Sent m) notes all = All-tail P m (sent_in notes) all
  of_others (Kept m) notes all = all
  of_others (Took id) notes all = all
  of_others (Crook id) notes all = all
  of_others (Regroup epoch n me) notes all = all

  pub of_one : (notes : List Note) (i : ℕ) (d : Note) → i < length notes → All P (sent_in notes) → All P (sent_in (slice_index_or notes i d ∷ []))
  of_one [] i d l all = absurd (omega (arith, l))
  of_one (x ∷ notes) zero d l all = of_first x notes all
  of_one (x ∷ notes) (suc i) d l all = of_one notes i d (omega (arith, l)) (of_others x notes all)

module _ (f : Message → List ℕ) where
  one_and_others : (x : Note) (notes : List Note) → map f (sent_in (x ∷ [])) ++ map f (sent_in notes) ≡ map f (sent_in (x ∷ notes))
  one_and_others (Sent m) notes = refl
  one_and_others (Kept m) notes = refl
  one_and_others (Took id) notes = refl
  one_and_others (Crook id) notes = refl
  one_and_others (Regroup epoch n me) notes = refl

  -- the frames so far, and those of the notes that are left, are all
  pub one_note_more : (notes : List Note) (i : ℕ) (x : Note) (row after : List (List ℕ)) → i < length notes → x ≡ slice_index_or notes i x → after ≡ row ++ map f (sent_in (x ∷ []))
      → row ++ map f (sent_in (drop i notes)) ≡ map f (sent_in notes) → after ++ map f (sent_in (drop (i + 1) notes)) ≡ map f (sent_in notes)
  one_note_more notes i x row after low at is so =
      let next : suc i ≡ i + 1 = omega arith in
      ap (λ l. l ++ map f (sent_in (drop (i + 1) notes))) is ∙ append_assoc row (map f (sent_in (x ∷ []))) (map f (sent_in (drop (i + 1) notes)))
      ∙ ap (λ l. row ++ l) (one_and_others x (drop (i + 1) notes))
      ∙ ap (λ k. row ++ map f (sent_in (x ∷ drop k notes))) (sym next) ∙ ap (λ y. row ++ map f (sent_in (y ∷ drop (suc i) notes))) at
      ∙ ap (λ l. row ++ map f (sent_in l)) (sym (drop-cons notes i x low)) ∙ so

  pub none_is_left : (notes : List Note) (i : ℕ) (row : List (List ℕ)) → i ≡ length notes → row ++ map f (sent_in (drop i notes)) ≡ map f (sent_in notes) → row ≡ map f (sent_in notes)
  none_is_left notes i row all so =
      sym (append-nil row) ∙ ap (λ l. row ++ map f (sent_in l)) (sym (drop_all i notes (omega (arith, all)))) ∙ so
