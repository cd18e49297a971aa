-- The nodes of a run settle, as a world does.
use Rattle.std.proofs.Common.{◌≡◌, ℕ, ◌<◌, ◌≤◌, true, false, List, [], length, get_or, inl, inr, refl, sym, ap, subst, ◌∙◌, arith}
use Rattle.std.specs.Prelude.{map, Some, slice_get}
use Rattle.std.proofs.Math.Logic.{∥∥₁_elim, ∥∥₁_map, ∥∥₁_prop}
use Rattle.std.proofs.Props.{props}
use Rattle.std.proofs.lemmas.List.{ext_get_or, get_or-map, length-map}
use Rattle.std.proofs.lemmas.List.FromFn.{length-map-range_with_len, get_or-map-range_with_len}
use Rattle.std.proofs.lemmas.Option.{slice_get_cases}
use Rattle.causal_model.specs.Follows.{FollowsOrStops}
use Rattle.causal_model.specs.Counts.{members}
use Rattle.causal_model.specs.Journal.{IsLegal, replay}
use Rattle.causal_model.specs.State.{State, start}
use Rattle.causal_model.specs.declared.note.Note.{Note}
use Rattle.honest_worlds.proofs.ClosedJournals.{journals_are_honest}
use Rattle.honest_worlds.proofs.Settling.{settling_settles}
use Rattle.replica_lock.specs.Turns.{NotedNode}
use Rattle.replica_node.specs.Nodes.{state_by}
use Rattle.world.specs.Answers.{ShowsPlain}
use Rattle.world.specs.Apart.{AreApart, frames_by}
use Rattle.world.specs.Growing.{settings_of}
use Rattle.world.specs.Midst.{IsInSettling}
use Rattle.world.specs.Shows.{Shows}
use Rattle.world.specs.declared.world.World.{World}
use Rattle.world.proofs.Apart.{apart_shows}
use Rattle.world_model.specs.Journals.{journal_of, world_of_journals, AreJournals, HaveGrown}
use Rattle.world_model.specs.Honest.{IsHonest}
use Rattle.world_model.specs.Settling.{round_of, is_quiescent, settle_at, world_settled}
use Rattle.world_model.specs.declared.outcome.Settle.{Settle}
use Rattle.world_model.specs.declared.outcome.Settle.TheVariants as settle
use Rattle.world_model.specs.World.{PlainWorld}
use Rattle.world_model.specs.Worlds.{IsWorld, own_of}
use Rattle.world_model.proofs.Growing.{grown_are_journals}
use Rattle.world_model.proofs.Still.{settled_is_still}
use Rattle.live_run.specs.Ended.{AreApartIn, AreMembers, HaveSettled, notes_of_each}
use Rattle.live_run.specs.Limits.{live_limit}
use Rattle.live_run.specs.Texts.{states_of}
use Rattle.live_run.proofs.Ended.{each_below, some_of}

module _ (n w : ℕ) (nodes : List NotedNode) (are : AreMembers n w nodes) where
  -- a member's journal is legal
  pub legal_there : (r : ℕ) → r < n → ∥ IsLegal n w live_limit r (journal_of (notes_of_each nodes) r) ∥₁
  legal_there r l =
      let inside : r < length nodes = omega (arith, l, are.of_each) in
      let node = some_of nodes r inside in
      let is = are.each r node l in
      let it = get_or nodes r node in
      let its : journal_of (notes_of_each nodes) r ≡ it.journal.notes = get_or-map (λ (x : NotedNode). x.journal.notes) nodes r node [] inside in
      ∥∥₁_map it.legal (λ legal. subst (λ (x : (ℕ × ℕ) × ((ℕ × ℕ) × List Note)). IsLegal x.0.1 x.1.0.0 x.1.0.1 x.0.0 x.1.1) (λ i. (is.first i, ((is.window i, is.limit i), sym its i))) legal)

  pub members_apart : 1 ≤ n → n ≤ 16 → AreJournals n w live_limit (notes_of_each nodes) → AreApart w live_limit nodes
  members_apart some few journals = record {
    some = subst (λ k. 1 ≤ k) (sym are.of_each) some;
    few = subst (λ k. k ≤ 16) (sym are.of_each) few;
    firsts = first_at;
    windows = λ r d l. (are.each r d (subst (λ k. r < k) are.of_each l)).window;
    limits = λ r d l. (are.each r d (subst (λ k. r < k) are.of_each l)).limit;
    journals = subst (λ k. AreJournals k w live_limit (notes_of_each nodes)) (sym are.of_each) journals;
  }
    where
      first_at : (r : ℕ) (node : NotedNode) → slice_get nodes r ≡ Some node → node.first ≡ (r, length nodes)
      first_at r node at = elim (slice_get_cases nodes r).1 [
        | inl here ↦
            let same : here.0 ≡ node = cc (here.2, at) in
            ap (λ (x : NotedNode). x.first) (sym same ∙ sym here.3) ∙ (are.each r here.0 (subst (λ k. r < k) are.of_each here.1)).first ∙ ap (λ k. (r, k)) (sym are.of_each)
        | inr past ↦ let never : ⊥ = cc (past.1, at) in absurd never
      ]

-- nodes that keep their members and numbers are those of the same members
pub members_stay : (n w : ℕ) (old new : List NotedNode) → AreMembers n w old → map (λ node. node.first) new ≡ map (λ node. node.first) old → map settings_of new ≡ map settings_of old → AreMembers n w new
members_stay n w old new are firsts settings =
    let same : length new ≡ length old = sym (length-map new (λ (x : NotedNode). x.first)) ∙ ap length firsts ∙ length-map old (λ (x : NotedNode). x.first) in
    record {
      of_each = same ∙ are.of_each;
      each = λ r f l.
          let inside : r < length new = omega (arith, l, same, are.of_each) in
          let there : r < length old = omega (arith, inside, same) in
          let is = are.each r f l in
          let first = sym (get_or-map (λ (x : NotedNode). x.first) new r f f.first inside) ∙ ap (λ xs. get_or xs r f.first) firsts ∙ get_or-map (λ (x : NotedNode). x.first) old r f f.first there in
          let numbers = sym (get_or-map settings_of new r f (settings_of f) inside) ∙ ap (λ xs. get_or xs r (settings_of f)) settings ∙ get_or-map settings_of old r f (settings_of f) there in
          record {
            first = first ∙ is.first;
            window = ap (λ x. x.0) numbers ∙ is.window;
            limit = ap (λ x. x.1) numbers ∙ is.limit;
          };
    }

-- their journals give the states of their plain world's replicas
pub states_are : (n w limit : ℕ) (nodes : List NotedNode) → AreMembers n w nodes → states_of nodes ≡ (world_of_journals n w limit (notes_of_each nodes)).replicas
states_are n w limit nodes are =
    let journals = notes_of_each nodes in
    ext_get_or (start 0 0) (states_of nodes) (map (λ r. replay n r (journal_of journals r)) (members n))
    (length-map nodes (λ (x : NotedNode). state_by x.first x.journal.notes) ∙ are.of_each ∙ sym (length-map-range_with_len (λ r. replay n r (journal_of journals r)) 0 n)) (λ r l.
    let inside : r < length nodes = subst (λ k. r < k) (length-map nodes (λ (x : NotedNode). state_by x.first x.journal.notes)) l in
    let low : r < n = subst (λ k. r < k) are.of_each inside in
    let node = some_of nodes r inside in
    get_or-map (λ (x : NotedNode). state_by x.first x.journal.notes) nodes r node (start 0 0) inside
    ∙ ap (λ first. state_by first (get_or nodes r node).journal.notes) (are.each r node low).first
    ∙ ap (replay n r) (sym (get_or-map (λ (x : NotedNode). x.journal.notes) nodes r node [] inside))
    ∙ sym (get_or-map-range_with_len (λ r. replay n r (journal_of journals r)) 0 n r r (start 0 0) low (omega arith)))

-- nodes show one world
world_is : (a b : PlainWorld) → IsWorld a → IsWorld b → a.w ≡ b.w → a.limit ≡ b.limit → a.replicas ≡ b.replicas → a ≡ b
world_is a b is_a is_b w limit replicas =
    let size : length a.replicas ≡ length b.replicas = ap length replicas in
    let sent : a.sent ≡ b.sent = ext_get_or [] a.sent b.sent (omega (arith, is_a.of_each, size, is_b.of_each)) (λ r l.
    let low : r < length a.replicas = omega (arith, l, is_a.of_each) in
    is_a.sent r low ∙ ap (λ (l : List State). own_of (get_or l r (start 0 0))) replicas ∙ sym (is_b.sent r (omega (arith, low, size)))) in
    λ i. record { w = w i; limit = limit i; replicas = replicas i; sent = sent i }

shown_is : (nodes : List NotedNode) (node : NotedNode) (rows others : List (List (List ℕ))) (a b : PlainWorld) → 1 ≤ length nodes → Shows nodes rows a → Shows nodes others b → a ≡ b
shown_is nodes node rows others a b some shows_a shows_b =
    world_is a b shows_a.is_world shows_b.is_world (sym (shows_a.windows 0 node some) ∙ shows_b.windows 0 node some) (sym (shows_a.limits 0 node some) ∙ shows_b.limits 0 node some) (sym shows_a.states ∙ shows_b.states)

module _ (n w : ℕ) (old new : List NotedNode) (apart : AreApartIn n w old) (grown : HaveGrown (notes_of_each old) (notes_of_each new)) (members : AreMembers n w new) where
  -- what settling left can be that of one store
  pub journals_are : ∥ AreJournals n w live_limit (notes_of_each new) ∥₁
  journals_are =
      ∥∥₁_elim apart.journals ∥∥₁_prop (λ are. ∥∥₁_elim (each_below n (λ r. IsLegal n w live_limit r (journal_of (notes_of_each new) r)) (legal_there n w new members)) ∥∥₁_prop (λ legal. grown_are_journals n w live_limit (notes_of_each old) (notes_of_each new) are grown legal))

  module _ (rows : List (List (List ℕ))) (shows : AreJournals n w live_limit (notes_of_each old) → Shows new rows (world_settled (world_of_journals n w live_limit (notes_of_each old)))) where
    abbrev Before : PlainWorld
    Before = world_of_journals n w live_limit (notes_of_each old)

    abbrev After : PlainWorld
    After = world_of_journals n w live_limit (notes_of_each new)

    -- the plain world that the nodes show is that of their journals
    after_is : AreJournals n w live_limit (notes_of_each old) → AreJournals n w live_limit (notes_of_each new) → world_settled Before ≡ After
    after_is old_are are =
        let some : 1 ≤ length new = omega (arith, apart.some, members.of_each) in
        let parts = members_apart n w new members apart.some apart.few are in
        let same = subst (λ k. Shows new (map frames_by new) (world_of_journals k w live_limit (notes_of_each new))) members.of_each (apart_shows w live_limit new parts (map frames_by new) refl) in
        shown_is new (some_of new 0 some) rows (map frames_by new) (world_settled Before) After some (shows old_are) same

    pub have_settled : HaveSettled n w new
    have_settled = record {
      members = members;
      still = ∥∥₁_elim apart.journals (search props) (λ old_are. ∥∥₁_elim journals_are (search props) (λ are.
          let honest = journals_are_honest n w live_limit (notes_of_each old) apart.some apart.few apart.wide (omega arith) old_are in
          subst (λ world. (round_of world).moved ≡ false) (after_is old_are are) (settled_is_still Before honest.is_world (settling_settles Before honest).1)));
      settled = ∥∥₁_elim apart.journals (search props) (λ old_are. ∥∥₁_elim journals_are (search props) (λ are.
          let honest = journals_are_honest n w live_limit (notes_of_each old) apart.some apart.few apart.wide (omega arith) old_are in
          subst (λ world. is_quiescent world ≡ true) (after_is old_are are) (settling_settles Before honest).1));
    }

-- the world of nodes that worked apart is honest
pub honest_there : (n w : ℕ) (nodes : List NotedNode) → AreApartIn n w nodes → AreJournals n w live_limit (notes_of_each nodes) → IsHonest (world_of_journals (length nodes) w live_limit (notes_of_each nodes))
honest_there n w nodes apart are =
    subst (λ k. IsHonest (world_of_journals k w live_limit (notes_of_each nodes))) (sym apart.members.of_each) (journals_are_honest n w live_limit (notes_of_each nodes) apart.some apart.few apart.wide (omega arith) are)

-- where settling ended, its nodes show that world settled
pub settled_shows : (n w : ℕ) (nodes : List NotedNode) (apart : AreApartIn n w nodes) (result : Settle) (old new : World) → result ≡ settle.Settled
    → ShowsPlain old (world_of_journals (length nodes) w live_limit (notes_of_each nodes)) → FollowsOrStops ShowsPlain settle.NoMemory IsInSettling settle_at old result new
    → Shows new.nodes.items (map (λ row. row.items) new.sent.items) (world_settled (world_of_journals n w live_limit (notes_of_each nodes)))
settled_shows n w nodes apart result old new settled shows follows =
    subst (λ k. Shows new.nodes.items (map (λ row. row.items) new.sent.items) (world_settled (world_of_journals k w live_limit (notes_of_each nodes)))) apart.members.of_each
    (elim (follows (world_of_journals (length nodes) w live_limit (notes_of_each nodes)) shows) [
      | inl made ↦ made.1
      | inr stopped ↦ let never : ⊥ = cc (settled, stopped.0) in absurd never
    ])
