-- A world of durable replicas before anything is sent, and after one was stopped and started again.
use Rattle.std.proofs.Common.{◌≡◌, ℕ, zero, suc, ◌+◌, ◌-◌, ◌<◌, IsTrue, List, [], ◌∷◌, ◌++◌, length, map, take, slice_index_or, slice_set, inl, inr, true, Some, None, unwrap_or, refl, sym, ap, subst, ◌∙◌, arith}
use Rattle.std.specs.Option.{is_some}
use Rattle.std.proofs.lemmas.Bool.{cases_eq}
use Rattle.std.proofs.lemmas.List.{get_or-set_same, get_or_append_left, get_or-append_right, length-append, take_all}
use Rattle.std.proofs.lemmas.List.FromFn.{get_or-map-range_with_len}
use Rattle.std.proofs.lemmas.Option.{slice_get_cases}
use Rattle.causal_model.specs.Counts.{members}
use Rattle.causal_model.specs.History.{epoch_of}
use Rattle.causal_model.specs.Journal.{replay, notes_of}
use Rattle.causal_model.specs.State.{start}
use Rattle.causal_model.specs.declared.note.Note.{Note}
use Rattle.replica_core.specs.Numbers.{are_numbers}
use Rattle.replica_node.specs.Nodes.{state_by}
use Rattle.store_io.specs.Keeping.{Leaves}
use Rattle.world_model.specs.Records.{Settings, records_of, kept_prefix, kept_fault}
use Rattle.world_model.specs.Stops.{KeptGroups, none_kept, PlainKeep, keep_opening, kept_by, within_bytes, groups_left, keep_stop_at}
use Rattle.world_model.specs.World.{PlainWorld, size_of, replica_of, epoch_in, with_state}
use Rattle.world_model.specs.Worlds.{IsWorld, KeepsWorld}
use Rattle.honest_worlds.specs.Stops.{KeepsKeep}
use Rattle.world_model.proofs.Worlds.{opening_has_size}
use Rattle.honest_worlds.proofs.Stops.{kept_is_honest, opening_is_kept, stop_is_kept}
use Rattle.world.specs.Shows.{NotedNode, state_of}
use Rattle.world.specs.Steps.{SameNode, AreNodesOf, are_empty}
use Rattle.world.proofs.Apart.{by_place}
use Rattle.world.proofs.Changes.{changed_shows}
use Rattle.world.proofs.Nodes.{size_shown, epoch_shown}
use Rattle.world.proofs.Openings.{opened_shows}
use Rattle.replica_keeper.specs.Called.{settings_of, IsNew, AreNew}
use Rattle.replica_keeper.specs.Durably.{numbers}
use Rattle.replica_keeper.specs.Keeping.{groups_of, Keeps}
use Rattle.replica_keeper.specs.Open.{settings_by, IsKept, notes_in}
use Rattle.replica_keeper.specs.ShowsKeep.{SteadyDurable, KeepsGroups, ShowsKeep}
use Rattle.replica_keeper.proofs.Kept.{left_front}
use Rattle.replica_keeper.proofs.Left.{prefix_front, within_synced}
use Rattle.replica_keeper.proofs.Showing.{some_node, StandsThere, member, stands_there, changed_keep}

-- what a durable replica keeps, by its numbers
kept_by_numbers : (of : Settings) (node : NotedNode) (held : List ℕ) (synced : ℕ) → IsKept of node held synced → Keeps of node.journal.notes held synced
kept_by_numbers of node held synced kept =
    let of_is : settings_by node ≡ of = let named : settings_by node ≡ record { me = of.me; n = of.n; w = of.w; limit = of.limit } = rw (kept.me, kept.n, kept.w, kept.limit) refl in named in
    subst (λ o. Keeps o node.journal.notes held synced) of_is kept.opened.keeps

-- what the bytes of a replica are read as that lie within those synced and b more
left_groups : (of : Settings) (node : NotedNode) (held : List ℕ) (synced : ℕ) (kept : IsKept of node held synced) (k : KeptGroups) (b : ℕ) → groups_of node.journal.notes ≡ k.groups → synced ≡ length (records_of of.n (take k.synced k.groups))
    → kept_prefix of (take (synced + b) held) ≡ groups_left of.n b k
left_groups of node held synced kept k b groups is =
    let all = kept_by_numbers of node held synced kept in
    prefix_front of held (synced + b) ∙ ap (within_bytes of.n (synced + b)) (all.groups ∙ groups) ∙ ap (λ s. within_bytes of.n (s + b) k.groups) is ∙ within_synced of.n k.synced b k.groups

-- what a stop leaves of an open replica has no fault
pub left_is_faultless : (it : SteadyDurable) → is_some it.node ≡ true → (left : List ℕ) → Leaves it.keeper.held it.keeper.synced left → kept_fault (settings_of it) left ≡ None
left_is_faultless it opened left leaves =
    let one = some_node it.node opened in
    let all = kept_by_numbers (settings_of it) one.0 it.keeper.held it.keeper.synced (it.kept one.0 one.1) in
    (left_front (settings_of it) it.keeper.held (groups_of one.0.journal.notes) it.keeper.synced left all.faultless all.groups leaves).faultless

module _ (replicas : List SteadyDurable) (rows : List (List (List ℕ))) (keep : PlainKeep) (shows : ShowsKeep replicas rows keep) (r : ℕ) (low : r < length replicas) (it : SteadyDurable) (at : it ≡ slice_index_or replicas r it)
    (new : SteadyDurable) (b : ℕ) (settings : settings_of new ≡ settings_of it) (left : NotedNode) (opened : new.node ≡ Some left)
    (read : groups_of left.journal.notes ≡ kept_prefix (settings_of it) (take (it.keeper.synced + b) it.keeper.held)) where
  abbrev there : StandsThere replicas rows keep shows.nodes r it
  there = stands_there replicas rows keep shows r low it at

  abbrev node : NotedNode
  node = there.node

  abbrev size : ℕ
  size = size_of keep.world

  abbrev groups : List (List Note)
  groups = groups_left size b (kept_by keep r)

  n_is : it.n ≡ size
  n_is = ap (λ (s : Settings). s.n) there.keeps.settings ∙ size_shown shows.nodes rows keep.world shows.shows

  me_is : it.me ≡ r
  me_is = ap (λ (s : Settings). s.me) there.keeps.settings

  groups_are : groups_of left.journal.notes ≡ groups
  groups_are =
      let k = kept_by keep r in
      let synced = there.keeps.synced ∙ ap (λ n. length (records_of n (take k.synced k.groups))) (sym (ap (λ (s : Settings). s.n) there.keeps.settings)) in
      read ∙ left_groups (settings_of it) node it.keeper.held it.keeper.synced there.kept k b there.keeps.groups synced ∙ ap (λ n. groups_left n b k) n_is

  left_kept : IsKept (settings_of new) left new.keeper.held new.keeper.synced
  left_kept = new.kept left opened

  -- its notes are those of the groups
  pub notes_are : left.journal.notes ≡ notes_of groups
  notes_are = sym left_kept.opened.keeps.cut ∙ ap notes_of groups_are

  left_me : left.inner.me ≡ it.me
  left_me = left_kept.me ∙ ap (λ (s : Settings). s.me) settings

  left_n : left.inner.n ≡ it.n
  left_n = left_kept.n ∙ ap (λ (s : Settings). s.n) settings

  state_is : state_of left ≡ replay size r (notes_of groups)
  state_is =
      ap (λ first. state_by first left.journal.notes) left_kept.opened.first
      ∙ ap (λ me. replay left.inner.n me left.journal.notes) (left_me ∙ me_is) ∙ ap (λ n. replay n r left.journal.notes) (left_n ∙ n_is) ∙ ap (replay size r) notes_are

  same : SameNode node left
  same = record {
    first = left_kept.opened.first ∙ ap (λ me. (me, left.inner.n)) (left_me ∙ sym there.kept.me) ∙ ap (λ n. (node.inner.me, n)) (left_n ∙ sym there.kept.n) ∙ sym there.kept.opened.first;
    n = left_n ∙ sym there.kept.n;
    w = left_kept.w ∙ ap (λ (s : Settings). s.w) settings ∙ sym there.kept.w;
    limit = left_kept.limit ∙ ap (λ (s : Settings). s.limit) settings ∙ sym there.kept.limit;
    epoch = left_kept.opened.epoch ∙ sym there.kept.opened.epoch;
  }

  keeps : KeepsKeep keep (keep_stop_at r b keep).1
  keeps = stop_is_kept keep r b shows.is_keep (member replicas rows keep shows r low)

  abbrev after : PlainWorld
  after = with_state keep.world r (replay size r (notes_of groups))

  after_is_world : IsWorld after
  after_is_world = (kept_is_honest (keep_stop_at r b keep).1 keeps.is_keep).is_world

  -- both worlds are in the first epoch
  epoch_is : epoch_in after ≡ epoch_in keep.world
  epoch_is =
      let inside = member replicas rows keep shows r low in
      let here : replica_of after r ≡ state_of left = get_or-set_same keep.world.replicas r (replay size r (notes_of groups)) (start 0 0) inside ∙ sym state_is in
      sym (after_is_world.replicas r (omega (arith, inside, keeps.size))).in_epoch ∙ ap (λ s. epoch_of s.history) here ∙ left.stands.in_epoch ∙ left_kept.opened.epoch
      ∙ sym there.kept.opened.epoch ∙ epoch_shown shows.nodes rows keep.world shows.shows r node there.stands

  keeps_world : KeepsWorld keep.world after
  keeps_world = record { is_world = after_is_world; size = keeps.size; epoch = epoch_is; w = refl; limit = refl }

  -- a stop leaves the groups that it leaves of a plain keep world
  pub stop_keep : new.keeper.synced ≡ length new.keeper.held → ShowsKeep (slice_set replicas r new) rows (keep_stop_at r b keep).1
  stop_keep synced =
      let shows' = changed_shows shows.nodes rows keep.world shows.shows r node there.stands left same (replay size r (notes_of groups)) state_is keeps_world in
      let held : new.keeper.held ≡ records_of it.n groups = left_kept.opened.keeps.records ∙ ap (λ n. records_of n (groups_of left.journal.notes)) left_n ∙ ap (records_of it.n) groups_are in
      changed_keep replicas rows keep shows r low it at new left rows (keep_stop_at r b keep).1 (record { groups = groups; synced = length groups }) keeps refl shows' settings opened groups_are
      (synced ∙ ap length held ∙ ap (λ g. length (records_of it.n g)) (sym (take_all (length groups) groups (omega arith))))

-- ---- before anything is sent

-- the nodes of replicas of which each is open
each_node : (list : List SteadyDurable) → ((r : ℕ) (d : SteadyDurable) → r < length list → (node : NotedNode) × ((slice_index_or list r d).node ≡ Some node))
    → (nodes : List NotedNode) × (length nodes ≡ length list) × ((r : ℕ) (d : SteadyDurable) (e : NotedNode) → r < length list → (slice_index_or list r d).node ≡ Some (slice_index_or nodes r e))
each_node [] each = ([], refl, λ r d e l. absurd (omega (arith, l)))
each_node (it ∷ list) each =
    let one = each 0 it (omega arith) in
    let rest = each_node list (λ r d l. each (suc r) d (omega (arith, l))) in
    (one.0 ∷ rest.0, omega (arith, rest.1), by one.0 one.1 rest.0 rest.2) where
      by : (node : NotedNode) → it.node ≡ Some node → (nodes : List NotedNode) → ((r : ℕ) (d : SteadyDurable) (e : NotedNode) → r < length list → (slice_index_or list r d).node ≡ Some (slice_index_or nodes r e))
          → (r : ℕ) (d : SteadyDurable) (e : NotedNode) → r < length (it ∷ list) → (slice_index_or (it ∷ list) r d).node ≡ Some (slice_index_or (node ∷ nodes) r e)
      by node is nodes later zero d e l = is
      by node is nodes later (suc r) d e l = later r d e (omega (arith, l))

module _ (n w limit : ℕ) (list : List SteadyDurable) (rows : List (List (List ℕ))) (numbers_are : IsTrue (are_numbers 0 n w limit)) (new : AreNew n w limit n list) (empty : rows ≡ are_empty n) where
  found_nodes : (nodes : List NotedNode) × (length nodes ≡ length list) × ((r : ℕ) (d : SteadyDurable) (e : NotedNode) → r < length list → (slice_index_or list r d).node ≡ Some (slice_index_or nodes r e))
  found_nodes = each_node list (λ r d l. let one = new.each r d (omega (arith, l, new.count_is)) in (one.node, one.opened))

  abbrev opened_nodes : List NotedNode
  opened_nodes = found_nodes.0

  count : length opened_nodes ≡ n
  count = found_nodes.1 ∙ new.count_is

  -- the node at a place is its member's, and has noted nothing
  pub record IsFresh (r : ℕ) (it : SteadyDurable) (node : NotedNode) : Type 0 where
    pub of : settings_of it ≡ numbers r n w limit
    pub opened : it.node ≡ Some node
    pub none : node.journal.notes ≡ []
    pub unsynced : it.keeper.synced ≡ 0
    pub kept : IsKept (numbers r n w limit) node it.keeper.held it.keeper.synced

  fresh : (r : ℕ) (d : SteadyDurable) (e : NotedNode) → r < n → IsFresh r (slice_index_or list r d) (slice_index_or opened_nodes r e)
  fresh r d e l =
      let it = slice_index_or list r d in
      let one = new.each r d l in
      let is = found_nodes.2 r d e (omega (arith, l, new.count_is)) in
      let same : one.node ≡ slice_index_or opened_nodes r e = ap (λ o. unwrap_or o one.node) (sym one.opened ∙ is) in
      record {
        of = one.settings;
        opened = is;
        none = ap (λ (x : NotedNode). x.journal.notes) (sym same) ∙ one.none;
        unsynced = one.unsynced;
        kept = subst (λ of. IsKept of (slice_index_or opened_nodes r e) it.keeper.held it.keeper.synced) one.settings (it.kept (slice_index_or opened_nodes r e) is);
      }

  -- some replica stands at each place
  module _ (r : ℕ) (l : r < n) (P : NotedNode → Type 0) (e : NotedNode) (is : (it : SteadyDurable) (node : NotedNode) → IsFresh r it node → P node) where
    of_fresh : P (slice_index_or opened_nodes r e)
    of_fresh = elim (slice_get_cases list r).1 [
      | inl here ↦ is (slice_index_or list r here.0) (slice_index_or opened_nodes r e) (fresh r here.0 e l)
      | inr past ↦ absurd (omega (arith, past.0, l, new.count_is))
    ]

  opened_state : (r : ℕ) (it : SteadyDurable) (node : NotedNode) → IsFresh r it node → state_of node ≡ start n r
  opened_state r it node is =
      let k = is.kept in
      ap (λ first. state_by first node.journal.notes) k.opened.first ∙ ap (λ me. replay node.inner.n me node.journal.notes) k.me ∙ ap (λ c. replay c r node.journal.notes) k.n ∙ ap (replay n r) is.none

  nodes_are : AreNodesOf (start n) w limit n opened_nodes
  nodes_are = record {
    states = by_place (start 0 0) state_of (start n) opened_nodes (λ r x at l here. of_fresh r (omega (arith, l, count)) (λ node. node ≡ x → state_of x ≡ start n r) x (λ it node is same. subst (λ y. state_of y ≡ start n r) same (opened_state r it node is)) here) ∙ ap (λ c. map (start n) (members c)) count;
    windows = λ r d l. of_fresh r (omega (arith, l, count)) (λ node. node.inner.w ≡ w) d (λ it node is. is.kept.w);
    limits = λ r d l. of_fresh r (omega (arith, l, count)) (λ node. node.inner.limit ≡ limit) d (λ it node is. is.kept.limit);
  }

  pub opening_keep : ShowsKeep list rows (keep_opening n w limit)
  opening_keep =
      let shown = opened_shows n w limit opened_nodes rows numbers_are nodes_are empty in
      let is = shown.is_world in
      let size = opening_has_size n w limit in
      record {
        is_keep = opening_is_kept n w limit (omega (arith, is.some, size)) (omega (arith, is.few, size)) is.wide is.most;
        nodes = opened_nodes;
        count = found_nodes.1;
        shows = shown;
        each = λ r d e l.
            let low : r < n = omega (arith, l, count) in
            let is = fresh r d e low in
            let kept : kept_by (keep_opening n w limit) r ≡ none_kept = get_or-map-range_with_len (λ me. none_kept) 0 n r r none_kept low (omega arith) in
            subst (λ c. KeepsGroups c r w limit (slice_index_or list r d) (slice_index_or opened_nodes r e) (kept_by (keep_opening n w limit) r)) (sym count)
            (subst (KeepsGroups n r w limit (slice_index_or list r d) (slice_index_or opened_nodes r e)) (sym kept)
            (record { settings = is.of; opened = is.opened; groups = ap groups_of is.none; synced = is.unsynced }));
      }

pub one_new_more : (n w limit count : ℕ) (list after : List SteadyDurable) (it : SteadyDurable) → AreNew n w limit count list → after ≡ list ++ it ∷ [] → IsNew n count w limit it → AreNew n w limit (count + 1) after
one_new_more n w limit count list after it are is one =
    let all : AreNew n w limit (count + 1) (list ++ it ∷ []) = record {
      count_is = length-append list (it ∷ []) ∙ ap (λ c. c + 1) are.count_is;
      each = λ r d l. elim (cases_eq r count) [
        | inl e ↦ subst (λ x. IsNew n r w limit x) (sym (get_or-append_right list (it ∷ []) count r d are.count_is (omega (arith, e)) ∙ ap (λ i. slice_index_or (it ∷ []) i d) (let at : r - count ≡ 0 = omega (arith, e) in at))) (subst (λ i. IsNew n i w limit it) (sym e) one)
        | inr ne ↦ let low : r < count = omega (arith, l, ne) in subst (λ x. IsNew n r w limit x) (sym (get_or_append_left list (it ∷ []) d r (omega (arith, low, are.count_is)))) (are.each r d low)
      ];
    } in
    subst (AreNew n w limit (count + 1)) (sym is) all

-- a replica that was started of no bytes is new
pub started_new : (n r w limit : ℕ) (it : SteadyDurable) (held : List ℕ) → held ≡ [] → settings_of it ≡ numbers r n w limit → is_some it.node ≡ true → groups_of (notes_in it.node) ≡ kept_prefix (numbers r n w limit) held
    → it.keeper.synced ≡ length it.keeper.held → IsNew n r w limit it
started_new n r w limit it held none settings opened groups synced =
    let one = some_node it.node opened in
    let node = one.0 in
    let k = it.kept node one.1 in
    let no_groups : groups_of node.journal.notes ≡ [] = ap (λ o. groups_of (notes_in o)) (sym one.1) ∙ groups ∙ ap (kept_prefix (numbers r n w limit)) none in
    record {
      settings = settings;
      node = node;
      opened = one.1;
      none = sym k.opened.keeps.cut ∙ ap notes_of no_groups;
      unsynced = synced ∙ ap length (k.opened.keeps.records ∙ ap (records_of node.inner.n) no_groups);
    }
