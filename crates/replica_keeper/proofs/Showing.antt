-- A world of durable replicas, of which one has noted something, or was started again.
use Rattle.std.proofs.Common.{◌≡◌, ◌≢◌, inl, inr, ℕ, ◌+◌, ◌<◌, ◌≤◌, Bool, true, false, List, [], ◌∷◌, ◌++◌, length, map, take, slice_index_or, slice_set, if◌then◌else◌, Option, Some, None, unwrap_or, refl, sym, ap, subst, ◌∙◌, arith}
use Rattle.std.specs.Option.{is_some}
use Rattle.std.proofs.lemmas.Bool.{cases_eq, false≢true}
use Rattle.std.proofs.lemmas.List.{length-set, get_or-set_same, get_or-set_other, take_all, take-append-le, length-append}
use Rattle.std.proofs.lemmas.Option.{slice_get_cases}
use Rattle.causal_model.specs.State.{State}
use Rattle.causal_model.specs.declared.note.Note.{Note}
use Rattle.replica_node.specs.Nodes.{state_by}
use Rattle.world_model.specs.Records.{Settings, records_of}
use Rattle.world_model.specs.Stops.{KeptGroups, none_kept, PlainKeep, is_send, with_notes, kept_by, keep_noted}
use Rattle.world_model.specs.World.{PlainWorld, size_of, replica_of}
use Rattle.honest_worlds.specs.Stops.{KeepsKeep}
use Rattle.world.specs.Shows.{NotedNode, state_of, Shows}
use Rattle.world.specs.Steps.{SameNode}
use Rattle.world.proofs.Changes.{rows_within}
use Rattle.world.proofs.Nodes.{StandsAt, size_shown, state_shown, alike}
use Rattle.replica_keeper.specs.Called.{settings_of, state_in, synced_by, HasNoted}
use Rattle.replica_keeper.specs.Keeping.{groups_of, with_group}
use Rattle.replica_keeper.specs.Open.{GoesOn, IsSame, IsKept, notes_in}
use Rattle.replica_keeper.specs.ShowsKeep.{SteadyDurable, KeepsGroups, ShowsKeep}

-- ---- groups with a call's

pub groups_with : (k : KeptGroups) (what : List Note) → (with_notes k what).groups ≡ with_group k.groups what
groups_with k [] = refl
groups_with k (note ∷ notes) = refl

-- what is synced of groups with a call's is what the first so many have
synced_with : (n : ℕ) (k : KeptGroups) (what : List Note) (all before : ℕ) → k.synced ≤ length k.groups → before ≡ length (records_of n (take k.synced k.groups)) → all ≡ length (records_of n (with_group k.groups what))
    → synced_by (is_send what) all before ≡ length (records_of n (take (with_notes k what).synced (with_notes k what).groups))
synced_with n k [] all before within is whole = is
synced_with n k (note ∷ notes) all before within is whole = by (is_send (note ∷ notes)) where
  group : List Note
  group = note ∷ notes

  more : List (List Note)
  more = k.groups ++ group ∷ []

  by : (send : Bool) → synced_by send all before ≡ length (records_of n (take (if send then length k.groups + 1 else k.synced) more))
  by true = whole ∙ ap (λ groups. length (records_of n groups)) (sym (take_all (length k.groups + 1) more (omega (arith, length-append k.groups (group ∷ [])))))
  by false = is ∙ ap (λ groups. length (records_of n groups)) (sym (take-append-le k.synced k.groups (group ∷ []) within))

-- ---- the node of a replica

-- what is something
pub some_node : (o : Option NotedNode) → is_some o ≡ true → (node : NotedNode) × (o ≡ Some node)
some_node None e = absurd (false≢true e)
some_node (Some node) e = (node, refl)

-- the node that goes on
pub node_after : (node : NotedNode) (after : Option NotedNode) → GoesOn (Some node) after → (new : NotedNode) × (after ≡ Some new) × IsSame node new
node_after node None goes = absurd goes
node_after node (Some new) goes = (new, refl, goes)

pub same_node : (node new : NotedNode) → IsSame node new → SameNode node new
same_node node new same = record { first = same.first; n = same.settings.n; w = same.settings.w; limit = same.settings.limit; epoch = same.settings.epoch }

-- the state that a replica's notes give is that of its node
pub state_in_is : (it : SteadyDurable) (node : NotedNode) → it.node ≡ Some node → IsKept (settings_of it) node it.keeper.held it.keeper.synced → state_in it ≡ state_of node
state_in_is it node is k =
    ap (λ o. state_by (it.me, it.n) (notes_in o)) is
    ∙ ap (λ first. state_by first node.journal.notes) (ap (λ me. (me, it.n)) (sym k.me) ∙ ap (λ n. (node.inner.me, n)) (sym k.n) ∙ sym k.opened.first)

-- what holds at a place of a world
pub record StandsThere (replicas : List SteadyDurable) (rows : List (List (List ℕ))) (keep : PlainKeep) (nodes : List NotedNode) (r : ℕ) (it : SteadyDurable) : Type 0 where
  pub node : NotedNode
  pub stands : StandsAt nodes r node
  pub keeps : KeepsGroups (length nodes) r keep.world.w keep.world.limit it node (kept_by keep r)
  pub kept : IsKept (settings_of it) node it.keeper.held it.keeper.synced

module _ (replicas : List SteadyDurable) (rows : List (List (List ℕ))) (keep : PlainKeep) (shows : ShowsKeep replicas rows keep) (r : ℕ) (low : r < length replicas) where
  abbrev nodes : List NotedNode
  nodes = shows.nodes

  inside : r < length nodes
  inside = omega (arith, low, shows.count)

  pub member : r < size_of keep.world
  member = omega (arith, inside, size_shown nodes rows keep.world shows.shows)

  pub row_within : {X : Type 0} (items : X → List (List ℕ)) (sent : List X) → rows ≡ map items sent → r < length sent
  row_within items sent is = rows_within items nodes sent keep.world (subst (λ x. Shows nodes x keep.world) is shows.shows) r inside

  module _ (it : SteadyDurable) (at : it ≡ slice_index_or replicas r it) where
    pub stands_there : StandsThere replicas rows keep nodes r it
    stands_there = elim (slice_get_cases nodes r).1 [
      | inl here ↦
          let node = here.0 in
          let keeps = subst (λ x. KeepsGroups (length nodes) r keep.world.w keep.world.limit x node (kept_by keep r)) (sym at)
          (subst (λ x. KeepsGroups (length nodes) r keep.world.w keep.world.limit (slice_index_or replicas r it) x (kept_by keep r)) here.3 (shows.each r it node inside)) in
          record { node = node; stands = record { low = inside; at = sym here.3 }; keeps = keeps; kept = it.kept node keeps.opened }
      | inr past ↦ absurd (omega (arith, past.0, inside))
    ]

    -- what goes by the numbers and the state of the replica goes by those of the plain one
    pub told_there : {X : Type 0} (f : ℕ → ℕ → State → X) → f it.w it.limit (state_in it) ≡ f keep.world.w keep.world.limit (replica_of keep.world r)
    told_there f =
        let there = stands_there in
        let node = there.node in
        let k = there.kept in
        let state = state_in_is it node there.keeps.opened k in
        ap (λ s. f it.w it.limit s) state ∙ ap (λ w. f w it.limit (state_of node)) (sym k.w) ∙ ap (λ limit. f node.inner.w limit (state_of node)) (sym k.limit)
        ∙ alike nodes rows keep.world shows.shows r node there.stands f

    pub n_there : it.n ≡ length nodes
    n_there = ap (λ (s : Settings). s.n) stands_there.keeps.settings

    pub is_open : is_some it.node ≡ true
    is_open = ap is_some stands_there.keeps.opened

    -- Another replica stands there, with a node of the same numbers, and keeps groups so that those synced are the records of
    -- the first so many: the world that its node and the frames show is shown, where it has what commands keep.
    pub changed_keep : (new : SteadyDurable) (node : NotedNode) (rows' : List (List (List ℕ))) (after : PlainKeep) (k : KeptGroups)
        → KeepsKeep keep after → after.kept ≡ slice_set keep.kept r k → Shows (slice_set nodes r node) rows' after.world
        → settings_of new ≡ settings_of it → new.node ≡ Some node → groups_of node.journal.notes ≡ k.groups → new.keeper.synced ≡ length (records_of it.n (take k.synced k.groups))
        → ShowsKeep (slice_set replicas r new) rows' after
    changed_keep new node rows' after k keeps kept_is shows' settings opened groups synced =
        let old = stands_there.keeps in
        record {
          is_keep = keeps.is_keep;
          nodes = slice_set nodes r node;
          count = length-set nodes r node ∙ shows.count ∙ sym (length-set replicas r new);
          shows = shows';
          each = λ q it₀ node₀ l. elim (cases_eq q r) [
            | inl e ↦ subst (λ i. KeepsGroups (length (slice_set nodes r node)) i after.world.w after.world.limit (slice_index_or (slice_set replicas r new) i it₀) (slice_index_or (slice_set nodes r node) i node₀) (kept_by after i)) (sym e) (here it₀ node₀)
            | inr ne ↦ there q it₀ node₀ (omega (arith, l, length-set nodes r node)) ne
          ];
        } where
          count' : length (slice_set nodes r node) ≡ length nodes
          count' = length-set nodes r node

          n_is : it.n ≡ length nodes
          n_is = ap (λ (s : Settings). s.n) stands_there.keeps.settings

          within : r < length keep.kept
          within = omega (arith, inside, shows.is_keep.of_each, size_shown nodes rows keep.world shows.shows)

          kept_here : kept_by after r ≡ k
          kept_here = ap (λ l. slice_index_or l r none_kept) kept_is ∙ get_or-set_same keep.kept r k none_kept within

          now : KeepsGroups (length nodes) r keep.world.w keep.world.limit new node k
          now = record {
            settings = settings ∙ stands_there.keeps.settings;
            opened = opened;
            groups = groups;
            synced = synced ∙ ap (λ n. length (records_of n (take k.synced k.groups))) n_is;
          }

          stays : (q : ℕ) (x : SteadyDurable) (y : NotedNode) (g : KeptGroups) → KeepsGroups (length nodes) q keep.world.w keep.world.limit x y g → KeepsGroups (length (slice_set nodes r node)) q after.world.w after.world.limit x y g
          stays q x y g so =
              subst (λ c. KeepsGroups c q after.world.w after.world.limit x y g) (sym count')
              (subst (λ w. KeepsGroups (length nodes) q w after.world.limit x y g) (sym keeps.w) (subst (λ limit. KeepsGroups (length nodes) q keep.world.w limit x y g) (sym keeps.limit) so))

          here : (it₀ : SteadyDurable) (node₀ : NotedNode) → KeepsGroups (length (slice_set nodes r node)) r after.world.w after.world.limit (slice_index_or (slice_set replicas r new) r it₀) (slice_index_or (slice_set nodes r node) r node₀) (kept_by after r)
          here it₀ node₀ =
              let at_replica : slice_index_or (slice_set replicas r new) r it₀ ≡ new = get_or-set_same replicas r new it₀ low in
              let at_node : slice_index_or (slice_set nodes r node) r node₀ ≡ node = get_or-set_same nodes r node node₀ inside in
              subst (λ x. KeepsGroups (length (slice_set nodes r node)) r after.world.w after.world.limit x (slice_index_or (slice_set nodes r node) r node₀) (kept_by after r)) (sym at_replica)
              (subst (λ y. KeepsGroups (length (slice_set nodes r node)) r after.world.w after.world.limit new y (kept_by after r)) (sym at_node)
              (subst (λ g. KeepsGroups (length (slice_set nodes r node)) r after.world.w after.world.limit new node g) (sym kept_here) (stays r new node k now)))

          there : (q : ℕ) (it₀ : SteadyDurable) (node₀ : NotedNode) → q < length nodes → q ≢ r
              → KeepsGroups (length (slice_set nodes r node)) q after.world.w after.world.limit (slice_index_or (slice_set replicas r new) q it₀) (slice_index_or (slice_set nodes r node) q node₀) (kept_by after q)
          there q it₀ node₀ l ne =
              let at_replica : slice_index_or (slice_set replicas r new) q it₀ ≡ slice_index_or replicas q it₀ = get_or-set_other replicas r q new it₀ ne in
              let at_node : slice_index_or (slice_set nodes r node) q node₀ ≡ slice_index_or nodes q node₀ = get_or-set_other nodes r q node node₀ ne in
              let at_kept : kept_by after q ≡ kept_by keep q = ap (λ l. slice_index_or l q none_kept) kept_is ∙ get_or-set_other keep.kept r q k none_kept ne in
              subst (λ x. KeepsGroups (length (slice_set nodes r node)) q after.world.w after.world.limit x (slice_index_or (slice_set nodes r node) q node₀) (kept_by after q)) (sym at_replica)
              (subst (λ y. KeepsGroups (length (slice_set nodes r node)) q after.world.w after.world.limit (slice_index_or replicas q it₀) y (kept_by after q)) (sym at_node)
              (subst (λ g. KeepsGroups (length (slice_set nodes r node)) q after.world.w after.world.limit (slice_index_or replicas q it₀) (slice_index_or nodes q node₀) g) (sym at_kept) (stays q _ _ _ (shows.each q it₀ node₀ l))))

    -- a call noted something there
    pub noted_keep : (new : SteadyDurable) (what : List Note) (noted : HasNoted it new what) (rows' : List (List (List ℕ))) (world : PlainWorld) → KeepsKeep keep (keep_noted r what world keep)
        → Shows (slice_set nodes r (node_after stands_there.node new.node (subst (λ o. GoesOn o new.node) stands_there.keeps.opened noted.same)).0) rows' world
        → ShowsKeep (slice_set replicas r new) rows' (keep_noted r what world keep)
    noted_keep new what noted rows' world keeps shows' =
        let there = stands_there in
        let next = node_after there.node new.node (subst (λ o. GoesOn o new.node) there.keeps.opened noted.same) in
        let k = kept_by keep r in
        let before : groups_of (notes_in it.node) ≡ k.groups = ap (λ o. groups_of (notes_in o)) there.keeps.opened ∙ there.keeps.groups in
        let groups : groups_of next.0.journal.notes ≡ with_group k.groups what = ap (λ o. groups_of (notes_in o)) (sym next.1) ∙ noted.groups ∙ ap (λ g. with_group g what) before in
        let n_is : new.n ≡ it.n = ap (λ (s : Settings). s.n) noted.settings in
        let k_new = new.kept next.0 next.1 in
        let held : new.keeper.held ≡ records_of it.n (with_group k.groups what) = k_new.opened.keeps.records ∙ ap (λ n. records_of n (groups_of next.0.journal.notes)) (k_new.n ∙ n_is) ∙ ap (records_of it.n) groups in
        let n_there : length nodes ≡ it.n = sym (ap (λ (s : Settings). s.n) there.keeps.settings) in
        changed_keep new next.0 rows' (keep_noted r what world keep) (with_notes k what) keeps refl shows' noted.settings next.1 (groups ∙ sym (groups_with k what))
        (noted.synced ∙ synced_with it.n k what (length new.keeper.held) it.keeper.synced (shows.is_keep.synced r member).within (there.keeps.synced ∙ ap (λ n. length (records_of n (take k.synced k.groups))) n_there) (ap length held))

  -- the node of a replica, where it is that of the world's, and the plain replica's state
  module _ (node : NotedNode) (is : (d : SteadyDurable) → (slice_index_or replicas r d).node ≡ Some node) where
    pub node_stands : StandsAt nodes r node
    node_stands = elim (slice_get_cases replicas r).1 [
      | inl here ↦
          let there = stands_there here.0 (sym here.3) in
          let same : there.node ≡ node = ap (λ o. unwrap_or o node) (sym there.keeps.opened ∙ ap (λ (x : SteadyDurable). x.node) (sym here.3) ∙ is here.0) in
          subst (StandsAt nodes r) same there.stands
      | inr past ↦ absurd (omega (arith, past.0, low))
    ]

    pub state_there : replica_of keep.world r ≡ state_of node
    state_there = state_shown nodes rows keep.world shows.shows r node node_stands
