-- The nodes of the next epoch, and the world that they show.
use Rattle.std.proofs.Common.{◌≡◌, ◌≢◌, ℕ, ◌+◌, ◌<◌, ◌≤◌, ◌==◌, nat_lt, Bool, true, false, not, All, List, [], ◌∷◌, ◌++◌, if◌then◌else◌, length, map, take, get_or, slice_index_or, zero, suc, refl, sym, ap, subst, ◌∙◌, arith}
use Rattle.std.specs.List.{list_all}
use Rattle.std.proofs.Math.Logic.{∥∥₁_elim}
use Rattle.std.proofs.Props.{props}
use Rattle.std.proofs.lemmas.Bool.{and_from, eqb-true, cond-false, false_from_ne_true}
use Rattle.std.proofs.lemmas.List.{get_or_default, get_or-map, length-map, take_more, take_all}
use Rattle.std.proofs.lemmas.List.Elements.{All-nil, All-push}
use Rattle.std.proofs.lemmas.List.Folds.{list_all-map, list_all_more, list_all_at}
use Rattle.causal_model.specs.Counts.{members}
use Rattle.causal_model.specs.History.{is_all_stable}
use Rattle.causal_model.specs.Journal.{regrouped}
use Rattle.causal_model.specs.State.{State}
use Rattle.causal_model.specs.declared.note.Note.TheVariants as note
use Rattle.frame_codec.specs.Grammar.{frame_of}
use Rattle.frame_codec.specs.declared.version.Version.TheVariants.{Two}
use Rattle.replica_core.specs.Rules.{StandsFor}
use Rattle.replica_core.specs.declared.replica.Replica.{Replica}
use Rattle.world_model.specs.Regrouping.{last_epoch, is_at_rest, next_replica, next_world, regroup_at}
use Rattle.world_model.specs.World.{PlainWorld, size_of, replica_of, epoch_in}
use Rattle.world_model.specs.declared.outcome.Regroup.{Regroup}
use Rattle.world_model.specs.declared.outcome.Regroup.TheVariants as regroup
use Rattle.world_model.proofs.Regrouping.{comes_from, comes_from_member, next_is_world}
use Rattle.world_model.specs.Journals.{journal_of}
use Rattle.world.specs.Answers.{ShowsPlain}
use Rattle.world.specs.Growing.{journals_of}
use Rattle.world.specs.Shows.{NotedNode, state_of, Shows}
use Rattle.world.specs.Entrants.{IsSettled, IsEarly, AreAsBefore, AreNext, HaveRegrouped, place_for}
use Rattle.world.specs.Steps.{AreNodesOf, are_empty}
use Rattle.world.specs.declared.world.World.{World}
use Rattle.world.proofs.Nodes.{StandsAt, size_shown, state_shown, w_shown, limit_shown, epoch_shown, epoch_is_low}
use Rattle.world.proofs.Entrants.{same_state, place_is_within}
use Rattle.world.proofs.Openings.{no_nodes, one_node_more, no_frames}
use Rattle.world.proofs.Settles.{some_members}

-- ---- nodes at rest

-- whether every operation of the epoch is stable in a node's state
abbrev is_settled : NotedNode → Bool
is_settled node = is_all_stable (state_of node).history.present

-- the nodes below a place are settled
pub record AreSettled (nodes : List NotedNode) (count : ℕ) : Type 0 where
  pub all : list_all is_settled (take count nodes) ≡ true
  pub each : All IsSettled (take count nodes)

module _ (nodes : List NotedNode) where
  pub none_settled : AreSettled nodes 0
  none_settled = record { all = refl; each = All-nil IsSettled }

  module _ (i : ℕ) (node : NotedNode) (low : i < length nodes) (at : node ≡ slice_index_or nodes i node) where
    pub one_more_settled : AreSettled nodes i → ((s : State) → StandsFor node.inner s → true ≡ is_all_stable s.history.present) → AreSettled nodes (i + 1)
    one_more_settled here stable = record {
      all = list_all_more is_settled nodes i node low ∙ and_from (list_all is_settled (take i nodes)) (is_settled (slice_index_or nodes i node)) here.all (ap is_settled (sym at) ∙ sym (stable (state_of node) node.stands));
      each = subst (All IsSettled) (sym (take_more nodes i node low)) (All-push IsSettled (take i nodes) (slice_index_or nodes i node) here.each (subst IsSettled at (λ s stands. sym (stable s stands))));
    }

    pub one_is_unsettled : false ≡ is_settled node → false ≡ list_all (λ s. is_all_stable s.history.present) (map state_of nodes)
    one_is_unsettled unstable = sym (list_all-map (λ (s : State). is_all_stable s.history.present) state_of nodes ∙ list_all_at is_settled nodes i node low (ap is_settled (sym at) ∙ sym unstable))

  module _ (count : ℕ) (past : length nodes ≤ count) (are : AreSettled nodes count) where
    pub all_are_settled : true ≡ list_all (λ s. is_all_stable s.history.present) (map state_of nodes)
    all_are_settled = sym (list_all-map (λ (s : State). is_all_stable s.history.present) state_of nodes ∙ ap (list_all is_settled) (sym (take_all count nodes past)) ∙ are.all)

    pub each_is_settled : All IsSettled nodes
    each_is_settled = subst (All IsSettled) (take_all count nodes past) are.each

-- ---- the nodes of the next epoch

-- a node with whose state a member of the next epoch begins
module _ (nodes : List NotedNode) (rows : List (List (List ℕ))) (plain : PlainWorld) (shows : Shows nodes rows plain) (q base : ℕ) (is : base ≡ (if nat_lt q (length nodes) then q else 0)) where
  base_is : base ≡ comes_from plain q
  base_is = is ∙ ap (λ k. if nat_lt q k then q else 0) (size_shown nodes rows plain shows)

  pub base_is_low : base < length nodes
  base_is_low = omega (arith, comes_from_member (length nodes) plain shows.is_world q, base_is, size_shown nodes rows plain shows)

  module _ (node : NotedNode) (at : node ≡ slice_index_or nodes base node) where
    base_stands : StandsAt nodes base node
    base_stands = record { low = base_is_low; at = at }

    -- the next node stands behind those of the members below it
    pub one_begins : (n : ℕ) (next : NotedNode) (before after : List NotedNode) → state_of next ≡ regrouped n q (state_of node) → next.inner.w ≡ node.inner.w → next.inner.limit ≡ node.inner.limit
        → after ≡ before ++ next ∷ [] → AreNodesOf (next_replica plain n) plain.w plain.limit q before → AreNodesOf (next_replica plain n) plain.w plain.limit (q + 1) after
    one_begins n next before after state wide most pushed are =
        one_node_more (next_replica plain n) plain.w plain.limit q before after next are pushed
        (state ∙ ap (regrouped n q) (sym (state_shown nodes rows plain shows base node base_stands) ∙ ap (replica_of plain) base_is))
        (wide ∙ w_shown nodes rows plain shows base node base_stands) (most ∙ limit_shown nodes rows plain shows base node base_stands)

-- ---- the world

-- an epoch that isn't the last by its first node isn't the last
pub epoch_can_end : (world : World) (plain : PlainWorld) → ShowsPlain world plain → (node : NotedNode) → node ≡ slice_index_or world.nodes.items 0 node → node.inner.epoch ≢ last_epoch → epoch_in plain ≢ last_epoch
epoch_can_end world plain shows node at more last =
    more (epoch_shown world.nodes.items (map (λ row. row.items) world.sent.items) plain shows 0 node (record { low = omega (arith, some_members world); at = at }) ∙ last)

-- the nodes of the next epoch, with no frame yet, show its world
pub next_is_shown : (nodes : List NotedNode) (rows : List (List (List ℕ))) (old : List NotedNode) (sent : List (List (List ℕ))) (plain : PlainWorld) (n : ℕ) → Shows old sent plain → 1 ≤ n → n ≤ 16
    → epoch_in plain ≢ last_epoch → is_at_rest plain ≡ true → AreNodesOf (next_replica plain n) plain.w plain.limit n nodes → rows ≡ are_empty n → Shows nodes rows (next_world n plain)
next_is_shown nodes rows old sent plain n shows some few more rests made empty = record {
  is_world = next_is_world n plain shows.is_world few more rests some;
  states = made.states;
  windows = made.windows;
  limits = made.limits;
  frames = empty ∙ no_frames (frame_of Two (size_of (next_world n plain)) (epoch_in (next_world n plain))) (members n);
}

-- ---- what is answered

-- where the world is at rest, and the epoch isn't the last, the next one begins
pub rest_begins : (n : ℕ) (plain : PlainWorld) → epoch_in plain ≢ last_epoch → is_at_rest plain ≡ true → regroup_at n plain ≡ (regroup.Regrouped (epoch_in plain + 1), next_world n plain)
rest_begins n plain more rests =
    let begun : Regroup × PlainWorld = (regroup.Regrouped (epoch_in plain + 1), next_world n plain) in
    cond-false (epoch_in plain == last_epoch) (regroup.Last, plain) _ (false_from_ne_true (epoch_in plain == last_epoch) (λ is. more (eqb-true (epoch_in plain) last_epoch is)))
    ∙ cond-false (not (is_at_rest plain)) (regroup.Unsettled, plain) begun (ap not rests)

-- ---- the nodes have changed

-- a list whose elements are told alike is told alike
same_map : {X Y : Type 0} (f : X → Y) (xs ys : List X) → length ys ≡ length xs → ((i : ℕ) (d : X) → i < length xs → f (get_or ys i d) ≡ f (get_or xs i d)) → map f ys ≡ map f xs
same_map f [] [] e each = refl
same_map f (x ∷ xs) [] e each = absurd (omega (arith, e))
same_map f [] (y ∷ ys) e each = absurd (omega (arith, e))
same_map f (x ∷ xs) (y ∷ ys) e each =
    ap (λ z. z ∷ map f ys) (each 0 x (omega arith)) ∙ ap (λ zs. f x ∷ zs) (same_map f xs ys (omega (arith, e)) (λ i d l. each (suc i) d (omega (arith, l))))

-- nodes that are as before show the same
pub as_before_shows : (nodes now : List NotedNode) (rows : List (List (List ℕ))) (plain : PlainWorld) → AreAsBefore nodes now → Shows nodes rows plain → Shows now rows plain
as_before_shows nodes now rows plain same shows = record {
  is_world = shows.is_world;
  states = same_map state_of nodes now same.count (λ i d l. same_state (get_or nodes i d) (get_or now i d) (same.each i d l)) ∙ shows.states;
  windows = λ i d l. let low : i < length nodes = omega (arith, l, same.count) in ap (λ (r : Replica). r.w) (same.each i d low).inner ∙ shows.windows i d low;
  limits = λ i d l. let low : i < length nodes = omega (arith, l, same.count) in ap (λ (r : Replica). r.limit) (same.each i d low).inner ∙ shows.limits i d low;
  frames = shows.frames;
}

-- the first nodes of the next epoch are those of its members
next_nodes_to : (nodes : List NotedNode) (rows : List (List (List ℕ))) (plain : PlainWorld) (shows : Shows nodes rows plain) (n : ℕ) (next : List NotedNode) (d : NotedNode) → AreNext n nodes next → (q : ℕ) → q ≤ n
    → AreNodesOf (next_replica plain n) plain.w plain.limit q (take q next)
next_nodes_to nodes rows plain shows n next d are zero l = no_nodes (next_replica plain n) plain.w plain.limit (take 0 next) refl
next_nodes_to nodes rows plain shows n next d are (suc q) l =
    let base = place_for (length nodes) q in
    let low = base_is_low nodes rows plain shows q base refl in
    let node : NotedNode = get_or nodes base d in
    let at : node ≡ get_or nodes base node = get_or_default nodes base d node low in
    let made = are.each q d d (omega (arith, l)) in
    let more : q + 1 ≡ suc q = omega arith in
    subst (λ count. AreNodesOf (next_replica plain n) plain.w plain.limit count (take count next)) more
    (one_begins nodes rows plain shows q base refl node at n (get_or next q d) (take q next) (take (q + 1) next) made.state made.w made.limit (take_more next q d (omega (arith, l, are.count)))
    (next_nodes_to nodes rows plain shows n next d are q (omega (arith, l))))

-- all of them are
pub next_nodes_are : (nodes : List NotedNode) (rows : List (List (List ℕ))) (plain : PlainWorld) (n : ℕ) (next : List NotedNode) → Shows nodes rows plain → AreNext n nodes next → AreNodesOf (next_replica plain n) plain.w plain.limit n next
next_nodes_are [] rows plain n next shows are = absurd (omega (arith, size_shown [] rows plain shows, shows.is_world.some))
next_nodes_are (x ∷ nodes) rows plain n next shows are =
    subst (AreNodesOf (next_replica plain n) plain.w plain.limit n) (take_all n next (omega (arith, are.count))) (next_nodes_to (x ∷ nodes) rows plain shows n next x are n (omega arith))

-- no node is in the last epoch where the world isn't
pub each_is_early : (nodes : List NotedNode) (rows : List (List (List ℕ))) (plain : PlainWorld) → Shows nodes rows plain → epoch_in plain ≢ last_epoch → (k : ℕ) (d : NotedNode) → k < length nodes → IsEarly (get_or nodes k d)
each_is_early nodes rows plain shows more k d l =
    let node : NotedNode = get_or nodes k d in
    omega (arith, epoch_is_low node, epoch_shown nodes rows plain shows k node (record { low = l; at = get_or_default nodes k d node l }), more)

-- ---- the journals have changed

-- nodes that are as before have their journals
pub as_before_journals : (nodes now : List NotedNode) → AreAsBefore nodes now → journals_of now ≡ journals_of nodes
as_before_journals nodes now same = same_map (λ (node : NotedNode). node.journal.notes) nodes now same.count (λ i d l. (same.each i d l).notes)

-- the nodes of a world are in one epoch
pub epochs_alike : (world : World) (q r : ℕ) (node other : NotedNode) → StandsAt world.nodes.items q node → StandsAt world.nodes.items r other → node.inner.epoch ≡ other.inner.epoch
epochs_alike world q r node other here there = ∥∥₁_elim world.shows (search props) (λ x.
    let epoch_of = epoch_shown world.nodes.items (map (λ row. row.items) world.sent.items) x.0 x.1 in
    epoch_of q node here ∙ sym (epoch_of r other there))

-- those of the next epoch note that it began
pub next_journals : (world : World) (n : ℕ) (next : List NotedNode) (first : NotedNode) → StandsAt world.nodes.items 0 first → AreNext n world.nodes.items next
    → HaveRegrouped n (first.inner.epoch + 1) (journals_of world.nodes.items) (journals_of next)
next_journals world n next first stands are =
    let nodes = world.nodes.items in
    let notes_of = λ (node : NotedNode). node.journal.notes in
    record {
      count = length-map next notes_of ∙ are.count;
      each = λ q l.
          let base = place_for (length nodes) q in
          let low = place_is_within (length nodes) q (omega (arith, stands.low)) in
          let node : NotedNode = get_or nodes base first in
          let here : StandsAt nodes base node = record { low = low; at = get_or_default nodes base first node low } in
          get_or-map notes_of next q first [] (omega (arith, l, are.count)) ∙ (are.each q first first l).noted
          ∙ ap (λ epoch. node.journal.notes ++ note.Regroup (epoch + 1) n q ∷ []) (epochs_alike world base 0 node first here stands)
          ∙ ap (λ notes. notes ++ note.Regroup (first.inner.epoch + 1) n q ∷ []) (sym (get_or-map notes_of nodes base first [] low))
          ∙ ap (λ size. journal_of (journals_of nodes) (place_for size q) ++ note.Regroup (first.inner.epoch + 1) n q ∷ []) (sym (length-map nodes notes_of));
    }
