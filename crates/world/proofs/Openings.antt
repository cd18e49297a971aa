-- The nodes and rows of a store before anything is sent.
use Rattle.std.proofs.Common.{◌≡◌, ℕ, ◌+◌, ◌&&◌, IsTrue, List, [], ◌∷◌, ◌++◌, length, map, nat_le, nat_lt, refl, sym, ap, subst, ◌∙◌, arith}
use Rattle.std.proofs.lemmas.Bool.{and_parts, leb-true}
use Rattle.std.proofs.lemmas.List.{length-map, map-append}
use Rattle.std.proofs.lemmas.List.Elements.{All-push}
use Rattle.std.proofs.lemmas.List.FromFn.{map-range_with_len_more, length-map-range_with_len}
use Rattle.causal_model.specs.Counts.{members}
use Rattle.causal_model.specs.State.{State, start}
use Rattle.frame_codec.specs.Grammar.{frame_of}
use Rattle.frame_codec.specs.declared.version.Version.TheVariants.{Two}
use Rattle.replica_core.specs.Numbers.{are_numbers, is_from_to}
use Rattle.world_model.specs.World.{opening, size_of, epoch_in}
use Rattle.world_model.specs.Honest.{IsHonest}
use Rattle.world_model.specs.Worlds.{IsWorld}
use Rattle.world_model.proofs.Worlds.{opening_is_world, opening_has_size}
use Rattle.honest_worlds.proofs.Commands.{opening_is_honest}
use Rattle.world.specs.Shows.{NotedNode, state_of, Shows}
use Rattle.world.specs.Steps.{AreNodesOf, are_empty}

-- the nodes of no members, and of one more
pub no_nodes : (state_at : ℕ → State) (w limit : ℕ) (nodes : List NotedNode) → nodes ≡ [] → AreNodesOf state_at w limit 0 nodes
no_nodes state_at w limit nodes is = record {
  states = ap (map state_of) is;
  windows = λ k d l. absurd (omega (arith, l, ap length is));
  limits = λ k d l. absurd (omega (arith, l, ap length is));
}

pub one_node_more : (state_at : ℕ → State) (w limit count : ℕ) (nodes after : List NotedNode) (node : NotedNode) → AreNodesOf state_at w limit count nodes → after ≡ nodes ++ node ∷ []
    → state_of node ≡ state_at count → node.inner.w ≡ w → node.inner.limit ≡ limit → AreNodesOf state_at w limit (count + 1) after
one_node_more state_at w limit count nodes after node are is state wide most =
    let all : AreNodesOf state_at w limit (count + 1) (nodes ++ node ∷ []) = record {
      states = map-append state_of nodes (node ∷ []) ∙ ap (λ l. l ++ state_of node ∷ []) are.states ∙ ap (λ s. map state_at (members count) ++ s ∷ []) state
          ∙ sym (map-range_with_len_more state_at 0 count count (omega arith));
      windows = All-push (λ x. x.inner.w ≡ w) nodes node are.windows wide;
      limits = All-push (λ x. x.inner.limit ≡ limit) nodes node are.limits most;
    } in
    subst (AreNodesOf state_at w limit (count + 1)) (sym is) all

pub one_empty : {X : Type 0} (items : X → List (List ℕ)) (rows after : List X) (row : X) (count : ℕ) → map items rows ≡ are_empty count → after ≡ rows ++ row ∷ [] → items row ≡ [] → map items after ≡ are_empty (count + 1)
one_empty items rows after row count so is none =
    ap (map items) is ∙ map-append items rows (row ∷ []) ∙ ap (λ l. l ++ items row ∷ []) so ∙ ap (λ x. are_empty count ++ x ∷ []) none
    ∙ sym (map-range_with_len_more (λ me. []) 0 count count (omega arith))

-- rows without a frame are those of nothing that was sent
pub no_frames : {X : Type 0} (f : X → List ℕ) (ids : List ℕ) → map {A = ℕ} {B = List (List ℕ)} (λ me. []) ids ≡ map (map f) (map (λ me. []) ids)
no_frames f [] = refl
no_frames f (me ∷ ids) = ap (λ l. [] ∷ l) (no_frames f ids)

pub nodes_of_members : (state_at : ℕ → State) (w limit n : ℕ) (nodes : List NotedNode) → AreNodesOf state_at w limit n nodes → length nodes ≡ n
nodes_of_members state_at w limit n nodes are = sym (length-map nodes state_of) ∙ ap length are.states ∙ length-map-range_with_len state_at 0 n

pub opened_shows : (n w limit : ℕ) (nodes : List NotedNode) (rows : List (List (List ℕ))) → IsTrue (are_numbers 0 n w limit) → AreNodesOf (start n) w limit n nodes → rows ≡ are_empty n → Shows nodes rows (opening n w limit)
opened_shows n w limit nodes rows numbers opened empty =
    let parts = and_parts (is_from_to 1 16 n && is_from_to 1 64 w && is_from_to 1 1000000 limit) (nat_lt 0 n) numbers in
    let three = and_parts (is_from_to 1 16 n && is_from_to 1 64 w) (is_from_to 1 1000000 limit) parts.0 in
    let two = and_parts (is_from_to 1 16 n) (is_from_to 1 64 w) three.0 in
    let size = and_parts (nat_le 1 n) (nat_le n 16) two.0 in
    let wide = and_parts (nat_le 1 w) (nat_le w 64) two.1 in
    let most = and_parts (nat_le 1 limit) (nat_le limit 1000000) three.1 in
    record {
      is_world = opening_is_world n w limit (leb-true 1 n size.0) (leb-true n 16 size.1) (leb-true 1 w wide.0) (leb-true limit 1000000 most.1);
      states = opened.states;
      windows = opened.windows;
      limits = opened.limits;
      frames = empty ∙ no_frames (frame_of Two (size_of (opening n w limit)) (epoch_in (opening n w limit))) (members n);
    }

-- a store that can be opened is honest then
pub opened_honest : (n w limit : ℕ) → IsWorld (opening n w limit) → IsHonest (opening n w limit)
opened_honest n w limit is =
    opening_is_honest n w limit (omega (arith, is.some, opening_has_size n w limit)) (omega (arith, is.few, opening_has_size n w limit)) is.wide is.most
