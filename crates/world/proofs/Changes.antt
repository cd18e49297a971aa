-- What a world shows when one of its nodes has changed, and the frames that its member sent.
use Rattle.std.proofs.Common.{◌≡◌, ℕ, zero, suc, ◌<◌, List, [], ◌∷◌, ◌++◌, length, map, fold, slice_index_or, slice_set, refl, sym, ap, subst, ◌∙◌, append_assoc, arith}
use Rattle.std.proofs.lemmas.List.{length-map, get_or-map, map-set, length-set, set-get_or, get_or-set_same, append-nil, map-append}
use Rattle.std.proofs.lemmas.List.Elements.{All-set}
use Rattle.std.proofs.Math.Seq.{map-set_same}
use Rattle.op_base.specs.declared.message.Message.{Message}
use Rattle.causal_model.specs.State.{State, start, with_own}
use Rattle.frame_codec.specs.Grammar.{frame_of}
use Rattle.frame_codec.specs.declared.version.Version.TheVariants.{Two}
use Rattle.world_model.specs.World.{PlainWorld, size_of, epoch_in, replica_of, sent_by, with_state, with_sent, with_all_sent}
use Rattle.world_model.specs.Worlds.{KeepsWorld}
use Rattle.world.specs.Shows.{NotedNode, state_of, Shows}
use Rattle.world.specs.Steps.{SameNode}
use Rattle.world.proofs.Nodes.{StandsAt, size_shown, within, state_shown, w_shown, limit_shown, n_shown, epoch_shown}

-- a row with more frames behind it, seen by its frames
pub rows_with : {X : Type 0} (items : X → List (List ℕ)) (rows : List X) (r : ℕ) (row new : X) (more : List (List ℕ)) → r < length rows → row ≡ slice_index_or rows r row → items new ≡ items row ++ more
    → map items (slice_set rows r new) ≡ slice_set (map items rows) r (slice_index_or (map items rows) r [] ++ more)
rows_with items rows r row new more low at is =
    let e : items row ≡ slice_index_or (map items rows) r [] = ap items at ∙ sym (get_or-map items rows r row [] low) in
    map-set items rows r new ∙ ap (slice_set (map items rows) r) (is ∙ ap (λ x. x ++ more) e)

-- each member has a row
pub rows_within : {X : Type 0} (items : X → List (List ℕ)) (nodes : List NotedNode) (rows : List X) (plain : PlainWorld) → Shows nodes (map items rows) plain → (r : ℕ) → r < length nodes → r < length rows
rows_within items nodes rows plain shows r low =
    let counted : length rows ≡ length plain.sent = sym (length-map rows items) ∙ ap length shows.frames ∙ length-map plain.sent (map (frame_of Two (size_of plain) (epoch_in plain))) in
    omega (arith, counted, shows.is_world.of_each, size_shown nodes (map items rows) plain shows)

-- ---- messages that were sent one after the other

pub set_twice : {X : Type 0} (l : List X) (r : ℕ) (a b : X) → slice_set (slice_set l r a) r b ≡ slice_set l r b
set_twice [] r a b = refl
set_twice (x ∷ l) zero a b = refl
set_twice (x ∷ l) (suc r) a b = ap (λ rest. x ∷ rest) (set_twice l r a b)

-- a world with other replicas, and with other messages that were sent
abbrev with_parts : PlainWorld → List State → List (List Message) → PlainWorld
with_parts plain replicas sent = record { w = plain.w; limit = plain.limit; replicas = replicas; sent = sent }

-- they stand behind what the replica sent, and it has them
all_are_sent : (r : ℕ) (plain : PlainWorld) (ms : List Message) → r < size_of plain → r < length plain.sent
    → with_all_sent r plain ms ≡ with_parts plain (slice_set plain.replicas r (fold with_own (replica_of plain r) ms)) (slice_set plain.sent r (sent_by plain r ++ ms))
all_are_sent r plain [] low kept =
    let sent : slice_set plain.sent r (sent_by plain r ++ []) ≡ plain.sent = ap (slice_set plain.sent r) (append-nil (sent_by plain r)) ∙ set-get_or plain.sent r [] in
    sym (ap (λ l. with_parts plain l (slice_set plain.sent r (sent_by plain r ++ []))) (set-get_or plain.replicas r (start 0 0)) ∙ ap (with_parts plain plain.replicas) sent)
all_are_sent r plain (m ∷ ms) low kept =
    let next = with_sent plain r m in
    let s = with_own (replica_of plain r) m in
    let own = sent_by plain r ++ m ∷ [] in
    let replicas : slice_set next.replicas r (fold with_own (replica_of next r) ms) ≡ slice_set plain.replicas r (fold with_own s ms) =
    ap (λ g. slice_set next.replicas r (fold with_own g ms)) (get_or-set_same plain.replicas r s (start 0 0) low) ∙ set_twice plain.replicas r s (fold with_own s ms) in
    let sent : slice_set next.sent r (sent_by next r ++ ms) ≡ slice_set plain.sent r (sent_by plain r ++ m ∷ ms) =
    ap (λ l. slice_set next.sent r (l ++ ms)) (get_or-set_same plain.sent r own [] kept) ∙ set_twice plain.sent r own (own ++ ms) ∙ ap (slice_set plain.sent r) (append_assoc (sent_by plain r) (m ∷ []) ms) in
    all_are_sent r next ms (omega (arith, low, length-set plain.replicas r s)) (omega (arith, kept, length-set plain.sent r own))
    ∙ ap (λ l. with_parts plain l (slice_set next.sent r (sent_by next r ++ ms))) replicas ∙ ap (with_parts plain (slice_set plain.replicas r (fold with_own s ms))) sent

-- ---- a node has changed

module _ (nodes : List NotedNode) (rows : List (List (List ℕ))) (plain : PlainWorld) (shows : Shows nodes rows plain) (r : ℕ) (node : NotedNode) (stands : StandsAt nodes r node) (left : NotedNode) (same : SameNode node left) where
  windows_stay : left.inner.w ≡ plain.w
  windows_stay = same.w ∙ w_shown nodes rows plain shows r node stands

  limits_stay : left.inner.limit ≡ plain.limit
  limits_stay = same.limit ∙ limit_shown nodes rows plain shows r node stands

  -- a node comes to another state
  pub changed_shows : (after : State) → state_of left ≡ after → KeepsWorld plain (with_state plain r after) → Shows (slice_set nodes r left) rows (with_state plain r after)
  changed_shows after is keeps = record {
    is_world = keeps.is_world;
    states = map-set state_of nodes r left ∙ ap (λ l. slice_set l r (state_of left)) shows.states ∙ ap (slice_set plain.replicas r) is;
    windows = All-set (λ x. x.inner.w ≡ plain.w) nodes r left windows_stay shows.windows;
    limits = All-set (λ x. x.inner.limit ≡ plain.limit) nodes r left limits_stay shows.limits;
    frames = shows.frames ∙ ap (λ epoch. map (map (frame_of Two (size_of plain) epoch)) plain.sent) (sym keeps.epoch)
        ∙ ap (λ n. map (map (frame_of Two n (epoch_in (with_state plain r after)))) plain.sent) (sym keeps.size);
  }

  -- a node stays in its state
  pub same_shows : state_of left ≡ state_of node → Shows (slice_set nodes r left) rows plain
  same_shows is = record {
    is_world = shows.is_world;
    states = map-set_same state_of nodes r left node (is ∙ ap state_of stands.at) ∙ shows.states;
    windows = All-set (λ x. x.inner.w ≡ plain.w) nodes r left windows_stay shows.windows;
    limits = All-set (λ x. x.inner.limit ≡ plain.limit) nodes r left limits_stay shows.limits;
    frames = shows.frames;
  }

  -- a node sends messages, whose frames stand behind the others
  pub sent_shows : (ms : List Message) → state_of left ≡ fold with_own (state_of node) ms → KeepsWorld plain (with_all_sent r plain ms)
      → Shows (slice_set nodes r left) (slice_set rows r (slice_index_or rows r [] ++ map (frame_of Two node.inner.n node.inner.epoch) ms)) (with_all_sent r plain ms)
  sent_shows ms is keeps =
      let after = fold with_own (replica_of plain r) ms in
      let n = size_of plain in
      let epoch = epoch_in plain in
      let frame : ℕ → ℕ → Message → List ℕ = λ n epoch. frame_of Two n epoch in
      let inside = within nodes rows plain shows r node stands in
      let low : r < length plain.sent = omega (arith, shows.is_world.of_each, inside) in
      let all = all_are_sent r plain ms inside low in
      let sent_all = with_parts plain (slice_set plain.replicas r after) (slice_set plain.sent r (sent_by plain r ++ ms)) in
      let keeps_all : KeepsWorld plain sent_all = subst (KeepsWorld plain) all keeps in
      let row : slice_index_or rows r [] ≡ map (frame n epoch) (sent_by plain r) = ap (λ l. slice_index_or l r []) shows.frames ∙ get_or-map (map (frame n epoch)) plain.sent r [] [] low in
      let more : slice_index_or rows r [] ++ map (frame node.inner.n node.inner.epoch) ms ≡ map (frame n epoch) (sent_by plain r ++ ms) =
      ap (λ x. x ++ map (frame node.inner.n node.inner.epoch) ms) row ∙ ap (λ k. map (frame n epoch) (sent_by plain r) ++ map (frame k node.inner.epoch) ms) (n_shown nodes rows plain shows r node stands) ∙ ap (λ e. map (frame n epoch) (sent_by plain r) ++ map (frame n e) ms) (epoch_shown nodes rows plain shows r node stands) ∙ sym (map-append (frame n epoch) (sent_by plain r) ms) in
      subst (Shows (slice_set nodes r left) (slice_set rows r (slice_index_or rows r [] ++ map (frame node.inner.n node.inner.epoch) ms))) (sym all) (record {
        is_world = keeps_all.is_world;
        states = map-set state_of nodes r left ∙ ap (λ l. slice_set l r (state_of left)) shows.states
            ∙ ap (slice_set plain.replicas r) (is ∙ ap (λ s. fold with_own s ms) (sym (state_shown nodes rows plain shows r node stands)));
        windows = All-set (λ x. x.inner.w ≡ plain.w) nodes r left windows_stay shows.windows;
        limits = All-set (λ x. x.inner.limit ≡ plain.limit) nodes r left limits_stay shows.limits;
        frames = ap (λ l. slice_set l r (slice_index_or rows r [] ++ map (frame node.inner.n node.inner.epoch) ms)) shows.frames
            ∙ ap (slice_set (map (map (frame n epoch)) plain.sent) r) more
            ∙ sym (map-set (map (frame n epoch)) plain.sent r (sent_by plain r ++ ms))
            ∙ ap (λ k. map (map (frame k epoch)) (slice_set plain.sent r (sent_by plain r ++ ms))) (sym keeps_all.size)
            ∙ ap (λ e. map (map (frame (size_of sent_all) e)) (slice_set plain.sent r (sent_by plain r ++ ms))) (sym keeps_all.epoch);
      })
