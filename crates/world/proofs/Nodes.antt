-- What a world shows of a node.
use Rattle.std.proofs.Common.{◌≡◌, ℕ, ◌<◌, ◌≤◌, ◌^◌, ◌&&◌, nat_lt, nat_le, List, length, map, slice_index_or, sym, ap, subst, ◌∙◌, arith}
use Rattle.std.proofs.lemmas.Bool.{and_parts, leb-true}
use Rattle.std.proofs.lemmas.List.{length-map, get_or-map}
use Rattle.std.proofs.lemmas.Simd.{map-map}
use Rattle.std.proofs.lemmas.List.Elements.{All-get_or}
use Rattle.op_base.specs.Message.{id_of}
use Rattle.op_base.specs.declared.message.Message.{Message}
use Rattle.causal_model.specs.History.{epoch_of}
use Rattle.causal_model.specs.Log.{log_of, kept_log, message_of}
use Rattle.causal_model.specs.Covering.{store_keeps, store_covers}
use Rattle.causal_model.specs.State.{State, start}
use Rattle.causal_model.proofs.Events.Histories.{IsLimited-from_test}
use Rattle.replica_core.specs.Numbers.{is_from_to}
use Rattle.world_model.specs.World.{PlainWorld, size_of, replica_of, epoch_in}
use Rattle.world_model.specs.Showing.{log_at}
use Rattle.world.specs.Shows.{NotedNode, state_of, Shows}

-- a node stands at a place
pub record StandsAt (nodes : List NotedNode) (r : ℕ) (node : NotedNode) : Type 0 where
  pub low : r < length nodes
  pub at : node ≡ slice_index_or nodes r node

module _ (nodes : List NotedNode) (rows : List (List (List ℕ))) (plain : PlainWorld) (shows : Shows nodes rows plain) where
  pub size_shown : length nodes ≡ size_of plain
  size_shown = sym (length-map nodes state_of) ∙ ap length shows.states

  pub member_shown : (r : ℕ) → r < length nodes → r < size_of plain
  member_shown r l = omega (arith, l, size_shown)

  module _ (r : ℕ) (node : NotedNode) (stands : StandsAt nodes r node) where
    pub within : r < size_of plain
    within = omega (arith, stands.low, size_shown)

    pub state_shown : replica_of plain r ≡ state_of node
    state_shown = ap (λ l. slice_index_or l r (start 0 0)) (sym shows.states) ∙ get_or-map state_of nodes r node (start 0 0) stands.low ∙ ap state_of (sym stands.at)

    pub w_shown : node.inner.w ≡ plain.w
    w_shown = let P : NotedNode → Type 0 = λ x. x.inner.w ≡ plain.w in subst P (sym stands.at) (All-get_or P nodes r node stands.low shows.windows)

    pub limit_shown : node.inner.limit ≡ plain.limit
    limit_shown = let P : NotedNode → Type 0 = λ x. x.inner.limit ≡ plain.limit in subst P (sym stands.at) (All-get_or P nodes r node stands.low shows.limits)

    pub n_shown : node.inner.n ≡ size_of plain
    n_shown = sym node.stands.of_store ∙ ap (λ s. s.history.present.n) (sym state_shown) ∙ (shows.is_world.replicas r within).of_store

    pub epoch_shown : node.inner.epoch ≡ epoch_in plain
    epoch_shown = sym node.stands.in_epoch ∙ ap (λ s. epoch_of s.history) (sym state_shown) ∙ (shows.is_world.replicas r within).in_epoch

    -- what goes by the window, the limit and the state is at the node as at the plain replica
    pub alike : {X : Type 0} (f : ℕ → ℕ → State → X) → f node.inner.w node.inner.limit (state_of node) ≡ f plain.w plain.limit (replica_of plain r)
    alike f = ap (λ w. f w node.inner.limit (state_of node)) w_shown ∙ ap (λ limit. f plain.w limit (state_of node)) limit_shown ∙ ap (f plain.w plain.limit) (sym state_shown)

    -- the log's ids are those of the plain replica's
    pub log_shown : map (λ e. id_of (message_of e)) node.inner.log.entries ≡ log_at plain r
    log_shown =
        let h = (state_of node).history in
        let kept : ℕ → ℕ → List Message = λ n me. kept_log store_keeps store_covers n me h.present.messages in
        sym (map-map id_of message_of node.inner.log.entries) ∙ ap (map id_of) node.stands.log.holds
        ∙ ap (λ n. map id_of (kept n node.inner.me)) (sym node.stands.of_store) ∙ ap (λ me. map id_of (kept h.present.n me)) (sym node.stands.of_member)
        ∙ ap (λ s. map id_of (log_of s.history)) (sym state_shown)

-- an epoch is one that frames have
pub epoch_is_low : (node : NotedNode) → node.inner.epoch ≤ 65535
epoch_is_low node = omega (arith, node.stands.in_epoch, (IsLimited-from_test node.inner.limit (state_of node).history node.stands.is_state.is_limited).epochs)

-- a limit is a number of 32 bits
pub limit_is_small : (node : NotedNode) → node.inner.limit < 2 ^ 32
limit_is_small node =
    let r = node.inner in
    let parts = and_parts (is_from_to 1 16 r.n && is_from_to 1 64 r.w && is_from_to 1 1000000 r.limit) (nat_lt r.me r.n) r.numbers in
    let within = and_parts (is_from_to 1 16 r.n && is_from_to 1 64 r.w) (is_from_to 1 1000000 r.limit) parts.0 in
    omega (arith, leb-true r.limit 1000000 (and_parts (nat_le 1 r.limit) (nat_le r.limit 1000000) within.1).1)
