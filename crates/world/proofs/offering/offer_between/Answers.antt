use Rattle.std.proofs.Common.{◌≡◌, ◌-◌, ◌++◌, List, slice_index_or, slice_set, sym, ap, ◌∙◌, arith}
use Rattle.std.proofs.lemmas.List.{set-append_left, set-append_right}
use Rattle.replica_core.specs.declared.replica.Replica.{Replica}
use Rattle.world.specs.Shows.{NotedNode}
use Rattle.world.proofs.Offers.{own_between, of_store_between, fit_between, carried_between, offers_between, offers_to, stands_left, stands_right}
use Rattle.world.proofs.offering.offer_between.Goals as goal

pub offer_lacking-requires-clause-fit : goal.offer_lacking-requires-clause-fit
offer_lacking-requires-clause-fit c =
    let nodes = c.args.nodes.now in
    let low = c.split_at_mut-low.result.0.now in
    let high = c.split_at_mut-low.result.1.now in
    fit_between nodes c.args.r c.args.k (slice_index_or low c.args.r c.index-low-r.result) (slice_index_or high 0 c.index-high-0.result)
    (stands_left nodes low high c.split_at_mut-low.ensures.value c.args.r c.index-low-r.result (omega (arith, c.if-r-k.true, c.split_at_mut-low.ensures.front_len)))
    (stands_right nodes low high c.split_at_mut-low.ensures.value c.args.k c.index-high-0.result c.split_at_mut-low.ensures.front_len c.requires.of)
    c.replica.result.now.outbox.messages (ap (λ (x : Replica). x.outbox.messages) c.replica.ensures) c.requires.fit

pub offer_lacking-requires-clause-carried : goal.offer_lacking-requires-clause-carried
offer_lacking-requires-clause-carried c =
    let nodes = c.args.nodes.now in
    let low = c.split_at_mut-low.result.0.now in
    let high = c.split_at_mut-low.result.1.now in
    carried_between nodes c.args.r c.args.k (slice_index_or low c.args.r c.index-low-r.result) (slice_index_or high 0 c.index-high-0.result)
    (stands_left nodes low high c.split_at_mut-low.ensures.value c.args.r c.index-low-r.result (omega (arith, c.if-r-k.true, c.split_at_mut-low.ensures.front_len)))
    (stands_right nodes low high c.split_at_mut-low.ensures.value c.args.k c.index-high-0.result c.split_at_mut-low.ensures.front_len c.requires.of)
    c.replica.result.now.outbox.messages (ap (λ (x : Replica). x.outbox.messages) c.replica.ensures) c.requires.fit

pub offer_lacking-requires-else-r-k-clause-fit : goal.offer_lacking-requires-else-r-k-clause-fit
offer_lacking-requires-else-r-k-clause-fit c =
    let nodes = c.args.nodes.now in
    let low = c.split_at_mut-low-else-r-k.result.0.now in
    let high = c.split_at_mut-low-else-r-k.result.1.now in
    fit_between nodes c.args.r c.args.k (slice_index_or high 0 c.index-high-0-else-r-k.result) (slice_index_or low c.args.k c.index-low-k.result)
    (stands_right nodes low high c.split_at_mut-low-else-r-k.ensures.value c.args.r c.index-high-0-else-r-k.result c.split_at_mut-low-else-r-k.ensures.front_len c.requires.to)
    (stands_left nodes low high c.split_at_mut-low-else-r-k.ensures.value c.args.k c.index-low-k.result (omega (arith, c.if-r-k.false, c.requires.apart, c.split_at_mut-low-else-r-k.ensures.front_len)))
    c.replica-else-r-k.result.now.outbox.messages (ap (λ (x : Replica). x.outbox.messages) c.replica-else-r-k.ensures) c.requires.fit

pub offer_lacking-requires-else-r-k-clause-carried : goal.offer_lacking-requires-else-r-k-clause-carried
offer_lacking-requires-else-r-k-clause-carried c =
    let nodes = c.args.nodes.now in
    let low = c.split_at_mut-low-else-r-k.result.0.now in
    let high = c.split_at_mut-low-else-r-k.result.1.now in
    carried_between nodes c.args.r c.args.k (slice_index_or high 0 c.index-high-0-else-r-k.result) (slice_index_or low c.args.k c.index-low-k.result)
    (stands_right nodes low high c.split_at_mut-low-else-r-k.ensures.value c.args.r c.index-high-0-else-r-k.result c.split_at_mut-low-else-r-k.ensures.front_len c.requires.to)
    (stands_left nodes low high c.split_at_mut-low-else-r-k.ensures.value c.args.k c.index-low-k.result (omega (arith, c.if-r-k.false, c.requires.apart, c.split_at_mut-low-else-r-k.ensures.front_len)))
    c.replica-else-r-k.result.now.outbox.messages (ap (λ (x : Replica). x.outbox.messages) c.replica-else-r-k.ensures) c.requires.fit

pub offer_lacking-requires-clause-own : goal.offer_lacking-requires-clause-own
offer_lacking-requires-clause-own c =
    let nodes = c.args.nodes.now in
    let low = c.split_at_mut-low.result.0.now in
    let high = c.split_at_mut-low.result.1.now in
    own_between nodes c.args.r c.args.k (slice_index_or low c.args.r c.index-low-r.result) (slice_index_or high 0 c.index-high-0.result)
    (stands_left nodes low high c.split_at_mut-low.ensures.value c.args.r c.index-low-r.result (omega (arith, c.if-r-k.true, c.split_at_mut-low.ensures.front_len)))
    (stands_right nodes low high c.split_at_mut-low.ensures.value c.args.k c.index-high-0.result c.split_at_mut-low.ensures.front_len c.requires.of)
    c.replica.result.now.outbox.messages (ap (λ (x : Replica). x.outbox.messages) c.replica.ensures) c.requires.fit

pub offer_lacking-requires-clause-of : goal.offer_lacking-requires-clause-of
offer_lacking-requires-clause-of c =
    let nodes = c.args.nodes.now in
    let low = c.split_at_mut-low.result.0.now in
    let high = c.split_at_mut-low.result.1.now in
    of_store_between nodes c.args.r c.args.k (slice_index_or low c.args.r c.index-low-r.result) (slice_index_or high 0 c.index-high-0.result)
    (stands_left nodes low high c.split_at_mut-low.ensures.value c.args.r c.index-low-r.result (omega (arith, c.if-r-k.true, c.split_at_mut-low.ensures.front_len)))
    (stands_right nodes low high c.split_at_mut-low.ensures.value c.args.k c.index-high-0.result c.split_at_mut-low.ensures.front_len c.requires.of)
    c.replica.result.now.outbox.messages (ap (λ (x : Replica). x.outbox.messages) c.replica.ensures) c.requires.fit

pub offer_lacking-requires-else-r-k-clause-own : goal.offer_lacking-requires-else-r-k-clause-own
offer_lacking-requires-else-r-k-clause-own c =
    let nodes = c.args.nodes.now in
    let low = c.split_at_mut-low-else-r-k.result.0.now in
    let high = c.split_at_mut-low-else-r-k.result.1.now in
    own_between nodes c.args.r c.args.k (slice_index_or high 0 c.index-high-0-else-r-k.result) (slice_index_or low c.args.k c.index-low-k.result)
    (stands_right nodes low high c.split_at_mut-low-else-r-k.ensures.value c.args.r c.index-high-0-else-r-k.result c.split_at_mut-low-else-r-k.ensures.front_len c.requires.to)
    (stands_left nodes low high c.split_at_mut-low-else-r-k.ensures.value c.args.k c.index-low-k.result (omega (arith, c.if-r-k.false, c.requires.apart, c.split_at_mut-low-else-r-k.ensures.front_len)))
    c.replica-else-r-k.result.now.outbox.messages (ap (λ (x : Replica). x.outbox.messages) c.replica-else-r-k.ensures) c.requires.fit

pub offer_lacking-requires-else-r-k-clause-of : goal.offer_lacking-requires-else-r-k-clause-of
offer_lacking-requires-else-r-k-clause-of c =
    let nodes = c.args.nodes.now in
    let low = c.split_at_mut-low-else-r-k.result.0.now in
    let high = c.split_at_mut-low-else-r-k.result.1.now in
    of_store_between nodes c.args.r c.args.k (slice_index_or high 0 c.index-high-0-else-r-k.result) (slice_index_or low c.args.k c.index-low-k.result)
    (stands_right nodes low high c.split_at_mut-low-else-r-k.ensures.value c.args.r c.index-high-0-else-r-k.result c.split_at_mut-low-else-r-k.ensures.front_len c.requires.to)
    (stands_left nodes low high c.split_at_mut-low-else-r-k.ensures.value c.args.k c.index-low-k.result (omega (arith, c.if-r-k.false, c.requires.apart, c.split_at_mut-low-else-r-k.ensures.front_len)))
    c.replica-else-r-k.result.now.outbox.messages (ap (λ (x : Replica). x.outbox.messages) c.replica-else-r-k.ensures) c.requires.fit

pub returns-then-r-k : goal.returns-then-r-k
returns-then-r-k c =
    let nodes = c.args.nodes.now in
    let low = c.split_at_mut-low.result.0.now in
    let high = c.split_at_mut-low.result.1.now in
    record {
      offered = offers_between nodes c.args.r c.args.k (slice_index_or low c.args.r c.index-low-r.result) (slice_index_or high 0 c.index-high-0.result)
          (stands_left nodes low high c.split_at_mut-low.ensures.value c.args.r c.index-low-r.result (omega (arith, c.if-r-k.true, c.split_at_mut-low.ensures.front_len)))
          (stands_right nodes low high c.split_at_mut-low.ensures.value c.args.k c.index-high-0.result c.split_at_mut-low.ensures.front_len c.requires.of)
          c.replica.result.now.outbox.messages (ap (λ (x : Replica). x.outbox.messages) c.replica.ensures)
          c.offer_lacking.result c.offer_lacking.new.node _
          (offers_to (slice_index_or low c.args.r c.index-low-r.result) c.offer_lacking.new.node c.replica.result.now.outbox.messages c.offer_lacking.result c.offer_lacking.ensures.made c.offer_lacking.ensures.some c.offer_lacking.ensures.same) c.offer_lacking.ensures.noted
          (sym (set-append_left low high c.args.r c.offer_lacking.new.node (omega (arith, c.if-r-k.true, c.split_at_mut-low.ensures.front_len))) ∙ ap (λ (l : List NotedNode). slice_set l c.args.r c.offer_lacking.new.node) (sym c.split_at_mut-low.ensures.value));
    }

pub returns-else-r-k : goal.returns-else-r-k
returns-else-r-k c =
    let nodes = c.args.nodes.now in
    let low = c.split_at_mut-low-else-r-k.result.0.now in
    let high = c.split_at_mut-low-else-r-k.result.1.now in
    let none : c.args.r - c.args.r ≡ 0 = omega arith in
    let new = c.offer_lacking-else-r-k.new.node in
    record {
      offered = offers_between nodes c.args.r c.args.k (slice_index_or high 0 c.index-high-0-else-r-k.result) (slice_index_or low c.args.k c.index-low-k.result)
          (stands_right nodes low high c.split_at_mut-low-else-r-k.ensures.value c.args.r c.index-high-0-else-r-k.result c.split_at_mut-low-else-r-k.ensures.front_len c.requires.to)
          (stands_left nodes low high c.split_at_mut-low-else-r-k.ensures.value c.args.k c.index-low-k.result (omega (arith, c.if-r-k.false, c.requires.apart, c.split_at_mut-low-else-r-k.ensures.front_len)))
          c.replica-else-r-k.result.now.outbox.messages (ap (λ (x : Replica). x.outbox.messages) c.replica-else-r-k.ensures)
          c.offer_lacking-else-r-k.result new _
          (offers_to (slice_index_or high 0 c.index-high-0-else-r-k.result) new c.replica-else-r-k.result.now.outbox.messages c.offer_lacking-else-r-k.result c.offer_lacking-else-r-k.ensures.made c.offer_lacking-else-r-k.ensures.some c.offer_lacking-else-r-k.ensures.same) c.offer_lacking-else-r-k.ensures.noted
          (ap (λ i. low ++ slice_set high i new) (sym none) ∙ sym (set-append_right low high c.args.r c.args.r new c.split_at_mut-low-else-r-k.ensures.front_len (omega arith)) ∙ ap (λ (l : List NotedNode). slice_set l c.args.r new) (sym c.split_at_mut-low-else-r-k.ensures.value));
    }
