use Rattle.std.proofs.Common.{List, map, sym, ap, subst, ◌∙◌}
use Rattle.std.specs.Vec.{with_items}
use Rattle.std.proofs.lemmas.List.{with_items_is}
use Rattle.std.proofs.Math.Logic.{∥∥₁_map}
use Rattle.world_model.specs.Offering.{Offered}
use Rattle.world.specs.Growing.{settings_of}
use Rattle.world.specs.Shows.{NotedNode, Shows}
use Rattle.world.specs.Steps.{OffersBetween, CanBeOffered}
use Rattle.world.proofs.Outboxes.{can_be_offered, own_outbox, own_resent, outbox_offers, offers_made, offers_world, offers_some, offers_leave}
use Rattle.world.proofs.Growing.{outbox_grows, outbox_keeps, same_settings}
use Rattle.world.proofs.world.World.offer_outbox.Goals as goal

pub returns-then-r-k-clause-made : goal.returns-then-r-k-clause-made
returns-then-r-k-clause-made c plain shows =
    let none = own_outbox plain c.args.r c.args.k c.if-r-k.true in
    record { steps = c.new.ensures.items ∙ sym (ap (λ (o : Offered). o.steps) none); kept = sym (ap (λ (o : Offered). o.kept) none) }

pub returns-then-r-k-clause-world : goal.returns-then-r-k-clause-world
returns-then-r-k-clause-world c plain shows =
    subst (Shows c.args.self.now.nodes.items (map (λ row. row.items) c.args.self.now.sent.items)) (sym (own_resent plain c.args.r c.args.k c.if-r-k.true)) shows

pub offer_between-requires-clause-fit : goal.offer_between-requires-clause-fit
offer_between-requires-clause-fit c =
    ∥∥₁_map c.args.self.now.shows (λ x. subst (λ (l : List NotedNode). CanBeOffered l c.args.r c.args.k) (sym c.deref_mut.ensures.value) (can_be_offered c.args.self.now.nodes.items (map (λ row. row.items) c.args.self.now.sent.items) x.0 x.1 c.args.r c.args.k c.requires.to c.requires.of))

pub invariant_of-self : goal.invariant_of-self
invariant_of-self c = record {
  shows = ∥∥₁_map c.args.self.now.shows (λ x. offers_leave x.0 c.args.r c.args.k c.offer_between.result _
      (outbox_offers c.args.self.now.nodes.items (map (λ row. row.items) c.args.self.now.sent.items) x.0 x.1 c.args.r c.args.k c.requires.to c.requires.of (with_items c.args.self.now.nodes c.offer_between.new.nodes).items c.offer_between.result (subst (λ (l : List NotedNode). OffersBetween c.args.self.now.nodes.items c.args.r c.args.k c.offer_between.result l) (sym (with_items_is c.args.self.now.nodes c.offer_between.new.nodes (c.offer_between.auto.nodes ∙ c.deref_mut.ensures.len)))
      (subst (λ (l : List NotedNode). OffersBetween l c.args.r c.args.k c.offer_between.result c.offer_between.new.nodes) c.deref_mut.ensures.value c.offer_between.ensures.offered))));
}

pub returns-clause-made : goal.returns-clause-made
returns-clause-made c plain shows =
    offers_made plain c.args.r c.args.k c.offer_between.result _
    (outbox_offers c.args.self.now.nodes.items (map (λ row. row.items) c.args.self.now.sent.items) plain shows c.args.r c.args.k c.requires.to c.requires.of (with_items c.args.self.now.nodes c.offer_between.new.nodes).items c.offer_between.result (subst (λ (l : List NotedNode). OffersBetween c.args.self.now.nodes.items c.args.r c.args.k c.offer_between.result l) (sym (with_items_is c.args.self.now.nodes c.offer_between.new.nodes (c.offer_between.auto.nodes ∙ c.deref_mut.ensures.len)))
    (subst (λ (l : List NotedNode). OffersBetween l c.args.r c.args.k c.offer_between.result c.offer_between.new.nodes) c.deref_mut.ensures.value c.offer_between.ensures.offered)))

pub returns-clause-world : goal.returns-clause-world
returns-clause-world c plain shows =
    offers_world plain c.args.r c.args.k c.offer_between.result _
    (outbox_offers c.args.self.now.nodes.items (map (λ row. row.items) c.args.self.now.sent.items) plain shows c.args.r c.args.k c.requires.to c.requires.of (with_items c.args.self.now.nodes c.offer_between.new.nodes).items c.offer_between.result (subst (λ (l : List NotedNode). OffersBetween c.args.self.now.nodes.items c.args.r c.args.k c.offer_between.result l) (sym (with_items_is c.args.self.now.nodes c.offer_between.new.nodes (c.offer_between.auto.nodes ∙ c.deref_mut.ensures.len)))
    (subst (λ (l : List NotedNode). OffersBetween l c.args.r c.args.k c.offer_between.result c.offer_between.new.nodes) c.deref_mut.ensures.value c.offer_between.ensures.offered)))

pub returns-clause-some : goal.returns-clause-some
returns-clause-some c plain shows =
    offers_some plain c.args.r c.args.k c.offer_between.result _
    (outbox_offers c.args.self.now.nodes.items (map (λ row. row.items) c.args.self.now.sent.items) plain shows c.args.r c.args.k c.requires.to c.requires.of (with_items c.args.self.now.nodes c.offer_between.new.nodes).items c.offer_between.result (subst (λ (l : List NotedNode). OffersBetween c.args.self.now.nodes.items c.args.r c.args.k c.offer_between.result l) (sym (with_items_is c.args.self.now.nodes c.offer_between.new.nodes (c.offer_between.auto.nodes ∙ c.deref_mut.ensures.len)))
    (subst (λ (l : List NotedNode). OffersBetween l c.args.r c.args.k c.offer_between.result c.offer_between.new.nodes) c.deref_mut.ensures.value c.offer_between.ensures.offered)))

pub returns-clause-grown : goal.returns-clause-grown
returns-clause-grown c =
    let world = c.args.self.now in
    let nodes = world.nodes.items in
    let r = c.args.r in
    let k = c.args.k in
    let result = c.offer_between.result in
    let left = (with_items world.nodes c.offer_between.new.nodes).items in
    let there = subst (λ (l : List NotedNode). OffersBetween l r k result c.offer_between.new.nodes) c.deref_mut.ensures.value c.offer_between.ensures.offered in
    let between = subst (λ (l : List NotedNode). OffersBetween nodes r k result l) (sym (with_items_is world.nodes c.offer_between.new.nodes (c.offer_between.auto.nodes ∙ c.deref_mut.ensures.len))) there in
    record {
      journals = outbox_grows nodes left r k result c.requires.to c.requires.of (∥∥₁_map world.shows (λ x. can_be_offered nodes (map (λ row. row.items) world.sent.items) x.0 x.1 r k c.requires.to c.requires.of)) between;
      firsts = outbox_keeps (λ x. x.first) (λ a b e. e.first) nodes left r k result c.requires.to c.requires.of between;
      settings = outbox_keeps settings_of same_settings nodes left r k result c.requires.to c.requires.of between;
    }
