use Rattle.std.proofs.Common.{◌≡◌, ℕ, List, take, length, refl, sym, ap, subst, ◌∙◌, IsTrue, false, arith}
use Rattle.std.proofs.Math.Seq.{take-length}
use Rattle.op_base.specs.Message.{fits}
use Rattle.op_base.specs.declared.message.Message.{Message}
use Rattle.op_base.specs.declared.outcome.Step.{Step}
use Rattle.causal_model.specs.Counts.{is_carried}
use Rattle.world_model.specs.Offering.{Offered, offered}
use Rattle.world.specs.Shows.{state_of}
use Rattle.world.specs.Steps.{OffersSome, offered_at}
use Rattle.world.proofs.Offers.{on_err, same_twice, one_offered, some_offered}
use Rattle.world.proofs.Growing.{no_offers, offers_more}
use Rattle.world.proofs.offering.offer_messages.Goals as goal

pub loop-message-init : goal.loop-message-init
loop-message-init c = record {
  so_far = ap (λ (x : List Step). let o : Offered = record { state = state_of c.args.node.now; steps = x; kept = false } in o) c.new.ensures.items;
  same = record { first = refl; n = refl; w = refl; limit = refl; epoch = refl };
  noted = no_offers c.args.messages.now c.args.node.now.journal.notes;
}

pub offer_one-requires-clause-fits : goal.offer_one-requires-clause-fits
offer_one-requires-clause-fits c =
    let m = c.message-item.result in
    let fit = subst (λ (x : Message). IsTrue (fits c.args.node.now.inner.n x)) (sym c.message-item.is) (c.requires.fit c.loop-message.message-index m c.loop-message-test.true) in
    subst (λ (n : ℕ). IsTrue (fits n m)) (sym c.loop-message.invariant.same.n) fit

pub offer_one-requires-clause-carried : goal.offer_one-requires-clause-carried
offer_one-requires-clause-carried c =
    let m = c.message-item.result in
    let carried = subst (λ (x : Message). IsTrue (is_carried c.args.node.now.inner.limit x)) (sym c.message-item.is) (c.requires.carried c.loop-message.message-index m c.loop-message-test.true) in
    subst (λ (limit : ℕ). IsTrue (is_carried limit m)) (sym c.loop-message.invariant.same.limit) carried

pub returns-in_err-offer_one-clause-some : goal.returns-in_err-offer_one-clause-some
returns-in_err-offer_one-clause-some c =
    let node = c.args.node.now in
    let so = offered_at c.loop-message.node c.loop-message.made in
    on_err c.from_residual.result (OffersSome node.inner.w (state_of node) c.args.messages.now c.offer_one.new.node)
    (some_offered node.inner.w c.loop-message.node.inner.w (state_of node) c.args.messages.now c.loop-message.message-index c.message-item.result c.loop-message-test.true c.message-item.is so c.loop-message.invariant.so_far c.loop-message.invariant.same.w c.offer_one.new.node c.in_err-offer_one.ensures.some)

pub returns-in_err-offer_one-clause-same : goal.returns-in_err-offer_one-clause-same
returns-in_err-offer_one-clause-same c = same_twice c.args.node.now c.loop-message.node c.offer_one.new.node c.loop-message.invariant.same c.offer_one.ensures.same

pub loop-message-preserved : goal.loop-message-preserved
loop-message-preserved c =
    let node = c.args.node.now in
    let so = offered_at c.loop-message.node c.loop-message.made in
    record {
      so_far = c.in_ok-offer_one.ensures.made ∙ one_offered node.inner.w c.loop-message.node.inner.w (state_of node) c.args.messages.now c.loop-message.message-index c.message-item.result c.loop-message-test.true c.message-item.is so c.loop-message.invariant.so_far c.loop-message.invariant.same.w;
      same = same_twice node c.loop-message.node c.offer_one.new.node c.loop-message.invariant.same c.offer_one.ensures.same;
      noted = offers_more c.args.messages.now c.loop-message.message-index c.message-item.result c.loop-message-test.true c.message-item.is node.journal.notes c.loop-message.node.journal.notes c.offer_one.new.node.journal.notes c.loop-message.invariant.noted c.offer_one.ensures.noted;
    }

pub returns-clause-made : goal.returns-clause-made
returns-clause-made c =
    let node = c.args.node.now in
    let ms = c.args.messages.now in
    let all : c.loop-message.message-index ≡ length ms = omega arith in
    c.loop-message.invariant.so_far ∙ ap (λ (i : ℕ). offered node.inner.w (state_of node) (take i ms)) all ∙ ap (offered node.inner.w (state_of node)) (take-length ms)

pub returns-clause-same : goal.returns-clause-same
returns-clause-same c = c.loop-message.invariant.same

pub returns-in_err-offer_one-clause-noted : goal.returns-in_err-offer_one-clause-noted
returns-in_err-offer_one-clause-noted c =
    offers_more c.args.messages.now c.loop-message.message-index c.message-item.result c.loop-message-test.true c.message-item.is c.args.node.now.journal.notes c.loop-message.node.journal.notes c.offer_one.new.node.journal.notes c.loop-message.invariant.noted c.offer_one.ensures.noted

pub returns-clause-noted : goal.returns-clause-noted
returns-clause-noted c = c.loop-message.invariant.noted
