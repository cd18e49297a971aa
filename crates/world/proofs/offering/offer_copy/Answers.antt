use Rattle.std.proofs.Common.{◌∷◌, [], zero, List, true, refl, arith, sym, ap, subst, ◌∙◌}
use Rattle.op_base.specs.declared.outcome.Step.{Step}
use Rattle.causal_model.specs.Receiving.{refusal_of, steps, with_early}
use Rattle.world_model.specs.Offering.{Offered}
use Rattle.world.specs.Growing.{NotesOffers}
use Rattle.world.specs.Shows.{state_of}
use Rattle.world.proofs.Offers.{one_is_accepted}
use Rattle.world.proofs.Growing.{no_offers, one_offer}
use Rattle.world.proofs.offering.offer_copy.Goals as goal
use Rattle.world.proofs.offering.offer_copy.Goals.{After-accept_behind}

pub accept_behind-requires-clause-unrefused : goal.accept_behind-requires-clause-unrefused
accept_behind-requires-clause-unrefused c = λ s stands.
    ap (refusal_of c.args.node.now.inner.w s) c.requires.copy ∙ c.requires.unrefused s stands

-- the steps that follow
abbrev made_of : (c : After-accept_behind) → List Step
made_of c = (steps c.args.node.now.inner.w (with_early (state_of c.args.node.now) c.args.copy)).0

pub returns-clause-made : goal.returns-clause-made
returns-clause-made c =
    let node = c.args.node.now in
    let made = c.args.made.now in
    let m = c.args._message.now in
    let here = (goal.at.returns-clause-made c).After-accept_behind in
    let unrefused = c.requires.unrefused (state_of node) node.stands in
    let more = one_is_accepted node c.accept_behind.new.self made.steps.items made.kept m c.args.copy (made_of here) c.requires.copy c.requires.fits c.requires.carried
    unrefused refl c.accept_behind.ensures.first c.in_ok-accept_behind.ensures.noted in
    ap (λ (l : List Step). let o : Offered = record { state = state_of c.accept_behind.new.self; steps = l; kept = true } in o) c.in_ok-accept_behind.ensures.steps ∙ more

pub returns-clause-noted : goal.returns-clause-noted
returns-clause-noted c =
    let m = c.args._message.now in
    one_offer (m ∷ []) m c.args.copy (made_of (goal.at.returns-clause-noted c).After-accept_behind) c.args.node.now.journal.notes c.accept_behind.new.self.journal.notes (zero, omega arith, refl) c.requires.copy c.in_ok-accept_behind.ensures.noted

pub returns-in_err-accept_behind-clause-noted : goal.returns-in_err-accept_behind-clause-noted
returns-in_err-accept_behind-clause-noted c =
    let m = c.args._message.now in
    let notes = c.args.node.now.journal.notes in
    subst (NotesOffers (m ∷ []) notes) (sym c.in_err-accept_behind.ensures.kept) (no_offers (m ∷ []) notes)
