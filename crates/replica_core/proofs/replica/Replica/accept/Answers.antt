use Rattle.std.proofs.Common.{subst, ◌∙◌, ap}
use Rattle.causal_model.specs.Receiving.{steps, with_early}
use Rattle.op_base.specs.declared.outcome.Step.{Step}
use Rattle.std.proofs.Common.{List, ◌++◌}
use Rattle.replica_core.specs.Steps.{HasAdded}
use Rattle.replica_core.proofs.Bounds.{is_bounded}
use Rattle.replica_core.proofs.Stands.{unchanged_stands}
use Rattle.replica_core.proofs.replica.Replica.accept.Goals as goal

pub accept_reserved-requires : goal.accept_reserved-requires
accept_reserved-requires c = record { ready = c.in_ok-most.ensures.ready }

pub returns-clause-steps : goal.returns-clause-steps
returns-clause-steps c = λ s stands.
    let r = c.args.self.now in
    let same = c.reserve_accept.ensures.unchanged in
    let early = with_early s c.args.message in
    let added = subst (λ w. HasAdded w early c.reserve_accept.new.steps.items c.accept_reserved.new.steps.items c.accept_reserved.new.self) same.settings.w
    (c.accept_reserved.ensures.steps s (unchanged_stands r c.reserve_accept.new.self s same stands)) in
    record {
      are = c.from_vec.ensures ∙ added.are ∙ ap (λ (before : List Step). before ++ (steps r.w early).0) (c.reserve_accept.ensures.steps ∙ c.new-steps.ensures.items);
      stands = added.stands;
    }

pub returns-in_err-most-clause-bounded : goal.returns-in_err-most-clause-bounded
returns-in_err-most-clause-bounded c = is_bounded _

pub returns-clause-bounded : goal.returns-clause-bounded
returns-clause-bounded c = is_bounded _
