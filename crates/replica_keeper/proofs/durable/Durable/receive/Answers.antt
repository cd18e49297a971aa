use Rattle.std.proofs.Common.{sym, subst, ◌∙◌, IsTrue}
use Rattle.op_base.specs.Message.{fits}
use Rattle.causal_model.specs.Counts.{is_carried}
use Rattle.causal_model.specs.Journal.{receive_notes}
use Rattle.causal_model.specs.Receiving.{is_accepted, receive_rule}
use Rattle.causal_model.specs.declared.outcome.Receive.TheVariants as receive
use Rattle.replica_keeper.specs.Calls.{receive_list}
use Rattle.replica_keeper.specs.Durably.{numbers}
use Rattle.replica_keeper.proofs.Durables.{moments, listed, answered, kept_on, kept_alone, records_are, goes_on}
use Rattle.replica_keeper.proofs.durable.Durable.receive.Goals as goal

pub receive-requires-clause-open : goal.receive-requires-clause-open
receive-requires-clause-open g c =
    let it = c.args.self.now in
    (it.kept c.in-Some.node (sym c.take.ensures.value ∙ c.in-Some.is)).opened

pub receive-requires-clause-fits : goal.receive-requires-clause-fits
receive-requires-clause-fits g c =
    let it = c.args.self.now in
    let k = it.kept c.in-Some.node (sym c.take.ensures.value ∙ c.in-Some.is) in
    subst (λ x. IsTrue (fits x c.args.message)) (sym k.n) c.requires.fits

pub receive-requires-clause-carried : goal.receive-requires-clause-carried
receive-requires-clause-carried g c =
    let it = c.args.self.now in
    let k = it.kept c.in-Some.node (sym c.take.ensures.value ∙ c.in-Some.is) in
    subst (λ x. IsTrue (is_carried x c.args.message)) (sym k.limit) c.requires.carried

pub invariant_of-self-in-Ok : goal.invariant_of-self-in-Ok
invariant_of-self-in-Ok g c =
    let it = c.args.self.now in
    let node = c.in-Some.node in
    let of = numbers it.me it.n it.w it.limit in
    let is_node = sym c.take.ensures.value ∙ c.in-Some.is in
    let held = g.K.Keeper.held it.keeper in let synced = g.K.Keeper.synced it.keeper in
    let k = it.kept node is_node in
    record { in_range = it.in_range; kept = kept_alone of c.receive.new.node _ _ (kept_on of node c.receive.new.node held _ synced _ k c.receive.ensures.settings c.in-Ok.ensures.open) }

pub returns-in-Ok-clause-held : goal.returns-in-Ok-clause-held
returns-in-Ok-clause-held g c =
    let it = c.args.self.now in
    let node = c.in-Some.node in
    let of = numbers it.me it.n it.w it.limit in
    let is_node = sym c.take.ensures.value ∙ c.in-Some.is in
    let held = g.K.Keeper.held it.keeper in let synced = g.K.Keeper.synced it.keeper in
    let k = it.kept node is_node in
    records_are of c.receive.new.node _ _ (kept_on of node c.receive.new.node held _ synced _ k c.receive.ensures.settings c.in-Ok.ensures.open)

pub returns-in-Ok-clause-answer : goal.returns-in-Ok-clause-answer
returns-in-Ok-clause-answer g c =
    let it = c.args.self.now in
    let node = c.in-Some.node in
    let of = numbers it.me it.n it.w it.limit in
    let is_node = sym c.take.ensures.value ∙ c.in-Some.is in
    let held = g.K.Keeper.held it.keeper in let synced = g.K.Keeper.synced it.keeper in
    let k = it.kept node is_node in
    answered of it.node node held synced is_node k receive.NoMemory is_accepted (receive_notes c.args.message) (λ o. receive_rule o.w c.args.message) c.in-Ok.answer c.receive.new.node.journal.notes c.in-Ok.ensures.answer

pub returns-in-Ok-clause-list : goal.returns-in-Ok-clause-list
returns-in-Ok-clause-list g c =
    let it = c.args.self.now in
    let node = c.in-Some.node in
    let of = numbers it.me it.n it.w it.limit in
    let is_node = sym c.take.ensures.value ∙ c.in-Some.is in
    let held = g.K.Keeper.held it.keeper in let synced = g.K.Keeper.synced it.keeper in
    let k = it.kept node is_node in
    λ other. listed of it.node node held synced is_node k _ (λ o ns. receive_list o ns c.args.message) (c.in-Ok.ensures.list other)

pub returns-in-Ok-clause-any_moment : goal.returns-in-Ok-clause-any_moment
returns-in-Ok-clause-any_moment g c =
    let it = c.args.self.now in
    let node = c.in-Some.node in
    let of = numbers it.me it.n it.w it.limit in
    let is_node = sym c.take.ensures.value ∙ c.in-Some.is in
    let held = g.K.Keeper.held it.keeper in let synced = g.K.Keeper.synced it.keeper in
    let k = it.kept node is_node in
    λ _. moments of it.node node held synced is_node k g.K.Keeper.moment g.K.Keeper.left_since it.keeper c.receive.new.keeper (λ o ns. receive_list o ns c.args.message) c.receive.ensures.any_moment

pub returns-in-Err-clause-any_moment : goal.returns-in-Err-clause-any_moment
returns-in-Err-clause-any_moment g c =
    let it = c.args.self.now in
    let node = c.in-Some.node in
    let of = numbers it.me it.n it.w it.limit in
    let is_node = sym c.take.ensures.value ∙ c.in-Some.is in
    let held = g.K.Keeper.held it.keeper in let synced = g.K.Keeper.synced it.keeper in
    let k = it.kept node is_node in
    λ _. moments of it.node node held synced is_node k g.K.Keeper.moment g.K.Keeper.left_since it.keeper c.receive.new.keeper (λ o ns. receive_list o ns c.args.message) c.receive.ensures.any_moment

pub returns-in-Ok-clause-same : goal.returns-in-Ok-clause-same
returns-in-Ok-clause-same g c =
    let it = c.args.self.now in
    let node = c.in-Some.node in
    let of = numbers it.me it.n it.w it.limit in
    let is_node = sym c.take.ensures.value ∙ c.in-Some.is in
    goes_on of it.node node c.receive.new.node (g.K.Keeper.held it.keeper) _ (g.K.Keeper.synced it.keeper) _ is_node (it.kept node is_node) c.receive.ensures.settings c.in-Ok.ensures.open
