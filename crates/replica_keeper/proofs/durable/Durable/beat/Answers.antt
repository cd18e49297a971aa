use Rattle.std.proofs.Common.{sym, ◌∙◌, All, IsTrue, subst}
use Rattle.causal_model.specs.Journal.{beat_notes}
use Rattle.causal_model.specs.Sending.{is_beat, beat_rule}
use Rattle.causal_model.specs.declared.outcome.Beat.TheVariants as beat
use Rattle.replica_keeper.specs.Calls.{beat_list}
use Rattle.replica_keeper.specs.Durably.{numbers}
use Rattle.replica_keeper.specs.Keeping.{AreSentWithin}
use Rattle.op_base.specs.Message.{fits}
use Rattle.causal_model.specs.Sending.{beat_messages}
use Rattle.replica_keeper.proofs.Durables.{moments, listed, answered, goes_on}
use Rattle.replica_keeper.proofs.durable.Durable.beat.Goals as goal

pub beat-requires : goal.beat-requires
beat-requires g c =
    let it = c.args.self.now in
    (it.kept c.in-Some.node (sym c.take.ensures.value ∙ c.in-Some.is)).opened

pub returns-in-Ok-clause-answer : goal.returns-in-Ok-clause-answer
returns-in-Ok-clause-answer g c =
    let it = c.args.self.now in
    let node = c.in-Some.node in
    let of = numbers it.me it.n it.w it.limit in
    let is_node = sym c.take.ensures.value ∙ c.in-Some.is in
    let held = g.K.Keeper.held it.keeper in let synced = g.K.Keeper.synced it.keeper in
    let k = it.kept node is_node in
    answered of it.node node held synced is_node k beat.NoMemory is_beat beat_notes (λ o. beat_rule o.w o.limit) c.in-Ok.answer c.beat.new.node.journal.notes c.in-Ok.ensures.answer

pub returns-in-Ok-clause-list : goal.returns-in-Ok-clause-list
returns-in-Ok-clause-list g c =
    let it = c.args.self.now in
    let node = c.in-Some.node in
    let of = numbers it.me it.n it.w it.limit in
    let is_node = sym c.take.ensures.value ∙ c.in-Some.is in
    let held = g.K.Keeper.held it.keeper in let synced = g.K.Keeper.synced it.keeper in
    let k = it.kept node is_node in
    λ other. listed of it.node node held synced is_node k _ (λ o ns. beat_list o ns) (c.in-Ok.ensures.list other)

pub returns-in-Ok-clause-any_moment : goal.returns-in-Ok-clause-any_moment
returns-in-Ok-clause-any_moment g c =
    let it = c.args.self.now in
    let node = c.in-Some.node in
    let of = numbers it.me it.n it.w it.limit in
    let is_node = sym c.take.ensures.value ∙ c.in-Some.is in
    let held = g.K.Keeper.held it.keeper in let synced = g.K.Keeper.synced it.keeper in
    let k = it.kept node is_node in
    λ _. moments of it.node node held synced is_node k g.K.Keeper.moment g.K.Keeper.left_since it.keeper c.beat.new.keeper (λ o ns. beat_list o ns) c.beat.ensures.any_moment

pub returns-in-Err-clause-any_moment : goal.returns-in-Err-clause-any_moment
returns-in-Err-clause-any_moment g c =
    let it = c.args.self.now in
    let node = c.in-Some.node in
    let of = numbers it.me it.n it.w it.limit in
    let is_node = sym c.take.ensures.value ∙ c.in-Some.is in
    let held = g.K.Keeper.held it.keeper in let synced = g.K.Keeper.synced it.keeper in
    let k = it.kept node is_node in
    λ _. moments of it.node node held synced is_node k g.K.Keeper.moment g.K.Keeper.left_since it.keeper c.beat.new.keeper (λ o ns. beat_list o ns) c.beat.ensures.any_moment

pub returns-in-Ok-clause-same : goal.returns-in-Ok-clause-same
returns-in-Ok-clause-same g c =
    let it = c.args.self.now in
    let node = c.in-Some.node in
    let of = numbers it.me it.n it.w it.limit in
    let is_node = sym c.take.ensures.value ∙ c.in-Some.is in
    goes_on of it.node node c.beat.new.node (g.K.Keeper.held it.keeper) _ (g.K.Keeper.synced it.keeper) _ is_node (it.kept node is_node) c.beat.ensures.settings c.in-Ok.ensures.open

pub returns-in-Ok-clause-fits : goal.returns-in-Ok-clause-fits
returns-in-Ok-clause-fits g c =
    let it = c.args.self.now in
    let node = c.in-Some.node in
    subst (λ n. All (λ m. IsTrue (fits n m)) (beat_messages c.in-Ok.answer)) (it.kept node (sym c.take.ensures.value ∙ c.in-Some.is)).n c.in-Ok.ensures.fits

pub returns-in-Ok-clause-out : goal.returns-in-Ok-clause-out
returns-in-Ok-clause-out g c =
    let it = c.args.self.now in
    let node = c.in-Some.node in
    subst (λ n. AreSentWithin n (g.K.Keeper.synced c.beat.new.keeper) c.beat.new.node.journal.notes (beat_messages c.in-Ok.answer)) (it.kept node (sym c.take.ensures.value ∙ c.in-Some.is)).n c.in-Ok.ensures.out
