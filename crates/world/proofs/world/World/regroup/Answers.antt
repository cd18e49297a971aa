use Rattle.std.proofs.Common.{refl, arith, sym, subst, ◌∙◌}
use Rattle.std.proofs.lemmas.Bool.{false≢true}
use Rattle.world_model.specs.Commands as world_command
use Rattle.world_model.specs.Honest.{IsHonest}
use Rattle.world_model.specs.Regrouping.{next_world}
use Rattle.world_model.specs.Settling.{world_settled}
use Rattle.honest_worlds.proofs.Commands.{commands_keep_honest}
use Rattle.honest_worlds.proofs.Settling.{settled_is_at_rest}
use Rattle.world.proofs.Regroups.{epoch_can_end, rest_begins, as_before_journals, next_journals}
use Rattle.world.proofs.Settles.{some_members}
use Rattle.world.proofs.world.World.regroup.Goals as goal

pub returns-then-not-is_at_rest-clause-possible : goal.returns-then-not-is_at_rest-clause-possible
returns-then-not-is_at_rest-clause-possible c plain honest shows below _ =
    false≢true (sym c.if-not-is_at_rest.true ∙ c.is_at_rest.ensures.rests (world_settled plain) shows ∙ settled_is_at_rest plain honest below)

pub begin_next-requires-clause-early : goal.begin_next-requires-clause-early
begin_next-requires-clause-early c plain shows = epoch_can_end c.args.self.now plain shows c.index.result.now c.index.ensures c.if-epoch-eq65535.false

pub begin_next-requires-clause-rests : goal.begin_next-requires-clause-rests
begin_next-requires-clause-rests c plain shows = sym (c.is_at_rest.ensures.rests plain shows) ∙ c.if-not-is_at_rest.false

pub returns-in-Ok-clause-honest : goal.returns-in-Ok-clause-honest
returns-in-Ok-clause-honest c old =
    let plain = old.0 in
    let kept = (commands_keep_honest plain (world_command.regroups c.args.n) old.2 (c.requires.some, c.requires.few) refl).0 in
    let more = epoch_can_end c.args.self.now plain old.1 c.index.result.now c.index.ensures c.if-epoch-eq65535.false in
    let begins = rest_begins c.args.n plain more (sym (c.is_at_rest.ensures.rests plain old.1) ∙ c.if-not-is_at_rest.false) in
    (next_world c.args.n plain, c.in-Ok.ensures.begins plain old.1, subst (λ made. IsHonest made.1) begins kept)

pub returns-in-Err-clause-journals : goal.returns-in-Err-clause-journals
returns-in-Err-clause-journals c = as_before_journals c.args.self.now.nodes.items c.begin_next.new.self.nodes.items c.in-Err.ensures.same

pub returns-in-Ok-clause-journals : goal.returns-in-Ok-clause-journals
returns-in-Ok-clause-journals c =
    let world = c.args.self.now in
    next_journals world c.args.n c.begin_next.new.self.nodes.items c.index.result.now (record { low = omega (arith, some_members world); at = c.index.ensures }) c.in-Ok.ensures.next
