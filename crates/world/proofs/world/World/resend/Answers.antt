use Rattle.std.proofs.Common.{IsTrue, refl, sym, ap, subst, ◌∙◌}
use Rattle.world_model.specs.Commands as world_command
use Rattle.world_model.specs.Honest.{IsHonest}
use Rattle.world_model.specs.Offering.{offered_between, resent_of, resend_at}
use Rattle.honest_worlds.proofs.Commands.{commands_keep_honest}
use Rattle.world.specs.Honest.{is_fair_resent}
use Rattle.world.proofs.Honest.{first_offers_keep_honest, resend_is_fair}
use Rattle.world.proofs.Nodes.{member_shown}
use Rattle.world.proofs.world.World.resend.Goals as goal

pub returns-in-Err-clause-honest : goal.returns-in-Err-clause-honest
returns-in-Err-clause-honest c old =
    let some = c.in-Err.ensures.some old.0 old.1 in
    let low = member_shown c.args.self.now.nodes.items _ old.0 old.1 c.args.r c.requires.to in
    (some.0, some.2, subst IsHonest (sym some.1.1) (first_offers_keep_honest old.0 c.args.r c.args.k some.1.0 old.2 low))

pub returns-in-Ok-clause-honest : goal.returns-in-Ok-clause-honest
returns-in-Ok-clause-honest c old =
    let low = member_shown c.args.self.now.nodes.items _ old.0 old.1 c.args.r c.requires.to in
    ((resend_at c.args.r c.args.k old.0).1, c.in-Ok.ensures.world old.0 old.1, (commands_keep_honest old.0 (world_command.resends c.args.r c.args.k) old.2 low refl).0)

pub returns-in-Ok-clause-fair : goal.returns-in-Ok-clause-fair
returns-in-Ok-clause-fair c old =
    let offered = c.in-Ok.ensures.made old.0 old.1 in
    let told = c.resent_of.ensures ∙ ap (λ steps. resent_of steps c.in-Ok.made.kept) offered.steps ∙ ap (resent_of (offered_between old.0 c.args.r c.args.k).steps) offered.kept in
    subst (λ x. IsTrue (is_fair_resent x)) (sym told) (resend_is_fair old.0 c.args.r c.args.k old.2 (member_shown c.args.self.now.nodes.items _ old.0 old.1 c.args.r c.requires.to))
