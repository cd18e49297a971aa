use Rattle.std.proofs.Common.{◌≡◌, map, subst, ap, ◌∙◌}
use Rattle.std.proofs.Math.Logic.{∥∥₁_elim, ∥∥₁_map}
use Rattle.world.specs.Growing.{settings_of}
use Rattle.world_model.specs.Journals.{HaveGrown}
use Rattle.live_run.specs.Ended.{notes_of_each}
use Rattle.live_run.specs.Limits.{live_limit}
use Rattle.live_run.proofs.Settles.{honest_there, have_settled, members_apart, members_stay, settled_shows}
use Rattle.live_run.proofs.mode.settle.Goals as goal

pub of_nodes-requires : goal.of_nodes-requires
of_nodes-requires c =
    let apart = c.requires.2 in
    record { apart = ∥∥₁_map apart.journals (λ are. (c.requires.1, live_limit, members_apart c.requires.0 c.requires.1 c.args.nodes.items apart.members apart.some apart.few are)) }

pub unreachable-requires : goal.unreachable-requires
unreachable-requires c =
    let n = c.requires.0 in
    let w = c.requires.1 in
    let apart = c.requires.2 in
    ∥∥₁_elim apart.journals (λ x y. absurd x) (λ are.
    let parts = members_apart n w c.args.nodes.items apart.members apart.some apart.few are in
    c.settle.ensures.settles (_, c.in_ok-world.ensures.shows w live_limit parts, honest_there n w c.args.nodes.items apart are) c.in-Unsettled.is)

pub returns-in-Settled-clause-settled : goal.returns-in-Settled-clause-settled
returns-in-Settled-clause-settled c = λ n w apart.
    let old = c.args.nodes.items in
    let grown = c.settle.ensures.grown in
    let new = c.settle.new.self.nodes.items in
    let start : c.in_ok-world.world.nodes.items ≡ old = ap (λ v. v.items) c.in_ok-world.ensures.nodes in
    let journals = subst (λ nodes. HaveGrown (notes_of_each nodes) (notes_of_each new)) start grown.journals in
    let members = members_stay n w old new apart.members (grown.firsts ∙ ap (map (λ node. node.first)) start) (grown.settings ∙ ap (map settings_of) start) in
    have_settled n w old new apart journals members (map (λ row. row.items) c.settle.new.self.sent.items)
    (λ are.
    let parts = members_apart n w old apart.members apart.some apart.few are in
    settled_shows n w old apart c.settle.result c.in_ok-world.world c.settle.new.self c.in-Settled.is (c.in_ok-world.ensures.shows w live_limit parts) c.settle.ensures.answer)
