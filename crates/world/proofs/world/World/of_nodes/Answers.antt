use Rattle.std.proofs.Common.{map, length, sym, ap, subst, ◌∙◌}
use Rattle.std.proofs.Math.Logic.{∥∥₁_elim, ∥∥₁_map}
use Rattle.std.proofs.Props.{props}
use Rattle.world_model.specs.Journals.{world_of_journals}
use Rattle.world.specs.Apart.{AreApart, frames_by}
use Rattle.world.specs.Growing.{journals_of}
use Rattle.world.proofs.Apart.{all_fit, apart_shows}
use Rattle.world.proofs.world.World.of_nodes.Goals as goal

pub frames_of-requires : goal.frames_of-requires
frames_of-requires c = record {
  fit = λ r d low k e l. ∥∥₁_elim c.requires.apart (search props) (λ x.
      all_fit x.0 x.1 c.deref.result.now (subst (AreApart x.0 x.1) (sym c.deref.ensures.value) x.2) r d low k e l);
}

pub returns-clause-shows : goal.returns-clause-shows
returns-clause-shows c = λ w limit are. apart_shows w limit c.args.nodes.items are (map (λ row. row.items) c.in_ok-sent.sent.items) (c.in_ok-sent.ensures ∙ ap (map frames_by) c.deref.ensures.value)

pub invariant_of-result : goal.invariant_of-result
invariant_of-result c = record {
  shows = ∥∥₁_map c.requires.apart (λ x. (
    world_of_journals (length c.args.nodes.items) x.0 x.1 (journals_of c.args.nodes.items),
    apart_shows x.0 x.1 c.args.nodes.items x.2 (map (λ row. row.items) c.in_ok-sent.sent.items) (c.in_ok-sent.ensures ∙ ap (map frames_by) c.deref.ensures.value),
  ));
}
