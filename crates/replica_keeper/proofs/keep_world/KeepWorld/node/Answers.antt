use Rattle.std.proofs.Common.{◌≡◌, true, map, Option, Some, None, refl, ◌∙◌}
use Rattle.std.proofs.Common.{Bor}
use Rattle.std.specs.Option.{is_some, option_copied}
use Rattle.std.proofs.Props.{props}
use Rattle.std.proofs.Math.Logic.{∥∥₁_elim}
use Rattle.replica_keeper.proofs.Showing.{stands_there}
use Rattle.replica_keeper.proofs.keep_world.KeepWorld.node.Goals as goal

-- what is a copy of something is something
copied_is_some : {T : Type 0} (o : Option (Bor T)) (x : T) → option_copied o ≡ Some x → is_some o ≡ true
copied_is_some None x e = cc
copied_is_some (Some b) x e = refl

pub unwrap-requires : goal.unwrap-requires
unwrap-requires c = ∥∥₁_elim (c.args.self.now.shows c.requires.goes_on) (search props) (λ x.
    copied_is_some c.node.result _ (c.node.ensures.node ∙ (stands_there c.args.self.now.replicas.items (map (λ row. row.items) c.args.self.now.sent.items) x.0 x.1 c.args.r c.requires.of c.index.result.now c.index.ensures).keeps.opened))
