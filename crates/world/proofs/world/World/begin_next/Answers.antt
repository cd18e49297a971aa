use Rattle.std.proofs.Common.{map, sym, subst, All, Result, Ok, Err, OnErr}
use Rattle.std.proofs.Props.{props}
use Rattle.std.proofs.Math.Logic.{∥∥₁_elim, ∥∥₁_map}
use Rattle.world_model.specs.Regrouping.{next_world}
use Rattle.world.specs.Entrants.{IsEarly}
use Rattle.world.proofs.Regroups.{as_before_shows, each_is_early, next_is_shown, next_nodes_are}
use Rattle.world.proofs.Settles.{some_members}
use Rattle.world.proofs.world.World.begin_next.Goals as goal

told_where_err : {A E P : Type 0} (result : Result A E) → P → OnErr result P
told_where_err (Ok x) p = tt
told_where_err (Err e) p = p

pub next_entrants-requires-clause-early : goal.next_entrants-requires-clause-early
next_entrants-requires-clause-early c =
    let world = c.args.self.now in
    subst (All IsEarly) (sym c.deref.ensures.value) (λ k d l. ∥∥₁_elim world.shows (search props) (λ x. each_is_early world.nodes.items (map (λ row. row.items) world.sent.items) x.0 x.1 (c.requires.early x.0 x.1) k d l))

pub change_nodes-requires-clause-some : goal.change_nodes-requires-clause-some
change_nodes-requires-clause-some c = some_members c.args.self.now

pub invariant_of-self : goal.invariant_of-self
invariant_of-self c =
    let world = c.args.self.now in
    record { shows = ∥∥₁_map world.shows (λ x. (x.0, as_before_shows world.nodes.items c.change_nodes.new.nodes.items (map (λ row. row.items) world.sent.items) x.0 c.in_err-change_nodes.ensures.stays x.1)) }

pub returns-in_err-change_nodes-clause-stays : goal.returns-in_err-change_nodes-clause-stays
returns-in_err-change_nodes-clause-stays c plain shows =
    let world = c.args.self.now in
    told_where_err _ (as_before_shows world.nodes.items c.change_nodes.new.nodes.items (map (λ row. row.items) world.sent.items) plain c.in_err-change_nodes.ensures.stays shows)

pub returns-clause-begins : goal.returns-clause-begins
returns-clause-begins c plain shows =
    let world = c.args.self.now in
    let rows = map (λ row. row.items) world.sent.items in
    next_is_shown c.change_nodes.new.nodes.items (map (λ row. row.items) c.in_ok-sent.sent.items) world.nodes.items rows plain c.args.n shows c.requires.some c.requires.few (c.requires.early plain shows) (c.requires.rests plain shows)
    (next_nodes_are world.nodes.items rows plain c.args.n c.change_nodes.new.nodes.items shows c.in_ok-change_nodes.ensures.next) c.in_ok-sent.ensures

pub invariant_of-self-2 : goal.invariant_of-self-2
invariant_of-self-2 c =
    let world = c.args.self.now in
    let rows = map (λ row. row.items) world.sent.items in
    record {
      shows = ∥∥₁_map world.shows (λ x. (
        next_world c.args.n x.0,
        next_is_shown c.change_nodes.new.nodes.items (map (λ row. row.items) c.in_ok-sent.sent.items) world.nodes.items rows x.0 c.args.n x.1 c.requires.some c.requires.few (c.requires.early x.0 x.1) (c.requires.rests x.0 x.1)
            (next_nodes_are world.nodes.items rows x.0 c.args.n c.change_nodes.new.nodes.items x.1 c.in_ok-change_nodes.ensures.next) c.in_ok-sent.ensures,
      ));
    }
