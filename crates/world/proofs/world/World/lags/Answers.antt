use Rattle.std.proofs.Common.{◌≡◌, map, ap, sym, subst, ◌∙◌, None}
use Rattle.std.specs.Prelude.{◌↔◌, []}
use Rattle.causal_model.specs.State.{State}
use Rattle.world_model.specs.Offering.{outbox_in}
use Rattle.world_model.specs.Showing.{lagging, lags_at}
use Rattle.world_model.specs.World.{PlainWorld, replica_of}
use Rattle.world_model.proofs.Lagging.{none_lags_is_all_stable}
use Rattle.world.specs.Answers.{ShowsPlain}
use Rattle.world.proofs.Nodes.{state_shown, within}
use Rattle.world.proofs.world.World.lags.Goals as goal

pub returns : goal.returns
returns c =
    let node = c.index.result.now in
    let least : (plain : PlainWorld) → ShowsPlain c.args.self.now plain → c.lagging_at.result ≡ lags_at plain c.args.r = λ plain shows.
    c.lagging_at.ensures
    ∙ ap (λ (s : State). let p = s.history.present in lagging p.n p.me p.messages (outbox_in s))
    (sym (state_shown c.args.self.now.nodes.items (map (λ row. row.items) c.args.self.now.sent.items) plain shows c.args.r node (record { low = c.requires; at = c.index.ensures }))) in
    record {
      least = least;
      none = λ plain shows.
          subst (λ lags. (lags ≡ None) ↔ (outbox_in (replica_of plain c.args.r) ≡ [])) (sym (least plain shows))
          (none_lags_is_all_stable plain c.args.r shows.is_world (within c.args.self.now.nodes.items (map (λ row. row.items) c.args.self.now.sent.items) plain shows c.args.r node (record { low = c.requires; at = c.index.ensures })));
    }
