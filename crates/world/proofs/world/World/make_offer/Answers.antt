use Rattle.std.proofs.Common.{◌≡◌, ◌||◌, ap, sym, ◌∙◌}
use Rattle.std.specs.List.{list_any}
use Rattle.std.proofs.lemmas.Result.{err_from_is_err_and}
use Rattle.world_model.specs.Settling.{is_delivery}
use Rattle.world.specs.Answers.{ShowsPlain}
use Rattle.world.proofs.Settles.{offer_is_made}
use Rattle.world.proofs.world.World.make_offer.Goals.{then-moved, else-moved}
use Rattle.world.proofs.world.World.make_offer.Goals as goal

pub returns-in_err-made-clause-made : goal.returns-in_err-made-clause-made
returns-in_err-made-clause-made c plain shows =
    let p = err_from_is_err_and c.from_residual.result c.from_residual.ensures.1 in
    let some = c.in_err-made.ensures.some plain shows in
    rw p.1 (record { midst = some.0; passed = some.1; shows = some.2 })

pub returns-clause-made : goal.returns-clause-made
returns-clause-made c plain shows =
    let made = c.in_ok-made.made in
    let some = list_any is_delivery made.steps.items in
    let after : c.if-moved.result ≡ (c.args.moved || some) = elim c.if-moved.branch [
      | then-moved w ↦ w.result-is ∙ w.if-moved.true ∙ sym (ap (λ b. b || some) w.if-moved.true)
      | else-moved w ↦ w.result-is ∙ w.is_some_delivered.ensures ∙ ap (list_any is_delivery) w.deref.ensures.value ∙ sym (ap (λ b. b || some) w.if-moved.false)
    ] in
    offer_is_made plain c.args.r c.args.k c.args.moved c.if-moved.result made.steps.items (ShowsPlain c.offer_outbox.new.self) c.if-r-k.false (c.in_ok-made.ensures.made plain shows).steps after (c.in_ok-made.ensures.world plain shows)
