use Rattle.std.proofs.Common.{rules, of_calls}
use Rattle.std.proofs.lemmas.Fn.{always_returns_same}
use Rattle.op_base.specs.Order.{text_cmp}
use Rattle.live_run.specs.Inputs.{object_text}
use Rattle.live_run.proofs.objects.place_of.Goals as goal

pub returns-clause-found : goal.returns-clause-found
returns-clause-found c =
    c.binary_search_by.ensures.position (λ other. text_cmp (object_text other) (object_text c.args.object.now)) (always_returns_same _ _ _ (λ a r f k. search (rules, of_calls)))
