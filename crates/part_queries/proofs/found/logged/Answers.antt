use Rattle.std.proofs.Common.{◌∙◌, map, Some, ap}
use Rattle.std.proofs.lemmas.List.{take_all}
use Rattle.causal_model.specs.Log.{message_of}
use Rattle.causal_model.specs.Parts.{has_logged, puts, takes}
use Rattle.part_queries.proofs.found.logged.Goals as goal

pub returns-clause-put : goal.returns-clause-put
returns-clause-put c = λ v.
    c.loop-entry.invariant.put v
    ∙ ap (λ es. has_logged c.args.object.now (map message_of es) (puts (Some v))) (take_all c.loop-entry.entry-index c.args.entries.now c.loop-entry-test.false)

pub returns-clause-taken : goal.returns-clause-taken
returns-clause-taken c = λ v.
    c.loop-entry.invariant.taken v
    ∙ ap (λ es. has_logged c.args.object.now (map message_of es) (takes (Some v))) (take_all c.loop-entry.entry-index c.args.entries.now c.loop-entry-test.false)
