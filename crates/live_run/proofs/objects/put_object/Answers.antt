use Rattle.std.proofs.Common.{rules, ◌≡◌, sym, ap, subst, ◌∙◌}
use Rattle.std.specs.List.{insert}
use Rattle.live_run.specs.Inputs.{ObjectsRise}
use Rattle.live_run.proofs.Placing.{StandsAt, BelongsAt, put_object_rises, put_found, put_placed}
use Rattle.live_run.proofs.objects.put_object.Goals as goal

pub returns-in-Ok-clause-put : goal.returns-in-Ok-clause-put
returns-in-Ok-clause-put c =
    let object = c.args.object.now in
    sym (put_found object c.args.objects.now.items c.requires.rise c.in-Ok.field-0
    (subst (λ os. StandsAt object os c.in-Ok.field-0) c.as_slice.ensures.value (c.in-Ok.ensures.bound, c.in-Ok.ensures.found)))

pub returns-in_ok-insert-in-Err-clause-put : goal.returns-in_ok-insert-in-Err-clause-put
returns-in_ok-insert-in-Err-clause-put c =
    let object = c.args.object.now in
    let os = c.args.objects.now.items in
    let copied : c.in_ok-copy-in-Err.field-0 ≡ object = search rules in
    c.in_ok-insert-in-Err.ensures.items ∙ ap (insert os c.in-Err.place) copied
    ∙ sym (put_placed object os c.in-Err.place c.requires.rise (subst (λ os. BelongsAt object os c.in-Err.place) c.as_slice.ensures.value (c.in-Err.ensures.bound, c.in-Err.ensures.found)))

pub returns-in_ok-insert-in-Err-clause-rise : goal.returns-in_ok-insert-in-Err-clause-rise
returns-in_ok-insert-in-Err-clause-rise c =
    subst ObjectsRise (sym (returns-in_ok-insert-in-Err-clause-put c)) (put_object_rises c.args.object.now c.args.objects.now.items c.requires.rise)
