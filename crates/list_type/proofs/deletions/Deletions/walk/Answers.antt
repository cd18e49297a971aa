use Rattle.std.proofs.Common.{◌≡◌, Bool, length, min, refl, ap, subst, sym, ◌∙◌, ◌+◌, ◌-◌, take, length-drop, ◌<◌, Some, drop, arith}
use Rattle.std.specs.Prelude.{slice_get}
use Rattle.std.specs.List.{list_any}
use Rattle.std.proofs.lemmas.List.{take_all}
use Rattle.std.proofs.lemmas.Option.{slice_get_read}
use Rattle.op_base.specs.declared.message.Entry.{Entry}
use Rattle.list_type.specs.Deletions.{group_of}
use Rattle.list_type.specs.Removals.{deletes_by}
use Rattle.list_type.proofs.LinkedDeletions.{NoneBehind, walk_goes_on, walk_ends}
use Rattle.list_type.proofs.deletions.Deletions.walk.Goals as goal

pub loop-link-preserved : goal.loop-link-preserved
loop-link-preserved c =
    let entries = c.args.entries.now in
    let n = min (length entries) 1024 in
    let k = c.from-k.result in
    let item = c.index-entries-k.result in
    let link_is : c.loop-link.link ≡ k + 1 = omega (arith, c.from-k.ensures, c.loop-link-test.true) in
    let upto : k < n = omega (arith, link_is, c.loop-link.invariant.within) in
    let at : slice_get entries k ≡ Some item = slice_get_read entries _ k item refl (omega (arith, upto)) c.index-entries-k.is in
    walk_goes_on entries n c.args.epoch c.args.id.now c.loop-link.link _ k item link_is at
    (sym c.does_delete.ensures ∙ c.if-does_delete.false) c.loop-link.invariant
    (c.requires.ahead k (group_of c.args.id.now) upto (c.loop-link.invariant.of_group k link_is))

pub returns : goal.returns
returns c =
    let entries = c.args.entries.now in
    let deletes : Entry → Bool = λ e. deletes_by c.args.epoch e c.args.id.now in
    let n = c.min.result in
    let behind : c.is_deleted.result ≡ list_any deletes (take (length entries - n) (drop n entries)) = c.is_deleted.ensures in
    let walked = subst (λ m. NoneBehind entries m c.args.epoch c.args.id.now c.loop-link.link) (sym c.min.ensures) c.loop-link.invariant in
    behind
    ∙ ap (list_any deletes) (take_all (length entries - n) (drop n entries) (omega (arith, length-drop n entries)))
    ∙ sym (walk_ends entries n c.args.epoch c.args.id.now c.loop-link.link (omega arith) walked)
