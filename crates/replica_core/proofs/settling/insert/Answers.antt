use Rattle.std.proofs.Common.{◌≡◌, IsTrue, filter, sym, ap, subst, ◌∙◌}
use Rattle.op_base.specs.declared.operation.Op.TheVariants as op
use Rattle.causal_model.specs.History.{with_message, is_history}
use Rattle.causal_model.specs.Parts.{is_on}
use Rattle.polog.specs.Value.{is_of}
use Rattle.list_type.specs.Listed.{AreListsMoved}
use Rattle.list_type.specs.Shown.{shown as lists_shown}
use Rattle.replica_core.specs.Insertions.{is_insertion}
use Rattle.replica_core.proofs.Insertions.{insertion_leaves_log}
use Rattle.replica_core.proofs.ObjectParts.{are_own, own_messages}
use Rattle.replica_core.proofs.Settles.{entry_is_put}
use Rattle.replica_core.proofs.settling.insert.Goals as goal
use Rattle.replica_core.proofs.settling.insert.Goals.{After-of_object-entries}

-- the entries are those of its object
own_are : (c : After-of_object-entries) → c.of_object-entries.result.now ≡ filter (is_of c.in-Update.update.object) c.args.log.now.entries
own_are c = subst (λ o. c.of_object-entries.result.now ≡ filter (is_of o) c.args.log.now.entries) c.object.ensures c.of_object-entries.ensures.entries

pub insert-requires : goal.insert-requires
insert-requires c =
    let m = c.args.message.now in
    let can = entry_is_put c.args.epoch m.origin m.tag m.op c.in-Update.update (lists_shown c.args.lists.now) (sym c.replace.ensures.value ∙ c.in-Update.is) c.requires.insertion c.requires.can in
    record { spare = can.0; fresh = can.1; deep = can.2; own = are_own _ _ _ (own_are (goal.at.insert-requires c).After-of_object-entries) }

pub returns-in-Update-clause-of : goal.returns-in-Update-clause-of
returns-in-Update-clause-of c = λ w h history epoch logged lists.
    let m = c.args.message.now in
    let u = c.in-Update.update in
    let has : m.op ≡ op.Update u = sym c.replace.ensures.value ∙ c.in-Update.is in
    let is : m ≡ record { origin = m.origin; tag = m.tag; op = op.Update u } = ap (λ o. record { origin = m.origin; tag = m.tag; op = o }) has in
    let messages = own_messages u.object _ _ (own_are (goal.at.returns-in-Update-clause-of c).After-of_object-entries)
    ∙ ap (filter (is_on u.object)) (logged.holds ∙ insertion_leaves_log h.present.n h.present.me h.present.messages m u has (ap is_insertion (sym has) ∙ c.requires.insertion)) in
    subst (λ x. AreListsMoved h x 0 (lists_shown c.insert.new.self)) (sym is) (c.insert.ensures.of w h (subst (λ x. IsTrue (is_history w (with_message h x))) is history) epoch messages lists)
