use Rattle.std.proofs.Common.{◌≡◌, map, All, None, sym, subst, refl, ◌+◌, ◌≤◌}
use Rattle.std.specs.HashMap.{get}
use Rattle.causal_model.specs.Elements.{same_element}
use Rattle.causal_model.specs.Log.{message_of}
use Rattle.causal_model.specs.ListSteps.{new_element}
use Rattle.list_type.specs.Putting.{IsPutBehind}
use Rattle.list_type.specs.Shown.{shown}
use Rattle.list_type.proofs.Inserted.{none_is_put, closed_lists, open_lists, lists_are_moved, kept_within, put_is_at, fresh_has_none, own_id, made_is}
use Rattle.list_type.proofs.lists.Lists.insert.Goals as goal

pub returns-in_default-clause-kept : goal.returns-in_default-clause-kept
returns-in_default-clause-kept c = λ object is_list.
    none_is_put c.args.epoch c.args.entry (map message_of c.args.entries.now) object ((shown c.args.self.now).kept object) c.in_default.not-Ins

pub returns-in_default-clause-of : goal.returns-in_default-clause-of
returns-in_default-clause-of c = λ w h t same_epoch own are.
    lists_are_moved h c.args.entry c.args.epoch (map message_of c.args.entries.now) (shown c.args.self.now) (shown c.args.self.now) same_epoch own (returns-in_default-clause-kept c) are

pub returns-in_default-place-clause-kept : goal.returns-in_default-place-clause-kept
returns-in_default-place-clause-kept c = λ object is_list.
    closed_lists c.args.epoch c.args.entry (map message_of c.args.entries.now) c.of-head.result c.of-head.ensures (shown c.args.self.now).kept c.in-Ins.value c.in-Ins.place c.in-Ins.is
    c.in_default-place.ensures.closed object

pub returns-in_default-place-clause-of : goal.returns-in_default-place-clause-of
returns-in_default-place-clause-of c = λ w h t same_epoch own are.
    lists_are_moved h c.args.entry c.args.epoch (map message_of c.args.entries.now) (shown c.args.self.now) (shown c.args.self.now) same_epoch own (returns-in_default-place-clause-kept c) are

pub put-requires-clause-fresh : goal.put-requires-clause-fresh
put-requires-clause-fresh c =
    let now = c.args.self.now in
    subst (λ id. get same_element now.slots id ≡ None) (sym (own_id c.args.epoch c.args.entry c.of-head.result c.of-head.ensures c.element.result c.element.ensures))
    (fresh_has_none now.rows now.slots now.chains now.listed _ c.requires.fresh)

pub returns-clause-kept : goal.returns-clause-kept
returns-clause-kept c = λ object is_list.
    let now = c.args.self.now in
    let list = c.args.entry.update.object in
    let made = made_is c.args.epoch c.args.entry c.of-head.result c.of-head.ensures c.element.result c.element.ensures c.sum_of.result c.sum_of.ensures c.in-Ins.value c.in-Some.depth in
    let put = subst (λ e. IsPutBehind now.rows now.chains list c.in-Some.ahead e ((shown now).kept list) ((shown c.put.new.self).kept list)) made c.put.ensures.here in
    let here = put_is_at now.rows now.slots now.chains now.listed list c.in-Ins.place c.in-Some.ahead c.in-Some.depth (new_element c.args.epoch (message_of c.args.entry) c.in-Ins.value) ((shown c.put.new.self).kept list) refl
    c.in-Some.ensures.at put in
    open_lists c.args.epoch c.args.entry (map message_of c.args.entries.now) c.of-head.result c.of-head.ensures (shown now).kept c.in-Ins.value c.in-Ins.place c.in-Ins.is
    c.in-Some.ensures.open (shown c.put.new.self).kept here c.put.ensures.others object

pub returns-clause-of : goal.returns-clause-of
returns-clause-of c = λ w h t same_epoch own are.
    lists_are_moved h c.args.entry c.args.epoch (map message_of c.args.entries.now) (shown c.args.self.now) (shown c.put.new.self) same_epoch own (returns-clause-kept c) are

pub returns-clause-deep : goal.returns-clause-deep
returns-clause-deep c = λ most low object is_list.
    subst (All (λ e. e.depth ≤ most + 1)) (sym (returns-clause-kept c object is_list))
    (kept_within most object c.args.epoch (map message_of c.args.entries.now) (message_of c.args.entry) ((shown c.args.self.now).kept object) (low object is_list))
