use Rattle.std.proofs.Common.{◌≡◌, None, ap, sym, subst, ◌∙◌}
use Rattle.std.specs.HashMap.{get}
use Rattle.causal_model.specs.Elements.{same_element}
use Rattle.list_type.proofs.PutElements.{place_is, is_put_behind, element_is_listed, others_stay}
use Rattle.list_type.proofs.lists.Lists.put.Goals as goal

pub past_higher-at-requires : goal.past_higher-at-requires
past_higher-at-requires c =
    let row = c.row_or_new-row in
    place_is c.args.self.now row.new.self c.args.object row.result row.ensures.row row.ensures.had c.args.ahead c.requires.ahead

pub invariant_of-self : goal.invariant_of-self
invariant_of-self c =
    let row = c.row_or_new-row in
    let mid = row.new.self in
    let place = c.past_higher-at.ensures.place in
    let put = c.put_behind-slot.ensures.rows place.0 place.1 place.2 in
    let fresh = subst (λ slots. get same_element slots c.args.node.value.id ≡ None) (sym row.ensures.slots) c.requires.fresh in
    record {
      listed = element_is_listed mid.rows mid.slots c.note.new.map mid.chains c.put_behind-slot.new.self mid.listed row.result place.0 place.1 c.put_behind-slot.result c.args.node
          place.2.within place.2.here put fresh c.note.ensures.updates.0;
    }

pub returns-clause-here : goal.returns-clause-here
returns-clause-here c =
    let row = c.row_or_new-row in
    is_put_behind c.args.self.now row.new.self c.args.object row.result row.ensures.row row.ensures.had c.args.ahead c.past_higher-at.result c.put_behind-slot.result c.args.node c.put_behind-slot.new.self
    row.ensures.kept c.past_higher-at.ensures.past c.put_behind-slot.ensures.rows

pub returns-clause-others : goal.returns-clause-others
returns-clause-others c = λ other differs.
    let row = c.row_or_new-row in
    let mid = row.new.self in
    let place = c.past_higher-at.ensures.place in
    let put = c.put_behind-slot.ensures.rows place.0 place.1 place.2 in
    let fresh = subst (λ slots. get same_element slots c.args.node.value.id ≡ None) (sym row.ensures.slots) c.requires.fresh in
    others_stay mid.rows mid.slots c.note.new.map mid.chains c.put_behind-slot.new.self mid.listed row.result place.0 place.1 c.put_behind-slot.result c.args.node
    place.2.within place.2.here put fresh c.note.ensures.updates.0 c.args.object other row.ensures.row differs
    ∙ ap (λ lists. lists other) row.ensures.kept
