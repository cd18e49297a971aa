use Rattle.std.proofs.Common.{ℕ, sym, ap, ◌∙◌, ◌++◌, ◌∷◌, [], List, map, arith}
use Rattle.std.specs.List.{filter}
use Rattle.causal_model.specs.KeptElements.{KeptElement}
use Rattle.causal_model.specs.ListSteps.{is_shown}
use Rattle.causal_model.specs.Log.{message_of}
use Rattle.list_type.specs.ListFields.{element_in, elements_of_row}
use Rattle.list_type.specs.Shown.{shown}
use Rattle.list_type.proofs.Asked.{told_held, told_goes_on, told_ends_last, told_ends_full, mapped_passed, mapped_failed, shown_by_own, values_of}
use Rattle.list_type.proofs.lists.Lists.values.Goals as goal
use Rattle.list_type.proofs.lists.Lists.values.Goals.{else-is_shown, else-loop-test, then-is_shown+in_ok-copy+in_ok-push, then-loop-test+in_default-behind}

pub returns-in_default-clause-of : goal.returns-in_default-clause-of
returns-in_default-clause-of c =
    let lists = c.args.self.now in
    let p = is_shown c.args.object.now c.args.epoch (map message_of c.args.entries.now) in
    values_of (shown lists) c.args.object.now c.args.epoch c.args.entries.now c.new-values.result
    (c.new-values.ensures ∙ ap (λ o. map (λ (e : KeptElement). e.value) (filter p (elements_of_row lists.chains.rows o))) (sym c.in_default.is ∙ c.row_of.ensures))

pub get-node-requires : goal.get-node-requires
get-node-requires c =
    let p = is_shown c.args.object.now c.args.epoch (map message_of c.args.entries.now) in
    told_held (λ kept. map (λ (e : KeptElement). e.value) (filter p kept)) c.args.self.now.chains.rows c.in-Some.row c.loop.at c.loop.counter c.loop.values c.loop.invariant
    c.behind.result c.in-Some-behind.slot c.in-Some-behind.is c.behind.ensures

pub loop-preserved : goal.loop-preserved
loop-preserved c =
    let p = is_shown c.args.object.now c.args.epoch (map message_of c.args.entries.now) in
    let node = c.get-node.result.now in
    let e = element_in node in
    let shows = c.is_shown.ensures ∙ shown_by_own c.args.object.now c.args.epoch c.args.entries.now node c.requires.own in
    told_goes_on (λ kept. map (λ (x : KeptElement). x.value) (filter p kept)) c.args.self.now.chains.rows c.in-Some.row c.loop.at c.loop.counter c.loop.values c.loop.invariant
    c.behind.result c.in-Some-behind.slot c.in-Some-behind.is c.behind.ensures node c.if-is_shown.values c.get-node.ensures
    (λ xs is. elim c.if-is_shown.branch [
      | then-is_shown+in_ok-copy+in_ok-push w ↦
          w.values-is
          ∙ w.in_ok-push.ensures.ok
          ∙ ap (λ v. c.loop.values ++ v ∷ []) w.in_ok-copy.ensures.copy
          ∙ mapped_passed p xs e (λ (x : KeptElement). x.value) c.loop.values (sym shows ∙ w.if-is_shown.true) is
      | else-is_shown w ↦ w.values-is ∙ mapped_failed p xs e (λ (x : KeptElement). x.value) c.loop.values (sym shows ∙ w.if-is_shown.false) is
    ])

pub returns-clause-values : goal.returns-clause-values
returns-clause-values c =
    let rows = c.args.self.now.chains.rows in
    let tells : List KeptElement → List (List ℕ) = λ kept. map (λ (x : KeptElement). x.value) (filter (is_shown c.args.object.now c.args.epoch (map message_of c.args.entries.now)) kept) in
    (elim c.loop-test.branch [
      | else-loop-test w ↦ told_ends_full tells rows c.in-Some.row c.loop.at c.loop.counter c.loop.values c.loop.invariant (omega (arith, w.loop-test.false, c.len-end.ensures))
      | then-loop-test+in_default-behind w ↦ told_ends_last tells rows c.in-Some.row c.loop.at c.loop.counter c.loop.values c.loop.invariant w.behind.result w.in_default-behind.is w.behind.ensures
    ])
    ∙ ap (λ o. tells (elements_of_row rows o)) (sym c.in-Some.is ∙ c.row_of.ensures)

pub returns-clause-of : goal.returns-clause-of
returns-clause-of c = values_of (shown c.args.self.now) c.args.object.now c.args.epoch c.args.entries.now c.loop.values (returns-clause-values c)

pub read-requires : goal.read-requires
read-requires c = c.none-removals.ensures c.args.epoch
