use Rattle.std.proofs.Common.{ℕ, Bool, not, sym, ap, ◌∙◌, List, map, length, arith}
use Rattle.std.specs.List.{filter}
use Rattle.causal_model.specs.KeptElements.{KeptElement}
use Rattle.causal_model.specs.ListSteps.{is_shown}
use Rattle.causal_model.specs.Log.{message_of}
use Rattle.list_type.specs.ListFields.{element_in, elements_of_row}
use Rattle.list_type.specs.Shown.{shown}
use Rattle.list_type.proofs.Asked.{told_held, told_goes_on, told_ends_last, told_ends_full, counted_passed, counted_failed, shown_by_own, tombs_of_lists}
use Rattle.list_type.proofs.lists.Lists.tombs.Goals as goal
use Rattle.list_type.proofs.lists.Lists.tombs.Goals.{else-not-is_shown, then-not-is_shown}

pub returns-in_default-clause-of : goal.returns-in_default-clause-of
returns-in_default-clause-of c =
    let lists = c.args.self.now in
    let p : KeptElement → Bool = λ e. not (is_shown c.args.object.now c.args.epoch (map message_of c.args.entries.now) e) in
    tombs_of_lists (shown lists) c.args.object.now c.args.epoch c.args.entries.now 0
    (ap (λ o. length (filter p (elements_of_row lists.chains.rows o))) (sym c.in_default.is ∙ c.row_of.ensures))

pub get-node-requires : goal.get-node-requires
get-node-requires c =
    let p : KeptElement → Bool = λ e. not (is_shown c.args.object.now c.args.epoch (map message_of c.args.entries.now) e) in
    told_held (λ kept. length (filter p kept)) c.args.self.now.chains.rows c.in-Some.row c.loop.at c.loop.counter c.loop.count c.loop.invariant.told
    c.behind.result c.in-Some-behind.slot c.in-Some-behind.is c.behind.ensures

pub loop-preserved : goal.loop-preserved
loop-preserved c =
    let p : KeptElement → Bool = λ e. not (is_shown c.args.object.now c.args.epoch (map message_of c.args.entries.now) e) in
    let node = c.get-node.result.now in
    let e = element_in node in
    let shows = sym (c.is_shown.ensures ∙ shown_by_own c.args.object.now c.args.epoch c.args.entries.now node c.requires.own) in
    record {
      told =
          told_goes_on (λ kept. length (filter p kept)) c.args.self.now.chains.rows c.in-Some.row c.loop.at c.loop.counter c.loop.count c.loop.invariant.told
          c.behind.result c.in-Some-behind.slot c.in-Some-behind.is c.behind.ensures node c.if-not-is_shown.count c.get-node.ensures
          (λ xs is. elim c.if-not-is_shown.branch [
            | then-not-is_shown w ↦ w.count-is ∙ counted_passed p xs e c.loop.count (ap not (shows ∙ w.if-not-is_shown.true)) is
            | else-not-is_shown w ↦ w.count-is ∙ counted_failed p xs e c.loop.count (ap not (shows ∙ w.if-not-is_shown.false)) is
          ]);
      few = elim c.if-not-is_shown.branch [
        | then-not-is_shown w ↦ omega (arith, w.count-is, c.loop.invariant.few)
        | else-not-is_shown w ↦ omega (arith, w.count-is, c.loop.invariant.few)
      ];
    }

pub returns-after-loop-clause-count : goal.returns-after-loop-clause-count
returns-after-loop-clause-count c =
    let rows = c.args.self.now.chains.rows in
    let tells : List KeptElement → ℕ = λ kept. length (filter (λ e. not (is_shown c.args.object.now c.args.epoch (map message_of c.args.entries.now) e)) kept) in
    told_ends_full tells rows c.in-Some.row c.loop.at c.loop.counter c.loop.count c.loop.invariant.told (omega (arith, c.loop-test.false, c.len-end.ensures))
    ∙ ap (λ o. tells (elements_of_row rows o)) (sym c.in-Some.is ∙ c.row_of.ensures)

pub returns-in_default-behind-clause-count : goal.returns-in_default-behind-clause-count
returns-in_default-behind-clause-count c =
    let rows = c.args.self.now.chains.rows in
    let tells : List KeptElement → ℕ = λ kept. length (filter (λ e. not (is_shown c.args.object.now c.args.epoch (map message_of c.args.entries.now) e)) kept) in
    told_ends_last tells rows c.in-Some.row c.loop.at c.loop.counter c.loop.count c.loop.invariant.told c.behind.result c.in_default-behind.is c.behind.ensures
    ∙ ap (λ o. tells (elements_of_row rows o)) (sym c.in-Some.is ∙ c.row_of.ensures)

pub returns-after-loop-clause-of : goal.returns-after-loop-clause-of
returns-after-loop-clause-of c = tombs_of_lists (shown c.args.self.now) c.args.object.now c.args.epoch c.args.entries.now c.loop.count (returns-after-loop-clause-count c)

pub returns-in_default-behind-clause-of : goal.returns-in_default-behind-clause-of
returns-in_default-behind-clause-of c = tombs_of_lists (shown c.args.self.now) c.args.object.now c.args.epoch c.args.entries.now c.loop.count (returns-in_default-behind-clause-count c)

pub read-requires : goal.read-requires
read-requires c = c.none-removals.ensures c.args.epoch
