use Rattle.std.proofs.Common.{◌≡◌, [], ◌∷◌, ◌+◌, ◌||◌, ◌≤◌, ℕ, Bool, List, drop, refl, sym, ap, subst, ◌∙◌, Some, None, option_copied, arith}
use Rattle.std.specs.List.{list_any}
use Rattle.std.specs.Prelude.{vec_len, vec_capacity}
use Rattle.op_base.specs.Name.{same_text}
use Rattle.causal_model.specs.Query.{TextsRise}
use Rattle.std.proofs.lemmas.List.{drop_all}
use Rattle.op_base.specs.declared.outcome.Cell.{Cell}
use Rattle.causal_model.specs.Items.{Rise, cell_in}
use Rattle.causal_model.specs.Parts.{is_in}
use Rattle.part_queries.specs.Finds.{is_put, is_taken, or_put, or_taken, puts_in, with_mark, AreListed, AreNone}
use Rattle.part_queries.specs.declared.found.Found.{Found}
use Rattle.part_queries.proofs.NextValue.{listed_all, listed_own, rising_alone}
use Rattle.part_queries.proofs.Cells.{listed_but_item, listed_past_item, later_behind, rise_of_rest, item_before, item_is}
use Rattle.part_queries.proofs.listing.settled.Goals as goal
use Rattle.part_queries.proofs.listing.settled.Goals.{in-Some+in_ok-add, in_default}

pub loop-place-preserved : goal.loop-place-preserved
loop-place-preserved g c =
    let object = c.args.object.now in
    let kind = object.kind in
    let items = g.V.ItemView.items c.args.items.now in
    let whole : List ℕ → Bool = λ v. is_in kind (is_put object items [] v) (is_taken object items [] v) in
    let place = c.loop-place.place in
    let rest = drop (place + 1) items in
    let old = c.loop-place.values.items in
    let it = item_before items place _ _ _ c.item_near-next.ensures in
    let x = it.0 in
    let own : x.object ≡ object = it.2 ∙ sym (item_is items place _ _ _ c.item_near-next.ensures x) ∙ c.requires place x (omega (arith, c.len-place-end.ensures, c.loop-place-test.true)) in
    let so_far : AreListed kind (is_put object (x ∷ rest) []) (is_taken object (x ∷ rest) []) whole old = subst (λ r. AreListed kind (is_put object r []) (is_taken object r []) whole old) it.1 c.loop-place.invariant.listed in
    let rising : Rise (x ∷ rest) = subst Rise it.1 (rise_of_rest place items (g.met.V.ItemView.rise c.args.items.now)) in
    record {
      listed = elim c.match-value.branch [
        | in-Some+in_ok-add w ↦
            let value = w.in-Some.value.now in
            let found : Found = record { value = w.in-Some.value; marks = record { put = c.item_near-next.result.2.on; taken = c.item_near-next.result.2.off } } in
            let on : List ℕ → Bool = λ v. (cell_in rest object (Some v)).on in
            let off : List ℕ → Bool = λ v. (cell_in rest object (Some v)).off in
            let valued : x.value ≡ Some value = it.3 ∙ ap option_copied w.in-Some.is in
            let start : AreListed kind (or_put (with_mark value c.item_near-next.result.2.on on) []) (or_taken (with_mark value c.item_near-next.result.2.off off) []) whole old =
            subst (λ (cell : Cell). AreListed kind (or_put (with_mark value cell.on on) []) (or_taken (with_mark value cell.off off) []) whole old) it.4
            (listed_but_item object x rest kind [] whole old so_far value own valued rising) in
            listed_own kind found on off whole (later_behind object x rest value own valued rising (λ (cell : Cell). cell.on) refl) (later_behind object x rest value own valued rising (λ (cell : Cell). cell.off) refl)
            [] old c.match-value.values.items (rising_alone found) (ap (λ v. v.items) w.values-is ∙ w.in_ok-add.ensures.items) start
        | in_default w ↦
            subst (λ v. AreListed kind (is_put object rest []) (is_taken object rest []) whole v.items) (sym w.values-is) (listed_past_item object x rest kind [] whole old so_far (λ v own valued.
            let none : Some v ≡ None = sym valued ∙ it.3 ∙ ap option_copied w.in_default.is in
            cc))
      ];
      len = elim c.match-value.branch [
        | in-Some+in_ok-add w ↦ subst (λ v. vec_len v ≤ place + 1) (sym w.values-is) (omega (arith, w.in_ok-add.ensures.len, c.loop-place.invariant.len))
        | in_default w ↦ subst (λ v. vec_len v ≤ place + 1) (sym w.values-is) (omega (arith, c.loop-place.invariant.len))
      ];
      room = elim c.match-value.branch [
        | in-Some+in_ok-add w ↦ ap (λ v. vec_capacity v) w.values-is ∙ w.in_ok-add.ensures.capacity ∙ c.loop-place.invariant.room
        | in_default w ↦ ap (λ v. vec_capacity v) w.values-is ∙ c.loop-place.invariant.room
      ];
    }

pub returns-clause-rise : goal.returns-clause-rise
returns-clause-rise g c = subst TextsRise (sym c.from_vec.ensures) c.loop-place.invariant.listed.rise

pub returns-clause-exact : goal.returns-clause-exact
returns-clause-exact g c =
    let object = c.args.object.now in
    let items = g.V.ItemView.items c.args.items.now in
    let place = c.loop-place.place in
    let empty : drop place items ≡ [] = drop_all place items (omega (arith, c.len-place-end.ensures, c.loop-place-test.false)) in
    let none : AreNone (is_put object (drop place items) []) = λ v. ap (λ is. (cell_in is object (Some v)).on || list_any (puts_in v) []) empty in
    λ v. ap (list_any (λ value. same_text value v)) c.from_vec.ensures ∙ listed_all object.kind (is_put object (drop place items) []) (is_taken object (drop place items) []) _ c.loop-place.values.items none c.loop-place.invariant.listed v
