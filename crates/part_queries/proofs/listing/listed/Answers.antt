use Rattle.std.proofs.Common.{◌≡◌, [], ◌∷◌, ◌+◌, ◌≤◌, ℕ, Bool, List, drop, length, refl, sym, ap, subst, ◌∙◌, Some, None, option_copied, arith}
use Rattle.std.specs.List.{list_any}
use Rattle.std.proofs.lemmas.Bool.{both_ways}
use Rattle.std.proofs.lemmas.List.{drop_all, drop-drop, length-drop}
use Rattle.op_base.specs.Name.{same_text}
use Rattle.op_base.specs.Object.{same_object}
use Rattle.op_base.specs.declared.outcome.Cell.{Cell}
use Rattle.causal_model.specs.Items.{Rise, cell_in}
use Rattle.causal_model.specs.Parts.{is_in}
use Rattle.causal_model.specs.Query.{TextsRise}
use Rattle.causal_model.proofs.Answers.Rules.{object_from_same}
use Rattle.part_queries.specs.Finds.{is_put, is_taken, or_put, or_taken, with_mark, AreRising, AreListed, AreNone}
use Rattle.part_queries.specs.Headed.{founds}
use Rattle.part_queries.proofs.NextValue.{listed_all, slice_from, rising_from}
use Rattle.part_queries.proofs.Cells.{listed_but_item, listed_past_item, later_behind, rise_of_rest, item_before, item_is, same_itself}
use Rattle.part_queries.proofs.listing.listed.Given as given
use Rattle.part_queries.proofs.listing.listed.Goals as goal
use Rattle.part_queries.proofs.listing.listed.Goals.{in-Some+then-is_of+in_ok-done, in-Some+else-is_of, in_default}

pub loop-place-preserved : goal.loop-place-preserved
loop-place-preserved g c =
    let object = c.args.object.now in
    let kind = object.kind in
    let items = g.V.ItemView.items c.args.items.now in
    let finds = c.args.finds.now in
    let whole : List ℕ → Bool = λ v. is_in kind (is_put object items (founds finds) v) (is_taken object items (founds finds) v) in
    let place = c.loop-place.place in
    let done = c.loop-place.done in
    let rest = drop (place + 1) items in
    let left = founds (drop done finds) in
    let old = c.loop-place.values.items in
    let it = item_before items place _ _ _ c.item_near-next.ensures in
    let x = it.0 in
    let so_far : AreListed kind (is_put object (x ∷ rest) left) (is_taken object (x ∷ rest) left) whole old = subst (λ r. AreListed kind (is_put object r left) (is_taken object r left) whole old) it.1 c.loop-place.invariant.listed in
    let rising : Rise (x ∷ rest) = subst Rise it.1 (rise_of_rest place items (g.met.V.ItemView.rise c.args.items.now)) in
    elim c.match-value.branch [
      | in-Some+then-is_of+in_ok-done w ↦
          let value = w.in-Some.value.now in
          let n = w.in_ok-done.field-0 in
          let on : List ℕ → Bool = λ v. (cell_in rest object (Some v)).on in
          let off : List ℕ → Bool = λ v. (cell_in rest object (Some v)).off in
          let own : x.object ≡ object = it.2 ∙ object_from_same c.item_near-next.result.0.now object (sym w.is_of.ensures ∙ w.if-is_of.true) in
          let valued : x.value ≡ Some value = it.3 ∙ ap option_copied w.in-Some.is in
          let start : AreListed kind (or_put (with_mark value c.item_near-next.result.2.on on) left) (or_taken (with_mark value c.item_near-next.result.2.off off) left) whole old =
          subst (λ (cell : Cell). AreListed kind (or_put (with_mark value cell.on on) left) (or_taken (with_mark value cell.off off) left) whole old) it.4
          (listed_but_item object x rest kind left whole old so_far value own valued rising) in
          let later = w.in_ok-done.ensures.listed on off whole
          (later_behind object x rest value own valued rising (λ (cell : Cell). cell.on) refl) (later_behind object x rest value own valued rising (λ (cell : Cell). cell.off) refl)
          (subst (λ fs. AreListed kind (or_put (with_mark value c.item_near-next.result.2.on on) fs) (or_taken (with_mark value c.item_near-next.result.2.off off) fs) whole old) (ap founds (sym (slice_from finds done))) start) in
          record {
            done = subst (λ m. m ≤ length finds) (sym w.done-is) (omega (arith, w.in_ok-done.ensures.count, ap length (slice_from finds done), length-drop done finds, c.loop-place.invariant.done));
            listed = subst (λ m. AreListed kind (is_put object rest (founds (drop m finds))) (is_taken object rest (founds (drop m finds))) whole c.match-value.values.items) (sym w.done-is)
                (subst (λ fs. AreListed kind (or_put on fs) (or_taken off fs) whole c.match-value.values.items) (ap founds (ap (drop n) (slice_from finds done) ∙ drop-drop n done finds))
                (subst (AreListed kind (or_put on _) (or_taken off _) whole) (ap (λ v. v.items) (sym w.values-is)) later));
          }
      | in-Some+else-is_of w ↦
          record {
            done = subst (λ n. n ≤ length finds) (sym w.done-is) c.loop-place.invariant.done;
            listed = subst (λ n. AreListed kind (is_put object rest (founds (drop n finds))) (is_taken object rest (founds (drop n finds))) whole c.match-value.values.items) (sym w.done-is)
                (subst (AreListed kind (is_put object rest left) (is_taken object rest left) whole) (ap (λ v. v.items) (sym w.values-is)) (listed_past_item object x rest kind left whole old so_far (λ v own valued.
                both_ways (same_object c.item_near-next.result.0.now object) (sym w.is_of.ensures ∙ w.if-is_of.false) (ap (λ o. same_object o object) (sym it.2 ∙ own) ∙ same_itself object))));
          }
      | in_default w ↦
          record {
            done = subst (λ n. n ≤ length finds) (sym w.done-is) c.loop-place.invariant.done;
            listed = subst (λ n. AreListed kind (is_put object rest (founds (drop n finds))) (is_taken object rest (founds (drop n finds))) whole c.match-value.values.items) (sym w.done-is)
                (subst (AreListed kind (is_put object rest left) (is_taken object rest left) whole) (ap (λ v. v.items) (sym w.values-is)) (listed_past_item object x rest kind left whole old so_far (λ v own valued.
                let none : Some v ≡ None = sym valued ∙ it.3 ∙ ap option_copied w.in_default.is in
                cc)));
          }
    ]

pub is_of-requires : goal.is_of-requires
is_of-requires g c = λ known.
    let items = g.V.ItemView.items c.args.items.now in
    let place = c.loop-place.place in
    let x = (item_before items place _ _ _ c.item_near-next.ensures).0 in
    sym (item_is items place _ _ _ c.item_near-next.ensures x) ∙ c.are_all_of-all.ensures known place x (omega (arith, c.len-place-end.ensures, c.loop-place-test.true))

pub put_item-requires : goal.put_item-requires
put_item-requires g c = subst AreRising (ap founds (sym (slice_from c.args.finds.now c.loop-place.done))) (rising_from c.args.finds.now c.loop-place.done c.requires)

pub put_finds-requires : goal.put_finds-requires
put_finds-requires g c = subst AreRising (ap founds (sym (slice_from c.args.finds.now c.loop-place.done))) (rising_from c.args.finds.now c.loop-place.done c.requires)

-- nothing is ahead at the end
at_end : (g : given.Over) (c : goal.After-from_vec g) → TextsRise c.put_finds.new.values.items × ((v : List ℕ) → list_any (λ value. same_text value v) c.put_finds.new.values.items
    ≡ is_in c.args.object.now.kind (is_put c.args.object.now (g.V.ItemView.items c.args.items.now) (founds c.args.finds.now) v) (is_taken c.args.object.now (g.V.ItemView.items c.args.items.now) (founds c.args.finds.now) v))
at_end g c =
    let object = c.args.object.now in
    let kind = object.kind in
    let items = g.V.ItemView.items c.args.items.now in
    let finds = c.args.finds.now in
    let whole : List ℕ → Bool = λ v. is_in kind (is_put object items (founds finds) v) (is_taken object items (founds finds) v) in
    let place = c.loop-place.place in
    let left = founds (drop c.loop-place.done finds) in
    let on : List ℕ → Bool = λ v. (cell_in (drop place items) object (Some v)).on in
    let off : List ℕ → Bool = λ v. (cell_in (drop place items) object (Some v)).off in
    let empty : drop place items ≡ [] = drop_all place items (omega (arith, c.len-place-end.ensures, c.loop-place-test.false)) in
    let none : AreNone on = λ v. ap (λ is. (cell_in is object (Some v)).on) empty in
    let none' : AreNone off = λ v. ap (λ is. (cell_in is object (Some v)).off) empty in
    let ended : AreListed kind on off whole _ = c.in_ok-put_finds.ensures on off whole none none'
    (subst (λ fs. AreListed kind (or_put on fs) (or_taken off fs) whole c.loop-place.values.items) (ap founds (sym (slice_from finds c.loop-place.done))) c.loop-place.invariant.listed) in
    (ended.rise, listed_all kind on off whole _ none ended)

pub returns-clause-rise : goal.returns-clause-rise
returns-clause-rise g c = subst TextsRise (sym c.from_vec.ensures) (at_end g c).0

pub returns-clause-exact : goal.returns-clause-exact
returns-clause-exact g c = λ v. ap (list_any (λ value. same_text value v)) c.from_vec.ensures ∙ (at_end g c).1 v
