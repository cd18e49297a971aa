use Rattle.std.proofs.Common.{◌≡◌, ℕ, ◌-◌, ◌<◌, true, None, Some, length, get_or, ap, sym, subst, ◌∙◌, arith}
use Rattle.std.specs.List.{HoldsAt}
use Rattle.std.proofs.lemmas.List.{get_or-map, length-map}
use Rattle.op_base.specs.declared.outcome.Item.{Item}
use Rattle.causal_model.specs.Items.{is_at}
use Rattle.slab.specs.Slab.{get}
use Rattle.stable_state.specs.Fields.{shelved}
use Rattle.stable_state.specs.Places.{IsGapFor}
use Rattle.stable_state.specs.Shelf.{Shelved}
use Rattle.stable_state.specs.declared.shelf.Shelf.TheInside.{Inside}
use Rattle.stable_state.proofs.Touched.{found_is_last, absent_is_last}
use Rattle.stable_state.proofs.shelf.Shelf.last_touched.Goals as goal

-- the item in the slot that was touched last
last_item : (s : Inside) (shown : Shelved) (len slot : ℕ) (item : Item) → shelved s ≡ shown → 0 < length shown.touched → len ≡ length s.touched.items → slot ≡ get_or s.touched.items (len - 1) slot → Some item ≡ get s.slots slot
    → get_or shown.touched (length shown.touched - 1) None ≡ Some item
last_item s shown len slot item is some last at held =
    let touched = s.touched.items in
    let long : length shown.touched ≡ length touched = ap (λ v. length v.touched) (sym is) ∙ length-map touched (get s.slots) in
    (λ i. get_or (sym is i).touched (long i - 1) None)
    ∙ get_or-map (get s.slots) touched (length touched - 1) slot None (omega (arith, some, long))
    ∙ ap (get s.slots) ((λ i. get_or touched (sym last i - 1) slot) ∙ sym at) ∙ sym held

pub returns-in-Ok-clause-last : goal.returns-in-Ok-clause-last
returns-in-Ok-clause-last c =
    let s = c.self.inside in
    let shown = c.args.self.now in
    let item = c.item-item.result.now in
    let place = c.in-Ok.spot.place in
    let is = last_item s shown c.len.result c.index.result.now item c.self.view_is c.requires (omega (arith, c.len.ensures, s.touched.ok.0)) c.index.ensures (ap Some c.item-item.ensures ∙ c.in_ok-ranked.ensures) in
    found_is_last shown c.requires item is place c.in-Ok.ensures.within
    (subst (λ v. HoldsAt (λ x. is_at item.object v x ≡ true) shown.items place) c.as_ref.ensures.value c.in-Ok.ensures.found)

pub returns-in-Err-clause-last : goal.returns-in-Err-clause-last
returns-in-Err-clause-last c =
    let s = c.self.inside in
    let shown = c.args.self.now in
    let item = c.item-item.result.now in
    let place = c.in-Err.field-0.spot.place in
    let is = last_item s shown c.len.result c.index.result.now item c.self.view_is c.requires (omega (arith, c.len.ensures, s.touched.ok.0)) c.index.ensures (ap Some c.item-item.ensures ∙ c.in_ok-ranked.ensures) in
    absent_is_last shown c.requires item is place (subst (λ v. IsGapFor item.object v shown.items place) c.as_ref.ensures.value c.in-Err.ensures.absent)
