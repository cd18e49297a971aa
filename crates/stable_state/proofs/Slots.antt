-- The items in slots while one slot changes, or some.
use Rattle.std.proofs.Common.{◌≡◌, ◌≢◌, ℕ, ◌<◌, All, AllPairs, List, [], ◌∷◌, ◌++◌, map, length, take, drop, get_or, refl, sym, ap, ◌∙◌, arith}
use Rattle.std.specs.Prelude.{Option, Some, None, unwrap_or, option_map, slice_get, is_some, IsSome}
use Rattle.std.specs.List.{insert, remove_range}
use Rattle.std.proofs.lemmas.List.{length-map, get_or-map, take-map, drop-map, map-append}
use Rattle.std.proofs.lemmas.List.Elements.{All-head, All-tail}
use Rattle.std.proofs.lemmas.Option.{slice_get-map}
use Rattle.std.proofs.lemmas.Cmp.{tied_itself}
use Rattle.std.specs.declared.cmp.Ordering.{Ordering}
use Rattle.std.specs.declared.cmp.Ordering.TheVariants.{Less, Equal}
use Rattle.op_base.specs.Order.{item_cmp}
use Rattle.op_base.specs.declared.outcome.Item.{Item}
use Rattle.causal_model.specs.Items.{Rise}
use Rattle.causal_model.proofs.Cells.Places.{places_total}
use Rattle.slab.specs.Slab.{Slab, get, ContainsKey}
use Rattle.stable_state.specs.Slots.{no_item, item_in, items_in}

-- ---- slots that keep what they had

map_same : {X Y : Type 0} (f g : X → Y) (xs : List X) → All (λ x. f x ≡ g x) xs → map f xs ≡ map g xs
map_same f g [] same = refl
map_same f g (x ∷ xs) same = λ i. All-head (λ y. f y ≡ g y) x xs same i ∷ map_same f g xs (All-tail (λ y. f y ≡ g y) x xs same) i

-- a slot has the same item in two slabs
abbrev pub IsKept : Slab Item → Slab Item → ℕ → Type 0
IsKept old new slot = get new slot ≡ get old slot

module _ (old new : Slab Item) (order : List ℕ) (kept : All (IsKept old new) order) where
  pub items_kept : items_in new order ≡ items_in old order
  items_kept = map_same (item_in new) (item_in old) order (λ k d l. ap (λ o. unwrap_or o no_item) (kept k d l))

  pub held_kept : All (ContainsKey old) order → All (ContainsKey new) order
  held_kept held = λ k d l. ap is_some (kept k d l) ∙ held k d l

-- ---- what is in a slot

pub item_is : (slots : Slab Item) (slot : ℕ) (item : Item) → get slots slot ≡ Some item → item_in slots slot ≡ item
item_is slots slot item is = ap (λ o. unwrap_or o no_item) is

-- a slot that is held has its item
pub held_item : (slots : Slab Item) (slot : ℕ) → ContainsKey slots slot → get slots slot ≡ Some (item_in slots slot)
held_item slots slot held = by (get slots slot) held where
  by : (o : Option Item) → IsSome o → o ≡ Some (unwrap_or o no_item)
  by None held = cc
  by (Some item) held = refl

pub item_at_place : (slots : Slab Item) (order : List ℕ) (k d : ℕ) (e : Item) → k < length order → get_or (items_in slots order) k e ≡ item_in slots (get_or order k d)
item_at_place slots order k d e l = get_or-map (item_in slots) order k d e l

-- the item in a slot of the order stands at its place
pub item_of_slot : (slots : Slab Item) (order : List ℕ) (place slot : ℕ) (item : Item) → slice_get order place ≡ Some slot → get slots slot ≡ Some item → slice_get (items_in slots order) place ≡ Some item
item_of_slot slots order place slot item at there = slice_get-map (item_in slots) order place ∙ ap (option_map (item_in slots)) at ∙ ap (λ (x : Item). Some x) (item_is slots slot item there)

-- ---- slots of rising items are apart

pub slots_apart : (slots : Slab Item) (order : List ℕ) → Rise (items_in slots order) → AllPairs (λ a b. a ≢ b) order
slots_apart slots order rise i j d less within same =
    let x = item_in slots (get_or order i d) in
    let cmp = λ (a b : Item). item_cmp a.object a.value b.object b.value in
    let first : get_or (items_in slots order) i no_item ≡ x = item_at_place slots order i d no_item (omega (arith, less, within)) in
    let second : get_or (items_in slots order) j no_item ≡ x = item_at_place slots order j d no_item within ∙ ap (item_in slots) (sym same) in
    let before : cmp x x ≡ Less = (λ k. cmp (sym first k) (sym second k)) ∙ rise i j no_item less (omega (arith, within, length-map order (item_in slots))) in
    differ before (tied_itself places_total (x.object, x.value)) where
      differ : {o : Ordering} → o ≡ Less → o ≡ Equal → ⊥
      differ less equal = cc

-- ---- edits of the order

pub items_in-insert : (slots : Slab Item) (order : List ℕ) (place slot : ℕ) → items_in slots (insert order place slot) ≡ insert (items_in slots order) place (item_in slots slot)
items_in-insert slots order place slot =
    map-append (item_in slots) (take place order) (slot ∷ drop place order)
    ∙ (λ k. sym (take-map (item_in slots) place order) k ++ item_in slots slot ∷ sym (drop-map (item_in slots) place order) k)

pub items_in-remove_range : (slots : Slab Item) (order : List ℕ) (from to : ℕ) → items_in slots (remove_range order from to) ≡ remove_range (items_in slots order) from to
items_in-remove_range slots order from to =
    map-append (item_in slots) (take from order) (drop to order)
    ∙ (λ k. sym (take-map (item_in slots) from order) k ++ sym (drop-map (item_in slots) to order) k)
