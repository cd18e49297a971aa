use Rattle.std.proofs.Common.{◌≡◌, ℕ, ◌+◌, ◌≤◌, Contains, [], ◌∷◌, ◌++◌, true, length, ap, sym, subst, ◌∙◌, length-append, arith}
use Rattle.std.specs.Prelude.{Some, vec_capacity}
use Rattle.std.specs.List.{insert}
use Rattle.std.proofs.lemmas.Bool.{both_ways}
use Rattle.std.proofs.lemmas.List.{length-map}
use Rattle.std.proofs.lemmas.List.Elements.{Contains-append_left}
use Rattle.causal_model.specs.Items.{Rise}
use Rattle.slab.specs.Slab.{slab_len, Updates}
use Rattle.stable_state.specs.Filled.{empties}
use Rattle.stable_state.specs.Slots.{item_in, items_in, IsOrdered}
use Rattle.stable_state.specs.Touched.{is_touched}
use Rattle.stable_state.proofs.Filled.{empties-put}
use Rattle.stable_state.proofs.Ordered.{items-insert, ordered-insert}
use Rattle.stable_state.proofs.Touched.{touched_in, touched_moves, stands-insert, touched-push}
use Rattle.stable_state.proofs.shelf.Shelf.insert.Goals as goal
use Rattle.stable_state.proofs.shelf.Shelf.insert.Goals.{then-item, else-item}

-- what the fields are where the branches meet
record Noted (c : goal.After-come) : Type 0 where
  slots : c.if-item.self-inside.slots ≡ c.self.inside.slots
  order : c.if-item.self-inside.order ≡ c.self.inside.order
  empties : c.if-item.self-inside.empties ≡ c.self.inside.empties
  more : (slot : ℕ) → Contains c.self.inside.touched.items slot → Contains c.if-item.self-inside.touched.items slot
  marked : c.args.item.cell.off ≡ true → c.if-item.self-inside.touched.items ≡ c.self.inside.touched.items ++ c.vacant_key-slot.result ∷ []
  room : vec_capacity c.self.inside.touched ≤ vec_capacity c.if-item.self-inside.touched
  len : length c.if-item.self-inside.touched.items ≤ length c.self.inside.touched.items + 1

noted : (c : goal.After-come) → Noted c
noted c =
    let s = c.self.inside in
    let slot = c.vacant_key-slot.result in
    elim c.if-item.branch [
      | then-item w ↦
          let is : c.if-item.self-inside.touched.items ≡ s.touched.items ++ slot ∷ [] = ap (λ i. i.touched.items) w.self-inside-is ∙ w.add.ensures.items in
          record {
            slots = ap (λ i. i.slots) w.self-inside-is;
            order = ap (λ i. i.order) w.self-inside-is;
            empties = ap (λ i. i.empties) w.self-inside-is;
            more = λ other has. subst (λ xs. Contains xs other) (sym is) (Contains-append_left s.touched.items (slot ∷ []) other has);
            marked = λ _. is;
            room = subst (λ i. vec_capacity s.touched ≤ vec_capacity i.touched) (sym w.self-inside-is) w.add.ensures.capacity;
            len = omega (arith, ap length is, length-append s.touched.items (slot ∷ []));
          }
      | else-item w ↦ record {
        slots = ap (λ i. i.slots) w.self-inside-is;
        order = ap (λ i. i.order) w.self-inside-is;
        empties = ap (λ i. i.empties) w.self-inside-is;
        more = λ other has. subst (λ i. Contains i.touched.items other) (sym w.self-inside-is) has;
        marked = λ off. absurd (both_ways c.args.item.cell.off w.if-item.false off);
        room = omega (arith, ap (λ i. vec_capacity i.touched) w.self-inside-is);
        len = omega (arith, ap (λ i. length i.touched.items) w.self-inside-is);
      }
    ]

changes : (c : goal.After-come) → Updates c.self.inside.slots c.insert_reserved.new.self c.vacant_key-slot.result (Some c.args.item)
changes c =
    let new = c.insert_reserved.new.self in
    let key = c.insert_reserved.ensures.key ∙ ap (λ slots. slots.vacant_key) (noted c).slots ∙ sym c.vacant_key-slot.ensures.value in
    subst (λ slots. Updates slots new c.vacant_key-slot.result (Some c.args.item)) (noted c).slots
    (subst (λ k. Updates c.if-item.self-inside.slots new k (Some c.args.item)) key (subst (λ item. Updates c.if-item.self-inside.slots new c.insert_reserved.result (Some item)) c.new.ensures c.insert_reserved.ensures.updates))

within : (c : goal.After-come) → c.args.gap.spot.place ≤ length c.self.inside.order.items
within c = omega (arith, c.requires.within, ap (λ shelved. length shelved.items) c.self.view_is, length-map c.self.inside.order.items (item_in c.self.inside.slots))

order_is : (c : goal.After-come) → c.insert-chunk.new.self.items ≡ insert c.self.inside.order.items c.args.gap.spot.place c.vacant_key-slot.result
order_is c = c.insert-chunk.ensures.items ∙ ap (λ order. insert order.items c.args.gap.spot.place c.vacant_key-slot.result) (noted c).order

items_are : (c : goal.After-come) → items_in c.insert_reserved.new.self c.insert-chunk.new.self.items ≡ insert (items_in c.self.inside.slots c.self.inside.order.items) c.args.gap.spot.place c.args.item
items_are c =
    let s = c.self.inside in
    ap (items_in c.insert_reserved.new.self) (order_is c)
    ∙ items-insert s.slots c.insert_reserved.new.self s.order.items c.args.gap.spot.place c.vacant_key-slot.result c.args.item c.self.invariant.ordered (within c) c.vacant_key-slot.ensures.vacant (changes c)

pub invariant_of-self : goal.invariant_of-self
invariant_of-self c =
    let s = c.self.inside in
    let new = c.insert_reserved.new.self in
    let len = c.insert_reserved.ensures.len ∙ ap (λ slots. slab_len slots + 1) (noted c).slots in
    let room : slab_len s.slots + 1 ≤ new.capacity = omega (arith, ap (λ shelved. shelved.spare) c.self.view_is, c.requires.spare, c.insert_reserved.ensures.capacity, ap (λ slots. slots.capacity) (noted c).slots) in
    let rise = subst (λ items. Rise (insert items c.args.gap.spot.place c.args.item)) (sym (ap (λ shelved. shelved.items) c.self.view_is)) c.requires.rise in
    record {
      ordered = subst (IsOrdered new) (sym (order_is c))
          (ordered-insert s.slots new s.order.items c.args.gap.spot.place c.vacant_key-slot.result c.args.item c.self.invariant.ordered (within c) c.vacant_key-slot.ensures.vacant (changes c) len room rise);
      counted = (noted c).empties ∙ c.self.invariant.counted ∙ sym (empties-put c.args.gap.spot.place c.args.item (items_in s.slots s.order.items) c.requires.filled) ∙ ap empties (sym (items_are c));
    }

pub returns-clause-items : goal.returns-clause-items
returns-clause-items c = items_are c ∙ ap (λ shelved. insert shelved.items c.args.gap.spot.place c.args.item) c.self.view_is

pub returns-clause-stay : goal.returns-clause-stay
returns-clause-stay c = λ object value t off.
    let s = c.self.inside in
    touched_moves object value s.slots c.insert_reserved.new.self s.touched.items c.if-item.self-inside.touched.items (noted c).more
    (stands-insert s.slots c.insert_reserved.new.self c.vacant_key-slot.result c.args.item c.vacant_key-slot.ensures.vacant (changes c) object value)
    (ap (λ shelved. is_touched shelved.touched object value) c.self.view_is ∙ t)

pub returns-clause-marked : goal.returns-clause-marked
returns-clause-marked c = λ off.
    let s = c.self.inside in
    let item = c.args.item in
    ap (λ slots. is_touched (touched_in c.insert_reserved.new.self slots) item.object item.value) ((noted c).marked off)
    ∙ touched-push c.insert_reserved.new.self s.touched.items c.vacant_key-slot.result item (changes c).changed

pub returns-clause-spare : goal.returns-clause-spare
returns-clause-spare c =
    let n = noted c in
    omega (
      arith,
      ap (λ shelved. shelved.spare) c.self.view_is,
      c.insert_reserved.ensures.len,
      c.insert_reserved.ensures.capacity,
      ap (λ slots. slab_len slots) n.slots,
      ap (λ slots. slots.capacity) n.slots,
      c.insert-chunk.ensures.spare,
      ap (λ order. order.spare) n.order,
      n.room,
      n.len,
    )
