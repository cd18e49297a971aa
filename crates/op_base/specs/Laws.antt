-- Laws over the definitions, each the contract of a function that does nothing.
use Rattle.std.specs.Prelude.{◌≡◌, ◌↔◌, ℕ, List, ◌∷◌, ◌++◌, Option, Some, None, IsTrue}
use Rattle.std.specs.declared.cmp.Ordering.TheVariants.{Equal}
use Rattle.std.specs.Cmp.{IsTotalOrder}
use Rattle.op_base.specs.Name.{is_key, is_value, is_object, key_fault, value_fault, object_fault, kind_word}
use Rattle.op_base.specs.Reading.{object_of}
use Rattle.op_base.specs.Order.{item_cmp}
use Rattle.op_base.specs.declared.name.Kind.{Kind}
use Rattle.op_base.specs.declared.name.ObjectId.{ObjectId}

-- a text is a key exactly where it has no fault
abbrev pub KeysAreExact : Type 0
KeysAreExact = (bytes : List ℕ) → (IsTrue (is_key bytes) ↔ (key_fault bytes ≡ None))

-- a text is a value exactly where it has no fault
abbrev pub ValuesAreExact : Type 0
ValuesAreExact = (bytes : List ℕ) → (IsTrue (is_value bytes) ↔ (value_fault bytes ≡ None))

-- a text is an object exactly where it has no fault
abbrev pub ObjectsAreExact : Type 0
ObjectsAreExact = (bytes : List ℕ) → (IsTrue (is_object bytes) ↔ (object_fault bytes ≡ None))

-- a kind's word, a colon and a key are the text of the object of that kind with that key
abbrev pub ObjectsHaveTheirText : Type 0
ObjectsHaveTheirText = (kind : Kind) (key : List ℕ) → IsTrue (is_key key) → object_of (kind_word kind ++ 58 ∷ key) ≡ Some (record { kind = kind; key = key })

-- of two items one stands before the other, or they are tied, whichever way they are compared
abbrev pub ItemsAreInOneOrder : Type 0
ItemsAreInOneOrder = IsTotalOrder {K = ObjectId × Option (List ℕ)} (λ item other. item_cmp item.0 item.1 other.0 other.1)

-- items that are tied have the same object and the same value
abbrev pub ItemsAreTiedToThemselvesAlone : Type 0
ItemsAreTiedToThemselvesAlone =
    (object other : ObjectId) (value other_value : Option (List ℕ)) → item_cmp object value other other_value ≡ Equal → (object ≡ other) × (value ≡ other_value)
