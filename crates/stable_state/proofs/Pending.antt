-- Whether an entry puts in what an item says, by parts of the log.
use Rattle.std.proofs.Common.{◌≡◌, ℕ, Bool, true, false, ◌||◌, ◌-◌, length, List, Option, take, drop, map, not, sym, ap, ◌∙◌}
use Rattle.std.specs.List.{list_any}
use Rattle.std.proofs.lemmas.List.{take-append-drop, take_rest}
use Rattle.std.proofs.lemmas.List.Folds.{list_any-append}
use Rattle.op_base.specs.declared.message.Entry.{Entry}
use Rattle.op_base.specs.declared.name.ObjectId.{ObjectId}
use Rattle.op_base.specs.declared.outcome.Item.{Item}
use Rattle.causal_model.specs.Acts.{acts_on}
use Rattle.causal_model.specs.CellSteps.{is_put_in, puts_in}
use Rattle.causal_model.specs.Log.{message_of}
use Rattle.causal_model.proofs.Theory.Elements.{list_any-map}
use Rattle.stable_state.specs.Settling.{put_in_by, can_lose_mark, waits}

-- whether an entry puts in what an object's value says, or turns the object on
abbrev pub does_put_in : ObjectId → Option (List ℕ) → Entry → Bool
does_put_in object value e = acts_on object (puts_in value) (message_of e).op

-- an element passes a test where one of those ahead of a place does, or one of the others
any_of_parts : {A : Type 0} (p : A → Bool) (xs : List A) (k : ℕ) → (list_any p (take k xs) || list_any p (drop k xs)) ≡ list_any p xs
any_of_parts p xs k = sym (list_any-append p (take k xs) (drop k xs)) ∙ ap (list_any p) (take-append-drop k xs)

-- so one does where one ahead of the place does
pub any_ahead : {A : Type 0} (p : A → Bool) (xs : List A) (k : ℕ) → true ≡ list_any p (take k xs) → true ≡ list_any p xs
any_ahead p xs k is = ap (λ ahead. ahead || list_any p (drop k xs)) is ∙ any_of_parts p xs k

-- and where none does, the others tell
pub any_behind : {A : Type 0} (p : A → Bool) (xs : List A) (k : ℕ) (b : Bool) → false ≡ list_any p (take k xs) → b ≡ list_any p (take (length xs - k) (drop k xs)) → b ≡ list_any p xs
any_behind p xs k b none is =
    is
    ∙ ap (list_any p) (take_rest xs k)
    ∙ ap (λ ahead. ahead || list_any p (drop k xs)) none
    ∙ any_of_parts p xs k

-- an item that can lose its off mark waits where an entry puts in what it says
pub waits_for_entry : (item : Item) (value : Option (List ℕ)) (entries : List Entry) (b : Bool) → value ≡ item.value → true ≡ can_lose_mark item
    → b ≡ list_any (does_put_in item.object value) entries → b ≡ waits (put_in_by entries) item
waits_for_entry item value entries b same can is =
    let log = map message_of entries in
    is
    ∙ sym (list_any-map (λ m. acts_on item.object (puts_in value) m.op) message_of entries)
    ∙ ap (is_put_in log item.object) same
    ∙ ap (λ c. not c || is_put_in log item.object item.value) can
