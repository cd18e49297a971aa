-- What single words name: members, clients, objects, values, bytes, amounts, numbers of members, and elements of lists.
use Rattle.std.specs.Prelude.{ℕ, ◌-◌, Bool, true, false, ◌&&◌, ◌==◌, nat_lt, List, [], ◌∷◌, length, take, slice_index, Result, Ok, Err, Option, Some, None, ok_or, codes, if◌then◌else◌}
use Rattle.std.specs.List.{list_all, slice_split}
use Rattle.std.specs.Result.{result_ok}
use Rattle.hex.specs.Hex.{decode_of}
use Rattle.op_base.specs.Name.{is_value, same_text}
use Rattle.op_base.specs.Operation.{is_element}
use Rattle.op_base.specs.Reading.{object_of}
use Rattle.op_base.specs.declared.name.Kind.{Kind}
use Rattle.op_base.specs.declared.name.Kind.TheVariants as kinds
use Rattle.op_base.specs.declared.name.ObjectId.{ObjectId}
use Rattle.op_base.specs.declared.tag.ElementId.{ElementId}
use Rattle.script_lang.specs.Numbers.{is_digit, number_of}
use Rattle.script_lang.specs.Fault.{◌>>=◌}
use Rattle.script_lang.specs.Headers.{is_from_to}
use Rattle.script_lang.specs.declared.fault.Fault.{Fault}
use Rattle.script_lang.specs.declared.fault.Fault.TheVariants as fault

-- a number where it is below n
abbrev pub below : ℕ → Option ℕ → Result ℕ Fault
below n None = Err fault.Member
below n (Some r) = if nat_lt r n then Ok r else Err fault.Member

-- the member of n that a word names; of n clients too
abbrev pub member_of : ℕ → List ℕ → Result ℕ Fault
member_of n word = below n (number_of word)

-- the object that a word names
abbrev pub object_in : List ℕ → Result ObjectId Fault
object_in word = ok_or (object_of word) fault.Object

-- whether a kind is that of lists
abbrev pub is_list : Kind → Bool
is_list kinds.List = true
is_list kind = false

-- the list that a word names
abbrev pub list_in : List ℕ → Result ObjectId Fault
list_in word = object_in word >>= λ object. if is_list object.kind then Ok object else Err fault.Object

-- the value that a word is
abbrev pub value_in : List ℕ → Result (List ℕ) Fault
value_in word = if is_value word then Ok word else Err fault.Value

-- the bytes that a word writes in hexadecimal
abbrev pub bytes_in : List ℕ → Result (List ℕ) Fault
bytes_in word = ok_or (result_ok (decode_of word)) fault.Value

-- the amount, or the number of a message, that a word is
abbrev pub amount_in : List ℕ → Result ℕ Fault
amount_in word = ok_or (number_of word) fault.Number

-- how many members a word says, 1 to 16
abbrev pub size_in : List ℕ → Result ℕ Fault
size_in word = amount_in word >>= λ n. if is_from_to 1 16 n then Ok n else Err fault.Number

-- a point, which parts the numbers of an id
abbrev pub is_point : ℕ → Bool
is_point b = b == 46

-- an id, where an element can have it
abbrev pub element_where : ElementId → Result ElementId Fault
element_where id = if is_element id then Ok id else Err fault.Number

-- the id whose epoch, member and number these words are
abbrev pub element_from : List (List ℕ) → Result ElementId Fault
element_from (epoch ∷ origin ∷ seq ∷ []) =
    amount_in epoch >>= λ epoch. amount_in origin >>= λ origin. amount_in seq >>= λ seq.
    element_where (record { epoch = epoch; origin = origin; seq = seq })
element_from words = Err fault.Number

-- the id that a word is: three numbers, parted by points
abbrev pub element_in : List ℕ → Result ElementId Fault
element_in word = element_from (slice_split is_point word)

-- the place that a word is: the head, or behind an element
abbrev pub place_in : List ℕ → Result (Option ElementId) Fault
place_in word = if same_text word (codes "head") then Ok None else element_in word >>= λ id. Ok (Some id)

-- whether a word is one or more digits with a colon behind them
abbrev pub is_client_word : List ℕ → Bool
is_client_word word =
    nat_lt 1 (length word) && (slice_index word (length word - 1) == 58) && list_all is_digit (take (length word - 1) word)

-- the digits of such a word
abbrev pub client_digits : List ℕ → Option (List ℕ)
client_digits word = if is_client_word word then Some (take (length word - 1) word) else None
