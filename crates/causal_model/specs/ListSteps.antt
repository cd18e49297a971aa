-- What one message more does to a list's kept elements, step by step: its element is put in, and each entry of the log that
-- is stable now takes elements out. An element is known by its id alone here, as the list has it.
use Rattle.std.specs.Prelude.{ℕ, ◌+◌, Bool, true, false, not, ◌&&◌, ◌||◌, ◌==◌, nat_lt, nat_le, List, [], ◌∷◌, map, fold, take, Option, Some, None, if◌then◌else◌}
use Rattle.std.specs.List.{list_any}
use Rattle.std.specs.Ordering.{is_lt}
use Rattle.op_base.specs.Message.{number}
use Rattle.op_base.specs.Object.{same_object}
use Rattle.op_base.specs.Order.{text_cmp}
use Rattle.op_base.specs.Timestamp.{entry}
use Rattle.op_base.specs.declared.message.Message.{Message}
use Rattle.op_base.specs.declared.name.ObjectId.{ObjectId}
use Rattle.op_base.specs.declared.operation.Act.{Act}
use Rattle.op_base.specs.declared.operation.Act.TheVariants.{Ins}
use Rattle.op_base.specs.declared.operation.Op.{Op}
use Rattle.op_base.specs.declared.operation.Op.TheVariants as op
use Rattle.op_base.specs.declared.tag.ElementId.{ElementId}
use Rattle.causal_model.specs.Acts.{acts_on}
use Rattle.causal_model.specs.Elements.{same_element, takes_out, rank_of}
use Rattle.causal_model.specs.History.{History, epoch_of}
use Rattle.causal_model.specs.KeptElements.{KeptElement, kept_elements}
use Rattle.causal_model.specs.Log.{log_of, stripped_of}
use Rattle.causal_model.specs.Order.{happened_before}

-- whether an element was put in before a message of an epoch was sent, as far as its sender knew
abbrev pub had_seen : ℕ → Message → ElementId → Bool
had_seen epoch m id =
    nat_lt id.epoch epoch || ((id.epoch == epoch) && (not ((id.origin == m.origin) && (id.seq == number m)) && nat_le id.seq (entry m.tag id.origin)))

-- whether a message of an epoch takes the element of an id out
abbrev pub takes : ObjectId → ℕ → Message → ElementId → Bool
takes object epoch d id = acts_on object (takes_out id) d.op && had_seen epoch d id

-- ---- an element is put in

-- past those of higher rank, which were put at the same place later or stand below such
abbrev pub put_down : KeptElement → List KeptElement → List KeptElement
put_down e [] = e ∷ []
put_down e (other ∷ others) = if is_lt (text_cmp e.rank other.rank) then other ∷ put_down e others else e ∷ other ∷ others

-- an element of this depth
abbrev pub at_depth : KeptElement → ℕ → KeptElement
at_depth e depth = record { id = e.id; rank = e.rank; depth = depth; value = e.value; gone = e.gone }

-- behind the one of an id
abbrev pub put_behind : ElementId → KeptElement → List KeptElement → List KeptElement
put_behind id e [] = []
put_behind id e (other ∷ others) =
    if same_element other.id id then other ∷ put_down (at_depth e (other.depth + 1)) others else other ∷ put_behind id e others

-- Whether a value can be put there: at the head, or behind an element that is kept, isn't gone, and that the message had seen
-- while no logged message that it had seen takes that out.
abbrev pub is_open : ObjectId → ℕ → List Message → Message → List KeptElement → Option ElementId → Bool
is_open object epoch log m kept None = true
is_open object epoch log m kept (Some id) =
    list_any (λ e. same_element e.id id && not e.gone) kept && had_seen epoch m id && not (list_any (λ d. takes object epoch d id && happened_before d m) log)

-- at the head, or behind the element of the place
abbrev pub put_at : Option ElementId → KeptElement → List KeptElement → List KeptElement
put_at None e kept = put_down e kept
put_at (Some id) e kept = put_behind id e kept

-- the value that an act puts into a list, and its place
abbrev pub insertion_of : Act → Option (List ℕ × Option ElementId)
insertion_of (Ins v place) = Some (v, place)
insertion_of act = None

-- the same of an operation, where it is one of this object
abbrev pub insertion_in : ObjectId → Op → Option (List ℕ × Option ElementId)
insertion_in object op.NoOp = None
insertion_in object (op.Update u) = if same_object u.object object then insertion_of u.act else None

-- the element that a message of an epoch puts in
abbrev pub new_element : ℕ → Message → List ℕ → KeptElement
new_element epoch m v =
    record { id = record { epoch = epoch; origin = m.origin; seq = number m }; rank = rank_of (record { epoch = epoch; message = m }); depth = 1; value = v; gone = false }

-- an insertion puts its element in where its place is open, and nothing else does
abbrev pub kept_put : ObjectId → ℕ → List Message → Message → List KeptElement → Option (List ℕ × Option ElementId) → List KeptElement
kept_put object epoch log m kept None = kept
kept_put object epoch log m kept (Some put) = if is_open object epoch log m kept put.1 then put_at put.1 (new_element epoch m put.0) kept else kept

-- so the elements of an object with what a message puts in
abbrev pub kept_with : ObjectId → ℕ → List Message → Message → List KeptElement → List KeptElement
kept_with object epoch log m kept = kept_put object epoch log m kept (insertion_in object m.op)

-- ---- elements are taken out

-- a gone element goes where the one behind it doesn't stand below it
abbrev pub keep : KeptElement → List KeptElement → List KeptElement
keep e [] = if e.gone then [] else e ∷ []
keep e (next ∷ others) = if e.gone && not (nat_lt e.depth next.depth) then next ∷ others else e ∷ next ∷ others

-- so all do, from behind
abbrev pub pruned : List KeptElement → List KeptElement
pruned [] = []
pruned (e ∷ others) = keep e (pruned others)

-- an element, gone where a message takes it out
abbrev pub marked : ObjectId → ℕ → Message → KeptElement → KeptElement
marked object epoch d e = record { id = e.id; rank = e.rank; depth = e.depth; value = e.value; gone = e.gone || takes object epoch d e.id }

-- what a stable message leaves
abbrev pub kept_without : ObjectId → ℕ → Message → List KeptElement → List KeptElement
kept_without object epoch d kept = pruned (map (marked object epoch d) kept)

-- ---- what is asked

-- whether a kept element is shown: it isn't gone, and no entry of the log takes it out
abbrev pub is_shown : ObjectId → ℕ → List Message → KeptElement → Bool
is_shown object epoch log e = not e.gone && not (list_any (λ d. takes object epoch d e.id) log)

-- ---- by a history

-- the kept elements when a message has come: with its own, and without what the first k of the entries that go from the log
-- take out
abbrev pub kept_moved : History → Message → ℕ → ObjectId → List KeptElement
kept_moved h m k object =
    fold (λ kept d. kept_without object (epoch_of h) d kept) (kept_with object (epoch_of h) (log_of h) m (kept_elements h object)) (take k (stripped_of h m))
