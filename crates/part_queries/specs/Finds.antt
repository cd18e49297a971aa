-- What is found of the values of an object, one find an item or entry: words of private contracts.
use Rattle.std.specs.Prelude.{◌≡◌, ℕ, Bool, true, false, ◌&&◌, ◌||◌, List, Option, Some, None, All, AllPairs}
use Rattle.std.specs.List.{list_any}
use Rattle.std.specs.Ordering.{is_lt}
use Rattle.std.specs.declared.cmp.Ordering.TheVariants.{Less}
use Rattle.op_base.specs.Name.{same_text}
use Rattle.op_base.specs.Order.{text_cmp}
use Rattle.op_base.specs.declared.name.Kind.{Kind}
use Rattle.op_base.specs.declared.name.ObjectId.{ObjectId}
use Rattle.op_base.specs.declared.operation.Act.{Act}
use Rattle.op_base.specs.declared.outcome.Item.{Item}
use Rattle.causal_model.specs.Items.{cell_in}
use Rattle.causal_model.specs.Parts.{puts, takes, is_in}
use Rattle.causal_model.specs.Query.{TextsRise}
use Rattle.part_queries.specs.declared.found.Found.{Found}

-- whether a find is of a value, and puts it in
abbrev pub puts_in : List ℕ → Found → Bool
puts_in value found = same_text found.value.now value && found.marks.put

-- whether a find is of a value, and takes it out
abbrev pub takes_out : List ℕ → Found → Bool
takes_out value found = same_text found.value.now value && found.marks.taken

-- what an act says of each value: nothing, or what the find says
abbrev pub IsFoundOf : Act → Option Found → Type 0
IsFoundOf act None = (value : List ℕ) → (puts (Some value) act ≡ false) × (takes (Some value) act ≡ false)
IsFoundOf act (Some found) = (value : List ℕ) → (puts (Some value) act ≡ puts_in value found) × (takes (Some value) act ≡ takes_out value found)

-- a find's value is not before another's
abbrev pub IsNotBefore : Found → Found → Type 0
IsNotBefore a b = is_lt (text_cmp a.value.now b.value.now) ≡ false

-- finds rise by value, each value once
abbrev pub AreRising : List Found → Type 0
AreRising finds = AllPairs (λ (a b : Found). text_cmp a.value.now b.value.now ≡ Less) finds

-- whether a value passes, or a find puts it in
abbrev pub or_put : (List ℕ → Bool) → List Found → List ℕ → Bool
or_put passes finds value = passes value || list_any (puts_in value) finds

-- whether a value passes, or a find takes it out
abbrev pub or_taken : (List ℕ → Bool) → List Found → List ℕ → Bool
or_taken passes finds value = passes value || list_any (takes_out value) finds

-- whether an item of an object or a find puts in a value
abbrev pub is_put : ObjectId → List Item → List Found → List ℕ → Bool
is_put object items finds = or_put (λ value. (cell_in items object (Some value)).on) finds

-- whether an item of an object or a find takes out a value
abbrev pub is_taken : ObjectId → List Item → List Found → List ℕ → Bool
is_taken object items finds = or_taken (λ value. (cell_in items object (Some value)).off) finds

-- whether a value is the one with a mark, or passes
abbrev pub with_mark : List ℕ → Bool → (List ℕ → Bool) → List ℕ → Bool
with_mark marked mark passes value = (same_text marked value && mark) || passes value

-- each value that passes is behind one
abbrev pub IsBehind : List ℕ → (List ℕ → Bool) → Type 0
IsBehind value passes = (v : List ℕ) → passes v ≡ true → text_cmp value v ≡ Less

-- no value passes
abbrev pub AreNone : (List ℕ → Bool) → Type 0
AreNone passes = (v : List ℕ) → passes v ≡ false

-- Values are listed so far: of all that are in, each but those that are still ahead with their marks, which are of greater
-- values.
pub record AreListed (kind : Kind) (put taken whole : List ℕ → Bool) (values : List (List ℕ)) : Type 0 where
  pub rise : TextsRise values
  pub put_ahead : (v : List ℕ) → put v ≡ true → All (λ value. text_cmp value v ≡ Less) values
  pub exact : (v : List ℕ) → (list_any (λ value. same_text value v) values || is_in kind (put v) (taken v)) ≡ whole v

-- Values are listed past an item's find: it and the finds up to it are no longer ahead, and each of them that is in is
-- listed, whatever else is ahead of greater values.
abbrev pub AreListedPast : Kind → Found → List Found → List Found → List (List ℕ) → List (List ℕ) → Type 0
AreListedPast kind own finds left old new = (on off whole : List ℕ → Bool) → IsBehind own.value.now on → IsBehind own.value.now off
    → AreListed kind (or_put (with_mark own.value.now own.marks.put on) finds) (or_taken (with_mark own.value.now own.marks.taken off) finds) whole old
    → AreListed kind (or_put on left) (or_taken off left) whole new
