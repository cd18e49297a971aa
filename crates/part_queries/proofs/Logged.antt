-- What entries of a log do to an object, entry by entry.
use Rattle.std.proofs.Common.{◌≡◌, ◌+◌, ◌<◌, Bool, true, false, ◌&&◌, ◌||◌, ℕ, List, length, get_or, take, map, refl, sym, ap, ◌∙◌}
use Rattle.std.specs.List.{list_any}
use Rattle.std.proofs.Math.Bool.{or_assoc}
use Rattle.std.proofs.lemmas.List.Folds.{list_any_more}
use Rattle.op_base.specs.Object.{same_object}
use Rattle.op_base.specs.declared.message.Entry.{Entry}
use Rattle.op_base.specs.declared.name.ObjectId.{ObjectId}
use Rattle.op_base.specs.declared.operation.Act.{Act}
use Rattle.causal_model.specs.Acts.{acts_on}
use Rattle.causal_model.specs.Log.{message_of}
use Rattle.causal_model.specs.Parts.{has_logged}
use Rattle.causal_model.proofs.Theory.Elements.{list_any-map}

-- whether an entry does such an act to an object
abbrev pub does : ObjectId → (Act → Bool) → Entry → Bool
does object passes e = same_object e.update.object object && passes e.update.act

pub logged_by_entries : (object : ObjectId) (passes : Act → Bool) (es : List Entry) → has_logged object (map message_of es) passes ≡ list_any (does object passes) es
logged_by_entries object passes es = list_any-map (λ m. acts_on object passes m.op) message_of es

-- one entry more
pub logged_more : (object : ObjectId) (passes : Act → Bool) (es : List Entry) (i : ℕ) (e : Entry) → i < length es → e ≡ get_or es i e
    → has_logged object (map message_of (take (i + 1) es)) passes ≡ (has_logged object (map message_of (take i es)) passes || does object passes e)
logged_more object passes es i e within is =
    logged_by_entries object passes (take (i + 1) es) ∙ list_any_more (does object passes) es i e within
    ∙ (λ k. sym (logged_by_entries object passes (take i es)) k || does object passes (sym is k))

does_same : (object : ObjectId) (passes : Act → Bool) (e : Entry) → same_object e.update.object object ≡ true → does object passes e ≡ passes e.update.act
does_same object passes e is = ap (λ b. b && passes e.update.act) is

does_other : (object : ObjectId) (passes : Act → Bool) (e : Entry) → same_object e.update.object object ≡ false → does object passes e ≡ false
does_other object passes e is = ap (λ b. b && passes e.update.act) is

or_none : (b : Bool) → (b || false) ≡ b
or_none true = refl
or_none false = refl

-- a mark, beside one of a cell, when an entry has come
module _ (on : Bool) (object : ObjectId) (passes : Act → Bool) (es : List Entry) (i : ℕ) (e : Entry) (within : i < length es) (is : e ≡ get_or es i e) (mark : Bool)
    (before : mark ≡ (on || has_logged object (map message_of (take i es)) passes)) where
  more : (mark || does object passes e) ≡ (on || has_logged object (map message_of (take (i + 1) es)) passes)
  more = ap (λ b. b || does object passes e) before ∙ or_assoc on _ _ ∙ ap (λ b. on || b) (sym (logged_more object passes es i e within is))

  pub mark_of_same : (done : Bool) → same_object e.update.object object ≡ true → done ≡ passes e.update.act → (mark || done) ≡ (on || has_logged object (map message_of (take (i + 1) es)) passes)
  mark_of_same done same passed = ap (λ b. mark || b) (passed ∙ sym (does_same object passes e same)) ∙ more

  pub mark_of_other : same_object e.update.object object ≡ false → mark ≡ (on || has_logged object (map message_of (take (i + 1) es)) passes)
  mark_of_other other = sym (or_none mark) ∙ ap (λ b. mark || b) (sym (does_other object passes e other)) ∙ more
