-- An object's entries and items, where fields stand for a state: they are the object's part of its history.
use Rattle.std.proofs.Common.{◌≡◌, ℕ, ◌≤◌, ◌^◌, Bool, true, false, IsTrue, All, List, [], ◌∷◌, filter, map, Option, None, Result, Ok, Err, cond, refl, sym, ap, ap₂, subst, ◌∙◌}
use Rattle.std.specs.Result.{IfOk}
use Rattle.std.proofs.Math.Bool.{and-true}
use Rattle.std.proofs.lemmas.List.Elements.{All-weaker, filter_agree, filter_passes}
use denote.Struct.Props.{props}
use Rattle.std.proofs.Math.Logic.{∥∥₁_elim}
use Rattle.op_base.specs.declared.message.Entry.{Entry}
use Rattle.op_base.specs.declared.name.ObjectId.{ObjectId}
use Rattle.op_base.specs.declared.outcome.Item.{Item}
use Rattle.causal_model.specs.Covering.{store_keeps, store_covers}
use Rattle.causal_model.specs.Items.{cell_in}
use Rattle.causal_model.specs.Log.{log_of, message_of, kept_log}
use Rattle.causal_model.specs.Parts.{is_on, ArePartsOf}
use Rattle.causal_model.specs.Query.{IsWithin}
use Rattle.causal_model.specs.State.{State}
use Rattle.counter_types.proofs.Sums.{settled_is_in_range}
use Rattle.polog.specs.Standing.{AreLoggedOf}
use Rattle.polog.specs.Value.{is_of}
use Rattle.replica_core.specs.Standing.{Fields, Standing, StandsForSome}

-- a fact of a value that there may be gives another
pub if_ok : {T E : Type 0} {P Q : T → Type 0} (r : Result T E) → IfOk r P → ((x : T) → P x → Q x) → IfOk r Q
if_ok (Ok x) p f = f x p
if_ok (Err e) p f = tt

-- an object's own entries are acts on it
pub are_own : (object : ObjectId) (all entries : List Entry) → entries ≡ filter (is_of object) all → All (λ e. IsTrue (is_on object (message_of e))) entries
are_own object all entries is =
    subst (All (λ e. IsTrue (is_on object (message_of e)))) (sym is)
    (All-weaker (λ e. is_of object e ≡ true) (λ e. IsTrue (is_on object (message_of e))) (λ e own. and-true (is_of object e) ∙ own) (filter (is_of object) all) (filter_passes (is_of object) all))

-- the messages of the entries that pass are the messages that pass
map-filter : {A B : Type 0} (f : A → B) (p : B → Bool) (xs : List A) → map f (filter (λ x. p (f x)) xs) ≡ filter p (map f xs)
map-filter f p [] = refl
map-filter f p (x ∷ xs) = elim (p (f x)) as (λ b. map f (cond b (x ∷ filter (λ y. p (f y)) xs) (filter (λ y. p (f y)) xs)) ≡ cond b (f x ∷ filter p (map f xs)) (filter p (map f xs))) [
  | true ↦ ap (λ zs. f x ∷ zs) (map-filter f p xs)
  | false ↦ map-filter f p xs
]

-- so as messages they are those of the log that are on the object
pub own_messages : (object : ObjectId) (all entries : List Entry) → entries ≡ filter (is_of object) all → map message_of entries ≡ filter (is_on object) (map message_of all)
own_messages object all entries is =
    ap (map message_of) (is ∙ filter_agree (is_of object) (λ e. is_on object (message_of e)) (λ e. sym (and-true (is_of object e))) all) ∙ map-filter message_of (is_on object) all

-- an object's entries are those of the history's log
pub logged_in : (f : Fields) (object : ObjectId) (entries : List Entry) → AreLoggedOf object f.log entries → (s : State) → Standing f s → map message_of entries ≡ filter (is_on object) (log_of s.history)
logged_in f object entries logged s stands =
    logged store_keeps store_covers f.n f.me s.history.present.messages stands.log
    ∙ ap₂ (λ n me. filter (is_on object) (kept_log store_keeps store_covers n me s.history.present.messages)) (sym stands.of_store) (sym stands.of_member)

module _ (f : Fields) (object : ObjectId) (entries : List Entry) (items : List Item) (logged : AreLoggedOf object f.log entries)
    (cells : (value : Option (List ℕ)) → cell_in items object value ≡ cell_in f.items.items object value) where
  pub parts_of : (s : State) → Standing f s → ArePartsOf s.history object (map message_of entries) items
  parts_of s stands = record {
    logged = logged_in f object entries logged s stands;
    settled = λ value. cells value ∙ stands.items.cells object value;
  }

  -- the sum of its cell is in the range that a counter's query asks for
  pub sum_in : ∥ StandsForSome f ∥₁ → f.limit ≤ 1000000 → IsWithin (2 ^ 126) (cell_in items object None).sum
  sum_in some few = ∥∥₁_elim some (hlevel props) (λ x. settled_is_in_range f.w f.limit x.0.history object (map message_of entries) items x.1.is_state.is_history x.1.is_state.is_limited few (parts_of x.0 x.1))
