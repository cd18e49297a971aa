-- Messages that put an element into a list: the early ones as they come and go, and what one does to the log.
use Rattle.std.proofs.Common.{◌≡◌, ℕ, zero, suc, ◌+◌, ◌<◌, ◌≤◌, Bool, true, false, not, ◌&&◌, IsTrue, All, Contains, Option, List, [], ◌∷◌, ◌++◌, length, get_or, if◌then◌else◌, refl, sym, ap, subst, ◌∙◌, inl, inr, append-nil, arith}
use Rattle.std.specs.List.{filter}
use Rattle.std.proofs.lemmas.Bool.{and_right, cases_Bool, cond-false}
use Rattle.std.proofs.lemmas.List.Elements.{All-nil, All-cons}
use Rattle.op_base.specs.Object.{same_object}
use Rattle.op_base.specs.Operation.{has_act}
use Rattle.op_base.specs.declared.message.Message.{Message}
use Rattle.op_base.specs.declared.name.Kind.{Kind}
use Rattle.op_base.specs.declared.name.Kind.TheVariants.{AwSet, RwSet, EwFlag, DwFlag, MvReg, Counter, RCounter}
use Rattle.op_base.specs.declared.name.Kind.TheVariants as kinds
use Rattle.op_base.specs.declared.name.ObjectId.{ObjectId}
use Rattle.op_base.specs.declared.operation.Act.{Act}
use Rattle.op_base.specs.declared.operation.Act.TheVariants.{Ins}
use Rattle.op_base.specs.declared.operation.Op.{Op}
use Rattle.op_base.specs.declared.operation.Op.TheVariants as op
use Rattle.op_base.specs.declared.operation.Update.{Update}
use Rattle.op_base.specs.declared.tag.ElementId.{ElementId}
use Rattle.op_base.specs.declared.tag.MessageId.{MessageId}
use Rattle.causal_model.specs.Covering.{store_keeps, store_covers, keeps_act, covers_act}
use Rattle.causal_model.specs.Early.{stands_before, put_early, has_id, without}
use Rattle.causal_model.specs.Elements.{puts_at}
use Rattle.causal_model.specs.Log.{is_kept, is_covered_by, kept_log, pruned_log}
use Rattle.causal_model.specs.Order.{happened_before}
use Rattle.causal_model.proofs.Theory.Finds.{filtered_pass_fewer}
use Rattle.causal_model.proofs.Cells.ItemMaps.{filter_all_of}
use Rattle.causal_model.proofs.Answers.Rules.{object_from_same}
use Rattle.replica_core.specs.Insertions.{is_insertion, element_room, insertions}

-- ---- how many there are

insertions-cons : (e : Message) (early : List Message) → insertions (e ∷ early) ≡ insertions early + element_room e.op
insertions-cons e early =
    let rest = filter (λ m. is_insertion m.op) early in
    elim (is_insertion e.op) as (λ b. length (if b then e ∷ rest else rest) ≡ length rest + (if b then 1 else 0)) [ true ↦ omega arith | false ↦ omega arith ]

-- a message that becomes early
pub insertions-put_early : (m : Message) (early : List Message) → insertions (put_early m early) ≡ insertions early + element_room m.op
insertions-put_early m [] = insertions-cons m []
insertions-put_early m (e ∷ early) =
    let rest = insertions-put_early m early in
    elim (stands_before m e) as (λ before. insertions (if before then m ∷ e ∷ early else e ∷ put_early m early) ≡ insertions (e ∷ early) + element_room m.op) [
      | true ↦ insertions-cons m (e ∷ early)
      | false ↦ omega (arith, rest, insertions-cons e (put_early m early), insertions-cons e early)
    ]

-- there are no more of them than messages
pub insertions_are_few : (early : List Message) → insertions early ≤ length early
insertions_are_few [] = omega arith
insertions_are_few (e ∷ early) =
    let rest = insertions_are_few early in
    let room : element_room e.op ≤ 1 = elim (is_insertion e.op) as (λ b. (if b then 1 else 0) ≤ 1) [ true ↦ omega arith | false ↦ omega arith ] in
    omega (arith, rest, room, insertions-cons e early)

module _ (id : MessageId) where
  -- without those of an id
  pub insertions_without : (early : List Message) → insertions (without id early) ≤ insertions early
  insertions_without early = filtered_pass_fewer (λ m. not (has_id id m)) (λ m. is_insertion m.op) early

  taken_at : (early : List Message) (k : ℕ) (d : Message) → k < length early → has_id id (get_or early k d) ≡ true → insertions (without id early) + element_room (get_or early k d).op ≤ insertions early
  taken_at [] k d l is = absurd (omega (arith, l))
  taken_at (x ∷ xs) zero d l is =
      let gone : without id (x ∷ xs) ≡ without id xs = cond-false (not (has_id id x)) (x ∷ without id xs) (without id xs) (ap not is) in
      omega (arith, insertions_without xs, ap insertions gone, insertions-cons x xs)
  taken_at (x ∷ xs) (suc k) d l is =
      let rest = taken_at xs k d (omega (arith, l)) is in
      elim (not (has_id id x)) as (λ b. insertions (if b then x ∷ without id xs else without id xs) + element_room (get_or xs k d).op ≤ insertions (x ∷ xs)) [
        | true ↦ omega (arith, rest, insertions-cons x (without id xs), insertions-cons x xs)
        | false ↦ omega (arith, rest, insertions-cons x xs)
      ]

  -- once the message of an id is taken out, the others and it are no more
  pub taken_insertion : (early : List Message) (m : Message) → Contains early m → has_id id m ≡ true → insertions (without id early) + element_room m.op ≤ insertions early
  taken_insertion early m has is =
      subst (λ (x : Message). insertions (without id early) + element_room x.op ≤ insertions early) has.2
      (taken_at early has.0 m has.1 (subst (λ x. has_id id x ≡ true) (sym has.2) is))

-- ---- what one is

list_of_insertion : (kind : Kind) (v : List ℕ) (place : Option ElementId) → IsTrue (has_act kind (Ins v place)) → kind ≡ kinds.List
list_of_insertion AwSet v place of = cc
list_of_insertion RwSet v place of = cc
list_of_insertion EwFlag v place of = cc
list_of_insertion DwFlag v place of = cc
list_of_insertion MvReg v place of = cc
list_of_insertion Counter v place of = cc
list_of_insertion RCounter v place of = cc
list_of_insertion kinds.List v place of = refl

-- an insertion is an act of a list
pub insertion_is_of_list : (u : Update) → puts_at (λ place. true) u.act ≡ true → u.object.kind ≡ kinds.List
insertion_is_of_list u = by u.act refl where
  by : (act : Act) → u.act ≡ act → puts_at (λ place. true) act ≡ true → u.object.kind ≡ kinds.List
  by (Ins v place) is puts = list_of_insertion u.object.kind v place (subst (λ a. IsTrue (has_act u.object.kind a)) is u.of_kind)
  by act is puts = cc

-- so no log keeps it
pub insertion_is_not_kept : (u : Update) → puts_at (λ place. true) u.act ≡ true → store_keeps u ≡ false
insertion_is_not_kept u puts = ap (λ kind. keeps_act kind u.act) (insertion_is_of_list u puts) ∙ by u.act puts where
  by : (act : Act) → puts_at (λ place. true) act ≡ true → keeps_act kinds.List act ≡ false
  by (Ins v place) puts = refl
  by act puts = cc

-- and it covers nothing
insertion_covers_nothing : (u : Update) (o : Op) → puts_at (λ place. true) u.act ≡ true → is_covered_by store_covers o (op.Update u) ≡ false
insertion_covers_nothing u op.NoOp puts = refl
insertion_covers_nothing u (op.Update earlier) puts = elim (cases_Bool (same_object u.object earlier.object)) [
  | inl same ↦
      let kind : earlier.object.kind ≡ kinds.List = ap (λ (o : ObjectId). o.kind) (sym (object_from_same u.object earlier.object same)) ∙ insertion_is_of_list u puts in
      and_right (same_object u.object earlier.object && store_keeps earlier) (covers_act earlier.object.kind u.act earlier.act) (ap (λ k. covers_act k u.act earlier.act) kind)
  | inr other ↦ ap (λ b. b && store_keeps earlier && covers_act earlier.object.kind u.act earlier.act) other
]

all_of : {X : Type 0} (P : X → Type 0) (xs : List X) → ((x : X) → P x) → All P xs
all_of P [] each = All-nil P
all_of P (x ∷ xs) each = All-cons P x xs (each x) (all_of P xs each)

-- so it leaves the log
pub insertion_leaves_log : (n me : ℕ) (messages : List Message) (m : Message) (u : Update) → m.op ≡ op.Update u → puts_at (λ place. true) u.act ≡ true
    → pruned_log store_keeps store_covers n me messages m ≡ kept_log store_keeps store_covers n me messages
insertion_leaves_log n me messages m u is puts =
    let log = kept_log store_keeps store_covers n me messages in
    let stays : Message → Bool = λ e. not (is_covered_by store_covers e.op m.op && happened_before e m) in
    let each : (e : Message) → stays e ≡ true
    = λ e. ap (λ b. not (b && happened_before e m)) (ap (is_covered_by store_covers e.op) is ∙ insertion_covers_nothing u e.op puts) in
    let unkept : is_kept store_keeps m.op ≡ false = ap (is_kept store_keeps) is ∙ insertion_is_not_kept u puts in
    ap (λ kept. filter stays log ++ kept) (cond-false (is_kept store_keeps m.op) (m ∷ []) [] unkept) ∙ append-nil _ ∙ filter_all_of stays log (all_of (λ e. stays e ≡ true) log each)
