-- What an operation that is kept gives the cell of an object and a value, by the object's kind; and the settled cell as what
-- all settled operations give, with its marks settled.
use Rattle.std.proofs.Common.{◌≡◌, ℕ, Bool, true, false, ◌&&◌, ℤ, pos, ◌+ℤ◌, List, refl, sym, ap, ◌∙◌, inl, inr, Option, Some, None, if◌then◌else◌}
use mathlib.Core.Bool.{and-true, and-false}
use Rattle.std.specs.Cmp.{tied_then, unsigned_ties}
use Rattle.std.specs.List.{filter, list_any, slice_index_or}
use Rattle.std.proofs.Math.IntN.{+ℤ_idl}
use Rattle.std.specs.Ordering.{is_eq, nat_cmp}
use Rattle.std.specs.Option.{option_cmp}
use Rattle.std.specs.Cmp.Lexicographic.{texts_ties}
use Rattle.std.proofs.lemmas.Bool.{cases_Bool}
use Rattle.std.proofs.lemmas.List.Folds.{fold-map}
use Rattle.op_base.specs.Name.{same_text}
use Rattle.op_base.specs.Object.{kind_place, same_object}
use Rattle.op_base.specs.Order.{text_cmp, object_cmp, item_cmp}
use Rattle.op_base.specs.declared.name.ObjectId.{ObjectId}
use Rattle.op_base.specs.declared.name.Kind.{Kind}
use Rattle.op_base.specs.declared.name.Kind.TheVariants.{AwSet, RwSet, EwFlag, DwFlag, MvReg, RCounter}
use Rattle.op_base.specs.declared.name.Kind.TheVariants as kinds
use Rattle.op_base.specs.declared.operation.Act.{Act}
use Rattle.op_base.specs.declared.operation.Act.TheVariants.{Add, Rmv, Enable, Disable, Write, Inc, Dec, Clear, Del}
use Rattle.op_base.specs.declared.operation.Update.{Update}
use Rattle.op_base.specs.declared.operation.Op.{Op}
use Rattle.op_base.specs.declared.operation.Op.TheVariants as op
use Rattle.op_base.specs.declared.outcome.Cell.{Cell}
use Rattle.causal_model.specs.Acts.{acts_on, value_of, is_add_of, is_rmv_of, is_write_of, is_enable, is_disable, amount_of, share_of}
use Rattle.causal_model.specs.CellSteps.{with_act}
use Rattle.causal_model.specs.Covering.{keeps_act, store_keeps}
use Rattle.causal_model.specs.History.{Event, is_act_on}
use Rattle.causal_model.specs.Items.{zero_cell}
use Rattle.causal_model.specs.Log.{is_kept}
use Rattle.causal_model.specs.Query.{counter_sum}
use Rattle.causal_model.specs.Settled.{on_cell, sum_cell}
use Rattle.causal_model.proofs.Cells.Cells.{restrict, marks, gather, zero_join, gather-marks, gather-on_cells, gather_same, gather_none, restrict_both, fold-sums, cell_of}
use Rattle.causal_model.proofs.Answers.Rules.{object_from_same}

-- ---- an item is at a place exactly where its object and its value are the same

objects_tie : (a b : ObjectId) → same_object a b ≡ is_eq (object_cmp a b)
objects_tie a b = (λ i. unsigned_ties (kind_place a.kind) (kind_place b.kind) i && texts_ties a.key b.key i) ∙ tied_then (nat_cmp (kind_place a.kind) (kind_place b.kind)) (text_cmp a.key b.key)

-- whether an act names a value, or none
abbrev pub names : Option (List ℕ) → Act → Bool
names value act = is_eq (option_cmp text_cmp (value_of act) value)

pub place_parts : (a b : ObjectId) (v w : Option (List ℕ)) → is_eq (item_cmp a v b w) ≡ (same_object a b && is_eq (option_cmp text_cmp v w))
place_parts a b v w = sym (tied_then (object_cmp a b) (option_cmp text_cmp v w)) ∙ ap (λ t. t && is_eq (option_cmp text_cmp v w)) (sym (objects_tie a b))

-- ---- what a kept act gives

abbrev pub put_cell : Kind → Option (List ℕ) → Act → Cell
put_cell kind value act = restrict (keeps_act kind act && names value act) (with_act act zero_cell)

-- what an operation gives where it is kept
abbrev pub kept_cell : ObjectId → Option (List ℕ) → Op → Cell
kept_cell object value o = restrict (is_kept store_keeps o) (cell_of object value o)

pub kept_is_put : (object : ObjectId) (value : Option (List ℕ)) (u : Update) → kept_cell object value (op.Update u) ≡ restrict (same_object u.object object) (put_cell object.kind value u.act)
kept_is_put object value u =
    let given : Cell = with_act u.act zero_cell in
    let same : Bool = same_object u.object object in
    let kept : Bool = store_keeps u in
    ap (λ b. restrict kept (restrict b given)) (place_parts u.object object (value_of u.act) value) ∙ elim (cases_Bool same) [
      | inl one ↦
          let kind : kept ≡ keeps_act object.kind u.act = ap (λ o. keeps_act o.kind u.act) (object_from_same u.object object one) in
          (λ i. restrict (kind i) (restrict (one i && names value u.act) given)) ∙ restrict_both (keeps_act object.kind u.act) (names value u.act) given
          ∙ sym (ap (λ b. restrict b (put_cell object.kind value u.act)) one)
      | inr other ↦ (λ i. restrict kept (restrict (other i && names value u.act) given)) ∙ nothing kept ∙ sym (ap (λ b. restrict b (put_cell object.kind value u.act)) other)
    ] where
      nothing : (b : Bool) → restrict b zero_cell ≡ zero_cell
      nothing true = refl
      nothing false = refl

one_mark : (b : Bool) → restrict b (marks true false) ≡ marks b false
one_mark true = refl
one_mark false = refl

off_mark : (b : Bool) → restrict b (marks false true) ≡ marks false b
off_mark true = refl
off_mark false = refl

text_mark : (x v : List ℕ) → restrict (is_eq (text_cmp x v)) (marks true false) ≡ marks (same_text x v) false
text_mark x v = ap (λ b. restrict b (marks true false)) (sym (texts_ties x v)) ∙ one_mark (same_text x v)

text_off : (x v : List ℕ) → restrict (is_eq (text_cmp x v)) (marks false true) ≡ marks false (same_text x v)
text_off x v = ap (λ b. restrict b (marks false true)) (sym (texts_ties x v)) ∙ off_mark (same_text x v)

pub awset_puts : (v : List ℕ) (act : Act) → put_cell AwSet (Some v) act ≡ on_cell (is_add_of v act)
awset_puts v (Add x) = text_mark x v
awset_puts v act = refl

pub mvreg_puts : (v : List ℕ) (act : Act) → put_cell MvReg (Some v) act ≡ on_cell (is_write_of v act)
mvreg_puts v (Write x) = text_mark x v
mvreg_puts v act = refl

pub rwset_puts : (v : List ℕ) (act : Act) → put_cell RwSet (Some v) act ≡ marks (is_add_of v act) (is_rmv_of v act)
rwset_puts v (Add x) = text_mark x v
rwset_puts v (Rmv x) = text_off x v
rwset_puts v act = refl

pub ewflag_puts : (act : Act) → put_cell EwFlag None act ≡ on_cell (is_enable act)
ewflag_puts Enable = refl
ewflag_puts act = refl

pub dwflag_puts : (act : Act) → put_cell DwFlag None act ≡ marks (is_enable act) (is_disable act)
dwflag_puts Enable = refl
dwflag_puts Disable = refl
dwflag_puts act = refl

pub rcounter_puts : (act : Act) → put_cell RCounter None act ≡ sum_cell (amount_of act)
rcounter_puts (Inc a) = ap sum_cell (+ℤ_idl (amount_of (Inc a)))
rcounter_puts (Dec a) = ap sum_cell (+ℤ_idl (amount_of (Dec a)))
rcounter_puts act = refl

-- no act gives a mark or a sum to a value of a kind without values, or to an object of a kind with values

pub awset_object : (act : Act) → put_cell AwSet None act ≡ zero_cell
awset_object (Add x) = refl
awset_object act = refl

pub rwset_object : (act : Act) → put_cell RwSet None act ≡ zero_cell
rwset_object (Add x) = refl
rwset_object act = refl

pub mvreg_object : (act : Act) → put_cell MvReg None act ≡ zero_cell
mvreg_object (Write x) = refl
mvreg_object act = refl

pub ewflag_value : (v : List ℕ) (act : Act) → put_cell EwFlag (Some v) act ≡ zero_cell
ewflag_value v Enable = refl
ewflag_value v act = refl

pub dwflag_value : (v : List ℕ) (act : Act) → put_cell DwFlag (Some v) act ≡ zero_cell
dwflag_value v Enable = refl
dwflag_value v act = refl

pub rcounter_value : (v : List ℕ) (act : Act) → put_cell RCounter (Some v) act ≡ zero_cell
rcounter_value v (Inc a) = refl
rcounter_value v act = refl

pub list_object : (act : Act) → put_cell kinds.List None act ≡ zero_cell
list_object (Del x) = refl
list_object Clear = refl
list_object act = refl

pub list_value : (v : List ℕ) (act : Act) → put_cell kinds.List (Some v) act ≡ zero_cell
list_value v (Del x) = refl
list_value v Clear = refl
list_value v act = refl

-- ---- what events give, where a test lets them

on_when : (same b t : Bool) → restrict t (restrict same (on_cell b)) ≡ on_cell ((same && b) && t)
on_when true b true = ap on_cell (sym (and-true b))
on_when true b false = ap on_cell (sym (and-false b))
on_when false b true = refl
on_when false b false = refl

marks_when : (same b c t : Bool) → restrict t (restrict same (marks b c)) ≡ marks ((same && b) && t) ((same && c) && t)
marks_when true b c true = sym (λ i. marks (and-true b i) (and-true c i))
marks_when true b c false = sym (λ i. marks (and-false b i) (and-false c i))
marks_when false b c true = refl
marks_when false b c false = refl

sum_when : (same t : Bool) (z : ℤ) → restrict t (restrict same (sum_cell z)) ≡ sum_cell (if t then (if same then z else pos 0) else pos 0)
sum_when true true z = refl
sum_when false true z = refl
sum_when true false z = refl
sum_when false false z = refl

pub nothing_when : (t : Bool) → restrict t zero_cell ≡ zero_cell
nothing_when true = refl
nothing_when false = refl

module _ (object : ObjectId) (value : Option (List ℕ)) where
  on_given : (passes : Act → Bool) → ((act : Act) → put_cell object.kind value act ≡ on_cell (passes act)) → (o : Op) (t : Bool) → restrict t (kept_cell object value o) ≡ on_cell (acts_on object passes o && t)
  on_given passes puts op.NoOp t = nothing_when t
  on_given passes puts (op.Update u) t = ap (restrict t) (kept_is_put object value u ∙ ap (restrict (same_object u.object object)) (puts u.act)) ∙ on_when (same_object u.object object) (passes u.act) t

  marks_given : (passes takes : Act → Bool) → ((act : Act) → put_cell object.kind value act ≡ marks (passes act) (takes act)) → (o : Op) (t : Bool) → restrict t (kept_cell object value o) ≡ marks (acts_on object passes o && t) (acts_on object takes o && t)
  marks_given passes takes puts op.NoOp t = nothing_when t
  marks_given passes takes puts (op.Update u) t = ap (restrict t) (kept_is_put object value u ∙ ap (restrict (same_object u.object object)) (puts u.act)) ∙ marks_when (same_object u.object object) (passes u.act) (takes u.act) t

  sum_given : ((act : Act) → put_cell object.kind value act ≡ sum_cell (amount_of act)) → (o : Op) (t : Bool) → restrict t (kept_cell object value o) ≡ sum_cell (if t then share_of object o else pos 0)
  sum_given puts op.NoOp true = refl
  sum_given puts op.NoOp false = refl
  sum_given puts (op.Update u) t = ap (restrict t) (kept_is_put object value u ∙ ap (restrict (same_object u.object object)) (puts u.act)) ∙ sum_when (same_object u.object object) t (amount_of u.act)

  none_given : ((act : Act) → put_cell object.kind value act ≡ zero_cell) → (o : Op) (t : Bool) → restrict t (kept_cell object value o) ≡ zero_cell
  none_given puts op.NoOp t = nothing_when t
  none_given puts (op.Update u) t = ap (restrict t) (kept_is_put object value u ∙ ap (restrict (same_object u.object object)) (puts u.act) ∙ nothing_when (same_object u.object object)) ∙ nothing_when t

module _ (object : ObjectId) (value : Option (List ℕ)) (s : Event → Bool) (es : List Event) where
  -- what events give where the test holds
  abbrev pub given : Cell
  given = gather (λ e. restrict (s e) (kept_cell object value e.message.op)) es

  pub given_on : (passes : Act → Bool) → ((act : Act) → put_cell object.kind value act ≡ on_cell (passes act)) → given ≡ on_cell (list_any (λ e. is_act_on object passes e && s e) es)
  given_on passes puts = gather_same _ (λ e. on_cell (is_act_on object passes e && s e)) es (λ e. on_given object value passes puts e.message.op (s e)) ∙ gather-on_cells (λ e. is_act_on object passes e && s e) es

  pub given_marks : (passes takes : Act → Bool) → ((act : Act) → put_cell object.kind value act ≡ marks (passes act) (takes act))
      → given ≡ marks (list_any (λ e. is_act_on object passes e && s e) es) (list_any (λ e. is_act_on object takes e && s e) es)
  given_marks passes takes puts =
      gather_same _ (λ e. marks (is_act_on object passes e && s e) (is_act_on object takes e && s e)) es (λ e. marks_given object value passes takes puts e.message.op (s e)) ∙ gather-marks (λ e. is_act_on object passes e && s e) (λ e. is_act_on object takes e && s e) es

  pub given_sum : ((act : Act) → put_cell object.kind value act ≡ sum_cell (amount_of act)) → given ≡ sum_cell (counter_sum object (filter s es))
  given_sum puts =
      let share : Event → ℤ = λ e. share_of object e.message.op in
      gather_same _ (λ e. sum_cell (if s e then share e else pos 0)) es (λ e. sum_given object value puts e.message.op (s e))
      ∙ sym (ap sum_cell (fold-map (λ sum o. sum +ℤ share_of object o) (λ (e : Event). e.message.op) (pos 0) (filter s es)) ∙ fold-sums share s (pos 0) es ∙ zero_join (gather (λ e. sum_cell (if s e then share e else pos 0)) es))

  pub given_none : ((act : Act) → put_cell object.kind value act ≡ zero_cell) → given ≡ zero_cell
  given_none puts = gather_none _ es (λ k d l. none_given object value puts (slice_index_or es k d).message.op (s (slice_index_or es k d)))
