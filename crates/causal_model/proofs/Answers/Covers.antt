-- What the acts of each kind put in and take out, and which of them cover such an act.
use Rattle.std.proofs.Common.{◌≡◌, ℕ, Bool, true, false, ◌&&◌, ◌||◌, pos, List, refl, sym, ap, subst, ◌∙◌, inl, inr, Option, Some, None}
use Rattle.std.specs.Cmp.Lexicographic.{bytes_decides}
use Rattle.std.proofs.lemmas.Bool.{cases_Bool, and_parts, and_left, or_left, or_right, cond-true, cond-false, true≢false, false≢true}
use Rattle.op_base.specs.Name.{same_text}
use Rattle.op_base.specs.Object.{same_object}
use Rattle.op_base.specs.Operation.{has_act}
use Rattle.op_base.specs.declared.name.ObjectId.{ObjectId}
use Rattle.op_base.specs.declared.name.Kind.{Kind}
use Rattle.op_base.specs.declared.name.Kind.TheVariants.{AwSet, RwSet, EwFlag, DwFlag, MvReg, RCounter}
use Rattle.op_base.specs.declared.operation.Act.{Act}
use Rattle.op_base.specs.declared.operation.Act.TheVariants.{Add, Rmv, Clear, Enable, Disable, Write, Inc, Dec, Ins, Del}
use Rattle.op_base.specs.declared.operation.Update.{Update}
use Rattle.op_base.specs.declared.operation.Op.{Op}
use Rattle.op_base.specs.declared.operation.Op.TheVariants as op
use Rattle.causal_model.specs.Acts.{acts_on, is_add_of, is_rmv_of, is_write_of, is_write, is_clear, is_enable, is_disable, value_of, same_value, amount_of, share_of}
use Rattle.causal_model.specs.Covering.{keeps_act, covers_act, store_covers}
use Rattle.causal_model.specs.Log.{is_covered_by}
use Rattle.causal_model.specs.Parts.{puts}
use Rattle.causal_model.proofs.Answers.Rules.{object_from_same}

-- ---- tests of acts on an object

-- an update of an object of a kind has an act of the kind
fits_kind : (object : ObjectId) (kind : Kind) → object.kind ≡ kind → (u : Update) → same_object u.object object ≡ true → has_act kind u.act ≡ true
fits_kind object kind e u one = subst (λ k. has_act k u.act ≡ true) (ap (λ (z : ObjectId). z.kind) (object_from_same u.object object one) ∙ e) u.of_kind

-- tests that agree on the acts of an object's kind pass the same operations
pub acts_on_agree : (object : ObjectId) (kind : Kind) → object.kind ≡ kind → (p q : Act → Bool) → ((act : Act) → has_act kind act ≡ true → p act ≡ q act) → (o : Op) → acts_on object p o ≡ acts_on object q o
acts_on_agree object kind e p q same op.NoOp = refl
acts_on_agree object kind e p q same (op.Update u) = elim (cases_Bool (same_object u.object object)) [
  | inr other ↦ ap (λ b. b && p u.act) other ∙ sym (ap (λ b. b && q u.act) other)
  | inl one ↦ ap (λ b. same_object u.object object && b) (same u.act (fits_kind object kind e u one))
]

pub acts_on-or : (object : ObjectId) (p q : Act → Bool) (o : Op) → acts_on object (λ act. p act || q act) o ≡ (acts_on object p o || acts_on object q o)
acts_on-or object p q op.NoOp = refl
acts_on-or object p q (op.Update u) = one (same_object u.object object) (p u.act) (q u.act) where
  one : (a b c : Bool) → (a && (b || c)) ≡ ((a && b) || (a && c))
  one true b c = refl
  one false b c = refl

pub acts_on_none : (object : ObjectId) (o : Op) → acts_on object (λ act. false) o ≡ false
acts_on_none object op.NoOp = refl
acts_on_none object (op.Update u) = one (same_object u.object object) where
  one : (a : Bool) → (a && false) ≡ false
  one true = refl
  one false = refl

-- What covers an operation on an object of a kind that passes a test, where each act that passes is logged, and a second
-- test says which acts of the kind cover it.
module _ (object : ObjectId) (kind : Kind) (e : object.kind ≡ kind) (passes covering : Act → Bool) (kept : (act : Act) → passes act ≡ true → keeps_act kind act ≡ true) (covers : (later act : Act) → has_act kind later ≡ true → passes act ≡ true → covers_act kind later act ≡ covering later) where
  update_is_covered : (u l : Update) → u.object ≡ object → passes u.act ≡ true → store_covers l u ≡ (same_object l.object object && covering l.act)
  update_is_covered u l same t = elim (cases_Bool (same_object l.object object)) [
    | inr other ↦ ap (λ b. (b && keeps_act u.object.kind u.act) && covers_act u.object.kind l.act u.act) (ap (same_object l.object) same ∙ other) ∙ sym (and_left _ _ other)
    | inl one ↦
        let at_kind : u.object.kind ≡ kind = ap (λ (z : ObjectId). z.kind) same ∙ e in
        ap (λ b. (b && keeps_act u.object.kind u.act) && covers_act u.object.kind l.act u.act) (ap (same_object l.object) same ∙ one)
        ∙ ap (λ k. keeps_act k u.act && covers_act k l.act u.act) at_kind
        ∙ ap (λ b. b && covers_act kind l.act u.act) (kept u.act t) ∙ covers l.act u.act (fits_kind object kind e l one) t ∙ sym (ap (λ b. b && covering l.act) one)
  ]

  pub covered_is : (o later : Op) → acts_on object passes o ≡ true → is_covered_by store_covers o later ≡ acts_on object covering later
  covered_is op.NoOp later t = absurd (false≢true t)
  covered_is (op.Update u) op.NoOp t = refl
  covered_is (op.Update u) (op.Update l) t =
      let both = and_parts (same_object u.object object) (passes u.act) t in
      update_is_covered u l (object_from_same u.object object both.0) both.1

-- ---- what each kind's acts put in

-- the acts of a kind that put in a value, or turn on a flag
abbrev pub puts_as : Kind → Option (List ℕ) → Act → Bool
puts_as AwSet (Some value) act = is_add_of value act
puts_as RwSet (Some value) act = is_add_of value act
puts_as MvReg (Some value) act = is_write_of value act
puts_as EwFlag None act = is_enable act
puts_as DwFlag None act = is_enable act
puts_as kind value act = false

or-false : (b : Bool) → (b || false) ≡ b
or-false true = refl
or-false false = refl

pub puts_is : (kind : Kind) (value : Option (List ℕ)) (act : Act) → has_act kind act ≡ true → puts value act ≡ puts_as kind value act
puts_is AwSet (Some v) (Add x) t = or-false (same_text x v)
puts_is RwSet (Some v) (Add x) t = or-false (same_text x v)
puts_is kind (Some v) (Add x) t = absurd (false≢true t)
puts_is MvReg (Some v) (Write x) t = refl
puts_is kind (Some v) (Write x) t = absurd (false≢true t)
puts_is EwFlag None Enable t = refl
puts_is DwFlag None Enable t = refl
puts_is kind None Enable t = absurd (false≢true t)
puts_is kind value act t = refl

-- ---- what covers them

-- which acts of a kind cover an act that puts in or takes out, beside those that put in or take out themselves
module _ (v : List ℕ) where
  set_act_names : (act : Act) → (is_add_of v act || is_rmv_of v act) ≡ true → value_of act ≡ Some v
  set_act_names (Add x) t = ap Some ((bytes_decides x v).0 (sym (or-false (same_text x v)) ∙ t))
  set_act_names (Rmv x) t = ap Some ((bytes_decides x v).0 t)
  set_act_names Clear t = absurd (false≢true t)
  set_act_names Enable t = absurd (false≢true t)
  set_act_names Disable t = absurd (false≢true t)
  set_act_names (Write x) t = absurd (false≢true t)
  set_act_names (Inc a) t = absurd (false≢true t)
  set_act_names (Dec a) t = absurd (false≢true t)
  set_act_names (Ins x p) t = absurd (false≢true t)
  set_act_names (Del x) t = absurd (false≢true t)

  awset_covering : (later : Act) → has_act AwSet later ≡ true → (is_clear later || same_value (value_of later) (Some v)) ≡ (is_add_of v later || (is_rmv_of v later || is_clear later))
  awset_covering (Add x) t = sym (or-false (same_text x v))
  awset_covering (Rmv x) t = sym (or-false (same_text x v))
  awset_covering Clear t = refl
  awset_covering later t = absurd (false≢true t)

  rwset_covering : (later : Act) → has_act RwSet later ≡ true → (is_clear later || same_value (value_of later) (Some v)) ≡ (is_clear later || (is_add_of v later || is_rmv_of v later))
  rwset_covering (Add x) t = sym (or-false (same_text x v))
  rwset_covering (Rmv x) t = refl
  rwset_covering Clear t = refl
  rwset_covering later t = absurd (false≢true t)

  pub awset_covers : (later act : Act) → has_act AwSet later ≡ true → is_add_of v act ≡ true → covers_act AwSet later act ≡ (is_add_of v later || (is_rmv_of v later || is_clear later))
  awset_covers later act fits t = ap (λ o. is_clear later || same_value (value_of later) o) (set_act_names act (or_left (is_add_of v act) (is_rmv_of v act) t)) ∙ awset_covering later fits

  pub rwset_covers : (later act : Act) → has_act RwSet later ≡ true → (is_add_of v act || is_rmv_of v act) ≡ true → covers_act RwSet later act ≡ (is_clear later || (is_add_of v later || is_rmv_of v later))
  rwset_covers later act fits t = ap (λ o. is_clear later || same_value (value_of later) o) (set_act_names act t) ∙ rwset_covering later fits

  pub mvreg_covers : (later act : Act) → has_act MvReg later ≡ true → is_write_of v act ≡ true → covers_act MvReg later act ≡ (is_write_of v later || (is_write later || is_clear later))
  mvreg_covers (Write x) act fits t = sym (or_right (same_text x v) true refl)
  mvreg_covers Clear act fits t = refl
  mvreg_covers later act fits t = absurd (false≢true fits)

  pub awset_keeps : (act : Act) → is_add_of v act ≡ true → keeps_act AwSet act ≡ true
  awset_keeps (Add x) t = refl
  awset_keeps act t = absurd (false≢true t)

  pub rwset_keeps : (act : Act) → (is_add_of v act || is_rmv_of v act) ≡ true → keeps_act RwSet act ≡ true
  rwset_keeps (Add x) t = refl
  rwset_keeps (Rmv x) t = refl
  rwset_keeps act t = absurd (false≢true t)

  pub mvreg_keeps : (act : Act) → is_write_of v act ≡ true → keeps_act MvReg act ≡ true
  mvreg_keeps (Write x) t = refl
  mvreg_keeps act t = absurd (false≢true t)

pub ewflag_covers : (later act : Act) → has_act EwFlag later ≡ true → is_enable act ≡ true → covers_act EwFlag later act ≡ (is_enable later || (is_disable later || is_clear later))
ewflag_covers Enable act fits t = refl
ewflag_covers Disable act fits t = refl
ewflag_covers Clear act fits t = refl
ewflag_covers later act fits t = absurd (false≢true fits)

pub dwflag_covers : (later act : Act) → has_act DwFlag later ≡ true → (is_enable act || is_disable act) ≡ true → covers_act DwFlag later act ≡ (is_clear later || (is_enable later || is_disable later))
dwflag_covers Enable act fits t = refl
dwflag_covers Disable act fits t = refl
dwflag_covers Clear act fits t = refl
dwflag_covers later act fits t = absurd (false≢true fits)

pub ewflag_keeps : (act : Act) → is_enable act ≡ true → keeps_act EwFlag act ≡ true
ewflag_keeps Enable t = refl
ewflag_keeps act t = absurd (false≢true t)

pub dwflag_keeps : (act : Act) → (is_enable act || is_disable act) ≡ true → keeps_act DwFlag act ≡ true
dwflag_keeps Enable t = refl
dwflag_keeps Disable t = refl
dwflag_keeps act t = absurd (false≢true t)

-- ---- amounts

-- whether an act adds to a counter or takes from it
abbrev pub is_amount : Act → Bool
is_amount (Inc a) = true
is_amount (Dec a) = true
is_amount act = false

pub rcounter_keeps : (act : Act) → is_amount act ≡ true → keeps_act RCounter act ≡ true
rcounter_keeps (Inc a) t = refl
rcounter_keeps (Dec a) t = refl
rcounter_keeps act t = absurd (false≢true t)

amount_none : (act : Act) → is_amount act ≡ false → amount_of act ≡ pos 0
amount_none (Inc a) f = absurd (true≢false f)
amount_none (Dec a) f = absurd (true≢false f)
amount_none act f = refl

-- an operation that is no amount of an object adds nothing to it
pub share_none : (object : ObjectId) (o : Op) → acts_on object is_amount o ≡ false → share_of object o ≡ pos 0
share_none object op.NoOp f = refl
share_none object (op.Update u) f = elim (cases_Bool (same_object u.object object)) [
  | inr other ↦ cond-false (same_object u.object object) (amount_of u.act) (pos 0) other
  | inl one ↦ cond-true (same_object u.object object) (amount_of u.act) (pos 0) one ∙ amount_none u.act (sym (ap (λ b. b && is_amount u.act) one) ∙ f)
]
