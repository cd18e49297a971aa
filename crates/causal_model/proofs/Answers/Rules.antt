-- The table of what is logged and covered meets the laws of a rule.
use Rattle.std.proofs.Common.{◌≡◌, ℕ, true, false, ◌&&◌, ◌||◌, ◌==◌, IsTrue, List, sym, ap, subst, ◌∙◌, inl, inr, Option, Some, None}
use Rattle.std.specs.Ordering.{nat_cmp, ordering_then}
use Rattle.std.specs.Cmp.Lexicographic.{bytes_decides}
use Rattle.std.specs.declared.cmp.Ordering.TheVariants.{Equal}
use Rattle.std.proofs.lemmas.Bool.{and_parts, and_from, or_cases, or_left, or_right, eqb-true, false≢true}
use Rattle.std.proofs.lemmas.Cmp.{tied_itself, nat_cmp_total, nat_list_cmp_total}
use Rattle.op_base.specs.Name.{same_text}
use Rattle.op_base.specs.Object.{kind_place, same_object}
use Rattle.op_base.specs.Order.{text_cmp}
use Rattle.op_base.specs.declared.name.ObjectId.{ObjectId}
use Rattle.op_base.specs.declared.name.Kind.{Kind}
use Rattle.op_base.specs.declared.name.Kind.TheVariants.{AwSet, RwSet, EwFlag, DwFlag, MvReg, Counter, RCounter}
use Rattle.op_base.specs.declared.name.Kind.TheVariants as kinds
use Rattle.op_base.specs.declared.operation.Act.{Act}
use Rattle.op_base.specs.declared.operation.Act.TheVariants.{Add, Rmv, Clear, Enable, Disable, Write, Inc, Dec, Ins, Del}
use Rattle.op_base.specs.declared.operation.Update.{Update}
use Rattle.op_base.proofs.Orders.{items_tied}
use Rattle.causal_model.specs.Acts.{value_of, is_clear, same_value}
use Rattle.causal_model.specs.Covering.{covers_act, store_keeps, store_covers}

-- two names of one object are one name
pub object_from_same : (a b : ObjectId) → same_object a b ≡ true → a ≡ b
object_from_same a b t =
    let both = and_parts (kind_place a.kind == kind_place b.kind) (same_text a.key b.key) t in
    let kind : nat_cmp (kind_place a.kind) (kind_place b.kind) ≡ Equal = ap (nat_cmp (kind_place a.kind)) (sym (eqb-true (kind_place a.kind) (kind_place b.kind) both.0)) ∙ tied_itself nat_cmp_total (kind_place a.kind) in
    let key : text_cmp a.key b.key ≡ Equal = ap (text_cmp a.key) (sym ((bytes_decides a.key b.key).0 both.1)) ∙ tied_itself nat_list_cmp_total a.key in
    (items_tied a b None None (λ i. ordering_then (ordering_then (kind i) (key i)) Equal)).0

same_value_transitive : (a b c : Option (List ℕ)) → same_value a b ≡ true → same_value b c ≡ true → same_value a c ≡ true
same_value_transitive None b c ab bc = ab
same_value_transitive (Some x) None c ab bc = absurd (false≢true ab)
same_value_transitive (Some x) (Some y) None ab bc = bc
same_value_transitive (Some x) (Some y) (Some z) ab bc = subst (λ v. same_text v z ≡ true) (sym ((bytes_decides x y).0 ab)) bc

-- a clear names no value
clear_has_none : (v : Option (List ℕ)) (act : Act) → is_clear act ≡ true → same_value v (value_of act) ≡ true → false ≡ true
clear_has_none None act t same = same
clear_has_none (Some v) Clear t same = same
clear_has_none (Some v) (Add x) t same = t
clear_has_none (Some v) (Rmv x) t same = t
clear_has_none (Some v) Enable t same = t
clear_has_none (Some v) Disable t same = t
clear_has_none (Some v) (Write x) t same = t
clear_has_none (Some v) (Inc a) t same = t
clear_has_none (Some v) (Dec a) t same = t
clear_has_none (Some v) (Ins x p) t same = t
clear_has_none (Some v) (Del x) t same = t

set_covers : (last later earlier : Act) → (is_clear last || same_value (value_of last) (value_of later)) ≡ true → (is_clear later || same_value (value_of later) (value_of earlier)) ≡ true → (is_clear last || same_value (value_of last) (value_of earlier)) ≡ true
set_covers last later earlier first second = elim (or_cases (is_clear last) (same_value (value_of last) (value_of later)) first) [
  | inl clears ↦ or_left _ _ clears
  | inr same ↦ elim (or_cases (is_clear later) (same_value (value_of later) (value_of earlier)) second) [
    | inl clears ↦ absurd (false≢true (clear_has_none (value_of last) later clears same))
    | inr again ↦ or_right _ _ (same_value_transitive (value_of last) (value_of later) (value_of earlier) same again)
  ]
]

act_covers : (kind : Kind) (last later earlier : Act) → covers_act kind last later ≡ true → covers_act kind later earlier ≡ true → covers_act kind last earlier ≡ true
act_covers AwSet last later earlier first second = set_covers last later earlier first second
act_covers RwSet last later earlier first second = set_covers last later earlier first second
act_covers EwFlag last later earlier first second = first
act_covers DwFlag last later earlier first second = first
act_covers MvReg last later earlier first second = first
act_covers Counter last later earlier first second = first
act_covers kinds.List last later earlier first second = first
act_covers RCounter last later earlier first second = first

-- ---- the laws

parts_of : (later earlier : Update) → store_covers later earlier ≡ true → (same_object later.object earlier.object ≡ true) × (store_keeps earlier ≡ true) × (covers_act earlier.object.kind later.act earlier.act ≡ true)
parts_of later earlier t =
    let both = and_parts (same_object later.object earlier.object && store_keeps earlier) (covers_act earlier.object.kind later.act earlier.act) t in
    let first = and_parts (same_object later.object earlier.object) (store_keeps earlier) both.0 in
    (first.0, first.1, both.1)

pub covers_one_object : (later earlier : Update) → IsTrue (store_covers later earlier) → IsTrue (same_object later.object earlier.object)
covers_one_object later earlier t = (parts_of later earlier t).0

pub covers_kept_alone : (later earlier : Update) → IsTrue (store_covers later earlier) → IsTrue (store_keeps earlier)
covers_kept_alone later earlier t = (parts_of later earlier t).1

pub covers_transitively : (last later earlier : Update) → IsTrue (store_covers last later) → IsTrue (store_covers later earlier) → IsTrue (store_covers last earlier)
covers_transitively last later earlier ab bc =
    let first = parts_of last later ab in
    let second = parts_of later earlier bc in
    let one : later.object ≡ earlier.object = object_from_same later.object earlier.object second.0 in
    and_from _ _ (and_from _ _ (subst (λ o. same_object last.object o ≡ true) one first.0) second.1)
    (act_covers earlier.object.kind last.act later.act earlier.act (subst (λ o. covers_act o.kind last.act later.act ≡ true) one first.2) second.2)
