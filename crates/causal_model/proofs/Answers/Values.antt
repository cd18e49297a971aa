-- The values that an answer lists: they rise in byte order, and are exactly those that pass.
use Rattle.std.proofs.Common.{◌≡◌, ◌↔◌, ℕ, Bool, true, false, ◌&&◌, IsTrue, All, Contains, List, [], ◌∷◌, refl, sym, ap, subst, ◌∙◌, inl, inr, if◌then◌else◌, arith}
use Rattle.std.specs.Prelude.{Option, Some, None}
use Rattle.std.specs.List.{fold, list_any}
use Rattle.std.specs.Cmp.{IsTotalOrder}
use Rattle.std.specs.Cmp.Lexicographic.{texts_ties, bytes_decides}
use Rattle.std.specs.Ordering.{is_lt, is_eq, ordering_reverse}
use Rattle.std.specs.declared.cmp.Ordering.{Ordering}
use Rattle.std.specs.declared.cmp.Ordering.TheVariants.{Less, Equal, Greater}
use Rattle.std.proofs.lemmas.Bool.{and_parts, and_from, or_cases, false≢true}
use Rattle.std.proofs.lemmas.Cmp.{nat_list_cmp_total}
use Rattle.std.proofs.lemmas.List.Elements.{All-nil, All-cons, All-weaker, All-head, All-tail, All-contains, filter_passes}
use Rattle.std.proofs.lemmas.List.Kept.{AllPairs-cons, AllPairs-filter}
use Rattle.op_base.specs.Object.{same_object}
use Rattle.op_base.specs.Order.{text_cmp}
use Rattle.op_base.specs.declared.name.Kind.{Kind}
use Rattle.op_base.specs.declared.name.Kind.TheVariants.{AwSet, RwSet, EwFlag, DwFlag, MvReg, Counter, RCounter}
use Rattle.op_base.specs.declared.name.Kind.TheVariants as kinds
use Rattle.op_base.specs.declared.name.ObjectId.{ObjectId}
use Rattle.op_base.specs.declared.operation.Act.{Act}
use Rattle.op_base.specs.declared.operation.Act.TheVariants.{Add, Rmv, Clear, Enable, Disable, Write, Inc, Dec, Ins, Del}
use Rattle.op_base.specs.declared.operation.Op.{Op}
use Rattle.op_base.specs.declared.operation.Op.TheVariants as op
use Rattle.causal_model.specs.Acts.{acts_on, is_add_of, is_write_of, value_of, same_value}
use Rattle.causal_model.specs.History.{Event, is_act_on}
use Rattle.causal_model.specs.Parts.{has}
use Rattle.causal_model.specs.Query.{put_value, put_named, put_of, named_values, values_that, TextsRise}
use Rattle.causal_model.specs.Laws.Answers.{is_named}
use Rattle.causal_model.proofs.Theory.Members.{no_member, member_here, member_later, member_cases, member_of_filter, list_any_weaker, pairs_head, pairs_tail, one_rising_list}

texts_total : IsTotalOrder text_cmp
texts_total = nat_list_cmp_total

texts_tied : (xs ys : List ℕ) → text_cmp xs ys ≡ Equal → xs ≡ ys
texts_tied xs ys tied = (bytes_decides xs ys).0 (texts_ties xs ys ∙ ap is_eq tied)

-- the list that put_value makes at its first value, by how that compares
abbrev put_before : Ordering → List ℕ → List ℕ → List (List ℕ) → List (List ℕ) → List (List ℕ)
put_before o new v vs later = if is_lt o then new ∷ v ∷ vs else if is_eq o then v ∷ vs else v ∷ later

-- ---- values rise

put_value_has : (P : List ℕ → Type 0) (value : List ℕ) (vs : List (List ℕ)) → P value → All P vs → All P (put_value value vs)
put_value_has P value [] new each = All-cons P value [] new each
put_value_has P value (v ∷ vs) new each = by (text_cmp value v) (put_value_has P value vs new (All-tail P v vs each)) where
  by : (o : Ordering) → All P (put_value value vs) → All P (put_before o value v vs (put_value value vs))
  by Less later = All-cons P value (v ∷ vs) new each
  by Equal later = each
  by Greater later = All-cons P v (put_value value vs) (All-head P v vs each) later

abbrev IsBefore : List ℕ → List ℕ → Type 0
IsBefore a b = text_cmp a b ≡ Less

put_value_rises : (value : List ℕ) (vs : List (List ℕ)) → TextsRise vs → TextsRise (put_value value vs)
put_value_rises value [] rising = AllPairs-cons IsBefore value [] (All-nil (IsBefore value)) rising
put_value_rises value (v ∷ vs) rising = by (text_cmp value v) refl (put_value_rises value vs (pairs_tail IsBefore v vs rising)) where
  by : (o : Ordering) → text_cmp value v ≡ o → TextsRise (put_value value vs) → TextsRise (put_before o value v vs (put_value value vs))
  by Less is later =
      AllPairs-cons IsBefore value (v ∷ vs) (All-cons (IsBefore value) v vs is (All-weaker (IsBefore v) (IsBefore value) (λ b. texts_total.trans value v b is) vs (pairs_head IsBefore v vs rising))) rising
  by Equal is later = rising
  by Greater is later = AllPairs-cons IsBefore v (put_value value vs) (put_value_has (IsBefore v) value vs (texts_total.antisymm v value ∙ ap ordering_reverse is) (pairs_head IsBefore v vs rising)) later

-- what put_value keeps of a list of values, an operation's put keeps
put_of_keeps : (P : List (List ℕ) → Type 0) → ((value : List ℕ) (vs : List (List ℕ)) → P vs → P (put_value value vs)) → (object : ObjectId) (o : Op) (vs : List (List ℕ)) → P vs → P (put_of object o vs)
put_of_keeps P keeps object op.NoOp vs here = here
put_of_keeps P keeps object (op.Update u) vs here = same (same_object u.object object) where
  named : (value : Option (List ℕ)) → P (put_named value vs)
  named None = here
  named (Some value) = keeps value vs here

  same : (b : Bool) → P (if b then put_named (value_of u.act) vs else vs)
  same true = named (value_of u.act)
  same false = here

-- the values with those that operations of events name
abbrev values_from : ObjectId → List (List ℕ) → List Event → List (List ℕ)
values_from object vs es = fold (λ values e. put_of object e.message.op values) vs es

values_keep : (P : List (List ℕ) → Type 0) → ((value : List ℕ) (vs : List (List ℕ)) → P vs → P (put_value value vs)) → (object : ObjectId) (es : List Event) (vs : List (List ℕ)) → P vs → P (values_from object vs es)
values_keep P keeps object [] vs here = here
values_keep P keeps object (e ∷ es) vs here = values_keep P keeps object es (put_of object e.message.op vs) (put_of_keeps P keeps object e.message.op vs here)

pub values_rise : (has : List ℕ → Bool) (object : ObjectId) (es : List Event) → TextsRise (values_that has object es)
values_rise has object es = AllPairs-filter IsBefore has (named_values object es) (values_keep TextsRise put_value_rises object es [] (λ i j d lt within. absurd (omega arith)))

-- ---- each named value is there

put_value_keeps : (x value : List ℕ) (vs : List (List ℕ)) → Contains vs x → Contains (put_value value vs) x
put_value_keeps x value [] h = absurd (no_member x h)
put_value_keeps x value (v ∷ vs) h = by (text_cmp value v) (put_value_keeps x value vs) where
  by : (o : Ordering) → (Contains vs x → Contains (put_value value vs) x) → Contains (put_before o value v vs (put_value value vs)) x
  by Less later = member_later value (v ∷ vs) x h
  by Equal later = h
  by Greater later = elim (member_cases v vs x h) [ inl here ↦ subst (Contains (v ∷ put_value value vs)) here (member_here v (put_value value vs)) | inr rest ↦ member_later v (put_value value vs) x (later rest) ]

put_value_puts : (value : List ℕ) (vs : List (List ℕ)) → Contains (put_value value vs) value
put_value_puts value [] = member_here value []
put_value_puts value (v ∷ vs) = by (text_cmp value v) refl (put_value_puts value vs) where
  by : (o : Ordering) → text_cmp value v ≡ o → Contains (put_value value vs) value → Contains (put_before o value v vs (put_value value vs)) value
  by Less is later = member_here value (v ∷ vs)
  by Equal is later = subst (λ x. Contains (x ∷ vs) value) (texts_tied value v is) (member_here value vs)
  by Greater is later = member_later v (put_value value vs) value later

-- whether an act names a value
abbrev names : List ℕ → Act → Bool
names value act = same_value (value_of act) (Some value)

put_of_puts : (object : ObjectId) (value : List ℕ) (o : Op) (vs : List (List ℕ)) → acts_on object (names value) o ≡ true → Contains (put_of object o vs) value
put_of_puts object value op.NoOp vs t = absurd (false≢true t)
put_of_puts object value (op.Update u) vs t = same (same_object u.object object) t where
  named : (found : Option (List ℕ)) → same_value found (Some value) ≡ true → Contains (put_named found vs) value
  named None t = absurd (false≢true t)
  named (Some v) t = subst (λ x. Contains (put_value x vs) value) (sym ((bytes_decides v value).0 t)) (put_value_puts value vs)

  same : (b : Bool) → (b && names value u.act) ≡ true → Contains (if b then put_named (value_of u.act) vs else vs) value
  same true t = named (value_of u.act) t
  same false t = absurd (false≢true t)

named_is_there : (object : ObjectId) (value : List ℕ) (es : List Event) (vs : List (List ℕ)) → is_named object value es ≡ true → Contains (values_from object vs es) value
named_is_there object value [] vs t = absurd (false≢true t)
named_is_there object value (e ∷ es) vs t = elim (or_cases (is_act_on object (names value) e) (is_named object value es) t) [
  | inl here ↦ values_keep (λ values. Contains values value) (put_value_keeps value) object es (put_of object e.message.op vs) (put_of_puts object value e.message.op vs here)
  | inr later ↦ named_is_there object value es (put_of object e.message.op vs) later
]

pub values_are_exact : (has : List ℕ → Bool) (object : ObjectId) (es : List Event) → ((value : List ℕ) → IsTrue (has value) → IsTrue (is_named object value es))
    → (value : List ℕ) → (Contains (values_that has object es) value ↔ IsTrue (has value))
values_are_exact has object es named value = (
  All-contains (λ v. has v ≡ true) (values_that has object es) value (filter_passes has (named_values object es)),
  λ t. member_of_filter has (named_values object es) value (named_is_there object value es [] (named value t)) t,
)

-- ---- only named values are in

acts_on_weaker : (object : ObjectId) (p q : Act → Bool) → ((act : Act) → p act ≡ true → q act ≡ true) → (o : Op) → acts_on object p o ≡ true → acts_on object q o ≡ true
acts_on_weaker object p q h op.NoOp t = t
acts_on_weaker object p q h (op.Update u) t =
    let both = and_parts (same_object u.object object) (p u.act) t in
    and_from (same_object u.object object) (q u.act) both.0 (h u.act both.1)

add_names : (value : List ℕ) (act : Act) → is_add_of value act ≡ true → names value act ≡ true
add_names value (Add v) t = t
add_names value (Rmv v) t = absurd (false≢true t)
add_names value Clear t = t
add_names value Enable t = t
add_names value Disable t = t
add_names value (Write v) t = absurd (false≢true t)
add_names value (Inc a) t = t
add_names value (Dec a) t = t
add_names value (Ins v p) t = t
add_names value (Del x) t = t

write_names : (value : List ℕ) (act : Act) → is_write_of value act ≡ true → names value act ≡ true
write_names value (Add v) t = absurd (false≢true t)
write_names value (Rmv v) t = absurd (false≢true t)
write_names value Clear t = t
write_names value Enable t = t
write_names value Disable t = t
write_names value (Write v) t = t
write_names value (Inc a) t = t
write_names value (Dec a) t = t
write_names value (Ins v p) t = t
write_names value (Del x) t = t

some_names : (object : ObjectId) (value : List ℕ) (puts : Act → Bool) (rest : Event → Bool) (es : List Event) → ((act : Act) → puts act ≡ true → names value act ≡ true)
    → list_any (λ e. is_act_on object puts e && rest e) es ≡ true → is_named object value es ≡ true
some_names object value puts rest es h = list_any_weaker (λ e. is_act_on object puts e && rest e) (is_act_on object (names value)) es (λ e t. acts_on_weaker object puts (names value) h e.message.op (and_parts (is_act_on object puts e) (rest e) t).0)

pub only_named_of : (kind : Kind) (object : ObjectId) (es : List Event) (value : List ℕ) → has kind object es (Some value) ≡ true → is_named object value es ≡ true
only_named_of AwSet object es value t = some_names object value (is_add_of value) _ es (add_names value) t
only_named_of RwSet object es value t = some_names object value (is_add_of value) _ es (add_names value) (and_parts _ _ t).0
only_named_of MvReg object es value t = some_names object value (is_write_of value) _ es (write_names value) t
only_named_of EwFlag object es value t = absurd (false≢true t)
only_named_of DwFlag object es value t = absurd (false≢true t)
only_named_of Counter object es value t = absurd (false≢true t)
only_named_of RCounter object es value t = absurd (false≢true t)
only_named_of kinds.List object es value t = absurd (false≢true t)

pub only_named_are_in : (object : ObjectId) (es : List Event) (value : List ℕ) → IsTrue (has object.kind object es (Some value)) → IsTrue (is_named object value es)
only_named_are_in object es value t = only_named_of object.kind object es value t

-- ---- a rising list is determined by its members

never_both : (a b : List ℕ) → IsBefore a b → IsBefore b a → ⊥
never_both a b before after = clash (sym before ∙ texts_total.antisymm a b ∙ ap ordering_reverse after) where
  clash : Less ≡ Greater → ⊥
  clash e = cc

pub one_list_of_texts : (xs ys : List (List ℕ)) → TextsRise xs → TextsRise ys → ((value : List ℕ) → (Contains xs value ↔ Contains ys value)) → xs ≡ ys
one_list_of_texts = one_rising_list IsBefore never_both
