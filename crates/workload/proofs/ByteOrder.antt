-- Words that are put in byte order, each once: they rise, and are the same words.
use Rattle.std.proofs.Common.{◌≡◌, ◌↔◌, ℕ, All, Contains, List, [], ◌∷◌, refl, ap, subst, ◌∙◌, inl, inr, if◌then◌else◌, arith}
use Rattle.std.specs.List.{fold}
use Rattle.std.specs.Cmp.Lexicographic.{texts_ties, bytes_decides}
use Rattle.std.specs.Ordering.{is_lt, is_eq, ordering_reverse}
use Rattle.std.specs.declared.cmp.Ordering.{Ordering}
use Rattle.std.specs.declared.cmp.Ordering.TheVariants.{Less, Equal, Greater}
use Rattle.std.proofs.lemmas.Cmp.{nat_list_cmp_total}
use Rattle.std.proofs.lemmas.List.Elements.{All-nil, All-cons, All-weaker, All-head, All-tail, All-contains, All-contains_itself}
use Rattle.std.proofs.lemmas.List.Kept.{AllPairs-cons}
use Rattle.op_base.specs.Order.{text_cmp}
use Rattle.causal_model.specs.Query.{TextsRise, put_value}
use Rattle.causal_model.proofs.Theory.Members.{no_member, member_here, member_later, member_cases, pairs_head, pairs_tail}
use Rattle.workload.specs.Summary.{in_byte_order}

abbrev IsBefore : List ℕ → List ℕ → Type 0
IsBefore a b = text_cmp a b ≡ Less

-- the list that put_value makes at its first word, by how that compares
abbrev put_before : Ordering → List ℕ → List ℕ → List (List ℕ) → List (List ℕ) → List (List ℕ)
put_before o new v vs later = if is_lt o then new ∷ v ∷ vs else if is_eq o then v ∷ vs else v ∷ later

-- ---- one word more

put_value_has : (P : List ℕ → Type 0) (value : List ℕ) (vs : List (List ℕ)) → P value → All P vs → All P (put_value value vs)
put_value_has P value [] new each = All-cons P value [] new each
put_value_has P value (v ∷ vs) new each = by (text_cmp value v) (put_value_has P value vs new (All-tail P v vs each)) where
  by : (o : Ordering) → All P (put_value value vs) → All P (put_before o value v vs (put_value value vs))
  by Less later = All-cons P value (v ∷ vs) new each
  by Equal later = each
  by Greater later = All-cons P v (put_value value vs) (All-head P v vs each) later

put_value_rises : (value : List ℕ) (vs : List (List ℕ)) → TextsRise vs → TextsRise (put_value value vs)
put_value_rises value [] rising = AllPairs-cons IsBefore value [] (All-nil (IsBefore value)) rising
put_value_rises value (v ∷ vs) rising = by (text_cmp value v) refl (put_value_rises value vs (pairs_tail IsBefore v vs rising)) where
  above : All (IsBefore v) vs
  above = pairs_head IsBefore v vs rising

  by : (o : Ordering) → text_cmp value v ≡ o → TextsRise (put_value value vs) → TextsRise (put_before o value v vs (put_value value vs))
  by Less is later =
      AllPairs-cons IsBefore value (v ∷ vs) (All-cons (IsBefore value) v vs is (All-weaker (IsBefore v) (IsBefore value) (λ b. nat_list_cmp_total.trans value v b is) vs above)) rising
  by Equal is later = rising
  by Greater is later = AllPairs-cons IsBefore v (put_value value vs) (put_value_has (IsBefore v) value vs (nat_list_cmp_total.antisymm v value ∙ ap ordering_reverse is) above) later

put_value_keeps : (x value : List ℕ) (vs : List (List ℕ)) → Contains vs x → Contains (put_value value vs) x
put_value_keeps x value [] h = absurd (no_member x h)
put_value_keeps x value (v ∷ vs) h = by (text_cmp value v) (put_value_keeps x value vs) where
  by : (o : Ordering) → (Contains vs x → Contains (put_value value vs) x) → Contains (put_before o value v vs (put_value value vs)) x
  by Less later = member_later value (v ∷ vs) x h
  by Equal later = h
  by Greater later = elim (member_cases v vs x h) [ inl here ↦ subst (Contains (v ∷ put_value value vs)) here (member_here v (put_value value vs)) | inr rest ↦ member_later v (put_value value vs) x (later rest) ]

put_value_puts : (value : List ℕ) (vs : List (List ℕ)) → Contains (put_value value vs) value
put_value_puts value [] = member_here value []
put_value_puts value (v ∷ vs) = by (text_cmp value v) refl (put_value_puts value vs) where
  by : (o : Ordering) → text_cmp value v ≡ o → Contains (put_value value vs) value → Contains (put_before o value v vs (put_value value vs)) value
  by Less is later = member_here value (v ∷ vs)
  by Equal is later = subst (λ x. Contains (x ∷ vs) value) ((bytes_decides value v).0 (texts_ties value v ∙ ap is_eq is)) (member_here value vs)
  by Greater is later = member_later v (put_value value vs) value later

-- ---- all words

abbrev put_all : List (List ℕ) → List (List ℕ) → List (List ℕ)
put_all words sorted = fold (λ sorted word. put_value word sorted) sorted words

put_all_keeps : (P : List (List ℕ) → Type 0) → ((value : List ℕ) (vs : List (List ℕ)) → P vs → P (put_value value vs)) → (words sorted : List (List ℕ)) → P sorted → P (put_all words sorted)
put_all_keeps P keeps [] sorted here = here
put_all_keeps P keeps (word ∷ words) sorted here = put_all_keeps P keeps words (put_value word sorted) (keeps word sorted here)

put_all_each : (P : List ℕ → Type 0) (words sorted : List (List ℕ)) → All P words → All P sorted → All P (put_all words sorted)
put_all_each P [] sorted each here = here
put_all_each P (word ∷ words) sorted each here = put_all_each P words (put_value word sorted) (All-tail P word words each) (put_value_has P word sorted (All-head P word words each) here)

put_all_has : (x : List ℕ) (words sorted : List (List ℕ)) → Contains words x → Contains (put_all words sorted) x
put_all_has x [] sorted h = absurd (no_member x h)
put_all_has x (word ∷ words) sorted h = elim (member_cases word words x h) [
  | inl here ↦ put_all_keeps (λ vs. Contains vs x) (put_value_keeps x) words (put_value word sorted) (subst (Contains (put_value word sorted)) here (put_value_puts word sorted))
  | inr later ↦ put_all_has x words (put_value word sorted) later
]

pub in_byte_order-rises : (words : List (List ℕ)) → TextsRise (in_byte_order words)
in_byte_order-rises words = put_all_keeps TextsRise put_value_rises words [] (λ i j d lt within. absurd (omega arith))

pub in_byte_order-members : (words : List (List ℕ)) (word : List ℕ) → Contains (in_byte_order words) word ↔ Contains words word
in_byte_order-members words word = (
  All-contains (Contains words) (in_byte_order words) word (put_all_each (Contains words) words [] (All-contains_itself words) (All-nil (Contains words))),
  put_all_has word words [],
)
