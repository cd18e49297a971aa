-- A map that keeps how often words come, sorted by its keys, has the counts of the words in byte order.
use Rattle.std.proofs.Common.{◌≡◌, ◌↔◌, ℕ, ◌<◌, Bool, true, false, All, Contains, List, [], ◌∷◌, length, map, get_or, Some, refl, sym, ap, ◌∙◌, arith, unwrap_or}
use Rattle.std.specs.Borrow.{Bor}
use Rattle.std.specs.Cmp.{IsEquivalence, on_equiv}
use Rattle.std.specs.Cmp.Lexicographic.{texts_ties, bytes_decides, nat_list_eq_equiv}
use Rattle.std.specs.List.{IsDistinct, slice_get}
use Rattle.std.specs.List.Sorted.{IsSorted}
use Rattle.std.specs.Map.{keys_of, lookup}
use Rattle.std.specs.Ordering.{is_lt, is_eq, ordering_reverse}
use Rattle.std.specs.declared.cmp.Ordering.{Ordering}
use Rattle.std.specs.declared.cmp.Ordering.TheVariants.{Less, Equal, Greater}
use Rattle.std.proofs.lemmas.Bool.{false≢true}
use Rattle.std.proofs.lemmas.Cmp.{nat_list_cmp_total}
use Rattle.std.proofs.lemmas.List.{length-map, get_or-map}
use Rattle.std.proofs.lemmas.List.Elements.{All-head, All-tail, All-map, All-contains}
use Rattle.std.proofs.lemmas.List.Sorted.{ranks_by, sorted_far}
use Rattle.std.proofs.lemmas.Map.Entries.{place_from_lookup, lookup_from_place}
use Rattle.std.proofs.lemmas.Map.Keys.{apart_from_distinct}
use Rattle.std.proofs.lemmas.Option.{slice_get-get_or, slice_get_within, get_or_from_slice_get}
use Rattle.op_base.specs.Name.{same_text}
use Rattle.op_base.specs.Order.{text_cmp}
use Rattle.causal_model.specs.Query.{TextsRise}
use Rattle.causal_model.proofs.Answers.Values.{one_list_of_texts}
use Rattle.workload.specs.Counts.{count_in}
use Rattle.workload.specs.Summary.{times, in_byte_order, counts_of}
use Rattle.workload.proofs.ByteOrder.{in_byte_order-rises, in_byte_order-members}
use Rattle.workload.proofs.Counting.{from_1-or_0, some_from_1, above_0, times_member, member_times}

-- ---- keys that are sorted and apart rise

rises_from : (a b : List ℕ) → is_lt (text_cmp b a) ≡ false → same_text a b ≡ false → text_cmp a b ≡ Less
rises_from a b not_below apart = by (text_cmp a b) refl where
  by : (o : Ordering) → text_cmp a b ≡ o → text_cmp a b ≡ Less
  by Less is = is
  by Equal is = absurd (false≢true (sym apart ∙ texts_ties a b ∙ ap is_eq is))
  by Greater is = absurd (false≢true (sym not_below ∙ ap is_lt (nat_list_cmp_total.antisymm b a ∙ ap ordering_reverse is)))

abbrev same_key : Bor (List ℕ) → Bor (List ℕ) → Bool
same_key a b = same_text a.now b.now

same_keys : IsEquivalence same_key
same_keys = on_equiv (λ key. key.now) nat_list_eq_equiv

-- entries as clauses see them
abbrev pub seen : List (Bor (List ℕ) × ℕ) → List (List ℕ × ℕ)
seen entries = map (λ e. (e.0.now, e.1)) entries

-- entries whose values are f of their keys
paired : (f : List ℕ → ℕ) (entries : List (Bor (List ℕ) × ℕ)) → All (λ e. e.1 ≡ f e.0.now) entries → seen entries ≡ map (λ word. (word, f word)) (map (λ e. e.0.now) entries)
paired f [] each = refl
paired f (e ∷ entries) each =
    let first : e.1 ≡ f e.0.now = All-head (λ e. e.1 ≡ f e.0.now) e entries each in
    let rest = paired f entries (All-tail (λ e. e.1 ≡ f e.0.now) e entries each) in
    λ t. (e.0.now, first t) ∷ rest t

module _ (words : List (List ℕ)) (entries : List (Bor (List ℕ) × ℕ))
    (kept : (word : List ℕ) → lookup (λ key. same_text word key.now) entries ≡ count_in words word)
    (apart : IsDistinct same_key (keys_of entries)) (sorted : IsSorted (λ a b. text_cmp a.now b.now) (keys_of entries)) where
  abbrev texts : List (List ℕ)
  texts = map (λ e. e.0.now) entries

  texts_rise : TextsRise texts
  texts_rise i j d lt within =
      let key : Bor (List ℕ) = record { ref_ptr = (0, 0); now = d } in
      let keys = keys_of entries in
      let long : j < length entries = omega (arith, length-map entries (λ e. e.0.now)) in
      let long_keys : j < length keys = omega (arith, length-map entries (λ e. e.0)) in
      let at : (k : ℕ) → k < length entries → get_or texts k d ≡ (get_or keys k key).now =
      λ k h. get_or-map (λ e. e.0.now) entries k (key, 0) d h ∙ ap (λ e. e.now) (sym (get_or-map (λ e. e.0) entries k (key, 0) key h)) in
      let below = sorted_far (λ a b. is_lt (text_cmp a.now b.now)) (ranks_by nat_list_cmp_total (λ (k : Bor (List ℕ)). k.now)) keys sorted i j key (omega arith) long_keys in
      (λ t. text_cmp (at i (omega arith) t) (at j long t)) ∙ rises_from (get_or keys i key).now (get_or keys j key).now below (apart_from_distinct same_key keys i j key apart lt long_keys)

  counted : All (λ e. Some e.1 ≡ count_in words e.0.now) entries
  counted k d within =
      let e = get_or entries k d in
      sym (lookup_from_place same_keys entries k e.0 e.1 apart (slice_get-get_or entries k d within)) ∙ kept e.0.now

  texts_members : (word : List ℕ) → Contains texts word ↔ Contains words word
  texts_members word = (
    All-contains (Contains words) texts word
        (All-map (Contains words) (λ e. e.0.now) entries (λ k d within. times_member words (get_or entries k d).0.now (above_0 _ _ (counted k d within)))),
    λ h. has (place_from_lookup (λ key. same_text word key.now) entries (times words word) (kept word ∙ some_from_1 (times words word) (member_times words word h))),
  ) where
    has : (i : ℕ) × (key : Bor (List ℕ)) × (slice_get entries i ≡ Some (key, times words word)) × (same_text word key.now ≡ true) → Contains texts word
    has (i, key, at, same) =
        let within = slice_get_within entries i (key, times words word) at in
        let here = ap (λ e. e.0.now) (get_or_from_slice_get entries i (key, times words word) (key, times words word) at) in
        (i, omega (arith, length-map entries (λ e. e.0.now)), get_or-map (λ e. e.0.now) entries i (key, times words word) word within ∙ here ∙ sym ((bytes_decides word key.now).0 same))

  pub sorted_counts : seen entries ≡ counts_of words
  sorted_counts =
      let texts_are : texts ≡ in_byte_order words = one_list_of_texts texts (in_byte_order words) texts_rise (in_byte_order-rises words) (λ word. (
        λ h. (in_byte_order-members words word).1 ((texts_members word).0 h),
        λ h. (texts_members word).1 ((in_byte_order-members words word).0 h),
      )) in
      paired (times words) entries (λ k d within. ap (λ o. unwrap_or o 0) (counted k d within) ∙ from_1-or_0 (times words (get_or entries k d).0.now))
      ∙ ap (map (λ word. (word, times words word))) texts_are
