-- Ranks stand in the order of items, as far as they differ, and tell an item whose text is shorter than they are.
use Rattle.std.proofs.Common.{◌≡◌, ℕ, zero, suc, ◌+◌, ◌*◌, ◌^◌, ◌<◌, ◌≤◌, true, List, [], ◌∷◌, ◌++◌, ◌-◌, take, drop, length, min, inl, inr, refl, sym, ap, subst, ◌∙◌, get_or-drop, length-append, append_assoc, ◌⊎◌, arith}
use Rattle.std.specs.Prelude.{Option, Some, None, unwrap_or, slice_index, slice_set, replicate, IsTrue}
use Rattle.std.specs.List.{list_all}
use Rattle.std.specs.Option.{option_cmp, ForSome}
use Rattle.std.specs.Ordering.{MatchOrdering, ordering_then, ordering_reverse, nat_cmp}
use Rattle.std.specs.declared.cmp.Ordering.{Ordering}
use Rattle.std.specs.declared.cmp.Ordering.TheVariants.{Less, Equal, Greater}
use Rattle.std.proofs.lemmas.Bool.{cases_lt, and_parts, false≢true}
use Rattle.std.proofs.lemmas.List.{length-set, get_or_append_left, get_or-append_right, get_or_past, get_or-take, length-take-le}
use Rattle.std.proofs.lemmas.Cmp.{ranked, nat_cmp_total, tied_itself}
use Rattle.std.proofs.lemmas.Nat.{row_fits, mul-add-lt, same_from_place}
use borrow.Rule.Slice.PartMut.{put_mid, same_len_mid}
use Rattle.byteorder.specs.Endian.{big_from, big_number}
use Rattle.op_base.specs.Name.{is_key, is_key_byte, is_value, is_value_byte}
use Rattle.op_base.specs.Object.{kind_place}
use Rattle.op_base.specs.Order.{text_cmp, item_cmp}
use Rattle.op_base.specs.declared.name.ObjectId.{ObjectId}
use Rattle.causal_model.proofs.Cells.Places.{places_total}
use Rattle.stable_state.specs.Ranks.{item_text, rank_of, rank_cmp, IsNamed}

-- ---- the number of a text's first bytes, by the text

abbrev number : ℕ → List ℕ → ℕ
number zero xs = 0
number (suc n) [] = 0
number (suc n) (x ∷ xs) = x * 256 ^ n + number n xs

nothing : (n i : ℕ) → big_from i n [] ≡ 0
nothing zero i = refl
nothing (suc n) i = omega (arith, nothing n (suc i))

further : (n i x : ℕ) (xs : List ℕ) → big_from (suc i) n (x ∷ xs) ≡ big_from i n xs
further zero i x xs = refl
further (suc n) i x xs = ap (λ rest. slice_index xs i * 256 ^ n + rest) (further n (suc i) x xs)

number_is : (n : ℕ) (xs : List ℕ) → big_number n xs ≡ number n xs
number_is zero xs = refl
number_is (suc n) [] = nothing (suc n) 0
number_is (suc n) (x ∷ xs) = ap (λ rest. x * 256 ^ n + rest) (further n 0 x xs ∙ number_is n xs)

-- texts that begin alike have one number
alike_from : (n i : ℕ) (xs ys : List ℕ) → ((k : ℕ) → i ≤ k → k < i + n → slice_index xs k ≡ slice_index ys k) → big_from i n xs ≡ big_from i n ys
alike_from zero i xs ys same = refl
alike_from (suc n) i xs ys same = (λ j. same i (omega arith) (omega arith) j * 256 ^ n + alike_from n (suc i) xs ys (λ k from below. same k (omega (arith, from)) (omega (arith, below))) j)

pub ranks_alike : (xs ys : List ℕ) → ((i : ℕ) → i < 32 → slice_index xs i ≡ slice_index ys i) → (big_number 16 xs ≡ big_number 16 ys) × (big_number 16 (drop 16 xs) ≡ big_number 16 (drop 16 ys))
ranks_alike xs ys same = (
  alike_from 16 0 xs ys (λ k _ below. same k (omega (arith, below))),
  alike_from 16 0 (drop 16 xs) (drop 16 ys) (λ k _ below. get_or-drop 16 xs k 0 ∙ same (16 + k) (omega (arith, below)) ∙ sym (get_or-drop 16 ys k 0)),
)

-- ---- texts of bytes stand in the order of these numbers, as far as they differ

abbrev Bytes : ℕ → List ℕ → Type 0
Bytes n xs = (i : ℕ) → i < n → slice_index xs i < 256

tail_bytes : (n x : ℕ) (xs : List ℕ) → Bytes (suc n) (x ∷ xs) → Bytes n xs
tail_bytes n x xs bytes = λ i l. bytes (suc i) (omega (arith, l))

number_fits : (n : ℕ) (xs : List ℕ) → Bytes n xs → number n xs < 256 ^ n
number_fits zero xs bytes = omega arith
number_fits (suc n) [] bytes = omega (arith, number_fits n [] (λ i l. omega arith))
number_fits (suc n) (x ∷ xs) bytes = omega (arith, mul-add-lt x (256 ^ n) (number n xs) 256 (bytes 0 (omega arith)) (number_fits n xs (tail_bytes n x xs bytes)))

-- a lesser number has no greater first byte
first_not_greater : (x y p r s : ℕ) → s < p → x * p + r < y * p + s → x ≤ y
first_not_greater x y p r s small less = elim (cases_lt y x) [
  | inl over ↦ absurd (omega (arith, row_fits y p x p over (omega arith)))
  | inr le ↦ le
]

same_head : (x : ℕ) (xs ys : List ℕ) → text_cmp (x ∷ xs) (x ∷ ys) ≡ text_cmp xs ys
same_head x xs ys = ap (λ o. ordering_then o (text_cmp xs ys)) (tied_itself nat_cmp_total x)

less_head : (x y : ℕ) (xs ys : List ℕ) → x < y → text_cmp (x ∷ xs) (y ∷ ys) ≡ Less
less_head x y xs ys less = by (nat_cmp x y) (ranked x y (nat_cmp x y) refl) where
  by : (o : Ordering) → MatchOrdering o (x < y) (x ≡ y) (y < x) → ordering_then o (text_cmp xs ys) ≡ Less
  by Less is = refl
  by Equal is = let same : x ≡ y = is in absurd (omega arith)
  by Greater is = let over : y < x = is in absurd (omega arith)

nothing_is_first : (xs : List ℕ) → text_cmp xs [] ≡ Less → ⊥
nothing_is_first [] less = cc
nothing_is_first (x ∷ xs) less = cc

numbers_less : (n : ℕ) (xs ys : List ℕ) → Bytes n xs → Bytes n ys → number n xs < number n ys → text_cmp xs ys ≡ Less
numbers_less zero xs ys bx by less = absurd (omega arith)
numbers_less (suc n) [] [] bx by less = absurd (omega arith)
numbers_less (suc n) (x ∷ xs) [] bx by less = absurd (omega arith)
numbers_less (suc n) [] (y ∷ ys) bx by less = refl
numbers_less (suc n) (x ∷ xs) (y ∷ ys) bx by less =
    let small = number_fits n ys (tail_bytes n y ys by) in
    let le = first_not_greater x y (256 ^ n) (number n xs) (number n ys) small less in
    elim (cases_lt x y) [
      | inl under ↦ less_head x y xs ys under
      | inr over ↦
          let same : y ≡ x = omega (arith, le, over) in
          let rest : number n xs < number n ys = omega (arith, less, ap (λ z. z * 256 ^ n) same) in
          subst (λ z. text_cmp (x ∷ xs) (z ∷ ys) ≡ Less) (sym same) (same_head x xs ys ∙ numbers_less n xs ys (tail_bytes n x xs bx) (tail_bytes n y ys by) rest)
    ]

-- where the numbers are one, what is behind these bytes decides
numbers_equal : (n : ℕ) (xs ys : List ℕ) → Bytes n xs → Bytes n ys → number n xs ≡ number n ys → text_cmp (drop n xs) (drop n ys) ≡ Less → text_cmp xs ys ≡ Less
numbers_equal zero xs ys bx by same less = less
numbers_equal (suc n) xs [] bx by same less = absurd (nothing_is_first (drop (suc n) xs) less)
numbers_equal (suc n) [] (y ∷ ys) bx by same less = refl
numbers_equal (suc n) (x ∷ xs) (y ∷ ys) bx by same less =
    let tx = tail_bytes n x xs bx in
    let ty = tail_bytes n y ys by in
    let both = same_from_place x (number n xs) y (number n ys) (256 ^ n) (number_fits n xs tx) (number_fits n ys ty) same in
    subst (λ z. text_cmp (x ∷ xs) (z ∷ ys) ≡ Less) both.0 (same_head x xs ys ∙ numbers_equal n xs ys tx ty both.1 less)

-- ---- items stand in the order of their texts

key_byte_is_some : (b : ℕ) → is_key_byte b ≡ true → 0 < b
key_byte_is_some b t = grind arith

greater_less : Greater ≡ Less → ⊥
greater_less t = cc

some_head : (x : ℕ) (o : Ordering) → 0 < x → ordering_then (nat_cmp x 0) o ≡ Less → ⊥
some_head x o some less = by (nat_cmp x 0) (ranked x 0 (nat_cmp x 0) refl) less where
  by : (first : Ordering) → MatchOrdering first (x < 0) (x ≡ 0) (0 < x) → ordering_then first o ≡ Less → ⊥
  by Less is t = let under : x < 0 = is in omega arith
  by Equal is t = let none : x ≡ 0 = is in omega arith
  by Greater is t = greater_less t

then_first : (o a b c : Ordering) → (a ≡ Less → ordering_then b c ≡ Less) → ordering_then o a ≡ Less → ordering_then (ordering_then o b) c ≡ Less
then_first Less a b c f t = refl
then_first Equal a b c f t = f t
then_first Greater a b c f t = cc

-- the byte behind a key, which no key has, is less than any of a key
key_then : (xs ys us vs : List ℕ) → list_all is_key_byte xs ≡ true → text_cmp (xs ++ 0 ∷ us) (ys ++ 0 ∷ vs) ≡ Less → ordering_then (text_cmp xs ys) (text_cmp us vs) ≡ Less
key_then [] [] us vs key less = less
key_then [] (y ∷ ys) us vs key less = refl
key_then (x ∷ xs) [] us vs key less = absurd (some_head x (text_cmp (xs ++ 0 ∷ us) vs) (key_byte_is_some x (and_parts _ _ key).0) less)
key_then (x ∷ xs) (y ∷ ys) us vs key less =
    then_first (nat_cmp x y) (text_cmp (xs ++ 0 ∷ us) (ys ++ 0 ∷ vs)) (text_cmp xs ys) (text_cmp us vs) (key_then xs ys us vs (and_parts _ _ key).1) less

values_less : (value other : Option (List ℕ)) → text_cmp (unwrap_or value []) (unwrap_or other []) ≡ Less → option_cmp text_cmp value other ≡ Less
values_less None None less = cc
values_less None (Some ys) less = refl
values_less (Some xs) None less = absurd (nothing_is_first xs less)
values_less (Some xs) (Some ys) less = less

then_less : (first second third : Ordering) → (second ≡ Less → third ≡ Less) → ordering_then first second ≡ Less → ordering_then first third ≡ Less
then_less Less second third f less = refl
then_less Equal second third f less = f less
then_less Greater second third f less = cc

texts_less : (object : ObjectId) (value : Option (List ℕ)) (other : ObjectId) (other_value : Option (List ℕ)) → IsTrue (is_key object.key)
    → text_cmp (item_text object value) (item_text other other_value) ≡ Less → item_cmp object value other other_value ≡ Less
texts_less object value other other_value key less =
    let us = unwrap_or value [] in
    let vs = unwrap_or other_value [] in
    then_first (nat_cmp (kind_place object.kind) (kind_place other.kind)) (text_cmp (object.key ++ 0 ∷ us) (other.key ++ 0 ∷ vs)) (text_cmp object.key other.key) (option_cmp text_cmp value other_value)
    (λ t. then_less (text_cmp object.key other.key) (text_cmp us vs) (option_cmp text_cmp value other_value) (values_less value other_value) (key_then object.key other.key us vs (and_parts _ _ key).1 t)) less

-- ---- and so in that of their ranks

nat_less : (x y : ℕ) → nat_cmp x y ≡ Less → x < y
nat_less x y less = subst (λ o. MatchOrdering o (x < y) (x ≡ y) (y < x)) less (ranked x y (nat_cmp x y) refl)

nat_equal : (x y : ℕ) → nat_cmp x y ≡ Equal → x ≡ y
nat_equal x y equal = subst (λ o. MatchOrdering o (x < y) (x ≡ y) (y < x)) equal (ranked x y (nat_cmp x y) refl)

-- where the first decides it does, and else the second
first_decides : {C : Type 0} (a b : Ordering) → (a ≡ Less → C) → (a ≡ Equal → b ≡ Less → C) → ordering_then a b ≡ Less → C
first_decides Less b f g t = f refl
first_decides Equal b f g t = g refl t
first_decides Greater b f g t = absurd (greater_less t)

front : (zs : List ℕ) → Bytes 32 zs → Bytes 16 zs
front zs bytes i l = bytes i (omega (arith, l))

back : (zs : List ℕ) → Bytes 32 zs → Bytes 16 (drop 16 zs)
back zs bytes i l = subst (λ b. b < 256) (sym (get_or-drop 16 zs i 0)) (bytes (16 + i) (omega (arith, l)))

ranks_less : (object : ObjectId) (value : Option (List ℕ)) (other : ObjectId) (other_value : Option (List ℕ)) → IsNamed object value → IsNamed other other_value
    → rank_cmp (rank_of object value) (rank_of other other_value) ≡ Less → item_cmp object value other other_value ≡ Less
ranks_less object value other other_value named other_named less =
    let xs = item_text object value in
    let ys = item_text other other_value in
    let bx = front xs named.bytes in
    let by = front ys other_named.bytes in
    let is : (zs : List ℕ) → big_number 16 zs ≡ number 16 zs = number_is 16 in
    let by_first : nat_cmp (big_number 16 xs) (big_number 16 ys) ≡ Less → text_cmp xs ys ≡ Less =
    λ first. numbers_less 16 xs ys bx by (omega (arith, nat_less (big_number 16 xs) (big_number 16 ys) first, is xs, is ys)) in
    let by_second : nat_cmp (big_number 16 xs) (big_number 16 ys) ≡ Equal → nat_cmp (big_number 16 (drop 16 xs)) (big_number 16 (drop 16 ys)) ≡ Less → text_cmp xs ys ≡ Less =
    λ same second. numbers_equal 16 xs ys bx by (sym (is xs) ∙ nat_equal (big_number 16 xs) (big_number 16 ys) same ∙ is ys)
    (numbers_less 16 (drop 16 xs) (drop 16 ys) (back xs named.bytes) (back ys other_named.bytes)
    (omega (arith, nat_less (big_number 16 (drop 16 xs)) (big_number 16 (drop 16 ys)) second, is (drop 16 xs), is (drop 16 ys)))) in
    texts_less object value other other_value named.key (first_decides (nat_cmp (big_number 16 xs) (big_number 16 ys)) (nat_cmp (big_number 16 (drop 16 xs)) (big_number 16 (drop 16 ys))) by_first by_second less)

rank_turned : (x y : ℕ) (z w : ℕ) → ordering_then (nat_cmp x y) (nat_cmp z w) ≡ Greater → ordering_then (nat_cmp y x) (nat_cmp w z) ≡ Less
rank_turned x y z w greater = (λ i. ordering_then (nat_cmp_total.antisymm y x i) (nat_cmp_total.antisymm w z i)) ∙ by (nat_cmp x y) (nat_cmp z w) greater where
  by : (a b : Ordering) → ordering_then a b ≡ Greater → ordering_then (ordering_reverse a) (ordering_reverse b) ≡ Less
  by Less b t = cc
  by Equal b t = ap ordering_reverse t
  by Greater b t = refl

-- an item stands to another as its rank does, where the ranks differ
pub ranks_decide : (object : ObjectId) (value : Option (List ℕ)) (other : ObjectId) (other_value : Option (List ℕ)) → IsNamed object value → IsNamed other other_value
    → (o : Ordering) → o ≡ rank_cmp (rank_of object value) (rank_of other other_value) → (o ≡ Equal → ⊥) → o ≡ item_cmp object value other other_value
ranks_decide object value other other_value named other_named Less is unequal = sym (ranks_less object value other other_value named other_named (sym is))
ranks_decide object value other other_value named other_named Equal is unequal = absurd (unequal refl)
ranks_decide object value other other_value named other_named Greater is unequal =
    let turned = ranks_less other other_value object value other_named named (rank_turned (rank_of object value).first (rank_of other other_value).first (rank_of object value).second (rank_of other other_value).second (sym is)) in
    sym (places_total.antisymm (object, value) (other, other_value) ∙ ap ordering_reverse turned)

-- ---- a text that is shorter than its rank is told by it

from_fits : (n i : ℕ) (xs : List ℕ) → ((k : ℕ) → k < i + n → slice_index xs k < 256) → big_from i n xs < 256 ^ n
from_fits zero i xs bytes = omega arith
from_fits (suc n) i xs bytes = omega (arith, mul-add-lt (slice_index xs i) (256 ^ n) (big_from (suc i) n xs) 256 (bytes i (omega arith)) (from_fits n (suc i) xs (λ k below. bytes k (omega (arith, below)))))

-- numbers that are one are made of the same bytes
same_from : (n i : ℕ) (xs ys : List ℕ) → ((k : ℕ) → k < i + n → slice_index xs k < 256) → ((k : ℕ) → k < i + n → slice_index ys k < 256) → big_from i n xs ≡ big_from i n ys
    → (k : ℕ) → i ≤ k → k < i + n → slice_index xs k ≡ slice_index ys k
same_from zero i xs ys bx by same k from below = absurd (omega (arith, from, below))
same_from (suc n) i xs ys bx by same k from below =
    let rx : (k : ℕ) → k < suc i + n → slice_index xs k < 256 = λ k below. bx k (omega (arith, below)) in
    let ry : (k : ℕ) → k < suc i + n → slice_index ys k < 256 = λ k below. by k (omega (arith, below)) in
    let both = same_from_place (slice_index xs i) (big_from (suc i) n xs) (slice_index ys i) (big_from (suc i) n ys) (256 ^ n) (from_fits n (suc i) xs rx) (from_fits n (suc i) ys ry) same in
    elim (cases_lt i k) [
      | inl behind ↦ same_from n (suc i) xs ys rx ry both.1 k (omega (arith, behind)) (omega (arith, below))
      | inr le ↦
          let here : i ≡ k = omega (arith, from, le) in
          subst (λ k. slice_index xs k ≡ slice_index ys k) here both.0
    ]

-- so texts of one rank have the same first bytes
same_fronts : (xs ys : List ℕ) → Bytes 32 xs → Bytes 32 ys → big_number 16 xs ≡ big_number 16 ys → big_number 16 (drop 16 xs) ≡ big_number 16 (drop 16 ys)
    → (i : ℕ) → i < 32 → slice_index xs i ≡ slice_index ys i
same_fronts xs ys bx by first second i l =
    elim (cases_lt i 16) [
      | inl before ↦ same_from 16 0 xs ys (front xs bx) (front ys by) first i (omega arith) before
      | inr past ↦
          let at : 16 + (i - 16) ≡ i = omega (arith, past) in
          let behind = same_from 16 0 (drop 16 xs) (drop 16 ys) (back xs bx) (back ys by) second (i - 16) (omega arith) (omega (arith, l)) in
          subst (λ k. slice_index xs k ≡ slice_index ys k) at (sym (get_or-drop 16 xs (i - 16) 0) ∙ behind ∙ get_or-drop 16 ys (i - 16) 0)
    ]

value_byte_is_some : (b : ℕ) → is_value_byte b ≡ true → 0 < b
value_byte_is_some b t = grind arith

value_bytes : (bytes : List ℕ) → IsTrue (is_value bytes) → list_all is_value_byte bytes ≡ true
value_bytes bytes valid = (and_parts _ _ (and_parts _ _ valid).0).1

not_empty : (bytes : List ℕ) → IsTrue (is_value bytes) → [] ≡ bytes → ⊥
not_empty bytes valid none = false≢true (subst (λ v. IsTrue (is_value v)) (sym none) valid)

-- the first byte 0 ends a key, and what stands behind it is alike
keys_tied : (xs ys us vs : List ℕ) (n : ℕ) → list_all is_key_byte xs ≡ true → list_all is_key_byte ys ≡ true → length (ys ++ 0 ∷ vs) < n → ((i : ℕ) → i < n → slice_index (xs ++ 0 ∷ us) i ≡ slice_index (ys ++ 0 ∷ vs) i)
    → (xs ≡ ys) × ((i : ℕ) → i ≤ length vs → slice_index us i ≡ slice_index vs i)
keys_tied xs ys us vs zero kx ky less same = absurd (omega (arith, less))
keys_tied [] [] us vs (suc n) kx ky less same = (refl, λ i le. same (suc i) (omega (arith, le, less)))
keys_tied [] (y ∷ ys) us vs (suc n) kx ky less same = absurd (omega (arith, same 0 (omega arith), key_byte_is_some y (and_parts _ _ ky).0))
keys_tied (x ∷ xs) [] us vs (suc n) kx ky less same = absurd (omega (arith, same 0 (omega arith), key_byte_is_some x (and_parts _ _ kx).0))
keys_tied (x ∷ xs) (y ∷ ys) us vs (suc n) kx ky less same =
    let first : x ≡ y = same 0 (omega arith) in
    let rest = keys_tied xs ys us vs n (and_parts _ _ kx).1 (and_parts _ _ ky).1 (omega (arith, less)) (λ i l. same (suc i) (omega (arith, l))) in
    (λ j. first j ∷ rest.0 j, rest.1)

-- and so does a byte 0, or the end, a value
bytes_tied : (us vs : List ℕ) → list_all is_value_byte us ≡ true → list_all is_value_byte vs ≡ true → ((i : ℕ) → i ≤ length vs → slice_index us i ≡ slice_index vs i) → us ≡ vs
bytes_tied [] [] bu bv same = refl
bytes_tied [] (v ∷ vs) bu bv same = absurd (omega (arith, same 0 (omega arith), value_byte_is_some v (and_parts _ _ bv).0))
bytes_tied (u ∷ us) [] bu bv same = absurd (omega (arith, same 0 (omega arith), value_byte_is_some u (and_parts _ _ bu).0))
bytes_tied (u ∷ us) (v ∷ vs) bu bv same = λ j. same 0 (omega arith) j ∷ bytes_tied us vs (and_parts _ _ bu).1 (and_parts _ _ bv).1 (λ i le. same (suc i) (omega (arith, le))) j

-- a value isn't empty, so it differs from none
values_tied : (value other : Option (List ℕ)) → ForSome value (λ v. IsTrue (is_value v)) → ForSome other (λ v. IsTrue (is_value v))
    → ((i : ℕ) → i ≤ length (unwrap_or other []) → slice_index (unwrap_or value []) i ≡ slice_index (unwrap_or other []) i) → value ≡ other
values_tied None None v w same = refl
values_tied None (Some ys) v w same = absurd (not_empty ys (w ys refl) (bytes_tied [] ys refl (value_bytes ys (w ys refl)) same))
values_tied (Some xs) None v w same = absurd (not_empty xs (v xs refl) (sym (bytes_tied xs [] (value_bytes xs (v xs refl)) refl same)))
values_tied (Some xs) (Some ys) v w same = ap Some (bytes_tied xs ys (value_bytes xs (v xs refl)) (value_bytes ys (w ys refl)) same)

both_equal : (a b : Ordering) → ordering_then a b ≡ Equal → (a ≡ Equal) × (b ≡ Equal)
both_equal Less b t = cc
both_equal Equal b t = (refl, t)
both_equal Greater b t = cc

-- an item ties with another where their ranks are one and the other's text is shorter than a rank
pub ranks_tie : (object : ObjectId) (value : Option (List ℕ)) (other : ObjectId) (other_value : Option (List ℕ)) → IsNamed object value → IsNamed other other_value
    → rank_cmp (rank_of object value) (rank_of other other_value) ≡ Equal → length (item_text other other_value) < 32 → item_cmp object value other other_value ≡ Equal
ranks_tie object value other other_value named other_named tied short =
    let xs = item_text object value in
    let ys = item_text other other_value in
    let both = both_equal (nat_cmp (big_number 16 xs) (big_number 16 ys)) (nat_cmp (big_number 16 (drop 16 xs)) (big_number 16 (drop 16 ys))) tied in
    let alike = same_fronts xs ys named.bytes other_named.bytes (nat_equal (big_number 16 xs) (big_number 16 ys) both.0) (nat_equal (big_number 16 (drop 16 xs)) (big_number 16 (drop 16 ys)) both.1) in
    let kinds : kind_place object.kind ≡ kind_place other.kind = alike 0 (omega arith) in
    let keys = keys_tied object.key other.key (unwrap_or value []) (unwrap_or other_value []) 31 (and_parts _ _ named.key).1 (and_parts _ _ other_named.key).1 (omega (arith, short)) (λ i l. alike (suc i) (omega (arith, l))) in
    let values = values_tied value other_value named.valid other_named.valid keys.1 in
    (λ j. ordering_then (ordering_then (nat_cmp (kind_place object.kind) (sym kinds j)) (text_cmp object.key (sym keys.0 j))) (option_cmp text_cmp value (sym values j)))
    ∙ tied_itself places_total (object, value)

-- ---- a text that is written into zeros

either : {A B C : Type 0} → A ⊎ B → (A → C) → (B → C) → C
either (inl a) f g = f a
either (inr b) f g = g b

-- two lists have the same bytes where zeros stand behind the shorter one
abbrev pub Alike : List ℕ → List ℕ → Type 0
Alike xs ys = (i : ℕ) → slice_index xs i ≡ slice_index ys i

written : (old bytes ys : List ℕ) (place : ℕ) → place + length bytes ≤ length old → length ys ≡ place → Alike old ys
    → Alike ((take place old ++ bytes) ++ drop (place + length bytes) old) (ys ++ bytes)
written old bytes ys place fits is alike i =
    let end = place + length bytes in
    let front = take place old ++ bytes in
    let rest = drop end old in
    let long = length-take-le place old (omega (arith, fits)) in
    let all : length front ≡ end = omega (arith, long, length-append (take place old) bytes) in
    let whole : length (ys ++ bytes) ≡ end = omega (arith, is, length-append ys bytes) in
    either (cases_lt i end)
    (λ before. get_or_append_left front rest 0 i (omega (arith, before, all)) ∙ either (cases_lt i place)
    (λ first. get_or_append_left (take place old) bytes 0 i (omega (arith, first, long)) ∙ get_or-take place old i 0 first ∙ alike i ∙ sym (get_or_append_left ys bytes 0 i (omega (arith, first, is))))
    (λ second. get_or-append_right (take place old) bytes place i 0 long second ∙ sym (get_or-append_right ys bytes place i 0 is second)))
    (λ past.
    get_or-append_right front rest end i 0 all past ∙ get_or-drop end old (i - end) 0 ∙ alike (end + (i - end)) ∙ get_or_past ys (end + (i - end)) 0 (omega (arith, is))
    ∙ sym (get_or_past (ys ++ bytes) i 0 (omega (arith, whole, past))))

pub all_zeros : (n i : ℕ) → slice_index (replicate n 0) i ≡ 0
all_zeros zero i = refl
all_zeros (suc n) zero = refl
all_zeros (suc n) (suc i) = all_zeros n i

-- zeros at the end change nothing
spaced : (ys zeros : List ℕ) → ((i : ℕ) → slice_index zeros i ≡ 0) → Alike (ys ++ zeros) ys
spaced [] zeros none i = none i
spaced (y ∷ ys) zeros none zero = refl
spaced (y ∷ ys) zeros none (suc i) = spaced ys zeros none i

-- the first bytes of what comes last are enough for as many of all
enough : (xs ys : List ℕ) (n i : ℕ) → i < n → slice_index (xs ++ take (min (length ys) n) ys) i ≡ slice_index (xs ++ ys) i
enough [] ys n i l = either (cases_lt i (min (length ys) n)) (λ before. get_or-take (min (length ys) n) ys i 0 before)
    (λ past. get_or_past (take (min (length ys) n) ys) i 0 (omega (arith, past, length-take-le (min (length ys) n) ys (omega arith))) ∙ sym (get_or_past ys i 0 (omega (arith, l, past))))
enough (x ∷ xs) ys n zero l = refl
enough (x ∷ xs) ys n (suc i) l = enough xs ys n i (omega (arith, l))

pub key_fits : (key : List ℕ) → IsTrue (is_key key) → length key ≤ 32
key_fits key valid = grind arith

-- a text of zeros into which a kind's place and a key with zeros behind it are written
pub named_text : (zeros : List ℕ) (byte : ℕ) (key wide : List ℕ) → length zeros ≡ 66 → ((i : ℕ) → slice_index zeros i ≡ 0) → wide ≡ key ++ replicate (32 - length key) 0
    → Alike (put_mid 1 32 (slice_set zeros 0 byte) wide) (byte ∷ key)
named_text [] byte key wide long none is i = absurd (omega (arith, long))
named_text (z ∷ zs) byte key wide long none is zero = refl
named_text (z ∷ zs) byte key wide long none is (suc i) =
    let behind = replicate (32 - length key) 0 in
    ap (λ xs. slice_index (xs ++ drop 32 zs) i) is ∙ spaced (key ++ behind) (drop 32 zs) (λ k. get_or-drop 32 zs k 0 ∙ none (suc (32 + k))) i ∙ spaced key behind (all_zeros (32 - length key)) i

-- it is as long as it was
pub named_long : (zeros : List ℕ) (byte : ℕ) (wide : List ℕ) → length zeros ≡ 66 → length wide ≡ length (take 32 (drop 1 (slice_set zeros 0 byte))) → length (put_mid 1 32 (slice_set zeros 0 byte) wide) ≡ 66
named_long zeros byte wide long fits = same_len_mid 1 32 (slice_set zeros 0 byte) wide fits ∙ length-set zeros 0 byte ∙ long

-- with no value it is the item's
pub unvalued_text : (key text : List ℕ) (byte : ℕ) → Alike text (byte ∷ key) → Alike text (byte ∷ key ++ 0 ∷ [])
unvalued_text key text byte alike i = alike i ∙ sym (spaced (byte ∷ key) (0 ∷ []) (all_zeros 1) i)

-- and with one that is written behind these
pub valued_text : (old text key value : List ℕ) (byte : ℕ) → Alike old (byte ∷ key)
    → ((front : List ℕ) → length front ≡ length key + 2 → Alike old front → (i : ℕ) → i < 32 → slice_index text i ≡ slice_index (front ++ value) i)
    → (i : ℕ) → i < 32 → slice_index text i ≡ slice_index (byte ∷ key ++ 0 ∷ value) i
valued_text old text key value byte alike put i l =
    let front = byte ∷ key ++ 0 ∷ [] in
    put front (omega (arith, length-append key (0 ∷ []))) (unvalued_text key old byte alike) i l ∙ ap (λ xs. slice_index (byte ∷ xs) i) (append_assoc key (0 ∷ []) value)

-- as many bytes of a value are written as a rank can have
pub written_some : (old front value : List ℕ) (place : ℕ) → length old ≡ 66 → place ≤ 34 → length front ≡ place → Alike old front → (i : ℕ) → i < 32
    → slice_index ((take place old ++ take (min (length value) 32) value) ++ drop (place + length (take (min (length value) 32) value)) old) i ≡ slice_index (front ++ value) i
written_some old front value place long fits is alike i l =
    let some = take (min (length value) 32) value in
    let few : length some ≤ 32 = omega (arith, length-take-le (min (length value) 32) value (omega arith)) in
    written old some front place (omega (arith, long, fits, few)) is alike i ∙ enough front value 32 i l

-- or a value with zeros behind it
pub written_padded : (old front value padded : List ℕ) (place zeros : ℕ) → padded ≡ value ++ replicate zeros 0 → place + length padded ≤ length old → length front ≡ place → Alike old front → (i : ℕ)
    → slice_index ((take place old ++ padded) ++ drop (place + length padded) old) i ≡ slice_index (front ++ value) i
written_padded old front value padded place zeros is_padded fits is alike i =
    written old padded front place fits is alike i ∙ ap (λ xs. slice_index (front ++ xs) i) is_padded
    ∙ ap (λ xs. slice_index xs i) (sym (append_assoc front value (replicate zeros 0))) ∙ spaced (front ++ value) (replicate zeros 0) (all_zeros zeros) i
