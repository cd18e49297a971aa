-- What stands at the front of bytes, and of a front of them.
use Rattle.std.proofs.Common.{◌≡◌, ◌⊎◌, inl, inr, ⊎_elim, ℕ, ◌+◌, ◌-◌, ◌<◌, ◌≤◌, Bool, true, false, ◌||◌, ◌==◌, nat_lt, List, ◌++◌, length, take, drop, refl, sym, ap, subst, ◌∙◌, arith, append_assoc, length-append, length-take, length-drop, if◌then◌else◌}
use Rattle.std.specs.Int.{w32, to_be_bytes, from_be_bytes}
use Rattle.std.proofs.lemmas.Nat.{from_be_bytes-to_be_bytes_4}
use Rattle.std.proofs.lemmas.Bool.{le-ltb, ltb-false, lt-ltb, ltb-true, eqb-false, ne_eqb}
use Rattle.std.proofs.lemmas.Bool.Decides.{leb_tells}
use Rattle.std.proofs.lemmas.List.{take-append-drop, length-take-le}
use Rattle.std.proofs.Math.Seq.{take-append_seam, take-append-add, drop-append_seam}
use Rattle.world_model.specs.Records.{record_with, Front, torn, misfit, whole, front_by, front_of}

pub le_or_lt : (a b : ℕ) → (a ≤ b) ⊎ (b < a)
le_or_lt a b = ⊎_elim (λ p. inl p.1) (λ p. inr p.1) (leb_tells a b)

-- a length of four bytes, a content of that length, and what is behind
pub record IsWhole (bytes content rest : List ℕ) : Type 0 where
  pub field : List ℕ
  pub four : length field ≡ 4
  pub tells : from_be_bytes w32 field ≡ length content
  pub some : 1 ≤ length content
  pub few : length content ≤ 8192
  pub is : bytes ≡ field ++ (content ++ rest)

by_torn : (len : ℕ) (rest : List ℕ) → 1 ≤ len → len ≤ 8192 → length rest < len → front_by len rest ≡ torn
by_torn len rest some few short =
    let a : (len == 0) ≡ false = ne_eqb len 0 (λ e. absurd (omega (arith, e, some))) in
    let b : nat_lt 8192 len ≡ false = le-ltb 8192 len few in
    let c : nat_lt (length rest) len ≡ true = lt-ltb (length rest) len short in
    rw (a, b, c) refl

by_whole : (len : ℕ) (rest : List ℕ) → 1 ≤ len → len ≤ 8192 → len ≤ length rest → front_by len rest ≡ whole (take len rest) (drop len rest)
by_whole len rest some few all =
    let a : (len == 0) ≡ false = ne_eqb len 0 (λ e. absurd (omega (arith, e, some))) in
    let b : nat_lt 8192 len ≡ false = le-ltb 8192 len few in
    let c : nat_lt (length rest) len ≡ false = le-ltb (length rest) len all in
    rw (a, b, c) refl

front_short : (bytes : List ℕ) → length bytes < 4 → front_of bytes ≡ torn
front_short bytes short = let a : nat_lt (length bytes) 4 ≡ true = lt-ltb (length bytes) 4 short in rw a refl

front_long : (bytes : List ℕ) → 4 ≤ length bytes → front_of bytes ≡ front_by (from_be_bytes w32 (take 4 bytes)) (drop 4 bytes)
front_long bytes long = let a : nat_lt (length bytes) 4 ≡ false = le-ltb (length bytes) 4 long in rw a refl

take_field : (field rest : List ℕ) → length field ≡ 4 → take 4 (field ++ rest) ≡ field
take_field field rest four = ap (λ k. take k (field ++ rest)) (sym four) ∙ take-append_seam field rest

drop_field : (field rest : List ℕ) → length field ≡ 4 → drop 4 (field ++ rest) ≡ rest
drop_field field rest four = ap (λ k. drop k (field ++ rest)) (sym four) ∙ drop-append_seam field rest

front_field : (field rest : List ℕ) → length field ≡ 4 → front_of (field ++ rest) ≡ front_by (from_be_bytes w32 field) rest
front_field field rest four =
    front_long (field ++ rest) (omega (arith, four, length-append field rest))
    ∙ ap (λ f. front_by (from_be_bytes w32 f) (drop 4 (field ++ rest))) (take_field field rest four)
    ∙ ap (λ r. front_by (from_be_bytes w32 field) r) (drop_field field rest four)

-- such bytes have that content in front
pub whole_front : (bytes content rest : List ℕ) → IsWhole bytes content rest → front_of bytes ≡ whole content rest
whole_front bytes content rest w =
    ap front_of w.is
    ∙ front_field w.field (content ++ rest) w.four
    ∙ ap (λ len. front_by len (content ++ rest)) w.tells
    ∙ by_whole (length content) (content ++ rest) w.some w.few (omega (arith, length-append content rest))
    ∙ ap (λ c. whole c (drop (length content) (content ++ rest))) (take-append_seam content rest)
    ∙ ap (λ r. whole content r) (drop-append_seam content rest)

-- a field, and a content that is cut, are torn
field_torn : (field rest : List ℕ) (len : ℕ) → length field ≡ 4 → from_be_bytes w32 field ≡ len → 1 ≤ len → len ≤ 8192 → length rest < len → front_of (field ++ rest) ≡ torn
field_torn field rest len four tells some few short =
    front_field field rest four ∙ ap (λ l. front_by l rest) tells ∙ by_torn len rest some few short

take_behind : (field rest : List ℕ) (k : ℕ) → length field ≡ 4 → 4 ≤ k → take k (field ++ rest) ≡ field ++ take (k - 4) rest
take_behind field rest k four long =
    let e : k ≡ length field + (k - 4) = omega (arith, four, long) in
    ap (λ j. take j (field ++ rest)) e ∙ take-append-add field rest (k - 4)

-- a shorter front of them is torn
pub whole_torn : (bytes content rest : List ℕ) (k : ℕ) → IsWhole bytes content rest → k < length content + 4 → front_of (take k bytes) ≡ torn
whole_torn bytes content rest k w short = ⊎_elim few_bytes more (le_or_lt 4 k) where
  few_bytes : 4 ≤ k → front_of (take k bytes) ≡ torn
  few_bytes long =
      let left : List ℕ = take (k - 4) (content ++ rest) in
      ap (λ b. front_of (take k b)) w.is
      ∙ ap front_of (take_behind w.field (content ++ rest) k w.four long)
      ∙ field_torn w.field left (length content) w.four w.tells w.some w.few (omega (arith, length-take (k - 4) (content ++ rest), short, long))

  more : k < 4 → front_of (take k bytes) ≡ torn
  more less = front_short (take k bytes) (omega (arith, length-take k bytes, less))

-- a longer front of them has that content in front too
pub whole_take : (bytes content rest : List ℕ) (k : ℕ) → IsWhole bytes content rest → length content + 4 ≤ k → IsWhole (take k bytes) content (take (k - (length content + 4)) rest)
whole_take bytes content rest k w long =
    let behind : take (k - 4) (content ++ rest) ≡ content ++ take (k - (length content + 4)) rest =
    ap (λ j. take j (content ++ rest)) (let e : k - 4 ≡ length content + (k - (length content + 4)) = omega (arith, long) in e) ∙ take-append-add content rest (k - (length content + 4)) in
    record {
      field = w.field;
      four = w.four;
      tells = w.tells;
      some = w.some;
      few = w.few;
      is = ap (λ b. take k b) w.is ∙ take_behind w.field (content ++ rest) k w.four (omega (arith, long)) ∙ ap (λ b. w.field ++ b) behind;
    }

-- more bytes behind change nothing of what is in front
pub whole_more : (bytes content rest more : List ℕ) → IsWhole bytes content rest → IsWhole (bytes ++ more) content (rest ++ more)
whole_more bytes content rest more w = record {
  field = w.field;
  four = w.four;
  tells = w.tells;
  some = w.some;
  few = w.few;
  is = ap (λ b. b ++ more) w.is ∙ append_assoc w.field (content ++ rest) more ∙ ap (λ b. w.field ++ b) (append_assoc content rest more);
}

-- a record is whole
pub record_whole : (content rest : List ℕ) → 1 ≤ length content → length content ≤ 8192 → IsWhole (record_with content ++ rest) content rest
record_whole content rest some few = record {
  field = to_be_bytes w32 (length content);
  four = refl;
  tells = from_be_bytes-to_be_bytes_4 (length content) (omega (arith, few));
  some = some;
  few = few;
  is = append_assoc (to_be_bytes w32 (length content)) content rest;
}

-- ---- by the front

-- bytes are torn: there is no length, or it is one of a record that isn't all there
pub data IsTorn (bytes : List ℕ) : Type 0 where
  too_short : length bytes < 4 → IsTorn bytes
  is_cut : 4 ≤ length bytes → 1 ≤ from_be_bytes w32 (take 4 bytes) → from_be_bytes w32 (take 4 bytes) ≤ 8192 → length bytes < from_be_bytes w32 (take 4 bytes) + 4 → IsTorn bytes

-- what the front of bytes says of them
abbrev pub Says : List ℕ → Front → Type 0
Says bytes torn = IsTorn bytes
Says bytes misfit = Unit {0}
Says bytes (whole content rest) = IsWhole bytes content rest

says_by : (bytes : List ℕ) (len : ℕ) (zero_len many short : Bool) → 4 ≤ length bytes → from_be_bytes w32 (take 4 bytes) ≡ len → (len == 0) ≡ zero_len → nat_lt 8192 len ≡ many → nat_lt (length (drop 4 bytes)) len ≡ short
    → Says bytes (if zero_len || many then misfit else if short then torn else whole (take len (drop 4 bytes)) (drop len (drop 4 bytes)))
says_by bytes len true many short long is z m s = tt
says_by bytes len false true short long is z m s = tt
says_by bytes len false false true long is z m s =
    let some : 1 ≤ len = omega (arith, eqb-false len 0 z) in
    let few : len ≤ 8192 = ltb-false 8192 len m in
    let less : length (drop 4 bytes) < len = ltb-true (length (drop 4 bytes)) len s in
    is_cut long (subst (λ l. 1 ≤ l) (sym is) some) (subst (λ l. l ≤ 8192) (sym is) few) (subst (λ l. length bytes < l + 4) (sym is) (omega (arith, less, length-drop 4 bytes, long)))
says_by bytes len false false false long is z m s =
    let some : 1 ≤ len = omega (arith, eqb-false len 0 z) in
    let few : len ≤ 8192 = ltb-false 8192 len m in
    let all : len ≤ length (drop 4 bytes) = ltb-false (length (drop 4 bytes)) len s in
    let size : length (take len (drop 4 bytes)) ≡ len = length-take-le len (drop 4 bytes) all in
    record {
      field = take 4 bytes;
      four = length-take-le 4 bytes long;
      tells = is ∙ sym size;
      some = omega (arith, size, some);
      few = omega (arith, size, few);
      is = sym (take-append-drop 4 bytes) ∙ ap (λ b. take 4 bytes ++ b) (sym (take-append-drop len (drop 4 bytes)));
    }

pub says : (bytes : List ℕ) → Says bytes (front_of bytes)
says bytes = by (nat_lt (length bytes) 4) refl where
  by : (few : Bool) → nat_lt (length bytes) 4 ≡ few → Says bytes (if few then torn else front_by (from_be_bytes w32 (take 4 bytes)) (drop 4 bytes))
  by true e = too_short (ltb-true (length bytes) 4 e)
  by false e = says_by bytes (from_be_bytes w32 (take 4 bytes)) _ _ _ (ltb-false (length bytes) 4 e) refl refl refl refl

-- a front of torn bytes is torn
pub torn_take : (bytes : List ℕ) (k : ℕ) → IsTorn bytes → front_of (take k bytes) ≡ torn
torn_take bytes k (too_short less) = front_short (take k bytes) (omega (arith, length-take k bytes, less))
torn_take bytes k (is_cut long some few less) = ⊎_elim more few_bytes (le_or_lt 4 k) where
  more : 4 ≤ k → front_of (take k bytes) ≡ torn
  more enough =
      let four : length (take 4 bytes) ≡ 4 = length-take-le 4 bytes long in
      ap (λ b. front_of (take k b)) (sym (take-append-drop 4 bytes))
      ∙ ap front_of (take_behind (take 4 bytes) (drop 4 bytes) k four enough)
      ∙ field_torn (take 4 bytes) (take (k - 4) (drop 4 bytes)) (from_be_bytes w32 (take 4 bytes)) four refl some few (omega (arith, length-take (k - 4) (drop 4 bytes), length-drop 4 bytes, less, long))

  few_bytes : k < 4 → front_of (take k bytes) ≡ torn
  few_bytes less4 = front_short (take k bytes) (omega (arith, length-take k bytes, less4))
