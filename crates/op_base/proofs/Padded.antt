-- Arrays of bytes are in the order of the numbers that they make, and with zeros behind texts in the order of these.
use Rattle.std.proofs.Common.{Ordering, Less, Equal, Greater, ◌≡◌, ap, ℕ, Bool, zero, suc, ◌+◌, ◌*◌, ◌-◌, ◌<◌, ◌≤◌, true, false, List, [], ◌∷◌, ◌++◌, length, take, drop, get_or, replicate, IsTrue, nat_eq, refl, subst, sym, ◌∙◌, arith}
use Rattle.std.specs.List.{list_all}
use Rattle.std.specs.Int.{from_be_bytes, w64}
use Rattle.std.specs.Ordering.{nat_cmp, ordering_then, is_eq, is_ne}
use Rattle.std.specs.Cmp.{nat_cmp_is}
use Rattle.std.specs.Cmp.Lexicographic.{pointwise, slice_cmp, texts_ties}
use Rattle.std.proofs.lemmas.Bool.{and_parts, false≢true}
use Rattle.std.proofs.lemmas.List.{length-take-le, length-drop, drop-drop, take-append-drop, drop_all, drop-replicate, length-append, length-replicate}
use Rattle.std.proofs.Math.Seq.{take-append_seam, drop-append_seam}
use Rattle.std.proofs.lemmas.Bool.Decides.{nat_tests}
use Rattle.op_base.specs.KeyFields.{text_of as key_of, IsStored}
use Rattle.op_base.specs.ValueFields.{text_of, IsKept}
use Rattle.op_base.specs.Zeros.{HasZerosBehind}
use Rattle.op_base.specs.Name.{is_short, is_key, is_key_byte, is_value, is_value_byte}
use Rattle.op_base.specs.declared.name.Short.{Short}
use Rattle.op_base.specs.declared.name.Stored.TheVariants as stored
use Rattle.op_base.specs.declared.name.TheConstants.{VALUE_BYTES_IN_PLACE}
use Rattle.op_base.specs.declared.name.Key.TheInside.{Inside}

abbrev AreBytes : List ℕ → Type 0
AreBytes bs = (i : ℕ) → get_or bs i 0 < 256

-- a number with further digits of base 256 behind it
abbrev digits : ℕ → List ℕ → ℕ
digits n [] = n
digits n (b ∷ bs) = digits (n * 256 + b) bs

-- the lesser of two numbers stays so, whatever the digits
digits_keep : (m n : ℕ) (bs cs : List ℕ) → m < n → length bs ≡ length cs → AreBytes bs → digits m bs < digits n cs
digits_keep m n [] [] l e a = l
digits_keep m n [] (c ∷ cs) l e a = absurd (omega (arith, e))
digits_keep m n (b ∷ bs) [] l e a = absurd (omega (arith, e))
digits_keep m n (b ∷ bs) (c ∷ cs) l e a =
    let b' = a 0 in
    digits_keep (m * 256 + b) (n * 256 + c) bs cs (omega (arith, b')) (omega (arith, e)) (λ i. a (suc i))

-- of as many digits the numbers are in the order of the lists
digits_order : (n : ℕ) (bs cs : List ℕ) → length bs ≡ length cs → AreBytes bs → AreBytes cs → nat_cmp (digits n bs) (digits n cs) ≡ slice_cmp nat_cmp bs cs
digits_order n [] [] e a d = grind (arith, nat_tests)
digits_order n [] (c ∷ cs) e a d = absurd (omega (arith, e))
digits_order n (b ∷ bs) [] e a d = absurd (omega (arith, e))
digits_order n (b ∷ bs) (c ∷ cs) e a d =
    by (nat_cmp b c) refl (digits_order (n * 256 + b) bs cs tail (λ i. a (suc i)) (λ i. d (suc i)))
  where
    tail : length bs ≡ length cs
    tail = omega (arith, e)

    by : (r : Ordering) → r ≡ nat_cmp b c → nat_cmp (digits (n * 256 + b) bs) (digits (n * 256 + b) cs) ≡ slice_cmp nat_cmp bs cs → nat_cmp (digits (n * 256 + b) bs) (digits (n * 256 + c) cs) ≡ ordering_then r (slice_cmp nat_cmp bs cs)
    by Less r ih = sym (nat_cmp_is _ _ Less (digits_keep (n * 256 + b) (n * 256 + c) bs cs (grind (arith, nat_tests, r)) tail (λ i. a (suc i))))
    by Equal r ih =
        let same : b ≡ c = grind (arith, nat_tests, r) in
        ap (λ v. nat_cmp (digits (n * 256 + b) bs) (digits (n * 256 + v) cs)) (sym same) ∙ ih
    by Greater r ih = sym (nat_cmp_is _ _ Greater (digits_keep (n * 256 + c) (n * 256 + b) cs bs (grind (arith, nat_tests, r)) (sym tail) (λ i. d (suc i))))

-- eight bytes are read as the digits of a number
eight : (bs : List ℕ) → length bs ≡ 8 → from_be_bytes w64 bs ≡ digits 0 bs
eight (a ∷ b ∷ c ∷ d ∷ e ∷ f ∷ g ∷ h ∷ []) l =
    let sum : a * 72057594037927936 + b * 281474976710656 + c * 1099511627776 + d * 4294967296 + e * 16777216 + f * 65536 + g * 256 + h ≡ (((((((0 + a) * 256 + b) * 256 + c) * 256 + d) * 256 + e) * 256 + f) * 256 + g) * 256 + h = omega arith in
    sum
eight [] l = absurd (omega (arith, l))
eight (a ∷ []) l = absurd (omega (arith, l))
eight (a ∷ b ∷ []) l = absurd (omega (arith, l))
eight (a ∷ b ∷ c ∷ []) l = absurd (omega (arith, l))
eight (a ∷ b ∷ c ∷ d ∷ []) l = absurd (omega (arith, l))
eight (a ∷ b ∷ c ∷ d ∷ e ∷ []) l = absurd (omega (arith, l))
eight (a ∷ b ∷ c ∷ d ∷ e ∷ f ∷ []) l = absurd (omega (arith, l))
eight (a ∷ b ∷ c ∷ d ∷ e ∷ f ∷ g ∷ []) l = absurd (omega (arith, l))
eight (a ∷ b ∷ c ∷ d ∷ e ∷ f ∷ g ∷ h ∷ i ∷ js) l = absurd (omega (arith, l))

ordering_then-assoc : (o p q : Ordering) → ordering_then o (ordering_then p q) ≡ ordering_then (ordering_then o p) q
ordering_then-assoc Less p q = refl
ordering_then-assoc Equal p q = refl
ordering_then-assoc Greater p q = refl

-- a list's first so many elements decide, or what is behind them
cut_order : (n : ℕ) (bs cs : List ℕ) → n ≤ length bs → n ≤ length cs → slice_cmp nat_cmp bs cs ≡ ordering_then (slice_cmp nat_cmp (take n bs) (take n cs)) (slice_cmp nat_cmp (drop n bs) (drop n cs))
cut_order zero bs cs h g = refl
cut_order (suc n) [] cs h g = absurd (omega (arith, h))
cut_order (suc n) (b ∷ bs) [] h g = absurd (omega (arith, g))
cut_order (suc n) (b ∷ bs) (c ∷ cs) h g =
    ap (ordering_then (nat_cmp b c)) (cut_order n bs cs (omega (arith, h)) (omega (arith, g))) ∙ ordering_then-assoc (nat_cmp b c) _ _

are_bytes-take : (n : ℕ) (bs : List ℕ) → AreBytes bs → AreBytes (take n bs)
are_bytes-take zero bs a i = omega arith
are_bytes-take (suc n) [] a i = omega arith
are_bytes-take (suc n) (b ∷ bs) a zero = a 0
are_bytes-take (suc n) (b ∷ bs) a (suc i) = are_bytes-take n bs (λ i. a (suc i)) i

are_bytes-drop : (n : ℕ) (bs : List ℕ) → AreBytes bs → AreBytes (drop n bs)
are_bytes-drop zero bs a i = a i
are_bytes-drop (suc n) [] a i = omega arith
are_bytes-drop (suc n) (b ∷ bs) a i = are_bytes-drop n bs (λ i. a (suc i)) i

-- the order of the numbers that two lists' first eight bytes make
abbrev front_order : List ℕ → List ℕ → Ordering
front_order bs cs = nat_cmp (from_be_bytes w64 (take 8 bs)) (from_be_bytes w64 (take 8 cs))

front : (bs cs : List ℕ) → 8 ≤ length bs → 8 ≤ length cs → AreBytes bs → AreBytes cs → slice_cmp nat_cmp bs cs ≡ ordering_then (front_order bs cs) (slice_cmp nat_cmp (drop 8 bs) (drop 8 cs))
front bs cs h g a d =
    let l : length (take 8 bs) ≡ 8 = length-take-le 8 bs h in
    let m : length (take 8 cs) ≡ 8 = length-take-le 8 cs g in
    let same : front_order bs cs ≡ slice_cmp nat_cmp (take 8 bs) (take 8 cs) = (λ i. nat_cmp (eight (take 8 bs) l i) (eight (take 8 cs) m i)) ∙ digits_order 0 (take 8 bs) (take 8 cs) (l ∙ sym m) (are_bytes-take 8 bs a) (are_bytes-take 8 cs d) in
    cut_order 8 bs cs h g ∙ ap (λ o. ordering_then o (slice_cmp nat_cmp (drop 8 bs) (drop 8 cs))) (sym same)

-- from a place on, eight bytes of two arrays decide, or what is behind them
from_place : (at : ℕ) (bs cs : List ℕ) → at + 8 ≤ length bs → at + 8 ≤ length cs → AreBytes bs → AreBytes cs → (o : Ordering) → o ≡ nat_cmp (from_be_bytes w64 (take 8 (drop at bs))) (from_be_bytes w64 (take 8 (drop at cs)))
    → slice_cmp nat_cmp (drop at bs) (drop at cs) ≡ ordering_then o (slice_cmp nat_cmp (drop (at + 8) bs) (drop (at + 8) cs))
from_place at bs cs h g a d o e =
    let l = length-drop at bs in
    let m = length-drop at cs in
    front (drop at bs) (drop at cs) (omega (arith, l, h)) (omega (arith, m, g)) (are_bytes-drop at bs a) (are_bytes-drop at cs d)
    ∙ (λ i. ordering_then (sym e i) (slice_cmp nat_cmp (drop-drop 8 at bs i) (drop-drop 8 at cs i)))

-- where the order of the first numbers isn't `Equal` it is the whole's, whatever is behind
ends : (o rest whole : Ordering) → whole ≡ ordering_then o rest → is_ne o ≡ true → o ≡ whole
ends Less rest whole e n = sym e
ends Equal rest whole e n = absurd (false≢true n)
ends Greater rest whole e n = sym e

goes_on : (o rest whole : Ordering) → whole ≡ ordering_then o rest → is_ne o ≡ false → whole ≡ rest
goes_on Less rest whole e n = absurd (false≢true (sym n))
goes_on Equal rest whole e n = e
goes_on Greater rest whole e n = absurd (false≢true (sym n))

-- from a place on two arrays stand to one another as they do whole
abbrev pub IsOrderFrom : ℕ → List ℕ → List ℕ → Type 0
IsOrderFrom at bs cs = slice_cmp nat_cmp bs cs ≡ slice_cmp nat_cmp (drop at bs) (drop at cs)

module _ (bs cs : List ℕ) (a : AreBytes bs) (d : AreBytes cs) (o : Ordering) (at : ℕ) (h : at + 8 ≤ length bs) (g : at + 8 ≤ length cs) (w : IsOrderFrom at bs cs)
    (e : o ≡ nat_cmp (from_be_bytes w64 (take 8 (drop at bs))) (from_be_bytes w64 (take 8 (drop at cs)))) where
  -- there they part
  pub parts_at : is_ne o ≡ true → o ≡ slice_cmp nat_cmp bs cs
  parts_at n = ends o _ _ (w ∙ from_place at bs cs h g a d o e) n

  -- or they are equal for eight bytes more
  pub equal_beyond : is_ne o ≡ false → IsOrderFrom (at + 8) bs cs
  equal_beyond n = goes_on o _ _ (w ∙ from_place at bs cs h g a d o e) n

-- behind both there is nothing left that could tell them apart
pub equal_whole : (at : ℕ) (bs cs : List ℕ) → length bs ≡ at → length cs ≡ at → IsOrderFrom at bs cs → Equal ≡ slice_cmp nat_cmp bs cs
equal_whole at bs cs h g w = sym (w ∙ (λ i. slice_cmp nat_cmp (drop_all at bs (omega (arith, h)) i) (drop_all at cs (omega (arith, g)) i)))

same_zeros : (n : ℕ) → slice_cmp nat_cmp (replicate n 0) (replicate n 0) ≡ Equal
same_zeros zero = refl
same_zeros (suc n) = same_zeros n

-- an array is its text, and zeros
with_zeros : (size len : ℕ) (bytes : List ℕ) → HasZerosBehind size len bytes → bytes ≡ take len bytes ++ replicate (size - len) 0
with_zeros size len bytes p = sym (take-append-drop len bytes) ∙ ap (λ l. take len bytes ++ l) p.2

as_long : (size len : ℕ) (bytes : List ℕ) → HasZerosBehind size len bytes → length (take len bytes) + (size - len) ≡ size
as_long size len bytes p =
    let at_most = p.0 in
    let whole = p.1 in
    let len' = length-take-le len bytes (omega (arith, at_most, whole)) in
    omega (arith, len', at_most)

module _ (passes : ℕ → Bool) (some : (b : ℕ) → passes b ≡ true → 0 < b) where
  -- zeros behind texts without zeros, as many as make them equally long, leave their order as it is
  zeros_keep : (bs cs : List ℕ) (m n : ℕ) → list_all passes bs ≡ true → list_all passes cs ≡ true → length bs + m ≡ length cs + n
      → slice_cmp nat_cmp (bs ++ replicate m 0) (cs ++ replicate n 0) ≡ slice_cmp nat_cmp bs cs
  zeros_keep [] [] m n a d e =
      let same : m ≡ n = omega (arith, e) in
      ap (λ k. slice_cmp nat_cmp (replicate m 0) (replicate k 0)) (sym same) ∙ same_zeros m
  zeros_keep [] (c ∷ cs) zero n a d e = absurd (omega (arith, e))
  zeros_keep [] (c ∷ cs) (suc m) n a d e = ap (λ o. ordering_then o (slice_cmp nat_cmp (replicate m 0) (cs ++ replicate n 0))) (sym (nat_cmp_is 0 c Less (some c (and_parts _ _ d).0)))
  zeros_keep (b ∷ bs) [] m zero a d e = absurd (omega (arith, e))
  zeros_keep (b ∷ bs) [] m (suc n) a d e = ap (λ o. ordering_then o (slice_cmp nat_cmp (bs ++ replicate m 0) (replicate n 0))) (sym (nat_cmp_is b 0 Greater (some b (and_parts _ _ a).0)))
  zeros_keep (b ∷ bs) (c ∷ cs) m n a d e = ap (ordering_then (nat_cmp b c)) (zeros_keep bs cs m n (and_parts _ _ a).1 (and_parts _ _ d).1 (omega (arith, e)))

  -- arrays of one size are in the order of the texts in front of their zeros
  padded_order : (size len more : ℕ) (bytes others : List ℕ) → HasZerosBehind size len bytes → HasZerosBehind size more others
      → list_all passes (take len bytes) ≡ true → list_all passes (take more others) ≡ true
      → slice_cmp nat_cmp bytes others ≡ slice_cmp nat_cmp (take len bytes) (take more others)
  padded_order size len more bytes others p q a d =
      (λ i. slice_cmp nat_cmp (with_zeros size len bytes p i) (with_zeros size more others q i))
      ∙ zeros_keep (take len bytes) (take more others) (size - len) (size - more) a d (as_long size len bytes p ∙ sym (as_long size more others q))

key_byte_is_some : (b : ℕ) → is_key_byte b ≡ true → 0 < b
key_byte_is_some b t = grind (arith, nat_tests)

value_byte_is_some : (b : ℕ) → is_value_byte b ≡ true → 0 < b
value_byte_is_some b t = grind (arith, nat_tests)

-- the arrays of two keys are in the order of their texts
pub keys_order : (k j : Inside) → IsStored k → IsStored j → slice_cmp nat_cmp k.bytes j.bytes ≡ slice_cmp nat_cmp (key_of k) (key_of j)
keys_order k j s t = padded_order is_key_byte key_byte_is_some 32 k.len j.len k.bytes j.bytes s.1 t.1 (and_parts _ _ s.0).1 (and_parts _ _ t.0).1

value_bytes_pass : (text : List ℕ) → IsTrue (is_value text) → list_all is_value_byte text ≡ true
value_bytes_pass text v = (and_parts _ _ (and_parts _ _ v).0).1

-- and those of two short values
pub shorts_order : (a b : Short) → IsKept (stored.Short a) → IsKept (stored.Short b) → slice_cmp nat_cmp a.bytes b.bytes ≡ slice_cmp nat_cmp (text_of a) (text_of b)
shorts_order a b s t =
    padded_order is_value_byte value_byte_is_some VALUE_BYTES_IN_PLACE a.len b.len a.bytes b.bytes s.1 t.1 (value_bytes_pass (text_of a) s.0) (value_bytes_pass (text_of b) t.0)

-- a text put in front of zeros has zeros behind it
pub text_padded : (size : ℕ) (text whole : List ℕ) → length text ≤ size → whole ≡ text ++ drop (length text) (replicate size 0)
    → HasZerosBehind size (length text) whole × (take (length text) whole ≡ text)
text_padded size text whole at_most e =
    let w : whole ≡ text ++ replicate (size - length text) 0 = e ∙ ap (λ l. text ++ l) (drop-replicate (length text) size 0) in
    let sum : length text + (size - length text) ≡ size = omega (arith, at_most) in
    let long : length whole ≡ size = ap length w ∙ length-append text (replicate (size - length text) 0) ∙ ap (λ n. length text + n) (length-replicate (size - length text) 0) ∙ sum in
    let front : take (length text) whole ≡ text = ap (take (length text)) w ∙ take-append_seam text (replicate (size - length text) 0) in
    ((at_most, long, ap (drop (length text)) w ∙ drop-append_seam text (replicate (size - length text) 0)), front)

-- so it is a key that is stored, where it is a key
pub text_stored : (text whole : List ℕ) → IsTrue (is_key text) → whole ≡ text ++ drop (length text) (replicate 32 0) → IsStored (record { len = length text; bytes = whole })
text_stored text whole key e =
    let short : is_short 32 text ≡ true = (and_parts _ _ key).0 in
    let at_most : length text ≤ 32 = grind (arith, nat_tests, short) in
    let padded = text_padded 32 text whole at_most e in
    (subst (λ l. IsTrue (is_key l)) (sym padded.1) key, padded.0)

-- and keys are equal where the order of their arrays is
pub keys_equal : (k j : Inside) → IsStored k → IsStored j → is_eq (slice_cmp nat_cmp k.bytes j.bytes) ≡ pointwise nat_eq (key_of k) (key_of j)
keys_equal k j s t = ap is_eq (keys_order k j s t) ∙ sym (texts_ties (key_of k) (key_of j))
