-- The columns of a matrix, and what noting a message makes of them.
use Rattle.std.proofs.Common.{◌≡◌, ◌≢◌, ◌↔◌, ℕ, ◌<◌, ◌-◌, ◌==◌, ◌&&◌, ◌++◌, Bool, true, false, not, nat_eq, take, replicate, IsTrue, true≢false, subst, All, List, [], length, get_or, set, length-set, refl, sym, ap, ◌∙◌, arith}
use Rattle.std.specs.Cmp.Lexicographic.{pointwise, bytes_decides}
use Rattle.std.proofs.Math.Seq.{take-append_seam}
use Rattle.std.proofs.lemmas.Bool.{and_parts, and_from, eqb-true, eq-eqb, true_from_ne_false}
use Rattle.std.proofs.lemmas.Grind.{get_or-set_at, same_number_lists}
use Rattle.std.proofs.lemmas.List.{length-map, get_or-map, set-get_or}
use Rattle.std.proofs.lemmas.List.Elements.{All-set}
use Rattle.std.proofs.lemmas.List.FromFn.{length-map-range_with_len, get_or-map-range_with_len}
use Rattle.op_base.specs.Timestamp.{entry}
use Rattle.causal_model.specs.Stability.{minimum}
use Rattle.stability_matrix.specs.Rows.{row_of, column_of, stable_of, noted}

pub length-column : (rows : List (List ℕ)) (x : ℕ) → length (column_of rows x) ≡ length rows
length-column rows x = length-map rows (λ row. entry row x)

pub get_or-column : (rows : List (List ℕ)) (x y : ℕ) → y < length rows → get_or (column_of rows x) y 0 ≡ entry (row_of rows y) x
get_or-column rows x y l = get_or-map (λ row. entry row x) rows y [] 0 l

-- ---- the least of each column

pub entry-stable_of : (rows : List (List ℕ)) (x : ℕ) → x < length rows → entry (stable_of rows) x ≡ minimum (column_of rows x)
entry-stable_of rows x l = get_or-map-range_with_len (λ y. minimum (column_of rows y)) 0 (length rows) x x 0 l (omega arith)

pub length-stable_of : (rows : List (List ℕ)) → length (stable_of rows) ≡ length rows
length-stable_of rows = length-map-range_with_len (λ y. minimum (column_of rows y)) 0 (length rows)

pub is_stable_of : (rows : List (List ℕ)) (tag : List ℕ) → length tag ≡ length rows → ((x : ℕ) → x < length rows → entry tag x ≡ minimum (column_of rows x)) → tag ≡ stable_of rows
is_stable_of rows tag len each = same_number_lists tag (stable_of rows) (len ∙ sym (length-stable_of rows)) (λ x l.
    let k : x < length rows = omega (arith, l, len) in
    each x k ∙ sym (entry-stable_of rows x k))

-- ---- a message noted

-- an own message, noted: the own row alone is another
pub noted_own : (me : ℕ) (tag : List ℕ) (rows : List (List ℕ)) → me < length rows → noted me me tag rows ≡ set rows me tag
noted_own me tag rows l =
    let replaced = set rows me tag in
    let here : row_of replaced me ≡ tag = get_or-set_at rows me me tag [] refl l in
    ap (set replaced me) (ap (λ row. set row me (entry tag me)) here ∙ set-get_or tag me 0 ∙ sym here) ∙ set-get_or replaced me []

pub square-noted : (me origin : ℕ) (tag : List ℕ) (rows : List (List ℕ)) (n : ℕ) → All (λ row. length row ≡ n) rows → length tag ≡ n → me < length rows → All (λ row. length row ≡ n) (noted me origin tag rows)
square-noted me origin tag rows n square len own =
    let replaced = set rows origin tag in
    let each : All (λ row. length row ≡ n) replaced = All-set (λ row. length row ≡ n) rows origin tag len square in
    All-set (λ row. length row ≡ n) replaced me (set (row_of replaced me) origin (entry tag origin))
    (length-set (row_of replaced me) origin (entry tag origin) ∙ each me [] (omega (arith, own, length-set rows origin tag))) each

-- ---- timestamps are compared with the zeros behind their numbers

-- numbers are equal where they are as many, and equal with what stands behind them
pub same_numbers : (xs ys behind others : List ℕ) → ((length xs == length ys) && pointwise nat_eq (xs ++ behind) (ys ++ others)) ≡ true → xs ≡ ys
same_numbers xs ys behind others t =
    let both = and_parts (length xs == length ys) (pointwise nat_eq (xs ++ behind) (ys ++ others)) t in
    let long : length xs ≡ length ys = eqb-true (length xs) (length ys) both.0 in
    let whole : xs ++ behind ≡ ys ++ others = (bytes_decides (xs ++ behind) (ys ++ others)).0 both.1 in
    sym (take-append_seam xs behind) ∙ (λ i. take (long i) (whole i)) ∙ take-append_seam ys others

-- and such are found equal
pub equal_numbers : (xs ys : List ℕ) → xs ≡ ys → ((length xs == length ys) && pointwise nat_eq (xs ++ replicate (16 - length xs) 0) (ys ++ replicate (16 - length ys) 0)) ≡ true
equal_numbers xs ys same =
    let zs = xs ++ replicate (16 - length xs) 0 in
    subst (λ ys. ((length xs == length ys) && pointwise nat_eq zs (ys ++ replicate (16 - length ys) 0)) ≡ true) same
    (and_from (length xs == length xs) (pointwise nat_eq zs zs) (eq-eqb (length xs) (length xs) refl) ((bytes_decides zs zs).1 refl))

-- so where they aren't told apart, they are equal
pub told_same : (xs ys : List ℕ) (apart : Bool) → apart ≡ not ((length xs == length ys) && pointwise nat_eq (xs ++ replicate (16 - length xs) 0) (ys ++ replicate (16 - length ys) 0)) → apart ≡ false → xs ≡ ys
told_same xs ys apart is none = same_numbers xs ys (replicate (16 - length xs) 0) (replicate (16 - length ys) 0) (passed apart _ is none)
  where
    passed : (apart test : Bool) → apart ≡ not test → apart ≡ false → test ≡ true
    passed apart true is none = refl
    passed apart false is none = absurd (true≢false (sym is ∙ none))

-- and they are exactly where they differ
pub told_apart : (xs ys : List ℕ) (apart : Bool) → apart ≡ not ((length xs == length ys) && pointwise nat_eq (xs ++ replicate (16 - length xs) 0) (ys ++ replicate (16 - length ys) 0)) → IsTrue apart ↔ (xs ≢ ys)
told_apart xs ys apart is = (
  (λ true same. true≢false (sym true ∙ is ∙ ap not (equal_numbers xs ys same))),
  (λ differ. true_from_ne_false apart (λ none. differ (told_same xs ys apart is none))),
)
