-- Rows of a list of stamps and one of items as long: what edits of both lists make of them.
use Rattle.std.proofs.Common.{◌≡◌, ℕ, ◌+◌, ◌-◌, ◌<◌, append_assoc, zero, suc, List, [], ◌∷◌, ◌++◌, length, take, drop, get_or, set, length-append, length-drop, refl, sym, ap, ◌∙◌, arith}
use Rattle.std.specs.List.{insert, swap}
use Rattle.std.specs.Option.{option_to_list}
use Rattle.std.specs.Prelude.{slice_range, IfSome, Option, Some, None}
use Rattle.std.proofs.lemmas.List.{take_at, drop_at, drop-set-lt, get_or-set_same, length-set, set-get_or, take-set-le, take_more}
use Rattle.op_base.specs.declared.message.Entry.{Entry}
use Rattle.polog.specs.Order.{rows, items_of}
use Rattle.polog.specs.declared.marks.Stamp.{Stamp}
use Rattle.polog.specs.Rows.{Table, turned}

same-take : {A B : Type 0} (i : ℕ) (xs : List A) (ys : List B) → length xs ≡ length ys → length (take i xs) ≡ length (take i ys)
same-take zero [] [] same = refl
same-take zero [] (y ∷ ys) same = refl
same-take zero (x ∷ xs) [] same = refl
same-take zero (x ∷ xs) (y ∷ ys) same = refl
same-take (suc i) [] [] same = refl
same-take (suc i) [] (y ∷ ys) same = cc
same-take (suc i) (x ∷ xs) [] same = cc
same-take (suc i) (x ∷ xs) (y ∷ ys) same = ap suc (same-take i xs ys (omega (arith, same)))

-- exchanged with itself, an element stays
pub swap-itself : {A : Type 0} (i : ℕ) (xs : List A) → swap xs i i ≡ xs
swap-itself i [] = refl
swap-itself i (x ∷ xs) = ap (λ ys. set ys i (get_or (x ∷ xs) i x)) (set-get_or (x ∷ xs) i x) ∙ set-get_or (x ∷ xs) i x

-- a list that is cut behind an item that was put in
pub cut-behind-set : {A : Type 0} (i j : ℕ) (xs : List A) (x : A) → i < j → i < length xs → take (i + 1) (set xs i x) ++ drop j (set xs i x) ≡ take i xs ++ x ∷ drop j xs
cut-behind-set i j xs x before inside =
    let long : i < length (set xs i x) = omega (arith, inside, length-set xs i x) in
    (λ t. (take_more (set xs i x) i x long ∙ (λ u. take-set-le i xs i x (omega arith) u ++ get_or-set_same xs i x x inside u ∷ [])) t ++ drop-set-lt j xs i x before t)
    ∙ append_assoc (take i xs) (x ∷ []) (drop j xs)

-- a list is apart into its last item and those before it
pub last-apart : {A : Type 0} (xs rest : List A) (x : A) → xs ≡ rest ++ x ∷ [] → (take (length xs - 1) xs ≡ rest) × (drop (length xs - 1) xs ≡ x ∷ [])
last-apart xs rest x is =
    let less : length rest ≡ length xs - 1 = omega (arith, ap length is, length-append rest (x ∷ [])) in
    (ap (take (length xs - 1)) is ∙ take_at rest (x ∷ []) (length xs - 1) less, ap (drop (length xs - 1)) is ∙ drop_at rest (x ∷ []) (length xs - 1) less)

module _ {E : Type 0} where
  pub rows-join : (ss more : List Stamp) (es fs : List E) → length ss ≡ length es → rows (ss ++ more) (es ++ fs) ≡ rows ss es ++ rows more fs
  rows-join [] more [] fs same = refl
  rows-join [] more (e ∷ es) fs same = cc
  rows-join (s ∷ ss) more [] fs same = cc
  rows-join (s ∷ ss) more (e ∷ es) fs same = ap (λ rs. (s.number, e) ∷ rs) (rows-join ss more es fs (omega (arith, same)))

  pub items-rows : (ss : List Stamp) (es : List E) → length ss ≡ length es → items_of (rows ss es) ≡ es
  items-rows [] [] same = refl
  items-rows [] (e ∷ es) same = cc
  items-rows (s ∷ ss) [] same = cc
  items-rows (s ∷ ss) (e ∷ es) same = ap (λ xs. e ∷ xs) (items-rows ss es (omega (arith, same)))

  pub length-rows : (ss : List Stamp) (es : List E) → length ss ≡ length es → length (rows ss es) ≡ length es
  length-rows [] [] same = refl
  length-rows [] (e ∷ es) same = cc
  length-rows (s ∷ ss) [] same = cc
  length-rows (s ∷ ss) (e ∷ es) same = ap suc (length-rows ss es (omega (arith, same)))

  pub rows-take : (k : ℕ) (ss : List Stamp) (es : List E) → rows (take k ss) (take k es) ≡ take k (rows ss es)
  rows-take zero [] es = refl
  rows-take zero (s ∷ ss) [] = refl
  rows-take zero (s ∷ ss) (e ∷ es) = refl
  rows-take (suc k) [] es = refl
  rows-take (suc k) (s ∷ ss) [] = refl
  rows-take (suc k) (s ∷ ss) (e ∷ es) = ap (λ rs. (s.number, e) ∷ rs) (rows-take k ss es)

  pub rows-drop : (k : ℕ) (ss : List Stamp) (es : List E) → length ss ≡ length es → rows (drop k ss) (drop k es) ≡ drop k (rows ss es)
  rows-drop zero [] es same = refl
  rows-drop zero (s ∷ ss) [] same = refl
  rows-drop zero (s ∷ ss) (e ∷ es) same = refl
  rows-drop (suc k) [] [] same = refl
  rows-drop (suc k) [] (e ∷ es) same = cc
  rows-drop (suc k) (s ∷ ss) [] same = cc
  rows-drop (suc k) (s ∷ ss) (e ∷ es) same = rows-drop k ss es (omega (arith, same))

  pub rows-set : (k : ℕ) (ss : List Stamp) (es : List E) (s : Stamp) (e : E) → rows (set ss k s) (set es k e) ≡ set (rows ss es) k (s.number, e)
  rows-set zero [] es s e = refl
  rows-set zero (r ∷ ss) [] s e = refl
  rows-set zero (r ∷ ss) (f ∷ es) s e = refl
  rows-set (suc k) [] es s e = refl
  rows-set (suc k) (r ∷ ss) [] s e = refl
  rows-set (suc k) (r ∷ ss) (f ∷ es) s e = ap (λ rs. (r.number, f) ∷ rs) (rows-set k ss es s e)

  pub rows-at : (k : ℕ) (ss : List Stamp) (es : List E) (s : Stamp) (e : E) → length ss ≡ length es → get_or (rows ss es) k (s.number, e) ≡ ((get_or ss k s).number, get_or es k e)
  rows-at k [] [] s e same = refl
  rows-at k [] (f ∷ es) s e same = cc
  rows-at k (r ∷ ss) [] s e same = cc
  rows-at zero (r ∷ ss) (f ∷ es) s e same = refl
  rows-at (suc k) (r ∷ ss) (f ∷ es) s e same = rows-at k ss es s e (omega (arith, same))

  -- ---- edits

  pub rows-cut : (i j : ℕ) (ss : List Stamp) (es : List E) → length ss ≡ length es → rows (take i ss ++ drop j ss) (take i es ++ drop j es) ≡ take i (rows ss es) ++ drop j (rows ss es)
  rows-cut i j ss es same =
      rows-join (take i ss) (drop j ss) (take i es) (drop j es) (same-take i ss es same)
      ∙ (λ t. rows-take i ss es t ++ rows-drop j ss es same t)

  pub rows-turned : (to from end : ℕ) (ss : List Stamp) (es : List E) → length ss ≡ length es → rows (turned to from end ss) (turned to from end es) ≡ turned to from end (rows ss es)
  rows-turned to from end ss es same =
      let m : ℕ = from - to in
      let stamps : List Stamp = slice_range ss to end in
      let items : List E = slice_range es to end in
      let many : length stamps ≡ length items = same-take (end - to) (drop to ss) (drop to es) (omega (arith, length-drop to ss, length-drop to es, same)) in
      let later : length (drop m stamps) ≡ length (drop m items) = omega (arith, length-drop m stamps, length-drop m items, many) in
      let both : length (drop m stamps ++ take m stamps) ≡ length (drop m items ++ take m items) =
      omega (arith, length-append (drop m stamps) (take m stamps), length-append (drop m items) (take m items), later, same-take m stamps items many) in
      let part : rows stamps items ≡ slice_range (rows ss es) to end = rows-take (end - to) (drop to ss) (drop to es) ∙ ap (take (end - to)) (rows-drop to ss es same) in
      let front = rows-drop m stamps items many ∙ ap (drop m) part in
      let back = rows-take m stamps items ∙ ap (take m) part in
      let middle = rows-join (drop m stamps) (take m stamps) (drop m items) (take m items) later ∙ (λ t. front t ++ back t) in
      let rest = rows-join (drop m stamps ++ take m stamps) (drop end ss) (drop m items ++ take m items) (drop end es) both ∙ (λ t. middle t ++ rows-drop end ss es same t) in
      rows-join (take to ss) ((drop m stamps ++ take m stamps) ++ drop end ss) (take to es) ((drop m items ++ take m items) ++ drop end es) (same-take to ss es same)
      ∙ (λ t. rows-take to ss es t ++ rest t)

  pub rows-insert : (i : ℕ) (ss : List Stamp) (es : List E) (s : Stamp) (e : E) → length ss ≡ length es → rows (insert ss i s) (insert es i e) ≡ insert (rows ss es) i (s.number, e)
  rows-insert i ss es s e same =
      rows-join (take i ss) (s ∷ drop i ss) (take i es) (e ∷ drop i es) (same-take i ss es same)
      ∙ (λ t. rows-take i ss es t ++ (s.number, e) ∷ rows-drop i ss es same t)

  pub rows-swap : (i j : ℕ) (ss : List Stamp) (es : List E) → length ss ≡ length es → rows (swap ss i j) (swap es i j) ≡ swap (rows ss es) i j
  rows-swap i j [] [] same = refl
  rows-swap i j [] (e ∷ es) same = cc
  rows-swap i j (s ∷ ss) [] same = cc
  rows-swap i j (s ∷ ss) (e ∷ es) same =
      rows-set j (set (s ∷ ss) i (get_or (s ∷ ss) j s)) (set (e ∷ es) i (get_or (e ∷ es) j e)) (get_or (s ∷ ss) i s) (get_or (e ∷ es) i e)
      ∙ ap (λ rs. set rs j ((get_or (s ∷ ss) i s).number, get_or (e ∷ es) i e)) (rows-set i (s ∷ ss) (e ∷ es) (get_or (s ∷ ss) j s) (get_or (e ∷ es) j e))
      ∙ sym (λ t. set (set ((s.number, e) ∷ rows ss es) i (rows-at j (s ∷ ss) (e ∷ es) s e same t)) j (rows-at i (s ∷ ss) (e ∷ es) s e same t))

  -- the last of both
  pub rows-last : (ss : List Stamp) (es : List E) (s : Stamp) (e : E) → length (ss ++ s ∷ []) ≡ length (es ++ e ∷ []) → (length ss ≡ length es) × (rows (ss ++ s ∷ []) (es ++ e ∷ []) ≡ rows ss es ++ (s.number, e) ∷ [])
  rows-last ss es s e same =
      let fewer : length ss ≡ length es = omega (arith, same, length-append ss (s ∷ []), length-append es (e ∷ [])) in
      (fewer, rows-join ss (s ∷ []) es (e ∷ []) fewer)

  -- what is left where both lose their last
  pub items-less : (ss more : List Stamp) (es rest : List E) (m n : ℕ) (e : Option E) → length ss ≡ length es → m ≡ n → more ≡ take m ss → rest ≡ take n es → es ≡ rest ++ option_to_list e
      → IfSome e (λ x. items_of (rows ss es) ≡ items_of (rows more rest) ++ x ∷ [])
  items-less ss more es rest m n None same at stamps entries whole = tt
  items-less ss more es rest m n (Some e) same at stamps entries whole =
      let as_long : length more ≡ length rest = ap length stamps ∙ same-take m ss es same ∙ (λ t. length (take (at t) es)) ∙ sym (ap length entries) in
      items-rows ss es same ∙ whole ∙ ap (λ xs. xs ++ e ∷ []) (sym (items-rows more rest as_long))

-- ---- what is seen of a table

-- there are as many rows as entries
pub as_many : (room : ℕ) (ss : List Stamp) (es : List Entry) (table : Table) → length ss ≡ length es → record { room = room; rows = rows ss es } ≡ table → length table.rows ≡ length es
as_many room ss es table same seen = sym (ap (λ (t : Table). length t.rows) seen) ∙ length-rows ss es same

-- a row of a table is of the number in the stamp and the entry at its place
pub row-seen : (room : ℕ) (ss : List Stamp) (es : List Entry) (table : Table) (at : ℕ) (s : Stamp) (e : Entry) → length ss ≡ length es → record { room = room; rows = rows ss es } ≡ table
    → get_or table.rows at (s.number, e) ≡ ((get_or ss at s).number, get_or es at e)
row-seen room ss es table at s e same seen = ap (λ (t : Table). get_or t.rows at (s.number, e)) (sym seen) ∙ rows-at at ss es s e same

-- where a table has room for one row more, there are fewer entries than the room has
pub fewer : (room : ℕ) (ss : List Stamp) (es : List Entry) (table : Table) → length ss ≡ length es → record { room = room; rows = rows ss es } ≡ table → length table.rows < table.room → length es < room
fewer room ss es table same seen free =
    let many = as_many room ss es table same seen in
    let roomy : room ≡ table.room = ap (λ (t : Table). t.room) seen in
    omega (arith, many, roomy, free)
