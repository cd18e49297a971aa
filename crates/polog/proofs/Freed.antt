-- Rows that are freed, one by one, and free rows that are put in.
use Rattle.std.proofs.Common.{◌≡◌, ℕ, ◌+◌, ◌-◌, ◌<◌, ◌≤◌, suc, List, [], ◌∷◌, ◌++◌, length, take, drop, set, get_or, take_at, drop_at, take-take, take_all, drop-cons, append_assoc, append-nil, length-append, length-take-le, length-drop, refl, sym, ap, subst, ◌∙◌, arith}
use Rattle.std.specs.List.{insert}
use Rattle.op_base.specs.declared.message.Entry.{Entry}
use Rattle.polog.specs.Order.{Each}
use Rattle.polog.specs.Rows.{Table, with_rows, turned, free_number, idle_act, idle_of, IsFreeFor, IsFreed, IsPutIn, IsPlaced}
use Rattle.polog.specs.declared.idle.Idle.{Idle}
use Rattle.polog.specs.declared.sweep.Swept.{Swept}
use Rattle.polog.proofs.Laid.{joined}
use Rattle.polog.proofs.Orders.{each-join}

module _ {A : Type 0} where
  -- an item in the place of the first of those behind others
  pub set-behind : (xs ys : List A) (y x : A) → set (xs ++ y ∷ ys) (length xs) x ≡ xs ++ x ∷ ys
  set-behind [] ys y x = refl
  set-behind (z ∷ xs) ys y x = ap (λ zs. z ∷ zs) (set-behind xs ys y x)

  -- in a list whose front and what follows are others' it is put behind these
  set-next : (old gap : List A) (from at : ℕ) (x : A) → from + length gap ≡ at → at < length old
      → set (take from old ++ (gap ++ drop at old)) at x ≡ take from old ++ ((gap ++ x ∷ []) ++ drop (at + 1) old)
  set-next old gap from at x whole inside =
      let front = take from old ++ gap in
      let long : length front ≡ at = omega (arith, length-append (take from old) gap, length-take-le from old (omega (arith, whole, inside)), whole) in
      let next : suc at ≡ at + 1 = omega arith in
      let rest : drop at old ≡ get_or old at x ∷ drop (at + 1) old = drop-cons old at x inside ∙ ap (λ k. get_or old at x ∷ drop k old) next in
      ap (λ zs. set zs at x) (sym (append_assoc (take from old) gap (drop at old)) ∙ ap (λ zs. front ++ zs) rest)
      ∙ ap (λ k. set (front ++ get_or old at x ∷ drop (at + 1) old) k x) (sym long) ∙ set-behind front (drop (at + 1) old) (get_or old at x) x
      ∙ append_assoc (take from old) gap (x ∷ drop (at + 1) old) ∙ ap (λ zs. take from old ++ zs) (sym (append_assoc gap (x ∷ []) (drop (at + 1) old)))

  -- what is behind a list is moved in front of its items from a place on
  turned-behind : (xs ys : List A) (at end : ℕ) → at ≤ length xs → end ≡ length (xs ++ ys) → turned at (length xs) end (xs ++ ys) ≡ take at xs ++ (ys ++ drop at xs)
  turned-behind xs ys at end l all =
      let front = take at xs in
      let back = drop at xs in
      let first : length front ≡ at = length-take-le at xs l in
      let second : length back ≡ length xs - at = length-drop at xs in
      let whole : xs ++ ys ≡ front ++ (back ++ ys) = ap (λ zs. zs ++ ys) (sym (joined at xs)) ∙ append_assoc front back ys in
      let ahead : take at (xs ++ ys) ≡ front = ap (take at) whole ∙ take_at front (back ++ ys) at first in
      let rest : drop at (xs ++ ys) ≡ back ++ ys = ap (drop at) whole ∙ drop_at front (back ++ ys) at first in
      let part : take (end - at) (drop at (xs ++ ys)) ≡ back ++ ys = ap (take (end - at)) rest ∙ take_all (end - at) (back ++ ys) (omega (arith, all, length-append xs ys, length-append back ys, second, l)) in
      let none : drop end (xs ++ ys) ≡ [] = ap (λ zs. drop end zs) (sym (append-nil (xs ++ ys))) ∙ drop_at (xs ++ ys) [] end (sym all) in
      (λ i. ahead i ++ ((drop (length xs - at) (part i) ++ take (length xs - at) (part i)) ++ none i))
      ∙ (λ i. front ++ ((drop_at back ys (length xs - at) second i ++ take_at back ys (length xs - at) second i) ++ []))
      ∙ ap (λ zs. front ++ zs) (append-nil (ys ++ back))

  -- what is taken of what was taken
  take-front : (i j : ℕ) (xs ys : List A) → i ≤ j → j ≤ length xs → take i (take j xs ++ ys) ≡ take i xs
  take-front i j xs ys l inside =
      let part : take j xs ≡ take i xs ++ drop i (take j xs) = sym (joined i (take j xs)) ∙ ap (λ zs. zs ++ drop i (take j xs)) (take-take i j xs l) in
      ap (λ zs. take i (zs ++ ys)) part ∙ ap (take i) (append_assoc (take i xs) (drop i (take j xs)) ys)
      ∙ take_at (take i xs) (drop i (take j xs) ++ ys) i (length-take-le i xs (omega (arith, l, inside)))

  -- an item in the place of another
  pub set-at : (xs : List A) (i : ℕ) (x : A) → i < length xs → set xs i x ≡ take i xs ++ x ∷ drop (i + 1) xs
  set-at xs i x l =
      let next : suc i ≡ i + 1 = omega arith in
      let apart : take i xs ++ get_or xs i x ∷ drop (i + 1) xs ≡ xs = ap (λ ys. take i xs ++ ys) (sym (drop-cons xs i x l ∙ ap (λ k. get_or xs i x ∷ drop k xs) next)) ∙ joined i xs in
      ap (λ ys. set ys i x) (sym apart) ∙ ap (λ k. set (take i xs ++ get_or xs i x ∷ drop (i + 1) xs) k x) (sym (length-take-le i xs (omega (arith, l))))
      ∙ set-behind (take i xs) (drop (i + 1) xs) (get_or xs i x) x

module _ (idle : Idle) (old : Table) (e : Entry) (origin : e.origin ≡ idle.origin) (tag : e.tag ≡ idle.tag) (object : e.update.object ≡ idle.object) (act : e.update.act ≡ idle_act idle.object.kind) where
  is-free : IsFreeFor idle (free_number, e)
  is-free = record { number = refl; origin = origin; tag = tag; object = object; act = act }

  -- one row is freed
  pub freed-one : (at : ℕ) → at < length old.rows → IsFreed idle 1 at (at + 1) old (with_rows old (set old.rows at (free_number, e)))
  freed-one at inside = record {
    gap = (free_number, e) ∷ [];
    free = (is-free, tt);
    count = refl;
    rows = ap (with_rows old) (set-at old.rows at (free_number, e) inside);
  }

  -- one row more is freed
  pub freed-more : (from at : ℕ) (now : Table) → from ≤ at → at < length old.rows → IsFreed idle (at - from) from at old now
      → IsFreed idle (at + 1 - from) from (at + 1) old (with_rows now (set now.rows at (free_number, e)))
  freed-more from at now order inside freed = record {
    gap = freed.gap ++ (free_number, e) ∷ [];
    free = each-join (IsFreeFor idle) freed.gap ((free_number, e) ∷ []) freed.free (is-free, tt);
    count = omega (arith, length-append freed.gap ((free_number, e) ∷ []), freed.count, order);
    rows = (λ i. record { room = ap (λ (t : Table). t.room) freed.rows i; rows = set (ap (λ (t : Table). t.rows) freed.rows i) at (free_number, e) })
        ∙ ap (with_rows old) (set-next old.rows freed.gap from at (free_number, e) (omega (arith, freed.count, order)) inside);
  }

  -- one is put in at the end
  pub opened-more : (many : ℕ) (now : Table) → IsFreed idle many (length old.rows) (length old.rows) old now
      → IsFreed idle (many + 1) (length old.rows) (length old.rows) old (with_rows now (insert now.rows (length now.rows) (free_number, e)))
  opened-more many now freed =
      let len = length old.rows in
      let r : ℕ × Entry = (free_number, e) in
      let none : drop len old.rows ≡ [] = ap (λ zs. drop len zs) (sym (append-nil old.rows)) ∙ drop_at old.rows [] len refl in
      let ends : (xs : List (ℕ × Entry)) → insert xs (length xs) r ≡ xs ++ r ∷ [] = λ xs. (λ i. take_all (length xs) xs (omega arith) i ++ r ∷ (ap (λ zs. drop (length xs) zs) (sym (append-nil xs)) ∙ drop_at xs [] (length xs) refl) i) in
      record {
        gap = freed.gap ++ r ∷ [];
        free = each-join (IsFreeFor idle) freed.gap (r ∷ []) freed.free (is-free, tt);
        count = omega (arith, length-append freed.gap (r ∷ []), freed.count);
        rows = ap (with_rows now) (ends now.rows) ∙ grown;
      } where
        grown : with_rows now (now.rows ++ (free_number, e) ∷ []) ≡ with_rows old (take (length old.rows) old.rows ++ ((freed.gap ++ (free_number, e) ∷ []) ++ drop (length old.rows) old.rows))
        grown =
            let len = length old.rows in
            let r : ℕ × Entry = (free_number, e) in
            let none : drop len old.rows ≡ [] = ap (λ zs. drop len zs) (sym (append-nil old.rows)) ∙ drop_at old.rows [] len refl in
            let room : now.room ≡ old.room = ap (λ (t : Table). t.room) freed.rows in
            let is : now.rows ≡ take len old.rows ++ (freed.gap ++ drop len old.rows) = ap (λ (t : Table). t.rows) freed.rows in
            let longer : (take len old.rows ++ (freed.gap ++ drop len old.rows)) ++ r ∷ [] ≡ take len old.rows ++ ((freed.gap ++ r ∷ []) ++ drop len old.rows) =
            append_assoc (take len old.rows) (freed.gap ++ drop len old.rows) (r ∷ []) ∙ ap (λ zs. take len old.rows ++ ((freed.gap ++ zs) ++ r ∷ [])) none
            ∙ ap (λ zs. take len old.rows ++ (zs ++ r ∷ [])) (append-nil freed.gap) ∙ ap (λ zs. take len old.rows ++ zs) (sym (append-nil (freed.gap ++ r ∷ [])))
            ∙ ap (λ zs. take len old.rows ++ ((freed.gap ++ r ∷ []) ++ zs)) (sym none) in
            λ i. record { room = room i; rows = (ap (λ zs. zs ++ r ∷ []) is ∙ longer) i }

-- all that were put in at the end are moved in front of what stands from a place on
pub opened-at : (idle : Idle) (many at : ℕ) (old now new : Table) → at ≤ length old.rows → IsFreed idle many (length old.rows) (length old.rows) old now
    → new ≡ with_rows now (turned at (length old.rows) (length now.rows) now.rows) → IsFreed idle many at at old new
opened-at idle many at old now new l freed turns =
    let len = length old.rows in
    let none : drop len old.rows ≡ [] = ap (λ zs. drop len zs) (sym (append-nil old.rows)) ∙ drop_at old.rows [] len refl in
    let was : now.rows ≡ take len old.rows ++ (freed.gap ++ drop len old.rows) = ap (λ (t : Table). t.rows) freed.rows in
    let is : now.rows ≡ old.rows ++ freed.gap = was ∙ (λ i. take_all len old.rows (omega arith) i ++ (freed.gap ++ none i)) ∙ ap (λ zs. old.rows ++ zs) (append-nil freed.gap) in
    record {
      gap = freed.gap;
      free = freed.free;
      count = freed.count;
      rows = turns ∙ (λ i. record { room = ap (λ (t : Table). t.room) freed.rows i; rows = turned at len (length (is i)) (is i) })
          ∙ ap (with_rows old) (turned-behind old.rows freed.gap at (length (old.rows ++ freed.gap)) l refl);
    }

-- ---- an entry that is put in

module _ (e : Entry) (number : ℕ) where
  -- in the first of free rows that were opened
  pub put-in-opened : (many at : ℕ) (old opened new : Table) → 0 < many → at ≤ length old.rows → IsFreed (idle_of e) many at at old opened → new ≡ with_rows opened (set opened.rows at (number, e)) → IsPutIn at number e old new
  put-in-opened many at old opened new some l freed is = first freed.gap refl where
    front : length (take at old.rows) ≡ at
    front = length-take-le at old.rows l

    first : (gap : List (ℕ × Entry)) → freed.gap ≡ gap → IsPutIn at number e old new
    first [] none = absurd (omega (arith, ap length none, freed.count, some))
    first (r ∷ gap) has =
        let back = gap ++ drop at old.rows in
        let rows : opened.rows ≡ take at old.rows ++ r ∷ back = ap (λ (t : Table). t.rows) freed.rows ∙ ap (λ xs. take at old.rows ++ (xs ++ drop at old.rows)) has in
        let put : set opened.rows at (number, e) ≡ take at old.rows ++ (number, e) ∷ back =
        ap (λ xs. set xs at (number, e)) rows ∙ ap (λ k. set (take at old.rows ++ r ∷ back) k (number, e)) (sym front) ∙ set-behind (take at old.rows) back r (number, e) in
        record {
          gap = gap;
          free = (subst (Each (IsFreeFor (idle_of e))) has freed.free).1;
          rows = is ∙ (λ i. record { room = ap (λ (t : Table). t.room) freed.rows i; rows = put i });
        }

  module _ (swept : Swept) (old new : Table) where
    -- in the place of the first that goes, where the others were freed
    pub placed-in-freed : (freed : Table) → swept.kept + 1 < swept.stand.end → swept.stand.end ≤ swept.stand.to → swept.stand.to ≤ length old.rows
        → IsFreed (idle_of e) (swept.stand.end - (swept.kept + 1)) (swept.kept + 1) swept.stand.end old freed → new ≡ with_rows freed (set freed.rows swept.kept (number, e)) → IsPlaced swept number e old new
    placed-in-freed freed more least places made is =
        let kept = swept.kept in
        let rest = made.gap ++ drop swept.stand.end old.rows in
        let now : freed.rows ≡ take (kept + 1) old.rows ++ rest = ap (λ (t : Table). t.rows) made.rows in
        let front : length (take (kept + 1) old.rows) ≡ kept + 1 = length-take-le (kept + 1) old.rows (omega (arith, more, least, places)) in
        let ahead : take kept (take (kept + 1) old.rows ++ rest) ≡ take kept old.rows = take-front kept (kept + 1) old.rows rest (omega arith) (omega (arith, more, least, places)) in
        let behind : drop (kept + 1) (take (kept + 1) old.rows ++ rest) ≡ rest = drop_at (take (kept + 1) old.rows) rest (kept + 1) front in
        let long : kept < length freed.rows = omega (arith, ap length now, length-append (take (kept + 1) old.rows) rest, front) in
        record {
          gap = made.gap;
          last = swept.stand.end;
          free = made.free;
          least = omega arith;
          most = least;
          rows = is ∙ (λ i. record { room = ap (λ (t : Table). t.room) made.rows i; rows = set-at freed.rows kept (number, e) long i })
              ∙ ap (with_rows old) (λ i. ap (take kept) now i ++ (number, e) ∷ ap (drop (kept + 1)) now i) ∙ ap (with_rows old) (λ i. ahead i ++ (number, e) ∷ behind i);
        }

    -- in the place of one row
    pub placed-in-one : swept.stand.end ≤ swept.kept + 1 → swept.kept < swept.stand.to → swept.stand.to ≤ length old.rows → new ≡ with_rows old (set old.rows swept.kept (number, e)) → IsPlaced swept number e old new
    placed-in-one least inside places is = record {
      gap = [];
      last = swept.kept + 1;
      free = tt;
      least = least;
      most = omega (arith, inside);
      rows = is ∙ ap (with_rows old) (set-at old.rows swept.kept (number, e) (omega (arith, inside, places)));
    }

    -- in between, where nothing goes and no row is free
    pub placed-between : swept.stand.end ≡ swept.kept → swept.stand.to ≡ swept.kept → new ≡ with_rows old (insert old.rows swept.kept (number, e)) → IsPlaced swept number e old new
    placed-between end to is = record { gap = []; last = swept.kept; free = tt; least = omega (arith, end); most = omega (arith, to); rows = is }

    pub placed-among-more : swept.stand.end ≡ swept.kept → swept.stand.to ≡ swept.kept → IsPutIn swept.kept number e old new → IsPlaced swept number e old new
    placed-among-more end to put = record { gap = put.gap; last = swept.kept; free = put.free; least = omega (arith, end); most = omega (arith, to); rows = put.rows }

-- rows that are freed are as many as they were
pub length-freed : (idle : Idle) (old new : Table) (from to : ℕ) → from ≤ to → to ≤ length old.rows → IsFreed idle (to - from) from to old new → length new.rows ≡ length old.rows
length-freed idle old new from to order inside freed =
    omega (
      arith,
      ap (λ (t : Table). length t.rows) freed.rows,
      length-append (take from old.rows) (freed.gap ++ drop to old.rows),
      length-append freed.gap (drop to old.rows),
      length-take-le from old.rows (omega (arith, order, inside)),
      length-drop to old.rows,
      freed.count,
      order,
      inside,
    )
