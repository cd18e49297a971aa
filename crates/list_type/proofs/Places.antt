-- Places in rows: where nothing stands ahead, the next one, and that a slot ahead stands in its row.
use Rattle.std.proofs.Common.{◌≡◌, ℕ, ◌<◌, List, [], ◌∷◌, ◌++◌, length, Option, Some, None, refl, sym, ap, subst, ◌∙◌, append_assoc}
use Rattle.list_type.specs.Chained.{last_or, first_slot, last_slot, row_at, Stands, IsParted}

module _ {T : Type 0} where
  -- a row's front
  pub front : (rows : List (List (ℕ × T))) (row : ℕ) → row < length rows → IsParted rows row [] None (row_at rows row)
  front rows row within = record { within = within; here = refl; ahead_is = refl }

  pub last_or-append : (xs ys : List (ℕ × T)) (other : Option ℕ) → last_or (xs ++ ys) other ≡ last_or ys (last_or xs other)
  last_or-append [] ys other = refl
  last_or-append (x ∷ xs) ys other = last_or-append xs ys (Some x.0)

  -- the place one slot further
  pub further : (rows : List (List (ℕ × T))) (row : ℕ) (before after : List (ℕ × T)) (ahead : Option ℕ) (x : ℕ × T) → IsParted rows row before ahead (x ∷ after) → IsParted rows row (before ++ x ∷ []) (Some x.0) after
  further rows row before after ahead x parted = record {
    within = parted.within;
    here = parted.here ∙ sym (append_assoc before (x ∷ []) after);
    ahead_is = last_or-append before (x ∷ []) None;
  }

  -- a list that has a last slot is what stands before it, and that slot
  record EndsWith (xs : List (ℕ × T)) (slot : ℕ) : Type 0 where
    front : List (ℕ × T)
    value : T
    is : xs ≡ front ++ (slot, value) ∷ []

  ends_with : (x : ℕ × T) (xs : List (ℕ × T)) (slot : ℕ) → last_or xs (Some x.0) ≡ Some slot → EndsWith (x ∷ xs) slot
  ends_with x [] slot last =
      let here : x.0 ≡ slot = cc in
      record { front = []; value = x.1; is = λ i. (here i, x.1) ∷ [] }
  ends_with x (y ∷ xs) slot last =
      let rest = ends_with y xs slot last in
      record { front = x ∷ rest.front; value = rest.value; is = ap (λ ys. x ∷ ys) rest.is }

  last_is : (xs : List (ℕ × T)) (slot : ℕ) → last_slot xs ≡ Some slot → EndsWith xs slot
  last_is [] slot last = cc
  last_is (x ∷ xs) slot last = ends_with x xs slot last

  -- the slot ahead of a place stands in the row, with what is ahead of it and behind
  pub record IsLast (rows : List (List (ℕ × T))) (row slot : ℕ) (before after : List (ℕ × T)) : Type 0 where
    pub front : List (ℕ × T)
    pub value : T
    pub is : before ≡ front ++ (slot, value) ∷ []
    pub stands : Stands rows row front slot value after

  pub last_stands : (rows : List (List (ℕ × T))) (row slot : ℕ) (before after : List (ℕ × T)) → IsParted rows row before (Some slot) after → IsLast rows row slot before after
  last_stands rows row slot before after parted =
      let end = last_is before slot parted.ahead_is in
      record {
        front = end.front;
        value = end.value;
        is = end.is;
        stands = record { within = parted.within; here = parted.here ∙ ap (λ xs. xs ++ after) end.is ∙ append_assoc end.front ((slot, end.value) ∷ []) after };
      }

  -- a walk over a row: a place of it, and the slot behind
  pub record Reaches (rows : List (List (ℕ × T))) (row : ℕ) (ahead next : Option ℕ) : Type 0 where
    pub before : List (ℕ × T)
    pub after : List (ℕ × T)
    pub parted : IsParted rows row before ahead after
    pub next_is : next ≡ first_slot after

  -- there it stands, and the walk goes on behind it
  pub record Meets (rows : List (List (ℕ × T))) (row slot : ℕ) : Type 0 where
    pub before : List (ℕ × T)
    pub value : T
    pub after : List (ℕ × T)
    pub stands : Stands rows row before slot value after
    pub behind : IsParted rows row (before ++ (slot, value) ∷ []) (Some slot) after

  pub reached : (rows : List (List (ℕ × T))) (row slot : ℕ) (ahead next : Option ℕ) → Reaches rows row ahead next → next ≡ Some slot → Meets rows row slot
  reached rows row slot ahead next at is = by at.after at.parted (sym at.next_is ∙ is) where
    by : (after : List (ℕ × T)) → IsParted rows row at.before ahead after → first_slot after ≡ Some slot → Meets rows row slot
    by [] parted first = cc
    by (x ∷ after) parted first =
        let here : x.0 ≡ slot = cc in
        let is : x ∷ after ≡ (slot, x.1) ∷ after = λ i. (here i, x.1) ∷ after in
        let there = subst (λ xs. IsParted rows row at.before ahead xs) is parted in
        record {
          before = at.before;
          value = x.1;
          after = after;
          stands = record { within = there.within; here = there.here };
          behind = further rows row at.before after ahead (slot, x.1) there;
        }

  -- what stands behind a slot that stands in a row
  pub next_meets : (rows : List (List (ℕ × T))) (row slot : ℕ) (before : List (ℕ × T)) (value : T) (after : List (ℕ × T)) (next : Option ℕ) (k : ℕ) → Stands rows row before slot value after → next ≡ first_slot after → next ≡ Some k → Meets rows row k
  next_meets rows row slot before value after next k stands next_is is =
      let here : IsParted rows row before (last_slot before) ((slot, value) ∷ after) = record { within = stands.within; here = stands.here; ahead_is = refl } in
      reached rows row k (Some slot) next
      (record { before = before ++ (slot, value) ∷ []; after = after; parted = further rows row before after (last_slot before) (slot, value) here; next_is = next_is })
      is
