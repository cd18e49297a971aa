-- Nodes of a row are marked as gone, and those that leave are taken out, one after the other.
use Rattle.std.proofs.Common.{◌≡◌, ℕ, ◌+◌, ◌<◌, ◌≤◌, Bool, List, [], ◌∷◌, ◌++◌, length, set, Option, Some, None, refl, sym, ap, subst, ◌∙◌, append_assoc, append-nil, arith}
use Rattle.std.specs.List.{sum_by}
use Rattle.std.proofs.lemmas.List.{length-set, length-append, map-append, get_or-set_same, set-get_or, set-set}
use Rattle.std.proofs.lemmas.List.Sums.{sum_by-set}
use Rattle.op_base.specs.declared.tag.ElementId.{ElementId}
use Rattle.list_type.specs.Chained.{first_slot, last_slot, row_at, Stands, IsHeld, OfSlot, OfPlace, IsParted}
use Rattle.list_type.specs.Depths.{put_before}
use Rattle.list_type.specs.Nodes.{node_depth, node_gone, node_leaves, nodes_kept, IsTrimmed}
use Rattle.list_type.specs.Taking.{node_gone_where, nodes_gone_where}
use Rattle.list_type.specs.declared.lists.Content.{Content}
use Rattle.list_type.specs.declared.tree.Node.{Node}
use Rattle.list_type.proofs.Leaving.{last_gone}
use Rattle.list_type.proofs.Places.{last_or-append, IsLast, last_stands}
use Rattle.list_type.proofs.Puts.{none_ahead}

abbrev Slots : Type 0
Slots = List (ℕ × Node Content)

-- ---- rows

row_set : (rows new : List Slots) (row : ℕ) (xs : Slots) → row < length rows → new ≡ set rows row xs → row_at new row ≡ xs
row_set rows new row xs within is = ap (λ rs. row_at rs row) is ∙ get_or-set_same rows row xs [] within

-- one row's change after another
set_again : (old now new : List Slots) (row : ℕ) (xs ys : Slots) → now ≡ set old row xs → new ≡ set now row ys → new ≡ set old row ys
set_again old now new row xs ys first second = second ∙ ap (λ rs. set rs row ys) first ∙ set-set old row xs ys

-- a row that stays
pub row_stays : (rows : List Slots) (row : ℕ) (before : Slots) (slot : ℕ) (node : Node Content) (after : Slots) → Stands rows row before slot node after → rows ≡ set rows row (before ++ (slot, node) ∷ after)
row_stays rows row before slot node after stands = sym (ap (set rows row) (sym stands.here) ∙ set-get_or rows row [])

-- ---- one after the other leaves

-- from a slot on to this place nodes left
pub record IsTrimming (old now : List Slots) (slot : ℕ) (at : Option ℕ) : Type 0 where
  pub row : ℕ
  pub aim : Slots
  pub trimmed : IsTrimmed now row at aim
  pub each : (row : ℕ) (aim : Slots) → IsTrimmed old row (Some slot) aim → IsTrimmed now row at aim × (now ≡ set old row (row_at now row))

-- a node was taken out of a slot
pub record IsOut (now new : List Slots) (slot : ℕ) (node : Node Content) : Type 0 where
  pub row : ℕ
  pub before : Slots
  pub after : Slots
  pub stands : Stands now row before slot node after
  pub rows : new ≡ set now row (before ++ after)

-- the slot of a place that nodes leave from stands in its row
module _ (now : List Slots) (row : ℕ) (at : Option ℕ) (aim : Slots) (trimmed : IsTrimmed now row at aim) (k : ℕ) (is : at ≡ Some k) where
  place : IsParted now row trimmed.before (Some k) trimmed.after
  place = subst (λ o. IsParted now row trimmed.before o trimmed.after) is trimmed.parted

  pub trimmed_held : IsHeld now k
  trimmed_held =
      let last = last_stands now row k trimmed.before trimmed.after place in
      (row, last.front, last.value, trimmed.after, last.stands)

  pub trimmed_out : (new : List Slots) (node : Node Content) → OfSlot now k (λ row before value after. (node ≡ value) × (new ≡ set now row (before ++ after))) → IsOut now new k node
  trimmed_out new node taken =
      let last = last_stands now row k trimmed.before trimmed.after place in
      let out = taken row last.front last.value trimmed.after last.stands in
      record { row = row; before = last.front; after = trimmed.after; stands = subst (λ n. Stands now row last.front k n trimmed.after) (sym out.0) last.stands; rows = out.1 }

  trimmed_row : (new : List Slots) (node : Node Content) → OfSlot now k (λ row before value after. (node ≡ value) × (new ≡ set now row (before ++ after))) → new ≡ set now row (row_at new row)
  trimmed_row new node taken =
      let last = last_stands now row k trimmed.before trimmed.after place in
      let out = taken row last.front last.value trimmed.after last.stands in
      out.1 ∙ ap (set now row) (sym (row_set now new row (last.front ++ trimmed.after) last.stands.within out.1))

-- fewer stand in the rows then
pub fewer_stand : (now new : List Slots) (slot : ℕ) (node : Node Content) → IsOut now new slot node → sum_by length new < sum_by length now
fewer_stand now new slot node out =
    omega (arith, ap (sum_by length) out.rows, sum_by-set length now out.row (out.before ++ out.after) [] out.stands.within, ap length out.stands.here, length-append out.before out.after, length-append out.before ((slot, node) ∷ out.after))

pub trim_goes_on : (old now new : List Slots) (slot : ℕ) (at ahead : Option ℕ) (k : ℕ) (node : Node Content) → at ≡ Some k
    → ((row : ℕ) (aim : Slots) → IsTrimmed now row at aim → IsTrimmed new row ahead aim)
    → OfSlot now k (λ row before value after. (node ≡ value) × (new ≡ set now row (before ++ after)))
    → IsTrimming old now slot at → IsTrimming old new slot ahead
trim_goes_on old now new slot at ahead k node is goes taken trimming = record {
  row = trimming.row;
  aim = trimming.aim;
  trimmed = goes trimming.row trimming.aim trimming.trimmed;
  each = λ row aim from.
      let so_far = trimming.each row aim from in (
        goes row aim so_far.0,
        set_again old now new row (row_at now row) (row_at new row) so_far.1 (trimmed_row now row at aim so_far.0 k is new node taken),
      );
}

pub trim_ends : (old now : List Slots) (slot : ℕ) (at : Option ℕ) → ((row : ℕ) (aim : Slots) → IsTrimmed now row at aim → row_at now row ≡ aim) → IsTrimming old now slot at
    → (row : ℕ) (aim : Slots) → IsTrimmed old row (Some slot) aim → now ≡ set old row aim
trim_ends old now slot at ended trimming row aim from =
    let so_far = trimming.each row aim from in
    so_far.1 ∙ ap (set old row) (ended row aim so_far.0)

-- ---- those of a row are marked

-- a list that has a first slot
record StartsWith (xs : Slots) (slot : ℕ) : Type 0 where
  node : Node Content
  rest : Slots
  is : xs ≡ (slot, node) ∷ rest

starts_with : (xs : Slots) (slot : ℕ) → first_slot xs ≡ Some slot → StartsWith xs slot
starts_with [] slot first = cc
starts_with (x ∷ xs) slot first =
    let here : x.0 ≡ slot = cc in
    record { node = x.1; rest = xs; is = λ i. (here i, x.1) ∷ xs }

pub none_behind : (xs : Slots) → first_slot xs ≡ None → xs ≡ []
none_behind [] first = refl
none_behind (x ∷ xs) first = cc

pub none_left : (xs : Slots) → length xs ≤ 0 → xs ≡ []
none_left [] short = refl
none_left (x ∷ xs) short = absurd (omega arith)

module _ (passes : ElementId → Bool) (old : List Slots) (row : ℕ) where
  -- those of a row before a place are marked
  pub record IsMarking (now : List Slots) (at : Option ℕ) (count : ℕ) : Type 0 where
    pub before : Slots
    pub after : Slots
    pub within : row < length old
    pub was : row_at old row ≡ before ++ after
    pub is : now ≡ set old row (nodes_gone_where passes before ++ after)
    pub ahead : last_slot (nodes_gone_where passes before) ≡ at
    pub counted : count ≤ length before

  module _ (now : List Slots) (at : Option ℕ) (count : ℕ) (marking : IsMarking now at count) where
    abbrev marked : Slots
    marked = nodes_gone_where passes marking.before

    inside : row < length now
    inside = omega (arith, marking.within, ap length marking.is, length-set old row (marked ++ marking.after))

    marking_parted : IsParted now row marked at marking.after
    marking_parted = record { within = inside; here = row_set old now row (marked ++ marking.after) marking.within marking.is; ahead_is = marking.ahead }

    -- the next one stands behind it
    module _ (next : Option ℕ) (slot : ℕ) (some : next ≡ Some slot) (next_is : OfPlace now row at (λ before after. next ≡ first_slot after)) where
      start : StartsWith marking.after slot
      start = starts_with marking.after slot (sym (next_is marked marking.after marking_parted) ∙ some)

      next_stands : Stands now row marked slot start.node start.rest
      next_stands = record { within = inside; here = marking_parted.here ∙ ap (λ xs. marked ++ xs) start.is }

      pub mark_goes_on : (new : List Slots) → OfSlot now slot (λ r before node after. new ≡ set now r (before ++ node_gone_where passes (slot, node) ∷ after)) → IsMarking new (Some slot) (count + 1)
      mark_goes_on new made =
          let x : ℕ × Node Content = (slot, start.node) in
          let g = node_gone_where passes x in
          let done : nodes_gone_where passes (marking.before ++ x ∷ []) ≡ marked ++ g ∷ [] = map-append (node_gone_where passes) marking.before (x ∷ []) in
          record {
            before = marking.before ++ x ∷ [];
            after = start.rest;
            within = marking.within;
            was = marking.was ∙ ap (λ xs. marking.before ++ xs) start.is ∙ sym (append_assoc marking.before (x ∷ []) start.rest);
            is =
                set_again old now new row (marked ++ marking.after) (marked ++ g ∷ start.rest) marking.is (made row marked start.node start.rest next_stands)
                ∙ ap (set old row) (sym (ap (λ xs. xs ++ start.rest) done ∙ append_assoc marked (g ∷ []) start.rest));
            ahead = ap last_slot done ∙ last_or-append marked (g ∷ []) None;
            counted = omega (arith, marking.counted, length-append marking.before (x ∷ []));
          }

    -- where none is left it is the row's last
    mark_ends : marking.after ≡ [] → at ≡ last_slot (row_at old row)
    mark_ends none =
        sym marking.ahead
        ∙ last_gone passes marking.before None
        ∙ ap last_slot (sym (marking.was ∙ ap (λ xs. marking.before ++ xs) none ∙ append-nil marking.before))

    pub mark_ends_last : (next : Option ℕ) → next ≡ None → OfPlace now row at (λ before after. next ≡ first_slot after) → at ≡ last_slot (row_at old row)
    mark_ends_last next none next_is = mark_ends (none_behind marking.after (sym (next_is marked marking.after marking_parted) ∙ none))

    pub mark_ends_full : length (row_at old row) ≤ count → at ≡ last_slot (row_at old row)
    mark_ends_full full = mark_ends (none_left marking.after (omega (arith, full, marking.counted, ap length marking.was, length-append marking.before marking.after)))

-- ---- those of a row that leave are taken out

module _ (old : List Slots) (row : ℕ) where
  -- those of a row behind a place that leave were taken out
  pub record IsPruning (now : List Slots) (at : Option ℕ) (count : ℕ) : Type 0 where
    pub before : Slots
    pub after : Slots
    pub within : row < length old
    pub was : row_at old row ≡ before ++ after
    pub is : now ≡ set old row (before ++ nodes_kept after)
    pub ahead : last_slot before ≡ at
    pub counted : count ≤ length after

  module _ (now : List Slots) (at : Option ℕ) (count : ℕ) (pruning : IsPruning now at count) where
    -- the next one to ask stands ahead of it
    module _ (slot : ℕ) (some : at ≡ Some slot) where
      last : IsLast now row slot pruning.before (nodes_kept pruning.after)
      last = last_stands now row slot pruning.before (nodes_kept pruning.after) (record {
        within = omega (arith, pruning.within, ap length pruning.is, length-set old row (pruning.before ++ nodes_kept pruning.after));
        here = row_set old now row (pruning.before ++ nodes_kept pruning.after) pruning.within pruning.is;
        ahead_is = pruning.ahead ∙ some;
      })

      pub pruning_held : IsHeld now slot
      pruning_held = (row, last.front, last.value, nodes_kept pruning.after, last.stands)

      pub prune_goes_on : (new : List Slots) (ahead : Option ℕ) → OfSlot now slot (λ r before node after. ahead ≡ last_slot before)
          → OfSlot now slot (λ r before node after. new ≡ set now r (before ++ put_before node_depth node_gone (node_leaves (slot, node) after) (slot, node) after)) → IsPruning new ahead (count + 1)
      prune_goes_on new ahead ahead_is made =
          let x : ℕ × Node Content = (slot, last.value) in
          record {
            before = last.front;
            after = x ∷ pruning.after;
            within = pruning.within;
            was = pruning.was ∙ ap (λ xs. xs ++ pruning.after) last.is ∙ append_assoc last.front (x ∷ []) pruning.after;
            is = set_again old now new row (pruning.before ++ nodes_kept pruning.after) (last.front ++ nodes_kept (x ∷ pruning.after)) pruning.is (made row last.front last.value (nodes_kept pruning.after) last.stands);
            ahead = sym (ahead_is row last.front last.value (nodes_kept pruning.after) last.stands);
            counted = omega (arith, pruning.counted);
          }

    pub prune_ends : at ≡ None → now ≡ set old row (nodes_kept (row_at old row))
    prune_ends first =
        let none = none_ahead pruning.before (pruning.ahead ∙ first) in
        let all : pruning.after ≡ row_at old row = sym (pruning.was ∙ ap (λ xs. xs ++ pruning.after) none) in
        pruning.is ∙ ap (set old row) (ap (λ xs. xs ++ nodes_kept pruning.after) none ∙ ap nodes_kept all)
