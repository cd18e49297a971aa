-- Nodes in a row while one is marked as gone, and those that leave are taken out.
use Rattle.std.proofs.Common.{◌≡◌, ℕ, Bool, true, false, not, ◌&&◌, List, [], ◌∷◌, ◌++◌, length, set, ltb, Option, Some, None, refl, sym, ap, subst, ◌∙◌, append_assoc, arith}
use Rattle.std.proofs.lemmas.List.{length-set, get_or-set_same}
use Rattle.list_type.specs.Chained.{first_slot, last_slot, row_at, Stands, OfSlot, IsParted}
use Rattle.list_type.specs.Depths.{is_deeper}
use Rattle.list_type.specs.Nodes.{node_depth, node_gone, node_leaves, nodes_kept, gone_node, StaysBefore, StayUpToLast, IsTrimmed}
use Rattle.list_type.specs.declared.tree.Node.{Node}
use Rattle.list_type.proofs.Depths.{whole, whole_from, without_it}
use Rattle.list_type.proofs.Places.{last_or-append, last_stands}
use Rattle.list_type.proofs.Puts.{none_ahead}

module _ {T : Type 0} where
  -- ---- which nodes stay

  -- in a list that is kept whole each node but the last stays, up to one, which may be gone meanwhile
  stay_from : (xs ys : List (ℕ × Node T)) (x y : ℕ × Node T) → node_depth y ≡ node_depth x → nodes_kept (xs ++ x ∷ ys) ≡ xs ++ x ∷ ys → StayUpToLast (xs ++ y ∷ [])
  stay_from [] ys x y same is = (tt, tt)
  stay_from (w ∷ xs) ys x y same is =
      let had = whole node_depth node_gone w (xs ++ x ∷ ys) is in
      (before xs had.stays, stay_from xs ys x y same had.rest) where
        before : (xs : List (ℕ × Node T)) → node_leaves w (xs ++ x ∷ ys) ≡ false → StaysBefore w (xs ++ y ∷ [])
        before [] stays = ap (λ d. node_gone w && not (ltb (node_depth w) d)) same ∙ stays
        before (v ∷ xs) stays = stays

  stay_front : (xs : List (ℕ × Node T)) (y : ℕ × Node T) → StayUpToLast (xs ++ y ∷ []) → StayUpToLast xs
  stay_front [] y stay = tt
  stay_front (x ∷ xs) y stay = (before xs stay.0, stay_front xs y stay.1) where
    before : (xs : List (ℕ × Node T)) → StaysBefore x (xs ++ y ∷ []) → StaysBefore x xs
    before [] stays = tt
    before (v ∷ xs) stays = stays

  -- where the last stays too, all are kept
  stay_all : (xs zs : List (ℕ × Node T)) (y : ℕ × Node T) → StayUpToLast (xs ++ y ∷ []) → node_leaves y zs ≡ false → nodes_kept zs ≡ zs → nodes_kept (xs ++ y ∷ zs) ≡ xs ++ y ∷ zs
  stay_all [] zs y stay stays rest = whole_from node_depth node_gone y zs stays rest
  stay_all (x ∷ xs) zs y stay stays rest =
      whole_from node_depth node_gone x (xs ++ y ∷ zs) (before xs stay.0) (stay_all xs zs y stay.1 stays rest) where
        before : (xs : List (ℕ × Node T)) → StaysBefore x (xs ++ y ∷ []) → node_leaves x (xs ++ y ∷ zs) ≡ false
        before [] first = first
        before (v ∷ xs) first = first

  end_whole : (xs ys : List (ℕ × Node T)) → nodes_kept (xs ++ ys) ≡ xs ++ ys → nodes_kept ys ≡ ys
  end_whole [] ys is = is
  end_whole (x ∷ xs) ys is = end_whole xs ys (whole node_depth node_gone x (xs ++ ys) is).rest

  -- ---- a node is marked

  pub marked : (rows new : List (List (ℕ × Node T))) (row slot : ℕ) (before : List (ℕ × Node T)) (node : Node T) (after : List (ℕ × Node T)) → Stands rows row before slot node after
      → new ≡ set rows row (before ++ (slot, gone_node node) ∷ after) → nodes_kept (row_at rows row) ≡ row_at rows row → IsTrimmed new row (Some slot) (nodes_kept (row_at new row))
  marked rows new row slot before node after stands is kept =
      let g : ℕ × Node T = (slot, gone_node node) in
      let was : nodes_kept (before ++ (slot, node) ∷ after) ≡ before ++ (slot, node) ∷ after = subst (λ xs. nodes_kept xs ≡ xs) stands.here kept in
      let here : row_at new row ≡ (before ++ g ∷ []) ++ after =
      ap (λ rs. row_at rs row) is ∙ get_or-set_same rows row (before ++ g ∷ after) [] stands.within ∙ sym (append_assoc before (g ∷ []) after) in
      record {
        before = before ++ g ∷ [];
        after = after;
        parted = record { within = omega (arith, stands.within, ap length is, length-set rows row (before ++ g ∷ after)); here = here; ahead_is = last_or-append before (g ∷ []) None };
        stay = stay_from before after (slot, node) g refl was;
        whole = (whole node_depth node_gone (slot, node) after (end_whole before ((slot, node) ∷ after) was)).rest;
        kept = ap nodes_kept (sym here);
      }

  -- ---- nodes leave

  -- none is left that may leave
  pub ended_at_front : (rows : List (List (ℕ × Node T))) (row : ℕ) (aim : List (ℕ × Node T)) (at : Option ℕ) → at ≡ None → IsTrimmed rows row at aim → row_at rows row ≡ aim
  ended_at_front rows row aim at is trimmed =
      let none = none_ahead trimmed.before (trimmed.parted.ahead_is ∙ is) in
      trimmed.parted.here
      ∙ ap (λ xs. xs ++ trimmed.after) none
      ∙ sym trimmed.whole
      ∙ ap (λ xs. nodes_kept (xs ++ trimmed.after)) (sym none)
      ∙ trimmed.kept

  module _ (rows : List (List (ℕ × Node T))) (row slot : ℕ) (aim : List (ℕ × Node T)) (at : Option ℕ) (is : at ≡ Some slot) (trimmed : IsTrimmed rows row at aim) (answer : Bool)
      (leaves_is : (row : ℕ) (before : List (ℕ × Node T)) (node : Node T) (after : List (ℕ × Node T)) → Stands rows row before slot node after → answer ≡ node_leaves (slot, node) after) where
    parted : IsParted rows row trimmed.before (Some slot) trimmed.after
    parted = subst (λ o. IsParted rows row trimmed.before o trimmed.after) is trimmed.parted

    pub ended_at : answer ≡ false → row_at rows row ≡ aim
    ended_at stays =
        let last = last_stands rows row slot trimmed.before trimmed.after parted in
        let stay = subst StayUpToLast last.is trimmed.stay in
        let leaves = leaves_is row last.front last.value trimmed.after last.stands in
        last.stands.here
        ∙ sym (stay_all last.front trimmed.after (slot, last.value) stay (sym leaves ∙ stays) trimmed.whole)
        ∙ ap nodes_kept (sym (ap (λ xs. xs ++ trimmed.after) last.is ∙ append_assoc last.front ((slot, last.value) ∷ []) trimmed.after))
        ∙ trimmed.kept

    pub goes_on_at : answer ≡ true → (new : List (List (ℕ × Node T))) (ahead : Option ℕ)
        → ((row : ℕ) (before : List (ℕ × Node T)) (node : Node T) (after : List (ℕ × Node T)) → Stands rows row before slot node after → ahead ≡ last_slot before)
        → ((row : ℕ) (before : List (ℕ × Node T)) (node : Node T) (after : List (ℕ × Node T)) → Stands rows row before slot node after → new ≡ set rows row (before ++ after)) → IsTrimmed new row ahead aim
    goes_on_at go new ahead ahead_is taken =
        let last = last_stands rows row slot trimmed.before trimmed.after parted in
        let leaves = leaves_is row last.front last.value trimmed.after last.stands in
        let made = taken row last.front last.value trimmed.after last.stands in
        record {
          before = last.front;
          after = trimmed.after;
          parted = record {
            within = omega (arith, last.stands.within, ap length made, length-set rows row (last.front ++ trimmed.after));
            here = ap (λ rs. row_at rs row) made ∙ get_or-set_same rows row (last.front ++ trimmed.after) [] last.stands.within;
            ahead_is = sym (ahead_is row last.front last.value trimmed.after last.stands);
          };
          stay = stay_front last.front (slot, last.value) (subst StayUpToLast last.is trimmed.stay);
          whole = trimmed.whole;
          kept =
              sym (without_it node_depth node_gone last.front trimmed.after (slot, last.value) trimmed.whole (sym leaves ∙ go))
              ∙ ap nodes_kept (sym (ap (λ xs. xs ++ trimmed.after) last.is ∙ append_assoc last.front ((slot, last.value) ∷ []) trimmed.after))
              ∙ trimmed.kept;
        }

  -- whether the first of those behind a node is below it
  pub below_is : (rows : List (List (ℕ × Node T))) (row slot : ℕ) (before : List (ℕ × Node T)) (node : Node T) (after : List (ℕ × Node T)) (next : Option ℕ) (depth : ℕ) (answer : Bool) → Stands rows row before slot node after → next ≡ first_slot after
      → (next ≡ None → answer ≡ false)
      → ((k : ℕ) → next ≡ Some k → OfSlot rows k (λ row before node after. answer ≡ ltb depth node.depth))
      → answer ≡ is_deeper node_depth node_gone depth after
  below_is rows row slot before node [] next depth answer stands next_is none some = none next_is
  below_is rows row slot before node (x ∷ after) next depth answer stands next_is none some =
      some x.0 next_is row (before ++ (slot, node) ∷ []) x.1 after
      (record { within = stands.within; here = stands.here ∙ sym (append_assoc before ((slot, node) ∷ []) (x ∷ after)) })
