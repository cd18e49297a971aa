-- The fields of an item with its rank.
use Rattle.std.specs.Prelude.{◌≡◌}
use Rattle.stable_state.specs.Ranks.{rank_of, IsNamed}
use Rattle.stable_state.specs.declared.rank.Ranked.TheInside.{Inside}

-- the rank is the item's, whose key and value are valid
pub record IsRanked (s : Inside) : Type 0 where
  pub rank : s.rank ≡ rank_of s.item.object s.item.value
  pub named : IsNamed s.item.object s.item.value
