-- Spots near each other.
use Rattle.std.specs.Prelude.{◌-◌, Bool, nat_le, ◌&&◌}
use Rattle.stable_state.specs.declared.chunks.Spot.{Spot}

-- whether a spot's place is that of another, or the next
abbrev pub is_near : Spot → Spot → Bool
is_near spot other = nat_le other.place spot.place && nat_le (spot.place - other.place) 1
