-- Frames that stand one behind the other in one list of bytes.
use Rattle.std.specs.Prelude.{◌≡◌, ℕ, zero, suc, ◌≤◌, List, [], ◌∷◌, slice_index_or}
use Rattle.std.specs.List.{between}

-- frames, oldest first, and for how many bytes of frames and how many frames more there is room
pub record Frames : Type 0 where
  pub items : List (List ℕ)
  pub bytes_left : ℕ
  pub frames_left : ℕ

-- the frames that end at these places of bytes, of which the first begins at a place and each other where the one before it ends
abbrev pub frames_from : ℕ → List ℕ → List ℕ → List (List ℕ)
frames_from at [] bytes = []
frames_from at (end ∷ ends) bytes = between at end bytes ∷ frames_from end ends bytes

-- from a place on, each frame ends no earlier than it begins, and the last at the end of so many bytes
abbrev pub RisesTo : ℕ → ℕ → List ℕ → Type 0
RisesTo len at [] = at ≡ len
RisesTo len at (end ∷ ends) = (at ≤ end) × RisesTo len end ends

-- where the frame at a place begins: the first at a place, and each other where the one before it ends
abbrev pub begin_of : ℕ → List ℕ → ℕ → ℕ
begin_of at ends zero = at
begin_of at ends (suc k) = slice_index_or ends k 0
