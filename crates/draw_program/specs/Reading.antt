-- What a source gives in a run.
use Rattle.std.specs.Prelude.{◌≡◌, ℕ, ◌<◌, ◌≤◌, Bool, List, Option, length}
use Rattle.store_io.specs.Bytes.{Gave, Ended}
use Rattle.script_draw.specs.Opening.{has_header}

-- an input has at most so many bytes
abbrev pub most_input : ℕ
most_input = 4194304

-- the source gave an input and its end, and it isn't too long
pub record GaveWhole (old new : Option (List ℕ)) (input : List ℕ) : Type 0 where
  pub gave : Gave old new input
  pub ended : Ended new
  pub short : length input ≤ most_input

-- the source gave more bytes than an input may have
pub record GaveTooMuch (old new : Option (List ℕ)) : Type 0 where
  pub given : List ℕ
  pub gave : Gave old new given
  pub long : most_input < length given

-- the source gave an input that begins with a header of a script, or one that doesn't
pub record GaveScript (old new : Option (List ℕ)) (headed : Bool) : Type 0 where
  pub input : List ℕ
  pub whole : GaveWhole old new input
  pub header : has_header input ≡ headed
