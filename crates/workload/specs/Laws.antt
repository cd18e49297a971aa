-- Laws of made scripts, each the contract of a function that does nothing.
use Rattle.std.specs.Prelude.{◌≡◌, ℕ, ◌≤◌, Some}
use Rattle.script_lang.specs.Headers.{header_of}
use Rattle.script_lang.specs.Replies.{joined}
use Rattle.script_lang.specs.declared.header.Header.TheVariants.{Store}
use Rattle.workload.specs.Script.{made_header}

-- the first line of a made script is read as the header of its store
abbrev pub HasHeader : Type 0
HasHeader = (n w : ℕ) → 1 ≤ n → n ≤ 16 → 1 ≤ w → w ≤ 64 → header_of (joined (made_header n w)) ≡ Some (Store n w 65535)
