-- Whether a script begins with a header.
use Rattle.std.specs.Prelude.{ℕ, Bool, false, List, [], ◌∷◌, Option, is_some}
use Rattle.script_lang.specs.Headers.{header_of}
use Rattle.script_lang.specs.declared.header.Header.{Header}
use Rattle.script_net.specs.Lines.{lines_of, from_command}
use Rattle.script_net.specs.Transcript.{opened}

-- whether a header is a script's
abbrev pub opens_script : Option Header → Bool
opens_script header = is_some (opened header)

-- whether the first of these lines is a header of a script
abbrev pub begins_with_header : List (List ℕ) → Bool
begins_with_header [] = false
begins_with_header (line ∷ lines) = opens_script (header_of line)

-- whether a script's first command line is its header
abbrev pub has_header : List ℕ → Bool
has_header script = begins_with_header (from_command (lines_of script))
