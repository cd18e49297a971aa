-- What stands for a text in a picture, byte by byte.
use Rattle.std.specs.Prelude.{ℕ, Bool, ◌&&◌, not, nat_le, ◌==◌, List, codes, encode_utf8, if◌then◌else◌}
use Rattle.std.specs.List.{flat_map}

-- whether a character can stand by itself: it is no control character, and XML allows it
abbrev pub is_shown : ℕ → Bool
is_shown c = nat_le 32 c && not (nat_le 127 c && nat_le c 159) && not (c == 65534) && not (c == 65535)

-- what stands for a character: the marks of XML have their names, and U+FFFD stands for what can't be shown
abbrev pub escaped_char : ℕ → List ℕ
escaped_char c =
    if c == 38 then codes "&amp;"
    else if c == 60 then codes "&lt;"
    else if c == 62 then codes "&gt;"
    else if c == 34 then codes "&quot;"
    else if is_shown c then encode_utf8 c
    else encode_utf8 65533

-- what stands for a text's characters
abbrev pub escaped : List ℕ → List ℕ
escaped text = flat_map escaped_char text
