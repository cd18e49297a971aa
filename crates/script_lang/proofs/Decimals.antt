-- Decimal texts have digits alone, and are read as their numbers.
use Rattle.std.proofs.Common.{◌≡◌, ℕ, ◌<◌, ◌≤◌, ◌^◌, true, not, List, [], ◌∷◌, eqb, refl}
use Rattle.std.specs.Fmt.{decimal}
use Rattle.std.specs.Str.Parse.{AllDigits, digits_value}
use Rattle.std.proofs.lemmas.Fmt.{decimal_is_IsNumeral_wide}
use Rattle.std.proofs.lemmas.Str.Parse.{digit_from_value}
use Rattle.script_lang.proofs.Parted.{lacks}

-- a byte that is no digit
abbrev pub IsNoDigit : ℕ → Type 0
IsNoDigit c = (b : ℕ) → 48 ≤ b → b ≤ 57 → not (eqb b c) ≡ true

digits-lack : (c : ℕ) (ds : List ℕ) → IsNoDigit c → AllDigits 10 ds → lacks c ds ≡ true
digits-lack c [] h d = refl
digits-lack c (b ∷ ds) h d =
    let r = digit_from_value b d.0 in
    rw (h b r.0 r.1, digits-lack c ds h d.1) refl

-- the text of a number lacks every other byte
pub decimal-lacks : (c n : ℕ) → IsNoDigit c → n < 10 ^ 64 → lacks c (decimal n) ≡ true
decimal-lacks c n h small = digits-lack c (decimal n) h (decimal_is_IsNumeral_wide n small).0.1

pub decimal-value : (n : ℕ) → n < 10 ^ 64 → digits_value 10 (decimal n) ≡ n
decimal-value n small = (decimal_is_IsNumeral_wide n small).1
