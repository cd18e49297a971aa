-- Lemmas on the words of a line.
use Rattle.std.proofs.Common.{◌≡◌, ℕ, ◌+◌, ◌-◌, ◌<◌, ◌≤◌, Bool, true, false, not, List, [], ◌∷◌, length, take, drop, get_or, refl, sym, ap, subst, ◌∙◌, arith, length-drop, get_or-drop, zero, suc, inl, inr, ◌⊎◌, add-one, drop-cons}
use Rattle.std.proofs.Math.Nat.{eq-or-lt_of_le}
use Rattle.std.proofs.Math.Seq.{take-length, drop-length}
use Rattle.std.specs.List.{slice_split, position_or_len, filter, before_first, after_first}
use Rattle.std.proofs.lemmas.List.Splits.{slice_split_first, slice_split-cons_yes}
use Rattle.std.proofs.lemmas.List.{drop-drop, take_all}
use Rattle.std.proofs.lemmas.List.Sums.{prefix_len-le-length, passes_at_first, position_or_len_is}
use Rattle.script_lang.proofs.Places.{place-no, place-yes, split_whole}
use Rattle.script_lang.specs.Words.{is_blank, has_byte, words_of, IsNotBlank}

-- a blank at the front of a line is in no word
words-blank : (b : ℕ) (line : List ℕ) → is_blank b ≡ true → words_of (b ∷ line) ≡ words_of line
words-blank b line h = ap (filter has_byte) (slice_split-cons_yes is_blank b line h)

-- the place of a line's first byte that isn't blank
abbrev pub start_of : List ℕ → ℕ
start_of line = position_or_len (λ b. not (is_blank b)) line

-- the blanks before that are in no word
pub words-start : (line : List ℕ) → words_of (drop (start_of line) line) ≡ words_of line
words-start [] = refl
words-start (b ∷ line) = by_test (is_blank b) refl (words-start line) where
  by_test : (t : Bool) → is_blank b ≡ t → words_of (drop (start_of line) line) ≡ words_of line → words_of (drop (start_of (b ∷ line)) (b ∷ line)) ≡ words_of (b ∷ line)
  by_test true h more = rw (place-no (λ x. not (is_blank x)) b line (ap not h)) (more ∙ sym (words-blank b line h))
  by_test false h more = rw (place-yes (λ x. not (is_blank x)) b line (ap not h)) refl

pub begins-start : (line : List ℕ) → IsNotBlank (drop (start_of line) line)
begins-start [] = tt
begins-start (b ∷ line) = by_test (is_blank b) refl (begins-start line) where
  by_test : (t : Bool) → is_blank b ≡ t → IsNotBlank (drop (start_of line) line) → IsNotBlank (drop (start_of (b ∷ line)) (b ∷ line))
  by_test true h more = rw (place-no (λ x. not (is_blank x)) b line (ap not h)) more
  by_test false h more = rw (place-yes (λ x. not (is_blank x)) b line (ap not h)) h

has_byte-take : (n : ℕ) (xs : List ℕ) → 0 < n → 0 < length xs → has_byte (take n xs) ≡ true
has_byte-take zero xs h k = absurd (omega arith)
has_byte-take (suc n) [] h k = absurd (omega arith)
has_byte-take (suc n) (x ∷ xs) h k = refl

has_byte-some : (xs : List ℕ) → 0 < length xs → has_byte xs ≡ true
has_byte-some [] h = absurd (omega arith)
has_byte-some (x ∷ xs) h = refl

-- a word in front of other parts of a line
words-part : (word : List ℕ) (parts : List (List ℕ)) → has_byte word ≡ true → filter has_byte (word ∷ parts) ≡ word ∷ filter has_byte parts
words-part word parts h = rw h refl

-- the place of a line's first blank, and what stands from there on
abbrev pub end_of : List ℕ → ℕ
end_of line = position_or_len is_blank line

abbrev pub behind_word : List ℕ → List ℕ
behind_word line = drop (end_of line) line

starts : (line : List ℕ) → 0 < length line → IsNotBlank line → 0 < end_of line
starts [] h k = h
starts (b ∷ line) h k = omega (arith, place-no is_blank b line k)

-- where a line begins with no blank, its first word ends at its first blank
pub words-first : (line : List ℕ) → 0 < length line → IsNotBlank line → words_of line ≡ before_first is_blank line ∷ words_of (behind_word line)
words-first line long begins = by_place (eq-or-lt_of_le (prefix_len-le-length (λ x. not (is_blank x)) line)) where
  is_word : has_byte (before_first is_blank line) ≡ true
  is_word = has_byte-take (end_of line) line (starts line long begins) long

  by_place : (end_of line ≡ length line) ⊎ (end_of line < length line) → words_of line ≡ before_first is_blank line ∷ words_of (behind_word line)
  by_place (inl whole) =
      let front : before_first is_blank line ≡ line = ap (λ k. take k line) whole ∙ take-length line in
      let rest : behind_word line ≡ [] = ap (λ k. drop k line) whole ∙ drop-length line in
      let only = words-part line [] (subst (λ w. has_byte w ≡ true) front is_word) in
      ap (filter has_byte) (split_whole is_blank line whole) ∙ only
      ∙ sym (ap (λ w. w ∷ words_of (behind_word line)) front ∙ ap (λ r. line ∷ words_of r) rest)
  by_place (inr cut) =
      let blank = words-blank (get_or line (end_of line) 0) (after_first is_blank line) (passes_at_first is_blank line 0 cut) in
      let rest : behind_word line ≡ get_or line (end_of line) 0 ∷ after_first is_blank line = rw add-one (drop-cons line (end_of line) 0 cut) in
      let parts = words-part (before_first is_blank line) (slice_split is_blank (after_first is_blank line)) is_word in
      ap (filter has_byte) (slice_split_first is_blank line 0 cut) ∙ parts
      ∙ sym (ap (λ r. before_first is_blank line ∷ r) (ap words_of rest ∙ blank))

-- ---- words that end at a place

-- no byte from one place up to another is blank
abbrev pub AreLetters : List ℕ → ℕ → ℕ → Type 0
AreLetters line start at = (k : ℕ) → start ≤ k → k < at → is_blank (get_or line k 0) ≡ false

-- the first blank from a place on
end_at : (line : List ℕ) (start at : ℕ) → start ≤ at → at ≤ length line → AreLetters line start at → (at < length line → is_blank (get_or line at 0) ≡ true) → end_of (drop start line) ≡ at - start
end_at line start at ordered within letters stops =
    position_or_len_is is_blank (drop start line) (at - start) 0 (simp length-drop (omega arith))
    (λ k below. rw get_or-drop (letters (start + k) (omega arith) (omega arith)))
    (λ below. rw get_or-drop (subst (λ i. is_blank (get_or line i 0) ≡ true) (omega arith) (stops (omega (arith, simp length-drop at below)))))

-- a word ends at a blank
pub word_ends : (line : List ℕ) (start at : ℕ) → start < at → at < length line → AreLetters line start at → is_blank (get_or line at 0) ≡ true
    → words_of (drop start line) ≡ take (at - start) (drop start line) ∷ words_of (drop (at + 1) line)
word_ends line start at some within letters blank =
    let rest : List ℕ = drop start line in
    let place : end_of rest ≡ at - start = end_at line start at (omega arith) (omega arith) letters (λ _. blank) in
    let long : length rest ≡ length line - start = length-drop start line in
    let cut = slice_split_first is_blank rest 0 (omega arith) in
    let front : before_first is_blank rest ≡ take (at - start) rest = ap (λ k. take k rest) place in
    let behind : after_first is_blank rest ≡ drop (at + 1) line = ap (λ k. drop (k + 1) rest) place ∙ (drop-drop (at - start + 1) start line ∙ ap (λ k. drop k line) (omega arith)) in
    let is_word = has_byte-take (at - start) rest (omega arith) (omega arith) in
    ap (filter has_byte) (cut ∙ (λ i. front i ∷ slice_split is_blank (behind i))) ∙ words-part (take (at - start) rest) (slice_split is_blank (drop (at + 1) line)) is_word

-- where no word has begun, a blank is passed over
pub gap_ends : (line : List ℕ) (at : ℕ) → at < length line → is_blank (get_or line at 0) ≡ true → words_of (drop at line) ≡ words_of (drop (at + 1) line)
gap_ends line at within blank = rw (add-one, drop-cons line at 0 within) (words-blank (get_or line at 0) (drop (suc at) line) blank)

-- the last word ends with the line
pub last_word : (line : List ℕ) (start : ℕ) → start < length line → AreLetters line start (length line) → words_of (drop start line) ≡ take (length line - start) (drop start line) ∷ words_of []
last_word line start some letters =
    let rest : List ℕ = drop start line in
    let place : end_of rest ≡ length line - start = end_at line start (length line) (omega arith) (omega arith) letters (λ below. absurd (omega arith)) in
    let long : length rest ≡ length line - start = length-drop start line in
    let whole : take (length line - start) rest ≡ rest = take_all (length line - start) rest (omega arith) in
    ap (filter has_byte) (split_whole is_blank rest (place ∙ sym long)) ∙ (words-part rest [] (has_byte-some rest (omega arith)) ∙ ap (λ word. word ∷ words_of []) (sym whole))
