-- How far a line is read for its words.
use Rattle.std.proofs.Common.{◌≡◌, ℕ, ◌+◌, ◌-◌, ◌<◌, ◌≤◌, true, false, List, ◌∷◌, ◌++◌, length, map, set, take, drop, get_or, sym, subst, ◌∙◌, ap, arith, ◌⊎◌, inl, inr}
use Rattle.std.proofs.Math.Nat.{eq-or-lt_of_le}
use Rattle.std.proofs.Math.ListN.{length-set}
use Rattle.std.proofs.lemmas.Bool.Decides.{nat_tests}
use Rattle.script_lang.specs.Words.{is_blank, words_of}
use Rattle.script_lang.proofs.FirstWords.{one_more}
use Rattle.script_lang.proofs.WordLemmas.{AreLetters, gap_ends, word_ends}

-- a byte above a space is in a word
pub high_letter : (b : ℕ) → 32 < b → is_blank b ≡ false
high_letter b high = grind (arith, nat_tests)

-- Up to a place a line is read: the words that have ended stand in the first places, and the next begins, where one does, at
-- a start.
pub record IsRead {X : Type 0} (word_of : X → List ℕ) (line : List ℕ) (parts : List X) (count start at : ℕ) : Type 0 where
  pub few : count < 7
  pub room : length parts ≡ 7
  pub ordered : start ≤ at
  pub begun : AreLetters line start at
  pub words : map word_of (take count parts) ++ words_of (drop start line) ≡ words_of line

-- one letter more
letters_more : (line : List ℕ) (start at : ℕ) → AreLetters line start at → is_blank (get_or line at 0) ≡ false → AreLetters line start (at + 1)
letters_more line start at letters letter k above below = by_place (eq-or-lt_of_le (let le : k ≤ at = omega arith in le)) where
  by_place : (k ≡ at) ⊎ (k < at) → is_blank (get_or line k 0) ≡ false
  by_place (inl same) = subst (λ i. is_blank (get_or line i 0) ≡ false) (sym same) letter
  by_place (inr less) = letters k above less

-- a letter more
pub letter_read : {X : Type 0} {word_of : X → List ℕ} {line : List ℕ} {parts : List X} {count start at : ℕ} → is_blank (get_or line at 0) ≡ false
    → IsRead word_of line parts count start at → IsRead word_of line parts count start (at + 1)
letter_read {line = line} {start = start} {at = at} letter read = record {
  few = read.few;
  room = read.room;
  ordered = omega (arith, read.ordered);
  begun = letters_more line start at read.begun letter;
  words = read.words;
}

-- a blank more, where no word has begun
pub gap_read : {X : Type 0} {word_of : X → List ℕ} {line : List ℕ} {parts : List X} {count start at : ℕ} → at < length line → at ≤ start → is_blank (get_or line at 0) ≡ true
    → IsRead word_of line parts count start at → IsRead word_of line parts count (at + 1) (at + 1)
gap_read {word_of = word_of} {line = line} {parts = parts} {count = count} {start = start} {at = at} within none blank read =
    let same : start ≡ at = omega (arith, read.ordered) in
    record {
      few = read.few;
      room = read.room;
      ordered = omega arith;
      begun = λ k above below. absurd (omega arith);
      words = ap (λ rest. map word_of (take count parts) ++ rest) (sym (ap (λ k. words_of (drop k line)) same ∙ gap_ends line at within blank)) ∙ read.words;
    }

-- a blank more, at which a word ends
pub word_read : {X : Type 0} {word_of : X → List ℕ} {line : List ℕ} {parts : List X} {count start at : ℕ} (word : X) → at < length line → start < at → is_blank (get_or line at 0) ≡ true
    → word_of word ≡ take (at - start) (drop start line) → count + 1 < 7 → IsRead word_of line parts count start at → IsRead word_of line (set parts count word) (count + 1) (at + 1) (at + 1)
word_read {word_of = word_of} {line = line} {parts = parts} {count = count} {start = start} {at = at} word within some blank is few read =
    let next = word_ends line start at some within read.begun blank ∙ ap (λ w. w ∷ words_of (drop (at + 1) line)) (sym is) in
    record {
      few = few;
      room = length-set _ _ _ ∙ read.room;
      ordered = omega arith;
      begun = λ k above below. absurd (omega arith);
      words = one_more word_of parts count word (words_of (drop start line)) (words_of (drop (at + 1) line)) (words_of line) (omega (arith, read.few, read.room)) read.words next;
    }

-- equal values are read as far
pub same_read : {X : Type 0} {word_of : X → List ℕ} {line : List ℕ} {parts others : List X} {count number start place at : ℕ} → others ≡ parts → number ≡ count → place ≡ start
    → IsRead word_of line parts count start at → IsRead word_of line others number place at
same_read {X} {word_of} {line} {parts} {others} {count} {number} {start} {place} {at} same_parts same_count same_start read =
    subst (λ (xs : List X). IsRead word_of line xs number place at) (sym same_parts)
    (subst (λ n. IsRead word_of line parts n place at) (sym same_count)
    (subst (λ k. IsRead word_of line parts count k at) (sym same_start) read))
