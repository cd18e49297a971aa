use Rattle.std.proofs.Common.{◌≡◌, ◌+◌, [], false, get_or, ap, arith, drop, refl, rules, sym, ◌∙◌}
use Rattle.std.proofs.Math.ListN.{length-set}
use Rattle.std.proofs.lemmas.List.{drop_all}
use Rattle.script_lang.specs.Words.{is_blank, words_of}
use Rattle.script_lang.proofs.FirstWords.{all_found, one_more, seven_found}
use Rattle.script_lang.proofs.Scan.{gap_read, high_letter, letter_read, same_read, word_read}
use Rattle.script_lang.proofs.WordLemmas.{last_word, word_ends}
use Rattle.script_lang.proofs.word.short_words.Goals as goal
use Rattle.script_lang.proofs.word.short_words.Goals.{then-b-le32+then-is_blank, then-start-at+else-count-eq-MOST_WORDS, else-start-at, else-b-le32, else-b-le32-via-then-b-le32+else-is_blank, else-b-le32-via-else-b-le32}

pub loop-at-preserved : goal.loop-at-preserved
loop-at-preserved c =
    elim c.if-b-le32.branch [
      | then-b-le32+then-is_blank w ↦
          let blank = sym w.is_blank.ensures ∙ w.if-is_blank.true in
          elim w.if-start-at.branch [
            | then-start-at+else-count-eq-MOST_WORDS w' ↦
                same_read (w.parts-is ∙ w'.parts-is) (w.count-is ∙ w'.count-is) w.start-is (word_read _ c.loop-at-test.true (omega arith) blank refl (omega arith) c.loop-at.invariant)
            | else-start-at w' ↦ same_read (w.parts-is ∙ w'.parts-is) (w.count-is ∙ w'.count-is) w.start-is (gap_read c.loop-at-test.true (omega arith) blank c.loop-at.invariant)
          ]
      | else-b-le32 w ↦
          let letter : is_blank (get_or c.args.line.now c.loop-at.at 0) ≡ false = elim w.else-b-le32.branch [
            | else-b-le32-via-then-b-le32+else-is_blank w' ↦ sym w'.is_blank.ensures ∙ w'.if-is_blank.false
            | else-b-le32-via-else-b-le32 w' ↦ high_letter _ w'.if-b-le32.false
          ] in
          same_read w.parts-is w.count-is w.start-is (letter_read letter c.loop-at.invariant)
    ]

pub returns-then-count-eq-MOST_WORDS-clause-words : goal.returns-then-count-eq-MOST_WORDS-clause-words
returns-then-count-eq-MOST_WORDS-clause-words c =
    let next = word_ends c.args.line.now c.loop-at.start c.loop-at.at (omega arith) (omega arith) c.loop-at.invariant.begun (search rules) in
    seven_found (λ word. word.now) _ (c.loop-at.count + 1) (words_of (drop (c.loop-at.at + 1) c.args.line.now)) (words_of c.args.line.now) (grind (arith, length-set)) (omega arith)
    (one_more (λ word. word.now) c.loop-at.parts c.loop-at.count _ (words_of (drop c.loop-at.start c.args.line.now)) (words_of (drop (c.loop-at.at + 1) c.args.line.now)) (words_of c.args.line.now) (omega arith) c.loop-at.invariant.words next)

pub returns-then-start-line-clause-words : goal.returns-then-start-line-clause-words
returns-then-start-line-clause-words c =
    all_found (λ word. word.now) c.loop-at.parts c.loop-at.count (words_of (drop c.loop-at.start c.args.line.now)) (words_of c.args.line.now) (omega arith) (omega arith)
    (ap words_of (drop_all c.loop-at.start c.args.line.now (omega arith))) c.loop-at.invariant.words

pub returns-clause-words : goal.returns-clause-words
returns-clause-words c =
    let next = last_word c.args.line.now c.loop-at.start (omega arith) (λ k above below. c.loop-at.invariant.begun k above (omega arith)) in
    all_found (λ word. word.now) _ (c.loop-at.count + 1) (words_of []) (words_of c.args.line.now) (grind (arith, length-set)) (omega arith) refl
    (one_more (λ word. word.now) c.loop-at.parts c.loop-at.count _ (words_of (drop c.loop-at.start c.args.line.now)) (words_of []) (words_of c.args.line.now) (omega arith) c.loop-at.invariant.words next)
