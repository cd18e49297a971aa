use Rattle.std.proofs.Common.{◌≡◌, ◌++◌, ◌≤◌, length, map, take}
use Rattle.script_lang.specs.Words.{words_of}
use Rattle.script_lang.proofs.word.long_words.Given as goal

abbrev pub invariant-loop-count : goal.invariant-loop-count
invariant-loop-count l = record {
  few : l.count ≤ 7;
  room : length l.parts ≡ 7;
  words : map (λ word. word.now) (take l.count l.parts) ++ words_of l.rest ≡ words_of l.line;
}

abbrev pub decreases-loop-count : goal.decreases-loop-count
decreases-loop-count l = length l.rest
