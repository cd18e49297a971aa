use Rattle.std.proofs.Common.{arith, rules}
use Rattle.std.proofs.Math.ListN.{length-set}
use Rattle.script_lang.specs.Words.{words_of}
use Rattle.script_lang.proofs.FirstWords.{all_found, one_more}
use Rattle.script_lang.proofs.word.long_words.Goals as goal

pub loop-count-preserved : goal.loop-count-preserved
loop-count-preserved c = record {
  few = omega arith;
  room = grind (arith, length-set);
  words = one_more (λ word. word.now) c.loop-count.parts c.loop-count.count c.in-Some.word (words_of c.loop-count.rest.now) (words_of c.in-Some.after.now) (words_of c.args.line.now) (omega arith) c.loop-count.invariant.words c.in-Some.ensures.words;
}

pub returns-in-loop-count-clause-words : goal.returns-in-loop-count-clause-words
returns-in-loop-count-clause-words c =
    all_found (λ word. word.now) c.loop-count.parts c.loop-count.count (words_of c.loop-count.rest.now) (words_of c.args.line.now) (omega arith) (omega arith) (search rules) c.loop-count.invariant.words
