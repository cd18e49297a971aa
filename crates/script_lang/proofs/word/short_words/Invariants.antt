use Rattle.script_lang.proofs.Scan.{IsRead}
use Rattle.script_lang.proofs.word.short_words.Given as goal

abbrev pub invariant-loop-at : goal.invariant-loop-at
invariant-loop-at l = IsRead (λ word. word.now) l.line l.parts l.count l.start l.at
