use Rattle.script_lang.proofs.live.read_live_words.Goals as goal

pub returns-in-Some-clause-within : goal.returns-in-Some-clause-within
returns-in-Some-clause-within c = c.read_named.ensures.within c.args.n
