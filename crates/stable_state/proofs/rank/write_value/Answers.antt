use Rattle.std.proofs.Common.{◌++◌, ◌+◌, take, drop, length, ap, ◌∙◌, arith}
use Rattle.std.specs.Prelude.{slice_index, min, ◌-◌}
use Rattle.stable_state.proofs.Ranks.{written_some, written_padded}
use Rattle.stable_state.proofs.rank.write_value.Goals as goal

pub returns-in-Some-clause-written : goal.returns-in-Some-clause-written
returns-in-Some-clause-written c = λ front is alike i l.
    let value = c.args.value.now in
    ap (λ text. slice_index text i) c.write_at.ensures
    ∙ written_padded c.args.text.now front value c.in-Some.padded.now c.args.place (24 - length value) c.in-Some.ensures.bytes (omega (arith, c.requires)) is alike i

pub returns-in-None-clause-written : goal.returns-in-None-clause-written
returns-in-None-clause-written c = λ front is alike i l.
    let old = c.args.text.now in
    let place = c.args.place in
    ap (λ text. slice_index text i) c.write_at-in-None.ensures
    ∙ (λ j. slice_index ((take place old ++ take (c.min-len.ensures j) c.as_slice-bytes.result.now) ++ drop (place + length (take (c.min-len.ensures j) c.as_slice-bytes.result.now)) old) i)
    ∙ (λ j. slice_index ((take place old ++ take (min (length (c.as_slice-bytes.ensures.bytes j)) 32) (c.as_slice-bytes.ensures.bytes j)) ++ drop (place + length (take (min (length (c.as_slice-bytes.ensures.bytes j)) 32) (c.as_slice-bytes.ensures.bytes j))) old) i)
    ∙ written_some old front c.args.value.now place (omega arith) c.requires is alike i l
